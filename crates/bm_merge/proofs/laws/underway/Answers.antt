use Rattle.bm_merge.proofs.laws.underway.Goals as goal
use Rattle.bm_merge.proofs.Underway.{underway_bounded}

pub returns : goal.returns
returns g c = λ logs controller carriers are is.
    underway_bounded _ c.args.h.now logs controller carriers c.args.place are c.requires.faults.delay is

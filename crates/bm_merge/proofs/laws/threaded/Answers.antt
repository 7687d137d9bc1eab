use Rattle.bm_merge.proofs.laws.threaded.Goals as goal
use Rattle.bm_merge.proofs.Keeping.{workers_law}

pub returns : goal.returns
returns g c = λ logs controller carriers promises is.
    workers_law _ _ c.args.h.now logs controller carriers promises is

use Rattle.bm_core.proofs.Lawful.{safety_law}
use Rattle.bm_lifetime.proofs.laws.guaranteed.Goals as goal
use Rattle.bm_lifetime.proofs.Guaranteed.{guaranteed_law}

pub returns : goal.returns
returns c =
    let unbroken = guaranteed_law c.args.h.now c.args.place c.requires.replay c.requires.young
    in record {
      unbroken = unbroken;
      served = safety_law c.args.h.now c.args.place c.requires.replay.run unbroken;
    }

use Rattle.std.proofs.Common.{◌≡◌, rules, sym, subst}
use Rattle.bm_core.specs.Stages.{IsSound}
use Rattle.bm_connections.specs.Base.{base_of}
use Rattle.bm_connections.proofs.Bases.{base_sound}
use Rattle.bm_connections.proofs.base.part.Goals as goal

pub returns-clause-sound : goal.returns-clause-sound
returns-clause-sound c =
    let is : c.join-base.result ≡ base_of c.args.stage = search rules in
    subst IsSound (sym is) (base_sound c.args.stage c.requires)

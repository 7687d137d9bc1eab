use Rattle.std.proofs.Common.{refl, reverse}
use Rattle.bm_connections.proofs.Tabled.{unsteered}
use Rattle.bm_connections.proofs.seen.Seen.see.Goals as goal

pub returns-in_ok-see_none-in-Unsteered : goal.returns-in_ok-see_none-in-Unsteered
returns-in_ok-see_none-in-Unsteered c =
    unsteered (reverse c.args.before.now) c.args.next.now c.in-Unsteered.field-0 c.args.self.now _ (cc) refl
    c.in_ok-see_none-in-Unsteered.ensures.places c.in_ok-see_none-in-Unsteered.ensures.risky
    c.see_none.ensures.connections c.requires.seen

use Rattle.std.proofs.Common.{rules}
use Rattle.bm_turnstile.proofs.Steps.{draws}
use Rattle.bm_turnstile.proofs.tickets.Tickets.draw.Goals as goal

pub fetch_add-requires : goal.fetch_add-requires
fetch_add-requires g c =
    let r = c.requires in
    (search rules, search rules, draws _ _ _ _ _ _ _ _ _ r.idle.live r.alone r.idle.stage r.few)

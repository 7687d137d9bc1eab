use Rattle.std.proofs.Common.{rules}
use Rattle.bm_turnstile.proofs.Changes.{joins}
use Rattle.bm_turnstile.proofs.tickets.Tickets.join.Goals as goal

pub join_seat-requires : goal.join_seat-requires
join_seat-requires g c =
    let r = c.requires in
    (r.own, r.other.0, r.other.1, search rules, joins _ _ _ _ _ _ _ _ _ r.idle r.first r.other_idle)

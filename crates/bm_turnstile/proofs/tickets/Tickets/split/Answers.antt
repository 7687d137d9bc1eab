use Rattle.std.proofs.Common.{rules}
use Rattle.bm_turnstile.proofs.Changes.{splits}
use Rattle.bm_turnstile.proofs.tickets.Tickets.split.Goals as goal

pub split_seat-requires : goal.split_seat-requires
split_seat-requires g c =
    let r = c.requires in
    (search rules, search rules, splits _ _ _ _ _ _ _ r.idle.live r.first r.few r.alone)

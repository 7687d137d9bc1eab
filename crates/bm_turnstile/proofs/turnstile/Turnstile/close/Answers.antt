use Rattle.std.proofs.Common.{◌≡◌, ℕ, slice_get, Some, length, sym, ap, ◌∙◌}
use Rattle.bm_turnstile.specs.Sittings.{Sitting}
use Rattle.bm_turnstile.specs.Seen.{Covers}
use Rattle.bm_turnstile.specs.Replies.{replies}
use Rattle.bm_turnstile.proofs.Entries.{own_covered}
use Rattle.bm_turnstile.proofs.Places.{all_posts, given_first, covers_at, fixed_at}
use Rattle.bm_turnstile.proofs.ReplyLemmas.{replies_covered}
use Rattle.bm_turnstile.proofs.turnstile.Turnstile.close.Goals as goal

pub closed-requires-clause-own : goal.closed-requires-clause-own
closed-requires-clause-own g c =
    (all_posts c.args.self (length c.args.seats.items) c.args.seats.items c.requires.each).0

pub closed-requires-clause-all : goal.closed-requires-clause-all
closed-requires-clause-all g c =
    (all_posts c.args.self (length c.args.seats.items) c.args.seats.items c.requires.each).1

pub closed-requires-clause-given : goal.closed-requires-clause-given
closed-requires-clause-given g c =
    given_first c.args.self (length c.args.seats.items) c.args.seats.items c.requires.some c.requires.each

seen : (g : _) (c : goal.After-closed g) → (k : ℕ) (s : Sitting g.row.T-Fixed.Denot g.row.T-Entry.Denot)
    → slice_get c.args.seats.items k ≡ Some s
    → Covers g.T.Booked.seat_of k s.seen (g.T.Booked.entries c.closed.result)
seen g c k s at =
    let from = (all_posts c.args.self (length c.args.seats.items) c.args.seats.items c.requires.each).1 in
    let log = g.T.Booked.entries c.closed.result in
    covers_at g.T.Booked.seat_of log c.args.seats.items from c.closed.ensures.cover k s at

pub returns-clause-seen : goal.returns-clause-seen
returns-clause-seen g c = seen g c

pub returns-clause-own : goal.returns-clause-own
returns-clause-own g c = λ k s at.
    let b = g.T.Booked in
    own_covered b.seat_of k s.seen (b.entries c.closed.result) (seen g c k s at)

pub returns-clause-replies : goal.returns-clause-replies
returns-clause-replies g c = λ k s at.
    let b = g.T.Booked in
    let number : s.number ≡ k = (c.requires.each k s at).«as» in
    replies_covered b.seat_of b.call_of b.reply s.fixed k s.seen (b.entries c.closed.result) (seen g c k s at)
    ∙ ap (λ (n : ℕ). replies b.seat_of b.call_of b.reply s.fixed n s.seen) (sym number)

pub returns-clause-fixed : goal.returns-clause-fixed
returns-clause-fixed g c = λ s at.
    fixed_at (g.T.Booked.fixed c.closed.result) c.args.seats.items c.closed.ensures.fixed s at

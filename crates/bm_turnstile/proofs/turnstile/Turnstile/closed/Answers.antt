use Rattle.std.proofs.Common.{◌≡◌, ℕ, List, ◌++◌, append-nil, map, sym, ap, ◌∙◌, subst}
use Rattle.bm_rows.proofs.Places.{first_removed}
use Rattle.bm_turnstile.specs.Sittings.{Sitting}
use Rattle.bm_turnstile.specs.declared.view.Old.{Old}
use Rattle.bm_turnstile.specs.Seen.{Covers}
use Rattle.bm_turnstile.specs.Inside.Rule.{NumberedFrom, OldsCover}
use Rattle.bm_turnstile.specs.Views.{SeatsFrom, SeatsCover, old_of}
use Rattle.bm_turnstile.proofs.Seats.{numbered, covered}
use Rattle.bm_turnstile.proofs.turnstile.Turnstile.closed.Goals as goal

pub close-requires-clause-numbered : goal.close-requires-clause-numbered
close-requires-clause-numbered g c =
    let S : Type 0 = Sitting g.row.T-Fixed.Denot g.row.T-Entry.Denot in
    let Olds : Type 0 = List (Old g.row.T-Entry.Denot) in
    let xs : List S = c.remove-first.new.self.items in
    let split = first_removed c.args.seats.items xs c.remove-first.result c.requires.some c.remove-first.ensures.value
    c.remove-first.ensures.items in
    let from = subst (SeatsFrom 0) split c.requires.all in
    let olds : c.join_all.new.first.me.0.olds ≡ map old_of xs =
    ap (λ m. m.0.olds) c.join_all.ensures.view
    ∙ (ap (λ (os : Olds). map old_of xs ++ os) c.first.invariant.alone ∙ append-nil (map old_of xs)) in
    subst (NumberedFrom 1) (sym olds) (numbered 1 xs from.1)

pub returns-clause-cover : goal.returns-clause-cover
returns-clause-cover g c =
    let S : Type 0 = Sitting g.row.T-Fixed.Denot g.row.T-Entry.Denot in
    let E : Type 0 = g.row.T-Entry.Denot in
    let b = g.T.Booked in
    let x : S = c.remove-first.result in
    let xs : List S = c.remove-first.new.self.items in
    let split = first_removed c.args.seats.items xs x c.requires.some c.remove-first.ensures.value
    c.remove-first.ensures.items in
    let from = subst (SeatsFrom 0) split c.requires.all in
    let log : List E = b.entries c.close.result in
    let olds : c.join_all.new.first.me.0.olds ≡ map old_of xs =
    ap (λ m. m.0.olds) c.join_all.ensures.view
    ∙ (ap (λ (os : List (Old E)). map old_of xs ++ os) c.first.invariant.alone ∙ append-nil (map old_of xs)) in
    let seen : c.join_all.new.first.me.0.seen ≡ x.seen =
    ap (λ m. m.0.seen) c.join_all.ensures.view ∙ ap (λ (s : S). s.seen) c.first.view_is in
    let first : Covers b.seat_of x.number x.seen log =
    subst (λ (n : ℕ). Covers b.seat_of n x.seen log) (sym from.0)
    (subst (λ (l : List E). Covers b.seat_of 0 l log) seen c.close.ensures.mine) in
    subst (SeatsCover b.seat_of log) (sym split)
    (first, covered b.seat_of log xs (subst (OldsCover b.seat_of log) olds c.close.ensures.olds))

use Rattle.std.proofs.Common.{◌≡◌, ◌<◌, ℕ, zero, suc, List, [], ◌∷◌, length, map, slice_get, slice_index_or, Some, ap, ◌∙◌}
use Rattle.std.proofs.Common.{subst, sym, arith}
use Rattle.std.proofs.lemmas.Option.{same_Some}
use Rattle.bm_turnstile.specs.Sittings.{who}
use Rattle.bm_server.specs.Seats.{Seated, IsNewSeat, row}
use Rattle.bm_server.specs.Servings.{Serving}
use Rattle.bm_tests.proofs.forged.ask.Goals as goal

first_at : (seats : List (List Seated)) (seat : List Seated) → 0 < length seats → seat ≡ slice_index_or seats 0 seat
    → slice_get seats 0 ≡ Some seat
first_at [] seat some first = absurd (omega arith)
first_at (x ∷ seats) seat some first = ap Some (sym first)

pub hand-answer-requires-clause-who : goal.hand-answer-requires-clause-who
hand-answer-requires-clause-who g c =
    let at = first_at c.in_ok-server.seats.items c.remove-seat.result (omega (arith, c.in_ok-server.ensures.count))
    c.remove-seat.ensures.value in
    (c.in_ok-server.ensures.each 0 c.remove-seat.result at).«is»

pub hand-answer-requires-clause-new : goal.hand-answer-requires-clause-new
hand-answer-requires-clause-new g c =
    let at = first_at c.in_ok-server.seats.items c.remove-seat.result (omega (arith, c.in_ok-server.ensures.count))
    c.remove-seat.ensures.value in
    (c.in_ok-server.ensures.each 0 c.remove-seat.result at).turns

only : (P : ℕ → List Seated → Type 0) (l : List (List Seated)) (seat : List Seated) → l ≡ seat ∷ [] → P 0 seat
    → (i : ℕ) (x : List Seated) → slice_get l i ≡ Some x → P i x
only P l seat e p i x at = subst (λ (l : List (List Seated)). slice_get l i ≡ Some x → P i x) (sym e) (one i) at where
  one : (i : ℕ) → slice_get (seat ∷ []) i ≡ Some x → P i x
  one zero at = subst (P 0) (same_Some seat x at) p
  one (suc i) at = absurd (cc)

pub finish-requires-clause-each : goal.finish-requires-clause-each
finish-requires-clause-each g c =
    let P : ℕ → List Seated → Type 0 = λ i seat. map who seat ≡ row c.in_ok-server.server i in
    only P c.in_ok-back.back.items c.hand-answer.new.seat c.in_ok-back.ensures c.hand-answer.ensures.who

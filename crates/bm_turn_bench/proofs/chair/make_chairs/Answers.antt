use Rattle.std.proofs.Common.{get_or, sym, ap, ◌∙◌}
use Rattle.std.proofs.lemmas.Option.{slice_get-get_or}
use Rattle.bm_turnstile.specs.Sittings.{Who}
use Rattle.bm_turn_bench.proofs.chair.make_chairs.Goals as goal

pub chairs_of-requires-clause-own : goal.chairs_of-requires-clause-own
chairs_of-requires-clause-own c = λ k d lt.
    let l = c.in_ok-turnstile.seats.items in
    let fresh = c.in_ok-turnstile.ensures.each k (get_or l k d) (slice_get-get_or l k d lt) in
    ap (λ (w : Who (Unit {0})). w.table) fresh.1 ∙ sym c.in_ok-shared.ensures.ok

pub chairs_of-requires-clause-new : goal.chairs_of-requires-clause-new
chairs_of-requires-clause-new c = λ k d lt.
    let l = c.in_ok-turnstile.seats.items in
    (c.in_ok-turnstile.ensures.each k (get_or l k d) (slice_get-get_or l k d lt)).0.turns

use Rattle.std.proofs.Common.{◌≡◌, Some, sym, ap, ◌∙◌, subst}
use mathlib.Core.Option.{some-injective}
use lib.ListN.{get_elem?}
use Rattle.bm_turnstile.specs.Inside.Rule.{Closes}
use Rattle.bm_turnstile.proofs.Steps.{some_or}
use Rattle.bm_turnstile.proofs.Changes.{closes}
use Rattle.bm_turnstile.proofs.tickets.Tickets.close.Goals as goal

pub unreachable-requires : goal.unreachable-requires
unreachable-requires g c =
    let b = g.T.Booked in
    let e = c.close_with-closed.ensures.values.2 in
    let r = c.requires in
    let place = c.args.first in
    let k = closes b.entries b.fixed b.replays b.seat_of _ e.0 place.id place.me.0 e.1.0 e.1.1 r.idle r.first r.numbered
    r.all in
    let there = e.4 0 (Some k.0) (ap (λ hs. get_elem? hs 0) k.1) in
    c.in_default.not-Some k.0 (sym (some-injective _ _ (sym there ∙ c.take-slot.ensures.value)))

pub returns : goal.returns
returns g c =
    let b = g.T.Booked in
    let e = c.close_with-closed.ensures.values.2 in
    let r = c.requires in
    let place = c.args.first in
    let k = closes b.entries b.fixed b.replays b.seat_of _ e.0 place.id place.me.0 e.1.0 e.1.1 r.idle r.first r.numbered
    r.all in
    let there = e.4 0 (Some k.0) (ap (λ hs. get_elem? hs 0) k.1) in
    let found : Some k.0 ≡ Some c.in-Some.state =
    some-injective _ _ (sym there ∙ c.take-slot.ensures.value) ∙ c.in-Some.is in
    let P : g.row.T.Denot → Type 0 = λ t. Closes b.entries b.fixed b.replays b.seat_of place.me.0 t in
    subst P (ap (some_or k.0) found) k.2

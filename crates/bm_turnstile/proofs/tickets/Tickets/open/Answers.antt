use Rattle.std.proofs.Common.{List, Option, [], ◌∷◌, rules, sym, subst}
use Rattle.atomic_table.specs.Table.{opening}
use Rattle.bm_turnstile.specs.Inside.Rule.{Kept}
use Rattle.bm_turnstile.specs.Views.{first_view}
use Rattle.bm_turnstile.proofs.Changes.{opens}
use Rattle.bm_turnstile.proofs.tickets.Tickets.open.Goals as goal

pub new-requires : goal.new-requires
new-requires g c =
    let b = g.T.Booked in
    let T : Type 0 = g.row.T.Denot in
    let state = c.args.state in
    let P : T → List (Option T) → Type 0 = λ t l.
    Kept b.entries b.fixed b.replays b.seat_of (b.fixed t) (opening (0 ∷ 0 ∷ []) l (first_view (b.fixed t))) in
    let opened = opens b.entries b.fixed b.replays b.seat_of (b.fixed state) state c.requires.empty (search rules)
    c.requires.replays in
    subst (λ (t : T). P t c.in_ok-slots.slots.items) (sym c.of-about.ensures)
    (subst (P state) (sym c.in_ok-slots.ensures) opened)

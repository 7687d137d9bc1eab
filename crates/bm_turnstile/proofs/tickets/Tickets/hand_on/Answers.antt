use Rattle.std.proofs.Common.{◌≡◌, Some, [], ◌∷◌, refl, sym, ap, ◌∙◌, subst, rules}
use Rattle.atomic_table.specs.Table.{rest}
use Rattle.bm_turnstile.specs.declared.view.View.{View}
use Rattle.bm_turnstile.specs.Inside.Rule.{Hands}
use Rattle.bm_turnstile.proofs.Steps.{advances_at}
use Rattle.bm_turnstile.proofs.tickets.Tickets.hand_on.Goals as goal

pub store-requires : goal.store-requires
store-requires g c =
    let b = g.T.Booked in
    let e = c.exchange.ensures.3 in
    let me = c.exchange.new.seat.me in
    let same : me.0 ≡ c.args.seat.now.me.0 = ap (λ m. m.0) e in
    let slot : me.1 ≡ (0, Some c.args.state) ∷ [] =
    ap (λ m. m.1) e ∙ ap (λ l. (0, Some c.args.state) ∷ rest l) c.requires.slot in
    let P : View g.row.T-Fixed.Denot g.row.T-Entry.Denot → Type 0 = λ v.
    Hands b.entries b.fixed b.replays b.seat_of v c.args.ticket c.args.state in
    let h : P me.0 = subst P (sym same) c.requires.hands in (
      search rules,
      search rules,
      advances_at _ _ _ _ _ _ _ _ me c.args.ticket h.note c.args.state refl slot h.stage h.about h.grows h.replay,
    )

use Rattle.std.proofs.Common.{◌≡◌, ℕ, Some, sym, ap, ◌∙◌, subst, rules}
use Rattle.bm_turnstile.specs.declared.view.View.{View}
use Rattle.bm_turnstile.specs.declared.view.Stage.TheVariants.{Served}
use Rattle.bm_turnstile.specs.Inside.Rule.{Finds, Grows}
use Rattle.bm_turnstile.proofs.Steps.{rest_is, grown, hands, slot_or, some_or}
use Rattle.bm_turnstile.proofs.tickets.Tickets.turn.Goals as goal

pub exchange-requires : goal.exchange-requires
exchange-requires g c =
    let w = c.wait.ensures.served in
    (search rules, (Some w.0, rest_is _ _ _ (ap (λ m. m.1) w.2)))

pub hand_on-requires-clause-hands : goal.hand_on-requires-clause-hands
hand_on-requires-clause-hands g c =
    let b = g.T.Booked in
    let T : Type 0 = g.row.T.Denot in
    let v : View g.row.T-Fixed.Denot g.row.T-Entry.Denot = c.draw-ticket.new.seat.me.0 in
    let w = c.wait.ensures.served in
    let ticket = c.draw-ticket.result in
    let old : T = c.in-Some.state in
    let new : T = c.apply-answer.new.self in
    let answer = c.apply-answer.ensures in
    let same : w.0 ≡ old =
    sym (ap (λ m. slot_or w.0 m.1) w.2) ∙ (ap (slot_or w.0) c.exchange.ensures.2 ∙ ap (some_or w.0) c.in-Some.is) in
    let number : v.number ≡ c.args.number =
    ap (λ m. m.0.number) c.draw-ticket.ensures.view ∙ c.requires.rests.numbered in
    let view : c.exchange.new.seat.me.0 ≡ record v { stage = Served ticket (b.entries old) } =
    ap (λ m. m.0) c.exchange.ensures.3
    ∙ (ap (λ m. m.0) w.2 ∙ ap (λ (x : T). record v { stage = Served ticket (b.entries x) }) same) in
    let finds = subst (λ (x : T). Finds b.entries b.fixed b.replays b.seat_of v ticket x) same w.1 in
    let grows = grown b.entries b.seat_of b.call_of old new c.args.number c.args.call c.apply-answer.result answer.entry
    answer.memory in
    hands b.entries b.fixed b.replays b.seat_of v c.exchange.new.seat.me.0 old new ticket view finds answer.fixed
    (subst (λ (n : ℕ). Grows b.seat_of n (b.entries old) (b.entries new)) (sym number) grows) answer.kept

use Rattle.std.proofs.Common.{◌≡◌, ◌-◌, suc, subst, ap, refl, ◌∙◌, arith}
use Rattle.std.specs.Prelude.{if◌then◌else◌}
use Rattle.bm_base.specs.declared.ids.Moment.{Moment}
use Rattle.bm_state.specs.declared.losses.LossTally.{LossTally}
use Rattle.bm_state.specs.declared.losses.SentAt.{SentAt}
use Rattle.bm_state.specs.Losses.{losses_in}
use Rattle.bm_state.specs.Inside.Losses.{same_sent}
use Rattle.bm_state.proofs.Losing.{lost_at_once, lost_more, one_lost}
use Rattle.bm_state.proofs.losses.Losses.observe_loss.Goals as goal

pub returns-in_ok-put : goal.returns-in_ok-put
returns-in_ok-put c sent lost e few is clock keeps =
    let of = c.of-sent.ensures
    in let at = c.args.clock.0 - 1
    in let tally = c.get-tally.ensures ∙ ap (λ (x : SentAt). losses_in c.args.self.now x) of
    in let after : e.clock.0 ≡ suc at =
    (let some = c.if-clock-gt0.true in let same = ap (λ (m : Moment). m.0) clock in omega (arith, some, same))
    in lost_more sent lost e c.args.self.now c.put.new.self c.args.packet c.args.hop at c.with_loss.result few is after
    (λ small. c.with_loss.ensures (let same = ap (λ (t : LossTally). t.losses) tally in omega (arith, small, same))
    ∙ ap one_lost tally)
    (subst (λ (x : SentAt). (q : SentAt) → losses_in c.put.new.self q
    ≡ (if same_sent x q then c.with_loss.result else losses_in c.args.self.now q)) of c.in_ok-put.ensures.tallies)
    (λ low. c.put.ensures.count ∙ c.one_more-self.ensures low) c.put.ensures.direct keeps

pub returns-else-clock-gt0 : goal.returns-else-clock-gt0
returns-else-clock-gt0 c sent lost e few is clock keeps =
    let first : e.clock.0 ≡ 0 =
    (let none = c.if-clock-gt0.false in let same = ap (λ (m : Moment). m.0) clock in omega (arith, none, same))
    in lost_at_once sent lost e c.args.self.now _ c.args.packet c.args.hop few is first c.one_more-self.ensures
    refl refl keeps

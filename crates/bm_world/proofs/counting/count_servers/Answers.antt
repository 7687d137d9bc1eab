use Rattle.std.proofs.Common.{◌≡◌, ℕ, zero, suc, ◌+◌, ◌-◌, ◌≤◌, Bool, true, false, cond, refl, sym, ap, ◌∙◌, arith}
use Rattle.std.proofs.Common.{length}
use Rattle.bm_table.specs.Planned.{Planned}
use Rattle.bm_table.specs.Tables.{is_known}
use Rattle.bm_world.specs.Seats.{known_once, known_up_to}
use Rattle.bm_world.proofs.counting.count_servers.Goals as goal
use Rattle.bm_world.proofs.counting.count_servers.Goals.{then-is_known_at_last, else-is_known_at_last}

known_next : (plan : Planned) (n : ℕ) → 1 ≤ n → known_up_to plan n ≡ known_up_to plan (n - 1) + known_once plan n
unfolding known_up_to
known_next plan zero low = absurd (omega arith)
known_next plan (suc n) low =
    let same : suc n - 1 ≡ n = omega arith
    in ap (λ (k : ℕ). known_up_to plan k + known_once plan (suc n)) (sym same)

once_is : (b : Bool) (plan : Planned) (n : ℕ) → is_known plan (length plan.changes) (record { 0 = n }) ≡ b
    → known_once plan n ≡ cond b 1 0
once_is b plan n is = ap (λ (x : Bool). cond x 1 0) is

pub loop-number-init : goal.loop-number-init
unfolding known_up_to
loop-number-init c = record { known = refl; few = omega arith }

pub loop-number-preserved : goal.loop-number-preserved
loop-number-preserved c =
    let plan = c.args.script.now.plan
    in let i = c.loop-number.invariant
    in let n = c.loop-number.number
    in let few = i.few
    in let known = i.known
    in let same : n + 1 - 1 ≡ n = omega arith
    in let step = ap (λ (k : ℕ). known_up_to plan k) same ∙ known_next plan n (omega arith)
    in elim c.if-is_known_at_last.branch [
      | then-is_known_at_last w ↦
          let once = once_is true plan n (sym c.is_known_at_last.ensures ∙ w.if-is_known_at_last.true)
          in let more = w.known-is
          in record { known = omega arith; few = omega arith }
      | else-is_known_at_last w ↦
          let once = once_is false plan n (sym c.is_known_at_last.ensures ∙ w.if-is_known_at_last.false)
          in let more = w.known-is
          in record { known = omega arith; few = omega arith }
    ]

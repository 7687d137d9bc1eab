-- The phase of each packet, by the places of the syncs and of the records.
use Rattle.std.proofs.Common.{◌≡◌, ℕ, zero, suc, ◌+◌, ◌*◌, ◌^◌, ◌<◌, ◌≤◌, false, List, [], ◌∷◌, length, map}
use Rattle.std.proofs.Common.{Option, Some, refl, sym, ap, ◌∙◌, subst, arith, inl, inr}
use Rattle.std.specs.Prelude.{slice_get}
use Rattle.std.proofs.lemmas.Bool.{cases_lt}
use Rattle.std.proofs.lemmas.Option.{same_Some}
use Rattle.bm_rows.proofs.Places.{there}
use Rattle.bm_base.specs.Captures.{AreRising}
use Rattle.bm_base.specs.declared.capture.Record.{Record}
use Rattle.bm_base.specs.declared.ids.Moment.{Moment}
use Rattle.bm_table.specs.declared.script.Command.{Command}
use Rattle.bm_table.specs.declared.script.Command.TheVariants.{Change, Close, Retire, Sync}
use Rattle.bm_core.specs.declared.events.Stage.{Stage}
use Rattle.bm_core.specs.Accounts.{wants_sync}
use Rattle.bm_core.specs.Stages.{IsSound}
use Rattle.bm_core.specs.Threads.{moment_in, phase_of, record_moment}
use Rattle.bm_lead.specs.Leaders.{IsPhase, IsSyncCommand}
use Rattle.bm_world.specs.Inside.Running.{IsAtPhase}
use Rattle.bm_world.proofs.Scripting.{HaveNoSync, phase_before, phase_last, phase_next}

-- SYNCS

no_sync_command : (c : Command) → (IsSyncCommand (Some c) → ⊥) → wants_sync c ≡ false
no_sync_command (Change v) not = refl
no_sync_command (Close at server flow) not = refl
no_sync_command (Retire at server) not = refl
no_sync_command (Sync at) not = absurd (not tt)

pub have_no_sync : (commands : List Command) (next end : ℕ) → IsPhase commands next end
    → HaveNoSync commands next end
have_no_sync commands next end phase i c low high here =
    no_sync_command c (λ is. phase.no_sync i low high (subst (λ (o : Option Command). IsSyncCommand o) (sym here) is))

-- MOMENTS

record_is : (stage : Stage) (i : ℕ) (r : Record) → slice_get stage.capture.records i ≡ Some r
    → record_moment stage (suc i) ≡ r.moment.0
record_is stage i r here = ap moment_in here

rise_from : (low high i : ℕ) (records : List Record) (r : Record)
    → AreRising low high (map (λ (r : Record). r.moment.0) records) → slice_get records i ≡ Some r → low ≤ r.moment.0
rise_from low high i [] r rise here = absurd (cc)
rise_from low high zero (x ∷ records) r rise here =
    subst (λ (y : Record). low ≤ y.moment.0) (same_Some x r here) rise.0
rise_from low high (suc i) (x ∷ records) r rise here =
    let more = rise_from x.moment.0 high i records r rise.2 here in omega (arith, rise.0, more)

-- a later record has no earlier moment
rises : (low high i j : ℕ) (records : List Record) (r s : Record)
    → AreRising low high (map (λ (r : Record). r.moment.0) records) → i ≤ j → slice_get records i ≡ Some r
    → slice_get records j ≡ Some s → r.moment.0 ≤ s.moment.0
rises low high i j [] r s rise order a b = absurd (cc)
rises low high zero zero (x ∷ records) r s rise order a b =
    let same : r ≡ s = same_Some r s (sym a ∙ b) in
    subst (λ (y : Record). r.moment.0 ≤ y.moment.0) same (omega arith)
rises low high zero (suc j) (x ∷ records) r s rise order a b =
    subst (λ (y : Record). y.moment.0 ≤ s.moment.0) (same_Some x r a)
    (rise_from x.moment.0 high j records s rise.2 b)
rises low high (suc i) zero (x ∷ records) r s rise order a b = absurd (omega arith)
rises low high (suc i) (suc j) (x ∷ records) r s rise order a b =
    rises x.moment.0 high i j records r s rise.2 (omega arith) a b

-- THE END OF A PHASE

-- the records from the place `start` to below the end are earlier than this moment, and that at the end isn't
pub record IsEndOf (stage : Stage) (start end at : ℕ) : Type 0 where
  pub order : start ≤ end
  pub within : end ≤ length stage.capture.records
  pub earlier : (i : ℕ) (r : Record) → start ≤ i → i < end → slice_get stage.capture.records i ≡ Some r
      → r.moment.0 < at
  pub later : (r : Record) → slice_get stage.capture.records end ≡ Some r → at ≤ r.moment.0

pub before_end : (stage : Stage) (start end at : ℕ) → IsEndOf stage start end at
    → (k : ℕ) → start < k → k ≤ end → record_moment stage k < at
before_end stage start end at is zero low high = absurd (omega arith)
before_end stage start end at is (suc i) low high =
    let within = is.within
    in let r = there stage.capture.records i (omega arith)
    in let same = record_is stage i r.0 r.1
    in let less = is.earlier i r.0 (omega arith) (omega arith) r.1
    in omega arith

pub from_end : (stage : Stage) (start end at : ℕ) → IsSound stage → IsEndOf stage start end at
    → (k : ℕ) → end < k → k ≤ length stage.capture.records → at ≤ record_moment stage k
from_end stage start end at sound is zero low high = absurd (omega arith)
from_end stage start end at sound is (suc i) low high =
    let a = there stage.capture.records end (omega arith)
    in let b = there stage.capture.records i (omega arith)
    in let more = is.later a.0 a.1
    in let rise = rises 0 (44 * 10 ^ 17) end i stage.capture.records a.0 b.0 sound.capture.rise (omega arith) a.1 b.1
    in let same = record_is stage i b.0 b.1
    in omega arith

pub numbers_before : (stage : Stage) (next place p start end k : ℕ) (at : Moment) → IsSound stage
    → slice_get stage.script.commands place ≡ Some (Sync at) → IsEndOf stage start end at.0
    → IsPhase stage.script.commands next place → IsAtPhase stage next p start → start < k → k ≤ end
    → phase_of stage k ≡ p
numbers_before stage next place p start end k at sound here is phase at_phase low high =
    phase_before stage next place p start end at sound.script.commands_rise phase.order here
    (have_no_sync stage.script.commands next place phase) is.within (before_end stage start end at.0 is) at_phase k low
    high

pub numbers_last : (stage : Stage) (next place p start k : ℕ) → length stage.script.commands ≤ place
    → IsPhase stage.script.commands next place → IsAtPhase stage next p start → start < k
    → k ≤ length stage.capture.records → phase_of stage k ≡ p
numbers_last stage next place p start k last phase at_phase low high =
    let order = phase.order
    in let end = phase.end
    in let whole : place ≡ length stage.script.commands = omega arith
    in phase_last stage next p start (omega arith)
    (subst (λ (n : ℕ). HaveNoSync stage.script.commands next n) whole
    (have_no_sync stage.script.commands next place phase)) at_phase k low high

pub numbers_next : (stage : Stage) (next place p start end : ℕ) (at : Moment) → IsSound stage
    → slice_get stage.script.commands place ≡ Some (Sync at) → IsEndOf stage start end at.0
    → IsPhase stage.script.commands next place → IsAtPhase stage next p start
    → IsAtPhase stage (place + 1) (p + 1) end
numbers_next stage next place p start end at sound here is phase at_phase =
    let one : suc p ≡ p + 1 = omega arith
    in subst (λ (q : ℕ). IsAtPhase stage (place + 1) q end) one
    (phase_next stage next place p start end at phase.order here
    (have_no_sync stage.script.commands next place phase) is.order (from_end stage start end at.0 sound is) at_phase)

-- where a call says so of the records
pub end_of : (stage : Stage) (records : List Record) (start end at : ℕ) → records ≡ stage.capture.records
    → start ≤ end → end ≤ length records
    → ((i : ℕ) (r : Record) → start ≤ i → i < end → slice_get records i ≡ Some r → r.moment.0 < at)
    → ((r : Record) → slice_get records end ≡ Some r → at ≤ r.moment.0) → IsEndOf stage start end at
end_of stage records start end at same order within earlier later = record {
  order = order;
  within = subst (λ (l : List Record). end ≤ length l) same within;
  earlier = λ i r low high here. earlier i r low high (ap (λ (l : List Record). slice_get l i) same ∙ here);
  later = λ r here. later r (ap (λ (l : List Record). slice_get l end) same ∙ here);
}

-- no sync stands there, so that no command does
pub no_command : (commands : List Command) (place : ℕ)
    → (place < length commands → IsSyncCommand (slice_get commands place))
    → (IsSyncCommand (slice_get commands place) → ⊥) → length commands ≤ place
no_command commands place sync none = elim (cases_lt place (length commands)) [
  | inl low ↦ absurd (none (sync low))
  | inr high ↦ high
]

-- Each sound stage has a replay, which ends.
use Rattle.std.proofs.Common.{◌≡◌, ℕ, zero, suc, ◌+◌, ◌⊎◌, Bool, true, false, ◌&&◌, inl, inr, List, [], ◌∷◌, Option}
use Rattle.std.proofs.Common.{Some, None, length, refl, sym, subst, eqb, if◌then◌else◌, arith}
use Rattle.std.specs.Prelude.{IfSome, reverse}
use Rattle.std.proofs.lemmas.List.Elements.{recursion_from_All}
use Rattle.std.specs.List.{AllByRecursion}
use Rattle.bm_base.specs.declared.flow.Flow.{Flow}
use Rattle.bm_base.specs.declared.label.Hop.{Hop}
use Rattle.bm_base.specs.declared.fate.Fate.{Fate}
use Rattle.bm_table.specs.declared.setting.FaultRow.{FaultRow}
use Rattle.bm_table.specs.declared.setting.Setting.{Setting}
use Rattle.bm_table.specs.Settings.{IsFaultRow, IsSetting}
use Rattle.bm_core.specs.declared.events.Event.{Event}
use Rattle.bm_core.specs.declared.events.History.{History}
use Rattle.bm_core.specs.declared.events.Stage.{Stage}
use Rattle.bm_core.specs.Past.{same_hop, Sending, sending_of}
use Rattle.bm_core.specs.Stages.{IsSound}
use Rattle.bm_core.specs.Accounts.{Routes, fate_now, before, AreAnswered}
use Rattle.bm_core.specs.Rules.{setting_mux, fate_in, setting_fate, RouteBy, RuleBy}
use Rattle.bm_core.specs.Histories.{IsReplay}
use Rattle.bm_core.specs.Soon.{IsSoon, AreSoon}
use Rattle.bm_core.proofs.Ended.{played_replay}
use Rattle.bm_core.proofs.Playing.{next_event, play, play_told, fates_by, IsToldBy, mux_within}
use Rattle.bm_core.proofs.Weighing.{few_events}
use Rattle.bm_core.proofs.Pacing.{paced}
use Rattle.bm_core.specs.Runs.{last_clock}
use Rattle.bm_core.specs.Schedule.{Follows}
use Rattle.std.proofs.Common.{◌*◌, ◌^◌, ◌≤◌}

-- FATES

same_soon : (b : Bool) (f g : Fate) → IsSoon f → IsSoon g → IsSoon (if b then f else g)
same_soon true f g p q = p
same_soon false f g p q = q

fate_in_soon : (rows : List FaultRow) → AllByRecursion IsFaultRow rows → (k : ℕ) (hop : Hop)
    → IsSoon (fate_in rows k hop)
fate_in_soon [] all k hop = (omega arith, omega arith)
fate_in_soon (row ∷ rows) all k hop =
    same_soon (eqb row.packet k && same_hop row.hop hop) row.fate (fate_in rows k hop) (all.0.copies, all.0.delay)
    (fate_in_soon rows all.1 k hop)

-- the fates of a setting are few copies, soon
pub fate_of_soon : (s : Setting) → IsSetting s → (k : ℕ) (hop : Hop) → IsSoon (setting_fate s k hop)
fate_of_soon s is k hop = fate_in_soon s.faults (recursion_from_All IsFaultRow s.faults is.faults) k hop

sending_soon : (fate : ℕ → Hop → Fate) → ((k : ℕ) (hop : Hop) → IsSoon (fate k hop)) → (f : Fate) (o : Option Sending)
    → IfSome o (λ s. RuleBy fate s.packet s.hop f) → IfSome o (λ s. IsSoon f)
sending_soon fate soon f None is = tt
sending_soon fate soon f (Some s) is = subst IsSoon (sym is) (soon s.packet s.hop)

-- so are those that a rule answers
pub answered_soon : (R : Routes) (fate : ℕ → Hop → Fate) → ((k : ℕ) (hop : Hop) → IsSoon (fate k hop))
    → (stage : Stage) (fates : List Fate) (past : List Event) → AreAnswered R (RuleBy fate) stage fates past
    → AreSoon fates past
answered_soon R fate soon stage fates [] answered = tt
answered_soon R fate soon stage fates (e ∷ past) answered = (
  sending_soon fate soon (fate_now fates) (sending_of e.what) answered.0.1,
  answered_soon R fate soon stage
      (before fates) past answered.1,
)

-- THE END

play_longer : (mux : ℕ → Flow → ℕ) (fate : ℕ → Hop → Fate) (stage : Stage) (n : ℕ) (past : List Event)
    → ((e : Event) → (next_event mux fate stage (play mux fate stage n (e ∷ past)) ≡ None)
    ⊎ (length (play mux fate stage n (e ∷ past)) ≡ n + suc (length past)))
    → (o : Option Event) → next_event mux fate stage past ≡ o
    → (next_event mux fate stage (elim o [ None ↦ past | Some e ↦ play mux fate stage n (e ∷ past) ]) ≡ None)
    ⊎ (length {A = Event} (elim o [ None ↦ past | Some e ↦ play mux fate stage n (e ∷ past) ]) ≡ suc n + length past)
play_longer mux fate stage n past old None is = inl is
play_longer mux fate stage n past old (Some e) is =
    elim (old e) [ inl ended ↦ inl ended | inr long ↦ inr (omega arith) ]

-- n events come more, or nothing comes next
play_long : (mux : ℕ → Flow → ℕ) (fate : ℕ → Hop → Fate) (stage : Stage) (n : ℕ) (past : List Event)
    → (next_event mux fate stage (play mux fate stage n past) ≡ None)
    ⊎ (length (play mux fate stage n past) ≡ n + length past)
unfolding play
play_long mux fate stage zero past = inr (omega arith)
play_long mux fate stage (suc n) past =
    play_longer mux fate stage n past (λ e. play_long mux fate stage n (e ∷ past)) (next_event mux fate stage past) refl

-- a sound stage's replay comes to its end
pub play_ends : (stage : Stage) → IsSound stage
    → next_event (setting_mux stage.script.setting) (setting_fate stage.script.setting) stage
    (play (setting_mux stage.script.setting) (setting_fate stage.script.setting) stage 12259841 []) ≡ None
play_ends stage sound =
    elim (play_long (setting_mux stage.script.setting) (setting_fate stage.script.setting) stage 12259841 []) [
      | inl ended ↦ ended
      | inr long ↦ absurd
          (too_long _ long
          (play_told (setting_mux stage.script.setting) (setting_fate stage.script.setting) stage sound.script.plan
          (mux_within stage sound) 12259841 [] (record { run = tt; follows = tt; answered = tt })))
    ] where
      too_long : (past : List Event) → length past ≡ 12259841 + 0
          → IsToldBy (setting_mux stage.script.setting) (setting_fate stage.script.setting) stage past → ⊥
      too_long past long told =
          let soon =
          answered_soon (RouteBy (setting_mux stage.script.setting)) (setting_fate stage.script.setting)
          (fate_of_soon stage.script.setting sound.script.setting) stage
          (fates_by (setting_fate stage.script.setting) past) past told.answered
          in let few = few_events (fates_by (setting_fate stage.script.setting) past) stage past sound told.follows soon
          in absurd (omega arith)

-- each sound stage has a replay
pub exists_law : (stage : Stage) → IsSound stage → (h : History) × (h.stage ≡ stage)
    × IsReplay (RouteBy (setting_mux stage.script.setting)) (RuleBy (setting_fate stage.script.setting)) h
exists_law stage sound = (
  record {
    stage =
        stage;
    events =
        reverse (play (setting_mux stage.script.setting) (setting_fate stage.script.setting) stage 12259841 []);
  },
  refl,
  played_replay (setting_mux stage.script.setting) (setting_fate stage.script.setting) stage 12259841 sound
      (mux_within stage sound) (play_ends stage sound),
)

-- clocks stay small
pub clock_law : (fates : List Fate) (stage : Stage) (past : List Event) → IsSound stage → Follows fates stage past
    → AreSoon fates past → last_clock past ≤ 6 * 10 ^ 18
clock_law fates stage past sound follows soon =
    let slow = (paced fates stage past sound follows soon).clock
    in let few = few_events fates stage past sound follows soon
    in omega arith

pub length_law : (fates : List Fate) (stage : Stage) (past : List Event) → IsSound stage → Follows fates stage past
    → AreSoon fates past → length past ≤ 12259840
length_law fates stage past sound follows soon = let few = few_events fates stage past sound follows soon in omega arith

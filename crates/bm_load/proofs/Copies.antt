-- In a run of a load each packet is steered once and each copy comes once, and no event is a Lose,
-- a Close, a Retire or a Sync.
use Rattle.std.proofs.Common.{◌≡◌, ℕ, zero, suc, Bool, true, false, cond, ◌&&◌, List, [], ◌∷◌}
use Rattle.std.proofs.Common.{Option, Some, None, refl, ◌∙◌, arith, eqb}
use Rattle.std.specs.Prelude.{IfSome, slice_get}
use Rattle.std.proofs.lemmas.Bool.{eq-eqb}
use Rattle.bm_base.specs.declared.fate.Fate.{Fate}
use Rattle.bm_base.specs.declared.label.Hop.{Hop}
use Rattle.bm_base.proofs.Hops.{same_hop_refl}
use Rattle.bm_core.specs.Accounts.{AreAnswered, before, copyless_at, counts, fate_now, loses, lost_at}
use Rattle.bm_core.specs.Accounts.{sent_copies}
use Rattle.bm_core.specs.declared.events.Event.{Event}
use Rattle.bm_core.specs.declared.events.Stage.{Stage}
use Rattle.bm_core.specs.declared.events.What.{What}
use Rattle.bm_core.specs.declared.events.What.TheVariants.{Publish, Switch, Steer, Lose, Arrive, Close, Retire, Sync}
use Rattle.bm_core.specs.Past.{Sending, is_sending, sending_of, sends}
use Rattle.bm_core.specs.Rules.{RouteBy, RuleBy, setting_fate, setting_mux}
use Rattle.bm_core.specs.Runs.{AtEach, MayCome, Run}
use Rattle.bm_core.specs.Threads.{AreThreadSteps, IsOf, command_at, progress_at}
use Rattle.bm_load.proofs.Shape.{AreChanges, IsLoadLike, is_change, is_quiet, once}
use Rattle.bm_table.specs.declared.script.Command.{Command}
use Rattle.bm_table.specs.declared.script.Command.TheVariants.{Change as ChangeCommand, Close as CloseCommand}
use Rattle.bm_table.specs.declared.script.Command.TheVariants.{Retire as RetireCommand, Sync as SyncCommand}

-- FATES

-- one copy without delay
abbrev pub one_copy : Fate
one_copy = record { copies = 1; delay = 0 }

-- each sending has one copy without delay
abbrev pub AreSingle : List Fate → List Event → Type 0
AreSingle fates [] = Unit {0}
AreSingle fates (e ∷ past) =
    IfSome (sending_of e.what) (λ s. fate_now fates ≡ one_copy) × AreSingle (before fates) past

single_of : (stage : Stage) (n : ℕ) → IsLoadLike stage n → (f : Fate) (o : Option Sending)
    → IfSome o (λ s. RuleBy (setting_fate stage.script.setting) s.packet s.hop f) → IfSome o (λ s. f ≡ one_copy)
single_of stage n like f None is = tt
single_of stage n like f (Some s) is = is ∙ like.unit_fate s.packet s.hop

pub are_single : (stage : Stage) (n : ℕ) → IsLoadLike stage n → (fates : List Fate) (all : List Event)
    → AreAnswered (RouteBy (setting_mux stage.script.setting)) (RuleBy (setting_fate stage.script.setting)) stage fates
    all
    → AreSingle fates all
are_single stage n like fates [] answered = tt
are_single stage n like fates (e ∷ past) answered = (
  single_of stage n like (fate_now fates) (sending_of e.what) answered.0.1,
  are_single stage n like (before fates) past answered.1,
)

copies_one : (f : Fate) (o : Option Sending) (k : ℕ) (hop : Hop) → IfSome o (λ s. f ≡ one_copy)
    → cond (is_sending o k hop) f.copies 0 ≡ once (is_sending o k hop)
copies_one f None k hop single = refl
copies_one f (Some s) k hop single = rw single refl

-- as many copies were sent as there were sendings
pub sent_once : (fates : List Fate) (all : List Event) (k : ℕ) (hop : Hop) → AreSingle fates all
    → sent_copies fates all k hop ≡ counts all (λ what. sends what k hop)
sent_once fates [] k hop single = refl
sent_once fates (e ∷ past) k hop single =
    let old = sent_once (before fates) past k hop single.1
    in let here = copies_one (fate_now fates) (sending_of e.what) k hop single.0
    in omega arith

none_of : (f : Fate) (o : Option Sending) (k : ℕ) (hop : Hop) (at : Bool) → IfSome o (λ s. f ≡ one_copy)
    → once (is_sending o k hop && (eqb f.copies 0 && at)) ≡ 0
none_of f None k hop at single = refl
none_of f (Some s) k hop at single = rw single (go (is_sending (Some s) k hop)) where
  go : (b : Bool) → once (b && false) ≡ 0
  go true = refl
  go false = refl

-- no sending is without copies
pub copyless_none : (fates : List Fate) (all : List Event) (k : ℕ) (hop : Hop) (clock : ℕ) → AreSingle fates all
    → copyless_at fates all k hop clock ≡ 0
copyless_none fates [] k hop clock single = refl
copyless_none fates (e ∷ past) k hop clock single =
    let old = copyless_none (before fates) past k hop clock single.1
    in let here = none_of (fate_now fates) (sending_of e.what) k hop (eqb e.clock.0 clock) single.0
    in omega arith

-- QUIET

command_changes : (commands : List Command) (i : ℕ) → AreChanges commands
    → IfSome (slice_get commands i) (λ c. is_change c ≡ true)
command_changes [] i changes = tt
command_changes (c ∷ commands) zero changes = changes.0
command_changes (c ∷ commands) (suc i) changes = command_changes commands i changes.1

-- the event carries out a command other than a change
abbrev is_other : What → Bool
is_other (Close server flow closed) = true
is_other (Retire server h at result) = true
is_other Sync = true
is_other _ = false

-- where each command is a change, no event carries out another
not_other : (o : Option Command) (done : List ℕ) (what : What) → IfSome o (λ c. is_change c ≡ true)
    → IsOf o done what → is_other what ≡ false
not_other o done (Publish v) change is = refl
not_other o done (Switch m v) change is = refl
not_other o done (Steer k m) change is = refl
not_other o done (Lose k hop) change is = refl
not_other o done (Arrive k hop server verdict) change is = refl
not_other None done (Close server flow closed) change is = absurd is
not_other None done (Retire server h at result) change is = absurd is
not_other None done Sync change is = absurd is
not_other (Some (ChangeCommand v)) done (Close server flow closed) change is = absurd is
not_other (Some (ChangeCommand v)) done (Retire server h at result) change is = absurd is
not_other (Some (ChangeCommand v)) done Sync change is = absurd is
not_other (Some (CloseCommand at server flow)) done what change is = absurd (cc)
not_other (Some (RetireCommand at server)) done what change is = absurd (cc)
not_other (Some (SyncCommand at)) done what change is = absurd (cc)

-- no Lose of these is at a clock after 0
abbrev AreKept : List Event → Type 0
AreKept all = (k : ℕ) (hop : Hop) (clock : ℕ) → lost_at all k hop (suc clock) ≡ 0

quiet_step : (stage : Stage) (past : List Event) (e : Event) (what : What) → e.what ≡ what → AreKept (e ∷ past)
    → MayCome stage past e.clock.0 what → is_other what ≡ false → is_quiet what ≡ true
quiet_step stage past e (Publish v) is kept may other = refl
quiet_step stage past e (Switch m v) is kept may other = refl
quiet_step stage past e (Steer k m) is kept may other = refl
quiet_step stage past e (Lose k hop) is kept may other =
    let mine : loses e.what k hop ≡ true = rw (is, eq-eqb k k refl, same_hop_refl hop) refl
    in let next : e.clock.0 ≡ suc may.0 = (let a = may.1 in omega arith)
    in let at : eqb e.clock.0 (suc may.0) ≡ true = eq-eqb _ _ next
    in let here : once (loses e.what k hop && eqb e.clock.0 (suc may.0)) ≡ 1 = rw (mine, at) refl
    in let none = kept k hop may.0
    in absurd (omega arith)
quiet_step stage past e (Arrive k hop server verdict) is kept may other = refl
quiet_step stage past e (Close server flow closed) is kept may other = absurd (cc)
quiet_step stage past e (Retire server h at result) is kept may other = absurd (cc)
quiet_step stage past e Sync is kept may other = absurd (cc)

quiet_from : (stage : Stage) (n : ℕ) → IsLoadLike stage n → (fates : List Fate) (all : List Event) → Run stage all
    → AreThreadSteps fates stage all → AreKept all → AtEach (λ past e. is_quiet e.what ≡ true) all
quiet_from stage n like fates [] run steps kept = tt
quiet_from stage n like fates (e ∷ past) run steps kept = (
  quiet_step stage past e e.what refl kept run.0.may
      (not_other (command_at stage past) (progress_at stage past).shards e.what
      (command_changes stage.script.commands (progress_at stage past).commands like.commands) steps.0.command),
  quiet_from stage n like (before fates) past run.1 steps.1 (λ k hop clock. let h = kept k hop clock in omega arith),
)

-- where no sending is without copies, nothing is lost
pub are_quiet : (stage : Stage) (n : ℕ) → IsLoadLike stage n → (fates : List Fate) (all : List Event) → Run stage all
    → AreThreadSteps fates stage all → AreSingle fates all
    → ((k : ℕ) (hop : Hop) (clock : ℕ) → lost_at all k hop (suc clock) ≡ copyless_at fates all k hop clock)
    → AtEach (λ past e. is_quiet e.what ≡ true) all
are_quiet stage n like fates all run steps single lost =
    quiet_from stage n like fates all run steps
    (λ k hop clock. lost k hop clock ∙ copyless_none fates all k hop clock single)

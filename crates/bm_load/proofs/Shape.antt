-- What a load's runs go by, of its stage; and of such a run, what the counts of its events are.
use Rattle.std.proofs.Common.{◌≡◌, ℕ, ◌*◌, ◌<◌, ◌≤◌, ◌⊎◌, Bool, true, false, nat_le}
use Rattle.std.proofs.Common.{if◌then◌else◌, MatchBool, List, [], ◌∷◌, length, Some, is_some}
use Rattle.bm_base.specs.declared.fate.Fate.{Fate}
use Rattle.bm_base.specs.declared.flow.Flow.{Flow}
use Rattle.bm_base.specs.declared.flow.Segment.{Segment}
use Rattle.bm_base.specs.declared.label.Hop.{Hop}
use Rattle.bm_base.specs.declared.label.Hop.TheVariants.{Direct, Chained, Twice}
use Rattle.bm_base.specs.Segments.{has_flag, is_opening, RST}
use Rattle.bm_core.specs.Accounts.{IsAccountOf, arrives, counts, steers_packet}
use Rattle.bm_core.specs.Causes.{is_process}
use Rattle.bm_core.specs.declared.events.Event.{Event}
use Rattle.bm_core.specs.declared.events.Stage.{Stage}
use Rattle.bm_core.specs.declared.events.Verdict.TheVariants.{Accept}
use Rattle.bm_core.specs.declared.events.What.{What}
use Rattle.bm_core.specs.declared.events.What.TheVariants.{Arrive, Close, Lose, Retire, Sync}
use Rattle.bm_core.specs.Past.{is_forward, segment_of, sends, timeout}
use Rattle.bm_core.specs.Pins.{Each}
use Rattle.bm_core.specs.Rules.{RouteBy, RuleBy, setting_fate, setting_mux}
use Rattle.bm_core.specs.Runs.{AtEach, Run}
use Rattle.bm_core.specs.Threads.{AreThreadSteps, record_moment}
use Rattle.bm_table.specs.declared.script.Command.{Command}
use Rattle.bm_table.specs.declared.script.Command.TheVariants.{Change}
use Rattle.bm_table.specs.Tables.{change_moment, next_change}

-- the command publishes a change
abbrev pub is_change : Command → Bool
is_change (Change v) = true
is_change _ = false

abbrev pub AreChanges : List Command → Type 0
AreChanges [] = Unit {0}
AreChanges (c ∷ commands) = (is_change c ≡ true) × AreChanges commands

-- n connections of four packets each, opened by the first n packets, in the one phase of a plan with one change
pub record IsLoadLike (stage : Stage) (n : ℕ) : Type 0 where
  pub few : n ≤ 20000
  pub records : length stage.capture.records ≡ 4 * n
  -- packets 1 to 4n are steerable, and no other
  pub steered : (k : ℕ) → 1 ≤ k → k ≤ 4 * n → is_some (segment_of stage k) ≡ true
  pub within : (k : ℕ) (s : Segment) → segment_of stage k ≡ Some s → (1 ≤ k) × (k ≤ 4 * n)
  pub opens : (k : ℕ) (s : Segment) → segment_of stage k ≡ Some s → is_opening s ≡ nat_le k n
  pub no_rst : (k : ℕ) (s : Segment) → segment_of stage k ≡ Some s → has_flag RST s ≡ false
  -- each packet's connection is opened by a packet no later than it, and by no other
  pub opened : (k : ℕ) (s : Segment) → segment_of stage k ≡ Some s
      → (o : ℕ) × (t : Segment)
      × (segment_of stage o ≡ Some t) × (t.flow ≡ s.flow) × (is_opening t ≡ true) × (o ≤ k)
  pub alone : (j k : ℕ) (s t : Segment) → segment_of stage j ≡ Some s → segment_of stage k ≡ Some t
      → s.flow ≡ t.flow → is_opening s ≡ true → is_opening t ≡ true → j ≡ k
  -- the mux goes by the flow alone, and no sending has an impairment
  pub one_mux : (j k : ℕ) (f : Flow)
      → setting_mux stage.script.setting j f ≡ setting_mux stage.script.setting k f
  pub unit_fate : (k : ℕ) (hop : Hop)
      → setting_fate stage.script.setting k hop ≡ record { copies = 1; delay = 0 }
  pub muxes : stage.script.setting.muxes ≡ 4
  pub roomy : n < stage.script.setting.capacity
  pub commands : AreChanges stage.script.commands
  pub one_change : length stage.script.plan.changes ≡ 1
  -- moments are small, and the timeout is long
  pub moments : (k : ℕ) → record_moment stage k ≤ 80000000
  pub changes : (v : ℕ) → change_moment (next_change stage.script.plan v) ≤ 80000000
  pub long : 81000000 ≤ timeout stage

-- a run of such a stage in threads, the newest event first
pub record IsRunLike (stage : Stage) (n : ℕ) (fates : List Fate) (all : List Event) : Type 0 where
  pub like : IsLoadLike stage n
  pub run : Run stage all
  pub steps : AreThreadSteps fates stage all
  pub account : IsAccountOf (RouteBy (setting_mux stage.script.setting))
      (RuleBy (setting_fate stage.script.setting)) stage fates all

-- no event is a Lose, a Close, a Retire or a Sync
abbrev pub is_quiet : What → Bool
is_quiet (Lose k hop) = false
is_quiet (Close server flow closed) = false
is_quiet (Retire server h at result) = false
is_quiet Sync = false
is_quiet _ = true

abbrev pub once : Bool → ℕ
once b = if b then 1 else 0

-- how often each packet is steered and arrives, and how late the clocks are
pub record AreOnce (stage : Stage) (n : ℕ) (all : List Event) : Type 0 where
  pub steered : (k : ℕ)
      → counts all (λ what. steers_packet what k) ≡ once (is_some (segment_of stage k))
  pub direct : (k : ℕ)
      → counts all (λ what. arrives what k Direct) ≡ once (is_some (segment_of stage k))
  -- a chained or twice-chained copy arrives for each Forward before it, and for nothing else
  pub chained : (k : ℕ)
      → counts all (λ what. arrives what k Chained) ≡ counts all (λ what. sends what k Chained)
  pub twice : (k : ℕ)
      → counts all (λ what. arrives what k Twice) ≡ counts all (λ what. sends what k Twice)
  pub quiet : AtEach (λ past e. is_quiet e.what ≡ true) all
  pub clocks : AtEach (λ past e. e.clock.0 ≤ 81000000) all

-- a copy of one of the first n packets is accepted; any other one is processed or, where it is a
-- direct one, forwarded
abbrev pub IsWellServed : ℕ → List Event → ℕ → What → Type 0
IsWellServed n past clock (Arrive k hop server verdict) =
    MatchBool (nat_le k n) (verdict ≡ Accept)
    ((is_process verdict ≡ true) ⊎ ((hop ≡ Direct) × (is_forward verdict ≡ true)))
IsWellServed n past clock _ = Unit {0}

abbrev pub AreWellServed : ℕ → List Event → Type 0
AreWellServed n all = Each (IsWellServed n) all

-- What the rest goes by, of each event of a load's run.
use Rattle.std.proofs.Common.{◌≡◌, ℕ, ◌<◌, ◌≤◌, Bool, true, false, MatchBool, List, [], ◌∷◌, arith}
use Rattle.std.proofs.Common.{is_some}
use Rattle.bm_base.specs.declared.fate.Fate.{Fate}
use Rattle.bm_base.specs.declared.label.Hop.TheVariants.{Direct}
use Rattle.bm_core.specs.Accounts.{AreAnswered, IsRouted, Routes, Rules, arrives, before, counts}
use Rattle.bm_core.specs.declared.events.Event.{Event}
use Rattle.bm_core.specs.declared.events.Stage.{Stage}
use Rattle.bm_core.specs.declared.events.What.{What}
use Rattle.bm_core.specs.declared.events.What.TheVariants.{Publish, Switch, Steer, Lose, Arrive, Close, Retire, Sync}
use Rattle.bm_core.specs.Past.{segment_of, version_at}
use Rattle.bm_core.specs.Rules.{RouteBy, RuleBy, setting_fate, setting_mux}
use Rattle.bm_core.specs.Runs.{AtEach, IsStep}
use Rattle.bm_core.specs.Threads.{AreThreadSteps, ArrivesInOrder, IsTimed, has_looked, last_own, newest_before}
use Rattle.bm_core.specs.Threads.{steers_later}
use Rattle.bm_core.specs.Runs.{actor_of}
use Rattle.bm_load.proofs.Along.{counts_more, downward, each_both, each_so}
use Rattle.bm_load.proofs.Shape.{AreOnce, IsRunLike, is_quiet, once}

-- how the event stands to those before it
abbrev pub IsOrdered : Stage → List Event → What → Type 0
IsOrdered stage past (Switch m v) = (version_at past m).0 ≤ v.0
IsOrdered stage past (Steer k m) = counts past (λ what. steers_later what m k) ≡ 0
IsOrdered stage past (Arrive k hop server verdict) = ArrivesInOrder stage past k server
IsOrdered stage past _ = Unit {0}

-- an event of a load's run
pub record IsLoadStep (stage : Stage) (past : List Event) (e : Event) : Type 0 where
  pub step : IsStep stage past e
  pub routed : IsRouted (RouteBy (setting_mux stage.script.setting)) stage e.what
  pub ordered : IsOrdered stage past e.what
  pub quiet : is_quiet e.what ≡ true
  pub clock : e.clock.0 ≤ 81000000
  -- no packet has more than one direct arrival up to here
  pub few : (k : ℕ) → counts (e ∷ past) (λ what. arrives what k Direct) ≤ 1

rises : (looked : Bool) (old new before : ℕ) → MatchBool looked (old < new) ((before ≤ new) × (old ≤ new)) → old ≤ new
rises true old new before look = omega arith
rises false old new before look = look.1

ordered : (fates : List Fate) (stage : Stage) (past : List Event) (own clock : ℕ) (what : What)
    → IsTimed fates stage past own clock what → IsOrdered stage past what
ordered fates stage past own clock (Switch m v) timed =
    rises (has_looked past m.0) (version_at past m).0 v.0 (newest_before past) timed.0
ordered fates stage past own clock (Steer k m) timed = timed.1
ordered fates stage past own clock (Arrive k hop server verdict) timed = timed.0
ordered fates stage past own clock (Publish v) timed = tt
ordered fates stage past own clock (Lose k hop) timed = tt
ordered fates stage past own clock (Close server flow closed) timed = tt
ordered fates stage past own clock (Retire server h at result) timed = tt
ordered fates stage past own clock Sync timed = tt

all_ordered : (fates : List Fate) (stage : Stage) (all : List Event) → AreThreadSteps fates stage all
    → AtEach (λ past e. IsOrdered stage past e.what) all
all_ordered fates stage [] steps = tt
all_ordered fates stage (e ∷ past) steps = (
  ordered (before fates) stage past (last_own stage past (actor_of stage e.what)) e.clock.0 e.what steps.0.timed,
  all_ordered (before fates) stage past steps.1,
)

all_routed : (R : Routes) (F : Rules) (stage : Stage) (fates : List Fate) (all : List Event)
    → AreAnswered R F stage fates all → AtEach (λ past e. IsRouted R stage e.what) all
all_routed R F stage fates [] answered = tt
all_routed R F stage fates (e ∷ past) answered =
    (answered.0.0, all_routed R F stage (before fates) past answered.1)

-- no packet has more than one direct arrival among these
abbrev Few : List Event → Type 0
Few past = (k : ℕ) → counts past (λ what. arrives what k Direct) ≤ 1

once_few : (b : Bool) (n : ℕ) → n ≡ once b → n ≤ 1
once_few true n is = omega arith
once_few false n is = omega arith

all_few : (P : List Event → Event → Type 0) (all : List Event) → AtEach P all → Few all
    → AtEach (λ past e. Few (e ∷ past)) all
all_few P all each few =
    each_so (λ past e. Few (e ∷ past) × Few past) (λ past e. Few (e ∷ past)) (λ past e both. both.0) all
    (downward P Few
    (λ past e older here more k.
    let a = counts_more past e (λ what. arrives what k Direct) in let b = more k in omega arith)
    all each few)

-- the events of a load's run are such
pub load_steps : {stage : Stage} {n : ℕ} {fates : List Fate} {all : List Event} → IsRunLike stage n fates all
    → AreOnce stage n all → AtEach (IsLoadStep stage) all
load_steps {stage = stage} {n = n} {fates = fates} {all = all} like one =
    let R : Routes = RouteBy (setting_mux stage.script.setting)
    in let F : Rules = RuleBy (setting_fate stage.script.setting)
    in let Routed : List Event → Event → Type 0 = λ past e. IsRouted R stage e.what
    in let Ordered : List Event → Event → Type 0 = λ past e. IsOrdered stage past e.what
    in let Stepped : List Event → Event → Type 0 = λ past e. IsStep stage past e × IsRouted R stage e.what
    in let Placed : List Event → Event → Type 0 = λ past e. Stepped past e × IsOrdered stage past e.what
    in let Quiet : List Event → Event → Type 0 = λ past e. is_quiet e.what ≡ true
    in let Early : List Event → Event → Type 0 = λ past e. e.clock.0 ≤ 81000000
    in let Calm : List Event → Event → Type 0 = λ past e. (is_quiet e.what ≡ true) × (e.clock.0 ≤ 81000000)
    in let Rare : List Event → Event → Type 0 = λ past e. Few (e ∷ past)
    in let Seen : List Event → Event → Type 0 = λ past e. Calm past e × Few (e ∷ past)
    in each_both Placed Seen (IsLoadStep stage)
    (λ past e p q.
    record { step = p.0.0; routed = p.0.1; ordered = p.1; quiet = q.0.0; clock = q.0.1; few = q.1 })
    all
    (each_both Stepped Ordered Placed (λ past e p q. (p, q)) all
    (each_both (IsStep stage) Routed Stepped (λ past e p q. (p, q)) all like.run
    (all_routed R F stage fates all like.account.answered))
    (all_ordered fates stage all like.steps))
    (each_both Calm Rare Seen (λ past e p q. (p, q)) all
    (each_both Quiet Early Calm (λ past e p q. (p, q)) all one.quiet one.clocks)
    (all_few (IsStep stage) all like.run
    (λ k. once_few (is_some (segment_of stage k)) _ (one.direct k))))

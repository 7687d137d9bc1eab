-- In a run of a load each event adds at most one to the latest clock or moment before it.
use Rattle.std.proofs.Common.{◌≡◌, ℕ, zero, suc, ◌+◌, ◌≤◌, inl, inr, Bool, true, false, cond, max, List, [], ◌∷◌}
use Rattle.std.proofs.Common.{length, Option, Some, None, ap, arith}
use Rattle.std.specs.Prelude.{IfSome, unwrap_or}
use Rattle.bm_base.specs.declared.fate.Fate.{Fate}
use Rattle.bm_base.specs.declared.label.Hop.{Hop}
use Rattle.bm_core.specs.Accounts.{before, fate_now, is_sync}
use Rattle.bm_core.specs.declared.events.Event.{Event}
use Rattle.bm_core.specs.declared.events.Stage.{Stage}
use Rattle.bm_core.specs.declared.events.What.{What}
use Rattle.bm_core.specs.declared.events.What.TheVariants.{Publish, Switch, Steer, Lose, Arrive, Close, Retire, Sync}
use Rattle.bm_core.specs.Past.{Sending, is_sending, newest, sending_of}
use Rattle.bm_core.specs.Runs.{Actor, AtEach, actor_of, is_by, next_clock, own_clock}
use Rattle.bm_core.specs.Threads.{AreThreadSteps, IsDueAt, IsTimed, commands_clock, controller_at, is_command}
use Rattle.bm_core.specs.Threads.{is_publish_of, last_own, publish_clock, record_moment, sync_clock}
use Rattle.bm_load.proofs.Copies.{AreSingle, one_copy}
use Rattle.bm_load.proofs.Shape.{IsLoadLike, is_quiet}
use Rattle.bm_table.specs.Tables.{change_moment, next_change}

-- no clock of these is above the top
abbrev pub AreBy : ℕ → List Event → Type 0
AreBy top [] = Unit {0}
AreBy top (e ∷ past) = (e.clock.0 ≤ top) × AreBy top past

later_by : (low top : ℕ) → low ≤ top → (past : List Event) → AreBy low past → AreBy top past
later_by low top le [] by = tt
later_by low top le (e ∷ past) by = ((let h = by.0 in omega arith), later_by low top le past by.1)

cond_by : (top : ℕ) (b : Bool) (x y : ℕ) → x ≤ top → y ≤ top → cond b x y ≤ top
cond_by top true x y p q = p
cond_by top false x y p q = q

own_by : (stage : Stage) (past : List Event) (top : ℕ) (a : Actor) → AreBy top past
    → unwrap_or (own_clock stage past a) 0 ≤ top
own_by stage [] top a by = omega arith
own_by stage (e ∷ past) top a by = go (is_by (actor_of stage e.what) a) (own_by stage past top a by.1) where
  go : (b : Bool) → unwrap_or (own_clock stage past a) 0 ≤ top
      → unwrap_or (cond b (Some e.clock.0) (own_clock stage past a)) 0 ≤ top
  go true old = by.0
  go false old = old

last_by : (stage : Stage) (past : List Event) (top : ℕ) (o : Option Actor) → AreBy top past
    → last_own stage past o ≤ top
last_by stage past top None by = omega arith
last_by stage past top (Some a) by = own_by stage past top a by

commands_by : (skip : ℕ) (past : List Event) (top : ℕ) → AreBy top past → commands_clock skip past ≤ top
commands_by skip [] top by = omega arith
commands_by zero (e ∷ past) top by =
    let old = commands_by zero past top by.1
    in let here : e.clock.0 ≤ top = by.0
    in cond_by top (is_command e.what) (max e.clock.0 (commands_clock zero past)) (commands_clock zero past)
    (omega arith) old
commands_by (suc skip) (e ∷ past) top by =
    cond_by top (is_command e.what) (commands_clock skip past) (commands_clock (suc skip) past)
    (commands_by skip past top by.1) (commands_by (suc skip) past top by.1)

publish_by : (past : List Event) (v top : ℕ) → AreBy top past → publish_clock past v ≤ top
publish_by [] v top by = omega arith
publish_by (e ∷ past) v top by =
    cond_by top (is_publish_of e.what v) e.clock.0 (publish_clock past v) by.0 (publish_by past v top by.1)

sync_by : (past : List Event) (top : ℕ) → AreBy top past → sync_clock past ≤ top
sync_by [] top by = omega arith
sync_by (e ∷ past) top by =
    cond_by top (is_sync e.what) e.clock.0 (sync_clock past) by.0 (sync_by past top by.1)

no_delay : (f : Fate) (o : Option Sending) (k : ℕ) (hop : Hop) → IfSome o (λ s. f ≡ one_copy)
    → is_sending o k hop ≡ true → f.delay ≡ 0
no_delay f None k hop single sent = absurd (cc)
no_delay f (Some s) k hop single sent = ap (λ (x : Fate). x.delay) single

due_by : (fates : List Fate) (past : List Event) (k : ℕ) (hop : Hop) (own clock top : ℕ) → AreSingle fates past
    → AreBy top past → own ≤ top → IsDueAt fates past k hop own clock → clock ≤ suc top
due_by fates [] k hop own clock top single by le due = absurd due
due_by fates (e ∷ past) k hop own clock top single by le (inl now) =
    let none = no_delay (fate_now fates) (sending_of e.what) k hop single.0 now.0
    in let is : clock ≡ next_clock own (e.clock.0 + (fate_now fates).delay) = now.1
    in let here : e.clock.0 ≤ top = by.0
    in omega arith
due_by fates (e ∷ past) k hop own clock top single by le (inr earlier) =
    due_by (before fates) past k hop own clock top single.1 by.1 le earlier

step_by : (stage : Stage) (n : ℕ) → IsLoadLike stage n → (fates : List Fate) (past : List Event) (own clock top : ℕ)
    (what : What)
    → is_quiet what ≡ true → IsTimed fates stage past own clock what → own ≤ top → AreBy top past → 80000000 ≤ top
    → AreSingle fates past → clock ≤ suc top
step_by stage n like fates past own clock top (Publish v) quiet timed le by low single =
    let a : controller_at stage past ≤ top = commands_by _ past top by
    in let b = like.changes (newest past)
    in let is : clock ≡ next_clock (controller_at stage past)
    (change_moment (next_change stage.script.plan (newest past))) = timed
    in omega arith
step_by stage n like fates past own clock top (Switch m v) quiet timed le by low single =
    let a = publish_by past v.0 top by
    in let b = sync_by past top by
    in let is : clock ≡ next_clock own (max (publish_clock past v.0) (sync_clock past)) = timed.1
    in omega arith
step_by stage n like fates past own clock top (Steer k m) quiet timed le by low single =
    let a = like.moments k
    in let is : clock ≡ next_clock own (record_moment stage k) = timed.2
    in omega arith
step_by stage n like fates past own clock top (Arrive k hop server verdict) quiet timed le by low single =
    due_by fates past k hop own clock top single by le timed.1
step_by stage n like fates past own clock top (Lose k hop) quiet timed le by low single = absurd (cc)
step_by stage n like fates past own clock top (Close server flow closed) quiet timed le by low single = absurd (cc)
step_by stage n like fates past own clock top (Retire server h at result) quiet timed le by low single = absurd (cc)
step_by stage n like fates past own clock top Sync quiet timed le by low single = absurd (cc)

-- each event adds at most one
pub clocks_by : (stage : Stage) (n : ℕ) → IsLoadLike stage n → (fates : List Fate) (all : List Event)
    → AreThreadSteps fates stage all → AreSingle fates all → AtEach (λ past e. is_quiet e.what ≡ true) all
    → AreBy (80000000 + length all) all
clocks_by stage n like fates [] steps single quiet = tt
clocks_by stage n like fates (e ∷ past) steps single quiet =
    let old = clocks_by stage n like (before fates) past steps.1 single.1 quiet.1
    in let own = last_by stage past (80000000 + length past) (actor_of stage e.what) old
    in let here =
    step_by stage n like (before fates) past (last_own stage past (actor_of stage e.what)) e.clock.0
    (80000000 + length past) e.what quiet.0 steps.0.timed own old (omega arith) single.1
    in (
      omega arith,
      later_by (80000000 + length past) (80000000 + suc (length past)) (omega arith) past old,
    )

-- a bound of all clocks, or a higher one, is one of each clock
pub each_by : (top low : ℕ) (all : List Event) → low ≤ top → AreBy low all → AtEach (λ past e. e.clock.0 ≤ top) all
each_by top low [] le by = tt
each_by top low (e ∷ past) le by = ((let h = by.0 in omega arith), each_by top low past le by.1)

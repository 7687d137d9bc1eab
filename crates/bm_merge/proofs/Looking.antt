-- What the controller and the muxes have done before a note.
use Rattle.std.proofs.Common.{◌≡◌, ℕ, ◌+◌, ◌<◌, ◌≤◌, Bool, true, false, cond, ◌&&◌, ◌||◌, not, inl, inr, List, []}
use Rattle.std.proofs.Common.{◌∷◌, Option, Some, None, refl, sym, ap, ◌∙◌, arith, leb}
use Rattle.std.specs.Prelude.{IfSome, option_map, ◌⊎◌}
use Rattle.bm_base.specs.declared.flow.Segment.{Segment}
use Rattle.std.specs.List.{AllByRecursion}
use Rattle.std.proofs.lemmas.Bool.{le-leb, lt-leb, and_parts, eqb-true}
use Rattle.bm_base.specs.declared.label.Hop.{Hop}
use Rattle.bm_core.specs.declared.events.What.{What}
use Rattle.bm_core.specs.declared.events.What.TheVariants.{Publish, Switch, Steer, Lose, Arrive, Close, Retire, Sync}
use Rattle.bm_core.specs.declared.events.Event.{Event}
use Rattle.bm_core.specs.declared.events.Stage.{Stage}
use Rattle.bm_core.specs.Past.{segment_of, shard, sends, newest, published_by, is_switch_of}
use Rattle.bm_core.specs.Runs.{actor_of, is_by, next_clock}
use Rattle.bm_core.specs.Runs.Actor.{Controller, ShardOf}
use Rattle.bm_core.specs.Accounts.{Routes, Rules, counts, is_sync}
use Rattle.bm_core.specs.Threads.{has_looked, newest_before, sync_clock, publish_clock, is_publish_of}
use Rattle.bm_core.specs.Threads.{phase}
use Rattle.bm_core.specs.Threads.{phase_of, packet_of, IsDueAt}
use Rattle.bm_core.specs.Logs.{log_of}
use Rattle.bm_merge.specs.Notes.{Note, NotedLog, events_of, plain, all_notes, many, switched_since, controlled}
use Rattle.bm_merge.proofs.Promised.{fates_of, is_due_by}
use Rattle.bm_merge.proofs.Placed.{IsFalling, key, rank, rank_by, all_so}
use Rattle.bm_merge.proofs.Agreeing.{in_log}
use Rattle.bm_merge.proofs.Telling.{no_sync}
use Rattle.bm_merge.proofs.Placing.{IsPlace, control_here, under_clock}
use Rattle.bm_merge.proofs.Counting.{only_below}

-- THE CONTROLLER'S LOG

not_publish : (stage : Stage) (what : What) (v n : ℕ) → is_by (actor_of stage what) Controller ≡ false
    → (is_publish_of what v ≡ false) × (published_by what n ≡ n)
not_publish stage (Publish x) v n h = absurd (cc)
not_publish stage Sync v n h = absurd (cc)
not_publish stage (Switch m x) v n h = (refl, refl)
not_publish stage (Steer k m) v n h = (refl, refl)
not_publish stage (Lose k hop) v n h = (refl, refl)
not_publish stage (Arrive k hop server verdict) v n h = (refl, refl)
not_publish stage (Close server flow closed) v n h = (refl, refl)
not_publish stage (Retire server x at result) v n h = (refl, refl)

pub syncs_in_log : (stage : Stage) (past : List Event)
    → counts (log_of stage past Controller) is_sync ≡ counts past is_sync
syncs_in_log stage past =
    in_log stage Controller (λ (l : List Event). counts l is_sync)
    (λ e rest h. let none = no_sync stage e.what h in rw none (omega arith))
    (λ e x y h. ap (λ (n : ℕ). cond (is_sync e.what) 1 0 + n) h) past

pub sync_in_log : (stage : Stage) (past : List Event) → sync_clock (log_of stage past Controller) ≡ sync_clock past
sync_in_log stage past =
    in_log stage Controller sync_clock (λ e rest h. let none = no_sync stage e.what h in rw none refl)
    (λ e x y h. ap (λ (n : ℕ). cond (is_sync e.what) e.clock.0 n) h) past

pub publish_in_log : (stage : Stage) (past : List Event) (v : ℕ)
    → publish_clock (log_of stage past Controller) v ≡ publish_clock past v
publish_in_log stage past v =
    in_log stage Controller (λ (l : List Event). publish_clock l v)
    (λ e rest h. let none = (not_publish stage e.what v 0 h).0 in rw none refl)
    (λ e x y h. ap (λ (n : ℕ). cond (is_publish_of e.what v) e.clock.0 n) h) past

-- the newest version, and the newest from before the phase
pub record Versions : Type 0 where
  pub now : ℕ
  pub old : ℕ

abbrev versions : List Event → Versions
versions past = record { now = newest past; old = newest_before past }

abbrev versions_after : What → Versions → Versions
versions_after what v = record { now = published_by what v.now; old = cond (is_sync what) v.now v.old }

versions_skip : (stage : Stage) (what : What) (v : Versions) → is_by (actor_of stage what) Controller ≡ false
    → versions_after what v ≡ v
versions_skip stage what v h =
    let none = no_sync stage what h
    in let same = (not_publish stage what 0 v.now h).1
    in rw (none, same) refl

pub before_in_log : (stage : Stage) (past : List Event)
    → newest_before (log_of stage past Controller) ≡ newest_before past
before_in_log stage past =
    ap (λ (v : Versions). v.old)
    (in_log stage Controller versions (λ e rest h. versions_skip stage e.what (versions rest) h)
    (λ e x y h. ap (λ (v : Versions). versions_after e.what v) h) past)

-- what the controller did before an event of another, by its log up to that clock
pub record IsControlled (past control : List Event) : Type 0 where
  pub syncs : counts past is_sync ≡ counts control is_sync
  pub sync : sync_clock past ≡ sync_clock control
  pub publish : (v : ℕ) → publish_clock past v ≡ publish_clock control v
  pub old : newest_before past ≡ newest_before control

pub controlled_here : (R : Routes) (F : Rules) (stage : Stage) (logs : List NotedLog) (x past : List Note) (n : Note)
    → IsPlace R F stage logs x n past → is_by (actor_of stage n.event.what) Controller ≡ false
    → IsControlled (events_of past) (controlled (plain logs) n.event.clock.0)
controlled_here R F stage logs x past n at not =
    let is : log_of stage (events_of past) Controller ≡ controlled (plain logs) n.event.clock.0 =
    control_here R F stage logs x past n at not
    in record {
      syncs = sym (syncs_in_log stage (events_of past)) ∙ ap (λ (l : List Event). counts l is_sync) is;
      sync = sym (sync_in_log stage (events_of past)) ∙ ap sync_clock is;
      publish = λ v. sym (publish_in_log stage (events_of past) v) ∙ ap (λ (l : List Event). publish_clock l v) is;
      old = sym (before_in_log stage (events_of past)) ∙ ap newest_before is;
    }

-- PHASES

packet_other : (stage : Stage) (what : What) (k : ℕ) → packet_of what ≡ Some k
    → is_by (actor_of stage what) Controller ≡ false
packet_other stage (Publish v) k h = absurd (cc)
packet_other stage Sync k h = absurd (cc)
packet_other stage (Switch m v) k h = refl
packet_other stage (Steer p m) k h = refl
packet_other stage (Lose p hop) k h = refl
packet_other stage (Close server flow closed) k h = refl
packet_other stage (Retire server x at result) k h = refl
packet_other stage (Arrive p hop server verdict) k h = go (segment_of stage p) where
  go : (o : Option Segment)
      → is_by (option_map (λ (t : Segment). ShardOf server.0 (shard stage t.flow)) o) Controller ≡ false
  go None = refl
  go (Some t) = refl

pub phase_here : (R : Routes) (F : Rules) (stage : Stage) (logs : List NotedLog) (x past : List Note) (n : Note)
    → IsPlace R F stage logs x n past
    → IfSome (packet_of n.event.what) (λ k. phase (events_of past) ≡ phase_of stage k)
phase_here R F stage logs x past n at = go (packet_of n.event.what) refl at.told.phase where
  go : (o : Option ℕ) → packet_of n.event.what ≡ o
      → IfSome o (λ k. counts (controlled (plain logs) n.event.clock.0) is_sync ≡ phase_of stage k)
      → IfSome o (λ k. phase (events_of past) ≡ phase_of stage k)
  go None is h = tt
  go (Some k) is h = (controlled_here R F stage logs x past n at (packet_other stage n.event.what k is)).syncs ∙ h

-- LOOKS

sync_under : (past : List Event) (c : ℕ) → AllByRecursion (λ y. y.clock.0 ≤ c) past → sync_clock past ≤ c
sync_under [] c under = omega arith
sync_under (e ∷ past) c under = go (is_sync e.what) (sync_under past c under.1) where
  go : (b : Bool) → sync_clock past ≤ c → cond b e.clock.0 (sync_clock past) ≤ c
  go true old = under.0
  go false old = old

switch_rank : (stage : Stage) (e : Event) (m : ℕ) → is_switch_of e.what m ≡ true → rank stage e ≡ 1
switch_rank stage e m h = ap (λ (b : Bool). rank_by b) (go e.what h) where
  go : (what : What) → is_switch_of what m ≡ true → is_by (actor_of stage what) Controller ≡ false
  go (Switch x v) h = refl
  go (Publish v) h = absurd (cc)
  go Sync h = absurd (cc)
  go (Steer k x) h = absurd (cc)
  go (Lose k hop) h = absurd (cc)
  go (Arrive k hop server verdict) h = absurd (cc)
  go (Close server flow closed) h = absurd (cc)
  go (Retire server x at result) h = absurd (cc)

-- below a Sync no Switch has its clock
none_since_step : (stage : Stage) (c m : ℕ) (y : Event) (b : Bool) → is_switch_of y.what m ≡ b → key stage y ≤ c + c
    → (b && leb c y.clock.0) ≡ false
none_since_step stage c m y false is under = refl
none_since_step stage c m y true is under =
    let r : rank stage y ≡ 1 = switch_rank stage y m is
    in let low : y.clock.0 < c = omega arith
    in lt-leb _ _ low

none_since : (stage : Stage) (c m : ℕ) (past : List Event) → AllByRecursion (λ y. key stage y ≤ c + c) past
    → switched_since c m past ≡ false
none_since stage c m [] under = refl
none_since stage c m (y ∷ past) under =
    let here : (is_switch_of y.what m && leb c y.clock.0) ≡ false =
    none_since_step stage c m y (is_switch_of y.what m) refl under.0
    in let rest : switched_since c m past ≡ false = none_since stage c m past under.1
    in rw (here, rest) refl

sync_rank : (stage : Stage) (e : Event) → is_sync e.what ≡ true → rank stage e ≡ 0
sync_rank stage e h = ap (λ (b : Bool). rank_by b) (go e.what h) where
  go : (what : What) → is_sync what ≡ true → is_by (actor_of stage what) Controller ≡ true
  go Sync h = refl
  go (Publish v) h = absurd (cc)
  go (Switch x v) h = absurd (cc)
  go (Steer k x) h = absurd (cc)
  go (Lose k hop) h = absurd (cc)
  go (Arrive k hop server verdict) h = absurd (cc)
  go (Close server flow closed) h = absurd (cc)
  go (Retire server x at result) h = absurd (cc)

sync_no_switch : (what : What) (m : ℕ) → is_sync what ≡ true → is_switch_of what m ≡ false
sync_no_switch Sync m h = refl
sync_no_switch (Publish v) m h = refl
sync_no_switch (Switch x v) m h = absurd (cc)
sync_no_switch (Steer k x) m h = refl
sync_no_switch (Lose k hop) m h = refl
sync_no_switch (Arrive k hop server verdict) m h = refl
sync_no_switch (Close server flow closed) m h = refl
sync_no_switch (Retire server x at result) m h = refl

looked_step : (stage : Stage) (e : Event) (past : List Event) (m : ℕ) (b : Bool) → is_sync e.what ≡ b
    → AllByRecursion (λ y. key stage y ≤ key stage e) past
    → has_looked past m ≡ switched_since (sync_clock past) m past
    → (not b && (is_switch_of e.what m || has_looked past m))
    ≡ switched_since (cond b e.clock.0 (sync_clock past)) m (e ∷ past)
looked_step stage e past m true is under old =
    let r : rank stage e ≡ 0 = sync_rank stage e is
    in let none : switched_since e.clock.0 m past ≡ false =
    none_since stage e.clock.0 m past
    (all_so (λ y. key stage y ≤ key stage e) (λ y. key stage y ≤ e.clock.0 + e.clock.0) past (λ y h. omega arith)
    under)
    in let no : is_switch_of e.what m ≡ false = sync_no_switch e.what m is
    in rw (no, none) refl
looked_step stage e past m false is under old =
    let low : sync_clock past ≤ e.clock.0 = sync_under past e.clock.0 (under_clock stage e past under)
    in let test : leb (sync_clock past) e.clock.0 ≡ true = le-leb _ _ low
    in rw (test, sym old) (go (is_switch_of e.what m)) where
      go : (b : Bool) → (b || has_looked past m) ≡ ((b && true) || has_looked past m)
      go true = refl
      go false = refl

-- a mux has looked in this phase where it switched at the clock of the last Sync or later
pub looked_since : (stage : Stage) (past : List Event) (m : ℕ) → IsFalling (key stage) past
    → has_looked past m ≡ switched_since (sync_clock past) m past
looked_since stage [] m falls = refl
looked_since stage (e ∷ past) m falls =
    looked_step stage e past m (is_sync e.what) refl falls.0 (looked_since stage past m falls.1)

-- COPIES THAT ARE DUE

some_due : (past : List Note) (k : ℕ) (hop : Hop) (own clock : ℕ) → 1 ≤ many (is_due_by k hop own clock) past
    → IsDueAt (fates_of past) (events_of past) k hop own clock
some_due [] k hop own clock h = absurd (omega arith)
some_due (n ∷ past) k hop own clock h = go (is_due_by k hop own clock n) refl h (some_due past k hop own clock) where
  go : (b : Bool) → is_due_by k hop own clock n ≡ b → 1 ≤ cond b 1 0 + many (is_due_by k hop own clock) past
      → (1 ≤ many (is_due_by k hop own clock) past → IsDueAt (fates_of past) (events_of past) k hop own clock)
      → ((sends n.event.what k hop ≡ true) × (clock ≡ next_clock own (n.event.clock.0 + n.fate.delay)))
      ⊎ IsDueAt (fates_of past) (events_of past) k hop own clock
  go true is h old =
      let parts = and_parts (sends n.event.what k hop) _ is
      in inl (parts.0, eqb-true _ _ parts.1)
  go false is h old = inr (old (omega arith))

abbrev one_if : Bool → ℕ
one_if b = cond b 1 0

due_later : (k own clock : ℕ) (hop : Hop) (y : Note) → clock ≤ y.event.clock.0
    → one_if (is_due_by k hop own clock y) ≡ 0
due_later k own clock hop y under = go (is_due_by k hop own clock y) refl where
  go : (b : Bool) → is_due_by k hop own clock y ≡ b → one_if b ≡ 0
  go true is =
      let at : clock ≡ next_clock own (y.event.clock.0 + y.fate.delay) =
      eqb-true _ _ ((and_parts (sends y.event.what k hop) _ is).1)
      in absurd (omega arith)
  go false is = refl

pub due_here : (R : Routes) (F : Rules) (stage : Stage) (logs : List NotedLog) (x past : List Note) (n : Note)
    (k : ℕ) (hop : Hop) (own : ℕ) → IsPlace R F stage logs x n past
    → 1 ≤ many (is_due_by k hop own n.event.clock.0) (all_notes logs)
    → IsDueAt (fates_of past) (events_of past) k hop own n.event.clock.0
due_here R F stage logs x past n k hop own at h =
    let back : many (is_due_by k hop own n.event.clock.0) past
    ≡ many (is_due_by k hop own n.event.clock.0) (all_notes logs) =
    only_below R F stage logs x past n (λ y. cond (is_due_by k hop own n.event.clock.0 y) 1 0) at
    (λ y under. due_later k own n.event.clock.0 hop y under)
    in some_due past k hop own n.event.clock.0 (omega arith)

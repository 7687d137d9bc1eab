-- Each kind of command: what its notes are to those before them.
use Rattle.std.proofs.Common.{◌≡◌, ℕ, suc, ◌+◌, ◌-◌, ◌<◌, ◌≤◌, ◌==◌, ◌&&◌, max, Bool, true, false, cond}
use Rattle.std.proofs.Common.{inl, inr, List, [], ◌∷◌, ◌++◌, length, reverse, slice_get, Option, Some}
use Rattle.std.proofs.Common.{refl, sym, ap, ◌∙◌}
use Rattle.std.proofs.Common.{subst, arith, eqb, leb, ltb}
use Rattle.std.specs.Prelude.{IfSome}
use Rattle.std.proofs.lemmas.Bool.{cases_Bool, cases_lt, eq-eqb, eqb-true, eqb-false, le-leb, lt-ltb, le-ltb, ne_eqb}
use Rattle.std.specs.List.{AllByRecursion}
use Rattle.bm_base.specs.declared.flow.Flow.{Flow}
use Rattle.bm_base.specs.declared.ids.Moment.{Moment}
use Rattle.bm_base.specs.declared.ids.ServerId.{ServerId}
use Rattle.bm_base.specs.declared.ids.Version.{Version}
use Rattle.bm_table.specs.declared.plan.Retirement.{Retirement}
use Rattle.bm_table.specs.declared.script.Command.{Command}
use Rattle.bm_table.specs.declared.script.Command.TheVariants.{Change, Close, Retire, Sync}
use Rattle.bm_table.specs.Tables.{IsRetirement, change_moment, next_change, same_server}
use Rattle.bm_core.specs.declared.events.Event.{Event}
use Rattle.bm_core.specs.declared.events.Stage.{Stage}
use Rattle.bm_core.specs.Accounts.{closes_flow, is_sync, retires_shard, wants_close, wants_retire, wants_sync}
use Rattle.bm_core.specs.Past.{newest, timeout}
use Rattle.bm_core.specs.Runs.{Actor, AtEach, actor_of, is_by, next_clock, own_clock}
use Rattle.bm_core.specs.Runs.Actor.{Controller}
use Rattle.bm_core.specs.Threads.{IsOf, is_command, moment_at}
use Rattle.bm_merge.specs.Merges.{newest_until}
use Rattle.bm_merge.specs.Notes.{Note, greatest, is_earlier, many, mark_of, size_of, total}
use Rattle.bm_merge.specs.Workers.{IsCommanded, IsMeant, clock_before, is_same_part}
use Rattle.bm_merge.proofs.Noting.{each_append, each_so, each_two, greatest_append, greatest_none, greatest_same}
use Rattle.bm_merge.proofs.Noting.{total_append, total_none}
use Rattle.bm_server.specs.Servings.{Serving}
use Rattle.bm_worker.specs.WorkerNotes.{HasServer}
use Rattle.bm_worker.specs.Inside.WorkerNotes.{closing, retiring}
use Rattle.bm_lead.specs.Commands.{IsControlStep, IsJudgedBy, control_log, syncing}
use Rattle.bm_lead.specs.Inside.Commands.{publishing}
use Rattle.bm_lead.specs.Leads.{IsPlaced}
use Rattle.bm_lead.specs.Inside.Steps.{AreOf, AreRetirings}
use Rattle.bm_lead.proofs.Calling.{retirings_elsewhere}

-- WORLD BEFORE: the notes of earlier commands

-- the actor's last clock is below what is above all clocks
own_below : (stage : Stage) (a : Actor) (top clock : ℕ) (past : List Event) → top < clock
    → AllByRecursion (λ e. e.clock.0 ≤ top) past → IfSome (own_clock stage past a) (λ c. c < clock)
own_below stage a top clock [] over low = tt
own_below stage a top clock (e ∷ past) over low =
    go (is_by (actor_of stage e.what) a) (own_below stage a top clock past over low.1) where
      go : (b : Bool) → IfSome (own_clock stage past a) (λ c. c < clock)
          → IfSome (cond b (Some e.clock.0) (own_clock stage past a)) (λ c. c < clock)
      go true old = omega (arith, low.0)
      go false old = old

-- and all versions are published below it
pub until_all : (top clock : ℕ) (past : List Event) → top < clock → AllByRecursion (λ e. e.clock.0 ≤ top) past
    → newest_until clock past ≡ newest past
until_all top clock [] over low = refl
until_all top clock (e ∷ past) over low =
    let first = low.0 in let yes : leb e.clock.0 clock ≡ true = le-leb _ _ (omega arith) in rw yes refl

-- these notes are of the command, those before them of earlier ones: the controller's clock
pub clock_is : (i : ℕ) (n : Note) (e before : List Note) → n.command ≡ i → AllByRecursion (λ y. y.command ≡ i) e
    → AllByRecursion (λ y. y.command < i) before → AllByRecursion (λ y. is_command y.event.what ≡ true) before
    → clock_before (e ++ before) n ≡ greatest (λ y. y.event.clock.0) before
clock_is i n e before is same earlier kinds =
    let f : Note → ℕ = λ y. cond (is_earlier n.command y) y.event.clock.0 0 in
    let none : greatest f e ≡ 0 =
    greatest_none f e (each_so (λ y. y.command ≡ i) (λ y. f y ≡ 0) e (λ y h. not_earlier y (omega arith)) same) in
    let all : greatest f before ≡ greatest (λ y. y.event.clock.0) before =
    greatest_same f (λ y. y.event.clock.0) before
    (each_two (λ y. y.command < i) (λ y. is_command y.event.what ≡ true) (λ y. f y ≡ y.event.clock.0) before
    (λ y low kind. earlier_so y (omega arith) kind) earlier kinds) in
    let sum = greatest_append f e before in
    omega arith where
      conds : (a b : Bool) (x : ℕ) → b ≡ false → cond (a && b) x 0 ≡ 0
      conds true b x not = rw not refl
      conds false b x not = refl

      not_earlier : (y : Note) → n.command ≤ y.command → cond (is_earlier n.command y) y.event.clock.0 0 ≡ 0
      not_earlier y h = conds (is_command y.event.what) (ltb y.command n.command) y.event.clock.0 (le-ltb _ _ h)

      earlier_so : (y : Note) → y.command < n.command → is_command y.event.what ≡ true
          → cond (is_earlier n.command y) y.event.clock.0 0 ≡ y.event.clock.0
      earlier_so y low kind = rw (kind, lt-ltb _ _ low) refl

-- no part of the command came before
pub none_before : (i : ℕ) (n : Note) (before : List Note) → n.command ≡ i → AllByRecursion (λ y. y.command < i) before
    → many (is_same_part n) before ≡ 0
none_before i n before is earlier =
    total_none (λ y. cond (is_same_part n y) 1 0) before
    (each_so (λ y. y.command < i) (λ y. cond (is_same_part n y) 1 0 ≡ 0) before
    (λ y low. let other : eqb y.command n.command ≡ false = ne_eqb _ _ (λ e. omega arith) in rw other refl) earlier)

-- the notes of earlier commands; their greatest clock is the controller's
pub record Stands (latest i : ℕ) (before : List Note) : Type 0 where
  pub earlier : AllByRecursion (λ y. y.command < i) before
  pub kinds : AllByRecursion (λ y. is_command y.event.what ≡ true) before
  pub clock : latest ≡ greatest (λ y. y.event.clock.0) before

-- the notes of the command i, after those of earlier ones
pub record IsStep (stage : Stage) (servers : List Serving) (latest published i : ℕ) (c : Command) (e : List Note)
    : Type 0 where
  pub commands : AllByRecursion (λ n. n.command ≡ i) e
  pub size : many (λ n. n.command == i) e ≡ size_of stage.script.setting.shards (Some c)
  pub closes : (s : ServerId) (f : Flow) → many (λ n. closes_flow n.event.what s f) e ≡ cond (wants_close c s f) 1 0
  pub retires : (s : ServerId) (h : ℕ) → h < stage.script.setting.shards
      → many (λ n. retires_shard n.event.what s h) e ≡ cond (wants_retire c s) 1 0
  pub no_other : (s : ServerId) (h : ℕ) → stage.script.setting.shards ≤ h
      → many (λ n. retires_shard n.event.what s h) e ≡ 0
  pub syncs : many (λ n. is_sync n.event.what) e ≡ cond (wants_sync c) 1 0
  pub seats : AllByRecursion (λ n. n.seat ≡ 0) e
  pub since : AllByRecursion (λ n. latest < n.event.clock.0) e
  pub placed : AllByRecursion (λ n. IsPlaced stage servers n.event.what) e
  pub home : reverse (control_log stage e) ≡ control_log stage e
  -- the controller's log goes on
  pub steps : (past : List Event) → newest past ≡ published → AllByRecursion (λ e. e.clock.0 ≤ latest) past
      → AtEach (IsControlStep stage) past → AtEach (IsControlStep stage) (control_log stage e ++ past)
  pub judged : (past : List Event) → newest past ≡ published → AllByRecursion (λ e. e.clock.0 ≤ latest) past
      → AllByRecursion (λ n. IsJudgedBy stage (control_log stage e ++ past) n.event.clock.0 n.event.what) e
  pub each : (before : List Note) → Stands latest i before → AtEach (IsCommanded stage) before
      → AtEach (IsCommanded stage) (e ++ before)

-- a note of the command i, after earlier commands
commanded : (stage : Stage) (latest i : ℕ) (c : Command) (n : Note) (before : List Note) → n.command ≡ i
    → is_command n.event.what ≡ true → slice_get stage.script.commands i ≡ Some c → IsOf (Some c) [] n.event.what
    → Stands latest i before → IsMeant stage before n n.event.what → IsCommanded stage before n
commanded stage latest i c n before is kind at of stands meant = record {
  kind = kind;
  command = subst (λ (o : Option Command). IsOf o [] n.event.what)
      (sym (ap (λ (k : ℕ). slice_get stage.script.commands k) is ∙ at)) of;
  order = each_so (λ y. y.command < i) (λ y. y.command ≤ n.command) before (λ y low. omega arith) stands.earlier;
  once = none_before i n before is stands.earlier;
  meant = meant;
}

-- A CHANGE

pub change_step : (stage : Stage) (servers : List Serving) (latest published i : ℕ) (v : Version) (e : List Note)
    → slice_get stage.script.commands i ≡ Some (Change v) → v.0 ≡ published + 1
    → v.0 ≤ length stage.script.plan.changes → AreOf stage latest published i (Change v) e
    → IsStep stage servers latest published i (Change v) e
change_step stage servers latest published i v e at next there of =
    let n = publishing of.0 v i in
    let same : v.0 - 1 ≡ published = omega arith in
    let clock = of.2 ∙ ap (λ (u : ℕ). next_clock latest (change_moment (next_change stage.script.plan u))) same in
    subst (λ (e : List Note). IsStep stage servers latest published i (Change v) e) (sym of.1) (record {
      commands = (refl, tt);
      size = rw (eq-eqb i i refl) refl;
      closes = λ s f. refl;
      retires = λ s h low. refl;
      no_other = λ s h high. refl;
      syncs = refl;
      seats = (refl, tt);
      since = (omega arith, tt);
      placed = (tt, tt);
      home = refl;
      steps = λ past same low steps. (
        record {
          own = own_below stage Controller latest of.0.0 past (omega arith) low;
          version = (omega arith, there);
        },
        steps,
      );
      judged = λ past same low. (tt, tt);
      each = λ before stands each. (
        commanded stage latest i (Change v) n before refl refl at refl stands (
          published,
          omega arith,
          clock ∙ ap (λ (l : ℕ). next_clock l (change_moment (next_change stage.script.plan published)))
              (stands.clock ∙ sym (clock_is i n [] before refl tt stands.earlier stands.kinds)),
        ),
        each,
      );
    })

-- A CLOSE

pub close_step : (stage : Stage) (servers : List Serving) (latest published i : ℕ) (at : Moment) (server : ServerId)
    (flow : Flow) (e : List Note) → slice_get stage.script.commands i ≡ Some (Close at server flow)
    → HasServer servers server → AreOf stage latest published i (Close at server flow) e
    → IsStep stage servers latest published i (Close at server flow) e
close_step stage servers latest published i at server flow e there among of =
    let n = closing of.0 server flow of.1 i (max at.0 latest) 0 in
    subst (λ (e : List Note). IsStep stage servers latest published i (Close at server flow) e) (sym of.2) (record {
      commands = (refl, tt);
      size = rw (eq-eqb i i refl) refl;
      closes = λ s f. omega arith;
      retires = λ s h low. refl;
      no_other = λ s h high. refl;
      syncs = refl;
      seats = (refl, tt);
      since = ((let later = of.3 in omega arith), tt);
      placed = (among, tt);
      home = refl;
      steps = λ past same low steps. steps;
      judged = λ past same low. (tt, tt);
      each = λ before stands each. (
        commanded stage latest i (Close at server flow) n before refl refl there (refl, refl) stands (
          (let clock = clock_is i n [] before refl tt stands.earlier stands.kinds in
              let moment : moment_at (slice_get stage.script.commands i) ≡ at.0 = ap moment_at there in
              let top = stands.clock in omega arith),
          of.3,
        ),
        each,
      );
    })

-- A SYNC

pub sync_step : (stage : Stage) (servers : List Serving) (latest published i : ℕ) (at : Moment) (e : List Note)
    → slice_get stage.script.commands i ≡ Some (Sync at) → AreOf stage latest published i (Sync at) e
    → IsStep stage servers latest published i (Sync at) e
sync_step stage servers latest published i at e there of =
    let n = syncing of.0 i in
    subst (λ (e : List Note). IsStep stage servers latest published i (Sync at) e) (sym of.1) (record {
      commands = (refl, tt);
      size = rw (eq-eqb i i refl) refl;
      closes = λ s f. refl;
      retires = λ s h low. refl;
      no_other = λ s h high. refl;
      syncs = refl;
      seats = (refl, tt);
      since = (of.2, tt);
      placed = (tt, tt);
      home = refl;
      steps = λ past same low steps.
          (record { own = own_below stage Controller latest of.0.0 past of.2 low; version = tt }, steps);
      judged = λ past same low. (tt, tt);
      each = λ before stands each. (
        commanded stage latest i (Sync at) n before refl refl there tt stands (
            let clock = clock_is i n [] before refl tt stands.earlier stands.kinds in
            let top = stands.clock in let later = of.2 in omega arith),
        each,
      );
    })

-- A RETIRE: the shards below k

-- the marks of the shards that came are lower
marks_below : (i k : ℕ) (server : ServerId) (at : Moment) (outcome : Retirement) (e : List Note)
    → AreRetirings i server at outcome k e → AllByRecursion (λ y. mark_of y.event.what < k) e
marks_below i k server at outcome [] are = tt
marks_below i k server at outcome (n ∷ e) are =
    let old = marks_below i are.1 server at outcome e are.5 in
    let next = are.2 in
    let mark : mark_of n.event.what ≡ are.1 = ap (λ (n : Note). mark_of n.event.what) are.3 in (
      omega arith,
      each_so (λ y. mark_of y.event.what < are.1) (λ y. mark_of y.event.what < k) e (λ y low. omega arith) old,
    )

-- the notes of the first k shards
record IsPart (stage : Stage) (latest i k : ℕ) (server : ServerId) (e : List Note) : Type 0 where
  pub commands : AllByRecursion (λ n. n.command ≡ i) e
  pub size : many (λ n. n.command == i) e ≡ k
  pub closes : (s : ServerId) (f : Flow) → many (λ n. closes_flow n.event.what s f) e ≡ 0
  pub retires : (s : ServerId) (h : ℕ) → many (λ n. retires_shard n.event.what s h) e
      ≡ cond (same_server server s && ltb h k) 1 0
  pub syncs : many (λ n. is_sync n.event.what) e ≡ 0
  pub seats : AllByRecursion (λ n. n.seat ≡ 0) e
  pub since : AllByRecursion (λ n. latest < n.event.clock.0) e

one_shard : (a : Bool) (k h : ℕ) → cond (a && k == h) 1 0 + cond (a && ltb h k) 1 0 ≡ cond (a && ltb h (suc k)) 1 0
one_shard false k h = refl
one_shard true k h = elim (cases_Bool (k == h)) [
  | inl here ↦
      let same : k ≡ h = eqb-true k h here in
      rw (here, le-ltb h k (omega arith), lt-ltb h (suc k) (omega arith)) refl
  | inr other ↦ elim (cases_lt h k) [
    | inl low ↦ rw (other, lt-ltb h k low, lt-ltb h (suc k) (omega arith)) refl
    | inr high ↦
        let apart : k ≡ h → ⊥ = λ e. eqb-false k h other e in
        rw (other, le-ltb h k high, le-ltb h (suc k) (omega arith)) refl
  ]
]

part_of : (stage : Stage) (latest i k : ℕ) (server : ServerId) (at : Moment) (outcome : Retirement) (e : List Note)
    → latest ≤ at.0 → AreRetirings i server at outcome k e → IsPart stage latest i k server e
part_of stage latest i k server at outcome [] low are = record {
  commands = tt;
  size = sym are;
  closes = λ s f. refl;
  retires = λ s h. rw (are, le-ltb h 0 (omega arith)) (conds (same_server server s));
  syncs = refl;
  seats = tt;
  since = tt;
} where
  conds : (a : Bool) → ◌≡◌ {A = ℕ} 0 (cond (a && false) 1 0)
  conds true = refl
  conds false = refl
part_of stage latest i k server at outcome (n ∷ e) low are =
    let old = part_of stage latest i are.1 server at outcome e low are.5 in
    subst (λ (n : Note). IsPart stage latest i k server (n ∷ e)) (sym are.3) (record {
      commands = (refl, old.commands);
      size = rw (eq-eqb i i refl, old.size) (let next = are.2 in omega arith);
      closes = λ s f. (let none = old.closes s f in omega arith);
      retires = λ s h. rw (are.2, old.retires s h) (one_shard (same_server server s) are.1 h);
      syncs = (let none = old.syncs in omega arith);
      seats = (refl, old.seats);
      since = ((let later = are.4 in omega arith), old.since);
    })

each_shard : (stage : Stage) (latest i k : ℕ) (server : ServerId) (at at' : Moment) (outcome : Retirement)
    (e before : List Note) → slice_get stage.script.commands i ≡ Some (Retire at server) → at'.0 ≡ max at.0 latest
    → AreRetirings i server at' outcome k e → Stands latest i before → AtEach (IsCommanded stage) before
    → AtEach (IsCommanded stage) (e ++ before)
each_shard stage latest i k server at at' outcome [] before there due are stands each = each
each_shard stage latest i k server at at' outcome (n ∷ e) before there due are stands each =
    let old = each_shard stage latest i are.1 server at at' outcome e before there due are.5 stands each in
    let part = part_of stage latest i are.1 server at' outcome e (omega arith) are.5 in
    let x = retiring are.0 server are.1 at' outcome i 0 in
    let new : IsCommanded stage (e ++ before) x = record {
      kind = refl;
      command = subst (λ (o : Option Command). IsOf o [] x.event.what) (sym there) (refl, refl);
      order = each_append (λ y. y.command ≤ i) e before
          (each_so (λ y. y.command ≡ i) (λ y. y.command ≤ i) e (λ y same. omega arith) part.commands)
          (each_so (λ y. y.command < i) (λ y. y.command ≤ i) before (λ y low. omega arith) stands.earlier);
      once =
          let f : Note → ℕ = λ y. cond (is_same_part x y) 1 0 in
          let first : total f e ≡ 0 =
          total_none f e (each_so (λ y. mark_of y.event.what < are.1) (λ y. f y ≡ 0) e
          (λ y low. let other : eqb (mark_of y.event.what) are.1 ≡ false = ne_eqb _ _ (λ e. omega arith) in
          rw other (conds (eqb y.command i))) (marks_below i are.1 server at' outcome e are.5)) in
          let rest : total f before ≡ 0 = none_before i x before refl stands.earlier in
          let sum = total_append f e before in omega arith;
      meant = (
        (let clock = clock_is i x e before refl part.commands stands.earlier stands.kinds in
            let moment : moment_at (slice_get stage.script.commands i) ≡ at.0 = ap moment_at there in
            let top = stands.clock in omega arith),
        are.4,
      );
    } in
    subst (λ (n : Note). AtEach (IsCommanded stage) (n ∷ e ++ before)) (sym are.3) (new, old) where
      conds : (a : Bool) → ◌≡◌ {A = ℕ} (cond (a && false) 1 0) 0
      conds true = refl
      conds false = refl

judged_shard : (stage : Stage) (latest published i k : ℕ) (server : ServerId) (at : Moment) (outcome : Retirement)
    (e : List Note) (past : List Event) → latest ≤ at.0 → AreRetirings i server at outcome k e
    → IsRetirement stage.script.plan (timeout stage) published server at.0 outcome
    → newest past ≡ published → AllByRecursion (λ e. e.clock.0 ≤ latest) past
    → AllByRecursion (λ n. IsJudgedBy stage past n.event.clock.0 n.event.what) e
judged_shard stage latest published i k server at outcome [] past high are answer same low = tt
judged_shard stage latest published i k server at outcome (n ∷ e) past high are answer same low =
    let later = are.4 in
    let now : newest_until are.0.0 past ≡ published = until_all latest are.0.0 past (omega arith) low ∙ same in
    subst (λ (n : Note). AllByRecursion (λ n. IsJudgedBy stage past n.event.clock.0 n.event.what) (n ∷ e)) (sym are.3) (
      subst (λ (v : ℕ). IsRetirement stage.script.plan (timeout stage) v server at.0 outcome) (sym now) answer,
      judged_shard stage latest published i are.1 server at outcome e past high are.5 answer same low,
    )

placed_shard : (stage : Stage) (servers : List Serving) (i k : ℕ) (server : ServerId) (at : Moment)
    (outcome : Retirement) (e : List Note) → AreRetirings i server at outcome k e → HasServer servers server
    → k ≤ stage.script.setting.shards → AllByRecursion (λ n. IsPlaced stage servers n.event.what) e
placed_shard stage servers i k server at outcome [] are among few = tt
placed_shard stage servers i k server at outcome (n ∷ e) are among few =
    let next = are.2 in
    subst (λ (n : Note). AllByRecursion (λ n. IsPlaced stage servers n.event.what) (n ∷ e)) (sym are.3)
    ((among, omega arith), placed_shard stage servers i are.1 server at outcome e are.5 among (omega arith))

pub retire_step : (stage : Stage) (servers : List Serving) (latest published i : ℕ) (at : Moment) (server : ServerId)
    (e : List Note) → slice_get stage.script.commands i ≡ Some (Retire at server) → HasServer servers server
    → AreOf stage latest published i (Retire at server) e
    → IsStep stage servers latest published i (Retire at server) e
retire_step stage servers latest published i at server e there among of =
    let shards = stage.script.setting.shards in
    let due = of.0 in let outcome = of.1 in let is = of.2 in let are = of.4 in
    let part = part_of stage latest i shards server due outcome e (omega arith) are in
    let away = retirings_elsewhere stage i shards server due outcome e are in
    record {
      commands = part.commands;
      size = part.size;
      closes = part.closes;
      retires = λ s h low. part.retires s h ∙ (rw (lt-ltb h shards low) (conds (same_server server s)));
      no_other = λ s h high. part.retires s h ∙ (rw (le-ltb h shards high) (none (same_server server s)));
      syncs = part.syncs;
      seats = part.seats;
      since = part.since;
      placed = placed_shard stage servers i shards server due outcome e are among (omega arith);
      home = rw away refl;
      steps = λ past same low steps. rw away steps;
      judged = λ past same low. rw away
          (judged_shard stage latest published i shards server due outcome e past (omega arith) are of.3 same low);
      each = λ before stands each.
          each_shard stage latest i shards server at due outcome e before there is are stands each;
    } where
      conds : (a : Bool) → ◌≡◌ {A = ℕ} (cond (a && true) 1 0) (cond a 1 0)
      conds true = refl
      conds false = refl

      none : (a : Bool) → ◌≡◌ {A = ℕ} (cond (a && false) 1 0) 0
      none true = refl
      none false = refl

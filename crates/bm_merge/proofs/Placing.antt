-- A note at its place among the merged notes.
use Rattle.std.proofs.Common.{◌≡◌, ℕ, ◌+◌, ◌<◌, ◌≤◌, max, Bool, true, false, cond, inl, inr, List, [], ◌∷◌, ◌++◌}
use Rattle.std.proofs.Common.{refl, sym, ap, ◌∙◌, subst, arith, leb}
use Rattle.std.specs.List.{AllByRecursion}
use Rattle.std.proofs.lemmas.Bool.{cases_Bool, or_parts, eq-eqb, le-leb}
use Rattle.bm_core.specs.declared.events.What.{What}
use Rattle.bm_core.specs.declared.events.What.TheVariants.{Publish, Switch, Steer, Lose, Arrive, Close, Retire, Sync}
use Rattle.bm_core.specs.declared.events.Event.{Event}
use Rattle.bm_core.specs.declared.events.Stage.{Stage}
use Rattle.bm_core.specs.Runs.{Actor, same_actor, actor_of, is_by, AtEach, Run}
use Rattle.bm_core.specs.Runs.Actor.{Controller, MuxOf, ShardOf}
use Rattle.bm_core.specs.Accounts.{Routes, Rules}
use Rattle.bm_core.specs.Threads.{last_own}
use Rattle.bm_core.specs.Logs.{log_of}
use Rattle.bm_merge.specs.Merges.{Log, merged, by_clock, named, has_actor, HaveOwnLogs, stands_in, IsEntry, Agree}
use Rattle.bm_merge.specs.Notes.{Note, NotedLog, events_of, plain, all_notes, total, greatest, until, controlled}
use Rattle.bm_merge.proofs.Promised.{notes_by_clock, IsPromised, IsTold, ArePromised}
use Rattle.bm_merge.proofs.Placed.{IsFalling, key, key_clock, rank, rank_by, all_so}
use Rattle.bm_merge.proofs.Agreeing.{same_actor-true, named_entries}
use Rattle.bm_merge.proofs.Merging.{at_each_split, falls_below, newer, IsWhole, is_whole, merge_runs, leb_not}
use Rattle.bm_merge.proofs.Noting.{events_by_clock, events_append, events_gathered, total_by_clock, total_append}
use Rattle.bm_merge.proofs.Noting.{greatest_by_clock, greatest_append, each_by_clock, each_append, each_event}
use Rattle.bm_merge.proofs.Noting.{each_middle, moved_note}
use Rattle.bm_merge.proofs.Telling.{told_same, same_rest}

-- EACH NOTE STANDS IN A LOG

pub record IsStood (R : Routes) (F : Rules) (stage : Stage) (logs : List Log) (all : List Note) (n : Note) : Type 0
  where
    pub actor : Actor
    pub more : List Event
    pub rest : List Event
    pub is : named logs actor ≡ more ++ n.event ∷ rest
    pub told : IsTold R F stage logs all rest n

pub same_actor_refl : (a : Actor) → same_actor a a ≡ true
same_actor_refl Controller = refl
same_actor_refl (MuxOf m) = eq-eqb m m refl
same_actor_refl (ShardOf s h) = let a = eq-eqb s s refl in let b = eq-eqb h h refl in rw (a, b) refl

pub other_way : (a b : Actor) → same_actor a b ≡ false → same_actor b a ≡ false
other_way a b not = elim (cases_Bool (same_actor b a)) [
  | inl is ↦ let bad : same_actor a a ≡ false =
      subst (λ (c : Actor). same_actor a c ≡ false) (same_actor-true b a is) not in let good =
      same_actor_refl a in absurd (cc)
  | inr h ↦ h
]

abbrev IsNamed : List Log → NotedLog → Type 0
IsNamed logs l = named logs l.actor ≡ events_of l.notes

still_named : (x : Log) (logs : List Log) (some : List NotedLog) → has_actor (plain some) x.actor ≡ false
    → AllByRecursion (IsNamed logs) some → AllByRecursion (IsNamed (x ∷ logs)) some
still_named x logs [] other all = tt
still_named x logs (l ∷ some) other all =
    let parts = or_parts (same_actor l.actor x.actor) _ other
    in let not = other_way l.actor x.actor parts.0
    in ((rw not all.0), still_named x logs some parts.1 all.1)

all_named : (logs : List NotedLog) → HaveOwnLogs (plain logs) → AllByRecursion (IsNamed (plain logs)) logs
all_named [] own = tt
all_named (l ∷ logs) own = (
  (let same = same_actor_refl l.actor in rw same refl),
  still_named
      (record { actor = l.actor; events = events_of l.notes }) (plain logs) logs own.0 (all_named logs own.1),
)

each_stood : (R : Routes) (F : Rules) (stage : Stage) (logs : List Log) (all : List Note) (a : Actor)
    (more notes : List Note) → named logs a ≡ events_of (more ++ notes)
    → AtEach (λ rest n. IsTold R F stage logs all (events_of rest) n) notes
    → AllByRecursion (IsStood R F stage logs all) notes
each_stood R F stage logs all a more [] is each = tt
each_stood R F stage logs all a more (n ∷ notes) is each = (
  record {
    actor = a;
    more = events_of more;
    rest = events_of notes;
    is = is
        ∙ events_append more (n ∷ notes);
    told = each.0;
  },
  each_stood R F stage logs all a (more ++ n ∷ []) notes (is ∙ ap events_of (sym (moved_note more notes n))) each.1,
)

logs_stood : (R : Routes) (F : Rules) (stage : Stage) (logs : List Log) (all : List Note) (some : List NotedLog)
    → AllByRecursion (IsNamed logs) some
    → AllByRecursion (λ l. AtEach (λ rest n. IsTold R F stage logs all (events_of rest) n) l.notes) some
    → AllByRecursion (IsStood R F stage logs all) (all_notes some)
logs_stood R F stage logs all [] names told = tt
logs_stood R F stage logs all (l ∷ some) names told =
    each_append (IsStood R F stage logs all) (all_notes some) l.notes
    (logs_stood R F stage logs all some names.1 told.1)
    (each_stood R F stage logs all l.actor [] l.notes names.0 told.0)

-- THE MERGED NOTES

pub record AreWhole (R : Routes) (F : Rules) (stage : Stage) (logs : List NotedLog) (notes : List Note) : Type 0 where
  pub whole : IsWhole stage (plain logs) (events_of notes)
  pub run : Run stage (events_of notes)
  pub stood : AllByRecursion (IsStood R F stage (plain logs) (all_notes logs)) notes
  pub sums : (f : Note → ℕ) → total f notes ≡ total f (all_notes logs)
  pub tops : (f : Note → ℕ) → greatest f notes ≡ greatest f (all_notes logs)

pub merged_events : (logs : List NotedLog) → events_of (notes_by_clock (all_notes logs)) ≡ merged (plain logs)
merged_events logs = events_by_clock (all_notes logs) ∙ ap by_clock (events_gathered logs)

pub are_whole : (R : Routes) (F : Rules) (stage : Stage) (logs : List NotedLog) → ArePromised R F stage logs
    → AreWhole R F stage logs (notes_by_clock (all_notes logs))
are_whole R F stage logs p =
    let is : merged (plain logs) ≡ events_of (notes_by_clock (all_notes logs)) = sym (merged_events logs)
    in record {
      whole = subst (λ (l : List Event). IsWhole stage (plain logs) l) is (is_whole stage (plain logs) p.agree);
      run = subst (λ (l : List Event). Run stage l) is (merge_runs stage (plain logs) p.agree);
      stood = each_by_clock (IsStood R F stage (plain logs) (all_notes logs)) (all_notes logs)
          (logs_stood R F stage (plain logs) (all_notes logs) logs (all_named logs p.agree.actors) p.told);
      sums = λ f. total_by_clock f (all_notes logs);
      tops = λ f. greatest_by_clock f (all_notes logs);
    }

-- A PLACE

pub record IsPlace (R : Routes) (F : Rules) (stage : Stage) (logs : List NotedLog) (x : List Note) (n : Note)
    (past : List Note) : Type 0 where
  pub whole : IsWhole stage (plain logs) (events_of x ++ n.event ∷ events_of past)
  pub sums : (f : Note → ℕ) → total f x + (f n + total f past) ≡ total f (all_notes logs)
  pub tops : (f : Note → ℕ) → max (greatest f x) (max (f n) (greatest f past)) ≡ greatest f (all_notes logs)
  pub falls : IsFalling (key stage) (n.event ∷ events_of past)
  -- what is newer has no lower key, and what is older no higher one
  pub over : AllByRecursion (λ y. key stage n.event ≤ key stage y.event) x
  pub under : AllByRecursion (λ y. key stage y.event ≤ key stage n.event) past
  pub run : Run stage (n.event ∷ events_of past)
  pub told : IsTold R F stage (plain logs) (all_notes logs) (events_of past) n

run_below : (stage : Stage) (x past : List Event) → Run stage (x ++ past) → Run stage past
run_below stage [] past run = run
run_below stage (e ∷ x) past run = run_below stage x past run.1

lose_promised : (stage : Stage) (logs : List Log) (all : List Note) (a : Actor) (x y : List Event) (i clock : ℕ)
    (what : What) → stands_in stage what a ≡ true → is_by (actor_of stage what) a ≡ false
    → IsPromised stage logs all x i (last_own stage x (actor_of stage what)) clock what
    → IsPromised stage logs all y i (last_own stage y (actor_of stage what)) clock what
lose_promised stage logs all a x y i clock (Lose k hop) stands not p = tt
lose_promised stage logs all a x y i clock (Publish v) stands not p = absurd (cc)
lose_promised stage logs all a x y i clock (Switch m v) stands not p = absurd (cc)
lose_promised stage logs all a x y i clock (Steer k m) stands not p = absurd (cc)
lose_promised stage logs all a x y i clock (Arrive k hop server verdict) stands not p = absurd (cc)
lose_promised stage logs all a x y i clock (Close server flow closed) stands not p = absurd (cc)
lose_promised stage logs all a x y i clock (Retire server h at result) stands not p = absurd (cc)
lose_promised stage logs all a x y i clock Sync stands not p = absurd (cc)

told_here : (R : Routes) (F : Rules) (stage : Stage) (logs : List Log) (all : List Note) (x past : List Event)
    (n : Note) → IsWhole stage logs (x ++ n.event ∷ past) → IsStood R F stage logs all n
    → Agree stage logs → IsTold R F stage logs all past n
told_here R F stage logs all x past n whole stood agree =
    let entry : IsEntry stage logs stood.actor stood.rest n.event =
    at_each_split (IsEntry stage logs stood.actor) stood.more stood.rest n.event
    (subst (λ (l : List Event). AtEach (IsEntry stage logs stood.actor) l) stood.is
    (named_entries stage logs logs stood.actor agree.entries))
    in elim (cases_Bool (is_by (actor_of stage n.event.what) stood.actor)) [
      | inl mine ↦ told_same R F stage logs all stood.actor stood.rest past n mine
          (sym (same_rest stage logs stood.actor x past stood.more stood.rest n.event whole mine stood.is)) stood.told
      | inr not ↦
          record {
            command = stood.told.command;
            order = stood.told.order;
            phase = stood.told.phase;
            timed =
                lose_promised stage logs all stood.actor stood.rest past n.command n.event.clock.0 n.event.what
                entry.stands not stood.told.timed;
            routed = stood.told.routed;
            fate = stood.told.fate;
          }
    ]

pub place_of : (R : Routes) (F : Rules) (stage : Stage) (logs : List NotedLog) (x past : List Note) (n : Note)
    → Agree stage (plain logs) → AreWhole R F stage logs (x ++ n ∷ past) → IsPlace R F stage logs x n past
place_of R F stage logs x past n agree are =
    let is : events_of (x ++ n ∷ past) ≡ events_of x ++ n.event ∷ events_of past = events_append x (n ∷ past)
    in let whole : IsWhole stage (plain logs) (events_of x ++ n.event ∷ events_of past) =
    subst (λ (l : List Event). IsWhole stage (plain logs) l) is are.whole
    in let falls : IsFalling (key stage) (n.event ∷ events_of past) =
    falls_below (key stage) (events_of x) (n.event ∷ events_of past) whole.falls
    in record {
      whole = whole;
      sums = λ f. sym (total_append f x (n ∷ past)) ∙ are.sums f;
      tops = λ f. sym (greatest_append f x (n ∷ past)) ∙ are.tops f;
      falls = falls;
      over =
          each_event (λ e. key stage n.event ≤ key stage e) x
          (newer (key stage) (events_of x) (events_of past) n.event whole.falls);
      under = each_event (λ e. key stage e ≤ key stage n.event) past falls.0;
      run =
          run_below stage (events_of x) (n.event ∷ events_of past)
          (subst (λ (l : List Event). Run stage l) is are.run);
      told = told_here R F stage (plain logs) (all_notes logs) (events_of x) (events_of past) n whole
          (each_middle (IsStood R F stage (plain logs) (all_notes logs)) x past n are.stood) agree;
    }

-- WHAT THE CONTROLLER DID BEFORE

until_part_step : (stage : Stage) (clock : ℕ) (y : Event) (past : List Event) (mine : Bool) → y.clock.0 ≤ clock
    → until clock (log_of stage past Controller) ≡ log_of stage past Controller
    → until clock (cond mine (y ∷ log_of stage past Controller) (log_of stage past Controller))
    ≡ cond mine (y ∷ log_of stage past Controller) (log_of stage past Controller)
until_part_step stage clock y past true under old =
    let is : leb y.clock.0 clock ≡ true = le-leb _ _ under in rw is refl
until_part_step stage clock y past false under old = old

until_part : (stage : Stage) (clock : ℕ) (past : List Event) → AllByRecursion (λ y. y.clock.0 ≤ clock) past
    → until clock (log_of stage past Controller) ≡ log_of stage past Controller
until_part stage clock [] under = refl
until_part stage clock (y ∷ past) under =
    until_part_step stage clock y past (is_by (actor_of stage y.what) Controller) under.0
    (until_part stage clock past under.1)

until_over_step : (stage : Stage) (e y : Event) (part : List Event) (mine : Bool)
    → is_by (actor_of stage y.what) Controller ≡ mine → is_by (actor_of stage e.what) Controller ≡ false
    → key stage e ≤ key stage y
    → until e.clock.0 (cond mine (y ∷ part) part) ≡ until e.clock.0 part
until_over_step stage e y part true is not over =
    let r : rank stage y ≡ 0 = ap (λ (b : Bool). rank_by b) is
    in let s : rank stage e ≡ 1 = ap (λ (b : Bool). rank_by b) not
    in let above : e.clock.0 < y.clock.0 = omega arith
    in let test : leb y.clock.0 e.clock.0 ≡ false = leb_not _ _ above
    in rw test refl
until_over_step stage e y part false is not over = refl

until_over : (stage : Stage) (x past : List Event) (e : Event) → is_by (actor_of stage e.what) Controller ≡ false
    → AllByRecursion (λ y. key stage e ≤ key stage y) x
    → until e.clock.0 (log_of stage (x ++ e ∷ past) Controller) ≡ until e.clock.0 (log_of stage past Controller)
until_over stage [] past e not over = rw not refl
until_over stage (y ∷ x) past e not over =
    until_over_step stage e y (log_of stage (x ++ e ∷ past) Controller) (is_by (actor_of stage y.what) Controller)
    refl not over.0 ∙ until_over stage x past e not over.1

pub under_clock : (stage : Stage) (e : Event) (past : List Event)
    → AllByRecursion (λ y. key stage y ≤ key stage e) past → AllByRecursion (λ y. y.clock.0 ≤ e.clock.0) past
under_clock stage e past under =
    all_so (λ y. key stage y ≤ key stage e) (λ y. y.clock.0 ≤ e.clock.0) past (λ y h. key_clock stage y e h) under

-- before an event of another the controller has done what it did up to that clock
pub control_here : (R : Routes) (F : Rules) (stage : Stage) (logs : List NotedLog) (x past : List Note) (n : Note)
    → IsPlace R F stage logs x n past → is_by (actor_of stage n.event.what) Controller ≡ false
    → log_of stage (events_of past) Controller ≡ controlled (plain logs) n.event.clock.0
control_here R F stage logs x past n at not =
    sym (until_part stage n.event.clock.0 (events_of past) (under_clock stage n.event (events_of past) at.falls.0))
    ∙ sym (until_over stage (events_of x) (events_of past) n.event not
    (newer (key stage) (events_of x) (events_of past) n.event at.whole.falls))
    ∙ ap (λ (l : List Event). until n.event.clock.0 l) (at.whole.part Controller ∙ at.whole.posts)

-- How far the commands are carried out before a note.
use Rattle.std.proofs.Common.{◌≡◌, ℕ, zero, suc, ◌+◌, ◌<◌, ◌≤◌, Bool, true, false, cond, ◌&&◌, not, inl, inr, List}
use Rattle.std.proofs.Common.{[], ◌∷◌, Option, Some, None, refl, sym, ap, ◌∙◌, subst, arith, leb, ltb, eqb}
use Rattle.std.specs.Prelude.{length, slice_get}
use Rattle.std.specs.List.{AllByRecursion}
use Rattle.std.proofs.lemmas.Bool.{cases_Bool, cases_order, cases_eq, le-leb, lt-ltb, and_from, or_cases, eqb-true}
use Rattle.std.proofs.lemmas.Bool.{eq-eqb, ne_eqb, eqb-false}
use Rattle.bm_table.specs.declared.script.Command.{Command}
use Rattle.bm_table.specs.declared.script.Command.TheVariants.{Change as ChangeCommand, Close as CloseCommand}
use Rattle.bm_table.specs.declared.script.Command.TheVariants.{Retire as RetireCommand, Sync as SyncCommand}
use Rattle.bm_core.specs.declared.events.What.{What}
use Rattle.bm_core.specs.declared.events.What.TheVariants.{Publish, Switch, Steer, Lose, Arrive, Close, Retire, Sync}
use Rattle.bm_core.specs.declared.events.Stage.{Stage}
use Rattle.bm_core.specs.Accounts.{Routes, Rules}
use Rattle.bm_core.specs.Threads.{Progress, next_command, goes_on, progress_at, command_at, is_number_among, IsOf}
use Rattle.bm_core.specs.Threads.{is_command}
use Rattle.bm_merge.specs.Notes.{Note, NotedLog, events_of, all_notes, total, many, is_earlier, mark_of, size_of}
use Rattle.bm_merge.proofs.Promised.{is_part, ArePromised}
use Rattle.bm_merge.proofs.Placed.{key, key_clock}
use Rattle.bm_merge.proofs.Noting.{total_most, each_so}
use Rattle.bm_merge.proofs.Placing.{IsPlace}

-- THE COMMAND OF AN EVENT

of_more : (c : Option Command) (done : List ℕ) (what : What) → is_number_among done (mark_of what) ≡ false
    → IsOf c [] what → IsOf c done what
of_more None done (Publish w) none is = is
of_more None done (Switch m v2) none is = is
of_more None done (Steer k m) none is = is
of_more None done (Lose k hop) none is = is
of_more None done (Arrive k hop server2 verdict) none is = is
of_more None done (Close s f closed) none is = is
of_more None done (Retire s h moment result) none is = is
of_more None done Sync none is = is
of_more (Some (ChangeCommand v)) done (Publish w) none is = is
of_more (Some (ChangeCommand v)) done (Switch m v2) none is = is
of_more (Some (ChangeCommand v)) done (Steer k m) none is = is
of_more (Some (ChangeCommand v)) done (Lose k hop) none is = is
of_more (Some (ChangeCommand v)) done (Arrive k hop server2 verdict) none is = is
of_more (Some (ChangeCommand v)) done (Close s f closed) none is = is
of_more (Some (ChangeCommand v)) done (Retire s h moment result) none is = is
of_more (Some (ChangeCommand v)) done Sync none is = is
of_more (Some (CloseCommand at server flow)) done (Publish w) none is = is
of_more (Some (CloseCommand at server flow)) done (Switch m v2) none is = is
of_more (Some (CloseCommand at server flow)) done (Steer k m) none is = is
of_more (Some (CloseCommand at server flow)) done (Lose k hop) none is = is
of_more (Some (CloseCommand at server flow)) done (Arrive k hop server2 verdict) none is = is
of_more (Some (CloseCommand at server flow)) done (Close s f closed) none is = is
of_more (Some (CloseCommand at server flow)) done (Retire s h moment result) none is = is
of_more (Some (CloseCommand at server flow)) done Sync none is = is
of_more (Some (RetireCommand at server)) done (Publish w) none is = is
of_more (Some (RetireCommand at server)) done (Switch m v2) none is = is
of_more (Some (RetireCommand at server)) done (Steer k m) none is = is
of_more (Some (RetireCommand at server)) done (Lose k hop) none is = is
of_more (Some (RetireCommand at server)) done (Arrive k hop server2 verdict) none is = is
of_more (Some (RetireCommand at server)) done (Close s f closed) none is = is
of_more (Some (RetireCommand at server)) done (Retire s x moment result) none is = (is.0, none)
of_more (Some (RetireCommand at server)) done Sync none is = is
of_more (Some (SyncCommand at)) done (Publish w) none is = is
of_more (Some (SyncCommand at)) done (Switch m v2) none is = is
of_more (Some (SyncCommand at)) done (Steer k m) none is = is
of_more (Some (SyncCommand at)) done (Lose k hop) none is = is
of_more (Some (SyncCommand at)) done (Arrive k hop server2 verdict) none is = is
of_more (Some (SyncCommand at)) done (Close s f closed) none is = is
of_more (Some (SyncCommand at)) done (Retire s h moment result) none is = is
of_more (Some (SyncCommand at)) done Sync none is = is

pub free : (c : Option Command) (done : List ℕ) (what : What) → is_command what ≡ false → IsOf c done what
free None done (Switch m v2) not = tt
free None done (Steer k m) not = tt
free None done (Lose k hop) not = tt
free None done (Arrive k hop server2 verdict) not = tt
free (Some (ChangeCommand v)) done (Switch m v2) not = tt
free (Some (ChangeCommand v)) done (Steer k m) not = tt
free (Some (ChangeCommand v)) done (Lose k hop) not = tt
free (Some (ChangeCommand v)) done (Arrive k hop server2 verdict) not = tt
free (Some (CloseCommand at server flow)) done (Switch m v2) not = tt
free (Some (CloseCommand at server flow)) done (Steer k m) not = tt
free (Some (CloseCommand at server flow)) done (Lose k hop) not = tt
free (Some (CloseCommand at server flow)) done (Arrive k hop server2 verdict) not = tt
free (Some (RetireCommand at server)) done (Switch m v2) not = tt
free (Some (RetireCommand at server)) done (Steer k m) not = tt
free (Some (RetireCommand at server)) done (Lose k hop) not = tt
free (Some (RetireCommand at server)) done (Arrive k hop server2 verdict) not = tt
free (Some (SyncCommand at)) done (Switch m v2) not = tt
free (Some (SyncCommand at)) done (Steer k m) not = tt
free (Some (SyncCommand at)) done (Lose k hop) not = tt
free (Some (SyncCommand at)) done (Arrive k hop server2 verdict) not = tt
free c done (Publish w) not = absurd (cc)
free c done (Close s f closed) not = absurd (cc)
free c done (Retire s h moment result) not = absurd (cc)
free c done Sync not = absurd (cc)

-- MARKS

abbrev pub one_if : Bool → ℕ
one_if b = cond b 1 0

-- the shards of the events of the command, the newest first
abbrev pub marks : ℕ → List Note → List ℕ
marks i [] = []
marks i (n ∷ past) = cond (is_part i n) (mark_of n.event.what ∷ marks i past) (marks i past)

marks_many : (i : ℕ) (past : List Note) → length (marks i past) ≡ many (is_part i) past
marks_many i [] = refl
marks_many i (n ∷ past) = go (is_part i n) (marks_many i past) where
  go : (b : Bool) → length (marks i past) ≡ many (is_part i) past
      → length (cond b (mark_of n.event.what ∷ marks i past) (marks i past)) ≡ one_if b + many (is_part i) past
  go true old = omega arith
  go false old = omega arith

among_marks : (i h : ℕ) (past : List Note) → is_number_among (marks i past) h ≡ true
    → 1 ≤ many (λ n. is_part i n && eqb (mark_of n.event.what) h) past
among_marks i h [] is = absurd (cc)
among_marks i h (n ∷ past) is = go (is_part i n) is (among_marks i h past) where
  go : (b : Bool) → is_number_among (cond b (mark_of n.event.what ∷ marks i past) (marks i past)) h ≡ true
      → (is_number_among (marks i past) h ≡ true → 1 ≤ many (λ n. is_part i n && eqb (mark_of n.event.what) h) past)
      → 1 ≤ one_if (b && eqb (mark_of n.event.what) h) + many (λ n. is_part i n && eqb (mark_of n.event.what) h) past
  go true is old = elim (or_cases (eqb (mark_of n.event.what) h) _ is) [
    | inl a ↦ rw a (omega arith)
    | inr b ↦ let more = old b in omega arith
  ]
  go false is old = let more = old is in omega arith

-- the commands of older notes are no later
abbrev pub Upto : ℕ → List Note → Type 0
Upto i past = AllByRecursion (λ y. is_command y.event.what ≡ true → y.command ≤ i) past

abbrev pub Monotone : List Note → Type 0
Monotone [] = Unit {0}
Monotone (n ∷ past) = (is_command n.event.what ≡ true → Upto n.command past) × Monotone past

not_part : (i j : ℕ) (b : Bool) (k : ℕ) → (b ≡ true → k ≤ j) → j < i → (b && eqb k i) ≡ false
not_part i j false k most low = refl
not_part i j true k most low = let h = most refl in ne_eqb _ _ (λ e. omega arith)

pub no_marks : (i j : ℕ) (past : List Note) → Upto j past → j < i → marks i past ≡ []
no_marks i j [] up low = refl
no_marks i j (n ∷ past) up low =
    let not : is_part i n ≡ false = not_part i j (is_command n.event.what) n.command up.0 low
    in rw not (no_marks i j past up.1 low)

-- HOW FAR

pub record IsReached (stage : Stage) (past : List Note) : Type 0 where
  pub at : ℕ
  pub progress_is : progress_at stage (events_of past) ≡ record { commands = at; shards = marks at past }
  pub up : Upto at past
  pub mono : Monotone past
  -- earlier commands are done
  pub full : (i : ℕ) → i < at
      → many (is_part i) past ≡ size_of stage.script.setting.shards (slice_get stage.script.commands i)
  -- and this one isn't
  pub room : at < length stage.script.commands
      → many (is_part at) past < size_of stage.script.setting.shards (slice_get stage.script.commands at)

size_one : (shards : ℕ) (c : Option Command) → 1 ≤ shards → 1 ≤ size_of shards c
size_one shards None h = omega arith
size_one shards (Some (ChangeCommand v)) h = omega arith
size_one shards (Some (CloseCommand at server flow)) h = omega arith
size_one shards (Some (RetireCommand at server)) h = h
size_one shards (Some (SyncCommand at)) h = omega arith

pub nothing_reached : (stage : Stage) → 1 ≤ stage.script.setting.shards → IsReached stage []
nothing_reached stage one = record {
  at = 0;
  progress_is = refl;
  up = tt;
  mono = tt;
  full = λ i low. absurd (omega arith);
  room =
      λ low. let size = size_one stage.script.setting.shards (slice_get stage.script.commands 0) one in omega arith;
}

-- an event that no command has
stays : (shards : ℕ) (what : What) (p : Progress) → is_command what ≡ false → goes_on shards what p ≡ p
stays shards (Switch m v) p not = refl
stays shards (Steer k m) p not = refl
stays shards (Lose k hop) p not = refl
stays shards (Arrive k hop server verdict) p not = refl
stays shards (Publish v) p not = absurd (cc)
stays shards (Close server flow closed) p not = absurd (cc)
stays shards (Retire server h at result) p not = absurd (cc)
stays shards Sync p not = absurd (cc)

reached_other : (stage : Stage) (n : Note) (past : List Note) → is_command n.event.what ≡ false → IsReached stage past
    → IsReached stage (n ∷ past)
reached_other stage n past not r =
    let none : (i : ℕ) → is_part i n ≡ false = λ i. rw not refl
    in record {
      at = r.at;
      progress_is =
          stays stage.script.setting.shards n.event.what _ not ∙ r.progress_is ∙ (let no = none r.at in rw no refl);
      up = ((λ is. absurd (let bad : true ≡ false = sym is ∙ not in cc)), r.up);
      mono = ((λ is. absurd (let bad : true ≡ false = sym is ∙ not in cc)), r.mono);
      full = λ i low. let no = none i in let old = r.full i low in rw no (omega arith);
      room = λ low. let no = none r.at in let old = r.room low in rw no (omega arith);
    }

is_part_own : (n : Note) → is_command n.event.what ≡ true → is_part n.command n ≡ true
is_part_own n is = and_from _ _ is (eq-eqb _ _ refl)

-- it is the next command's
pub is_next : (R : Routes) (F : Rules) (stage : Stage) (logs : List NotedLog) (x past : List Note) (n : Note)
    → ArePromised R F stage logs → IsPlace R F stage logs x n past → (r : IsReached stage past)
    → is_command n.event.what ≡ true → n.command < length stage.script.commands → n.command ≡ r.at
is_next R F stage logs x past n p at r is within = elim (cases_order n.command r.at) [
  | inl same ↦ same
  | inr (inl low) ↦
      let part : is_part n.command n ≡ true = is_part_own n is
      in let one : one_if (is_part n.command n) ≡ 1 = rw part refl
      in let sum : many (is_part n.command) x + (one_if (is_part n.command n) + many (is_part n.command) past)
      ≡ many (is_part n.command) (all_notes logs) = at.sums (λ y. one_if (is_part n.command y))
      in let all = p.complete n.command within
      in let old = r.full n.command low
      in absurd (omega arith)
  | inr (inr high) ↦
      let not : is_part r.at n ≡ false = rw is (ne_eqb _ _ (λ e. omega arith))
      in let none : one_if (is_part r.at n) ≡ 0 = rw not refl
      in let sum : many (is_part r.at) x + (one_if (is_part r.at n) + many (is_part r.at) past)
      ≡ many (is_part r.at) (all_notes logs) = at.sums (λ y. one_if (is_part r.at y))
      in let all = p.complete r.at (omega arith)
      in let old = r.room (omega arith)
      in let zero_all = at.told.order is
      in let late : Note → ℕ = λ y. one_if (is_earlier n.command y && leb n.event.clock.0 y.event.clock.0)
      in let split : total late x + (late n + total late past) ≡ total late (all_notes logs) = at.sums late
      in let most : many (is_part r.at) x ≤ total late x =
      total_most (λ y. one_if (is_part r.at y)) late x
      (each_so (λ y. key stage n.event ≤ key stage y.event) (λ y. one_if (is_part r.at y) ≤ late y) x
      (λ y over. earlier_part (is_command y.event.what) y.command r.at n.command n.event.clock.0 y.event.clock.0 high
      (key_clock stage n.event y.event over)) at.over)
      in absurd (omega arith)
] where
  earlier_part : (b : Bool) (k i j c d : ℕ) → i < j → c ≤ d
      → one_if (b && eqb k i) ≤ one_if ((b && ltb k j) && leb c d)
  earlier_part false k i j c d low over = omega arith
  earlier_part true k i j c d low over = elim (cases_Bool (eqb k i)) [
    | inl same ↦
        let at : k ≡ i = eqb-true _ _ same
        in let less : ltb k j ≡ true = lt-ltb _ _ (omega arith)
        in let clocks : leb c d ≡ true = le-leb _ _ over
        in rw (same, less, clocks) (omega arith)
    | inr other ↦ rw other (omega arith)
  ]

-- AFTER AN EVENT OF THE NEXT COMMAND

upto_more : (i j : ℕ) (past : List Note) → i ≤ j → Upto i past → Upto j past
upto_more i j [] low up = tt
upto_more i j (n ∷ past) low up = ((λ is. let h = up.0 is in omega arith), upto_more i j past low up.1)

no_parts : (i : ℕ) (past : List Note) → marks i past ≡ [] → many (is_part i) past ≡ 0
no_parts i past none = sym (marks_many i past) ∙ ap length none

-- its last event
ends_command : (stage : Stage) (n : Note) (past : List Note) (r : IsReached stage past)
    → 1 ≤ stage.script.setting.shards → is_command n.event.what ≡ true → n.command ≡ r.at
    → goes_on stage.script.setting.shards n.event.what (record { commands = r.at; shards = marks r.at past })
    ≡ record { commands = suc r.at; shards = [] }
    → suc (many (is_part r.at) past) ≡ size_of stage.script.setting.shards (slice_get stage.script.commands r.at)
    → IsReached stage (n ∷ past)
ends_command stage n past r one is same goes size =
    let mine : is_part r.at n ≡ true = and_from _ _ is (eq-eqb _ _ same)
    in let later : is_part (suc r.at) n ≡ false = rw is (ne_eqb _ _ (λ e. omega arith))
    in let none : marks (suc r.at) past ≡ [] = no_marks (suc r.at) r.at past r.up (omega arith)
    in record {
      at = suc r.at;
      progress_is =
          ap (λ (p : Progress). goes_on stage.script.setting.shards n.event.what p) r.progress_is ∙ goes
          ∙ (rw (later, none) refl);
      up = ((λ c. omega arith), upto_more r.at (suc r.at) past (omega arith) r.up);
      mono = ((λ c. rw same r.up), r.mono);
      full = λ i low. elim (cases_eq i r.at) [
        | inl at ↦
            subst (λ (j : ℕ). many (is_part j) (n ∷ past)
            ≡ size_of stage.script.setting.shards (slice_get stage.script.commands j)) (sym at)
            (rw mine (omega arith))
        | inr not ↦
            let other : is_part i n ≡ false = rw is (ne_eqb _ _ (λ e. not (omega arith)))
            in let old = r.full i (omega arith)
            in rw other (omega arith)
      ];
      room = λ low.
          let zero : many (is_part (suc r.at)) past ≡ 0 = no_parts (suc r.at) past none
          in let size = size_one stage.script.setting.shards (slice_get stage.script.commands (suc r.at)) one
          in rw later (omega arith);
    }

-- an event of a retire whose other shards are left
keeps_command : (stage : Stage) (n : Note) (past : List Note) (r : IsReached stage past)
    → is_command n.event.what ≡ true → n.command ≡ r.at
    → goes_on stage.script.setting.shards n.event.what (record { commands = r.at; shards = marks r.at past })
    ≡ record { commands = r.at; shards = mark_of n.event.what ∷ marks r.at past }
    → suc (many (is_part r.at) past) < size_of stage.script.setting.shards (slice_get stage.script.commands r.at)
    → IsReached stage (n ∷ past)
keeps_command stage n past r is same goes size =
    let mine : is_part r.at n ≡ true = and_from _ _ is (eq-eqb _ _ same)
    in record {
      at = r.at;
      progress_is =
          ap (λ (p : Progress). goes_on stage.script.setting.shards n.event.what p) r.progress_is ∙ goes
          ∙ (rw mine refl);
      up = ((λ c. omega arith), r.up);
      mono = ((λ c. rw same r.up), r.mono);
      full = λ i low.
          let other : is_part i n ≡ false = rw is (ne_eqb _ _ (λ e. omega arith))
          in let old = r.full i low
          in rw other (omega arith);
      room = λ low. rw mine (omega arith);
    }

-- THE EVENT

abbrev is_retire : What → Bool
is_retire (Retire server h at result) = true
is_retire _ = false

-- the commands' events, and what is promised of them
within_of : {A : Type 0} (items : List A) (i : ℕ) (P : Option A → Type 0) → (P None → ⊥) → P (slice_get items i)
    → i < length items
within_of [] i P none h = absurd (none h)
within_of (a ∷ items) zero P none h = omega arith
within_of (a ∷ items) (suc i) P none h = let low = within_of items i P none h in omega arith

no_command : (what : What) → is_command what ≡ true → IsOf None [] what → ⊥
no_command (Publish v) is h = h
no_command (Close server flow closed) is h = h
no_command (Retire server x at result) is h = h
no_command Sync is h = h
no_command (Switch m v) is h = absurd (cc)
no_command (Steer k m) is h = absurd (cc)
no_command (Lose k hop) is h = absurd (cc)
no_command (Arrive k hop server verdict) is h = absurd (cc)

pub is_within : (stage : Stage) (i : ℕ) (what : What) → is_command what ≡ true
    → IsOf (slice_get stage.script.commands i) [] what → i < length stage.script.commands
is_within stage i what is of = within_of stage.script.commands i (λ c. IsOf c [] what) (no_command what is) of

-- an event of another command than a retire is its only one
one_event : (shards : ℕ) (c : Option Command) (what : What) → IsOf c [] what → is_command what ≡ true
    → is_retire what ≡ false → size_of shards c ≡ 1
one_event shards None what of is not = refl
one_event shards (Some (ChangeCommand v)) what of is not = refl
one_event shards (Some (CloseCommand at server flow)) what of is not = refl
one_event shards (Some (SyncCommand at)) what of is not = refl
one_event shards (Some (RetireCommand at server)) (Publish v) of is not = absurd of
one_event shards (Some (RetireCommand at server)) (Close s f closed) of is not = absurd of
one_event shards (Some (RetireCommand at server)) Sync of is not = absurd of
one_event shards (Some (RetireCommand at server)) (Retire s x moment result) of is not = absurd (cc)
one_event shards (Some (RetireCommand at server)) (Switch m v) of is not = absurd (cc)
one_event shards (Some (RetireCommand at server)) (Steer k m) of is not = absurd (cc)
one_event shards (Some (RetireCommand at server)) (Lose k hop) of is not = absurd (cc)
one_event shards (Some (RetireCommand at server)) (Arrive k hop s verdict) of is not = absurd (cc)

all_events : (shards : ℕ) (c : Option Command) (what : What) → IsOf c [] what → is_retire what ≡ true
    → size_of shards c ≡ shards
all_events shards (Some (RetireCommand at server)) what of is = refl
all_events shards None (Retire s x moment result) of is = absurd of
all_events shards (Some (ChangeCommand v)) (Retire s x moment result) of is = absurd of
all_events shards (Some (CloseCommand at server flow)) (Retire s x moment result) of is = absurd of
all_events shards (Some (SyncCommand at)) (Retire s x moment result) of is = absurd of
all_events shards c (Publish v) of is = absurd (cc)
all_events shards c (Close s f closed) of is = absurd (cc)
all_events shards c Sync of is = absurd (cc)
all_events shards c (Switch m v) of is = absurd (cc)
all_events shards c (Steer k m) of is = absurd (cc)
all_events shards c (Lose k hop) of is = absurd (cc)
all_events shards c (Arrive k hop s verdict) of is = absurd (cc)

goes_next : (shards : ℕ) (what : What) (p : Progress) → is_command what ≡ true → is_retire what ≡ false
    → goes_on shards what p ≡ next_command p
goes_next shards (Publish v) p is not = refl
goes_next shards (Close server flow closed) p is not = refl
goes_next shards Sync p is not = refl
goes_next shards (Retire server h at result) p is not = absurd (cc)
goes_next shards (Switch m v) p is not = absurd (cc)
goes_next shards (Steer k m) p is not = absurd (cc)
goes_next shards (Lose k hop) p is not = absurd (cc)
goes_next shards (Arrive k hop server verdict) p is not = absurd (cc)

goes_retire : (shards : ℕ) (what : What) (p : Progress) (b : Bool) → is_retire what ≡ true
    → eqb (suc (length p.shards)) shards ≡ b
    → goes_on shards what p
    ≡ cond b (next_command p) (record { commands = p.commands; shards = mark_of what ∷ p.shards })
goes_retire shards (Retire server h at result) p true is same = rw same refl
goes_retire shards (Retire server h at result) p false is same = rw same refl
goes_retire shards (Publish v) p b is same = absurd (cc)
goes_retire shards (Close server flow closed) p b is same = absurd (cc)
goes_retire shards Sync p b is same = absurd (cc)
goes_retire shards (Switch m v) p b is same = absurd (cc)
goes_retire shards (Steer k m) p b is same = absurd (cc)
goes_retire shards (Lose k hop) p b is same = absurd (cc)
goes_retire shards (Arrive k hop server verdict) p b is same = absurd (cc)

reached_command : (stage : Stage) (n : Note) (past : List Note) (r : IsReached stage past)
    → 1 ≤ stage.script.setting.shards → is_command n.event.what ≡ true → n.command ≡ r.at
    → r.at < length stage.script.commands → IsOf (slice_get stage.script.commands r.at) [] n.event.what
    → IsReached stage (n ∷ past)
reached_command stage n past r one is same within of = elim (cases_Bool (is_retire n.event.what)) [
  | inr not ↦
      let size = one_event stage.script.setting.shards (slice_get stage.script.commands r.at) n.event.what of is not
      in let room = r.room within
      in ends_command stage n past r one is same (goes_next stage.script.setting.shards n.event.what _ is not)
      (omega arith)
  | inl retire ↦
      let size = all_events stage.script.setting.shards (slice_get stage.script.commands r.at) n.event.what of retire
      in let room = r.room within
      in let many_is : length (marks r.at past) ≡ many (is_part r.at) past = marks_many r.at past
      in elim (cases_Bool (eqb (suc (length (marks r.at past))) stage.script.setting.shards)) [
        | inl last ↦
            let all : suc (length (marks r.at past)) ≡ stage.script.setting.shards = eqb-true _ _ last
            in ends_command stage n past r one is same
            (goes_retire stage.script.setting.shards n.event.what
            (record { commands = r.at; shards = marks r.at past }) true retire last) (omega arith)
        | inr more ↦
            let left : suc (length (marks r.at past)) ≡ stage.script.setting.shards → ⊥ = eqb-false _ _ more
            in keeps_command stage n past r is same
            (goes_retire stage.script.setting.shards n.event.what
            (record { commands = r.at; shards = marks r.at past }) false retire more) (omega arith)
      ]
]

pub reached_next : (R : Routes) (F : Rules) (stage : Stage) (logs : List NotedLog) (x past : List Note) (n : Note)
    → ArePromised R F stage logs → IsPlace R F stage logs x n past → IsReached stage past → IsReached stage (n ∷ past)
reached_next R F stage logs x past n p at r = elim (cases_Bool (is_command n.event.what)) [
  | inr not ↦ reached_other stage n past not r
  | inl is ↦
      let within : n.command < length stage.script.commands =
      is_within stage n.command n.event.what is at.told.command
      in let same : n.command ≡ r.at = is_next R F stage logs x past n p at r is within
      in let one : 1 ≤ stage.script.setting.shards = p.agree.sound.script.setting.shards.0
      in reached_command stage n past r one is same (omega arith)
      (subst (λ (i : ℕ). IsOf (slice_get stage.script.commands i) [] n.event.what) same at.told.command)
]

-- it is one of its command's
pub command_here : (R : Routes) (F : Rules) (stage : Stage) (logs : List NotedLog) (x past : List Note) (n : Note)
    → ArePromised R F stage logs → IsPlace R F stage logs x n past → (r : IsReached stage past)
    → IsOf (command_at stage (events_of past)) (progress_at stage (events_of past)).shards n.event.what
command_here R F stage logs x past n p at r = elim (cases_Bool (is_command n.event.what)) [
  | inr not ↦ free _ _ n.event.what not
  | inl is ↦
      let within : n.command < length stage.script.commands =
      is_within stage n.command n.event.what is at.told.command
      in let same : n.command ≡ r.at = is_next R F stage logs x past n p at r is within
      in let mine : is_part r.at n ≡ true = and_from _ _ is (eq-eqb _ _ same)
      in let hit : eqb (mark_of n.event.what) (mark_of n.event.what) ≡ true = eq-eqb _ _ refl
      in let f : Note → ℕ = λ y. one_if (is_part r.at y && eqb (mark_of y.event.what) (mark_of n.event.what))
      in let own : one_if (is_part r.at n && eqb (mark_of n.event.what) (mark_of n.event.what)) ≡ 1 =
      rw (mine, hit) refl
      in let sum : total f x + (f n + total f past) ≡ total f (all_notes logs) = at.sums f
      in let most : total f (all_notes logs) ≤ 1 = p.shards r.at (mark_of n.event.what)
      in let here : f n ≡ 1 = own
      in let new : is_number_among (marks r.at past) (mark_of n.event.what) ≡ false =
      elim (cases_Bool (is_number_among (marks r.at past) (mark_of n.event.what))) [
        | inl old ↦ let twice : 1 ≤ total f past =
            among_marks r.at (mark_of n.event.what) past old in absurd (omega arith)
        | inr h ↦ h
      ]
      in subst (λ (q : Progress). IsOf (slice_get stage.script.commands q.commands) q.shards n.event.what)
      (sym r.progress_is)
      (of_more (slice_get stage.script.commands r.at) (marks r.at past) n.event.what new
      (subst (λ (i : ℕ). IsOf (slice_get stage.script.commands i) [] n.event.what) same at.told.command))
]

-- How many notes there are, where a worker may have given up.
use Rattle.std.proofs.Common.{◌≡◌, ℕ, zero, suc, ◌+◌, ◌*◌, ◌<◌, ◌≤◌, Bool, true, false, cond, ◌&&◌, List, []}
use Rattle.std.proofs.Common.{◌∷◌, ◌++◌, length, length-append, Option, Some, None, refl, sym, ◌∙◌, subst, arith}
use Rattle.std.proofs.Common.{eqb, leb, ltb, inl, inr}
use Rattle.std.specs.Prelude.{slice_get, take}
use Rattle.std.specs.List.{AllByRecursion}
use Rattle.std.proofs.lemmas.Bool.{cases_Bool, cases_lt, eq-eqb, eqb-true, and_parts, leb-true, le-leb}
use Rattle.bm_base.specs.declared.ids.MuxId.{MuxId}
use Rattle.bm_table.specs.declared.script.Command.{Command}
use Rattle.bm_table.specs.declared.script.Command.TheVariants.{Change as ChangeCommand, Close as CloseCommand}
use Rattle.bm_table.specs.declared.script.Command.TheVariants.{Retire as RetireCommand, Sync as SyncCommand}
use Rattle.bm_core.specs.declared.events.Event.{Event}
use Rattle.bm_core.specs.declared.events.Stage.{Stage}
use Rattle.bm_core.specs.declared.events.What.{What}
use Rattle.bm_core.specs.declared.events.What.TheVariants.{Publish, Switch, Steer, Lose, Arrive, Close, Retire, Sync}
use Rattle.bm_core.specs.Accounts.{counts, count_of, is_sync, steers_packet, wants_sync}
use Rattle.bm_core.specs.Runs.{AtEach, is_by}
use Rattle.bm_core.specs.Runs.Actor.{Controller, MuxOf}
use Rattle.bm_core.specs.Stages.{IsSound}
use Rattle.bm_core.specs.Threads.{steers_later}
use Rattle.bm_merge.specs.Notes.{Note, events_of, many, size_of, total}
use Rattle.bm_merge.specs.Workers.{notes_of_all, carries, notes_by, home_of, home_part, is_home}
use Rattle.bm_merge.proofs.Noting.{counts_notes, each_so, total_append, total_none}
use Rattle.bm_merge.proofs.Reaching.{one_if}
use Rattle.bm_merge.proofs.Sharing.{notes_upto, sum_seats}
use Rattle.bm_worker.specs.Phases.{IsMuxGiven, is_steer, mux_log}
use Rattle.bm_worker.specs.Assigned.{is_mux, is_assigned, assigned_mux}
use Rattle.bm_lead.specs.Commands.{AreDone, control_log}
use Rattle.bm_world.proofs.InLogs.{IsAmong, all_among}
use Rattle.bm_world.proofs.Ending.{is_under, one_mux}
use Rattle.bm_world.proofs.Homes.{home_is}
use Rattle.bm_world.proofs.Leaving.{home_fewer}

-- SUMS

sum_plus : (g h : ℕ → ℕ) (n : ℕ) → sum_seats (λ k. g k + h k) n ≡ sum_seats g n + sum_seats h n
sum_plus g h zero = omega arith
sum_plus g h (suc n) = let old = sum_plus g h n in omega arith

sum_none : (n : ℕ) → sum_seats (λ k. 0) n ≡ 0
sum_none zero = refl
sum_none (suc n) = let old = sum_none n in omega arith

sum_some : (g : ℕ → ℕ) (n k : ℕ) → k < n → 1 ≤ g k → 1 ≤ sum_seats g n
sum_some g zero k low one = absurd (omega arith)
sum_some g (suc n) k low one = elim (cases_lt k n) [
  | inl before ↦ let old = sum_some g n k before one in omega arith
  | inr last ↦
      let same : k ≡ n = omega arith
      in let here : 1 ≤ g n = subst (λ (i : ℕ). 1 ≤ g i) same one
      in omega arith
]

sum_ones : (g : ℕ → ℕ) (n : ℕ) → ((k : ℕ) → k < n → g k ≤ 1) → sum_seats g n ≤ n
sum_ones g zero few = omega arith
sum_ones g (suc n) few =
    let old = sum_ones g n (λ k low. few k (omega arith)) in let here = few n (omega arith) in omega arith

sum_64 : (g : ℕ → ℕ) (n : ℕ) → ((k : ℕ) → k < n → g k ≤ 64) → sum_seats g n ≤ 64 * n
sum_64 g zero few = omega arith
sum_64 g (suc n) few =
    let old = sum_64 g n (λ k low. few k (omega arith)) in let here = few n (omega arith) in omega arith

sum_most : (g h : ℕ → ℕ) (n : ℕ) → ((k : ℕ) → k < n → g k ≤ h k) → sum_seats g n ≤ sum_seats h n
sum_most g h zero most = omega arith
sum_most g h (suc n) most =
    let old = sum_most g h n (λ k low. most k (omega arith)) in let here = most n (omega arith) in omega arith

-- what each note has is among the sorts
by_sorts : (f : Note → ℕ) (t : ℕ → Note → Bool) (n : ℕ) (x : List Note)
    → AllByRecursion (λ y. f y ≤ sum_seats (λ k. one_if (t k y)) n) x → total f x ≤ sum_seats (λ k. many (t k) x) n
by_sorts f t n [] all = omega arith
by_sorts f t n (y ∷ x) all =
    let old = by_sorts f t n x all.1
    in let plus = sum_plus (λ k. one_if (t k y)) (λ k. many (t k) x) n
    in let here : f y ≤ sum_seats (λ k. one_if (t k y)) n = all.0
    in omega arith

pub total_ones : (x : List Note) → total (λ n. 1) x ≡ length x
total_ones [] = refl
total_ones (n ∷ x) = let old = total_ones x in omega arith

-- STEERS

steer_sort : (x : List Note) (n : ℕ)
    → ((k : ℕ) → many (λ y. steers_packet y.event.what k) x ≤ one_if (ltb 0 k && leb k n))
    → (y : Note) → IsAmong x y → (what : What) → y.event.what ≡ what
    → one_if (is_steer what) ≤ sum_seats (λ k. one_if (steers_packet what (suc k))) n
steer_sort x n few y among (Steer k m) is =
    let mine : steers_packet y.event.what k ≡ true = rw is (eq-eqb _ _ refl)
    in let one : 1 ≤ many (λ z. steers_packet z.event.what k) x = among (λ z. steers_packet z.event.what k) mine
    in let most = few k
    in go k (in_range (ltb 0 k && leb k n) (omega arith)) where
      in_range : (b : Bool) → 1 ≤ one_if b → b ≡ true
      in_range true h = refl
      in_range false h = absurd (omega arith)

      go : (j : ℕ) → (ltb 0 j && leb j n) ≡ true → 1 ≤ sum_seats (λ i. one_if (eqb j (suc i))) n
      go zero at = absurd (cc)
      go (suc i) at =
          let within : suc i ≤ n = leb-true _ _ (and_parts (ltb 0 (suc i)) (leb (suc i) n) at).1
          in let yes : eqb (suc i) (suc i) ≡ true = eq-eqb (suc i) (suc i) refl
          in sum_some (λ j. one_if (eqb (suc i) (suc j))) n i (omega arith) (rw yes (omega arith))
steer_sort x n few y among (Publish v) is = omega arith
steer_sort x n few y among (Switch m v) is = omega arith
steer_sort x n few y among (Lose k hop) is = omega arith
steer_sort x n few y among (Arrive k hop server verdict) is = omega arith
steer_sort x n few y among (Close server flow closed) is = omega arith
steer_sort x n few y among (Retire server h moment result) is = omega arith
steer_sort x n few y among Sync is = omega arith

-- where each of n packets is steered at most once, and no other, there are at most n Steers
steers_few : (x : List Note) (n : ℕ)
    → ((k : ℕ) → many (λ y. steers_packet y.event.what k) x ≤ one_if (ltb 0 k && leb k n))
    → many (λ y. is_steer y.event.what) x ≤ n
steers_few x n few =
    let sorts = by_sorts (λ y. one_if (is_steer y.event.what)) (λ k y. steers_packet y.event.what (suc k)) n x
    (each_so (IsAmong x)
    (λ y. one_if (is_steer y.event.what) ≤ sum_seats (λ k. one_if (steers_packet y.event.what (suc k))) n) x
    (λ y a. steer_sort x n few y a y.event.what refl) (all_among x))
    in let ones = sum_ones (λ k. many (λ y. steers_packet y.event.what (suc k)) x) n
    (λ k low. let most = few (suc k) in one_most _ (ltb 0 (suc k) && leb (suc k) n) most)
    in omega arith where
      one_most : (a : ℕ) (b : Bool) → a ≤ one_if b → a ≤ 1
      one_most a true h = omega arith
      one_most a false h = omega arith

-- ALL WORKERS' NOTES

lengths_few : (carriers : List (List Note)) (c : ℕ)
    → ((m : ℕ) → m < length carriers
    → length (notes_by carriers m) ≤ 41 * many (λ n. is_steer n.event.what) (notes_by carriers m) + 65538)
    → length (notes_of_all carriers) ≤ 41 * many (λ n. is_steer n.event.what) (notes_of_all carriers)
    + 65538 * length carriers
lengths_few [] c few = omega arith
lengths_few (d ∷ carriers) c few =
    let old = lengths_few carriers c (λ m low. few (suc m) (omega arith))
    in let here = few 0 (omega arith)
    in let a = length-append d (notes_of_all carriers)
    in let b = total_append (λ n. one_if (is_steer n.event.what)) d (notes_of_all carriers)
    in omega arith

-- a bound on the notes of the muxes' workers
pub carried_few : (stage : Stage) (routes : List (Option MuxId)) (until : ℕ) (carriers : List (List Note))
    → until ≤ 200000 → length carriers ≤ 64
    → ((m : ℕ) → m < length carriers
    → length (notes_by carriers m) ≤ 41 * many (λ n. is_steer n.event.what) (notes_by carriers m) + 65538)
    → ((m : ℕ) → m < length carriers → (k : ℕ)
    → many (λ n. steers_packet n.event.what k) (notes_by carriers m) ≤ one_if (is_assigned routes m 0 until k))
    → length (notes_of_all carriers) ≤ 12400000
carried_few stage routes until carriers low muxes few steered =
    let all = lengths_few carriers 0 few
    in let steers = steers_few (notes_of_all carriers) until (λ k.
    let sum = notes_upto (λ n. one_if (steers_packet n.event.what k)) carriers
    in let most = sum_most (λ w. many (λ n. steers_packet n.event.what k) (notes_by carriers w))
    (λ w. one_if ((ltb 0 k && leb k until) && is_mux (assigned_mux routes k) w)) (length carriers)
    (λ m here. steered m here k)
    in let one = one_mux (ltb 0 k && leb k until) (assigned_mux routes k) (length carriers)
    in let part = less (ltb 0 k && leb k until) (is_under (assigned_mux routes k) (length carriers))
    in omega arith)
    in omega arith where
      less : (a b : Bool) → one_if (a && b) ≤ one_if a
      less true true = omega arith
      less true false = omega arith
      less false b = omega arith

-- WORKER 0'S NOTES

size_few : (shards : ℕ) (o : Option Command) → 1 ≤ shards → shards ≤ 64 → size_of shards o ≤ 64
size_few shards None some few = omega arith
size_few shards (Some (ChangeCommand v)) some few = omega arith
size_few shards (Some (CloseCommand at server flow)) some few = omega arith
size_few shards (Some (RetireCommand at server)) some few = omega arith
size_few shards (Some (SyncCommand at)) some few = omega arith

-- at most 64 for each command
pub led_few : (stage : Stage) (i : ℕ) (x : List Note) → IsSound stage → AreDone stage i x → length x ≤ 64 * i
led_few stage i x sound done =
    let shards = sound.script.setting.shards
    in let sorts = by_sorts (λ n. 1) (λ k n. eqb n.command k) i x
    (each_so (λ n. n.command < i) (λ n. 1 ≤ sum_seats (λ k. one_if (eqb n.command k)) i) x
    (λ n low.
    let yes : eqb n.command n.command ≡ true = eq-eqb n.command n.command refl
    in sum_some (λ k. one_if (eqb n.command k)) i n.command low (rw yes (omega arith))) done.earlier)
    in let ones = total_ones x
    in let most = sum_64 (λ k. many (λ n. eqb n.command k) x) i
    (λ k low.
    let same = done.complete k low
    in let size = size_few stage.script.setting.shards (slice_get stage.script.commands k) shards.0 shards.1
    in omega arith)
    in omega arith

count_few : (test : Command → Bool) (n : ℕ) (x : List Command) → count_of test (take n x) ≤ length x
count_few test zero x = omega arith
count_few test (suc n) [] = omega arith
count_few test (suc n) (c ∷ x) = go (test c) (count_few test n x) where
  go : (b : Bool) → count_of test (take n x) ≤ length x → one_if b + count_of test (take n x) ≤ suc (length x)
  go true old = omega arith
  go false old = omega arith

-- at most as many Syncs as commands
pub syncs_few : (stage : Stage) (i : ℕ) (x : List Note) → IsSound stage → AreDone stage i x
    → counts (control_log stage x) is_sync ≤ 65536
syncs_few stage i x sound done =
    let a = counts_notes is_sync (home_part stage Controller x)
    in let b = home_fewer (λ n. one_if (is_sync n.event.what)) stage Controller x
    in let c = done.syncs
    in let d = count_few wants_sync i stage.script.commands
    in let e = sound.script.few_commands
    in omega arith

-- A PART OF A PHASE

-- an event steers for no mux but this
abbrev IsOfMux : ℕ → Event → Type 0
IsOfMux c e = (k : ℕ) (m : MuxId) → e.what ≡ Steer k m → m.0 ≡ c

later_one : (c : ℕ) (m : MuxId) (k : ℕ) (e : Event) (what : What) → e.what ≡ what → m.0 ≡ c → IsOfMux c e
    → one_if (steers_packet what k) ≤ one_if (steers_later what m k)
later_one c m k e (Steer j n) is mux own =
    let here : n.0 ≡ c = own j n is
    in elim (cases_Bool (eqb j k)) [
      | inl same ↦
          let at : j ≡ k = eqb-true _ _ same
          in let a : eqb n.0 m.0 ≡ true = eq-eqb _ _ (here ∙ sym mux)
          in let b : leb k j ≡ true = le-leb _ _ (omega arith)
          in rw (same, a, b) (omega arith)
      | inr other ↦ rw other (omega arith)
    ]
later_one c m k e (Publish v) is mux own = omega arith
later_one c m k e (Switch n v) is mux own = omega arith
later_one c m k e (Lose j hop) is mux own = omega arith
later_one c m k e (Arrive j hop server verdict) is mux own = omega arith
later_one c m k e (Close server flow closed) is mux own = omega arith
later_one c m k e (Retire server h moment result) is mux own = omega arith
later_one c m k e Sync is mux own = omega arith

none_later : (c : ℕ) (m : MuxId) (k : ℕ) (x old : List Event) → m.0 ≡ c → AllByRecursion (IsOfMux c) x
    → counts (x ++ old) (λ what. steers_later what m k) ≡ 0 → counts x (λ what. steers_packet what k) ≡ 0
none_later c m k [] old mux own none = refl
none_later c m k (e ∷ x) old mux own none =
    let here = later_one c m k e e.what refl mux own.0
    in let rest = none_later c m k x old mux own.1 (omega arith)
    in omega arith

once_step : (stage : Stage) (after first c k : ℕ) (posts : List ℕ) (e : Event) (x old : List Event) (what : What)
    → e.what ≡ what → IsOfMux c e → AllByRecursion (IsOfMux c) x
    → IsMuxGiven stage after first posts (x ++ old) e.clock.0 what
    → counts x (λ w. steers_packet w k) ≤ 1
    → one_if (steers_packet what k) + counts x (λ w. steers_packet w k) ≤ 1
once_step stage after first c k posts e x old (Steer j m) is own rest given before = elim (cases_Bool (eqb j k)) [
  | inl same ↦
      let at : j ≡ k = eqb-true _ _ same
      in let none = none_later c m j x old (own j m is) rest given.1
      in let here : counts x (λ w. steers_packet w k) ≡ 0 =
      subst (λ (i : ℕ). counts x (λ w. steers_packet w i) ≡ 0) at none
      in rw same (omega arith)
  | inr other ↦ rw other (omega arith)
]
once_step stage after first c k posts e x old (Publish v) is own rest given before = omega arith
once_step stage after first c k posts e x old (Switch m v) is own rest given before = omega arith
once_step stage after first c k posts e x old (Lose j hop) is own rest given before = omega arith
once_step stage after first c k posts e x old (Arrive j hop server verdict) is own rest given before = omega arith
once_step stage after first c k posts e x old (Close server flow closed) is own rest given before = omega arith
once_step stage after first c k posts e x old (Retire server h moment result) is own rest given before = omega arith
once_step stage after first c k posts e x old Sync is own rest given before = omega arith

-- what a mux gives has each packet once
once_given : (stage : Stage) (after first c k : ℕ) (posts : List ℕ) (x old : List Event)
    → AllByRecursion (IsOfMux c) x
    → AtEach (λ rest e. IsMuxGiven stage after first posts (rest ++ old) e.clock.0 e.what) x
    → counts x (λ what. steers_packet what k) ≤ 1
once_given stage after first c k posts [] old own given = omega arith
once_given stage after first c k posts (e ∷ x) old own given =
    once_step stage after first c k posts e x old e.what refl own.0 own.1 given.0
    (once_given stage after first c k posts x old own.1 given.1)

steer_home : (stage : Stage) (m k seat : ℕ) (what : What) → carries m what ≡ true → steers_packet what k ≡ true
    → is_by (home_of stage seat what) (MuxOf m) ≡ true
steer_home stage m k seat (Steer j n) kind is = kind
steer_home stage m k seat (Publish v) kind is = absurd (cc)
steer_home stage m k seat (Switch n v) kind is = absurd (cc)
steer_home stage m k seat (Lose j hop) kind is = absurd (cc)
steer_home stage m k seat (Arrive j hop server verdict) kind is = absurd (cc)
steer_home stage m k seat (Close server flow closed) kind is = absurd (cc)
steer_home stage m k seat (Retire server h moment result) kind is = absurd (cc)
steer_home stage m k seat Sync kind is = absurd (cc)

steers_home : (stage : Stage) (m k : ℕ) (x : List Note) → AllByRecursion (λ n. carries m n.event.what ≡ true) x
    → many (λ n. steers_packet n.event.what k) x
    ≤ many (λ n. steers_packet n.event.what k) (home_part stage (MuxOf m) x)
steers_home stage m k [] kinds = omega arith
steers_home stage m k (n ∷ x) kinds =
    go (is_home stage (MuxOf m) n) refl (steers_packet n.event.what k) refl (steers_home stage m k x kinds.1) where
      go : (b : Bool) → is_home stage (MuxOf m) n ≡ b → (s : Bool) → steers_packet n.event.what k ≡ s
          → many (λ y. steers_packet y.event.what k) x
          ≤ many (λ y. steers_packet y.event.what k) (home_part stage (MuxOf m) x)
          → one_if s + many (λ y. steers_packet y.event.what k) x
          ≤ many (λ y. steers_packet y.event.what k)
          (cond b (n ∷ home_part stage (MuxOf m) x) (home_part stage (MuxOf m) x))
      go true home true is old = rw is (omega arith)
      go true home false is old = rw is (omega arith)
      go false home false is old = omega arith
      go false home true is old =
          absurd (let yes = steer_home stage m k n.seat n.event.what kinds.0 is
          in let bad : true ≡ false = sym yes ∙ home in cc)

home_mux : (stage : Stage) (m seat k : ℕ) (n : MuxId) (what : What) → what ≡ Steer k n
    → is_by (home_of stage seat what) (MuxOf m) ≡ true → n.0 ≡ m
home_mux stage m seat k n what is home =
    let here : is_by (home_of stage seat (Steer k n)) (MuxOf m) ≡ true =
    subst (λ (w : What). is_by (home_of stage seat w) (MuxOf m) ≡ true) is home
    in eqb-true _ _ here

log_own : (stage : Stage) (m : ℕ) (h : List Note) → AllByRecursion (λ n. is_home stage (MuxOf m) n ≡ true) h
    → AllByRecursion (IsOfMux m) (events_of h)
log_own stage m [] home = tt
log_own stage m (n ∷ h) home =
    ((λ k x is. home_mux stage m n.seat k x n.event.what is home.0), log_own stage m h home.1)

-- what the worker steers in a phase is some of the packets assigned to it, each once
pub steered_part : (stage : Stage) (routes : List (Option MuxId)) (after first m from until : ℕ) (posts : List ℕ)
    (x : List Note) (old : List Event)
    → AllByRecursion (λ n. carries m n.event.what ≡ true) x
    → AllByRecursion (λ n. (k : ℕ) (i : MuxId) → n.event.what ≡ Steer k i → is_assigned routes m from until k ≡ true) x
    → AtEach (λ rest e. IsMuxGiven stage after first posts (rest ++ old) e.clock.0 e.what) (mux_log stage m x)
    → (k : ℕ) → many (λ n. steers_packet n.event.what k) x ≤ one_if (is_assigned routes m from until k)
steered_part stage routes after first m from until posts x old kinds assigned given k =
    go (is_assigned routes m from until k) refl where
      once : many (λ n. steers_packet n.event.what k) x ≤ 1
      once =
          let a = steers_home stage m k x kinds
          in let b = counts_notes (λ what. steers_packet what k) (home_part stage (MuxOf m) x)
          in let c = once_given stage after first m k posts (mux_log stage m x) old
          (log_own stage m (home_part stage (MuxOf m) x) (home_is stage (MuxOf m) x)) given
          in omega arith

      no : (n : Note) → ((j : ℕ) (i : MuxId) → n.event.what ≡ Steer j i → is_assigned routes m from until j ≡ true)
          → is_assigned routes m from until k ≡ false → (what : What) → n.event.what ≡ what
          → one_if (steers_packet what k) ≡ 0
      no n own not (Steer j i) is = elim (cases_Bool (eqb j k)) [
        | inl same ↦
            let at : j ≡ k = eqb-true _ _ same
            in absurd (let yes : is_assigned routes m from until k ≡ true =
            subst (λ (p : ℕ). is_assigned routes m from until p ≡ true) at (own j i is)
            in let bad : true ≡ false = sym yes ∙ not in cc)
        | inr other ↦ rw other refl
      ]
      no n own not (Publish v) is = refl
      no n own not (Switch i v) is = refl
      no n own not (Lose j hop) is = refl
      no n own not (Arrive j hop server verdict) is = refl
      no n own not (Close server flow closed) is = refl
      no n own not (Retire server h moment result) is = refl
      no n own not Sync is = refl

      go : (b : Bool) → is_assigned routes m from until k ≡ b → many (λ n. steers_packet n.event.what k) x ≤ one_if b
      go true is = once
      go false is =
          let none = total_none (λ n. one_if (steers_packet n.event.what k)) x
          (each_so (λ n. (j : ℕ) (i : MuxId) → n.event.what ≡ Steer j i → is_assigned routes m from until j ≡ true)
          (λ n. one_if (steers_packet n.event.what k) ≡ 0) x (λ n t. no n t is n.event.what refl) assigned)
          in omega arith

-- The notes in the logs are those of the workers.
use Rattle.std.proofs.Common.{◌≡◌, ℕ, zero, suc, ◌+◌, ◌<◌, ◌≤◌, max, Bool, true, false, cond, inl, inr, List, []}
use Rattle.std.proofs.Common.{◌∷◌, ◌++◌, length, Option, Some, None, refl, sym, ap, ◌∙◌, subst, arith, ltb, eqb}
use Rattle.std.specs.List.{AllByRecursion}
use Rattle.std.proofs.lemmas.Bool.{cases_Bool, ltb-true, lt-ltb, le-ltb, ltb-false, eqb-true, eqb-false, eq-eqb}
use Rattle.std.proofs.lemmas.Bool.{or_parts}
use Rattle.bm_core.specs.declared.events.Stage.{Stage}
use Rattle.bm_core.specs.Runs.{Actor, same_actor, is_by}
use Rattle.bm_merge.specs.Merges.{has_actor, HaveOwnLogs}
use Rattle.bm_merge.specs.Notes.{Note, NotedLog, plain, all_notes, total, greatest}
use Rattle.bm_merge.specs.Workers.{home_of, is_home, notes_by, notes_of_all, seat_part, home_part, AreSeated, HaveSeats}
use Rattle.bm_merge.specs.Workers.{HaveHomes, has_log}
use Rattle.bm_merge.proofs.Agreeing.{same_actor-true}
use Rattle.bm_merge.proofs.Placing.{same_actor_refl, other_way}
use Rattle.bm_merge.proofs.Noting.{total_append, each_below}

-- the number, if the note is of the seat
abbrev pub of_seat : ℕ → (Note → ℕ) → Note → ℕ
of_seat w f n = cond (eqb n.seat w) (f n) 0

-- the number, if the note stands in the actor's log
abbrev pub of_home : Stage → Actor → (Note → ℕ) → Note → ℕ
of_home stage a f n = cond (is_home stage a n) (f n) 0

-- SUMS OVER SEATS AND LOGS

abbrev pub sum_seats : (ℕ → ℕ) → ℕ → ℕ
sum_seats g zero = 0
sum_seats g (suc n) = g n + sum_seats g n

abbrev sum_logs : (NotedLog → ℕ) → List NotedLog → ℕ
sum_logs g [] = 0
sum_logs g (l ∷ logs) = g l + sum_logs g logs

seats_same : (g h : ℕ → ℕ) (n : ℕ) → ((w : ℕ) → g w ≡ h w) → sum_seats g n ≡ sum_seats h n
seats_same g h zero same = refl
seats_same g h (suc n) same = let old = seats_same g h n same in let here = same n in omega arith

seats_zero : (n : ℕ) → sum_seats (λ w. 0) n ≡ 0
seats_zero zero = refl
seats_zero (suc n) = let old = seats_zero n in omega arith

seats_plus : (g h : ℕ → ℕ) (n : ℕ) → sum_seats (λ w. g w + h w) n ≡ sum_seats g n + sum_seats h n
seats_plus g h zero = omega arith
seats_plus g h (suc n) = let old = seats_plus g h n in omega arith

-- one seat of them is that of a note
one_seat : (s k n : ℕ) → sum_seats (λ w. cond (eqb s w) k 0) n ≡ cond (ltb s n) k 0
one_seat s k zero = let no : ltb s 0 ≡ false = le-ltb _ _ (omega arith) in rw no refl
one_seat s k (suc n) = elim (cases_Bool (eqb s n)) [
  | inl is ↦
      let at : s ≡ n = eqb-true _ _ is
      in let old = one_seat s k n
      in let no : ltb s n ≡ false = le-ltb _ _ (omega arith)
      in let yes : ltb s (suc n) ≡ true = lt-ltb _ _ (omega arith)
      in rw (is, old, no, yes) (omega arith)
  | inr not ↦ let old = one_seat s k n in let same = next_test s n not in rw (not, old, same) (omega arith)
] where
  next_test : (s n : ℕ) → eqb s n ≡ false → ltb s (suc n) ≡ ltb s n
  next_test s n not = elim (cases_Bool (ltb s n)) [
    | inl low ↦ let l : s < n =
        ltb-true _ _ low in let yes : ltb s (suc n) ≡ true = lt-ltb _ _ (omega arith) in rw (low, yes) refl
    | inr high ↦
        let h : n ≤ s = ltb-false _ _ high
        in let ne : s ≡ n → ⊥ = eqb-false _ _ not
        in let no : ltb s (suc n) ≡ false = le-ltb _ _ (omega arith)
        in rw (high, no) refl
  ]

by_seats : (f : Note → ℕ) (n : ℕ) (x : List Note) → AllByRecursion (λ y. y.seat < n) x
    → total f x ≡ sum_seats (λ w. total (of_seat w f) x) n
by_seats f n [] few = sym (seats_zero n)
by_seats f n (y ∷ x) few =
    let old = by_seats f n x few.1
    in let plus = seats_plus (λ w. of_seat w f y) (λ w. total (of_seat w f) x) n
    in let one = one_seat y.seat (f y) n
    in let low : ltb y.seat n ≡ true = lt-ltb _ _ few.0
    in let here : cond (ltb y.seat n) (f y) 0 ≡ f y = rw low refl
    in omega arith

-- all notes of the logs
logs_sum : (f : Note → ℕ) (logs : List NotedLog) → total f (all_notes logs) ≡ sum_logs (λ l. total f l.notes) logs
logs_sum f [] = refl
logs_sum f (l ∷ logs) = let a = total_append f (all_notes logs) l.notes in let old = logs_sum f logs in omega arith

logs_plus : (g h : NotedLog → ℕ) (logs : List NotedLog)
    → sum_logs (λ l. g l + h l) logs ≡ sum_logs g logs + sum_logs h logs
logs_plus g h [] = omega arith
logs_plus g h (l ∷ logs) = let old = logs_plus g h logs in omega arith

logs_zero : (logs : List NotedLog) → sum_logs (λ l. 0) logs ≡ 0
logs_zero [] = refl
logs_zero (l ∷ logs) = let old = logs_zero logs in omega arith

-- a note is in one log
no_home : (stage : Stage) (f : Note → ℕ) (n : Note) (a : Actor) (logs : List NotedLog)
    → home_of stage n.seat n.event.what ≡ Some a → has_actor (plain logs) a ≡ false
    → sum_logs (λ l. of_home stage l.actor f n) logs ≡ 0
no_home stage f n a [] is not = refl
no_home stage f n a (l ∷ logs) is not =
    let parts = or_parts (same_actor l.actor a) _ not
    in let other : is_home stage l.actor n ≡ false =
    ap (λ (o : Option Actor). is_by o l.actor) is ∙ other_way l.actor a parts.0
    in let old = no_home stage f n a logs is parts.1
    in rw other (omega arith)

one_home : (stage : Stage) (f : Note → ℕ) (n : Note) (a : Actor) (logs : List NotedLog)
    → home_of stage n.seat n.event.what ≡ Some a → has_actor (plain logs) a ≡ true → HaveOwnLogs (plain logs)
    → sum_logs (λ l. of_home stage l.actor f n) logs ≡ f n
one_home stage f n a [] is has own = absurd (cc)
one_home stage f n a (l ∷ logs) is has own = elim (cases_Bool (same_actor l.actor a)) [
  | inl same ↦
      let at : l.actor ≡ a = same_actor-true _ _ same
      in let mine : is_home stage l.actor n ≡ true =
      ap (λ (o : Option Actor). is_by o l.actor) is ∙ (rw (sym at) (same_actor_refl l.actor))
      in let none = no_home stage f n l.actor logs (is ∙ ap (λ (b : Actor). Some b) (sym at)) own.0
      in rw mine (omega arith)
  | inr other ↦
      let not : is_home stage l.actor n ≡ false =
      ap (λ (o : Option Actor). is_by o l.actor) is ∙ other_way l.actor a other
      in let rest : has_actor (plain logs) a ≡ true = (rw other at has)
      in let old = one_home stage f n a logs is rest own.1
      in rw not (omega arith)
]

home_here : (stage : Stage) (f : Note → ℕ) (logs : List NotedLog) (n : Note) → HaveOwnLogs (plain logs)
    → (o : Option Actor) → home_of stage n.seat n.event.what ≡ o
    → has_log (plain logs) o ≡ true → sum_logs (λ l. of_home stage l.actor f n) logs ≡ f n
home_here stage f logs n own None is h = absurd (cc)
home_here stage f logs n own (Some a) is h = one_home stage f n a logs is h own

by_homes : (stage : Stage) (f : Note → ℕ) (logs : List NotedLog) (x : List Note) → HaveOwnLogs (plain logs)
    → HaveHomes stage logs x → sum_logs (λ l. total (of_home stage l.actor f) x) logs ≡ total f x
by_homes stage f logs [] own homes = logs_zero logs
by_homes stage f logs (n ∷ x) own homes =
    let plus = logs_plus (λ l. of_home stage l.actor f n) (λ l. total (of_home stage l.actor f) x) logs
    in let old = by_homes stage f logs x own homes.1
    in let here = home_here stage f logs n own (home_of stage n.seat n.event.what) refl homes.0
    in omega arith

-- PARTS

total_seat : (w : ℕ) (f : Note → ℕ) (x : List Note) → total f (seat_part w x) ≡ total (of_seat w f) x
total_seat w f [] = refl
total_seat w f (n ∷ x) = go (eqb n.seat w) (total_seat w f x) where
  go : (b : Bool) → total f (seat_part w x) ≡ total (of_seat w f) x
      → total f (cond b (n ∷ seat_part w x) (seat_part w x)) ≡ cond b (f n) 0 + total (of_seat w f) x
  go true old = omega arith
  go false old = omega arith

total_home : (stage : Stage) (a : Actor) (f : Note → ℕ) (x : List Note)
    → total f (home_part stage a x) ≡ total (of_home stage a f) x
total_home stage a f [] = refl
total_home stage a f (n ∷ x) = go (is_home stage a n) (total_home stage a f x) where
  go : (b : Bool) → total f (home_part stage a x) ≡ total (of_home stage a f) x
      → total f (cond b (n ∷ home_part stage a x) (home_part stage a x))
      ≡ cond b (f n) 0 + total (of_home stage a f) x
  go true old = omega arith
  go false old = omega arith

all_home : (P : Note → Type 0) (stage : Stage) (a : Actor) (x : List Note) → AllByRecursion P x
    → AllByRecursion P (home_part stage a x)
all_home P stage a [] all = tt
all_home P stage a (n ∷ x) all = go (is_home stage a n) (all_home P stage a x all.1) where
  go : (b : Bool) → AllByRecursion P (home_part stage a x)
      → AllByRecursion P (cond b (n ∷ home_part stage a x) (home_part stage a x))
  go true old = (all.0, old)
  go false old = old

seat_here : (P : Note → Type 0) (n : Note) (x : List Note) (b : Bool) → b ≡ true
    → AllByRecursion P (cond b (n ∷ seat_part n.seat x) (seat_part n.seat x)) → P n
seat_here P n x true is all = all.0
seat_here P n x false is all = absurd (cc)

seat_below : (P : Note → Type 0) (w : ℕ) (n : Note) (x : List Note) (b : Bool)
    → AllByRecursion P (cond b (n ∷ seat_part w x) (seat_part w x)) → AllByRecursion P (seat_part w x)
seat_below P w n x true all = all.1
seat_below P w n x false all = all

-- what holds of each seat's notes holds of each note
all_seats : (P : Note → Type 0) (x : List Note) → ((w : ℕ) → AllByRecursion P (seat_part w x)) → AllByRecursion P x
all_seats P [] all = tt
all_seats P (n ∷ x) all = (
  seat_here P n x (eqb n.seat n.seat) (eq-eqb _ _ refl) (all n.seat),
  all_seats P x
      (λ w. seat_below P w n x (eqb n.seat w) (all w)),
)

all_own_seats : (P : ℕ → Note → Type 0) (x : List Note) → ((w : ℕ) → AllByRecursion (P w) (seat_part w x))
    → AllByRecursion (λ n. P n.seat n) x
all_own_seats P [] all = tt
all_own_seats P (n ∷ x) all = (
  seat_here (P n.seat) n x (eqb n.seat n.seat) (eq-eqb _ _ refl) (all n.seat),
  all_own_seats P x
      (λ w. seat_below (P w) w n x (eqb n.seat w) (all w)),
)

pub each_note_of : (P : Note → Type 0) (workers : List (List Note)) (w : ℕ) → AllByRecursion P (notes_of_all workers)
    → AllByRecursion P (notes_by workers w)
each_note_of P [] w all = tt
each_note_of P (d ∷ workers) zero all = first d (notes_of_all workers) all where
  first : (x y : List Note) → AllByRecursion P (x ++ y) → AllByRecursion P x
  first [] y a = tt
  first (n ∷ x) y a = (a.0, first x y a.1)
each_note_of P (d ∷ workers) (suc w) all = each_note_of P workers w (each_below P d (notes_of_all workers) all)

-- what holds of all that each worker did, by its seat, holds of all notes of each log
pub all_by_seat : (P : ℕ → Note → Type 0) (stage : Stage) (logs : List NotedLog) (workers : List (List Note))
    → AreSeated stage logs workers → ((w : ℕ) → AllByRecursion (P w) (notes_by workers w))
    → AllByRecursion (λ l. AllByRecursion (λ n. P n.seat n) l.notes) logs
all_by_seat P stage [] workers seated all = tt
all_by_seat P stage (l ∷ logs) workers seated all = (
  all_own_seats P l.notes
      (λ w. subst (λ (x : List Note). AllByRecursion (P w) x) (sym (seated.0 w))
      (all_home (P w) stage l.actor (notes_by workers w) (all w))),
  all_by_seat P stage logs workers seated.1 all,
)

-- what holds of all that the workers did holds of all notes of each log
pub all_logs : (P : Note → Type 0) (stage : Stage) (logs : List NotedLog) (workers : List (List Note))
    → AreSeated stage logs workers → AllByRecursion P (notes_of_all workers)
    → AllByRecursion (λ l. AllByRecursion P l.notes) logs
all_logs P stage [] workers seated all = tt
all_logs P stage (l ∷ logs) workers seated all = (
  all_seats P l.notes
      (λ w. subst (λ (x : List Note). AllByRecursion P x) (sym (seated.0 w))
      (all_home P stage l.actor (notes_by workers w) (each_note_of P workers w all))),
  all_logs P stage logs workers seated.1 all,
)

-- THE SAME NOTES

logs_seats : (t : NotedLog → ℕ → ℕ) (n : ℕ) (logs : List NotedLog)
    → sum_logs (λ l. sum_seats (λ w. t l w) n) logs ≡ sum_seats (λ w. sum_logs (λ l. t l w) logs) n
logs_seats t n [] = sym (seats_zero n)
logs_seats t n (l ∷ logs) =
    let old = logs_seats t n logs
    in let plus = seats_plus (λ w. t l w) (λ w. sum_logs (λ k. t k w) logs) n
    in omega arith

by_log_seats : (stage : Stage) (f : Note → ℕ) (workers : List (List Note)) (n : ℕ) (logs : List NotedLog)
    → AreSeated stage logs workers → HaveSeats n logs
    → sum_logs (λ l. total f l.notes) logs
    ≡ sum_logs (λ l. sum_seats (λ w. total (of_home stage l.actor f) (notes_by workers w)) n) logs
by_log_seats stage f workers n [] seated few = refl
by_log_seats stage f workers n (l ∷ logs) seated few =
    let old = by_log_seats stage f workers n logs seated.1 few.1
    in let here = by_seats f n l.notes few.0
    in let same =
    seats_same (λ w. total (of_seat w f) l.notes) (λ w. total (of_home stage l.actor f) (notes_by workers w)) n
    (λ w. sym (total_seat w f l.notes) ∙ ap (λ (x : List Note). total f x) (seated.0 w)
    ∙ total_home stage l.actor f (notes_by workers w))
    in omega arith

first_seat : (g : ℕ → ℕ) (n : ℕ) → sum_seats g (suc n) ≡ g 0 + sum_seats (λ w. g (suc w)) n
first_seat g zero = refl
first_seat g (suc n) = let old = first_seat g n in omega arith

-- the sum over the workers
pub notes_upto : (f : Note → ℕ) (workers : List (List Note))
    → total f (notes_of_all workers) ≡ sum_seats (λ w. total f (notes_by workers w)) (length workers)
notes_upto f [] = refl
notes_upto f (d ∷ workers) =
    let old = notes_upto f workers
    in let a = total_append f d (notes_of_all workers)
    in let first = first_seat (λ w. total f (notes_by (d ∷ workers) w)) (length workers)
    in omega arith

-- the logs have just what the workers did
pub shared : (stage : Stage) (logs : List NotedLog) (workers : List (List Note)) → HaveOwnLogs (plain logs)
    → AreSeated stage logs workers → HaveSeats (length workers) logs
    → HaveHomes stage logs (notes_of_all workers) → (f : Note → ℕ)
    → total f (all_notes logs) ≡ total f (notes_of_all workers)
shared stage logs workers own seated few homes f =
    logs_sum f logs
    ∙ by_log_seats stage f workers (length workers) logs seated few
    ∙ logs_seats (λ l w. total (of_home stage l.actor f) (notes_by workers w)) (length workers) logs
    ∙ seats_same (λ w. sum_logs (λ l. total (of_home stage l.actor f) (notes_by workers w)) logs)
    (λ w. total f (notes_by workers w)) (length workers)
    (λ w. by_homes stage f logs (notes_by workers w) own
    (each_note_of (λ n. has_log (plain logs) (home_of stage n.seat n.event.what) ≡ true) workers w homes))
    ∙ sym (notes_upto f workers)

-- a seat's notes are what its worker did
seat_logs : (stage : Stage) (f : Note → ℕ) (workers : List (List Note)) (w : ℕ) (logs : List NotedLog)
    → AreSeated stage logs workers
    → total (of_seat w f) (all_notes logs) ≡ sum_logs (λ l. total (of_home stage l.actor f) (notes_by workers w)) logs
seat_logs stage f workers w [] seated = refl
seat_logs stage f workers w (l ∷ logs) seated =
    let a = total_append (of_seat w f) (all_notes logs) l.notes
    in let old = seat_logs stage f workers w logs seated.1
    in let here =
    sym (total_seat w f l.notes) ∙ ap (λ (x : List Note). total f x) (seated.0 w)
    ∙ total_home stage l.actor f (notes_by workers w)
    in omega arith

pub seat_total : (stage : Stage) (logs : List NotedLog) (workers : List (List Note)) → HaveOwnLogs (plain logs)
    → AreSeated stage logs workers → HaveHomes stage logs (notes_of_all workers) → (w : ℕ) (f : Note → ℕ)
    → total (of_seat w f) (all_notes logs) ≡ total f (notes_by workers w)
seat_total stage logs workers own seated homes w f =
    seat_logs stage f workers w logs seated
    ∙ by_homes stage f logs (notes_by workers w) own
    (each_note_of (λ n. has_log (plain logs) (home_of stage n.seat n.event.what) ≡ true) workers w homes)

-- so the greatest numbers are the same
greatest_within : (g : Note → ℕ) (c : ℕ) (x : List Note) → total (λ y. cond (ltb c (g y)) 1 0) x ≡ 0
    → greatest g x ≤ c
greatest_within g c [] none = omega arith
greatest_within g c (n ∷ x) none = go (ltb c (g n)) refl none (greatest_within g c x) where
  go : (b : Bool) → ltb c (g n) ≡ b → cond b 1 0 + total (λ y. cond (ltb c (g y)) 1 0) x ≡ 0
      → (total (λ y. cond (ltb c (g y)) 1 0) x ≡ 0 → greatest g x ≤ c) → max (g n) (greatest g x) ≤ c
  go true is h old = absurd (omega arith)
  go false is h old =
      let low : g n ≤ c = ltb-false _ _ is in let rest : greatest g x ≤ c = old (omega arith) in omega arith

none_over : (g : Note → ℕ) (c : ℕ) (x : List Note) → greatest g x ≤ c → total (λ y. cond (ltb c (g y)) 1 0) x ≡ 0
none_over g c [] most = refl
none_over g c (n ∷ x) most =
    let no : ltb c (g n) ≡ false = le-ltb _ _ (omega arith)
    in let old = none_over g c x (omega arith)
    in rw no (omega arith)

pub greatest_shared : (g : Note → ℕ) (x y : List Note) → ((f : Note → ℕ) → total f x ≡ total f y)
    → greatest g x ≡ greatest g y
greatest_shared g x y same =
    let a : greatest g x ≤ greatest g y =
    greatest_within g (greatest g y) x
    (same (λ n. cond (ltb (greatest g y) (g n)) 1 0) ∙ none_over g (greatest g y) y (omega arith))
    in let b : greatest g y ≤ greatest g x =
    greatest_within g (greatest g x) y
    (sym (same (λ n. cond (ltb (greatest g x) (g n)) 1 0)) ∙ none_over g (greatest g x) x (omega arith))
    in omega arith

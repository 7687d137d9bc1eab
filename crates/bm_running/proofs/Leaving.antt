-- The least bucket that left a server since a moment is the first of those that are kept.
use Rattle.std.proofs.Common.{◌≡◌, ℕ, zero, suc, ◌+◌, ◌-◌, ◌<◌, ◌≤◌, Bool, true, false, ◌&&◌, ◌||◌, ◌==◌, leb}
use Rattle.std.proofs.Common.{inl, inr, List, [], ◌∷◌, ◌++◌, length, take, get_or, Option, Some, None, is_some, refl, sym}
use Rattle.std.proofs.Common.{ap, ◌∙◌, arith, subst, min}
use Rattle.std.specs.Prelude.{All, if◌then◌else◌, nat_le, nat_lt, slice_get}
use Rattle.std.proofs.lemmas.List.Elements.{All-get_or}
use Rattle.std.proofs.lemmas.Option.{same_Some}
use Rattle.std.proofs.lemmas.Bool.{cases_Bool, cases_eq, cases_lt, eq-eqb, le-leb, lt-leb, lt-ltb, ne_eqb}
use Rattle.std.proofs.lemmas.Grind.{common_steps}
use Rattle.std.specs.List.Sorted.{IsPartitionedBy}
use Rattle.std.proofs.lemmas.Bool.Decides.{nat_tests}
use Rattle.bm_base.specs.declared.ids.ServerId.{ServerId}
use Rattle.bm_core.specs.declared.events.Event.{Event}
use Rattle.bm_core.specs.declared.events.What.{What}
use Rattle.bm_core.specs.declared.events.What.TheVariants.{Arrive, Close, Lose, Publish, Retire, Steer, Switch, Sync}
use Rattle.bm_core.specs.Past.{newest, published_by}
use Rattle.bm_base.specs.declared.label.Entry.{Entry}
use Rattle.bm_table.specs.declared.plan.Change.{Change}
use Rattle.bm_table.specs.declared.plan.Move.{Move}
use Rattle.bm_table.specs.declared.plan.Retirement.TheVariants.{Done, TooEarly}
use Rattle.bm_table.specs.Inside.Leaves.{IsLeast, lesser_of}
use Rattle.bm_table.specs.Planned.{Planned}
use Rattle.bm_table.specs.Plans.{IsPlan, MovesRise}
use Rattle.bm_table.specs.Tables.{IsRetirement, change_moment, is_drain, is_drained, leaves_late, moves_next, next_change}
use Rattle.bm_table.specs.Tables.{same_server, table, target}
use Rattle.bm_table.proofs.LeafLemmas.{IsLeast-or, IsLeast-same}
use Rattle.bm_table.proofs.PlanLemmas.{MovesRise-range}
use Rattle.bm_running.specs.declared.leaves.Leave.{Leave}
use Rattle.bm_running.specs.declared.leaves.Leaves.{Leaves}
use Rattle.bm_running.specs.Inside.Leaves.{AreEarly, AreLeft, KeepsLeaves, Rises, below, first_since, left_by}
use Rattle.bm_running.specs.Inside.Leaves.{left_since, with_leave}

le-ltb : (a b : ℕ) → b ≤ a → nat_lt a b ≡ false
le-ltb a b over = grind (arith, nat_tests)

-- ONE MORE

rises_from : (m n b c : ℕ) (leaves : List Leave) → m ≤ n → b ≤ c → Rises n c leaves → Rises m b leaves
rises_from m n b c [] moment bucket r = tt
rises_from m n b c (l ∷ leaves) moment bucket r =
    let p = r.0 in let q = r.1 in (omega (arith, moment, p), omega (arith, bucket, q), r.2)

rises_with : (m b : ℕ) (l : Leave) (leaves : List Leave) → m ≤ l.moment → b ≤ l.bucket → AreEarly l.moment leaves
    → Rises m b leaves → Rises m b (with_leave l leaves)
rises_with m b l [] moment bucket early r = (moment, bucket, tt)
rises_with m b l (x ∷ leaves) moment bucket early r = elim (cases_lt x.bucket l.bucket) [
  | inl under ↦
      rw (lt-ltb x.bucket l.bucket under)
      (r.0, r.1, rises_with x.moment (suc x.bucket) l leaves early.0 under early.1 r.2)
  | inr over ↦ rw (le-ltb x.bucket l.bucket over) (moment, bucket, tt)
]

early_with : (moment : ℕ) (l : Leave) (leaves : List Leave) → l.moment ≤ moment → AreEarly moment leaves
    → AreEarly moment (with_leave l leaves)
early_with moment l [] at early = (at, tt)
early_with moment l (x ∷ leaves) at early = elim (cases_lt x.bucket l.bucket) [
  | inl under ↦ rw (lt-ltb x.bucket l.bucket under) (early.0, early_with moment l leaves at early.1)
  | inr over ↦ rw (le-ltb x.bucket l.bucket over) (at, tt)
]

-- no bucket left since a moment after all of these
none_since : (moment since : ℕ) (leaves : List Leave) → moment < since → AreEarly moment leaves
    → first_since leaves since ≡ None
none_since moment since [] late early = refl
none_since moment since (l ∷ leaves) late early =
    let e = early.0
    in rw (lt-leb since l.moment (omega (arith, e, late))) (none_since moment since leaves late early.1)

-- the lesser of one bucket and the first of those that aren't below it
lesser_over : (moment b since : ℕ) (leaves : List Leave) (m : ℕ) → Rises moment m leaves → b ≤ m
    → lesser_of (first_since leaves since) (Some b) ≡ Some b
lesser_over moment b since [] m r over = refl
lesser_over moment b since (l ∷ leaves) m r over = elim (cases_Bool (nat_le since l.moment)) [
  | inl here ↦
      let p = r.1
      in let e : min l.bucket b ≡ b = omega (arith, p, over)
      in rw here (ap (λ x. Some x) e)
  | inr there ↦ rw there (lesser_over l.moment b since leaves (suc l.bucket) r.2 (let p = r.1 in omega (arith, p, over)))
]

pub first_with : (m b : ℕ) (l : Leave) (leaves : List Leave) (since : ℕ) → AreEarly l.moment leaves → Rises m b leaves
    → first_since (with_leave l leaves) since
    ≡ lesser_of (first_since leaves since) (if nat_le since l.moment then Some l.bucket else None)
first_with m b l [] since early r = refl
first_with m b l (x ∷ leaves) since early r = elim (cases_lt x.bucket l.bucket) [
  | inl under ↦ elim (cases_Bool (nat_le since x.moment)) [
    | inl here ↦
        let e = early.0
        in let h : nat_le since l.moment ≡ true = grind (arith, nat_tests)
        in let least : min x.bucket l.bucket ≡ x.bucket = omega (arith, under)
        in rw (lt-ltb x.bucket l.bucket under, here, h) (ap (λ n. Some n) (sym least))
    | inr there ↦
        rw (lt-ltb x.bucket l.bucket under, there) (first_with x.moment (suc x.bucket) l leaves since early.1 r.2)
  ]
  | inr over ↦ rw (le-ltb x.bucket l.bucket over) (elim (cases_lt l.moment since) [
    | inl late ↦
        let h : nat_le since l.moment ≡ false = lt-leb since l.moment late
        in rw h (sym (ap (λ o. lesser_of o None) (none_since l.moment since (x ∷ leaves) late early)))
    | inr soon ↦
        let h : nat_le since l.moment ≡ true = le-leb since l.moment soon
        in rw h (sym (lesser_over m l.bucket since (x ∷ leaves) x.bucket (r.0, omega arith, r.2) over))
  ])
]

-- LOOKING UP

pub bucket_parted : (m b : ℕ) (leaves : List Leave) (bucket : ℕ) (r : ℕ) → Rises m b leaves
    → ((i : ℕ) (d : Leave) → i < r → nat_lt (get_or leaves i d).bucket bucket ≡ true)
    → ((i : ℕ) (d : Leave) → r ≤ i → i < length leaves → nat_lt (get_or leaves i d).bucket bucket ≡ false)
    → take r leaves ≡ below bucket leaves
bucket_parted m b [] bucket zero r under over = refl
bucket_parted m b [] bucket (suc n) r under over = refl
bucket_parted m b (l ∷ leaves) bucket zero r under over =
    let h : nat_lt l.bucket bucket ≡ false = over 0 l (omega arith) (omega arith)
    in rw h refl
bucket_parted m b (l ∷ leaves) bucket (suc n) r under over =
    let h : nat_lt l.bucket bucket ≡ true = under 0 l (omega arith)
    in rw h (ap (λ ls. l ∷ ls)
    (bucket_parted l.moment (suc l.bucket) leaves bucket n r.2 (λ i d h. under (suc i) d (omega arith))
    (λ i d h k. over (suc i) d (omega arith) (omega arith))))

found_since : (m b : ℕ) (leaves : List Leave) (since r : ℕ) (d : Leave) → Rises m b leaves → r < length leaves
    → ((i : ℕ) (d : Leave) → i < r → nat_lt (get_or leaves i d).moment since ≡ true)
    → ((i : ℕ) (d : Leave) → r ≤ i → i < length leaves → nat_lt (get_or leaves i d).moment since ≡ false)
    → Some (get_or leaves r d).bucket ≡ first_since leaves since
found_since m b [] since r d rises within under over = absurd (omega arith)
found_since m b (l ∷ leaves) since zero d rises within under over =
    let no : nat_lt l.moment since ≡ false = over 0 l (omega arith) (omega arith)
    in let h : nat_le since l.moment ≡ true = grind (arith, nat_tests)
    in rw h refl
found_since m b (l ∷ leaves) since (suc r) d rises within under over =
    let yes : nat_lt l.moment since ≡ true = under 0 l (omega arith)
    in let h : nat_le since l.moment ≡ false = grind (arith, nat_tests)
    in rw h
    (found_since l.moment (suc l.bucket) leaves since r d rises.2 (omega arith) (λ i x k. under (suc i) x (omega arith))
    (λ i x k n. over (suc i) x (omega arith) (omega arith)))

not_since : (leaves : List Leave) (since r : ℕ) → length leaves ≤ r
    → ((i : ℕ) (d : Leave) → i < r → nat_lt (get_or leaves i d).moment since ≡ true)
    → None ≡ first_since leaves since
not_since [] since r all under = refl
not_since (l ∷ leaves) since zero all under = absurd (omega arith)
not_since (l ∷ leaves) since (suc r) all under =
    let yes : nat_lt l.moment since ≡ true = under 0 l (omega arith)
    in let h : nat_le since l.moment ≡ false = grind (arith, nat_tests)
    in rw h (not_since leaves since r (omega arith) (λ i x k. under (suc i) x (omega arith)))

pub at_since : (leaves : List Leave) (since r : ℕ) (d : Leave) → Rises 0 0 leaves → r < length leaves
    → ((i : ℕ) (d : Leave) → i < r → nat_lt (get_or leaves i d).moment since ≡ true)
    → ((i : ℕ) (d : Leave) → r ≤ i → i < length leaves → nat_lt (get_or leaves i d).moment since ≡ false)
    → Some (get_or leaves r d).bucket ≡ first_since leaves since
at_since leaves since r d rises within under over = found_since 0 0 leaves since r d rises within under over

pub past_since : (leaves : List Leave) (since r : ℕ) → length leaves ≤ r
    → ((i : ℕ) (d : Leave) → i < r → nat_lt (get_or leaves i d).moment since ≡ true)
    → None ≡ first_since leaves since
past_since leaves since r all under = not_since leaves since r all under

rises_at : (m b : ℕ) (leaves : List Leave) (i : ℕ) (d : Leave) → Rises m b leaves → i < length leaves
    → (m ≤ (get_or leaves i d).moment) × (b ≤ (get_or leaves i d).bucket)
rises_at m b [] i d rises within = absurd (omega arith)
rises_at m b (l ∷ leaves) zero d rises within = (rises.0, rises.1)
rises_at m b (l ∷ leaves) (suc i) d rises within =
    let later = rises_at l.moment (suc l.bucket) leaves i d rises.2 (omega arith)
    in let p = rises.0 in let q = rises.1 in let x = later.0 in let y = later.1
    in (omega (arith, p, x), omega (arith, q, y))

rises_two : (m b : ℕ) (leaves : List Leave) (i j : ℕ) (d : Leave) → Rises m b leaves → i ≤ j → j < length leaves
    → ((get_or leaves i d).moment ≤ (get_or leaves j d).moment) × ((get_or leaves i d).bucket ≤ (get_or leaves j d).bucket)
rises_two m b [] i j d rises order within = absurd (omega arith)
rises_two m b (l ∷ leaves) zero zero d rises order within = (omega arith, omega arith)
rises_two m b (l ∷ leaves) zero (suc j) d rises order within =
    let later = rises_at l.moment (suc l.bucket) leaves j d rises.2 (omega arith)
    in let y = later.1 in (later.0, omega (arith, y))
rises_two m b (l ∷ leaves) (suc i) zero d rises order within = absurd (omega arith)
rises_two m b (l ∷ leaves) (suc i) (suc j) d rises order within =
    rises_two l.moment (suc l.bucket) leaves i j d rises.2 (omega arith) (omega arith)

pub by_moment : (leaves : List Leave) (since : ℕ) → Rises 0 0 leaves
    → IsPartitionedBy (λ (l : Leave). nat_lt l.moment since) leaves
by_moment leaves since rises i j d order within below =
    let p = (rises_two 0 0 leaves i j d rises order within).0
    in grind (arith, nat_tests)

pub by_bucket : (leaves : List Leave) (bucket : ℕ) → Rises 0 0 leaves
    → IsPartitionedBy (λ (l : Leave). nat_lt l.bucket bucket) leaves
by_bucket leaves bucket rises i j d order within below =
    let p = (rises_two 0 0 leaves i j d rises order within).1
    in grind (arith, nat_tests)

-- A MOVE

target_more : (moves : List Move) (m : Move) (b : ℕ)
    → is_some (target (moves ++ m ∷ []) b) ≡ (is_some (target moves b) || m.bucket == b)
target_more [] m b = elim (cases_Bool (m.bucket == b)) [
  | inl here ↦ rw here refl
  | inr there ↦ rw there refl
]
target_more (x ∷ moves) m b = elim (cases_Bool (x.bucket == b)) [
  | inl here ↦ rw here refl
  | inr there ↦ rw there (target_more moves m b)
]

or_none : (b : Bool) → (b || false) ≡ b
or_none true = refl
or_none false = refl

or_again : (w old : Bool) → (w || old) ≡ ((w || old) || w)
or_again true old = refl
or_again false true = refl
or_again false false = refl

or_turned : (w old : Bool) → (w || old) ≡ (old || w)
or_turned true true = refl
or_turned true false = refl
or_turned false true = refl
or_turned false false = refl

either : (p q x y old : Bool) → ((p || q) && x && y || old) ≡ ((p && x && y || old) || q && x && y)
either true true x y old = or_again (x && y) old
either true false x y old = sym (or_none (x && y || old))
either false true x y old = or_turned (x && y) old
either false false x y old = sym (or_none old)

-- a move of this bucket at the server since the moment
abbrev leaves_by : Planned → ℕ → Move → ServerId → ℕ → ℕ → Bool
leaves_by plan n m s since b =
    m.bucket == b && same_server (table plan n b).cur s && nat_le since (change_moment (next_change plan n))

by_more : (plan : Planned) (n : ℕ) (moves : List Move) (m : Move) (s : ServerId) (since b : ℕ)
    → left_by plan n (moves ++ m ∷ []) s since b ≡ (left_by plan n moves s since b || leaves_by plan n m s since b)
by_more plan n moves m s since b =
    ap (λ (t : Bool). t && same_server (table plan n b).cur s && nat_le since (change_moment (next_change plan n))
    || left_since plan n s since b) (target_more moves m b)
    ∙ either (is_some (target moves b)) (m.bucket == b) (same_server (table plan n b).cur s)
    (nat_le since (change_moment (next_change plan n))) (left_since plan n s since b)

here_least : (plan : Planned) (n : ℕ) (m : Move) (s : ServerId) (since : ℕ)
    → same_server (table plan n m.bucket).cur s ≡ true
    → IsLeast (leaves_by plan n m s since)
    (if nat_le since (change_moment (next_change plan n)) then Some m.bucket else None)
here_least plan n m s since here = elim (cases_Bool (nat_le since (change_moment (next_change plan n)))) [
  | inl soon ↦ rw soon (
    rw (eq-eqb m.bucket m.bucket refl, here, soon) refl,
    λ other under. rw (ne_eqb m.bucket other (λ e. absurd (omega (arith, under, e)))) refl,
  )
  | inr late ↦ rw late (λ b. none b (m.bucket == b) (same_server (table plan n b).cur s) late)
] where
  none : (b : ℕ) (x y : Bool) → nat_le since (change_moment (next_change plan n)) ≡ false
      → (x && y && nat_le since (change_moment (next_change plan n))) ≡ false
  none b true true late = late
  none b true false late = refl
  none b false y late = refl

there_none : (plan : Planned) (n : ℕ) (m : Move) (s : ServerId) (since b : ℕ)
    → same_server (table plan n m.bucket).cur s ≡ false → leaves_by plan n m s since b ≡ false
there_none plan n m s since b there = elim (cases_eq m.bucket b) [
  | inl same ↦
      let no : same_server (table plan n b).cur s ≡ false =
      subst (λ x. same_server (table plan n x).cur s ≡ false) same there
      in rw (eq-eqb m.bucket b same, no) refl
  | inr other ↦ rw (ne_eqb m.bucket b other) refl
]

-- the lists after a move of the next change
pub left_more : (plan : Planned) (n : ℕ) (list : List Move) (place : ℕ) (d : Move) (s : ℕ) (l : Leave) (entry : Entry)
    (old new : List Leave) → IsPlan plan → n < length plan.changes → place < length list
    → l.moment ≡ change_moment (next_change plan n) → l.bucket ≡ (get_or list place d).bucket
    → entry ≡ table plan n (get_or list place d).bucket → new ≡ (if entry.cur.0 == s then with_leave l old else old)
    → AreLeft plan n (take place list) s old → AreLeft plan n (take (place + 1) list) s new
left_more plan n list place d s l entry old new is_plan within here moment bucket there now are =
    let m = get_or list place d
    in let is : new ≡ (if (table plan n m.bucket).cur.0 == s then with_leave l old else old) =
    now ∙ ap (λ (e : Entry). if e.cur.0 == s then with_leave l old else old) there
    in let more : take (place + 1) list ≡ take place list ++ m ∷ [] = grind (arith, common_steps)
    in subst (λ moves. AreLeft plan n moves s new) (sym more) (rw is (elim (cases_Bool ((table plan n m.bucket).cur.0 == s)) [
      | inl mine ↦ rw mine (record {
        rises = rises_with 0 0 l old (omega arith) (omega arith) (early m) are.rises;
        early = λ v order inside. early_with (change_moment (next_change plan v)) l old
            (rw moment (is_plan.stamps n v order inside)) (are.early v order inside);
        least = λ since.
            let one : (if nat_le since l.moment then Some l.bucket else None)
            ≡ (if nat_le since (change_moment (next_change plan n)) then Some m.bucket else None) =
            λ i. if nat_le since (moment i) then Some (bucket i) else None
            in subst (λ o. IsLeast (left_by plan n (take place list ++ m ∷ []) (record { 0 = s }) since) o)
            (sym (first_with 0 0 l old since (early m) are.rises ∙ ap (λ o. lesser_of (first_since old since) o) one))
            (IsLeast-same
            (λ b. left_by plan n (take place list) (record { 0 = s }) since b || leaves_by plan n m (record { 0 = s }) since b)
            (left_by plan n (take place list ++ m ∷ []) (record { 0 = s }) since)
            (by_more plan n (take place list) m (record { 0 = s }) since) _
            (IsLeast-or (left_by plan n (take place list) (record { 0 = s }) since)
            (leaves_by plan n m (record { 0 = s }) since) (first_since old since)
            (if nat_le since (change_moment (next_change plan n)) then Some m.bucket else None) (are.least since)
            (here_least plan n m (record { 0 = s }) since mine)));
      })
      | inr others ↦ rw others (record {
        rises = are.rises;
        early = are.early;
        least = λ since.
            IsLeast-same (left_by plan n (take place list) (record { 0 = s }) since)
            (left_by plan n (take place list ++ m ∷ []) (record { 0 = s }) since)
            (λ b. by_more plan n (take place list) m (record { 0 = s }) since b
            ∙ ap (λ x. left_by plan n (take place list) (record { 0 = s }) since b || x)
            (there_none plan n m (record { 0 = s }) since b others)
            ∙ or_none (left_by plan n (take place list) (record { 0 = s }) since b))
            (first_since old since) (are.least since);
      })
    ])) where
      early : (m : Move) → AreEarly l.moment old
      early m = rw moment (are.early n (omega arith) within)

-- A CHANGE

pub left_first : (plan : Planned) (n : ℕ) (s : ℕ) (leaves : List Leave) (list : List Move) → AreLeft plan n [] s leaves
    → AreLeft plan n (take 0 list) s leaves
left_first plan n s leaves list are = are

pub left_next : (plan : Planned) (n : ℕ) (c : Change) (s : ℕ) (leaves : List Leave) → next_change plan n ≡ Some c
    → AreLeft plan n c.moves s leaves → AreLeft plan (suc n) [] s leaves
left_next plan n c s leaves next are = record {
  rises = are.rises;
  early = λ v order there. are.early v (omega arith) there;
  least = λ since.
      IsLeast-same (left_by plan n c.moves (record { 0 = s }) since)
      (left_by plan (suc n) [] (record { 0 = s }) since) (λ b. rw next refl) (first_since leaves since)
      (are.least since);
}

at_change : (changes : List Change) (n : ℕ) (c : Change) → slice_get changes n ≡ Some c
    → (n < length changes) × (get_or changes n c ≡ c)
at_change [] n c is = absurd (cc)
at_change (x ∷ changes) zero c is = (omega arith, same_Some _ _ is)
at_change (x ∷ changes) (suc n) c is =
    let later = at_change changes n c is in let l = later.0 in (omega (arith, l), later.1)

-- the buckets that a change moves are the plan's
pub moves_within : (plan : Planned) (n : ℕ) (c : Change) → IsPlan plan → next_change plan n ≡ Some c
    → All (λ m. m.bucket < plan.buckets) c.moves
moves_within plan n c is_plan next =
    let at = at_change plan.changes n c next
    in MovesRise-range plan.buckets 0 c.moves
    (subst (λ (x : Change). MovesRise plan.buckets 0 x.moves) at.1
    (All-get_or (λ (x : Change). MovesRise plan.buckets 0 x.moves) plan.changes n c at.0 is_plan.places))

pub drained_next : (plan : Planned) (n : ℕ) (c : Change) (s : ServerId) (old mid new : Bool) → next_change plan n ≡ Some c
    → new ≡ (is_drain c.kind s || mid) → mid ≡ old → old ≡ is_drained plan n s → new ≡ is_drained plan (suc n) s
drained_next plan n c s old mid new next is same before =
    is ∙ ap (λ b. is_drain c.kind s || b) (same ∙ before) ∙ (rw next refl)

-- A REQUEST

since_is : (at timeout moment : ℕ) → leb at (moment + timeout) ≡ leb (at - timeout) moment
since_is at timeout moment =
    elim (cases_lt (moment + timeout) at) [
      | inl late ↦
          let t : leb (at - timeout) moment ≡ false = lt-leb _ _ (omega (arith, late))
          in lt-leb _ _ late ∙ sym t
      | inr early ↦
          let t : leb (at - timeout) moment ≡ true = le-leb _ _ (omega (arith, early))
          in le-leb _ _ early ∙ sym t
    ]

late_is : (plan : Planned) (timeout n : ℕ) (s : ServerId) (at b : ℕ)
    → leaves_late plan timeout n s at b ≡ left_since plan n s (at - timeout) b
late_is plan timeout zero s at b = refl
late_is plan timeout (suc n) s at b =
    (λ i. (moves_next plan n b && same_server (table plan n b).cur s
    && since_is at timeout (change_moment (next_change plan n)) i) || late_is plan timeout n s at b i)

least_late : (plan : Planned) (timeout n : ℕ) (s : ServerId) (at : ℕ) (leaves : List Leave) (found : Option ℕ)
    → AreLeft plan n [] s.0 leaves → found ≡ first_since leaves (at - timeout)
    → IsLeast (leaves_late plan timeout n s at) found
least_late plan timeout n s at leaves found are is =
    IsLeast-same (left_by plan n [] s (at - timeout)) (leaves_late plan timeout n s at) (late_is plan timeout n s at) found
    (subst (λ o. IsLeast (left_by plan n [] s (at - timeout)) o) (sym is) (are.least (at - timeout)))

pub too_early : (plan : Planned) (timeout n : ℕ) (s : ServerId) (at : ℕ) (leaves : List Leave) (b : ℕ)
    → is_drained plan n s ≡ true → AreLeft plan n [] s.0 leaves → Some b ≡ first_since leaves (at - timeout)
    → IsRetirement plan timeout n s at (TooEarly b)
too_early plan timeout n s at leaves b drained are is =
    let least = least_late plan timeout n s at leaves (Some b) are is in (drained, least.0, least.1)

pub is_done : (plan : Planned) (timeout n : ℕ) (s : ServerId) (at : ℕ) (leaves : List Leave)
    → is_drained plan n s ≡ true → AreLeft plan n [] s.0 leaves → None ≡ first_since leaves (at - timeout)
    → IsRetirement plan timeout n s at Done
is_done plan timeout n s at leaves drained are is =
    (drained, least_late plan timeout n s at leaves None are is)

-- ANOTHER EVENT

abbrev pub is_publish : What → Bool
is_publish (Publish v) = true
is_publish _ = false

same_newest : (what : What) (before : ℕ) → is_publish what ≡ false → published_by what before ≡ before
same_newest (Publish v) before other = absurd (cc)
same_newest (Switch m v) before other = refl
same_newest (Steer k m) before other = refl
same_newest (Lose k hop) before other = refl
same_newest (Arrive k hop server verdict) before other = refl
same_newest (Close server flow closed) before other = refl
same_newest (Retire server h at result) before other = refl
same_newest Sync before other = refl

pub still_newest : (plan : Planned) (past : List Event) (e : Event) (what : What) (leaves : Leaves) → e.what ≡ what
    → is_publish what ≡ false → KeepsLeaves plan (newest past) leaves → KeepsLeaves plan (newest (e ∷ past)) leaves
still_newest plan past e what leaves is other keeps =
    subst (λ n. KeepsLeaves plan n leaves)
    (sym (ap (λ (w : What). published_by w (newest past)) is ∙ same_newest what (newest past) other)) keeps

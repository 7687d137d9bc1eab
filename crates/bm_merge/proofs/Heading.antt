-- Logs merged by their next events.
use Rattle.std.proofs.Common.{◌≡◌, ℕ, zero, suc, ◌+◌, ◌<◌, ◌≤◌, Bool, true, false, cond, List, [], ◌∷◌, ◌++◌, length}
use Rattle.std.proofs.Common.{Some, None, Option, unwrap_or, drop, take, map, min, refl, sym, ap, subst, ◌∙◌, arith}
use Rattle.std.proofs.Common.{leb, set}
use Rattle.std.specs.Prelude.{reverse, slice_get, slice_index_or}
use Rattle.std.specs.List.{AllByRecursion, remove}
use Rattle.std.proofs.lemmas.Bool.{le-leb, lt-leb}
use mathlib.Core.List.{reverse_aux}
use Rattle.std.proofs.lemmas.Option.{slice_get-get_or}
use Rattle.std.proofs.lemmas.List.{reverse-append, reverse-reverse, length-append, length-reverse}
use Rattle.bm_core.specs.declared.events.Event.{Event}
use Rattle.bm_merge.specs.declared.rising.Head.{Head}
use Rattle.bm_merge.specs.Merges.{place_in, by_clock, joined}
use Rattle.bm_merge.specs.Rising.{IsRising, in_order}
use Rattle.bm_merge.specs.Inside.Rising.{AreStanding, IsEarliest, IsNextOf, Stands, all_logs, left_of, lefts}
use Rattle.bm_merge.proofs.Joined.{joined_append, joined_next, none_more}
use Rattle.bm_merge.proofs.Placed.{IsFalling, all_by_clock, all_so}
use Rattle.bm_merge.proofs.Sorting.{clock_falls, of_append, of_by_clock, of_clock, of_reverse, one_order}

-- ALL OF TWO LISTS

pub all_append : (P : Event → Type 0) (x y : List Event) → AllByRecursion P x → AllByRecursion P y
    → AllByRecursion P (x ++ y)
all_append P [] y p q = q
all_append P (e ∷ x) y p q = (p.0, all_append P x y p.1 q)

pub all_reverse : (P : Event → Type 0) (x : List Event) → AllByRecursion P x → AllByRecursion P (reverse x)
all_reverse P [] p = tt
all_reverse P (e ∷ x) p =
    let rest : AllByRecursion P (reverse x ++ e ∷ []) =
    all_append P (reverse x) (e ∷ []) (all_reverse P x p.1) (p.0, tt) in
    let is : reverse (e ∷ x) ≡ reverse x ++ e ∷ [] = reverse-append (e ∷ []) x in
    rw is rest

-- THE EVENT OF THE LEAST CLOCK

place_last : (e : Event) (s : List Event) → AllByRecursion (λ x. e.clock.0 < x.clock.0) s → place_in e s ≡ s ++ e ∷ []
place_last e [] over = refl
place_last e (x ∷ s) over =
    let h : e.clock.0 < x.clock.0 = over.0 in
    let under : leb x.clock.0 e.clock.0 ≡ false = lt-leb _ _ h in
    rw under (ap (λ (l : List Event). x ∷ l) (place_last e s over.1))

place_before : (b e : Event) (s : List Event) → e.clock.0 ≤ b.clock.0
    → place_in b (s ++ e ∷ []) ≡ place_in b s ++ e ∷ []
place_before b e [] le = let is : leb e.clock.0 b.clock.0 ≡ true = le-leb _ _ le in rw is refl
place_before b e (x ∷ s) le = step (leb x.clock.0 b.clock.0) (place_before b e s le) where
  step : (t : Bool) → place_in b (s ++ e ∷ []) ≡ place_in b s ++ e ∷ []
      → cond t (b ∷ x ∷ (s ++ e ∷ [])) (x ∷ place_in b (s ++ e ∷ []))
      ≡ cond t (b ∷ x ∷ s) (x ∷ place_in b s) ++ e ∷ []
  step true old = refl
  step false old = ap (λ (l : List Event). x ∷ l) old

by_clock_last : (newer older : List Event) (e : Event) → AllByRecursion (λ x. e.clock.0 < x.clock.0) older
    → AllByRecursion (λ x. e.clock.0 ≤ x.clock.0) newer
    → by_clock (newer ++ e ∷ older) ≡ by_clock (newer ++ older) ++ e ∷ []
by_clock_last [] older e over up = place_last e (by_clock older) (all_by_clock (λ x. e.clock.0 < x.clock.0) older over)
by_clock_last (b ∷ newer) older e over up =
    ap (λ (l : List Event). place_in b l) (by_clock_last newer older e over up.1)
    ∙ place_before b e (by_clock (newer ++ older)) up.0

regrouped : (x y : List Event) (e : Event) → (x ++ e ∷ []) ++ y ≡ x ++ e ∷ y
regrouped [] y e = refl
regrouped (d ∷ x) y e = ap (λ (l : List Event). d ∷ l) (regrouped x y e)

-- the event of the least clock comes first, where it is the first of these
takes_first : (a b : List Event) (e : Event) → AllByRecursion (λ x. e.clock.0 < x.clock.0) a
    → AllByRecursion (λ x. e.clock.0 ≤ x.clock.0) b → in_order (a ++ e ∷ b) ≡ e ∷ in_order (a ++ b)
takes_first a b e over up =
    let turned : reverse (a ++ e ∷ b) ≡ reverse b ++ e ∷ reverse a =
    reverse-append a (e ∷ b)
    ∙ ap (λ (l : List Event). l ++ reverse a) (reverse-append (e ∷ []) b)
    ∙ regrouped (reverse b) (reverse a) e in
    ap (λ (l : List Event). reverse (by_clock l)) turned
    ∙ ap (λ (l : List Event). reverse l)
    (by_clock_last (reverse b) (reverse a) e (all_reverse (λ x. e.clock.0 < x.clock.0) a over)
    (all_reverse (λ x. e.clock.0 ≤ x.clock.0) b up))
    ∙ reverse-append (by_clock (reverse b ++ reverse a)) (e ∷ [])
    ∙ ap (λ (l : List Event). e ∷ reverse (by_clock l)) (sym (reverse-append a b))

-- HEADS

over_left : (n : ℕ) (e : Event) (es : List Event) → IsRising (e ∷ es) → n < e.clock.0
    → AllByRecursion (λ x. n < x.clock.0) (e ∷ es)
over_left n e es rising lt =
    (lt, all_so (λ x. e.clock.0 ≤ x.clock.0) (λ x. n < x.clock.0) es (λ x h. omega arith) rising.0)

up_left : (n : ℕ) (e : Event) (es : List Event) → IsRising (e ∷ es) → n ≤ e.clock.0
    → AllByRecursion (λ x. n ≤ x.clock.0) (e ∷ es)
up_left n e es rising le =
    (le, all_so (λ x. e.clock.0 ≤ x.clock.0) (λ x. n ≤ x.clock.0) es (λ x h. omega arith) rising.0)

up_all : (logs : List (List Event)) (heads : List Head) (n : ℕ) → AreStanding logs heads
    → ((i : ℕ) (h : Head) → slice_get heads i ≡ Some h → n ≤ h.event.clock.0)
    → AllByRecursion (λ x. n ≤ x.clock.0) (joined (lefts logs heads))
up_all logs [] n stand up = tt
up_all logs (h ∷ heads) n stand up =
    all_append (λ x. n ≤ x.clock.0) (left_of logs h) (joined (lefts logs heads))
    (up_left n h.event (drop h.behind (slice_index_or logs h.log [])) stand.0.rising (up 0 h refl))
    (up_all logs heads n stand.1 (λ i x here. up (suc i) x here))

-- what comes before the head at a place and after it
pub record Split (logs : List (List Event)) (heads : List Head) (at : ℕ) (h : Head) : Type 0 where
  pub a : List Event
  pub b : List Event
  pub over : AllByRecursion (λ x. h.event.clock.0 < x.clock.0) a
  pub up : AllByRecursion (λ x. h.event.clock.0 ≤ x.clock.0) b
  pub whole : joined (lefts logs heads) ≡ a ++ (left_of logs h ++ b)
  pub without : joined (lefts logs (remove heads at)) ≡ a ++ b
  pub with : (x : Head) → joined (lefts logs (set heads at x)) ≡ a ++ (left_of logs x ++ b)
  pub stands : Stands logs h
  pub others : AreStanding logs (remove heads at)
  pub also : (x : Head) → Stands logs x → AreStanding logs (set heads at x)

associated : (x y z : List Event) → x ++ (y ++ z) ≡ (x ++ y) ++ z
associated [] y z = refl
associated (e ∷ x) y z = ap (λ (l : List Event). e ∷ l) (associated x y z)

pub split : (logs : List (List Event)) (heads : List Head) (at : ℕ) (h : Head) → AreStanding logs heads
    → slice_get heads at ≡ Some h
    → ((i : ℕ) (x : Head) → i < at → slice_get heads i ≡ Some x → h.event.clock.0 < x.event.clock.0)
    → ((i : ℕ) (x : Head) → at ≤ i → slice_get heads i ≡ Some x → h.event.clock.0 ≤ x.event.clock.0)
    → Split logs heads at h
split logs [] at h stand here before behind = absurd (cc)
split logs (x ∷ heads) zero h stand here before behind =
    let is : x ≡ h = ap (λ (o : Option Head). unwrap_or o x) here in
    record {
      a = [];
      b = joined (lefts logs heads);
      over = tt;
      up = up_all logs heads h.event.clock.0 stand.1 (λ i y there. behind (suc i) y (omega arith) there);
      whole = ap (λ (z : Head). left_of logs z ++ joined (lefts logs heads)) is;
      without = refl;
      with = λ y. refl;
      stands = subst (λ (z : Head). Stands logs z) is stand.0;
      others = stand.1;
      also = λ y ok. (ok, stand.1);
    }
split logs (x ∷ heads) (suc at) h stand here before behind =
    let rest = split logs heads at h stand.1 here (λ i y lt there. before (suc i) y (omega arith) there)
    (λ i y le there. behind (suc i) y (omega arith) there) in
    record {
      a = left_of logs x ++ rest.a;
      b = rest.b;
      over = all_append (λ y. h.event.clock.0 < y.clock.0) (left_of logs x) rest.a
          (over_left h.event.clock.0 x.event (drop x.behind (slice_index_or logs x.log [])) stand.0.rising
          (before 0 x (omega arith) refl)) rest.over;
      up = rest.up;
      whole = ap (λ (l : List Event). left_of logs x ++ l) rest.whole
          ∙ associated (left_of logs x) rest.a (left_of logs h ++ rest.b);
      without = ap (λ (l : List Event). left_of logs x ++ l) rest.without ∙ associated (left_of logs x) rest.a rest.b;
      with = λ y. ap (λ (l : List Event). left_of logs x ++ l) (rest.with y)
          ∙ associated (left_of logs x) rest.a (left_of logs y ++ rest.b);
      stands = rest.stands;
      others = (stand.0, rest.others);
      also = λ y ok. (stand.0, rest.also y ok);
    }

pub split_earliest : (logs : List (List Event)) (heads looked : List Head) (at : ℕ) (h : Head) → AreStanding logs heads
    → looked ≡ heads → IsEarliest looked at → h ≡ slice_index_or heads at h → Split logs heads at h
split_earliest logs heads looked at h stand same least is =
    let here : slice_get heads at ≡ Some h =
    slice_get-get_or heads at h (subst (λ (l : List Head). at < length l) same least.there)
    ∙ ap (λ (x : Head). Some x) (sym is) in
    let of : (i : ℕ) (x : Head) → slice_get heads i ≡ Some x → slice_get looked i ≡ Some x =
    λ i x there. ap (λ (l : List Head). slice_get l i) same ∙ there in
    split logs heads at h stand here (λ i x lt there. least.before i x h lt (of i x there) (of at h here))
    (λ i x le there. least.behind i x h le (of i x there) (of at h here))

-- THE NEXT EVENT IS TAKEN

abbrev behind_of : List (List Event) → Head → List Event
behind_of logs h = drop h.behind (slice_index_or logs h.log [])

taken : (logs : List (List Event)) (heads : List Head) (at : ℕ) (h : Head) (s : Split logs heads at h)
    → in_order (joined (lefts logs heads)) ≡ h.event ∷ in_order (s.a ++ (behind_of logs h ++ s.b))
taken logs heads at h s =
    ap (λ (l : List Event). in_order l) s.whole
    ∙ takes_first s.a (behind_of logs h ++ s.b) h.event s.over
    (all_append (λ x. h.event.clock.0 ≤ x.clock.0) (behind_of logs h) s.b s.stands.rising.0 s.up)

-- it was the last of its log
pub took_last : (logs : List (List Event)) (heads : List Head) (at : ℕ) (h : Head) → Split logs heads at h
    → behind_of logs h ≡ []
    → in_order (joined (lefts logs heads)) ≡ h.event ∷ in_order (joined (lefts logs (remove heads at)))
took_last logs heads at h s none =
    taken logs heads at h s
    ∙ ap (λ (l : List Event). h.event ∷ in_order l)
    (ap (λ (l : List Event). s.a ++ (l ++ s.b)) none ∙ sym s.without)

-- there is one after it
pub took_one : (logs : List (List Event)) (heads : List Head) (at : ℕ) (h x : Head) → Split logs heads at h
    → behind_of logs h ≡ left_of logs x
    → in_order (joined (lefts logs heads)) ≡ h.event ∷ in_order (joined (lefts logs (set heads at x)))
took_one logs heads at h x s next =
    taken logs heads at h s
    ∙ ap (λ (l : List Event). h.event ∷ in_order l)
    (ap (λ (l : List Event). s.a ++ (l ++ s.b)) next ∙ sym (s.with x))

-- what was taken comes after what was taken before
pub onto : (done more all rest left : List Event) (e : Event) → more ≡ done ++ e ∷ [] → done ++ left ≡ all
    → left ≡ e ∷ rest → more ++ rest ≡ all
onto done more all rest left e is was next =
    ap (λ (l : List Event). l ++ rest) is ∙ sym (associated done (e ∷ []) rest)
    ∙ ap (λ (l : List Event). done ++ l) (sym next) ∙ was

-- so fewer are left
pub fewer : (left rest : List Event) (e : Event) → left ≡ e ∷ rest → length rest < length left
fewer left rest e next = let h = ap (λ (l : List Event). length l) next in omega arith

pub next_stands : (logs : List (List Event)) (h x : Head) → Stands logs h → x.log ≡ h.log
    → behind_of logs h ≡ left_of logs x → Stands logs x
next_stands logs h x stands same next = record {
  log = rw same stands.log;
  rising = subst (λ (l : List Event). IsRising l) next stands.rising.1;
}

-- THE FIRST EVENTS

pub rising_at : (logs : List (List Event)) (i : ℕ) → AllByRecursion IsRising logs → i < length logs
    → IsRising (slice_index_or logs i [])
rising_at [] i all lt = absurd (omega arith)
rising_at (x ∷ logs) zero all lt = all.0
rising_at (x ∷ logs) (suc i) all lt = rising_at logs i all.1 (omega arith)

stand_more : (logs : List (List Event)) (heads : List Head) (h : Head) → AreStanding logs heads → Stands logs h
    → AreStanding logs (heads ++ h ∷ [])
stand_more logs [] h stand one = (one, tt)
stand_more logs (x ∷ heads) h stand one = (stand.0, stand_more logs heads h stand.1 one)

lefts_more : (logs : List (List Event)) (heads : List Head) (h : Head)
    → joined (lefts logs (heads ++ h ∷ [])) ≡ joined (lefts logs heads) ++ left_of logs h
lefts_more logs [] h = none_more (left_of logs h)
lefts_more logs (x ∷ heads) h =
    ap (λ (l : List Event). left_of logs x ++ l) (lefts_more logs heads h)
    ∙ associated (left_of logs x) (joined (lefts logs heads)) (left_of logs h)

pub more_stand : (logs : List (List Event)) (heads more : List Head) (h : Head) (i : ℕ) → AllByRecursion IsRising logs
    → i < length logs → AreStanding logs heads → more ≡ heads ++ h ∷ [] → IsNextOf logs i 0 (Some h)
    → AreStanding logs more
more_stand logs heads more h i all lt stand is next =
    rw is (stand_more logs heads h stand (record {
      log = rw next.0 lt;
      rising = subst (λ (l : List Event). IsRising l) next.1 (rising_at logs i all lt);
    }))

pub more_left : (logs : List (List Event)) (heads more : List Head) (h : Head) (i : ℕ) → i < length logs
    → joined (lefts logs heads) ≡ joined (take i logs) → more ≡ heads ++ h ∷ [] → IsNextOf logs i 0 (Some h)
    → joined (lefts logs more) ≡ joined (take (suc i) logs)
more_left logs heads more h i lt was is next =
    ap (λ (l : List Head). joined (lefts logs l)) is ∙ lefts_more logs heads h
    ∙ ap (λ (l : List Event). l ++ left_of logs h) was
    ∙ ap (λ (l : List Event). joined (take i logs) ++ l) (sym next.1)
    ∙ sym (joined_next logs i [] lt)

pub none_left : (logs : List (List Event)) (heads : List Head) (i : ℕ) → i < length logs
    → joined (lefts logs heads) ≡ joined (take i logs) → IsNextOf logs i 0 None
    → joined (lefts logs heads) ≡ joined (take (suc i) logs)
none_left logs heads i lt was next =
    was ∙ sym (none_more (joined (take i logs)))
    ∙ ap (λ (l : List Event). joined (take i logs) ++ l) (sym next)
    ∙ sym (joined_next logs i [] lt)

-- A LOG THAT IS IN ORDER

turned_onto : (xs acc : List Event) → IsFalling (λ x. x.clock.0) xs → IsRising acc
    → AllByRecursion (λ x. AllByRecursion (λ a. x.clock.0 ≤ a.clock.0) acc) xs → IsRising (reverse_aux xs acc)
turned_onto [] acc falls rises under = rises
turned_onto (x ∷ xs) acc falls rises under =
    turned_onto xs (x ∷ acc) falls.1 (under.0, rises) (both xs falls.0 under.1) where
      both : (ys : List Event) → AllByRecursion (λ y. y.clock.0 ≤ x.clock.0) ys
          → AllByRecursion (λ y. AllByRecursion (λ a. y.clock.0 ≤ a.clock.0) acc) ys
          → AllByRecursion (λ y. AllByRecursion (λ a. y.clock.0 ≤ a.clock.0) (x ∷ acc)) ys
      both [] le all = tt
      both (y ∷ ys) le all = ((le.0, all.0), both ys le.1 all.1)

none_under : (xs : List Event) → AllByRecursion (λ x. AllByRecursion (λ (a : Event). x.clock.0 ≤ a.clock.0) []) xs
none_under [] = tt
none_under (x ∷ xs) = (tt, none_under xs)

pub falling_rises : (xs : List Event) → IsFalling (λ x. x.clock.0) xs → IsRising (reverse xs)
falling_rises xs falls = turned_onto xs [] falls tt (none_under xs)

pub in_order_rises : (events : List Event) → IsRising (in_order events)
in_order_rises events = falling_rises (by_clock (reverse events)) (clock_falls (reverse events))

-- the events of one clock keep their order
of_order : (c : ℕ) (events : List Event) → of_clock c (in_order events) ≡ of_clock c events
of_order c events =
    of_reverse c (by_clock (reverse events))
    ∙ ap (λ (l : List Event). reverse l) (of_by_clock c (reverse events) ∙ of_reverse c events)
    ∙ reverse-reverse (of_clock c events)

-- so events are put in one order by those of each clock
pub orders_alike : (x y : List Event) → ((c : ℕ) → of_clock c x ≡ of_clock c y) → in_order x ≡ in_order y
orders_alike x y same =
    ap (λ (l : List Event). reverse l)
    (one_order (by_clock (reverse x)) (by_clock (reverse y)) (clock_falls (reverse x)) (clock_falls (reverse y))
    (λ c. of_by_clock c (reverse x) ∙ of_reverse c x ∙ ap (λ (l : List Event). reverse l) (same c)
    ∙ sym (of_by_clock c (reverse y) ∙ of_reverse c y)))

-- what each group merges to
abbrev pub orders : List (List (List Event)) → List (List Event)
orders groups = map (λ logs. in_order (joined logs)) groups

of_groups : (c : ℕ) (groups : List (List (List Event)))
    → of_clock c (joined (orders groups)) ≡ of_clock c (joined (all_logs groups))
of_groups c [] = refl
of_groups c (logs ∷ groups) =
    of_append c (in_order (joined logs)) (joined (orders groups))
    ∙ ap (λ (l : List Event). l ++ of_clock c (joined (orders groups))) (of_order c (joined logs))
    ∙ ap (λ (l : List Event). of_clock c (joined logs) ++ l) (of_groups c groups)
    ∙ sym (of_append c (joined logs) (joined (all_logs groups)))
    ∙ ap (λ (l : List Event). of_clock c l) (sym (joined_append logs (all_logs groups)))

-- logs that were put in order by groups are put in order as they would be at once
pub in_order_again : (groups : List (List (List Event)))
    → in_order (joined (orders groups)) ≡ in_order (joined (all_logs groups))
in_order_again groups = orders_alike (joined (orders groups)) (joined (all_logs groups)) (λ c. of_groups c groups)

pub orders_rise : (groups : List (List (List Event))) → AllByRecursion IsRising (orders groups)
orders_rise [] = tt
orders_rise (logs ∷ groups) = (in_order_rises (joined logs), orders_rise groups)

-- WHAT COMES NEXT

from_place : (l : List Event) (i : ℕ) (e : Event) → slice_get l i ≡ Some e → drop i l ≡ e ∷ drop (suc i) l
from_place [] i e h = absurd (cc)
from_place (x ∷ l) zero e h = let is : x ≡ e = ap (λ (o : Option Event). unwrap_or o x) h in rw is refl
from_place (x ∷ l) (suc i) e h = from_place l i e h

pub mapped : {L : Type 0} (events : L → List Event) (logs : List L) (i : ℕ) (d : L) → i < length logs
    → slice_index_or (map events logs) i [] ≡ events (slice_index_or logs i d)
mapped events [] i d lt = absurd (omega arith)
mapped events (x ∷ logs) zero d lt = refl
mapped events (x ∷ logs) (suc i) d lt = mapped events logs i d (omega arith)

pub next_at : {L : Type 0} (events : L → List Event) (logs : List L) (log place : ℕ) (e : Event) (item : L)
    → log < length logs → item ≡ slice_index_or logs log item → slice_get (events item) place ≡ Some e
    → drop place (slice_index_or (map events logs) log [])
    ≡ e ∷ drop (place + 1) (slice_index_or (map events logs) log [])
next_at events logs log place e item lt there is =
    let one : place + 1 ≡ suc place = omega arith in
    rw one (from_place (slice_index_or (map events logs) log []) place e
    (ap (λ (l : List Event). slice_get l place) (mapped events logs log item lt ∙ ap events (sym there)) ∙ is))

past_end : (l : List Event) (i : ℕ) → length l ≤ i → drop i l ≡ []
past_end [] zero le = refl
past_end [] (suc i) le = refl
past_end (x ∷ l) zero le = absurd (omega arith)
past_end (x ∷ l) (suc i) le = past_end l i (omega arith)

pub none_at : {L : Type 0} (events : L → List Event) (logs : List L) (log place : ℕ) (item : L)
    → log < length logs → item ≡ slice_index_or logs log item → length (events item) ≤ place
    → drop place (slice_index_or (map events logs) log []) ≡ []
none_at events logs log place item lt there le =
    ap (λ (l : List Event). drop place l) (mapped events logs log item lt ∙ ap events (sym there))
    ∙ past_end (events item) place le

-- AS MANY AS BEFORE

length_place : (e : Event) (s : List Event) → length (place_in e s) ≡ suc (length s)
length_place e [] = refl
length_place e (x ∷ s) = step (leb x.clock.0 e.clock.0) (length_place e s) where
  step : (t : Bool) → length (place_in e s) ≡ suc (length s)
      → length (cond t (e ∷ x ∷ s) (x ∷ place_in e s)) ≡ suc (suc (length s))
  step true old = refl
  step false old = ap (λ (n : ℕ). suc n) old

length_by_clock : (es : List Event) → length (by_clock es) ≡ length es
length_by_clock [] = refl
length_by_clock (e ∷ es) = length_place e (by_clock es) ∙ ap (λ (n : ℕ). suc n) (length_by_clock es)

pub length_in_order : (es : List Event) → length (in_order es) ≡ length es
length_in_order es =
    length-reverse (by_clock (reverse es)) ∙ length_by_clock (reverse es) ∙ length-reverse es

-- PLACE BY PLACE

-- one place more is filled
pub filled_one : (out : List Event) (i : ℕ) (e : Event) → i < length out
    → take (i + 1) (set out i e) ≡ take i out ++ e ∷ []
filled_one out i e lt = let one : i + 1 ≡ suc i = omega arith in rw one (filled out i e lt) where
  filled : (out : List Event) (i : ℕ) (e : Event) → i < length out → take (suc i) (set out i e) ≡ take i out ++ e ∷ []
  filled [] i e lt = absurd (omega arith)
  filled (x ∷ out) zero e lt = refl
  filled (x ∷ out) (suc i) e lt = ap (λ (l : List Event). x ∷ l) (filled out i e (omega arith))

-- some log has an event, where a place is left
pub some_left : (logs : List (List Event)) (heads : List Head) (done : List Event) (place n : ℕ) → length done ≡ place
    → length (done ++ in_order (joined (lefts logs heads))) ≡ n → place < n → 0 < length heads
some_left logs [] done place n at size lt =
    let h = length-append done [] in absurd (omega arith)
some_left logs (h ∷ heads) done place n at size lt = omega arith

-- none has one, where none is left
pub none_behind : (done rest all : List Event) → done ++ rest ≡ all → length done ≡ length all → done ≡ all
none_behind done rest all is size =
    let sum = length-append done rest in
    let same = ap (λ (l : List Event). length l) is in
    sym (none_more done) ∙ ap (λ (l : List Event). done ++ l) (sym (empty rest (omega arith))) ∙ is where
      empty : (l : List Event) → length l ≡ 0 → l ≡ []
      empty [] h = refl
      empty (x ∷ l) h = absurd (omega arith)

-- LOG BY LOG

taken_one : (l : List Event) (i : ℕ) (e : Event) → slice_get l i ≡ Some e → take (suc i) l ≡ take i l ++ e ∷ []
taken_one [] i e h = absurd (cc)
taken_one (x ∷ l) zero e h = ap (λ (o : Option Event). unwrap_or o x ∷ []) h
taken_one (x ∷ l) (suc i) e h = ap (λ (r : List Event). x ∷ r) (taken_one l i e h)

pub event_more : (l : List Event) (i : ℕ) (first old new : List Event) (e : Event) → old ≡ first ++ take i l
    → new ≡ old ++ e ∷ [] → slice_get l i ≡ Some e → new ≡ first ++ take (i + 1) l
event_more l i first old new e was is at =
    let one : i + 1 ≡ suc i = omega arith in
    rw one
    (is ∙ ap (λ (r : List Event). r ++ e ∷ []) was ∙ sym (associated first (take i l) (e ∷ []))
    ∙ ap (λ (r : List Event). first ++ r) (sym (taken_one l i e at)))

pub log_more : {L : Type 0} (events : L → List Event) (logs : List L) (i : ℕ) (old new : List Event) (item : L)
    → old ≡ joined (map events (take i logs)) → i < length logs → new ≡ old ++ events item
    → item ≡ slice_index_or logs i item → new ≡ joined (map events (take (i + 1) logs))
log_more events logs i old new item was lt is at =
    let one : i + 1 ≡ suc i = omega arith in
    rw one
    (is ∙ ap (λ (r : List Event). r ++ events item) was
    ∙ ap (λ (r : List Event). joined (map events (take i logs)) ++ r) (ap events at)
    ∙ sym (taken_log events logs i item lt))
  where
    taken_log : {L : Type 0} (events : L → List Event) (logs : List L) (i : ℕ) (d : L) → i < length logs
        → joined (map events (take (suc i) logs))
        ≡ joined (map events (take i logs)) ++ events (slice_index_or logs i d)
    taken_log events [] i d lt = absurd (omega arith)
    taken_log events (x ∷ logs) zero d lt = none_more (events x)
    taken_log events (x ∷ logs) (suc i) d lt =
        ap (λ (r : List Event). events x ++ r) (taken_log events logs i d (omega arith))
        ∙ associated (events x) (joined (map events (take i logs))) (events (slice_index_or logs i d))

-- and their number, up to the greatest that there is
pub room_more : {L : Type 0} (events : L → List Event) (logs : List L) (i most old new count : ℕ) (item : L)
    → old ≡ min (length (joined (map events (take i logs)))) most → i < length logs → count ≡ length (events item)
    → item ≡ slice_index_or logs i item → new ≡ min (old + count) most
    → new ≡ min (length (joined (map events (take (i + 1) logs)))) most
room_more events logs i most old new count item was lt size at is =
    let before = joined (map events (take i logs)) in
    let next : before ++ events item ≡ joined (map events (take (i + 1) logs)) =
    log_more events logs i before (before ++ events item) item refl lt refl at in
    let more : length (joined (map events (take (i + 1) logs))) ≡ length before + length (events item) =
    ap (λ (l : List Event). length l) (sym next) ∙ length-append before (events item) in
    rw more (omega arith)

-- Logs that are cut in two at a clock are put in order by their halves.
use Rattle.std.proofs.Common.{◌≡◌, ℕ, zero, suc, ◌+◌, ◌<◌, ◌≤◌, Bool, true, false, cond, List, [], ◌∷◌, ◌++◌, length}
use Rattle.std.proofs.Common.{Ok, Err, Result, drop, take, get_or, refl, sym, ap, subst, ◌∙◌, arith, leb, eqb}
use Rattle.std.specs.Prelude.{reverse, OnOk}
use Rattle.std.specs.List.{AllByRecursion}
use Rattle.std.specs.List.Sorted.{IsNonDecreasingBy}
use Rattle.std.proofs.lemmas.Bool.{eqb-true, le-leb, leb-false, leb-true}
use Rattle.std.proofs.lemmas.List.{length-append, reverse-append}
use Rattle.bm_core.specs.declared.events.Event.{Event}
use Rattle.bm_merge.specs.Inside.Halves.{AreHalves, IsCutAt}
use Rattle.bm_merge.specs.Merges.{by_clock, joined, place_in}
use Rattle.bm_merge.specs.Rising.{IsRising, in_order}
use Rattle.bm_merge.proofs.Heading.{all_append, all_reverse, orders_alike}
use Rattle.bm_merge.proofs.Joined.{none_more}
use Rattle.bm_merge.proofs.Placed.{all_by_clock, all_so}
use Rattle.bm_merge.proofs.Sorting.{of_append, of_clock}

-- A LOG AND A CLOCK

all_at : (P : Event → Type 0) (xs : List Event) (i : ℕ) (d : Event) → AllByRecursion P xs → i < length xs
    → P (get_or xs i d)
all_at P [] i d all lt = absurd (omega arith)
all_at P (x ∷ xs) zero d all lt = all.0
all_at P (x ∷ xs) (suc i) d all lt = all_at P xs i d all.1 (omega arith)

pub rising_non_decreasing : (xs : List Event) → IsRising xs → IsNonDecreasingBy (λ (e : Event). e.clock.0) xs
rising_non_decreasing [] rises i j d le lt = absurd (omega arith)
rising_non_decreasing (x ∷ xs) rises zero zero d le lt = omega arith
rising_non_decreasing (x ∷ xs) rises zero (suc j) d le lt =
    all_at (λ e. x.clock.0 ≤ e.clock.0) xs j d rises.0 (omega arith)
rising_non_decreasing (x ∷ xs) rises (suc i) zero d le lt = absurd (omega arith)
rising_non_decreasing (x ∷ xs) rises (suc i) (suc j) d le lt =
    rising_non_decreasing xs rises.1 i j d (omega arith) (omega arith)

pub all_taken : (P : Event → Type 0) (xs : List Event) (n : ℕ) → n ≤ length xs
    → ((k : ℕ) (d : Event) → k < n → P (get_or xs k d)) → AllByRecursion P (take n xs)
all_taken P xs zero le h = tt
all_taken P [] (suc n) le h = absurd (omega arith)
all_taken P (x ∷ xs) (suc n) le h =
    (h 0 x (omega arith), all_taken P xs n (omega arith) (λ k d lt. h (suc k) d (omega arith)))

pub all_dropped : (P : Event → Type 0) (xs : List Event) (n : ℕ)
    → ((k : ℕ) (d : Event) → n ≤ k → k < length xs → P (get_or xs k d)) → AllByRecursion P (drop n xs)
all_dropped P [] zero h = tt
all_dropped P [] (suc n) h = tt
all_dropped P (x ∷ xs) zero h =
    (h 0 x (omega arith) (omega arith), all_dropped P xs zero (λ k d le lt. h (suc k) d (omega arith) (omega arith)))
all_dropped P (x ∷ xs) (suc n) h = all_dropped P xs n (λ k d le lt. h (suc k) d (omega arith) (omega arith))

-- LOG BY LOG

halves_more : (clock : ℕ) (logs low high : List (List Event)) (log l h : List Event) → AreHalves clock logs low high
    → log ≡ l ++ h → IsCutAt clock l h → AreHalves clock (logs ++ log ∷ []) (low ++ l ∷ []) (high ++ h ∷ [])
halves_more clock [] [] [] log l h are is at = (is, at, tt)
halves_more clock [] [] (y ∷ high) log l h are is at = absurd are
halves_more clock [] (x ∷ low) high log l h are is at = absurd are
halves_more clock (z ∷ logs) [] high log l h are is at = absurd are
halves_more clock (z ∷ logs) (x ∷ low) [] log l h are is at = absurd are
halves_more clock (z ∷ logs) (x ∷ low) (y ∷ high) log l h are is at =
    (are.0, are.1, halves_more clock logs low high log l h are.2 is at)

taken_next : (logs : List (List Event)) (i : ℕ) (d : List Event) → i < length logs
    → take (i + 1) logs ≡ take i logs ++ get_or logs i d ∷ []
taken_next logs i d lt = let one : i + 1 ≡ suc i = omega arith in rw one (next logs i lt) where
  next : (logs : List (List Event)) (i : ℕ) → i < length logs
      → take (suc i) logs ≡ take i logs ++ get_or logs i d ∷ []
  next [] i lt = absurd (omega arith)
  next (x ∷ logs) zero lt = refl
  next (x ∷ logs) (suc i) lt = ap (λ (r : List (List Event)). x ∷ r) (next logs i (omega arith))

-- one log more is cut
pub cut_more : (clock : ℕ) (logs low high newer_low newer_high : List (List Event)) (i : ℕ) (log l h : List Event)
    → AreHalves clock (take i logs) low high → i < length logs → log ≡ get_or logs i [] → log ≡ l ++ h
    → IsCutAt clock l h → newer_low ≡ low ++ l ∷ [] → newer_high ≡ high ++ h ∷ []
    → AreHalves clock (take (i + 1) logs) newer_low newer_high
cut_more clock logs low high newer_low newer_high i log l h are lt there is at low_is high_is =
    rw (low_is, high_is, taken_next logs i [] lt)
    (halves_more clock (take i logs) low high (get_or logs i []) l h are (sym there ∙ is) at)

-- IN ORDER

place_onto : (b : Event) (s t : List Event) → AllByRecursion (λ x. x.clock.0 ≤ b.clock.0) t
    → place_in b (s ++ t) ≡ place_in b s ++ t
place_onto b [] [] under = refl
place_onto b [] (x ∷ t) under = let is : leb x.clock.0 b.clock.0 ≡ true = le-leb _ _ under.0 in rw is refl
place_onto b (x ∷ s) t under = step (leb x.clock.0 b.clock.0) (place_onto b s t under) where
  step : (test : Bool) → place_in b (s ++ t) ≡ place_in b s ++ t
      → cond test (b ∷ x ∷ (s ++ t)) (x ∷ place_in b (s ++ t)) ≡ cond test (b ∷ x ∷ s) (x ∷ place_in b s) ++ t
  step true old = refl
  step false old = ap (λ (l : List Event). x ∷ l) old

by_clock_onto : (n : ℕ) (newer older : List Event) → AllByRecursion (λ e. n ≤ e.clock.0) newer
    → AllByRecursion (λ e. e.clock.0 < n) older → by_clock (newer ++ older) ≡ by_clock newer ++ by_clock older
by_clock_onto n [] older up under = refl
by_clock_onto n (b ∷ newer) older up under =
    let first = up.0 in
    ap (λ (l : List Event). place_in b l) (by_clock_onto n newer older up.1 under)
    ∙ place_onto b (by_clock newer) (by_clock older)
    (all_so (λ e. e.clock.0 < n) (λ e. e.clock.0 ≤ b.clock.0) (by_clock older) (λ e h. omega arith)
    (all_by_clock (λ e. e.clock.0 < n) older under))

-- what is below a clock stands before what isn't
in_order_onto : (n : ℕ) (low high : List Event) → IsCutAt n low high
    → in_order (low ++ high) ≡ in_order low ++ in_order high
in_order_onto n low high at =
    ap (λ (l : List Event). reverse (by_clock l)) (reverse-append low high)
    ∙ ap (λ (l : List Event). reverse l)
    (by_clock_onto n (reverse high) (reverse low) (all_reverse (λ e. n ≤ e.clock.0) high at.1)
    (all_reverse (λ e. e.clock.0 < n) low at.0))
    ∙ reverse-append (by_clock (reverse high)) (by_clock (reverse low))

-- BY THE EVENTS OF EACH CLOCK

none_of : (c : ℕ) (P : Event → Type 0) (xs : List Event) → ((e : Event) → P e → eqb e.clock.0 c ≡ false)
    → AllByRecursion P xs → of_clock c xs ≡ []
none_of c P [] other all = refl
none_of c P (x ∷ xs) other all = rw (other x all.0) (none_of c P xs other all.1)

differs : (a c : ℕ) (test : Bool) → eqb a c ≡ test → (a ≡ c → a < a) → eqb a c ≡ false
differs a c true is h = let less = h (eqb-true a c is) in absurd (omega arith)
differs a c false is h = is

over_none : (c n : ℕ) (xs : List Event) → c < n → AllByRecursion (λ e. n ≤ e.clock.0) xs → of_clock c xs ≡ []
over_none c n xs lt all =
    none_of c (λ e. n ≤ e.clock.0) xs (λ e le. differs e.clock.0 c (eqb e.clock.0 c) refl (λ is. omega arith)) all

under_none : (c n : ℕ) (xs : List Event) → n ≤ c → AllByRecursion (λ e. e.clock.0 < n) xs → of_clock c xs ≡ []
under_none c n xs le all =
    none_of c (λ e. e.clock.0 < n) xs (λ e lt. differs e.clock.0 c (eqb e.clock.0 c) refl (λ is. omega arith)) all

-- THE HALVES

-- what the halves of logs are to the logs
pub record Parts (clock : ℕ) (logs low high : List (List Event)) : Type 0 where
  pub at : IsCutAt clock (joined low) (joined high)
  pub size : length (joined logs) ≡ length (joined low) + length (joined high)
  pub low_rises : AllByRecursion IsRising low
  pub high_rises : AllByRecursion IsRising high
  pub lower : (c : ℕ) → c < clock → of_clock c (joined logs) ≡ of_clock c (joined low)
  pub upper : (c : ℕ) → clock ≤ c → of_clock c (joined logs) ≡ of_clock c (joined high)

all_left : (P : Event → Type 0) (x y : List Event) → AllByRecursion P (x ++ y) → AllByRecursion P x
all_left P [] y all = tt
all_left P (e ∷ x) y all = (all.0, all_left P x y all.1)

rising_left : (x y : List Event) → IsRising (x ++ y) → IsRising x
rising_left [] y rises = tt
rising_left (e ∷ x) y rises = (all_left (λ z. e.clock.0 ≤ z.clock.0) x y rises.0, rising_left x y rises.1)

rising_right : (x y : List Event) → IsRising (x ++ y) → IsRising y
rising_right [] y rises = rises
rising_right (e ∷ x) y rises = rising_right x y rises.1

parts_more : (clock : ℕ) (logs low high : List (List Event)) (log l h : List Event) → Parts clock logs low high
    → log ≡ l ++ h → IsCutAt clock l h → IsRising log → Parts clock (log ∷ logs) (l ∷ low) (h ∷ high)
parts_more clock logs low high log l h rest is at rises =
    let rising = subst (λ (x : List Event). IsRising x) is rises in
    record {
      at = (
        all_append (λ e. e.clock.0 < clock) l (joined low) at.0 rest.at.0,
        all_append (λ e. clock ≤ e.clock.0) h (joined high) at.1 rest.at.1,
      );
      size =
          let a = length-append log (joined logs) in
          let b = ap (λ (x : List Event). length x) is ∙ length-append l h in
          let c = length-append l (joined low) in
          let d = length-append h (joined high) in
          let e = rest.size in
          omega arith;
      low_rises = (rising_left l h rising, rest.low_rises);
      high_rises = (rising_right l h rising, rest.high_rises);
      lower = λ c lt.
          of_append c log (joined logs)
          ∙ ap (λ (x : List Event). x ++ of_clock c (joined logs))
          (ap (λ (x : List Event). of_clock c x) is ∙ of_append c l h
          ∙ ap (λ (x : List Event). of_clock c l ++ x) (over_none c clock h lt at.1)
          ∙ none_more (of_clock c l))
          ∙ ap (λ (x : List Event). of_clock c l ++ x) (rest.lower c lt)
          ∙ sym (of_append c l (joined low));
      upper = λ c le.
          of_append c log (joined logs)
          ∙ ap (λ (x : List Event). x ++ of_clock c (joined logs))
          (ap (λ (x : List Event). of_clock c x) is ∙ of_append c l h
          ∙ ap (λ (x : List Event). x ++ of_clock c h) (under_none c clock l le at.0))
          ∙ ap (λ (x : List Event). of_clock c h ++ x) (rest.upper c le)
          ∙ sym (of_append c h (joined high));
    }

pub parts_of : (clock : ℕ) (logs low high : List (List Event)) → AreHalves clock logs low high
    → AllByRecursion IsRising logs → Parts clock logs low high
parts_of clock [] [] [] are all = record {
  at = (tt, tt);
  size = refl;
  low_rises = tt;
  high_rises = tt;
  lower = λ c lt. refl;
  upper = λ c le. refl;
}
parts_of clock [] [] (y ∷ high) are all = absurd are
parts_of clock [] (x ∷ low) high are all = absurd are
parts_of clock (z ∷ logs) [] high are all = absurd are
parts_of clock (z ∷ logs) (x ∷ low) [] are all = absurd are
parts_of clock (z ∷ logs) (x ∷ low) (y ∷ high) are all =
    parts_more clock logs low high z x y (parts_of clock logs low high are.2 all.1) are.0 are.1 all.0

-- the logs in order are their halves in order, one after the other
pub order_of_parts : (clock : ℕ) (logs low high : List (List Event)) → Parts clock logs low high
    → in_order (joined logs) ≡ in_order (joined low) ++ in_order (joined high)
order_of_parts clock logs low high parts =
    orders_alike (joined logs) (joined low ++ joined high) (λ c. alike c (leb clock c) refl)
    ∙ in_order_onto clock (joined low) (joined high) parts.at
  where
    alike : (c : ℕ) (test : Bool) → leb clock c ≡ test
        → of_clock c (joined logs) ≡ of_clock c (joined low ++ joined high)
    alike c true is =
        let le : clock ≤ c = leb-true _ _ is in
        parts.upper c le
        ∙ ap (λ (x : List Event). x ++ of_clock c (joined high)) (sym (under_none c clock (joined low) le parts.at.0))
        ∙ sym (of_append c (joined low) (joined high))
    alike c false is =
        let lt : c < clock = leb-false _ _ is in
        parts.lower c lt ∙ sym (none_more (of_clock c (joined low)))
        ∙ ap (λ (x : List Event). of_clock c (joined low) ++ x) (sym (over_none c clock (joined high) lt parts.at.1))
        ∙ sym (of_append c (joined low) (joined high))

-- what holds where both succeed
pub on_ok_both : {T E : Type 0} (r : Result T E) (P Q R : Type 0) → (P → Q → R) → OnOk r P → OnOk r Q → OnOk r R
on_ok_both (Ok x) P Q R f p q = f p q
on_ok_both (Err x) P Q R f p q = tt

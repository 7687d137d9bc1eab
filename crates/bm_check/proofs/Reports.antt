-- Which events the lines of a report name.
use Rattle.std.proofs.Common.{◌≡◌, ℕ, zero, suc, ◌+◌, ◌<◌, ◌≤◌, Bool, true, false, inl, inr, List, [], ◌∷◌, ◌++◌, length}
use Rattle.std.proofs.Common.{refl, ap, sym, ◌∙◌, arith, append_assoc, subst, take}
use Rattle.std.specs.Bool.{Decides}
use Rattle.std.specs.Prelude.{decimal, MatchBool}
use Rattle.std.proofs.lemmas.Fmt.{decimal_injective}
use Rattle.std.proofs.lemmas.List.{take-append-le}
use Rattle.bm_core.specs.declared.events.Event.{Event}
use Rattle.bm_trace.proofs.Decoding.{event_are, same_words}
use Rattle.bm_trace.proofs.Reading.{decimal_starts_low, is_word_decimal, read_line, starts_low}
use Rattle.bm_trace.specs.Report.{words_of}
use Rattle.bm_trace.specs.Words.{spaced}
use Rattle.bm_check.specs.Answers.{IsBadTo, IsLeast}
use Rattle.bm_check.specs.Lines.{AreGood, AreLinesOf, IsClosing, IsLineOf}

never_both : {P : Type 0} → true ≡ false → P
never_both e = absurd (cc)

event_starts : (e : Event) (l : List ℕ) → IsLineOf e l → starts_low l ≡ true
event_starts e l is =
    ap starts_low
    (is.is ∙ append_assoc (decimal e.clock.0) (spaced (words_of e.what is.aside)) (10 ∷ []))
    ∙ decimal_starts_low e.clock.0 _

closing_starts : (l : List ℕ) → IsClosing l → starts_low l ≡ false
closing_starts l (inl is) = ap starts_low is.1
closing_starts l (inr (inl is)) = ap starts_low is.1
closing_starts l (inr (inr is)) = ap starts_low is.1

-- an event's line is no closing line
pub not_both : {P : Type 0} → (e : Event) (l : List ℕ) → IsLineOf e l → IsClosing l → P
not_both e l is closes = never_both (sym (event_starts e l is) ∙ closing_starts l closes)

-- ONE LINE MORE

pub more_event : (events : List Event) (done : List (List ℕ)) (e : Event) (l : List ℕ) → AreLinesOf events done
    → length events ≡ length done → IsLineOf e l → AreLinesOf (events ++ e ∷ []) (done ++ l ∷ [])
more_event [] [] e l are same is = (is, tt)
more_event [] (d ∷ done) e l are same is = absurd (omega (arith, same))
more_event (x ∷ events) [] e l are same is = absurd are
more_event (x ∷ events) (d ∷ done) e l are same is =
    (are.0, more_event events done e l are.1 (omega (arith, same)) is)

pub more_closing : (events : List Event) (done : List (List ℕ)) (l : List ℕ) → AreLinesOf events done → IsClosing l
    → AreLinesOf events (done ++ l ∷ [])
more_closing [] [] l are is = (is, tt)
more_closing [] (d ∷ done) l are is = (are.0, more_closing [] done l are.1 is)
more_closing (x ∷ events) [] l are is = absurd are
more_closing (x ∷ events) (d ∷ done) l are is = (are.0, more_closing events done l are.1 is)

pub few_events : (events : List Event) (done : List (List ℕ)) → AreLinesOf events done → length events ≤ length done
few_events [] done are = omega arith
few_events (e ∷ events) [] are = absurd are
few_events (e ∷ events) (d ∷ done) are = let few = few_events events done are.1 in omega (arith, few)

-- a last line that is neither
pub neither : (events : List Event) (done : List (List ℕ)) (l : List ℕ) → ((e : Event) → IsLineOf e l → ⊥)
    → (IsClosing l → ⊥) → AreLinesOf events (done ++ l ∷ []) → ⊥
neither [] [] l none shut are = shut are.0
neither [] (d ∷ done) l none shut are = neither [] done l none shut are.1
neither (x ∷ events) [] l none shut are = none x are.0
neither (x ∷ events) (d ∷ done) l none shut are = neither events done l none shut are.1

-- a last line that is no event's
pub closing_or_bad : (b : Bool) (events : List Event) (done : List (List ℕ)) (l : List ℕ) → Decides b (IsClosing l)
    → ((e : Event) → IsLineOf e l → ⊥) → AreLinesOf events done
    → MatchBool b (AreLinesOf events (done ++ l ∷ [])) (AreGood (done ++ l ∷ []) → ⊥)
closing_or_bad true events done l closes none are = more_closing events done l are (closes.0 refl)
closing_or_bad false events done l closes none are = λ good. neither good.0 done l none open_line good.1 where
  open_line : IsClosing l → ⊥
  open_line is = let t : false ≡ true = closes.1 is in absurd (cc)

last_closes : (done : List (List ℕ)) (l : List ℕ) → AreLinesOf [] (done ++ l ∷ []) → IsClosing l
last_closes [] l are = are.0
last_closes (d ∷ done) l are = last_closes done l are.1

-- an event's line after a closing line
pub too_late : (events : List Event) (done : List (List ℕ)) (others : List Event) (e : Event) (l : List ℕ)
    → AreLinesOf events done → length events < length done → IsLineOf e l → AreLinesOf others (done ++ l ∷ []) → ⊥
too_late [] [] others e l are fewer is good = absurd (omega (arith, fewer))
too_late [] (d ∷ done) [] e l are fewer is good = not_both e l is (last_closes done l good.1)
too_late [] (d ∷ done) (x ∷ others) e l are fewer is good = not_both x d good.0 are.0
too_late (y ∷ events) [] others e l are fewer is good = absurd are
too_late (y ∷ events) (d ∷ done) [] e l are fewer is good = not_both y d are.0 good.0
too_late (y ∷ events) (d ∷ done) (x ∷ others) e l are fewer is good =
    too_late events done others e l are.1 (omega (arith, fewer)) is good.1

-- THE FIRST LINES

closing_begin : (ls : List (List ℕ)) (m : ℕ) → AreLinesOf [] ls → AreLinesOf [] (take m ls)
closing_begin ls zero are = tt
closing_begin [] (suc m) are = tt
closing_begin (l ∷ ls) (suc m) are = (are.0, closing_begin ls m are.1)

pub good_begin : (events : List Event) (ls : List (List ℕ)) (m : ℕ) → AreLinesOf events ls → AreGood (take m ls)
good_begin events ls zero are = ([], tt)
good_begin [] ls (suc m) are = ([], closing_begin ls (suc m) are)
good_begin (e ∷ events) [] (suc m) are = absurd are
good_begin (e ∷ events) (l ∷ ls) (suc m) are =
    let rest = good_begin events ls m are.1 in (e ∷ rest.0, (are.0, rest.1))

take_one : (done : List (List ℕ)) (l : List ℕ) (rest : List (List ℕ))
    → take (suc (length done)) (done ++ l ∷ rest) ≡ done ++ l ∷ []
take_one [] l rest = refl
take_one (d ∷ done) l rest = ap (λ (ls : List (List ℕ)). d ∷ ls) (take_one done l rest)

-- the first line that can't stand after those before it
pub first_bad : (events : List Event) (done : List (List ℕ)) (l : List ℕ) (rest ls : List (List ℕ)) (number : ℕ)
    → AreLinesOf events done → length done ≡ number → ls ≡ done ++ l ∷ rest → (AreGood (done ++ l ∷ []) → ⊥)
    → IsLeast (IsBadTo ls) (number + 1)
first_bad events done l rest ls number are count whole bad = (
  λ good. bad (subst (λ (x : List (List ℕ)). AreGood x) (here ∙ take_one done l rest) good),
  λ m early no. no (subst (λ (x : List (List ℕ)). AreGood x) (sym (before m early)) (good_begin events done m are)),
) where
  here : take (number + 1) ls ≡ take (suc (length done)) (done ++ l ∷ rest)
  here =
      let same : number + 1 ≡ suc (length done) = omega (arith, count)
      in ap (λ (n : ℕ). take n ls) same ∙ ap (λ (x : List (List ℕ)). take (suc (length done)) x) whole

  before : (m : ℕ) → m < number + 1 → take m ls ≡ take m done
  before m early =
      let few : m ≤ length done = omega (arith, early, count)
      in ap (λ (x : List (List ℕ)). take m x) whole ∙ take-append-le m done (l ∷ rest) few

-- ONE READING

pub one_event : (e f : Event) (l : List ℕ) → IsLineOf e l → IsLineOf f l → e ≡ f
one_event e f l is also =
    let words =
    read_line (decimal e.clock.0) (decimal f.clock.0) (words_of e.what is.aside) (words_of f.what also.aside) [] []
    (is_word_decimal e.clock.0) (is_word_decimal f.clock.0) (event_are e.what is.aside) (event_are f.what also.aside)
    (ap (λ (x : List ℕ). x ++ []) (sym is.is ∙ also.is))
    in let clock = decimal_injective e.clock.0 f.clock.0 is.numbers.0 also.numbers.0 words.0
    in let what = same_words e.what f.what is.aside also.aside is.numbers.1 also.numbers.1 words.1
    in λ i. record { clock = record { 0 = clock i }; what = what i }

-- lines are of the same events, and of no others
pub one_reading : (a b : List Event) (ls : List (List ℕ)) → AreLinesOf a ls → AreLinesOf b ls → a ≡ b
one_reading [] [] ls are also = refl
one_reading [] (f ∷ b) [] are also = absurd also
one_reading [] (f ∷ b) (l ∷ ls) are also = not_both f l also.0 are.0
one_reading (e ∷ a) [] [] are also = absurd are
one_reading (e ∷ a) [] (l ∷ ls) are also = not_both e l are.0 also.0
one_reading (e ∷ a) (f ∷ b) [] are also = absurd are
one_reading (e ∷ a) (f ∷ b) (l ∷ ls) are also =
    let first = one_event e f l are.0 also.0
    in let rest = one_reading a b ls are.1 also.1
    in λ i. first i ∷ rest i

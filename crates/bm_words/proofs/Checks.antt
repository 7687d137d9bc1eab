-- What clap makes of the words of a check.
use Rattle.std.proofs.Common.{◌≡◌, ◌==◌, ◌&&◌, ℕ, List, [], ◌∷◌, true, false, Some}
use Rattle.std.proofs.Common.{is_some, codes, sym, subst}
use Rattle.std.proofs.lemmas.Bool.{and_parts}
use Rattle.std.proofs.lemmas.Slice.Eq.{bytes_eq-Decides}
use Rattle.std.specs.Str.{bytes_eq}
use Rattle.clap.specs.Words.{Text, subcommand_of, takes}
use Rattle.clap.proofs.OnLiterals.{clap_on_literals}
use Rattle.bm_words.specs.Inside.Command.{beamer}
use Rattle.bm_words.specs.Form.{Check, check_of, is_name}
use Rattle.bm_words.proofs.Given.{value_given}
use Rattle.bm_words.proofs.Taken.{not_true, passed}

-- what clap makes of the words: it takes them, and gives the three names
pub record ReadsCheck (words : List Text) : Type 0 where
  pub trace : Text
  pub capture : Text
  pub script : Text
  pub taken : takes beamer words ≡ true
  pub gives_trace : value_given (codes "trace") (subcommand_of beamer words) ≡ Some trace
  pub gives_capture : value_given (codes "capture") (subcommand_of beamer words) ≡ Some capture
  pub gives_script : value_given (codes "script") (subcommand_of beamer words) ≡ Some script
  pub asks : check_of words ≡ Some (Check trace capture script)

-- the words of a check of these names
abbrev words_of : Text → Text → Text → List Text
words_of trace capture script = codes "check" ∷ trace ∷ capture ∷ script ∷ []

check_taken : (x y z : ℕ) (xs ys zs : List ℕ) → (x == 45) ≡ false → (y == 45) ≡ false → (z == 45) ≡ false →
    takes beamer (words_of (x ∷ xs) (y ∷ ys) (z ∷ zs)) ≡ true
unfolding clap_on_literals
check_taken x y z xs ys zs h k l = simp (h, k, l)

trace_given : (x y z : ℕ) (xs ys zs : List ℕ) → (x == 45) ≡ false → (y == 45) ≡ false → (z == 45) ≡ false →
    value_given (codes "trace") (subcommand_of beamer (words_of (x ∷ xs) (y ∷ ys) (z ∷ zs))) ≡ Some (x ∷ xs)
unfolding clap_on_literals
trace_given x y z xs ys zs h k l = simp (h, k, l)

capture_given : (x y z : ℕ) (xs ys zs : List ℕ) → (x == 45) ≡ false → (y == 45) ≡ false → (z == 45) ≡ false →
    value_given (codes "capture") (subcommand_of beamer (words_of (x ∷ xs) (y ∷ ys) (z ∷ zs))) ≡ Some (y ∷ ys)
unfolding clap_on_literals
capture_given x y z xs ys zs h k l = simp (h, k, l)

script_given : (x y z : ℕ) (xs ys zs : List ℕ) → (x == 45) ≡ false → (y == 45) ≡ false → (z == 45) ≡ false →
    value_given (codes "script") (subcommand_of beamer (words_of (x ∷ xs) (y ∷ ys) (z ∷ zs))) ≡ Some (z ∷ zs)
unfolding clap_on_literals
script_given x y z xs ys zs h k l = simp (h, k, l)

check_asked : (x y z : ℕ) (xs ys zs : List ℕ) → (x == 45) ≡ false → (y == 45) ≡ false → (z == 45) ≡ false →
    check_of (words_of (x ∷ xs) (y ∷ ys) (z ∷ zs)) ≡ Some (Check (x ∷ xs) (y ∷ ys) (z ∷ zs))
check_asked x y z xs ys zs h k l = simp (h, k, l)

behind : (x y z : ℕ) (xs ys zs : List ℕ) → (x == 45) ≡ false → (y == 45) ≡ false → (z == 45) ≡ false →
    ReadsCheck (words_of (x ∷ xs) (y ∷ ys) (z ∷ zs))
behind x y z xs ys zs h k l = record {
  trace = x ∷ xs;
  capture = y ∷ ys;
  script = z ∷ zs;
  taken = check_taken x y z xs ys zs h k l;
  gives_trace = trace_given x y z xs ys zs h k l;
  gives_capture = capture_given x y z xs ys zs h k l;
  gives_script = script_given x y z xs ys zs h k l;
  asks = check_asked x y z xs ys zs h k l;
}

-- a name has an octet, which isn't that of `-`
named : (trace capture script : Text) → is_name trace ≡ true → is_name capture ≡ true → is_name script ≡ true →
    ReadsCheck (words_of trace capture script)
named [] capture script t c s = absurd (cc)
named (x ∷ xs) [] script t c s = absurd (cc)
named (x ∷ xs) (y ∷ ys) [] t c s = absurd (cc)
named (x ∷ xs) (y ∷ ys) (z ∷ zs) t c s = behind x y z xs ys zs (not_true _ t) (not_true _ c) (not_true _ s)

at : (w trace capture script : Text) → is_some (check_of (w ∷ trace ∷ capture ∷ script ∷ [])) ≡ true →
    ReadsCheck (w ∷ trace ∷ capture ∷ script ∷ [])
at w trace capture script some =
    let three = bytes_eq w (codes "check") && is_name trace && is_name capture in
    let all = and_parts three (is_name script) (passed _ _ some) in
    let two = and_parts (bytes_eq w (codes "check") && is_name trace) (is_name capture) all.0 in
    let one = and_parts (bytes_eq w (codes "check")) (is_name trace) two.0 in
    subst (λ u. ReadsCheck (u ∷ trace ∷ capture ∷ script ∷ [])) (sym ((bytes_eq-Decides w (codes "check")).0 one.0))
    (named trace capture script one.1 two.1 all.1)

pub check_reads : (words : List Text) → is_some (check_of words) ≡ true → ReadsCheck words
check_reads [] some = absurd (cc)
check_reads (w ∷ []) some = absurd (cc)
check_reads (w ∷ trace ∷ []) some = absurd (cc)
check_reads (w ∷ trace ∷ capture ∷ []) some = absurd (cc)
check_reads (w ∷ trace ∷ capture ∷ script ∷ []) some = at w trace capture script some
check_reads (w ∷ trace ∷ capture ∷ script ∷ more ∷ rest) some = absurd (cc)

-- the words ask for the check of these names
pub asks_for : (words : List Text) (reads : ReadsCheck words) (trace capture script : Text)
    → Some trace ≡ Some reads.trace → Some capture ≡ Some reads.capture → Some script ≡ Some reads.script
    → Some (Check trace capture script) ≡ check_of words
asks_for words reads trace capture script t c s = let asks = reads.asks in cc

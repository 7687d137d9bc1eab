-- What clap makes of the words that play a capture.
use Rattle.std.proofs.Common.{◌≡◌, ◌==◌, not, ℕ, List, [], ◌∷◌, Bool, true, false, cond, Option, Some, None}
use Rattle.std.proofs.Common.{is_some, codes, refl, option_map, option_and_then, unwrap_or, drop, subst, sym, ap, ap₂}
use Rattle.std.proofs.Common.{◌∙◌}
use Rattle.std.proofs.lemmas.Bool.{and_parts}
use Rattle.std.proofs.lemmas.Slice.Eq.{bytes_eq-Decides}
use Rattle.std.specs.Str.{bytes_eq}
use Rattle.clap.specs.Words.{Row, Text, first_of, is_simple, subcommand_of, takes}
use Rattle.clap.proofs.OnLiterals.{clap_on_literals}
use Rattle.bm_words.specs.Inside.Command.{beamer}
use Rattle.bm_words.specs.Form.{Named, asked_by, names_of, play_of, verb_of}
use Rattle.bm_words.specs.declared.form.Verb.{Verb}
use Rattle.bm_words.specs.declared.form.Verb.TheVariants.{Replay, Run, Streams}

-- the form that a subcommand's rows give
abbrev with_capture : List Row → Option Text → Option Named
with_capture rows None = None
with_capture rows (Some capture) = Some (record { capture = capture; script = first_of (codes "script") rows })

abbrev pub given : Option (Text × List Row) → Option Named
given None = None
given (Some p) = with_capture p.1 (first_of (codes "capture") p.1)

one_taken : (x : ℕ) (xs : List ℕ) → (x == 45) ≡ false → takes beamer (codes "replay" ∷ (x ∷ xs) ∷ []) ≡ true
unfolding clap_on_literals
one_taken x xs h = simp h

two_taken : (x y : ℕ) (xs ys : List ℕ) → (x == 45) ≡ false → (y == 45) ≡ false →
    takes beamer (codes "replay" ∷ (x ∷ xs) ∷ (y ∷ ys) ∷ []) ≡ true
unfolding clap_on_literals
two_taken x y xs ys h k = simp (h, k)

run_taken : (x y : ℕ) (xs ys : List ℕ) → (x == 45) ≡ false → (y == 45) ≡ false →
    takes beamer (codes "run" ∷ (x ∷ xs) ∷ (y ∷ ys) ∷ []) ≡ true
unfolding clap_on_literals
run_taken x y xs ys h k = simp (h, k)

streams_one_taken : (x : ℕ) (xs : List ℕ) → (x == 45) ≡ false →
    takes beamer (codes "streams" ∷ (x ∷ xs) ∷ []) ≡ true
unfolding clap_on_literals
streams_one_taken x xs h = simp h

streams_two_taken : (x y : ℕ) (xs ys : List ℕ) → (x == 45) ≡ false → (y == 45) ≡ false →
    takes beamer (codes "streams" ∷ (x ∷ xs) ∷ (y ∷ ys) ∷ []) ≡ true
unfolding clap_on_literals
streams_two_taken x y xs ys h k = simp (h, k)

one_given : (x : ℕ) (xs : List ℕ) → (x == 45) ≡ false →
    given (subcommand_of beamer (codes "replay" ∷ (x ∷ xs) ∷ []))
    ≡ Some (record { capture = x ∷ xs; script = None })
unfolding clap_on_literals
one_given x xs h = simp h

two_given : (x y : ℕ) (xs ys : List ℕ) → (x == 45) ≡ false → (y == 45) ≡ false →
    given (subcommand_of beamer (codes "replay" ∷ (x ∷ xs) ∷ (y ∷ ys) ∷ []))
    ≡ Some (record { capture = x ∷ xs; script = Some (y ∷ ys) })
unfolding clap_on_literals
two_given x y xs ys h k = simp (h, k)

run_given : (x y : ℕ) (xs ys : List ℕ) → (x == 45) ≡ false → (y == 45) ≡ false →
    given (subcommand_of beamer (codes "run" ∷ (x ∷ xs) ∷ (y ∷ ys) ∷ []))
    ≡ Some (record { capture = x ∷ xs; script = Some (y ∷ ys) })
unfolding clap_on_literals
run_given x y xs ys h k = simp (h, k)

streams_one_given : (x : ℕ) (xs : List ℕ) → (x == 45) ≡ false →
    given (subcommand_of beamer (codes "streams" ∷ (x ∷ xs) ∷ []))
    ≡ Some (record { capture = x ∷ xs; script = None })
unfolding clap_on_literals
streams_one_given x xs h = simp h

streams_two_given : (x y : ℕ) (xs ys : List ℕ) → (x == 45) ≡ false → (y == 45) ≡ false →
    given (subcommand_of beamer (codes "streams" ∷ (x ∷ xs) ∷ (y ∷ ys) ∷ []))
    ≡ Some (record { capture = x ∷ xs; script = Some (y ∷ ys) })
unfolding clap_on_literals
streams_two_given x y xs ys h k = simp (h, k)

pub simple : is_simple beamer ≡ true
unfolding clap_on_literals
simple = refl

pub not_true : (b : Bool) → not b ≡ true → b ≡ false
not_true true h = cc
not_true false h = refl

-- THE COMMAND

abbrev word_of : Verb → Text
word_of Replay = codes "replay"
word_of Run = codes "run"
word_of Streams = codes "streams"

word_is : (w : Text) (v : Verb) → verb_of w ≡ Some v → w ≡ word_of v
word_is w v h =
    go (bytes_eq w (codes "replay")) (bytes_eq w (codes "run")) (bytes_eq w (codes "streams")) refl refl refl h where
      go : (a b d : Bool) → bytes_eq w (codes "replay") ≡ a → bytes_eq w (codes "run") ≡ b
          → bytes_eq w (codes "streams") ≡ d
          → cond a (Some Replay) (cond b (Some Run) (cond d (Some Streams) None)) ≡ Some v → w ≡ word_of v
      go true b d is o p e = let same : Replay ≡ v = cc in (bytes_eq-Decides w (codes "replay")).0 is ∙ ap word_of same
      go false true d o is p e = let same : Run ≡ v = cc in (bytes_eq-Decides w (codes "run")).0 is ∙ ap word_of same
      go false false true o p is e =
          let same : Streams ≡ v = cc in (bytes_eq-Decides w (codes "streams")).0 is ∙ ap word_of same
      go false false false o p q e = absurd (cc)

-- what clap makes of the words: it takes them, and gives their names
pub record Reads (words : List Text) : Type 0 where
  pub taken : takes beamer words ≡ true
  pub gives : given (subcommand_of beamer words) ≡ names_of (drop 1 words)

-- the names of these words
one_named : (x : ℕ) (xs : List ℕ) → (x == 45) ≡ false →
    names_of ((x ∷ xs) ∷ []) ≡ Some (record { capture = x ∷ xs; script = None })
one_named x xs h = simp h

two_named : (x y : ℕ) (xs ys : List ℕ) → (x == 45) ≡ false → (y == 45) ≡ false →
    names_of ((x ∷ xs) ∷ (y ∷ ys) ∷ []) ≡ Some (record { capture = x ∷ xs; script = Some (y ∷ ys) })
two_named x y xs ys h k = simp (h, k)

one_read : (v : Verb) (x : ℕ) (xs : List ℕ) → (x == 45) ≡ false →
    is_some (option_and_then (asked_by v) (names_of ((x ∷ xs) ∷ []))) ≡ true → Reads (word_of v ∷ (x ∷ xs) ∷ [])
one_read Replay x xs h some =
    record { taken = one_taken x xs h; gives = one_given x xs h ∙ sym (one_named x xs h) }
one_read Streams x xs h some =
    record { taken = streams_one_taken x xs h; gives = streams_one_given x xs h ∙ sym (one_named x xs h) }
one_read Run x xs h some =
    let none : is_some (option_and_then (asked_by Run) (names_of ((x ∷ xs) ∷ []))) ≡ false =
    ap (λ o. is_some (option_and_then (asked_by Run) o)) (one_named x xs h)
    in absurd (cc)

two_read : (v : Verb) (x y : ℕ) (xs ys : List ℕ) → (x == 45) ≡ false → (y == 45) ≡ false →
    Reads (word_of v ∷ (x ∷ xs) ∷ (y ∷ ys) ∷ [])
two_read Replay x y xs ys h k =
    record { taken = two_taken x y xs ys h k; gives = two_given x y xs ys h k ∙ sym (two_named x y xs ys h k) }
two_read Run x y xs ys h k =
    record { taken = run_taken x y xs ys h k; gives = run_given x y xs ys h k ∙ sym (two_named x y xs ys h k) }
two_read Streams x y xs ys h k = record {
  taken = streams_two_taken x y xs ys h k;
  gives = streams_two_given x y xs ys h k ∙ sym (two_named x y xs ys h k);
}

-- a name has an octet, which isn't that of `-`
pub passed : {A : Type 0} (b : Bool) (x : A) → is_some (cond b (Some x) None) ≡ true → b ≡ true
passed true x h = refl
passed false x h = cc

some_inner : {A B : Type 0} (f : A → Option B) (o : Option A) → is_some (option_and_then f o) ≡ true → is_some o ≡ true
some_inner f None h = cc
some_inner f (Some x) h = refl

behind : (v : Verb) (names : List Text) → is_some (option_and_then (asked_by v) (names_of names)) ≡ true
    → Reads (word_of v ∷ names)
behind v [] h = absurd (cc)
behind v ([] ∷ []) h = absurd (cc)
behind v ((x ∷ xs) ∷ []) h =
    let k = passed (not (x == 45)) _ (some_inner (asked_by v) (names_of ((x ∷ xs) ∷ [])) h)
    in one_read v x xs (not_true _ k) h
behind v ([] ∷ s ∷ []) h = absurd (cc)
behind v ((x ∷ xs) ∷ [] ∷ []) h =
    let k = and_parts (not (x == 45)) false
    (passed _ _ (some_inner (asked_by v) (names_of ((x ∷ xs) ∷ [] ∷ [])) h))
    in absurd (cc)
behind v ((x ∷ xs) ∷ (y ∷ ys) ∷ []) h =
    let k = and_parts (not (x == 45)) (not (y == 45))
    (passed _ _ (some_inner (asked_by v) (names_of ((x ∷ xs) ∷ (y ∷ ys) ∷ [])) h))
    in two_read v x y xs ys (not_true _ k.0) (not_true _ k.1)
behind v (c ∷ s ∷ t ∷ ts) h = absurd (cc)

pub reads : (words : List Text) → is_some (play_of words) ≡ true → Reads words
reads [] h = absurd (cc)
reads (w ∷ names) h = go (verb_of w) refl h where
  go : (v : Option Verb) → verb_of w ≡ v
      → is_some (option_and_then (λ verb. option_and_then (asked_by verb) (names_of names)) v) ≡ true
      → Reads (w ∷ names)
  go None is e = absurd (cc)
  go (Some v) is e = subst (λ u. Reads (u ∷ names)) (sym (word_is w v is)) (behind v names e)

-- there are names
pub names_there : (words : List Text) → is_some (play_of words) ≡ true → is_some (names_of (drop 1 words)) ≡ true
names_there [] h = absurd (cc)
names_there (w ∷ names) h = go (verb_of w) h where
  go : (v : Option Verb)
      → is_some (option_and_then (λ verb. option_and_then (asked_by verb) (names_of names)) v) ≡ true
      → is_some (names_of names) ≡ true
  go None e = absurd (cc)
  go (Some v) e = some_inner (asked_by v) (names_of names) e

-- what the rows have, where they give a form
pub record HasForm (rows : List Row) (f : Named) : Type 0 where
  pub capture : first_of (codes "capture") rows ≡ Some f.capture
  pub script : first_of (codes "script") rows ≡ f.script

has_form : (rows : List Row) (c : Option Text) (f : Named) → first_of (codes "capture") rows ≡ c →
    with_capture rows c ≡ Some f → HasForm rows f
has_form rows None f e k = absurd (cc)
has_form rows (Some x) f e k =
    record {
      capture = e ∙ ap (λ (o : Option Named). option_map (λ a. a.capture) o) k;
      script = ap (λ (o : Option Named). option_and_then (λ a. a.script) o) k;
    }

pub given_some : (o : Option (Text × List Row)) (f : Named) → given o ≡ Some f →
    (p : Text × List Row) × (o ≡ Some p) × HasForm p.1 f
given_some None f h = absurd (cc)
given_some (Some p) f h = (p, refl, has_form p.1 (first_of (codes "capture") p.1) f refl h)

-- What the matches have where they are those of clap's definition and the words make a form.
pub record Found (rows : Option (List Row)) (words : List Text) : Type 0 where
  pub there : List Row
  pub form : Named
  pub rows_are : rows ≡ Some there
  pub words_are : names_of (drop 1 words) ≡ Some form
  pub has : HasForm there form

pub is_found : (o : Option (Text × List Row)) (words : List Text) → is_some (play_of words) ≡ true →
    o ≡ subcommand_of beamer words → Found (option_map (λ p. p.1) o) words
is_found o words h e = go (names_of (drop 1 words)) refl (names_there words h)
  where
    go : (f : Option Named) → names_of (drop 1 words) ≡ f → is_some f ≡ true → Found (option_map (λ p. p.1) o) words
    go None k t = absurd (cc)
    go (Some f) k t =
        let g = given_some (subcommand_of beamer words) f ((reads words h).gives ∙ k) in
        record {
          there = g.0.1;
          form = f;
          rows_are = ap (option_map (λ (p : Text × List Row). p.1)) (e ∙ g.1);
          words_are = k;
          has = g.2;
        }

pub no_rows : (rows : Option (List Row)) (words : List Text) → Found rows words → None ≡ rows → ⊥
no_rows rows words found e = let s : None ≡ Some found.there = e ∙ found.rows_are in cc

-- the rows that the caller has are these
pub same_rows : (mine : List Row) (rows : Option (List Row)) (words : List Text) → Some mine ≡ rows →
    (found : Found rows words) → mine ≡ found.there
same_rows mine rows words e found = ap (λ (o : Option (List Row)). unwrap_or o mine) (e ∙ found.rows_are)

pub has_capture : (mine : List Row) (rows : Option (List Row)) (words : List Text) → Some mine ≡ rows →
    (found : Found rows words) → first_of (codes "capture") mine ≡ Some found.form.capture
has_capture mine rows words e found =
    ap (first_of (codes "capture")) (same_rows mine rows words e found) ∙ found.has.capture

pub has_script : (mine : List Row) (rows : Option (List Row)) (words : List Text) → Some mine ≡ rows →
    (found : Found rows words) → first_of (codes "script") mine ≡ found.form.script
has_script mine rows words e found =
    ap (first_of (codes "script")) (same_rows mine rows words e found) ∙ found.has.script

pub form_is : (words : List Text) (f : Named) (capture : Text) (script : Option Text) → names_of (drop 1 words) ≡ Some f
    → Some capture ≡ Some f.capture → script ≡ f.script →
    Some (record { capture = capture; script = script }) ≡ names_of (drop 1 words)
form_is words f capture script h c s =
    let same : capture ≡ f.capture = cc in
    ap₂ (λ a b. Some (record { capture = a; script = b })) same s ∙ sym h

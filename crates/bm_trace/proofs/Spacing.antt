-- Words after words.
use Rattle.std.proofs.Common.{◌≡◌, ℕ, ◌+◌, ◌-◌, ◌<◌, ◌==◌, if◌then◌else◌, true, false, inl, inr, List, [], ◌∷◌}
use Rattle.std.proofs.Common.{◌++◌, length, take, get_or, refl, subst, ap, ◌∙◌, sym, arith, append_assoc}
use Rattle.std.specs.Prelude.{decimal, Option, Some, None}
use Rattle.std.proofs.lemmas.Bool.{cases_eq, eq-eqb, ne_eqb}
use Rattle.std.proofs.lemmas.List.{append-nil}
use Rattle.std.proofs.lemmas.Grind.{common_steps}
use Rattle.bm_trace.specs.declared.records.End.{End}
use Rattle.bm_trace.specs.Inside.Ends.{words_of_end, words_of_ends, words_of_option}
use Rattle.bm_trace.specs.Inside.EndTables.{with_later}
use Rattle.bm_trace.specs.Words.{line, spaced}

pub spaced_append : (a b : List (List ℕ)) → spaced (a ++ b) ≡ spaced a ++ spaced b
spaced_append [] b = refl
spaced_append (w ∷ a) b = ap (λ x. 32 ∷ w ++ x) (spaced_append a b) ∙ sym (append_assoc (32 ∷ w) (spaced a) (spaced b))

pub ends_append : (a b : List End) → words_of_ends (a ++ b) ≡ words_of_ends a ++ words_of_ends b
ends_append [] b = refl
ends_append (e ∷ a) b =
    ap (λ x. words_of_end e ++ x) (ends_append a b)
    ∙ sym (append_assoc (words_of_end e) (words_of_ends a) (words_of_ends b))

-- one end more
pub ends_push : (ends : List End) (end : End) → words_of_ends (ends ++ end ∷ []) ≡ words_of_ends ends
    ++ words_of_end end
ends_push ends end = ends_append ends (end ∷ []) ∙ ap (λ x. words_of_ends ends ++ x) (append-nil (words_of_end end))

pub spaced_more : (ends : List End) (i : ℕ) (d : End) → i < length ends
    → spaced (words_of_ends (take (i + 1) ends)) ≡ spaced (words_of_ends (take i ends))
    ++ spaced (words_of_end (get_or ends i d))
spaced_more ends i d h =
    let e : take (i + 1) ends ≡ take i ends ++ get_or ends i d ∷ [] = grind (arith, common_steps)
    in ap (λ x. spaced (words_of_ends x)) e
    ∙ ap spaced (ends_push (take i ends) (get_or ends i d))
    ∙ spaced_append (words_of_ends (take i ends)) (words_of_end (get_or ends i d))

-- the words of the first end, and of the later ones after it
ends_with : (first : Option End) (later : List End) → words_of_ends (with_later first later)
    ≡ words_of_option first ++ words_of_ends later
ends_with None later = refl
ends_with (Some end) later = refl

-- an end is added after those of its packet
pub end_added : (old new : ℕ → List End) (p : ℕ) (end : End) → 0 < p → new (p - 1) ≡ old (p - 1) ++ end ∷ []
    → ((k : ℕ) → (p - 1 == k) ≡ false → new k ≡ old k) → (k : ℕ)
    → words_of_ends (new k) ≡ words_of_ends (old k) ++ (if p == k + 1 then words_of_end end else [])
end_added old new p end some here apart k =
    elim (cases_eq p (k + 1)) [
      | inl same ↦
          let at : p - 1 ≡ k = omega arith
          in let eq : (p == k + 1) ≡ true = eq-eqb p (k + 1) same
          in let there : new k ≡ old k ++ end ∷ [] = subst (λ x. new x ≡ old x ++ end ∷ []) at here
          in rw eq (ap words_of_ends there ∙ ends_push (old k) end)
      | inr other ↦
          let ne : (p == k + 1) ≡ false = ne_eqb p (k + 1) other
          in let off : (p - 1 == k) ≡ false = ne_eqb (p - 1) k (λ e. other (omega arith))
          in rw ne (ap words_of_ends (apart k off) ∙ sym (append-nil (words_of_ends (old k))))
    ]

-- the first end is written, and the later ones after it
pub wrote_both : (base between new : List ℕ) (first : Option End) (later : List End)
    → between ≡ base ++ spaced (words_of_option first) → new ≡ between ++ spaced (words_of_ends later)
    → new ≡ base ++ spaced (words_of_ends (with_later first later))
wrote_both base between new first later before step =
    step
    ∙ ap (λ x. x ++ spaced (words_of_ends later)) before
    ∙ append_assoc base (spaced (words_of_option first)) (spaced (words_of_ends later))
    ∙ ap (λ x. base ++ x) (sym (spaced_append (words_of_option first) (words_of_ends later)))
    ∙ ap (λ x. base ++ spaced x) (sym (ends_with first later))

-- one end more is written
pub wrote_more : (base written new : List ℕ) (ends : List End) (i : ℕ) (e : End) → i < length ends → get_or ends i e ≡ e
    → written ≡ base ++ spaced (words_of_ends (take i ends)) → new ≡ written ++ spaced (words_of_end e)
    → new ≡ base ++ spaced (words_of_ends (take (i + 1) ends))
wrote_more base written new ends i e below is before step =
    step
    ∙ ap (λ x. x ++ spaced (words_of_end e)) before
    ∙ append_assoc base (spaced (words_of_ends (take i ends))) (spaced (words_of_end e))
    ∙ ap (λ x. base ++ (spaced (words_of_ends (take i ends)) ++ spaced (words_of_end x))) (sym is)
    ∙ ap (λ x. base ++ x) (sym (spaced_more ends i e below))

-- a word between spaces, and a text after it
pub named_is : (text word more : List ℕ) → text ≡ 32 ∷ word ++ 32 ∷ [] → text ++ more ≡ spaced (word ∷ more ∷ [])
named_is text word more is =
    ap (λ x. x ++ more) is
    ∙ append_assoc (32 ∷ word) (32 ∷ []) more
    ∙ ap (λ x. (32 ∷ word) ++ (32 ∷ x)) (sym (append-nil more))

-- LINES

-- now there is the old text and a line that begins with these words
pub record IsBegun (old first : List ℕ) (words : List (List ℕ)) (now : List ℕ) : Type 0 where
  pub whole : now ≡ old ++ (first ++ spaced words)

pub begun : (old first now : List ℕ) → now ≡ old ++ first → IsBegun old first [] now
begun old first now step = record { whole = step ∙ ap (λ x. old ++ x) (sym (append-nil first)) }

pub words_more : (old first now new : List ℕ) (words more : List (List ℕ)) → IsBegun old first words now
    → new ≡ now ++ spaced more → IsBegun old first (words ++ more) new
words_more old first now new words more b step = record {
  whole = step
      ∙ ap (λ x. x ++ spaced more) b.whole
      ∙ append_assoc old (first ++ spaced words) (spaced more)
      ∙ ap (λ x. old ++ x) (append_assoc first (spaced words) (spaced more))
      ∙ ap (λ x. old ++ (first ++ x)) (sym (spaced_append words more));
}

-- what was found is this word
pub word_more : (old first now new : List ℕ) (words : List (List ℕ)) (found word : List ℕ)
    → IsBegun old first words now → found ≡ word → new ≡ now ++ spaced (found ∷ [])
    → IsBegun old first (words ++ word ∷ []) new
word_more old first now new words found word b is step =
    words_more old first now new words (word ∷ []) b (step ∙ ap (λ x. now ++ spaced (x ∷ [])) is)

-- the text is this word between spaces, and the number that was found is this one
pub named_more : (old first now new : List ℕ) (words : List (List ℕ)) (text word : List ℕ) (found number : ℕ)
    → IsBegun old first words now → text ≡ 32 ∷ word ++ 32 ∷ [] → found ≡ number
    → new ≡ now ++ (text ++ decimal found) → IsBegun old first (words ++ word ∷ decimal number ∷ []) new
named_more old first now new words text word found number b is same step =
    words_more old first now new words (word ∷ decimal number ∷ []) b
    (step
    ∙ ap (λ x. now ++ x) (named_is text word (decimal found) is ∙ ap (λ n. spaced (word ∷ decimal n ∷ [])) same))

pub line_ends : (old first now new : List ℕ) (words : List (List ℕ)) → IsBegun old first words now
    → new ≡ now ++ 10 ∷ [] → new ≡ old ++ line first words
line_ends old first now new words b step =
    step ∙ ap (λ x. x ++ 10 ∷ []) b.whole ∙ append_assoc old (first ++ spaced words) (10 ∷ [])

-- the last words and the line's end
pub words_end : (old first now new : List ℕ) (words more : List (List ℕ)) → IsBegun old first words now
    → new ≡ now ++ (spaced more ++ 10 ∷ []) → new ≡ old ++ line first (words ++ more)
words_end old first now new words more b step =
    line_ends old first (now ++ spaced more) new (words ++ more)
    (words_more old first now (now ++ spaced more) words more b refl)
    (step ∙ sym (append_assoc now (spaced more) (10 ∷ [])))

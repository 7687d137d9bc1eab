-- Texts that are written one after another.
use Rattle.std.proofs.Common.{◌≡◌, ℕ, ◌+◌, ◌<◌, List, [], ◌∷◌, ◌++◌, length, take, drop, get_or, Option}
use Rattle.std.proofs.Common.{flat_map, sym, ap, subst, ◌∙◌, arith, append_assoc, length-append}
use Rattle.std.proofs.lemmas.Grind.{common_steps}
use Rattle.std.proofs.lemmas.List.{append-nil, take-append-drop}
use Rattle.std.proofs.lemmas.List.Concat.{flat_map-append}
use Rattle.std.proofs.KnownBytes.{Appends-trans}
use Rattle.std.proofs.Math.Seq.{take-append_seam}
use Rattle.std.specs.Io.KnownBytes.{Appends}
use Rattle.bm_io.specs.Written.{WritesPart}

abbrev pub joined : List (List ℕ) → List ℕ
joined parts = flat_map (λ part. part) parts

one_more : (parts : List (List ℕ)) (i : ℕ) (d : List ℕ) → i < length parts →
    joined (take (i + 1) parts) ≡ joined (take i parts) ++ get_or parts i d
one_more parts i d below =
    let e : take (i + 1) parts ≡ take i parts ++ get_or parts i d ∷ [] = grind (arith, common_steps)
    in ap joined e ∙ flat_map-append (λ part. part) (take i parts) (get_or parts i d ∷ [])
    ∙ ap (λ l. joined (take i parts) ++ l) (append-nil (get_or parts i d))

-- a text more was written
pub text_more : (before mid now : Option (List ℕ)) (parts : List (List ℕ)) (i : ℕ) (d piece : List ℕ) →
    i < length parts → piece ≡ get_or parts i d → Appends before mid (joined (take i parts)) →
    Appends mid now piece → Appends before now (joined (take (i + 1) parts))
text_more before mid now parts i d piece below is first next =
    subst (λ l. Appends before now l)
    (ap (λ l. joined (take i parts) ++ l) is ∙ sym (one_more parts i d below))
    (Appends-trans before mid now (joined (take i parts)) piece first next)

part_of : (before now : Option (List ℕ)) (sent rest text : List ℕ) → sent ++ rest ≡ text → 0 < length rest →
    Appends before now sent → WritesPart before now text
part_of before now sent rest text whole some written =
    let front : take (length sent) text ≡ sent =
    ap (λ l. take (length sent) l) (sym whole) ∙ take-append_seam sent rest
    in (
      length sent,
      omega (arith, ap length whole, length-append sent rest, some),
      subst (λ l. Appends before now l) (sym front) written,
    )

-- something is left after a first part of a text that isn't all of it
some_left : (piece behind : List ℕ) (n : ℕ) → n < length piece → 0 < length (drop n piece ++ behind)
some_left piece behind n less =
    let left : 0 < length (drop n piece) = grind (arith, common_steps)
    in omega (arith, length-append (drop n piece) behind, left)

-- a first part of the next text was written
pub text_part : (before mid now : Option (List ℕ)) (parts : List (List ℕ)) (i n : ℕ) (d piece : List ℕ) →
    i < length parts → piece ≡ get_or parts i d → Appends before mid (joined (take i parts)) → n < length piece →
    Appends mid now (take n piece) → WritesPart before now (joined parts)
text_part before mid now parts i n d piece below is first less next =
    let a = joined (take i parts) in
    let b = joined (drop (i + 1) parts) in
    let upto : a ++ piece ≡ joined (take (i + 1) parts) =
    ap (λ l. a ++ l) is ∙ sym (one_more parts i d below) in
    let all : joined (take (i + 1) parts) ++ b ≡ joined parts =
    sym (flat_map-append (λ part. part) (take (i + 1) parts) (drop (i + 1) parts))
    ∙ ap joined (take-append-drop (i + 1) parts) in
    part_of before now (a ++ take n piece) (drop n piece ++ b) (joined parts)
    (append_assoc a (take n piece) (drop n piece ++ b)
    ∙ ap (λ l. a ++ l) (sym (append_assoc (take n piece) (drop n piece) b)
    ∙ ap (λ l. l ++ b) (take-append-drop n piece))
    ∙ sym (append_assoc a piece b) ∙ ap (λ l. l ++ b) upto ∙ all)
    (some_left piece b n less)
    (Appends-trans before mid now a (take n piece) first next)

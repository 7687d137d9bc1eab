-- A source whose first octets are given first.
use Rattle.std.proofs.Common.{◌≡◌, ℕ, ◌+◌, ◌-◌, ◌≤◌, List, [], ◌++◌, length, take, drop, slice_range, Option, Some}
use Rattle.std.proofs.Common.{None}
use Rattle.std.proofs.Common.{Result, arith, refl, sym, ap, subst, ◌∙◌, append_assoc}
use Rattle.std.proofs.lemmas.List.{take-append-drop, take-take, take_at}
use Rattle.std.specs.Io.KnownBytes.{Consumes, ReadConsumes, prepend_known}
use Rattle.bm_pcap.proofs.Windows.{consumed}

nothing : (known : Option (List ℕ)) → prepend_known [] known ≡ known
nothing None = refl
nothing (Some xs) = refl

none_ahead : (xs : List ℕ) (from upto : ℕ) → from ≡ upto → slice_range xs from upto ≡ []
none_ahead xs from upto is =
    let e : upto - from ≡ 0 = omega (arith, is) in ap (λ n. take n (drop from xs)) e

-- after the first octets the source gives
pub behind_front : {E : Type 0} (xs : List ℕ) (from upto : ℕ) (old new : Option (List ℕ)) (r : Result ℕ E)
    (buf : List ℕ) → from ≡ upto → ReadConsumes old new r buf
    → ReadConsumes (prepend_known (slice_range xs from upto) old) (prepend_known (slice_range xs from upto) new) r buf
behind_front {E} xs from upto old new r buf is given =
    let P : List ℕ → Type 0 = λ z. ReadConsumes {E = E} (prepend_known z old) (prepend_known z new) r buf in
    let Q : Option (List ℕ) → Type 0 = λ o. ReadConsumes {E = E} o (prepend_known [] new) r buf in
    let R : Option (List ℕ) → Type 0 = λ o. ReadConsumes {E = E} old o r buf in
    subst P (sym (none_ahead xs from upto is)) (subst Q (sym (nothing old)) (subst R (sym (nothing new)) given))

-- the first octets are given
pub given_front : (xs : List ℕ) (from upto count : ℕ) (left : Option (List ℕ)) (piece : List ℕ) → from + count ≤ upto
    → piece ≡ take count (slice_range xs from upto)
    → Consumes (prepend_known (slice_range xs from upto) left) (prepend_known (slice_range xs (from + count) upto) left)
    piece
given_front xs from upto count None piece inside is = tt
given_front xs from upto count (Some ys) piece inside is =
    ap (λ z. z ++ ys)
    (sym (take-append-drop count (slice_range xs from upto))
    ∙ ap (λ z. z ++ drop count (slice_range xs from upto)) (sym is)
    ∙ ap (λ z. piece ++ z) (sym (consumed xs from upto count inside)))
    ∙ append_assoc piece (slice_range xs (from + count) upto) ys

-- what was written to the front of a buffer
pub piece_is : (xs copied back : List ℕ) (from upto count : ℕ) → from + count ≤ upto → length copied ≡ count
    → copied ≡ slice_range xs from (from + count)
    → take count (copied ++ back) ≡ take count (slice_range xs from upto)
piece_is xs copied back from upto count inside size is =
    let e : from + count - from ≡ count = omega arith in
    let less : count ≤ upto - from = omega (arith, inside) in
    take_at copied back count size ∙ is ∙ ap (λ n. take n (drop from xs)) e
    ∙ sym (take-take count (upto - from) (drop from xs) less)

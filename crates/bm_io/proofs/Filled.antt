-- One more piece at the front of a buffer that is being filled.
use Rattle.std.proofs.Common.{◌≡◌, ℕ, ◌+◌, ◌-◌, ◌≤◌, ◌++◌, List, length, Option, Some, None, take, drop, ap, ap₂, sym}
use Rattle.std.proofs.Common.{subst, ◌∙◌, arith, append_assoc, length-append, length-drop}
use Rattle.std.proofs.Math.Seq.{take-add, take-append-add, take-append_seam, drop-append_seam}
use Rattle.std.proofs.lemmas.List.{length-take-le, take-append-le, take-append-drop, take_rest}
use Rattle.std.specs.Io.KnownBytes.{Consumes}
use Rattle.bm_io.specs.Inside.Fill.{FilledSoFar}
use borrow.Rule.Slice.PartMut.{put_mid, same_len_mid}

-- a list that begins with xs, of length n
take_front : (n : ℕ) (xs ys : List ℕ) → length xs ≡ n → take n (xs ++ ys) ≡ xs
take_front n xs ys e = let P : ℕ → Type 0 = λ m. take m (xs ++ ys) ≡ xs in subst P e (take-append_seam xs ys)

drop_front : (n : ℕ) (xs ys : List ℕ) → length xs ≡ n → drop n (xs ++ ys) ≡ ys
drop_front n xs ys e = let P : ℕ → Type 0 = λ m. drop m (xs ++ ys) ≡ ys in subst P e (drop-append_seam xs ys)

-- the front of `&mut buf[at..]` comes after what is before it
take_put : (at k n : ℕ) (buf piece : List ℕ) → at ≤ length buf → n ≤ length piece
    → take (at + n) (put_mid at k buf piece) ≡ take at buf ++ take n piece
take_put at k n buf piece within fits =
    let rest = drop k (drop at buf) in
    let P : ℕ → Type 0 = λ m. take (m + n) (take at buf ++ (piece ++ rest)) ≡ take at buf ++ take n piece in
    subst P (length-take-le at buf within)
    (take-append-add (take at buf) (piece ++ rest) n
    ∙ ap (λ z. take at buf ++ z) (take-append-le n piece rest fits))

core : (left : List ℕ) (new : Option (List ℕ)) (at n : ℕ) (buf piece : List ℕ)
    → at ≤ length buf → n ≤ length piece → at ≤ length left → take at buf ≡ take at left
    → Consumes (Some (drop at left)) new (take n piece)
    → FilledSoFar (Some left) new (at + n) (put_mid at (length buf - at) buf piece)
core left None at n buf piece within fits there same more = absurd more
core left (Some ys) at n buf piece within fits there same more =
    let len : length (take n piece) ≡ n = length-take-le n piece fits in
    let moved : take n (drop at left) ≡ take n piece = ap (take n) more ∙ take_front n (take n piece) ys len in
    let whole : left ≡ (take at left ++ take n piece) ++ ys =
    sym (take-append-drop at left) ∙ ap (λ z. take at left ++ z) more
    ∙ sym (append_assoc (take at left) (take n piece) ys) in
    let front : length (take at left ++ take n piece) ≡ at + n =
    length-append (take at left) (take n piece) ∙ ap₂ (λ a b. a + b) (length-take-le at left there) len in (
      omega (arith, ap length more, length-append (take n piece) ys, len, length-drop at left),
      take_put at (length buf - at) n buf piece within fits ∙ ap₂ (λ a b. a ++ b) same (sym moved)
          ∙ sym (take-add at n left),
      ap (λ z. Some z) (sym (ap (drop (at + n)) whole ∙ drop_front (at + n) (take at left ++ take n piece) ys front)),
    )

pub filled_more : (old mid new : Option (List ℕ)) (at n : ℕ) (buf piece : List ℕ)
    → at ≤ length buf → n ≤ length piece
    → FilledSoFar old mid at buf → Consumes mid new (take n piece)
    → FilledSoFar old new (at + n) (put_mid at (length buf - at) buf piece)
filled_more None mid new at n buf piece within fits so_far more = tt
filled_more (Some left) mid new at n buf piece within fits so_far more =
    let P : Option (List ℕ) → Type 0 = λ m. Consumes m new (take n piece) in
    core left new at n buf piece within fits so_far.0 so_far.1 (subst P so_far.2 more)

pub filled_within : (at n : ℕ) (buf piece : List ℕ) → at ≤ length buf
    → length piece ≡ length (take (length buf - at) (drop at buf)) → n ≤ length piece
    → at + n ≤ length (put_mid at (length buf - at) buf piece)
filled_within at n buf piece within same fits =
    rw (same_len_mid at (length buf - at) buf piece same)
    (omega (arith, within, same, ap length (take_rest buf at), length-drop at buf, fits))

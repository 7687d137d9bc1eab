-- The octets of a window, after a read at its end or a step of its start.
use Rattle.std.proofs.Common.{◌≡◌, ℕ, ◌+◌, ◌-◌, ◌≤◌, List, ◌++◌, length, take, drop, slice_range, Option, Some, None}
use Rattle.std.proofs.Common.{refl, sym, ap, ap₂, ◌∙◌, arith, append_assoc, length-append, length-drop}
use Rattle.std.proofs.lemmas.List.{append-nil, take_all, take-take, take_at, drop_at, take-append-le, drop-append-le}
use Rattle.std.proofs.lemmas.List.{drop-take, drop-drop, length-take-le, length-take}
use Rattle.std.specs.Io.KnownBytes.{Consumes, IsAtEnd, Keeps, prepend_known}
use Rattle.bm_pcap.specs.Window.{Ahead}
use borrow.Rule.Slice.PartMut.{put_mid, post_of}
use lib.Seq.{take-add}

pub grown : (xs ys : List ℕ) (start end k n : ℕ) → start ≤ end → end ≤ length xs → n ≤ length ys
    → slice_range (put_mid end k xs ys) start (end + n) ≡ slice_range xs start end ++ take n ys
grown xs ys start end k n ordered within fits =
    let front = length-take-le end xs within in
    let buffered = drop start (take end xs) in
    let len : length buffered ≡ end - start = omega (arith, length-drop start (take end xs)) in
    let sum : end + n - start ≡ (end - start) + n = omega arith in
    let parts : end ≡ start + (end - start) = omega arith in
    let same : buffered ≡ take (end - start) (drop start xs) =
    ap (λ j. drop start (take j xs)) parts ∙ drop-take start (end - start) xs in
    let after = ys ++ post_of end k xs in
    ap (take (end + n - start)) (drop-append-le start (take end xs) after (omega arith))
    ∙ ap (λ j. take j (buffered ++ after)) sum ∙ take-add (end - start) n (buffered ++ after)
    ∙ (rw (take_at buffered after _ len, drop_at buffered after _ len, take-append-le n ys (post_of end k xs) fits, same) refl)

pub kept : (xs ys : List ℕ) (start end k : ℕ) → start ≤ end → end ≤ length xs
    → slice_range (put_mid end k xs ys) start end ≡ slice_range xs start end
kept xs ys start end k ordered within =
    let none : end ≡ end + 0 = omega arith in
    ap (slice_range (put_mid end k xs ys) start) none ∙ grown xs ys start end k 0 ordered within (omega arith)
    ∙ append-nil _

pub consumed : (xs : List ℕ) (start end count : ℕ) → start + count ≤ end
    → slice_range xs (start + count) end ≡ drop count (slice_range xs start end)
consumed xs start end count inside =
    let parts : end - start ≡ count + (end - (start + count)) = omega arith in
    sym (ap (λ j. drop count (take j (drop start xs))) parts ∙ drop-take count _ (drop start xs)
    ∙ ap (take (end - (start + count))) (drop-drop count start xs))

-- what was answered before, and then these
pub answered : (xs : List ℕ) (start end count : ℕ) → start + count ≤ end
    → take (start + count) xs ≡ take start xs ++ take count (slice_range xs start end)
answered xs start end count inside =
    let front : take count (take (end - start) (drop start xs)) ≡ take count (drop start xs) =
    take-take count (end - start) (drop start xs) (omega (arith, inside)) in
    take-add start count xs ∙ ap (λ z. take start xs ++ z) (sym front)

-- The octets that were left stay the same where nothing moved.
pub keeps_same : (left : Option (List ℕ)) (new : Option (List ℕ)) (xs ys : List ℕ) → Keeps left new → ys ≡ xs
    → Keeps (prepend_known xs left) (prepend_known ys new)
keeps_same None new xs ys same buffered = tt
keeps_same (Some a) None xs ys same buffered = same
keeps_same (Some a) (Some b) xs ys same buffered = ap₂ (λ p q. p ++ q) buffered same

-- A piece of the source was read ahead.
pub keeps_more : (left : Option (List ℕ)) (new : Option (List ℕ)) (xs ys more : List ℕ) → Consumes left new more
    → ys ≡ xs ++ more → Keeps (prepend_known xs left) (prepend_known ys new)
keeps_more None new xs ys more read buffered = tt
keeps_more (Some a) None xs ys more read buffered = read
keeps_more (Some a) (Some b) xs ys more read buffered =
    ap (λ p. p ++ b) buffered ∙ append_assoc xs more b ∙ ap (λ q. xs ++ q) (sym read)

pub keeps_trans : (old mid new : Option (List ℕ)) → Keeps old mid → Keeps mid new → Keeps old new
keeps_trans None mid new h k = tt
keeps_trans (Some a) None new h k = absurd h
keeps_trans (Some a) (Some b) None h k = absurd k
keeps_trans (Some a) (Some b) (Some c) h k = k ∙ h

-- As many octets were read ahead as were wanted.
pub ahead_whole : (old left : Option (List ℕ)) (ahead : List ℕ) (most : ℕ) → Keeps old (prepend_known ahead left)
    → most ≤ length ahead → Ahead old most most ahead
ahead_whole None left ahead most keeps long = tt
ahead_whole (Some xs) None ahead most keeps long = absurd keeps
ahead_whole (Some xs) (Some ys) ahead most keeps long = (
  omega (arith, long, ap length keeps, length-append ahead ys),
  sym (take-append-le most ahead ys long)
      ∙ ap (take most) keeps,
)

-- All that are left were read ahead.
pub ahead_end : (old left : Option (List ℕ)) (ahead : List ℕ) (most n : ℕ) → Keeps old (prepend_known ahead left)
    → IsAtEnd left → n ≡ length ahead → n ≤ most → Ahead old most n ahead
ahead_end None left ahead most n keeps none is less = tt
ahead_end (Some xs) None ahead most n keeps none is less = absurd keeps
ahead_end (Some xs) (Some ys) ahead most n keeps none is less =
    let all : ahead ≡ xs = sym (append-nil ahead) ∙ ap (λ z. ahead ++ z) (sym none) ∙ keeps in
    (omega (arith, less, is, ap length all), ap (take n) all)

pub length_range : (xs : List ℕ) (start end : ℕ) → end ≤ length xs → length (slice_range xs start end) ≡ end - start
length_range xs start end within =
    omega (arith, within, length-take (end - start) (drop start xs), length-drop start xs)

-- what a buffer contains from its front
pub front_buffered : (xs : List ℕ) (start end size : ℕ) → start ≡ 0 → end ≤ size → length xs ≡ size
    → length (slice_range xs start end) ≡ end
front_buffered xs start end size zero within is =
    omega (arith, zero, within, length_range xs start end (omega (arith, within, is)))

-- A beginning of a beginning is a beginning.
pub front_trans : (xs ys zs : List ℕ) → take (length xs) ys ≡ xs → take (length ys) zs ≡ ys → take (length xs) zs ≡ xs
front_trans xs ys zs h k =
    let less : length xs ≤ length ys = omega (arith, ap length h, length-take (length xs) ys) in
    sym (take-take (length xs) (length ys) zs less) ∙ ap (take (length xs)) k ∙ h

pub grows_same : (xs ys : List ℕ) → ys ≡ xs → take (length xs) ys ≡ xs
grows_same xs ys same = ap (take (length xs)) same ∙ take_all (length xs) xs (omega arith)

pub grows_more : (xs ys more : List ℕ) → ys ≡ xs ++ more → take (length xs) ys ≡ xs
grows_more xs ys more is = ap (take (length xs)) is ∙ take_at xs more (length xs) refl

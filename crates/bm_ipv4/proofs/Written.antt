-- What a list is after a number was written to a part of it.
use Rattle.std.proofs.Common.{◌≡◌, ℕ, ◌+◌, ◌-◌, ◌≤◌, List, [], ◌++◌, length, take, drop, append-nil, append_assoc, sym}
use Rattle.std.proofs.Common.{ap, ◌∙◌, arith}
use Rattle.std.proofs.lemmas.List.{drop-drop, drop_all, take_rest}
use borrow.Rule.Slice.PartMut.{put_mid}

pub written : (at n : ℕ) (xs front new : List ℕ) → at + n ≤ length xs
    → new ≡ front ++ drop n (take (length xs - at) (drop at xs))
    → put_mid at (length xs - at) xs new ≡ take at xs ++ front ++ drop (at + n) xs
written at n xs front new short is =
    let rest : drop n (take (length xs - at) (drop at xs)) ≡ drop (at + n) xs =
    ap (drop n) (take_rest xs at) ∙ drop-drop n at xs in
    let none : drop (length xs - at) (drop at xs) ≡ [] =
    drop-drop (length xs - at) at xs ∙ drop_all _ xs (omega arith) in
    rw (none, is, rest, append-nil) (sym (append_assoc (take at xs) front (drop (at + n) xs)))

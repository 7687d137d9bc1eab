-- Records that look like copies are at most as many as the records.
use Rattle.std.proofs.Common.{◌≡◌, ℕ, suc, ◌≤◌, Bool, true, false, List, [], ◌∷◌, length, take, reverse, ap, ◌∙◌}
use Rattle.std.proofs.Common.{arith}
use Rattle.std.proofs.lemmas.List.{length-reverse, length-take-le}
use Rattle.bm_base.specs.declared.capture.Record.{Record}
use Rattle.bm_connections.specs.declared.copies.CopyCount.{CopyCount}
use Rattle.bm_connections.specs.Connections.{one_more}
use Rattle.bm_connections.specs.Copies.{copies_after, copies_among, is_copy, is_numbered, numbered_among}

one_more-le : (so : Bool) (n m : ℕ) → n ≤ m → one_more so n ≤ suc m
one_more-le true n m le = omega arith
one_more-le false n m le = omega arith

copies-le : (records : List Record) → copies_among records ≤ length records
copies-le [] = omega arith
copies-le (r ∷ records) =
    one_more-le (is_copy records r) (copies_among records) (length records) (copies-le records)

numbered-le : (records : List Record) → numbered_among records ≤ length records
numbered-le [] = omega arith
numbered-le (r ∷ records) =
    one_more-le (is_numbered r) (numbered_among records) (length records) (numbered-le records)

module _ (records : List Record) (i : ℕ) (count : CopyCount) (is : count ≡ copies_after (reverse (take i records)))
    (few : i ≤ length records) where
  -- the records so far
  so_far : length (reverse (take i records)) ≡ i
  so_far = length-reverse (take i records) ∙ length-take-le i records few

  pub copies-room : count.copies ≤ i
  copies-room = omega (arith, ap (λ (c : CopyCount). c.copies) is, copies-le (reverse (take i records)), so_far)

  pub numbered-room : count.numbered ≤ i
  numbered-room =
      omega (arith, ap (λ (c : CopyCount). c.numbered) is, numbered-le (reverse (take i records)), so_far)

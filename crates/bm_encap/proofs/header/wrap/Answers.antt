use Rattle.std.proofs.Common.{◌++◌, ◌+◌, ◌∙◌, ℕ, List, ap, append_assoc, length}
use Rattle.bm_ipv4.specs.Checksum.{checksum_of}
use Rattle.bm_encap.specs.Spellings.{header}
use Rattle.bm_encap.proofs.header.wrap.Goals as goal

pub returns : goal.returns
returns c =
    let total : ℕ = 56 + length c.args.inner.now in
    let out : List ℕ = c.args.out.now.items in
    c.in_ok-extend_from_slice-2.ensures.items
    ∙ (ap (λ (xs : List ℕ). xs ++ c.args.inner.now)
    (c.in_ok-extend_from_slice.ensures.items
    ∙ (ap (λ (xs : List ℕ). xs ++ c.summed.result) c.in_ok-reserve.ensures.items
    ∙ ap (λ (xs : List ℕ). out ++ xs) c.summed.ensures))
    ∙ append_assoc out (header c.args.tag.now total (checksum_of (header c.args.tag.now total 0))) c.args.inner.now)

-- The header of the next hop, over the octets in front.
use Rattle.std.proofs.Common.{◌≡◌, ℕ, ◌+◌, ◌≤◌, List, ◌++◌, length, drop, Ok, refl, ap, subst, ◌∙◌, arith}
use Rattle.std.proofs.lemmas.List.{length-drop}
use Rattle.bm_base.specs.declared.label.Tag.{Tag}
use Rattle.bm_ipv4.specs.Checksum.{checksum_of}
use Rattle.bm_encap.specs.Faults.{chained, chained_from, next_hop, spelling_of, unwrapped}
use Rattle.bm_encap.specs.Spellings.{header}
use Rattle.bm_encap.proofs.Faultless.{read_is}
use Rattle.bm_encap.proofs.Says.{says}

pub chains : (octets inner : List ℕ) (tag next : Tag) → unwrapped octets ≡ Ok (tag, inner) → next_hop tag ≡ Ok next
    → chained octets ≡ Ok (header next (length octets) (checksum_of (header next (length octets) 0)) ++ drop 56 octets)
chains octets inner tag next is hop =
    let r = read_is octets (tag, inner) is in
    let rest : inner ≡ drop 56 octets = ap (λ (x : Tag × List ℕ). x.1) r.1 in
    let long : 56 ≤ length octets = (says octets r.0).long in
    let total : 56 + length (drop 56 octets) ≡ length octets = omega (arith, length-drop 56 octets, long) in
    let P : ℕ → Type 0 =
    λ m. spelling_of (Ok next) (drop 56 octets)
    ≡ Ok (header next m (checksum_of (header next m 0)) ++ drop 56 octets) in
    ap chained_from is ∙ (ap (λ t. spelling_of t inner) hop ∙ (ap (spelling_of (Ok next)) rest ∙ subst P total refl))

use Rattle.std.proofs.Common.{ℕ, List, ◌++◌, drop, ap, sym, ◌∙◌, Ok}
use Rattle.bm_encap.proofs.Chained.{chains}
use Rattle.bm_encap.proofs.header.chain.Goals as goal

pub returns-clause-octets : goal.returns-clause-octets
returns-clause-octets c =
    let octets : List ℕ = c.args.octets.now in
    chains octets _ c.in_ok-tag.tag c.in_ok-next.next c.in_ok-tag.ensures.read (sym c.in_ok-next.ensures)
    ∙ ap (λ (xs : List ℕ). Ok xs)
    (sym (c.replace_header.ensures ∙ ap (λ (xs : List ℕ). xs ++ drop 56 octets) c.summed.ensures))

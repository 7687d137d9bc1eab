-- Octets that are always the same, from one place on.
use Rattle.std.proofs.Common.{◌≡◌, ℕ, ◌+◌, ◌<◌, List, [], Some, None, drop, get_or, length, refl}
use Rattle.std.specs.Prelude.{◌==◌, if◌then◌else◌}
use Rattle.std.proofs.lemmas.List.{at_drop_more}
use Rattle.bm_ipv4.specs.Fields.{octet_at}
use Rattle.bm_encap.specs.Faults.{differing}
use Rattle.bm_encap.specs.declared.fault.EncapFault.{EncapFault}

pub differing_from : (octets : List ℕ) (fault : ℕ → EncapFault) (fixed : List (ℕ × ℕ)) (i : ℕ) (d : ℕ × ℕ)
    → i < length fixed
    → differing octets fault (drop i fixed)
    ≡ (if octet_at octets (get_or fixed i d).0 == (get_or fixed i d).1 then differing octets fault (drop (i + 1) fixed)
    else Some (fault (get_or fixed i d).0))
unfolding differing
differing_from octets fault fixed i d below =
    at_drop_more (λ (xs : List (ℕ × ℕ)). differing octets fault xs) fixed i d below

pub differing_none : (octets : List ℕ) (fault : ℕ → EncapFault) → differing octets fault [] ≡ None
unfolding differing
differing_none octets fault = refl

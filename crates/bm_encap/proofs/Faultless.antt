-- Octets without a fault.
use Rattle.std.proofs.Common.{◌≡◌, ℕ, Bool, true, false, not, List, ◌∷◌, length, drop, Option, Some, None, Ok, refl}
use Rattle.std.specs.Prelude.{◌==◌, nat_lt}
use Rattle.bm_base.specs.declared.label.Tag.{Tag}
use Rattle.bm_ipv4.specs.Checksum.{checksum_of}
use Rattle.bm_ipv4.specs.Fields.{u16_at}
use Rattle.bm_encap.specs.Faults.{encap_fault, fault_when, first_fault, option_fault, or_read, outer_fault, tag_in}
use Rattle.bm_encap.specs.Faults.{unwrapped, without_sum}
use Rattle.bm_encap.specs.declared.fault.EncapFault.{EncapFault}
use Rattle.bm_encap.specs.declared.fault.EncapFault.TheVariants.{Short, BadSum, BadLength}

pub record IsFaultless (octets : List ℕ) : Type 0 where
  pub long : nat_lt (length octets) 56 ≡ false
  pub outer : outer_fault octets ≡ None
  pub sum : (checksum_of (without_sum octets) == u16_at octets 10) ≡ true
  pub option : option_fault octets ≡ None
  pub total : (u16_at octets 2 == length octets) ≡ true

-- where none is there, the first isn't, and none of the others is
pub first_none : (fault : Option EncapFault) (faults : List (Option EncapFault)) → first_fault (fault ∷ faults) ≡ None
    → (fault ≡ None) × (first_fault faults ≡ None)
first_none None faults is = (refl, is)
first_none (Some fault) faults is = absurd (cc)

pub when_none : (stands : Bool) (fault : EncapFault) → fault_when stands fault ≡ None → stands ≡ false
when_none true fault is = absurd (cc)
when_none false fault is = refl

pub not_false : (b : Bool) → not b ≡ false → b ≡ true
not_false true is = refl
not_false false is = absurd (cc)

pub faultless : (octets : List ℕ) → encap_fault octets ≡ None → IsFaultless octets
faultless octets is =
    let a = first_none (fault_when (nat_lt (length octets) 56) Short) _ is in
    let b = first_none (outer_fault octets) _ a.1 in
    let c = first_none (fault_when (not (checksum_of (without_sum octets) == u16_at octets 10)) BadSum) _ b.1 in
    let d = first_none (option_fault octets) _ c.1 in
    let e = first_none (fault_when (not (u16_at octets 2 == length octets)) BadLength) _ d.1 in
    record {
      long = when_none _ Short a.0;
      outer = b.0;
      sum = not_false _ (when_none _ BadSum c.0);
      option = d.0;
      total = not_false _ (when_none _ BadLength e.0);
    }

pub reads : (octets : List ℕ) → IsFaultless octets → unwrapped octets ≡ Ok (tag_in octets, drop 56 octets)
unfolding unwrapped
reads octets is = rw (is.long, is.outer, is.sum, is.option, is.total) refl

read_none : (fault : Option EncapFault) (octets : List ℕ) (read : Tag × List ℕ) → or_read fault octets ≡ Ok read
    → (fault ≡ None) × (read ≡ (tag_in octets, drop 56 octets))
read_none None octets read is = (refl, cc)
read_none (Some fault) octets read is = absurd (cc)

-- what was read is what the octets say
pub read_is : (octets : List ℕ) (read : Tag × List ℕ) → unwrapped octets ≡ Ok read → IsFaultless octets
    × (read ≡ (tag_in octets, drop 56 octets))
unfolding unwrapped
read_is octets read is = let r = read_none (encap_fault octets) octets read is in (faultless octets r.0, r.1)

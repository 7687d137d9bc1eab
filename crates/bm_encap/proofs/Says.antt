-- What octets without a fault say, fact by fact.
use Rattle.std.proofs.Common.{◌≡◌, ℕ, ◌+◌, ◌<◌, ◌≤◌, Bool, true, false, not, ◌||◌, List, [], ◌∷◌, length, Option, Some}
use Rattle.std.proofs.Common.{None, refl, arith}
use Rattle.std.specs.Prelude.{◌==◌, nat_lt, if◌then◌else◌, is_none}
use Rattle.std.specs.List.{AllByRecursion}
use Rattle.std.proofs.lemmas.Bool.{eqb-true, le-ltb, ltb-false}
use Rattle.std.proofs.lemmas.Bool.Decides.{nat_tests}
use Rattle.bm_ipv4.specs.Checksum.{checksum_of}
use Rattle.bm_ipv4.specs.Fields.{octet_at, u16_at, u32_at}
use Rattle.bm_base.specs.Addresses.{mux_address, mux_at, server_at}
use Rattle.bm_encap.specs.Faults.{bad_address, bad_count, bad_stamp, differing, fault_when, has_older, has_prev, hop_of}
use Rattle.bm_encap.specs.Faults.{is_older_wrong, is_prev_wrong, older_fault, option_fault, option_octets, outer_fault}
use Rattle.bm_encap.specs.Faults.{outer_octets, past_fault, prev_fault, u64_at, without_sum}
use Rattle.bm_encap.specs.declared.fault.EncapFault.{EncapFault}
use Rattle.bm_encap.specs.declared.fault.EncapFault.TheVariants.{BadOuter, BadOption}
use Rattle.bm_encap.proofs.Faultless.{IsFaultless, first_none, when_none, not_false}

abbrev pub HasOctets : List ℕ → List (ℕ × ℕ) → Type 0
HasOctets octets fixed = AllByRecursion (λ p. octet_at octets p.0 ≡ p.1) fixed

-- what stands at the place of a previous server has no fault
abbrev pub IsPast : List ℕ → ℕ → Bool → Bool → Type 0
IsPast octets at there wrong =
    (bad_address there (u32_at octets at) wrong ≡ false) × (bad_stamp there (u64_at octets (at + 4)) ≡ false)

pub record Says (octets : List ℕ) : Type 0 where
  pub long : 56 ≤ length octets
  pub outer : HasOctets octets outer_octets
  pub mux : (0xac1f_0000 ≤ u32_at octets 12) × (u32_at octets 12 < 0xac1f_0040)
  pub dest : (0xac10_0000 < u32_at octets 16) × (u32_at octets 16 ≤ 0xac10_0400)
  pub sum : checksum_of (without_sum octets) ≡ u16_at octets 10
  pub option : HasOctets octets option_octets
  pub hop : octet_at octets 22 ≤ 2
  pub count : (octet_at octets 23 ≤ 2) × (octet_at octets 22 ≤ octet_at octets 23)
  pub prev : IsPast octets 24 (has_prev octets)
      (is_prev_wrong (hop_of (octet_at octets 22)) (u32_at octets 24) (u32_at octets 16))
  pub older : IsPast octets 36 (has_older octets)
      (is_older_wrong (hop_of (octet_at octets 22)) (u32_at octets 36) (u32_at octets 24) (u32_at octets 16))
  pub same_mux : 0xac1f_0000 + u16_at octets 52 ≡ u32_at octets 12
  pub spare : u16_at octets 54 ≡ 0
  pub total : u16_at octets 2 ≡ length octets

same_octet : (b : Bool) (rest : Option EncapFault) (fault : EncapFault) → (if b then rest else Some fault) ≡ None
    → (b ≡ true) × (rest ≡ None)
same_octet true rest fault is = (refl, is)
same_octet false rest fault is = absurd (cc)

each_same : (octets : List ℕ) (fault : ℕ → EncapFault) (fixed : List (ℕ × ℕ)) → differing octets fault fixed ≡ None
    → HasOctets octets fixed
unfolding differing
each_same octets fault [] is = tt
each_same octets fault (p ∷ fixed) is =
    let s = same_octet (octet_at octets p.0 == p.1) (differing octets fault fixed) (fault p.0) is in
    (eqb-true (octet_at octets p.0) p.1 s.0, each_same octets fault fixed s.1)

none_differs : (octets : List ℕ) (fault : ℕ → EncapFault) (fixed : List (ℕ × ℕ)) → HasOctets octets fixed
    → differing octets fault fixed ≡ None
unfolding differing
none_differs octets fault [] all = refl
none_differs octets fault (p ∷ fixed) all =
    let same : (octet_at octets p.0 == p.1) ≡ true =
    grind (arith, nat_tests, all.0) in rw same (none_differs octets fault fixed all.1)

pub server_range : (addr : ℕ) → is_none (server_at addr) ≡ false → (0xac10_0000 < addr) × (addr ≤ 0xac10_0400)
server_range addr is = grind (arith, nat_tests, is)

mux_range : (addr : ℕ) → is_none (mux_at addr) ≡ false → (0xac1f_0000 ≤ addr) × (addr < 0xac1f_0040)
mux_range addr is = grind (arith, nat_tests, is)

pub server_there : (addr : ℕ) → 0xac10_0000 < addr → addr ≤ 0xac10_0400 → is_none (server_at addr) ≡ false
server_there addr low high = grind (arith, nat_tests, low, high)

pub mux_there : (addr : ℕ) → 0xac1f_0000 ≤ addr → addr < 0xac1f_0040 → is_none (mux_at addr) ≡ false
mux_there addr low high = grind (arith, nat_tests, low, high)

-- the place of a previous server without a fault
past_says : (octets : List ℕ) (at : ℕ) (there wrong : Bool) → past_fault octets at there wrong ≡ None
    → IsPast octets at there wrong
unfolding past_fault
past_says octets at there wrong is =
    let a = first_none (fault_when (bad_address there (u32_at octets at) wrong) (BadOption at)) _ is in
    let b = first_none (fault_when (bad_stamp there (u64_at octets (at + 4))) (BadOption (at + 4))) _ a.1 in
    (when_none _ (BadOption at) a.0, when_none _ (BadOption (at + 4)) b.0)

past_faultless : (octets : List ℕ) (at : ℕ) (there wrong : Bool) → IsPast octets at there wrong
    → past_fault octets at there wrong ≡ None
unfolding past_fault
past_faultless octets at there wrong is = rw (is.0, is.1) refl

count_says : (count hop : ℕ) → (nat_lt 2 count || nat_lt count hop) ≡ false → (count ≤ 2) × (hop ≤ count)
count_says count hop is = grind (arith, nat_tests, is)

count_right : (count hop : ℕ) → count ≤ 2 → hop ≤ count → (nat_lt 2 count || nat_lt count hop) ≡ false
count_right count hop few far = grind (arith, nat_tests, few, far)

-- octets without a fault say all this
pub says : (octets : List ℕ) → IsFaultless octets → Says octets
unfolding outer_fault option_fault
says octets is =
    let a = first_none (differing octets BadOuter outer_octets) _ is.outer in
    let b = first_none (fault_when (is_none (mux_at (u32_at octets 12))) (BadOuter 12)) _ a.1 in
    let c = first_none (fault_when (is_none (server_at (u32_at octets 16))) (BadOuter 16)) _ b.1 in
    let d = first_none (differing octets BadOption option_octets) _ is.option in
    let e = first_none (fault_when (nat_lt 2 (octet_at octets 22)) (BadOption 22)) _ d.1 in
    let f = first_none (fault_when (bad_count octets) (BadOption 23)) _ e.1 in
    let g = first_none (prev_fault octets) _ f.1 in
    let h = first_none (older_fault octets) _ g.1 in
    let i = first_none
    (fault_when (not (mux_address (record { 0 = u16_at octets 52 }) == u32_at octets 12)) (BadOption 52)) _ h.1 in
    let j = first_none (fault_when (not (u16_at octets 54 == 0)) (BadOption 54)) _ i.1 in
    record {
      long = ltb-false (length octets) 56 is.long;
      outer = each_same octets BadOuter outer_octets a.0;
      mux = mux_range (u32_at octets 12) (when_none _ (BadOuter 12) b.0);
      dest = server_range (u32_at octets 16) (when_none _ (BadOuter 16) c.0);
      sum = eqb-true _ _ is.sum;
      option = each_same octets BadOption option_octets d.0;
      hop = ltb-false 2 (octet_at octets 22) (when_none _ (BadOption 22) e.0);
      count = count_says (octet_at octets 23) (octet_at octets 22) (when_none _ (BadOption 23) f.0);
      prev = past_says octets 24 _ _ g.0;
      older = past_says octets 36 _ _ h.0;
      same_mux = eqb-true _ _ (not_false _ (when_none _ (BadOption 52) i.0));
      spare = eqb-true _ _ (not_false _ (when_none _ (BadOption 54) j.0));
      total = eqb-true _ _ is.total;
    }

-- and octets that say this have no fault
pub faultless_from : (octets : List ℕ) → Says octets → IsFaultless octets
unfolding outer_fault option_fault
faultless_from octets is =
    let hop : nat_lt 2 (octet_at octets 22) ≡ false = le-ltb 2 (octet_at octets 22) is.hop in
    let count : bad_count octets ≡ false =
    count_right (octet_at octets 23) (octet_at octets 22) is.count.0 is.count.1 in
    let mux : (mux_address (record { 0 = u16_at octets 52 }) == u32_at octets 12) ≡ true =
    grind (arith, nat_tests, is.same_mux) in
    let spare : (u16_at octets 54 == 0) ≡ true = grind (arith, nat_tests, is.spare) in
    record {
      long = le-ltb (length octets) 56 is.long;
      outer = rw (
        none_differs octets BadOuter outer_octets is.outer,
        mux_there (u32_at octets 12) is.mux.0 is.mux.1,
        server_there (u32_at octets 16) is.dest.0 is.dest.1,
      ) refl;
      sum = grind (arith, nat_tests, is.sum);
      option = rw (
        none_differs octets BadOption option_octets is.option,
        hop,
        count,
        past_faultless octets 24 _ _ is.prev,
        past_faultless octets 36 _ _ is.older,
        mux,
        spare,
      ) refl;
      total = grind (arith, nat_tests, is.total);
    }

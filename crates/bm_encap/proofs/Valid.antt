-- The tag of octets without a fault is valid, and they spell it.
use Rattle.std.proofs.Common.{◌≡◌, ℕ, zero, suc, ◌+◌, ◌-◌, ◌*◌, ◌<◌, ◌≤◌, Bool, true, false, not, ◌||◌, List}
use Rattle.std.proofs.Common.{◌++◌, length, drop, Option, Some, None, Result, Ok, Err, refl, ap, sym, subst, ◌∙◌, arith}
use Rattle.std.specs.Prelude.{◌==◌, nat_lt, if◌then◌else◌, is_none, IfSome, IfOk, IsSomeAnd}
use Rattle.std.proofs.lemmas.Bool.{both_ways}
use Rattle.std.proofs.lemmas.Bool.Decides.{nat_tests}
use Rattle.std.proofs.lemmas.List.{length-drop}
use Rattle.std.proofs.lemmas.Option.{none-some, same_Some}
use Rattle.bm_base.specs.declared.ids.ServerId.{ServerId}
use Rattle.bm_base.specs.declared.label.Tag.{Tag}
use Rattle.bm_ipv4.specs.Checksum.{checksum_of}
use Rattle.bm_ipv4.specs.Fields.{octet_at, u16_at, u32_at}
use Rattle.bm_base.specs.Addresses.{server_at}
use Rattle.bm_base.specs.Labels.{hop_number}
use Rattle.bm_base.specs.declared.label.Hop.{Hop}
use Rattle.bm_base.specs.declared.label.Hop.TheVariants.{Direct, Chained, Twice}
use Rattle.bm_base.specs.declared.label.Past.{Past}
use Rattle.bm_encap.specs.Faults.{bad_address, bad_stamp, has_older, has_prev, hop_of, is_older_wrong, is_prev_wrong}
use Rattle.bm_encap.specs.Faults.{past_at, server_of_address, tag_in, u64_at, unwrapped, without_sum}
use Rattle.bm_encap.specs.Spellings.{fields, header, past_address, past_count, past_stamp, spelling}
use Rattle.bm_base.specs.Tags.{GoesRight, IsServer, IsTag}
use Rattle.bm_encap.specs.declared.fault.EncapFault.{EncapFault}
use Rattle.bm_encap.proofs.Faultless.{read_is}
use Rattle.bm_encap.proofs.NumberLemmas.{AreOctets, all_stand, pair_at, stands1, stands2, stands4, stands8}
use Rattle.bm_encap.proofs.Says.{Says, says, server_range}

-- THE PREVIOUS SERVERS

or_false : (a b : Bool) → (a || b) ≡ false → (a ≡ false) × (b ≡ false)
or_false true b is = absurd (cc)
or_false false b is = (refl, is)

abbrev pub Within : ℕ → Type 0
Within addr = (0xac10_0000 < addr) × (addr ≤ 0xac10_0400)

-- the server of an address and a stamp, where there is one
abbrev pub Found : Bool → ℕ → ℕ → Option Past
Found there addr stamp =
    if there then Some (record { server = server_of_address addr; stamp = record { 0 = stamp } }) else None

-- what follows of an address and a stamp without a fault
pub record IsFound (there wrong : Bool) (addr stamp : ℕ) : Type 0 where
  pub server : IfSome (Found there addr stamp) (λ p. IsServer p.server)
  pub right : there ≡ true → (wrong ≡ false) × Within addr
  pub address_is : past_address (Found there addr stamp) ≡ addr
  pub stamp_is : past_stamp (Found there addr stamp) ≡ stamp

pub found : (there wrong : Bool) (addr stamp : ℕ) → bad_address there addr wrong ≡ false → bad_stamp there stamp ≡ false
    → IsFound there wrong addr stamp
found true wrong addr stamp bad no_stamp =
    let both = or_false (is_none (server_at addr)) wrong bad in
    let a = server_range addr both.0 in
    record {
      server = (omega (arith, a.0, a.1), omega (arith, a.0, a.1));
      right = λ _. (both.1, a);
      address_is = omega (arith, a.0, a.1);
      stamp_is = refl;
    }
found false wrong addr stamp bad no_stamp =
    let zero_address : addr ≡ 0 = grind (arith, nat_tests, bad) in
    let zero_stamp : stamp ≡ 0 = grind (arith, nat_tests, no_stamp) in
    record {
      server = tt;
      right = λ e. absurd (both_ways false refl e);
      address_is = sym zero_address;
      stamp_is = sym zero_stamp;
    }

-- which servers are there, by their number
pub record IsCount (hop : Hop) (count : ℕ) (prev older : Bool) : Type 0 where
  pub chained : hop ≡ Chained → prev ≡ true
  pub twice : hop ≡ Twice → older ≡ true
  pub both : older ≡ true → prev ≡ true
  pub count_is : (p o : Past) → past_count (if prev then Some p else None) (if older then Some o else None) ≡ count

pub counted : (hop : Hop) (count : ℕ) → hop_number hop ≤ count → count ≤ 2
    → IsCount hop count (nat_lt 0 count) (nat_lt 1 count)
counted hop zero far few = record {
  chained = λ e. let n : hop_number hop ≡ 1 = ap hop_number e in absurd (omega arith);
  twice = λ e. let n : hop_number hop ≡ 2 = ap hop_number e in absurd (omega arith);
  both = λ e. e;
  count_is = λ p o. refl;
}
counted hop (suc zero) far few = record {
  chained = λ e. refl;
  twice = λ e. let n : hop_number hop ≡ 2 = ap hop_number e in absurd (omega arith);
  both = λ e. refl;
  count_is = λ p o. refl;
}
counted hop (suc (suc zero)) far few = record {
  chained = λ e. refl;
  twice = λ e. refl;
  both = λ e. refl;
  count_is = λ p o. refl;
}
counted hop (suc (suc (suc n))) far few = absurd (omega arith)

same_address : (addr dest : ℕ) → Within addr → Within dest → server_of_address addr ≡ server_of_address dest
    → addr ≡ dest
same_address addr dest a d is =
    let e : addr - 0xac10_0000 ≡ dest - 0xac10_0000 = ap (λ (s : ServerId). s.0) is in omega (arith, a.0, a.1, d.0, d.1)

apart : (addr dest : ℕ) → Within addr → Within dest → (addr == dest) ≡ false
    → server_of_address addr ≡ server_of_address dest → ⊥
apart addr dest a d differ is =
    let same : addr ≡ dest = same_address addr dest a d is in
    grind (arith, nat_tests, differ, same)

equal : (addr dest : ℕ) → not (addr == dest) ≡ false → addr ≡ dest
equal addr dest is = grind (arith, nat_tests, is)

-- the destination is right
pub goes_right : (hop : Hop) (count : ℕ) (prev older : Bool) (a s b t dest : ℕ) → IsCount hop count prev older
    → IsFound prev (is_prev_wrong hop a dest) a s → IsFound older (is_older_wrong hop b a dest) b t → Within dest
    → GoesRight hop (server_of_address dest) (Found prev a s) (Found older b t)
goes_right Direct count false older a s b t dest is p o d = λ e. none-some (server_of_address dest) e
goes_right Direct count true older a s b t dest is p o d =
    let there = p.right refl in
    λ e. apart a dest there.1 d there.0 (same_Some _ _ e)
goes_right Chained count prev older a s b t dest is p o d =
    let there : prev ≡ true = is.chained refl in
    let same : a ≡ dest = equal a dest (p.right there).0 in
    rw (there, same) refl
goes_right Twice count prev older a s b t dest is p o d =
    let there : older ≡ true = is.twice refl in
    let both = or_false (b == a) (not (b == dest)) (o.right there).0 in
    let same : b ≡ dest = equal b dest both.1 in
    rw (there, same) refl

older_apart : (hop : Hop) (b a dest : ℕ) → is_older_wrong hop b a dest ≡ false → (b == a) ≡ false
older_apart Direct b a dest is = is
older_apart Chained b a dest is = is
older_apart Twice b a dest is = (or_false (b == a) (not (b == dest)) is).0

-- the older server comes with a previous one, and is another
pub older_right : (hop : Hop) (count : ℕ) (prev older : Bool) (a s b t dest : ℕ) → IsCount hop count prev older
    → IsFound prev (is_prev_wrong hop a dest) a s → IsFound older (is_older_wrong hop b a dest) b t
    → IfSome (Found older b t)
    (λ o. IsServer o.server × IsSomeAnd (Found prev a s) (λ p. o.server ≡ p.server → ⊥))
older_right hop count prev false a s b t dest is p o = tt
older_right hop count false true a s b t dest is p o = absurd (both_ways false refl (is.both refl))
older_right hop count true true a s b t dest is p o =
    (o.server, apart b a (o.right refl).1 (p.right refl).1 (older_apart hop b a dest (o.right refl).0))

-- THE TAG IS VALID

hop_is : (octet : ℕ) → octet ≤ 2 → hop_number (hop_of octet) ≡ octet
hop_is zero few = refl
hop_is (suc zero) few = refl
hop_is (suc (suc zero)) few = refl
hop_is (suc (suc (suc n))) few = absurd (omega arith)

pub record IsPassed (octets : List ℕ) : Type 0 where
  pub hop_is : hop_number (hop_of (octet_at octets 22)) ≡ octet_at octets 22
  pub count : IsCount (hop_of (octet_at octets 22)) (octet_at octets 23) (has_prev octets) (has_older octets)
  pub prev : IsFound (has_prev octets)
      (is_prev_wrong (hop_of (octet_at octets 22)) (u32_at octets 24) (u32_at octets 16)) (u32_at octets 24)
      (u64_at octets 28)
  pub older : IsFound (has_older octets)
      (is_older_wrong (hop_of (octet_at octets 22)) (u32_at octets 36) (u32_at octets 24) (u32_at octets 16))
      (u32_at octets 36) (u64_at octets 40)

pub passed : (octets : List ℕ) → Says octets → IsPassed octets
passed octets is =
    let number = hop_is (octet_at octets 22) is.hop in
    record {
      hop_is = number;
      count = counted (hop_of (octet_at octets 22)) (octet_at octets 23) (omega (arith, number, is.count.1)) is.count.0;
      prev = found _ _ (u32_at octets 24) (u64_at octets 28) is.prev.0 is.prev.1;
      older = found _ _ (u32_at octets 36) (u64_at octets 40) is.older.0 is.older.1;
    }

pub valid : (octets : List ℕ) → Says octets → IsTag (tag_in octets)
valid octets is =
    let p = passed octets is in
    record {
      dest = (omega (arith, is.dest.0, is.dest.1), omega (arith, is.dest.0, is.dest.1));
      prev = p.prev.server;
      older = older_right _ _ _ _ _ _ _ _ (u32_at octets 16) p.count p.prev p.older;
      mux = omega (arith, is.mux.0, is.mux.1, is.same_mux);
      hop = goes_right _ _ _ _ _ _ _ _ (u32_at octets 16) p.count p.prev p.older is.dest;
    }

-- AND THE OCTETS SPELL IT

pair : (octets : List ℕ) (at a b : ℕ) → octet_at octets at ≡ a → octet_at octets (at + 1) ≡ b
    → u16_at octets at ≡ a * 256 + b
pair octets at a b first second = omega (arith, pair_at octets at)

pub spells : (octets : List ℕ) → AreOctets octets → Says octets
    → octets ≡ header (tag_in octets) (length octets) (u16_at octets 10) ++ drop 56 octets
unfolding header
spells octets are is =
    let p = passed octets is in
    let long : (n : ℕ) → n ≤ 56 → n ≤ length octets = λ n below. omega (arith, is.long, below) in
    let outer = is.outer in
    all_stand octets 0 (fields (tag_in octets) (length octets) (u16_at octets 10)) (
      stands2 octets 0 0x4e00 (long 2 (omega arith)) are (pair octets 0 0x4e 0x00 outer.0 outer.1.0),
      (
        stands2 octets 2 (length octets) (long 4 (omega arith)) are is.total,
        (
          stands2 octets 4 0 (long 6 (omega arith)) are (pair octets 4 0 0 outer.1.1.0 outer.1.1.1.0),
          (
            stands2 octets 6 0x4000 (long 8 (omega arith)) are (pair octets 6 0x40 0 outer.1.1.1.1.0 outer.1.1.1.1.1.0),
            (
              stands2 octets 8 0x4004 (long 10 (omega arith)) are
                  (pair octets 8 0x40 0x04 outer.1.1.1.1.1.1.0 outer.1.1.1.1.1.1.1.0),
              (
                stands2 octets 10 (u16_at octets 10) (long 12 (omega arith)) are refl,
                (
                  stands4 octets 12 (0xac1f_0000 + u16_at octets 52) (long 16 (omega arith)) are (sym is.same_mux),
                  (
                    stands4 octets 16 (0xac10_0000 + (u32_at octets 16 - 0xac10_0000)) (long 20 (omega arith)) are
                        (omega (arith, is.dest.0)),
                    (
                      stands2 octets 20 0x9e24 (long 22 (omega arith)) are
                          (pair octets 20 0x9e 0x24 is.option.0 is.option.1.0),
                      (
                        stands1 octets 22 (hop_number (hop_of (octet_at octets 22))) (long 23 (omega arith)) are
                            (sym p.hop_is),
                        (
                          stands1 octets 23 (past_count (past_at octets 24 (has_prev octets)) (past_at octets 36 (has_older octets)))
                              (long 24 (omega arith)) are (sym (p.count.count_is _ _)),
                          (
                            stands4 octets 24 (past_address (past_at octets 24 (has_prev octets))) (long 28 (omega arith)) are
                                (sym p.prev.address_is),
                            (
                              stands8 octets 28 (past_stamp (past_at octets 24 (has_prev octets))) (long 36 (omega arith)) are
                                  (sym p.prev.stamp_is),
                              (
                                stands4 octets 36 (past_address (past_at octets 36 (has_older octets))) (long 40 (omega arith)) are
                                    (sym p.older.address_is),
                                (
                                  stands8 octets 40 (past_stamp (past_at octets 36 (has_older octets))) (long 48 (omega arith)) are
                                      (sym p.older.stamp_is),
                                  (
                                    stands4 octets 48 (u32_at octets 48) (long 52 (omega arith)) are refl,
                                    (
                                      stands2 octets 52 (u16_at octets 52) (long 54 (omega arith)) are refl,
                                      (
                                        stands2 octets 54 0 (long 56 (omega arith)) are is.spare,
                                        tt,
                                      ),
                                    ),
                                  ),
                                ),
                              ),
                            ),
                          ),
                        ),
                      ),
                    ),
                  ),
                ),
              ),
            ),
          ),
        ),
      ),
    )

-- the header with zero for its checksum
pub blank : (tag : Tag) (total sum : ℕ) (inner : List ℕ)
    → without_sum (header tag total sum ++ inner) ≡ header tag total 0
unfolding header
blank tag total sum inner = refl

pub spells_by : (octets : List ℕ) → AreOctets octets → Says octets → octets ≡ spelling (tag_in octets) (drop 56 octets)
spells_by octets are is =
    let n : ℕ = length octets in
    let total : 56 + length (drop 56 octets) ≡ n = omega (arith, length-drop 56 octets, is.long) in
    let spelled_out : octets ≡ header (tag_in octets) n (u16_at octets 10) ++ drop 56 octets = spells octets are is in
    let sum : u16_at octets 10 ≡ checksum_of (header (tag_in octets) n 0) =
    sym is.sum
    ∙ ap checksum_of (ap without_sum spelled_out ∙ blank (tag_in octets) n (u16_at octets 10) (drop 56 octets)) in
    let P : ℕ → Type 0 =
    λ m. octets ≡ header (tag_in octets) m (checksum_of (header (tag_in octets) m 0)) ++ drop 56 octets in
    subst P (sym total) (spelled_out ∙ ap (λ s. header (tag_in octets) n s ++ drop 56 octets) sum)

-- what was read is valid, and the octets spell it
pub read_spells : (octets : List ℕ) → AreOctets octets → (read : Tag × List ℕ) → unwrapped octets ≡ Ok read
    → IsTag read.0 × (octets ≡ spelling read.0 read.1)
read_spells octets are read is =
    let r = read_is octets read is in
    let s = says octets r.0 in
    subst (λ (x : Tag × List ℕ). IsTag x.0 × (octets ≡ spelling x.0 x.1)) (sym r.1)
    (valid octets s, spells_by octets are s)

by_ok : (r : Result (Tag × List ℕ) EncapFault) (P : Tag × List ℕ → Type 0) → ((x : Tag × List ℕ) → r ≡ Ok x → P x)
    → IfOk r P
by_ok (Ok x) P f = f x refl
by_ok (Err fault) P f = tt

pub only_spellings : (octets : List ℕ) → AreOctets octets
    → IfOk (unwrapped octets) (λ read. IsTag read.0 × (octets ≡ spelling read.0 read.1))
only_spellings octets are =
    by_ok (unwrapped octets) (λ read. IsTag read.0 × (octets ≡ spelling read.0 read.1)) (read_spells octets are)

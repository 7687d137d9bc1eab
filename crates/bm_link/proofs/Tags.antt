-- A frame that is cut short inside a tag.
use Rattle.std.proofs.Common.{◌≡◌, ◌<◌, ◌≤◌, ℕ, zero, suc, true, false, List, length, drop, Err, arith, length-drop}
use Rattle.std.proofs.lemmas.Bool.Decides.{nat_tests}
use Rattle.std.specs.Prelude.{nat_lt}
use Rattle.bm_ipv4.specs.Fields.{u16_at}
use Rattle.bm_link.specs.declared.fault.LinkFault.TheVariants.{Short}
use Rattle.bm_link.specs.Links.{after_tags, is_tag}

no_type : (tags : ℕ) (octets : List ℕ) → length octets < 2 → after_tags tags octets ≡ Err Short
unfolding after_tags
no_type zero octets few = let t : nat_lt (length octets) 2 ≡ true = grind (arith, nat_tests, few) in rw t
no_type (suc tags) octets few = let t : nat_lt (length octets) 2 ≡ true = grind (arith, nat_tests, few) in rw t

pub cut_in_a_tag : (tags : ℕ) (octets : List ℕ) → 0 < tags → 2 ≤ length octets → is_tag (u16_at octets 0) ≡ true
    → length octets < 4 → after_tags tags octets ≡ Err Short
unfolding after_tags
cut_in_a_tag zero octets some there tag few = absurd (omega arith)
cut_in_a_tag (suc tags) octets some there tag few =
    let t : nat_lt (length octets) 2 ≡ false = grind (arith, nat_tests, there) in
    let none : length (drop 4 octets) < 2 = omega (arith, length-drop 4 octets) in
    rw (t, tag) (no_type tags (drop 4 octets) none)

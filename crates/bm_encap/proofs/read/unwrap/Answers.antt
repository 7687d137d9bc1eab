use Rattle.std.proofs.Common.{◌≡◌, ℕ, List, length, ap₂, sym, ◌∙◌, subst, arith, Ok}
use Rattle.std.specs.Prelude.{nat_lt, ◌==◌, true, false}
use Rattle.std.proofs.lemmas.List.{take_rest}
use Rattle.std.proofs.lemmas.Bool.Decides.{nat_tests}
use Rattle.bm_base.specs.declared.label.Tag.{Tag}
use Rattle.bm_ipv4.specs.Checksum.{checksum_of}
use Rattle.bm_ipv4.specs.Fields.{u16_at}
use Rattle.bm_encap.specs.Faults.{without_sum}
use Rattle.bm_base.specs.Tags.{IsTag}
use Rattle.bm_encap.proofs.Faultless.{IsFaultless, reads}
use Rattle.bm_encap.proofs.Says.{says}
use Rattle.bm_encap.proofs.Valid.{valid}
use Rattle.bm_encap.proofs.read.unwrap.Goals as goal

is_faultless : (c : goal.After-result-1) → IsFaultless c.args.octets.now
is_faultless c =
    let octets = c.args.octets.now in
    let long : nat_lt (length octets) 56 ≡ false = grind (arith, nat_tests, c.if-octets-lt-HEADER.false) in
    let sum : (checksum_of (without_sum octets) == u16_at octets 10) ≡ true =
    grind (arith, nat_tests, c.if-sum_of-read_u16.false, c.sum_of.ensures, c.read_u16.ensures) in
    let total : (u16_at octets 2 == length octets) ≡ true =
    grind (arith, nat_tests, c.if-from-octets.false, c.from.ensures, c.read_u16-2.ensures) in
    record { long = long; outer = c.in_ok-dest.ensures.0; sum = sum; option = c.in_ok-tag.ensures.0; total = total }

pub returns-clause-read : goal.returns-clause-read
returns-clause-read c =
    reads c.args.octets.now (is_faultless c)
    ∙ ap₂ (λ (t : Tag) (i : List ℕ). Ok (t, i)) (sym c.in_ok-tag.ensures.1) (sym (take_rest c.args.octets.now 56))

pub returns-clause-tag : goal.returns-clause-tag
returns-clause-tag c =
    subst IsTag (sym c.in_ok-tag.ensures.1) (valid c.args.octets.now (says c.args.octets.now (is_faultless c)))

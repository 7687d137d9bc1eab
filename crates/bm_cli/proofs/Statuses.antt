-- Statuses and their codes, and what is written with them.
use Rattle.std.proofs.Common.{arith, ◌≡◌, ◌≢◌, ◌⊎◌, inl, inr, ℕ, List, [], Option, Some, None, sym, ap, ◌∙◌, refl}
use Rattle.std.proofs.lemmas.List.{append-nil}
use Rattle.std.specs.Prelude.{◌==◌, ◌≤◌, if◌then◌else◌}
use Rattle.std.specs.Io.KnownBytes.{Appends}
use Rattle.bm_cli.specs.declared.status.Status.{Status}
use Rattle.bm_cli.specs.declared.status.Status.TheVariants.{Done, Usage, ReadFault, BadCapture}
use Rattle.bm_cli.specs.declared.status.Status.TheVariants.{BadScript, WriteFault, Memory, Limit, Denied}
use Rattle.bm_cli.specs.declared.status.Status.TheVariants.{Exceeded}
use Rattle.bm_cli.specs.Statuses.{Writes, code_of, SinkDid}

-- nothing written leaves a sink as it was
pub appends_nothing : (written : Option (List ℕ)) → Appends written written []
appends_nothing None = tt
appends_nothing (Some octets) = sym (append-nil octets)

-- the status of a code
status_with : ℕ → Status
status_with n =
    if n == 0 then Done
    else if n == 1 then Usage
    else if n == 2 then ReadFault
    else if n == 3 then BadCapture
    else if n == 4 then BadScript
    else if n == 5 then WriteFault
    else if n == 6 then Memory
    else if n == 7 then Limit
    else if n == 8 then Denied
    else Exceeded

code_back : (s : Status) → status_with (code_of s) ≡ s
unfolding status_with
code_back Done = refl
code_back Usage = refl
code_back ReadFault = refl
code_back BadCapture = refl
code_back BadScript = refl
code_back WriteFault = refl
code_back Memory = refl
code_back Limit = refl
code_back Denied = refl
code_back Exceeded = refl

-- no two statuses have one code
pub same_code : (s t : Status) → code_of s ≡ code_of t → s ≡ t
same_code s t e = sym (code_back s) ∙ ap status_with e ∙ code_back t

-- all but one are at most 8
pub code_below : (s : Status) → s ≢ Exceeded → code_of s ≤ 8
code_below Done other = omega arith
code_below Usage other = omega arith
code_below ReadFault other = omega arith
code_below BadCapture other = omega arith
code_below BadScript other = omega arith
code_below WriteFault other = omega arith
code_below Memory other = omega arith
code_below Limit other = omega arith
code_below Denied other = omega arith
code_below Exceeded other = absurd (other refl)

pub code_within : (s : Status) → code_of s ≤ 9
code_within Done = omega arith
code_within Usage = omega arith
code_within ReadFault = omega arith
code_within BadCapture = omega arith
code_within BadScript = omega arith
code_within WriteFault = omega arith
code_within Memory = omega arith
code_within Limit = omega arith
code_within Denied = omega arith
code_within Exceeded = omega arith

-- what was answered, where neither the sink failed nor memory was refused
pub says_is : (says : Status) (text : List ℕ) (sink : SinkDid) (s t : Status) →
    Writes says text sink s → t ≢ WriteFault → t ≢ Memory → s ≡ t → s ≡ says
says_is says text sink s t writes write memory is = by writes.ends where
  by : (s ≡ says) ⊎ (s ≡ WriteFault) ⊎ (s ≡ Memory) → s ≡ says
  by (inl e) = e
  by (inr (inl e)) = absurd (write (sym is ∙ e))
  by (inr (inr e)) = absurd (memory (sym is ∙ e))

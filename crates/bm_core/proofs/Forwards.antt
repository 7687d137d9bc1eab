-- Where a copy that is forwarded goes.
use Rattle.std.proofs.Common.{◌≡◌, ℕ, true, Option, Some, None, is_some, ap, arith}
use Rattle.bm_base.specs.declared.ids.ServerId.{ServerId}
use Rattle.bm_base.specs.declared.flow.Segment.{Segment}
use Rattle.bm_base.specs.declared.label.Hop.{Hop}
use Rattle.bm_base.specs.declared.label.Past.{Past}
use Rattle.bm_base.proofs.Entries.{IsPassed, is_passed}
use Rattle.bm_base.specs.Labels.{onward, server_of}
use Rattle.bm_base.specs.declared.label.Entry.{Entry}
use Rattle.bm_core.specs.declared.events.Verdict.TheVariants.{Forward}
use Rattle.bm_core.specs.declared.events.Local.{Local}
use Rattle.bm_core.specs.Past.{is_forward}
use Rattle.bm_core.specs.Verdicts.{verdict_of}

-- what is forwarded has somewhere to go on to
pub forward_onward : (local : Local) (timeout clock : ℕ) (hop : Hop) (onto : Option Past) (s : Segment)
    → is_forward (verdict_of local timeout clock hop onto s) ≡ true → is_some onto ≡ true
forward_onward local timeout clock hop onto s e = grind arith

-- and goes there
pub forward_server : (local : Local) (timeout clock : ℕ) (hop : Hop) (o : Past) (s : Segment) (to : ServerId)
    → verdict_of local timeout clock hop (Some o) s ≡ Forward to → o.server ≡ to
forward_server local timeout clock hop o s to is = grind arith

passed : (local : Local) (timeout clock : ℕ) (hop : Hop) (onto : Option Past) (s : Segment) (to : ServerId)
    → verdict_of local timeout clock hop onto s ≡ Forward to → server_of onto ≡ Some to
passed local timeout clock hop None s to is =
    let there = forward_onward local timeout clock hop None s (ap is_forward is) in absurd (cc)
passed local timeout clock hop (Some p) s to is =
    ap (λ (x : ServerId). Some x) (forward_server local timeout clock hop p s to is)

-- a copy that is forwarded goes where its entry has it go on to
pub forwarded : (local : Local) (timeout clock : ℕ) (e : Entry) (hop : Hop) (s : Segment) (to : ServerId)
    → verdict_of local timeout clock hop (onward e hop) s ≡ Forward to → IsPassed e hop to
forwarded local timeout clock e hop s to is = is_passed e hop to (passed local timeout clock hop (onward e hop) s to is)

-- Reading words back: where a word ends, and which of the report's words it is.
use Rattle.std.specs.Prelude.{ℕ, Bool, true, ◌&&◌, ◌||◌, not, ◌==◌, if◌then◌else◌, List, [], ◌∷◌}
use Rattle.std.specs.Prelude.{Option, Some, None, codes, nat_eq}
use Rattle.std.specs.Cmp.Lexicographic.{pointwise}
use Rattle.bm_base.specs.declared.label.Hop.{Hop}
use Rattle.bm_base.specs.declared.label.Hop.TheVariants.{Direct, Chained, Twice}
use Rattle.bm_base.specs.declared.receive.Taken.{Taken}
use Rattle.bm_base.specs.declared.receive.Taken.TheVariants.{Advance, Duplicate, Ahead, Outside}
use Rattle.bm_base.specs.declared.receive.Taken.TheVariants.{Challenge, Ended}
use Rattle.bm_core.specs.declared.events.Cause.{Cause}
use Rattle.bm_core.specs.declared.events.Cause.TheVariants.{NeverAccepted, NotHeld, StaleMux}
use Rattle.bm_core.specs.declared.events.Cause.TheVariants.{MovedThrice, ChainLate, SynElsewhere}
use Rattle.bm_core.specs.declared.events.Cause.TheVariants.{Full as FullShard, OldTable}
use Rattle.bm_core.specs.declared.events.Why.{Why}
use Rattle.bm_core.specs.declared.events.Why.TheVariants.{NoPrevious, ChainExpired, ChainedUnknown}
use Rattle.bm_core.specs.declared.events.Why.TheVariants.{Silent, Full, Retired}

-- no octet of these stops a word
abbrev pub runs_on : (ℕ → Bool) → List ℕ → Bool
runs_on stops [] = true
runs_on stops (c ∷ w) = not (stops c) && runs_on stops w

-- a space or a line feed
abbrev pub ends_word : ℕ → Bool
ends_word c = (c == 32) || (c == 10)

-- neither a space nor a line feed
abbrev pub is_word : List ℕ → Bool
is_word w = runs_on ends_word w

abbrev pub same_text : List ℕ → List ℕ → Bool
same_text w v = pointwise nat_eq w v

abbrev pub hop_in : List ℕ → Option Hop
hop_in w =
    if same_text w (codes "direct") then Some Direct
    else if same_text w (codes "chained") then Some Chained
    else if same_text w (codes "twice") then Some Twice
    else None

abbrev pub taken_in : List ℕ → Option Taken
taken_in w =
    if same_text w (codes "advance") then Some Advance
    else if same_text w (codes "duplicate") then Some Duplicate
    else if same_text w (codes "ahead") then Some Ahead
    else if same_text w (codes "outside") then Some Outside
    else if same_text w (codes "challenge") then Some Challenge
    else if same_text w (codes "ended") then Some Ended
    else None

abbrev pub why_in : List ℕ → Option Why
why_in w =
    if same_text w (codes "no-previous") then Some NoPrevious
    else if same_text w (codes "chain-expired") then Some ChainExpired
    else if same_text w (codes "chained-unknown") then Some ChainedUnknown
    else if same_text w (codes "silent") then Some Silent
    else if same_text w (codes "full") then Some Full
    else if same_text w (codes "retired") then Some Retired
    else None

abbrev pub cause_in : List ℕ → Option Cause
cause_in w =
    if same_text w (codes "never-accepted") then Some NeverAccepted
    else if same_text w (codes "not-held") then Some NotHeld
    else if same_text w (codes "stale-mux") then Some StaleMux
    else if same_text w (codes "moved-thrice") then Some MovedThrice
    else if same_text w (codes "chain-late") then Some ChainLate
    else if same_text w (codes "syn-elsewhere") then Some SynElsewhere
    else if same_text w (codes "full") then Some FullShard
    else if same_text w (codes "old-table") then Some OldTable
    else None

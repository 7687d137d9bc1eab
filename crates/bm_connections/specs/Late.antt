-- Which packets came too late, and under which timeout none of them would have, computed by looking
-- back through events (docs/DEFINITIONS.md). A past has its newest event first.
use Rattle.std.specs.Prelude.{ℕ, suc, max, ◌/◌, ◌%◌, ◌^◌, ◌==◌, Bool, false, ◌&&◌, ◌||◌}
use Rattle.std.specs.Prelude.{if◌then◌else◌, List, [], ◌∷◌, Option, Some, None, is_none, option_map}
use Rattle.std.specs.Prelude.{reverse}
use Rattle.bm_base.specs.declared.label.Hop.{Hop}
use Rattle.bm_base.specs.declared.label.Label.{Label}
use Rattle.bm_core.specs.declared.events.Cause.{Cause}
use Rattle.bm_core.specs.declared.events.Cause.TheVariants.{ChainLate, MovedThrice}
use Rattle.bm_core.specs.declared.events.Event.{Event}
use Rattle.bm_core.specs.declared.events.History.{History}
use Rattle.bm_core.specs.declared.events.Stage.{Stage}
use Rattle.bm_core.specs.declared.events.What.{What}
use Rattle.bm_core.specs.declared.events.What.TheVariants.{Arrive}
use Rattle.bm_core.specs.Causes.{is_late, is_refusal}
use Rattle.bm_core.specs.Past.{label_of, timeout}
use Rattle.bm_trace.specs.Totals.{arrives}
use Rattle.bm_connections.specs.declared.late.LongestLate.{LongestLate}
use Rattle.bm_connections.specs.declared.needs.NeedOf.{NeedOf}
use Rattle.bm_connections.specs.Connections.{counted_cause}
use Rattle.bm_connections.specs.Counts.{is_cause}
use Rattle.bm_connections.specs.Thrice.{thrice_need}
use Rattle.bm_connections.specs.Waits.{wait_of}

-- THE TIMEOUT

-- the stage with a timeout of t nanoseconds
abbrev pub with_timeout : ℕ → Stage → Stage
with_timeout t stage =
    record stage {
      script = record stage.script { setting = record stage.script.setting { timeout = t } };
    }

-- there is a label, by which a copy of this hop comes too late under this timeout
abbrev pub has_late_label : ℕ → Stage → Option Label → Hop → ℕ → Bool
has_late_label t stage None hop clock = false
has_late_label t stage (Some label) hop clock = is_late (with_timeout t stage) label hop clock

-- under this timeout the packet of an arrival comes too late
abbrev pub comes_late : ℕ → Stage → List Event → ℕ → What → Bool
comes_late t stage past clock (Arrive k hop server verdict) =
    has_late_label t stage (label_of stage past k) hop clock
comes_late t stage past clock _ = false

-- WHICH CAME TOO LATE

-- the cause is chain-late, or it is moved-thrice, and there is no such need of a third change
abbrev pub is_of_timeout : Option Cause → Option NeedOf → Bool
is_of_timeout found third =
    is_cause ChainLate found || is_cause MovedThrice found && is_none third

-- the event is a break that counts, of a packet that is dropped or reset since it came too late. A
-- stray isn't: the server that processes it does so under any timeout. Where the bucket moved three
-- times and has no third change, the label still names the owner's server
abbrev pub came_late : Stage → List Event → Event → Bool
came_late stage past e =
    arrives is_refusal e.what
    && is_of_timeout (counted_cause stage past e) (thrice_need stage past e)
    && comes_late (timeout stage) stage past e.clock.0 e.what

-- one of the packets that came too late would do so under this timeout too, at its clock
abbrev pub is_one_late : ℕ → Stage → List Event → Bool
is_one_late t stage [] = false
is_one_late t stage (e ∷ past) =
    came_late stage past e && comes_late t stage past e.clock.0 e.what || is_one_late t stage past

-- THE LONGEST WAIT

-- the longer one, if there are two
abbrev pub longer : Option ℕ → ℕ → ℕ
longer None wait = wait
longer (Some longest) wait = max longest wait

-- the longest wait of the packets that came too late
abbrev pub longest_wait : Stage → List Event → Option ℕ
longest_wait stage [] = None
longest_wait stage (e ∷ past) =
    if came_late stage past e
    then Some (longer (longest_wait stage past) (wait_of stage past e.clock.0 e.what))
    else longest_wait stage past

-- nanoseconds rounded up to whole seconds
abbrev pub whole_seconds : ℕ → ℕ
whole_seconds n = if n % 10 ^ 9 == 0 then n / 10 ^ 9 else suc (n / 10 ^ 9)

-- a longest wait, if there is one, with its seconds
abbrev pub as_late : Option ℕ → Option LongestLate
as_late wait = option_map (λ w. record { wait = w; timeout_s = whole_seconds w }) wait

-- that of a history's packets that came too late
abbrev pub longest_late : History → Option LongestLate
longest_late h = as_late (longest_wait h.stage (reverse h.events))

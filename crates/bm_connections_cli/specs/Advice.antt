-- What an operator may do about a cause (docs/OPERATING.md).
use Rattle.std.specs.Prelude.{ℕ, zero, suc, ◌-◌, Bool, false, not, nat_lt, if◌then◌else◌, List, []}
use Rattle.std.specs.Prelude.{◌∷◌, codes, ◌++◌, Option, Some, None, length, ◌&&◌}
use Rattle.std.specs.List.{list_all, slice_get}
use Rattle.bm_base.specs.declared.capture.Record.{Record}
use Rattle.bm_base.specs.declared.ids.Moment.{Moment}
use Rattle.bm_core.specs.declared.events.Cause.{Cause}
use Rattle.bm_core.specs.declared.events.Cause.TheVariants.{NeverAccepted, NotHeld, StaleMux}
use Rattle.bm_core.specs.declared.events.Cause.TheVariants.{MovedThrice, ChainLate, SynElsewhere}
use Rattle.bm_core.specs.declared.events.Cause.TheVariants.{Full, OldTable}
use Rattle.bm_core.specs.declared.events.Stage.{Stage}
use Rattle.bm_core.specs.Past.{timeout}
use Rattle.bm_table.specs.declared.plan.Change.{Change}
use Rattle.bm_table.specs.Planned.{Planned}
use Rattle.bm_table.specs.Tables.{next_change}
use Rattle.bm_trace.specs.Words.{cause_word}
use Rattle.bm_connections.specs.declared.connection.Connection.{Connection}

abbrev pub remedy : Cause → List ℕ
remedy NeverAccepted =
    codes "begin the capture earlier, or use tools/open_midstream; or its SYN was dropped"
remedy NotHeld =
    codes "close later; after a retire raise timeout_s, or let every mux switch before; "
    ++ codes "without either, a client sent after its own reset"
remedy StaleMux = codes "let every mux switch before connections open, or route by port"
remedy MovedThrice = codes "wait longer between the changes"
remedy ChainLate = codes "raise timeout_s, or change when fewer long connections are open"
remedy SynElsewhere =
    codes "nothing to change: a client sent another SYN after the bucket had moved"
remedy Full = codes "raise capacity or shards, or add servers"
remedy OldTable = codes "retire later, or let every mux switch before"

-- the line of advice on a cause
abbrev pub advice_line : Cause → List ℕ
advice_line cause = codes "advice " ++ cause_word cause ++ codes ": " ++ remedy cause ++ codes "\n"

-- the line of advice if nothing is steered
abbrev pub nothing_line : List Connection → List ℕ
nothing_line [] =
    codes "advice nothing-steered: name your services in vips; beamer replay tells why each "
    ++ codes "packet is unsteered\n"
nothing_line (c ∷ rest) = []

-- the line of advice if connections are left open after a change
abbrev pub open_line : ℕ → List ℕ
open_line connections =
    if nat_lt 0 connections
    then codes "advice open-at-end: the capture doesn't show whether these connections break; "
    ++ codes "capture longer, or take a timeout_s for connections of any life (--lifetime)\n"
    else []

-- all records come before the moment
abbrev pub ends_before : List Record → Moment → Bool
ends_before records moment = list_all (λ (r : Record). nat_lt r.moment.0 moment.0) records

-- all records come less than this many nanoseconds after the moment
abbrev pub ends_within : List Record → ℕ → Moment → Bool
ends_within records timeout moment =
    list_all (λ (r : Record). nat_lt (r.moment.0 - moment.0) timeout) records

abbrev pub last_change : List Change → Option Change
last_change changes = slice_get changes (length changes - 1)

-- there is a change, and it moves buckets
abbrev pub moves_some : Option Change → Bool
moves_some None = false
moves_some (Some c) = nat_lt 0 (length c.moves)

-- the last of the plan's first n changes that moves buckets
abbrev pub last_moving : Planned → ℕ → Option Change
last_moving plan zero = None
last_moving plan (suc v) =
    if moves_some (next_change plan v) then next_change plan v else last_moving plan v

-- the line of advice if all records come before this change
abbrev pub early_end : List Record → Option Change → List ℕ
early_end records None = []
early_end records (Some c) =
    if ends_before records c.moment
    then codes "advice change-after-the-end: the capture ends before the last change; "
    ++ codes "lower its at_ns, or capture longer\n"
    else []

-- the line of advice if some records don't come before this change, but all before the timeout
-- after it has passed
abbrev pub timeout_end : List Record → ℕ → Option Change → List ℕ
timeout_end records timeout None = []
timeout_end records timeout (Some c) =
    if not (ends_before records c.moment) && ends_within records timeout c.moment
    then codes "advice timeout-after-the-end: the capture ends before timeout_s has passed since "
    ++ codes "buckets last moved; capture longer, to see what comes too late\n"
    else []

-- the first for the stage's last change, and the second for its last that moves buckets
abbrev pub end_lines : Stage → List ℕ
end_lines stage =
    early_end stage.capture.records (last_change stage.script.plan.changes)
    ++ timeout_end stage.capture.records (timeout stage)
    (last_moving stage.script.plan (length stage.script.plan.changes))

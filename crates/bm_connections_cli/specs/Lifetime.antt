-- What is written of a script's lifetime (docs/FORMATS.md).
use Rattle.std.specs.Prelude.{ℕ, ◌+◌, ◌-◌, ◌*◌, ◌^◌, ◌/◌, nat_le, nat_lt, Bool, true, false, ◌&&◌, ◌||◌}
use Rattle.std.specs.Prelude.{if◌then◌else◌, List, [], ◌∷◌, ◌++◌, Option, Some, None, is_some}
use Rattle.std.specs.Prelude.{codes, decimal, ◌≡◌}
use Rattle.std.specs.Int.{div_ceil}
use Rattle.bm_table.specs.declared.script.Script.{Script}
use Rattle.bm_lifetime.specs.declared.explained.Lifetime.{Lifetime}
use Rattle.bm_lifetime.specs.declared.explained.NearMoves.{NearMoves}
use Rattle.bm_lifetime.specs.Lifetime.{explained}
use Rattle.bm_trace.specs.Words.{line}
use Rattle.bm_connections.specs.Times.{seconds_text}
use Rattle.bm_cli.specs.Dues.{Answer, Shown, Warned}

-- a lifetime in seconds; without a bound, a connection may live on
abbrev pub life_text : Option ℕ → List ℕ
life_text None = codes "unbounded"
life_text (Some time) = seconds_text time

abbrev pub lifetime_line : Option ℕ → List ℕ
lifetime_line time = line (codes "lifetime") (life_text time ∷ [])

-- WHAT BOUNDS IT

-- where neither the timeout nor moves do: muxes with unequal lags get packets in turn
abbrev pub route_bound_line : Lifetime → List ℕ
route_bound_line life =
    if life.by_timeout || is_some life.by_moves then []
    else line (codes "bound") (codes "route" ∷ codes "turn" ∷ [])

-- where the script's timeout does
abbrev pub timeout_bound_line : ℕ → Lifetime → List ℕ
timeout_bound_line timeout life =
    if life.by_timeout
    then line (codes "bound") (codes "timeout_s" ∷ decimal (timeout / 10 ^ 9) ∷ [])
    else []

-- where three moves do
abbrev pub moves_bound_line : Option NearMoves → List ℕ
moves_bound_line None = []
moves_bound_line (Some near) =
    line (codes "bound")
    (codes "changes" ∷ decimal near.first ∷ decimal near.third
    ∷ codes "buckets" ∷ decimal near.buckets ∷ codes "first" ∷ decimal near.lowest ∷ [])

-- WHAT RAISES IT TO THE NEXT GREATER BOUND

-- where the timeout bounds it: the least timeout, in seconds, that exceeds the next bound by the
-- slack, if a script may have it
abbrev pub raised_timeout : Lifetime → ℕ → Option ℕ
raised_timeout life next =
    let seconds = div_ceil (next + life.slack) (10 ^ 9) in
    if life.by_timeout && nat_le seconds 86400 then Some seconds else None

-- the timeout is raised to this one, if there is one
abbrev pub timeout_raise_line : Option ℕ → ℕ → List ℕ
timeout_raise_line None next = []
timeout_raise_line (Some timeout_s) next =
    line (codes "raise")
    (codes "timeout_s" ∷ decimal timeout_s ∷ codes "to" ∷ seconds_text next ∷ [])

-- where moves bound it: the third of them comes later by this wait
abbrev pub moves_raise_line : Option NearMoves → ℕ → ℕ → List ℕ
moves_raise_line None wait next = []
moves_raise_line (Some near) wait next =
    line (codes "raise")
    (codes "change" ∷ decimal near.third ∷ codes "by" ∷ seconds_text wait
    ∷ codes "to" ∷ seconds_text next ∷ [])

-- ALL LINES

abbrev pub bound_lines : ℕ → Lifetime → List ℕ
bound_lines timeout life =
    route_bound_line life ++ timeout_bound_line timeout life ++ moves_bound_line life.by_moves

abbrev pub raise_lines : Lifetime → Option ℕ → List ℕ
raise_lines life None = []
raise_lines life (Some next) =
    timeout_raise_line (raised_timeout life next) next
    ++ moves_raise_line life.by_moves (next - life.time) next

-- a script's lifetime with all that bounds and raises it; the script has this timeout
abbrev pub explained_text : ℕ → Option Lifetime → List ℕ
explained_text timeout None = lifetime_line None
explained_text timeout (Some life) =
    lifetime_line (Some life.time) ++ bound_lines timeout life ++ raise_lines life life.next

-- THE ANSWER

-- the life that is asked about, in seconds, exceeds this lifetime
abbrev pub outlives : Option ℕ → Option Lifetime → Bool
outlives (Some seconds) (Some life) = nat_lt life.time (seconds * 10 ^ 9)
outlives _ _ = false

-- the text is shown, or it is a warning
abbrev pub shown_or_warned : Bool → List ℕ → Answer
shown_or_warned false text = Shown (λ octets. octets ≡ text)
shown_or_warned true text = Warned text

-- the lines of the script's lifetime; a warning where the life that is asked about exceeds it
abbrev pub lifetime_answer : Option ℕ → Script → Answer
lifetime_answer seconds script =
    shown_or_warned (outlives seconds (explained script))
    (explained_text script.setting.timeout (explained script))

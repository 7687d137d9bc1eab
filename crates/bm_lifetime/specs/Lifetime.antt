-- How long a connection may live so that no change of a script breaks it, whatever the traffic, and
-- what bounds that (docs/DEFINITIONS.md).
use Rattle.std.specs.Prelude.{ℕ, suc, ◌+◌, ◌-◌, ◌*◌, max, min, Bool, true, false, ◌&&◌, ◌||◌, ◌==◌}
use Rattle.std.specs.Prelude.{nat_lt, if◌then◌else◌, List, [], ◌∷◌, length, map, filter, filter_map}
use Rattle.std.specs.Prelude.{find, flat_map, Option, Some, None, is_some}
use Rattle.std.specs.List.{range_with_len}
use Rattle.std.specs.Option.{option_map}
use Rattle.bm_table.specs.declared.plan.Change.{Change}
use Rattle.bm_table.specs.declared.script.Script.{Script}
use Rattle.bm_table.specs.declared.setting.RouteKind.{RouteKind}
use Rattle.bm_table.specs.declared.setting.RouteKind.TheVariants.{Port, Turn}
use Rattle.bm_table.specs.declared.setting.Setting.{Setting}
use Rattle.bm_table.specs.Tables.{target}
use Rattle.bm_lifetime.specs.declared.explained.Lifetime.{Lifetime}
use Rattle.bm_lifetime.specs.declared.explained.NearMoves.{NearMoves}
use Rattle.bm_lifetime.specs.declared.seen.Moved.{Moved}
use Rattle.bm_lifetime.specs.declared.seen.Span.{Span}

-- a replay has at most this many events (`laws::short_replay` of bm_core)
abbrev pub most_events : ℕ
most_events = 12259840

-- the greatest of these, or 0
abbrev pub greatest : List ℕ → ℕ
greatest [] = 0
greatest (x ∷ xs) = max x (greatest xs)

-- the longest lag of a mux
abbrev pub longest_lag : Setting → ℕ
longest_lag setting = greatest setting.lags

-- the longest delay of an impairment
abbrev pub longest_delay : Setting → ℕ
longest_delay setting = greatest (map (λ row. row.fate.delay) setting.faults)

-- A packet that comes this long before the timeout is over since a change is in time, whatever else
-- comes: its mux knows the change a lag later, its copies make three hops at most, and each event
-- adds at most one to the greatest moment so far.
abbrev pub slack : Setting → ℕ
slack setting = most_events + 3 * longest_delay setting + longest_lag setting

-- packets are assigned to muxes by their source port
abbrev pub is_by_port : RouteKind → Bool
is_by_port Port = true
is_by_port Turn = false

-- each of these is n
abbrev pub are_all : ℕ → List ℕ → Bool
are_all n [] = true
are_all n (x ∷ xs) = x == n && are_all n xs

-- no packet gets an older table than an earlier one of its connection: a connection has one mux, or
-- all muxes have one lag, or there is one table
abbrev pub is_steady : Script → Bool
is_steady script =
    is_by_port script.setting.route || are_all (longest_lag script.setting) script.setting.lags
    || length script.plan.changes == 0

-- the moves of the bucket by these changes, of which the first has number n. A change at moment 0 is
-- left out where no mux has a lag, since no packet comes before it.
abbrev pub moves_from : ℕ → ℕ → ℕ → List Change → List Moved
moves_from lag b n [] = []
moves_from lag b n (c ∷ changes) =
    if is_some (target c.moves b) && nat_lt 0 (c.moment.0 + lag) then
    record { change = n; moment = c.moment.0 } ∷ moves_from lag b (suc n) changes
    else moves_from lag b (suc n) changes

-- the moves of the bucket. Changes are counted from 1.
abbrev pub moves_of : Script → ℕ → List Moved
moves_of script b = moves_from (longest_lag script.setting) b 1 script.plan.changes

-- from each of these moves to the second after it
abbrev pub spans : List Moved → List Span
spans (x ∷ y ∷ z ∷ moves) =
    record { first = x.change; third = z.change; time = z.moment - x.moment } ∷ spans (y ∷ z ∷ moves)
spans _ = []

-- the spans of the bucket's moves. There are none if the script isn't steady: they don't bound it.
abbrev pub spans_of : Script → ℕ → List Span
spans_of script b = if is_steady script then spans (moves_of script b) else []

-- how long a connection may live by the timeout: until then its packets are still forwarded to the
-- server that its bucket left
abbrev pub timeout_bound : Script → ℕ
timeout_bound script = script.setting.timeout - slack script.setting

-- the bounds of a bucket with these moves: the timeout's, and the time of each span, since a
-- connection may see only two of three moves that follow one another. Without moves there are none.
abbrev pub bounds_by : ℕ → List Moved → List ℕ
bounds_by most [] = []
bounds_by most (x ∷ moves) = most ∷ map (λ s. s.time) (spans (x ∷ moves))

-- the bounds of the bucket. If the script isn't steady, no time is safe.
abbrev pub bounds_of : Script → ℕ → List ℕ
bounds_of script b =
    if is_steady script then bounds_by (timeout_bound script) (moves_of script b) else 0 ∷ []

-- all buckets
abbrev pub buckets : Script → List ℕ
buckets script = range_with_len 0 script.setting.buckets

-- the bounds of all buckets
abbrev pub bounds : Script → List ℕ
bounds script = flat_map (bounds_of script) (buckets script)

-- the lesser of two bounds, where None is no bound
abbrev pub lesser : Option ℕ → Option ℕ → Option ℕ
lesser None b = b
lesser (Some a) None = Some a
lesser (Some a) (Some b) = Some (min a b)

-- the least of these
abbrev pub least : List ℕ → Option ℕ
least [] = None
least (x ∷ xs) = lesser (Some x) (least xs)

-- how long a connection of this bucket may live; None if it may live on
abbrev pub lifetime_of : Script → ℕ → Option ℕ
lifetime_of script b = least (bounds_of script b)

-- how long a connection of any bucket may live; None if it may live on
abbrev pub lifetime : Script → Option ℕ
lifetime script = least (bounds script)

-- the least bound above this time
abbrev pub next_bound : Script → ℕ → Option ℕ
next_bound script time = least (filter (λ bound. nat_lt time bound) (bounds script))

-- the first span of the bucket that takes this time, with the bucket
abbrev pub near_in : Script → ℕ → ℕ → Option (ℕ × Span)
near_in script time b =
    option_map (λ s. (b, s)) (find (λ s. s.time == time) (spans_of script b))

-- the first such span of each bucket that has one, in the order of the buckets
abbrev pub near : Script → ℕ → List (ℕ × Span)
near script time = filter_map (near_in script time) (buckets script)

-- what the first of these says, and how many there are
abbrev pub near_moves : List (ℕ × Span) → Option NearMoves
near_moves [] = None
near_moves ((b, s) ∷ others) = Some (record {
  first = s.first;
  third = s.third;
  buckets = suc (length others);
  lowest = b;
})

-- a lifetime of the script, with what bounds it
abbrev pub explain : Script → ℕ → Lifetime
explain script time = record {
  time = time;
  by_timeout = is_steady script && time == timeout_bound script;
  by_moves = near_moves (near script time);
  next = next_bound script time;
  slack = slack script.setting;
}

-- the script's lifetime, with what bounds it
abbrev pub explained : Script → Option Lifetime
explained script = option_map (explain script) (lifetime script)

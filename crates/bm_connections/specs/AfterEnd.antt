-- How many packets break nothing since their connection had ended itself, and of how many
-- connections they are, computed by looking back through events (docs/DEFINITIONS.md). A past has
-- its newest event first.
use Rattle.std.specs.Prelude.{ℕ, nat_lt, if◌then◌else◌, List, [], ◌∷◌, reverse, count_by, codes}
use Rattle.std.specs.Prelude.{decimal}
use Rattle.bm_core.specs.declared.events.Event.{Event}
use Rattle.bm_core.specs.declared.events.History.{History}
use Rattle.bm_core.specs.declared.events.Stage.{Stage}
use Rattle.bm_trace.specs.Words.{line}
use Rattle.bm_connections.specs.declared.after_end.AfterEnd.{AfterEnd}
use Rattle.bm_connections.specs.Connections.{breaks_nothing, connections, one_more}

-- how many arrivals are dropped, reset or strays after their connection's own end
abbrev pub packets_after_end : Stage → List Event → ℕ
packets_after_end stage [] = 0
packets_after_end stage (e ∷ past) =
    one_more (breaks_nothing stage past e.what) (packets_after_end stage past)

-- the same of a history, and of how many connections they are
abbrev pub after_end : History → AfterEnd
after_end h = record {
  packets = packets_after_end h.stage (reverse h.events);
  connections = count_by (λ c. nat_lt 0 c.tally.after_its_end) (connections h);
}

abbrev pub after_end_line : AfterEnd → List ℕ
after_end_line a =
    line (codes "after-its-end")
    (codes "packets" ∷ decimal a.packets ∷ codes "connections" ∷ decimal a.connections ∷ [])

-- the line, if there are such packets
abbrev pub after_end_text : AfterEnd → List ℕ
after_end_text a = if nat_lt 0 a.packets then after_end_line a else []

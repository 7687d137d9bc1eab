use Rattle.std.proofs.Common.{◌≡◌, ◌++◌, ◌+◌, ◌*◌, flat_map, map, string_bytes}
use Rattle.std.specs.List.{range_with_len}
use Rattle.bm_connections.specs.Times.{shown}
use Rattle.bm_drawing.specs.Drawing.{tick}
use Rattle.bm_drawing.specs.Scales.{first_tick, tick_step}
use Rattle.bm_drawing.proofs.axis.write_axis.Given as goal

abbrev pub invariant-loop-number : goal.invariant-loop-number
invariant-loop-number l = record {
  written : string_bytes l.text
      ≡ string_bytes l.initial.text
      ++ flat_map (tick l.plot)
      (map (λ number. first_tick (shown l.plot.clock.0 0) (tick_step l.plot.span) + number * tick_step l.plot.span)
      (range_with_len 0 l.number));
}

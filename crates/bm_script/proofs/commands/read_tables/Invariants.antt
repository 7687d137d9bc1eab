use Rattle.std.proofs.Common.{◌≡◌, drop, length}
use Rattle.bm_script.specs.Commands.{after_commands}
use Rattle.bm_script.specs.Inside.Readings.{IsCounted, progress}
use Rattle.bm_script.specs.Inside.Rules.{AsksRule}
use Rattle.bm_script.specs.Scripts.{opened}
use Rattle.toml.specs.View.{items_view}
use Rattle.bm_script.proofs.commands.read_tables.Given as goal

abbrev pub invariant-loop-value : goal.invariant-loop-value
invariant-loop-value g l = record {
  so_far : after_commands (progress l.reading) (items_view (drop l.value-index l.tables))
      ≡ after_commands (opened l.fn.version l.opening) (items_view l.tables);
  counted : IsCounted l.reading;
  asks : AsksRule g.P.Fn l.reading.controller;
  count : length l.reading.commands.items ≡ l.value-index;
}

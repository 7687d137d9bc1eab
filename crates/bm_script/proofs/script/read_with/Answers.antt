use Rattle.std.proofs.Common.{subst}
use Rattle.bm_script.proofs.Sound.{opening-sound, Meets}
use Rattle.bm_script.specs.Inside.Openings.{IsOpening}
use Rattle.toml.specs.View.{table_view}
use Rattle.bm_script.proofs.script.read_with.Goals as goal

pub read_commands-requires-clause-setting : goal.read_commands-requires-clause-setting
read_commands-requires-clause-setting c =
    subst (Meets IsOpening) c.in_ok-opening.ensures (opening-sound (table_view c.args.table.now))

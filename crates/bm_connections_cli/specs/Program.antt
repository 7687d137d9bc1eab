-- The program `beamer-connections`.
use Rattle.bm_cli.specs.Program.{Program}
use Rattle.bm_connections_cli.specs.Dues.{due}
use Rattle.bm_connections_cli.specs.Faults.{lines_for}
use Rattle.bm_connections_cli.specs.Help.{usage_line}
use Rattle.bm_connections_cli.specs.Top.{scripts_in}
use Rattle.bm_connections_words.specs.Words.{Asked}

abbrev pub beamer_connections : Program Asked
beamer_connections = record {
  due = due;
  lines = lines_for;
  usage = usage_line;
  scripts = scripts_in;
  greatest = 9;
}

-- The program `beamer`.
use Rattle.bm_words.specs.Form.{Asked}
use Rattle.bm_cli.specs.Dues.{due}
use Rattle.bm_cli.specs.Lines.{beamer_lines, usage_line}
use Rattle.bm_cli.specs.Program.{Program}
use Rattle.bm_cli.specs.Top.{scripts_in}

abbrev pub beamer : Program Asked
beamer = record {
  due = due;
  lines = λ form. beamer_lines;
  usage = usage_line;
  scripts = scripts_in;
  greatest = 8;
}

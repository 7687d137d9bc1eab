-- How the private calls end.
use Rattle.std.specs.Prelude.{Option}
use Rattle.bm_cli.specs.declared.status.Status.{Status}
use Rattle.bm_cli.specs.Ends.{Ends}
use Rattle.bm_cli.specs.Lines.{FaultLines}
use Rattle.bm_cli.specs.Reading.{Holds, Octets}
use Rattle.bm_cli.specs.Statuses.{FilesDid, SinkDid, code_of}
use Rattle.bm_connections_cli.specs.Dues.{due}
use Rattle.bm_connections_cli.specs.Faults.{lines_for}
use Rattle.bm_connections_cli.specs.Sinks.{HoldsOfOne}
use Rattle.bm_connections_words.specs.Words.{Asked}

-- no fault is told
abbrev pub no_lines : FaultLines
no_lines fault text = ⊥

-- what the words of this form ask for was answered on one of the two sinks
abbrev pub EndsForm : Option Asked → Octets → FilesDid → SinkDid → SinkDid → Status → Type 0
EndsForm form told files out faults result =
    HoldsOfOne (λ sink. Holds told (λ reads.
    Ends (lines_for form) (due form reads) files sink result))
    out faults (code_of result)

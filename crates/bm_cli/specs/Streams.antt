-- What the program promises of the lines of streams.
use Rattle.std.specs.Prelude.{◌≡◌, ℕ, List, [], Result, Ok, Err}
use Rattle.bm_base.specs.declared.capture.Vip.{Vip}
use Rattle.bm_table.specs.declared.script.Script.{Script}
use Rattle.bm_core.specs.declared.events.History.{History}
use Rattle.bm_core.specs.declared.events.Stage.{Stage}
use Rattle.bm_stream.specs.Text.{stream_text}
use Rattle.bm_words.specs.Form.{Named}
use Rattle.bm_pcap.specs.Capture.{Captured}
use Rattle.bm_cli.specs.declared.fault.StageFault.{StageFault}
use Rattle.bm_cli.specs.declared.mode.Mode.{Mode}
use Rattle.bm_cli.specs.declared.mode.Mode.TheVariants.{Replay}
use Rattle.bm_cli.specs.Headline.{IsMadeBy}
use Rattle.bm_cli.specs.Reading.{Reads, script_by}

-- the packet of each record of a capture
abbrev pub packets_of : Captured → List (List ℕ)
packets_of (Ok read) = read.1
packets_of (Err fault) = []

-- the same, of the capture for this script's services
abbrev pub packets_with : Result Script StageFault → (List Vip → Captured) → List (List ℕ)
packets_with (Ok script) capture = packets_of (capture script.setting.vips)
packets_with (Err fault) capture = []

-- the same, of the capture that the words name
abbrev pub packets_in : Mode → Named → Reads → List (List ℕ)
packets_in mode names reads =
    packets_with (script_by mode reads names.script) (reads.capture names.capture)

-- these octets are the lines of the streams of the stage's replay, whose records have these packets
pub record IsStreamsOf (packets : List (List ℕ)) (stage : Stage) (octets : List ℕ) : Type 0 where
  -- the history is the replay of the stage
  pub history : History
  pub about : history.stage ≡ stage
  pub made : IsMadeBy Replay stage history
  -- the lines are those of its Accepts
  pub printed : octets ≡ stream_text history packets

-- the same, with the packets of the capture that the words name
abbrev pub AreStreams : Named → Reads → Stage → List ℕ → Type 0
AreStreams names reads = IsStreamsOf (packets_in Replay names reads)

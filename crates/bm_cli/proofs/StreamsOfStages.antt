-- The lines of streams that were due were written, or the line of a fault.
use Rattle.std.proofs.Common.{◌≡◌, ℕ, List, Some, Ok, Err, subst}
use Rattle.bm_core.specs.declared.events.Stage.{Stage}
use Rattle.bm_words.specs.Form.{Named, Streams}
use Rattle.bm_cli.specs.declared.fault.StageFault.{StageFault}
use Rattle.bm_cli.specs.declared.mode.Mode.TheVariants.{Replay}
use Rattle.bm_cli.specs.declared.status.Status.{Status}
use Rattle.bm_cli.specs.Dues.{Refused, Shown, due}
use Rattle.bm_cli.specs.Ends.{Ends}
use Rattle.bm_cli.specs.Lines.{beamer_lines}
use Rattle.bm_cli.specs.Reading.{Holds, Octets}
use Rattle.bm_cli.specs.Stages.{ReadsStage}
use Rattle.bm_cli.specs.Statuses.{FilesDid, SinkDid}
use Rattle.bm_cli.specs.Streams.{AreStreams, IsStreamsOf, packets_in}
use Rattle.bm_cli.specs.Telling.{Tells}
use Rattle.bm_cli.proofs.Ending.{ends_stage, holds_more}
use Rattle.bm_cli.proofs.Faults.{beamer_silent}

-- the lines of a stage that was read
pub streams_end : (names : Named) (told : Octets) (files : FilesDid) (sink : SinkDid) (stage : Stage)
    (packets : List (List ℕ)) (result : Status) →
    Holds told (λ reads. ReadsStage Replay names reads files (Ok stage) × (packets ≡ packets_in Replay names reads)) →
    Tells beamer_lines (Shown (IsStreamsOf packets stage)) sink result →
    Holds told (λ reads. Ends beamer_lines (due (Some (Streams names)) reads) files sink result)
streams_end names told files sink stage packets result read tells =
    holds_more told
    (λ reads. ReadsStage Replay names reads files (Ok stage) × (packets ≡ packets_in Replay names reads))
    (λ reads. Ends beamer_lines (due (Some (Streams names)) reads) files sink result)
    (λ reads h. ends_stage beamer_lines beamer_silent Replay (AreStreams names reads) names reads files sink
    (Ok stage) result h.0
    (subst (λ (p : List (List ℕ)). Tells beamer_lines (Shown (IsStreamsOf p stage)) sink result) h.1 tells)) read

-- the line of a fault
pub streams_refused : (names : Named) (told : Octets) (files : FilesDid) (sink : SinkDid) (fault : StageFault)
    (result : Status) → Holds told (λ reads. ReadsStage Replay names reads files (Err fault)) →
    Tells beamer_lines (Refused fault) sink result →
    Holds told (λ reads. Ends beamer_lines (due (Some (Streams names)) reads) files sink result)
streams_refused names told files sink fault result read tells =
    holds_more told (λ reads. ReadsStage Replay names reads files (Err fault))
    (λ reads. Ends beamer_lines (due (Some (Streams names)) reads) files sink result)
    (λ reads h. ends_stage beamer_lines beamer_silent Replay (AreStreams names reads) names reads files sink
    (Err fault) result h tells) read

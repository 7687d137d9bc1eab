-- What writing an answer leaves.
use Rattle.std.specs.Prelude.{ℕ, List}
use Rattle.bm_cli.specs.declared.status.Status.{Status}
use Rattle.bm_cli.specs.Dues.{Answer}
use Rattle.bm_cli.specs.Ends.{IsOf}
use Rattle.bm_cli.specs.Lines.{FaultLines}
use Rattle.bm_cli.specs.Statuses.{Writes, SinkDid}

-- The answer was written, or as much of it as the sink and memory allowed. Faults are told by these
-- lines.
pub record Tells (lines : FaultLines) (answer : Answer) (sink : SinkDid) (result : Status)
    : Type 0 where
  pub says : Status
  pub text : List ℕ
  pub is : IsOf lines answer says text
  pub writes : Writes says text sink result

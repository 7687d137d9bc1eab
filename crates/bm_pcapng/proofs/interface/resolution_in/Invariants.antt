use Rattle.std.proofs.Common.{length}
use Rattle.bm_pcapng.specs.Options.{resolution_by}
use Rattle.bm_pcapng.proofs.Opts.{Left}
use Rattle.bm_pcapng.proofs.interface.resolution_in.Given as goal

abbrev pub invariant-loop-rest : goal.invariant-loop-rest
invariant-loop-rest l = Left l.order l.rest (resolution_by l.order l.options)

abbrev pub decreases-loop-rest : goal.decreases-loop-rest
decreases-loop-rest l = length l.rest

use Rattle.bm_core.proofs.laws.short_replay.Goals as goal
use Rattle.bm_core.proofs.Existing.{clock_law, length_law}

pub returns : goal.returns
returns c = record {
  events = λ fates past follows soon. length_law fates c.args.stage.now past c.requires follows soon;
  clocks = λ fates past follows soon. clock_law fates c.args.stage.now past c.requires follows soon;
}

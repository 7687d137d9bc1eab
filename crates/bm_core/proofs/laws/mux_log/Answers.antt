use Rattle.bm_core.proofs.laws.mux_log.Goals as goal
use Rattle.bm_core.proofs.Logs.{version_in_log, label_in_log}

pub returns : goal.returns
returns c = record {
  version = λ past m. version_in_log c.args.stage.now past m;
  label = λ past k l is. label_in_log c.args.stage.now past k l is;
}

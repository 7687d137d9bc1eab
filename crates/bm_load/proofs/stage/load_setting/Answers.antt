use Rattle.std.proofs.Common.{rules}
use Rattle.bm_load.proofs.stage.load_setting.Goals as goal

pub returns : goal.returns
returns c = search rules

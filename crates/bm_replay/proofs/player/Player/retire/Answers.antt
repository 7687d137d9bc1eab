use Rattle.std.proofs.Common.{rules}
use Rattle.bm_replay.proofs.player.Player.retire.Goals as goal

pub returns : goal.returns
returns c = search rules

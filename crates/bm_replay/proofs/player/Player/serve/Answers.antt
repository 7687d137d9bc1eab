use Rattle.std.proofs.Common.{arith}
use Rattle.bm_replay.proofs.ShardStates.{ready_at}
use Rattle.bm_replay.proofs.player.Player.serve.Goals as goal

pub call-requires-clause-clock : goal.call-requires-clause-clock
call-requires-clause-clock c =
    let low =
    (ready_at c.args.self.now c.args.server c.args.shard c.place-place.result c.requires.places
    c.requires.server c.requires.shard c.place-place.ensures).clock
    in omega arith

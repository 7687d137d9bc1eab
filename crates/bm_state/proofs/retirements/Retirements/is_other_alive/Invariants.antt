use Rattle.std.proofs.Common.{◌≡◌, length}
use Rattle.bm_base.specs.declared.ids.ServerId.{ServerId}
use Rattle.bm_state.specs.Holders.{retired_in}
use Rattle.bm_state.specs.Inside.Retirements.{other_alive}
use Rattle.bm_state.specs.ShardKeys.{key_at}
use Rattle.bm_state.proofs.retirements.Retirements.is_other_alive.Given as goal

abbrev pub invariant-loop-holder : goal.invariant-loop-holder
invariant-loop-holder l =
    let retired = λ (t : ServerId). retired_in l.self (key_at t l.shard)
    in other_alive retired l.rest l.server ≡ other_alive retired l.holders l.server

abbrev pub decreases-loop-holder : goal.decreases-loop-holder
decreases-loop-holder l = length l.rest

-- The code's name for who keeps a clock.
use Rattle.bm_core.specs.Runs.{Actor}
use Rattle.bm_core.specs.Runs.Actor.{Controller, MuxOf, ShardOf}
use Rattle.bm_state.specs.declared.author.Author.{Author}
use Rattle.bm_state.specs.declared.author.Author.TheVariants.{Controller as by_controller}
use Rattle.bm_state.specs.declared.author.Author.TheVariants.{Mux as by_mux, Shard as by_shard}

abbrev pub actor : Author → Actor
actor by_controller = Controller
actor (by_mux mux) = MuxOf mux
actor (by_shard server shard) = ShardOf server shard

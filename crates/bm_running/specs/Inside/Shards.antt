-- What is kept of the shards of all servers.
use Rattle.std.specs.Prelude.{◌≡◌, ℕ, if◌then◌else◌, List, unwrap_or}
use Rattle.std.specs.BTreeMap as tree
use Rattle.bm_base.specs.declared.ids.Moment.{Moment}
use Rattle.bm_base.specs.declared.ids.ServerId.{ServerId}
use Rattle.bm_core.specs.declared.events.Event.{Event}
use Rattle.bm_core.specs.declared.events.Stage.{Stage}
use Rattle.bm_core.specs.Books.{book_of}
use Rattle.bm_shard.specs.Inside.States.{IsLeft}
use Rattle.bm_shard.specs.States.{IsServed, State, first_state}
use Rattle.bm_shard.specs.declared.book.Shard.{Shard}
use Rattle.bm_shard.specs.declared.calls.ShardCall.{ShardCall}
use Rattle.bm_table.specs.declared.setting.Setting.{Setting}
use Rattle.bm_state.specs.contracts.shard_key.ShardKeyOrd.TheImpl as key_order
use Rattle.bm_state.specs.declared.shard_key.ShardKey.{ShardKey}
use Rattle.bm_state.specs.Inside.Retirements.{same_key}
use Rattle.bm_running.specs.declared.shards.Shards.{Shards}

-- the key's server
abbrev pub server_of : ShardKey → ServerId
server_of key = record { 0 = key.server }

-- a shard of a server, as the setting has it
abbrev pub shard_by : Setting → ServerId → ℕ → Shard
shard_by setting s h =
    record { server = s; number = h; capacity = setting.capacity; timeout = setting.timeout }

-- the state of a shard
abbrev pub state_in : Setting → Shards → ShardKey → State
state_in setting shards key =
    unwrap_or (tree.get (key_order.ghosts).cmp shards.states key)
    (first_state (shard_by setting (server_of key) key.shard))

-- the state is what the turns of the server's shard among these events left
pub record IsShardOf (stage : Stage) (past : List Event) (s : ServerId) (h : ℕ) (state : State) :
    Type 0 where
  pub shard : state.shard ≡ shard_by stage.script.setting s h
  pub turns : IsLeft (book_of stage past s h) state

-- so is that of each shard
abbrev pub KeepsShards : Stage → List Event → Shards → Type 0
KeepsShards stage past shards =
    (key : ShardKey) → IsShardOf stage past (server_of key) key.shard
    (state_in stage.script.setting shards key)

-- the call was made to the shard at this clock
pub record IsServedAt (setting : Setting) (key : ShardKey) (clock : Moment) (call : ShardCall)
    (old new : Shards) : Type 0 where
  pub after : State
  pub served : IsServed clock call (state_in setting old key) after
  pub is : (q : ShardKey) → state_in setting new q
      ≡ (if same_key key q then after else state_in setting old q)

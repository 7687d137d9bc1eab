-- The turns of a shard, as its book keeps them.
use Rattle.std.specs.Prelude.{List, [], ◌∷◌, Option, Some, None}
use Rattle.bm_base.specs.declared.ids.Moment.{Moment}
use Rattle.bm_core.specs.declared.events.What.{What}
use Rattle.bm_core.specs.declared.events.What.TheVariants.{Arrive as Arrived, Close as Closes}
use Rattle.bm_core.specs.Books.{Turn, Took, Closed, RetiredAs, add_turn}
use Rattle.bm_shard.specs.declared.calls.ShardCall.{ShardCall}
use Rattle.bm_shard.specs.declared.calls.ShardCall.TheVariants.{Arrive, Close, Retire}
use Rattle.bm_shard.specs.declared.calls.ShardEntry.{ShardEntry}

-- when the copy of an Arrive was due, or the command of a Close or Retire was given
abbrev pub call_moment : ShardCall → Moment
call_moment (Arrive packet tag segment due) = due
call_moment (Close flow at) = at
call_moment (Retire at result) = at

-- the turn of a call with this event
abbrev pub turn_kept : ShardCall → What → Option Turn
turn_kept (Arrive packet tag segment due) (Arrived k hop server verdict) =
    Some (Took segment verdict)
turn_kept (Close flow at) (Closes server f closed) = Some (Closed flow closed)
turn_kept (Retire at result) what = Some (RetiredAs result)
turn_kept _ _ = None

-- the turns of these entries, the newest first
abbrev pub turns : List ShardEntry → List Turn
turns [] = []
turns (e ∷ past) = add_turn (turn_kept e.call e.event.what) (turns past)

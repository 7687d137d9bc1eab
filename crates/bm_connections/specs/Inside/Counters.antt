-- What the code counts while it goes through events.
use Rattle.std.specs.Prelude.{◌≡◌, suc, ◌<◌, ◌^◌, List}
use Rattle.bm_core.specs.declared.events.Cause.{Cause}
use Rattle.bm_core.specs.declared.events.Event.{Event}
use Rattle.bm_core.specs.declared.events.Stage.{Stage}
use Rattle.bm_connections.specs.declared.counters.Counters.{Counters}
use Rattle.bm_connections.specs.AfterEnd.{packets_after_end}
use Rattle.bm_connections.specs.Replies.{replies_in}
use Rattle.bm_connections.specs.Inside.Held.{AreHeldByShards, HaveRoom, count}
use Rattle.bm_connections.specs.Inside.Loads.{AreLoads, load}
use Rattle.bm_connections.specs.Inside.Loads as loads
use Rattle.bm_connections.specs.Inside.Packets.{ArePackets, packets_in}

-- this is counted after these events
pub record HasCounted (stage : Stage) (past : List Event) (c : Counters) : Type 0 where
  pub packets : ArePackets stage past c.packets
  pub after_end : c.after_end ≡ packets_after_end stage past
  pub loads : AreLoads past (load c.loads)
  pub held : AreHeldByShards stage past c.held
  pub replies : c.replies.items ≡ replies_in past

-- one event more can be counted
pub record CanCountMore (c : Counters) : Type 0 where
  pub packets : (cause : Cause) → suc (packets_in c.packets cause) < 2 ^ 64
  pub after_end : suc c.after_end < 2 ^ 64
  pub loads : loads.HaveRoom (load c.loads)
  pub held : HaveRoom (count c.held.counts)

use Rattle.std.proofs.Common.{ℕ, ◌≤◌, List, length, refl, ap, ◌∙◌, subst, arith}
use Rattle.bm_base.specs.declared.capture.Record.{Record}
use Rattle.bm_table.specs.declared.script.Command.{Command}
use Rattle.bm_core.specs.Schedule.{least}
use Rattle.bm_replay.specs.Inside.Muxes.{switches_of}
use Rattle.bm_replay.specs.Inside.Queues.{IsHead, closes_from, packets_after, retires_after, retires_from, syncs_from}
use Rattle.bm_core.proofs.Moments.{change_early}
use Rattle.bm_replay.proofs.player.Player.new.Goals as goal

pub soonest-switch-requires-clause-moments : goal.soonest-switch-requires-clause-moments
soonest-switch-requires-clause-moments c = change_early c.args.stage.script c.requires.sound.script

pub returns-clause-new : goal.returns-clause-new
returns-clause-new c = record {
  about = refl;
  plan = c.in_ok-events.ensures.plan;
  events = c.in_ok-events.ensures.room.events;
  clock = refl;
  loss = refl;
  wire = c.new-2.ensures;
  published = refl;
  muxes = c.in_ok-events.ensures.room.muxes;
  tables = c.in_ok-events.ensures.room.tables;
  switch = c.soonest-switch.ensures
      ∙ ap (λ (lags : List ℕ). least
      (switches_of c.args.stage.script.plan lags c.args.stage.script.setting.muxes c.in_ok-events.field-0.muxes
      c.args.stage.script.setting.muxes)) c.items.ensures;
  close = subst
      (λ (l : List Command). IsHead (closes_from l 0) (closes_from l c.next_close-close.result.next)
      c.next_close-close.result.head) c.items-commands.ensures c.next_close-close.ensures;
  retire = subst
      (λ (l : List Command). IsHead (retires_from c.args.stage.script.setting.shards l 0)
      (retires_after c.args.stage.script.setting.shards l c.next_retire-retire.result) c.next_retire-retire.result.head)
      c.items-commands.ensures
      (c.next_retire-retire.ensures c.args.stage.script.setting.shards
      (let h = c.requires.sound.script.setting.shards.0 in omega arith));
  sync = subst
      (λ (l : List Command). IsHead (syncs_from l 0) (syncs_from l c.next_sync-sync.result.next)
      c.next_sync-sync.result.head) c.items-commands.ensures c.next_sync-sync.ensures;
  packet = subst
      (λ (l : List Record). IsHead (packets_after l 0) (packets_after l c.next_packet-packet.result.next)
      c.next_packet-packet.result.head) c.items-2.ensures c.next_packet-packet.ensures.head;
  behind = c.next_packet-packet.ensures.behind;
  within = subst (λ (l : List Record). c.next_packet-packet.result.next ≤ length l) c.items-2.ensures
      c.next_packet-packet.ensures.within;
  cleared = refl;
  shards = c.in_ok-events.ensures.room.shards;
  packets = c.requires.packets;
}

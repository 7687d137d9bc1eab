use Rattle.std.proofs.Common.{inl, inr, arith}
use Rattle.bm_fault.specs.Faults.{Gives}
use Rattle.bm_route.specs.Routes.{Answers}
use Rattle.bm_replay.proofs.Switches.{can_switch, published, switched}
use Rattle.bm_replay.proofs.Commands.{close_number, closed_one, has_places, published_within, retire_early}
use Rattle.bm_replay.proofs.Commands.{retire_numbers, retired_one, synced}
use Rattle.bm_replay.proofs.ReadyEvents.{clock_low, ready_call}
use Rattle.bm_replay.proofs.Sendings.{can_steer, steered}
use Rattle.bm_replay.proofs.StepNeeds.{no_arrival, no_loss}
use Rattle.bm_replay.proofs.player.Player.carry_out.Goals as goal

pub switch-requires : goal.switch-requires
switch-requires g c =
    can_switch (Answers g.R.Fn c.args.route.now.rule) (Gives g.F.Fn c.args.faults.now.rule) c.args.self.now c.args.clock
    c.args.due c.in-Switches.mux c.in-Switches.version
    (ready_call (Answers g.R.Fn c.args.route.now.rule) (Gives g.F.Fn c.args.faults.now.rule) c.args.self.now
    c.args.clock c.args.due c.requires.coming).ready c.in-Switches.is

pub close-requires-clause-server : goal.close-requires-clause-server
close-requires-clause-server g c =
    close_number (Answers g.R.Fn c.args.route.now.rule) (Gives g.F.Fn c.args.faults.now.rule) c.args.self.now
    c.args.clock c.args.due c.in-Closes.server c.in-Closes.flow
    (ready_call (Answers g.R.Fn c.args.route.now.rule) (Gives g.F.Fn c.args.faults.now.rule) c.args.self.now
    c.args.clock c.args.due c.requires.coming).ready c.in-Closes.is

pub close-requires-clause-places : goal.close-requires-clause-places
close-requires-clause-places g c =
    has_places (Answers g.R.Fn c.args.route.now.rule) (Gives g.F.Fn c.args.faults.now.rule) c.args.self.now c.args.clock
    c.args.due
    (ready_call (Answers g.R.Fn c.args.route.now.rule) (Gives g.F.Fn c.args.faults.now.rule) c.args.self.now
    c.args.clock c.args.due c.requires.coming).ready

pub close-requires-clause-clock : goal.close-requires-clause-clock
close-requires-clause-clock g c =
    clock_low (Answers g.R.Fn c.args.route.now.rule) (Gives g.F.Fn c.args.faults.now.rule) c.args.self.now c.args.clock
    c.args.due
    (ready_call (Answers g.R.Fn c.args.route.now.rule) (Gives g.F.Fn c.args.faults.now.rule) c.args.self.now
    c.args.clock c.args.due c.requires.coming).ready

pub retire-requires-clause-at : goal.retire-requires-clause-at
retire-requires-clause-at g c =
    let low =
    clock_low (Answers g.R.Fn c.args.route.now.rule) (Gives g.F.Fn c.args.faults.now.rule) c.args.self.now
    c.args.clock c.args.due
    (ready_call (Answers g.R.Fn c.args.route.now.rule) (Gives g.F.Fn c.args.faults.now.rule) c.args.self.now
    c.args.clock c.args.due c.requires.coming).ready
    in let early =
    retire_early (Answers g.R.Fn c.args.route.now.rule) (Gives g.F.Fn c.args.faults.now.rule) c.args.self.now
    c.args.clock c.args.due c.in-Retires.server c.in-Retires.shard c.in-Retires.at
    (ready_call (Answers g.R.Fn c.args.route.now.rule) (Gives g.F.Fn c.args.faults.now.rule) c.args.self.now
    c.args.clock c.args.due c.requires.coming).ready c.in-Retires.is
    in omega arith

pub retire-requires-clause-places : goal.retire-requires-clause-places
retire-requires-clause-places g c =
    has_places (Answers g.R.Fn c.args.route.now.rule) (Gives g.F.Fn c.args.faults.now.rule) c.args.self.now c.args.clock
    c.args.due
    (ready_call (Answers g.R.Fn c.args.route.now.rule) (Gives g.F.Fn c.args.faults.now.rule) c.args.self.now
    c.args.clock c.args.due c.requires.coming).ready

pub retire-requires-clause-server : goal.retire-requires-clause-server
retire-requires-clause-server g c =
    (retire_numbers (Answers g.R.Fn c.args.route.now.rule) (Gives g.F.Fn c.args.faults.now.rule) c.args.self.now
    c.args.clock c.args.due c.in-Retires.server c.in-Retires.shard c.in-Retires.at
    (ready_call (Answers g.R.Fn c.args.route.now.rule) (Gives g.F.Fn c.args.faults.now.rule) c.args.self.now
    c.args.clock c.args.due c.requires.coming).ready c.in-Retires.is).0

pub retire-requires-clause-shard : goal.retire-requires-clause-shard
retire-requires-clause-shard g c =
    (retire_numbers (Answers g.R.Fn c.args.route.now.rule) (Gives g.F.Fn c.args.faults.now.rule) c.args.self.now
    c.args.clock c.args.due c.in-Retires.server c.in-Retires.shard c.in-Retires.at
    (ready_call (Answers g.R.Fn c.args.route.now.rule) (Gives g.F.Fn c.args.faults.now.rule) c.args.self.now
    c.args.clock c.args.due c.requires.coming).ready c.in-Retires.is).1

pub retire-requires-clause-published : goal.retire-requires-clause-published
retire-requires-clause-published g c =
    published_within (Answers g.R.Fn c.args.route.now.rule) (Gives g.F.Fn c.args.faults.now.rule) c.args.self.now
    c.args.clock c.args.due
    (ready_call (Answers g.R.Fn c.args.route.now.rule) (Gives g.F.Fn c.args.faults.now.rule) c.args.self.now
    c.args.clock c.args.due c.requires.coming).ready

pub steer-requires-clause-can : goal.steer-requires-clause-can
steer-requires-clause-can g c =
    can_steer (Answers g.R.Fn c.args.route.now.rule) (Gives g.F.Fn c.args.faults.now.rule) c.args.self.now c.args.clock
    c.args.due c.in-Steers.packet
    (ready_call (Answers g.R.Fn c.args.route.now.rule) (Gives g.F.Fn c.args.faults.now.rule) c.args.self.now
    c.args.clock c.args.due c.requires.coming).ready c.in-Steers.is

pub unreachable-requires : goal.unreachable-requires
unreachable-requires g c =
    elim c.in-Arrives.is [
      | inl copy ↦ no_arrival (Answers g.R.Fn c.args.route.now.rule) (Gives g.F.Fn c.args.faults.now.rule)
          c.args.self.now c.args.clock c.args.due copy.0 copy.1
          (ready_call (Answers g.R.Fn c.args.route.now.rule) (Gives g.F.Fn c.args.faults.now.rule) c.args.self.now
          c.args.clock c.args.due c.requires.coming) copy.2
      | inr loss ↦ no_loss (Answers g.R.Fn c.args.route.now.rule) (Gives g.F.Fn c.args.faults.now.rule) c.args.self.now
          c.args.clock c.args.due loss.0 loss.1
          (ready_call (Answers g.R.Fn c.args.route.now.rule) (Gives g.F.Fn c.args.faults.now.rule) c.args.self.now
          c.args.clock c.args.due c.requires.coming) loss.2
    ]

pub returns-in_ok-publish-in-Publishes : goal.returns-in_ok-publish-in-Publishes
returns-in_ok-publish-in-Publishes g c =
    published (Answers g.R.Fn c.args.route.now.rule) (Gives g.F.Fn c.args.faults.now.rule) c.args.self.now
    c.publish.new.self c.args.clock c.args.due c.in-Publishes.version
    (ready_call (Answers g.R.Fn c.args.route.now.rule) (Gives g.F.Fn c.args.faults.now.rule) c.args.self.now
    c.args.clock c.args.due c.requires.coming).ready c.in-Publishes.is c.in_ok-publish-in-Publishes.ensures

pub returns-in_ok-switch-in-Switches : goal.returns-in_ok-switch-in-Switches
returns-in_ok-switch-in-Switches g c =
    switched (Answers g.R.Fn c.args.route.now.rule) (Gives g.F.Fn c.args.faults.now.rule) c.args.self.now
    c.switch.new.self c.args.clock c.args.due c.in-Switches.mux c.in-Switches.version
    (ready_call (Answers g.R.Fn c.args.route.now.rule) (Gives g.F.Fn c.args.faults.now.rule) c.args.self.now
    c.args.clock c.args.due c.requires.coming).ready c.in-Switches.is c.in_ok-switch-in-Switches.ensures

pub returns-in_ok-close-in-Closes : goal.returns-in_ok-close-in-Closes
returns-in_ok-close-in-Closes g c =
    closed_one (Answers g.R.Fn c.args.route.now.rule) (Gives g.F.Fn c.args.faults.now.rule) c.args.self.now
    c.close.new.self c.args.clock c.args.due c.in-Closes.server c.in-Closes.flow
    (ready_call (Answers g.R.Fn c.args.route.now.rule) (Gives g.F.Fn c.args.faults.now.rule) c.args.self.now
    c.args.clock c.args.due c.requires.coming).ready c.in-Closes.is c.in_ok-close-in-Closes.ensures

pub returns-in_ok-retire-in-Retires : goal.returns-in_ok-retire-in-Retires
returns-in_ok-retire-in-Retires g c =
    retired_one (Answers g.R.Fn c.args.route.now.rule) (Gives g.F.Fn c.args.faults.now.rule) c.args.self.now
    c.retire.new.self c.args.clock c.args.due c.in-Retires.server c.in-Retires.shard
    (record { 0 = c.in-Retires.at })
    (ready_call (Answers g.R.Fn c.args.route.now.rule) (Gives g.F.Fn c.args.faults.now.rule) c.args.self.now
    c.args.clock c.args.due c.requires.coming).ready c.in-Retires.is c.in_ok-retire-in-Retires.ensures

pub returns-in_ok-sync-in-Syncs : goal.returns-in_ok-sync-in-Syncs
returns-in_ok-sync-in-Syncs g c =
    synced (Answers g.R.Fn c.args.route.now.rule) (Gives g.F.Fn c.args.faults.now.rule) c.args.self.now c.sync.new.self
    c.args.clock c.args.due
    (ready_call (Answers g.R.Fn c.args.route.now.rule) (Gives g.F.Fn c.args.faults.now.rule) c.args.self.now
    c.args.clock c.args.due c.requires.coming).ready c.in-Syncs.is c.in_ok-sync-in-Syncs.ensures

pub returns-in_ok-steer-in-Steers : goal.returns-in_ok-steer-in-Steers
returns-in_ok-steer-in-Steers g c =
    steered (Answers g.R.Fn c.args.route.now.rule) (Gives g.F.Fn c.args.faults.now.rule) c.args.self.now
    c.steer.new.self c.args.clock c.args.due c.in-Steers.packet
    (ready_call (Answers g.R.Fn c.args.route.now.rule) (Gives g.F.Fn c.args.faults.now.rule) c.args.self.now
    c.args.clock c.args.due c.requires.coming).ready c.in-Steers.is c.in_ok-steer-in-Steers.ensures

use Rattle.std.proofs.Common.{◌≤◌, ap, sym, subst, ◌∙◌, arith}
use Rattle.bm_base.specs.declared.flow.Segment.{Segment}
use Rattle.bm_fault.specs.declared.wire.Flight.{Flight}
use Rattle.bm_fault.specs.Faults.{Gives}
use Rattle.bm_replay.specs.Inside.Players.{forwards}
use Rattle.bm_replay.proofs.CopiesRead.{call_is, comes, is_copy, is_read, next_is, read_as, says, says_next}
use Rattle.bm_replay.proofs.player.Player.arrive.Goals as goal

pub unreachable-requires-in_default-read : goal.unreachable-requires-in_default-read
unreachable-requires-in_default-read g c =
    let first = sym c.pop.ensures.first ∙ c.in-Some.is in
    let copy =
    is_copy c.args.clock c.args.self.now c.requires.can c.in-Some.flight c.get-octets.result.now first
    c.get-octets.ensures in
    let said =
    says c.args.self.now c.in-Some.flight c.requires.can.segment c.get-octets.result.now c.load.new.self copy
    c.in_ok-load.ensures in
    is_read c.in-Some.flight c.requires.can.segment c.read.result c.load.new.self c.read.ensures.carried said
    c.in_default-read.is

pub serve-requires-clause-taken : goal.serve-requires-clause-taken
serve-requires-clause-taken g c =
    let first = sym c.pop.ensures.first ∙ c.in-Some.is in
    let copy =
    is_copy c.args.clock c.args.self.now c.requires.can c.in-Some.flight c.get-octets.result.now first
    c.get-octets.ensures in
    let said =
    says c.args.self.now c.in-Some.flight c.requires.can.segment c.get-octets.result.now c.load.new.self copy
    c.in_ok-load.ensures in
    let read =
    read_as c.in-Some.flight c.requires.can.segment c.in-Some-read.segment c.in-Some-read.tag c.read.result
    c.load.new.self c.read.ensures.carried said c.in-Some-read.is in
    let low = c.requires.can.clock in
    let is_before = ap (λ m. m.0) c.before-2.ensures in
    record {
      moment = omega arith;
      short = subst (λ (x : Segment). x.len ≤ 1048576) read.segment_is c.requires.can.len;
    }

pub go_on-requires-clause-next : goal.go_on-requires-clause-next
go_on-requires-clause-next g c =
    let first = sym c.pop.ensures.first ∙ c.in-Some.is in
    let copy =
    is_copy c.args.clock c.args.self.now c.requires.can c.in-Some.flight c.get-octets.result.now first
    c.get-octets.ensures in
    let said =
    says c.args.self.now c.in-Some.flight c.requires.can.segment c.get-octets.result.now c.load.new.self copy
    c.in_ok-load.ensures in
    let read =
    read_as c.in-Some.flight c.requires.can.segment c.in-Some-read.segment c.in-Some-read.tag c.read.result
    c.load.new.self c.read.ensures.carried said c.in-Some-read.is in
    let next = c.next_server.ensures ∙ (ap forwards c.in_ok-what.ensures.what
    ∙ next_is c.args.clock c.args.self.now (record { packet = c.in-Some.flight.packet; tag = c.in-Some-read.tag })
    c.in-Some-read.segment _ _ c.pop.new.self c.shard_of-shard.ensures c.before-2.ensures) in
    says_next c.args.clock c.args.self.now c.in-Some.flight c.requires.can.segment c.in-Some-read.segment
    c.in-Some-read.tag c.get-octets.result.now c.load.new.self c.next_server.result copy c.in_ok-load.ensures read
    next

pub returns : goal.returns
returns g c =
    let first = sym c.pop.ensures.first ∙ c.in-Some.is in
    let copy =
    is_copy c.args.clock c.args.self.now c.requires.can c.in-Some.flight c.get-octets.result.now first
    c.get-octets.ensures in
    let said =
    says c.args.self.now c.in-Some.flight c.requires.can.segment c.get-octets.result.now c.load.new.self copy
    c.in_ok-load.ensures in
    let read =
    read_as c.in-Some.flight c.requires.can.segment c.in-Some-read.segment c.in-Some-read.tag c.read.result
    c.load.new.self c.read.ensures.carried said c.in-Some-read.is in
    let flight : Flight = record { packet = c.in-Some.flight.packet; tag = c.in-Some-read.tag } in
    let next = c.next_server.ensures ∙ (ap forwards c.in_ok-what.ensures.what
    ∙ next_is c.args.clock c.args.self.now flight c.in-Some-read.segment _ _ c.pop.new.self c.shard_of-shard.ensures
    c.before-2.ensures) in
    let come = call_is c.args.clock c.args.self.now c.serve.new.self flight c.in-Some-read.segment _ _ _
    c.pop.ensures.others c.shard_of-shard.ensures c.before-2.ensures c.in_ok-what.ensures.effect in
    comes (Gives g.F.Fn c.args.faults.now.rule) c.args.clock c.args.self.now c.serve.new.self c.go_on.new.self
    c.requires.can c.in-Some.flight c.in-Some-read.segment c.in-Some-read.tag c.next_server.result first read next
    come c.in_ok-go_on.ensures

use Rattle.std.proofs.Common.{◌≡◌, ℕ, List, map, Option, Ok, Err, Result, sym, ap, ◌∙◌, subst}
use Rattle.std.proofs.lemmas.Option.{same_Some}
use Rattle.bm_base.specs.declared.flow.Segment.{Segment}
use Rattle.bm_base.specs.declared.label.Tag.{Tag}
use Rattle.bm_turnstile.specs.Sittings.{who}
use Rattle.bm_shard.specs.declared.calls.ShardCall.TheVariants.{Arrive}
use Rattle.bm_shard.specs.declared.calls.ShardReply.TheVariants.{Arrived}
use Rattle.bm_shard.specs.Copies.{copy_in}
use Rattle.bm_shard.specs.declared.fault.HandleFault.{HandleFault}
use Rattle.bm_server.specs.Servings.{Serving}
use Rattle.bm_server.specs.Copies.{HandlesCopy}
use Rattle.bm_server.specs.Seats.{GetsReply}
use Rattle.bm_server.specs.Servings.{shard_for}
use Rattle.bm_worker.specs.Callers.{CallerState}
use Rattle.bm_worker.specs.Views.{caller_state}
use Rattle.bm_worker.proofs.Replying.{arrival_later, arrives, goes_onward, on_err}
use Rattle.bm_worker.proofs.Seating.{adds_call, adds_no_call, few_there, mine_there, seat_there, server_got, turns_kept, whos_kept}
use Rattle.bm_worker.proofs.caller.Caller.arrive.Goals as goal

pub handle-answer-requires-clause-mine : goal.handle-answer-requires-clause-mine
handle-answer-requires-clause-mine g c =
    mine_there c.args.self.now (caller_state c.self.inside) c.args.servers.now c.args.place c.index_mut.result.now
    c.index-servers-place.result
    c.self.view_is c.requires.has_seats c.requires.place c.index_mut.ensures.value c.index-servers-place.is

pub handle-answer-requires-clause-few : goal.handle-answer-requires-clause-few
handle-answer-requires-clause-few g c =
    few_there c.args.self.now (caller_state c.self.inside) c.args.servers.now c.args.place c.index_mut.result.now
    c.self.view_is c.requires.has_seats c.requires.place c.index_mut.ensures.value c.requires.few c.self.invariant.turns

pub arrived-requires-clause-memory : goal.arrived-requires-clause-memory
arrived-requires-clause-memory g c =
    let server = c.index-servers-place.result in
    let at = server_got c.args.servers.now c.args.place server c.requires.place c.index-servers-place.is in
    let copy = c.requires.copy server at in
    (subst (λ (r : Result (Tag × Segment) HandleFault). HandlesCopy server c.args.packet c.args.due r
    c.handle-answer.result c.index_mut.result.now
    c.handle-answer.new.seat) copy.1 c.handle-answer.ensures.replies).1

pub arrived-requires-clause-kind : goal.arrived-requires-clause-kind
arrived-requires-clause-kind g c =
    let server = c.index-servers-place.result in
    let at = server_got c.args.servers.now c.args.place server c.requires.place c.index-servers-place.is in
    let copy = c.requires.copy server at in
    arrives c.args.packet copy.0.0 copy.0.1 c.args.due c.handle-answer.result
    (subst (λ (r : Result (Tag × Segment) HandleFault). HandlesCopy server c.args.packet c.args.due r
    c.handle-answer.result c.index_mut.result.now
    c.handle-answer.new.seat) copy.1 c.handle-answer.ensures.replies).2

pub invariant_of-self : goal.invariant_of-self
invariant_of-self g c =
    let a = caller_state c.self.inside in record {
      turns = turns_kept a.seats c.args.place a.tries c.index_mut.result.now c.handle-answer.new.seat
          (seat_there c.args.self.now a c.args.servers.now c.args.place c.self.view_is c.requires.has_seats c.requires.place)
          c.index_mut.ensures.value c.handle-answer.ensures.turns c.self.invariant.turns;
    }

pub invariant_of-self-2 : goal.invariant_of-self-2
invariant_of-self-2 g c =
    let a = caller_state c.self.inside in record {
      turns = turns_kept a.seats c.args.place a.tries c.index_mut.result.now c.handle-answer.new.seat
          (seat_there c.args.self.now a c.args.servers.now c.args.place c.self.view_is c.requires.has_seats c.requires.place)
          c.index_mut.ensures.value c.handle-answer.ensures.turns c.self.invariant.turns;
    }

pub returns-in_err-clock-clause-same : goal.returns-in_err-clock-clause-same
returns-in_err-clock-clause-same g c = record {
  number = ap (λ (x : CallerState). x.number) c.self.view_is;
  who_is = whos_kept c.self.inside.seats.items c.args.place c.index_mut.result.now c.handle-answer.new.seat
      c.index_mut.ensures.value
      c.handle-answer.ensures.who ∙ ap (λ (x : CallerState). map (map who) x.seats) c.self.view_is;
}

pub returns-clause-same : goal.returns-clause-same
returns-clause-same g c = record {
  number = ap (λ (x : CallerState). x.number) c.self.view_is;
  who_is = whos_kept c.self.inside.seats.items c.args.place c.index_mut.result.now c.handle-answer.new.seat
      c.index_mut.ensures.value
      c.handle-answer.ensures.who ∙ ap (λ (x : CallerState). map (map who) x.seats) c.self.view_is;
}

pub returns-in_err-clock-clause-no_call : goal.returns-in_err-clock-clause-no_call
returns-in_err-clock-clause-no_call g c =
    let server = c.index-servers-place.result in
    let at = server_got c.args.servers.now c.args.place server c.requires.place c.index-servers-place.is in
    let copy = c.requires.copy server at in
    let handled =
    subst (λ (r : Result (Tag × Segment) HandleFault). HandlesCopy server c.args.packet c.args.due r
    c.handle-answer.result
    c.index_mut.result.now c.handle-answer.new.seat) copy.1 c.handle-answer.ensures.replies in
    let why : (fault : HandleFault) × (c.handle-answer.result ≡ Err fault) = c.in_err-clock.ensures in
    on_err c.from_residual.result (
    adds_no_call c.args.self.now (caller_state c.self.inside) c.args.servers.now c.args.place (shard_for server copy.0.1.flow)
    c.index_mut.result.now c.handle-answer.new.seat (Arrive c.args.packet copy.0.0 copy.0.1 c.args.due)
    c.handle-answer.result why.0
    c.self.view_is c.requires.has_seats c.requires.place c.index_mut.ensures.value handled.0 why.1)

pub returns-clause-call : goal.returns-clause-call
returns-clause-call g c = λ server' read at' copy.
    let server = c.index-servers-place.result in
    let at = server_got c.args.servers.now c.args.place server c.requires.place c.index-servers-place.is in
    let same : server' ≡ server = same_Some server' server (sym at' ∙ at) in
    let copy' = ap (λ (x : Serving). copy_in x.id c.args.octets.now) (sym same) ∙ copy in
    let handled =
    subst (λ (r : Result (Tag × Segment) HandleFault). HandlesCopy server c.args.packet c.args.due r
    c.handle-answer.result
    c.index_mut.result.now c.handle-answer.new.seat) copy' c.handle-answer.ensures.replies in
    let given : (reset : Option (List ℕ))
    × (c.handle-answer.result ≡ Ok (Arrived c.in_ok-clock.clock c.in_ok-clock.verdict reset)) =
    c.in_ok-clock.ensures in
    record {
      reset = given.0;
      adds = adds_call c.args.self.now (caller_state c.self.inside) c.args.servers.now c.args.place
          (shard_for server' read.1.flow)
          c.index_mut.result.now c.handle-answer.new.seat (Arrive c.args.packet read.0 read.1 c.args.due)
          c.handle-answer.result
          (Arrived c.in_ok-clock.clock c.in_ok-clock.verdict given.0)
          c.self.view_is c.requires.has_seats c.requires.place c.index_mut.ensures.value
          (subst (λ (x : Serving). GetsReply (shard_for x read.1.flow) (Arrive c.args.packet read.0 read.1 c.args.due)
          c.handle-answer.result
          c.index_mut.result.now c.handle-answer.new.seat) (sym same) handled.0) given.1;
      passed = goes_onward c.args.packet read c.args.due c.in_ok-clock.clock c.in_ok-clock.verdict given.0
          c.handle-answer.result given.1 handled.2;
    }

pub returns-clause-later : goal.returns-clause-later
returns-clause-later g c =
    let server = c.index-servers-place.result in
    let at = server_got c.args.servers.now c.args.place server c.requires.place c.index-servers-place.is in
    let copy = c.requires.copy server at in
    let handled =
    subst (λ (r : Result (Tag × Segment) HandleFault). HandlesCopy server c.args.packet c.args.due r
    c.handle-answer.result
    c.index_mut.result.now c.handle-answer.new.seat) copy.1 c.handle-answer.ensures.replies in
    let given : (reset : Option (List ℕ))
    × (c.handle-answer.result ≡ Ok (Arrived c.in_ok-clock.clock c.in_ok-clock.verdict reset)) =
    c.in_ok-clock.ensures in
    arrival_later c.args.packet copy.0 c.args.due c.in_ok-clock.clock c.in_ok-clock.verdict given.0
    c.handle-answer.result given.1 handled.2

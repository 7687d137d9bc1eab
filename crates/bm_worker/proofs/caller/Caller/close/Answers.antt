use Rattle.std.proofs.Common.{map, ap, set, subst, sym, ◌∙◌}
use Rattle.std.proofs.lemmas.Option.{same_Some}
use Rattle.bm_turnstile.specs.Sittings.{who}
use Rattle.bm_shard.specs.declared.calls.ShardCall.TheVariants.{Close}
use Rattle.bm_shard.specs.declared.calls.ShardReply.TheVariants.{Closed}
use Rattle.bm_server.specs.Servings.{Serving, shard_for}
use Rattle.bm_worker.specs.Callers.{CallerState}
use Rattle.bm_worker.specs.SeatCalls.{AddsCall}
use Rattle.bm_worker.specs.Views.{caller_state}
use Rattle.bm_worker.proofs.Replying.{close_later, closes, on_err}
use Rattle.bm_worker.proofs.Seating.{adds_call, adds_no_call, few_there, mine_there, seat_there, server_got, turns_kept, whos_kept}
use Rattle.bm_worker.proofs.caller.Caller.close.Goals as goal

pub close_flow-answer-requires-clause-mine : goal.close_flow-answer-requires-clause-mine
close_flow-answer-requires-clause-mine g c =
    mine_there c.args.self.now (caller_state c.self.inside) c.args.servers.now c.args.place c.index_mut.result.now
    c.index-servers-place.result
    c.self.view_is c.requires.has_seats c.requires.place c.index_mut.ensures.value c.index-servers-place.is

pub close_flow-answer-requires-clause-few : goal.close_flow-answer-requires-clause-few
close_flow-answer-requires-clause-few g c =
    few_there c.args.self.now (caller_state c.self.inside) c.args.servers.now c.args.place c.index_mut.result.now
    c.self.view_is c.requires.has_seats c.requires.place c.index_mut.ensures.value c.requires.few c.self.invariant.turns

pub closed-requires : goal.closed-requires
closed-requires g c =
    record { kind = closes c.args.flow c.args.at c.close_flow-answer.result c.close_flow-answer.ensures.reply }

pub invariant_of-self : goal.invariant_of-self
invariant_of-self g c =
    let a = caller_state c.self.inside in record {
      turns = turns_kept a.seats c.args.place a.tries c.index_mut.result.now c.close_flow-answer.new.seat
          (seat_there c.args.self.now a c.args.servers.now c.args.place c.self.view_is c.requires.has_seats c.requires.place)
          c.index_mut.ensures.value c.close_flow-answer.ensures.turns c.self.invariant.turns;
    }

pub invariant_of-self-2 : goal.invariant_of-self-2
invariant_of-self-2 g c =
    let a = caller_state c.self.inside in record {
      turns = turns_kept a.seats c.args.place a.tries c.index_mut.result.now c.close_flow-answer.new.seat
          (seat_there c.args.self.now a c.args.servers.now c.args.place c.self.view_is c.requires.has_seats c.requires.place)
          c.index_mut.ensures.value c.close_flow-answer.ensures.turns c.self.invariant.turns;
    }

pub returns-in_err-clock-clause-same : goal.returns-in_err-clock-clause-same
returns-in_err-clock-clause-same g c = record {
  number = ap (λ (x : CallerState). x.number) c.self.view_is;
  who_is = whos_kept c.self.inside.seats.items c.args.place c.index_mut.result.now c.close_flow-answer.new.seat
      c.index_mut.ensures.value
      c.close_flow-answer.ensures.who ∙ ap (λ (x : CallerState). map (map who) x.seats) c.self.view_is;
}

pub returns-clause-same : goal.returns-clause-same
returns-clause-same g c = record {
  number = ap (λ (x : CallerState). x.number) c.self.view_is;
  who_is = whos_kept c.self.inside.seats.items c.args.place c.index_mut.result.now c.close_flow-answer.new.seat
      c.index_mut.ensures.value
      c.close_flow-answer.ensures.who ∙ ap (λ (x : CallerState). map (map who) x.seats) c.self.view_is;
}

pub returns-in_err-clock-clause-no_call : goal.returns-in_err-clock-clause-no_call
returns-in_err-clock-clause-no_call g c = on_err c.from_residual.result (
    adds_no_call c.args.self.now (caller_state c.self.inside) c.args.servers.now c.args.place
    (shard_for c.index-servers-place.result c.args.flow)
    c.index_mut.result.now c.close_flow-answer.new.seat (Close c.args.flow c.args.at) c.close_flow-answer.result
    c.in_err-clock.field-0.0
    c.self.view_is c.requires.has_seats c.requires.place c.index_mut.ensures.value c.close_flow-answer.ensures.replies
    c.in_err-clock.ensures)

pub returns-clause-call : goal.returns-clause-call
returns-clause-call g c = λ server at.
    let here = c.index-servers-place.result in
    let is = server_got c.args.servers.now c.args.place here c.requires.place c.index-servers-place.is in
    subst (λ (x : Serving). AddsCall c.args.place (shard_for x c.args.flow) (Close c.args.flow c.args.at)
    (Closed c.in_ok-clock.clock c.in_ok-clock.was_held) c.args.self.now.seats
    (set (caller_state c.self.inside).seats c.args.place c.close_flow-answer.new.seat))
    (same_Some here server (sym is ∙ at))
    (adds_call c.args.self.now (caller_state c.self.inside) c.args.servers.now c.args.place (shard_for here c.args.flow)
    c.index_mut.result.now c.close_flow-answer.new.seat (Close c.args.flow c.args.at) c.close_flow-answer.result
    (Closed c.in_ok-clock.clock c.in_ok-clock.was_held) c.self.view_is c.requires.has_seats c.requires.place
    c.index_mut.ensures.value
    c.close_flow-answer.ensures.replies c.in_ok-clock.ensures)

pub returns-clause-later : goal.returns-clause-later
returns-clause-later g c =
    close_later c.args.flow c.args.at c.in_ok-clock.clock c.in_ok-clock.was_held c.close_flow-answer.result
    c.in_ok-clock.ensures
    c.close_flow-answer.ensures.reply

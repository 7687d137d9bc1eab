use Rattle.std.proofs.Common.{map, ap, ◌∙◌}
use Rattle.bm_turnstile.specs.Sittings.{who}
use Rattle.bm_shard.specs.declared.calls.ShardCall.TheVariants.{Retire}
use Rattle.bm_shard.specs.declared.calls.ShardReply.TheVariants.{Retired}
use Rattle.bm_worker.specs.Callers.{CallerState}
use Rattle.bm_worker.specs.Views.{caller_state}
use Rattle.bm_worker.proofs.Replying.{on_err, retirement_later, retires}
use Rattle.bm_worker.proofs.Seating.{adds_call, adds_no_call, few_there, mine_there, seat_there, turns_kept, whos_kept}
use Rattle.bm_worker.proofs.caller.Caller.retire.Goals as goal

pub retire-answer-requires-clause-mine : goal.retire-answer-requires-clause-mine
retire-answer-requires-clause-mine g c =
    mine_there c.args.self.now (caller_state c.self.inside) c.args.servers.now c.args.place c.index_mut.result.now
    c.index-servers-place.result
    c.self.view_is c.requires.has_seats c.requires.place c.index_mut.ensures.value c.index-servers-place.is

pub retire-answer-requires-clause-few : goal.retire-answer-requires-clause-few
retire-answer-requires-clause-few g c =
    few_there c.args.self.now (caller_state c.self.inside) c.args.servers.now c.args.place c.index_mut.result.now
    c.self.view_is c.requires.has_seats c.requires.place c.index_mut.ensures.value c.requires.few c.self.invariant.turns

pub retired-requires : goal.retired-requires
retired-requires g c =
    record { kind = retires c.args.at c.args.outcome c.retire-answer.result c.retire-answer.ensures.reply }

pub invariant_of-self : goal.invariant_of-self
invariant_of-self g c =
    let a = caller_state c.self.inside in record {
      turns = turns_kept a.seats c.args.place a.tries c.index_mut.result.now c.retire-answer.new.seat
          (seat_there c.args.self.now a c.args.servers.now c.args.place c.self.view_is c.requires.has_seats c.requires.place)
          c.index_mut.ensures.value c.retire-answer.ensures.turns c.self.invariant.turns;
    }

pub invariant_of-self-2 : goal.invariant_of-self-2
invariant_of-self-2 g c =
    let a = caller_state c.self.inside in record {
      turns = turns_kept a.seats c.args.place a.tries c.index_mut.result.now c.retire-answer.new.seat
          (seat_there c.args.self.now a c.args.servers.now c.args.place c.self.view_is c.requires.has_seats c.requires.place)
          c.index_mut.ensures.value c.retire-answer.ensures.turns c.self.invariant.turns;
    }

pub returns-in_err-clock-clause-same : goal.returns-in_err-clock-clause-same
returns-in_err-clock-clause-same g c = record {
  number = ap (λ (x : CallerState). x.number) c.self.view_is;
  who_is = whos_kept c.self.inside.seats.items c.args.place c.index_mut.result.now c.retire-answer.new.seat
      c.index_mut.ensures.value
      c.retire-answer.ensures.who ∙ ap (λ (x : CallerState). map (map who) x.seats) c.self.view_is;
}

pub returns-clause-same : goal.returns-clause-same
returns-clause-same g c = record {
  number = ap (λ (x : CallerState). x.number) c.self.view_is;
  who_is = whos_kept c.self.inside.seats.items c.args.place c.index_mut.result.now c.retire-answer.new.seat
      c.index_mut.ensures.value
      c.retire-answer.ensures.who ∙ ap (λ (x : CallerState). map (map who) x.seats) c.self.view_is;
}

pub returns-in_err-clock-clause-no_call : goal.returns-in_err-clock-clause-no_call
returns-in_err-clock-clause-no_call g c = on_err c.from_residual.result (
    adds_no_call c.args.self.now (caller_state c.self.inside) c.args.servers.now c.args.place c.args.shard
    c.index_mut.result.now c.retire-answer.new.seat (Retire c.args.at c.args.outcome) c.retire-answer.result
    c.in_err-clock.field-0.0
    c.self.view_is c.requires.has_seats c.requires.place c.index_mut.ensures.value c.retire-answer.ensures.replies
    c.in_err-clock.ensures)

pub returns-clause-call : goal.returns-clause-call
returns-clause-call g c =
    adds_call c.args.self.now (caller_state c.self.inside) c.args.servers.now c.args.place c.args.shard
    c.index_mut.result.now c.retire-answer.new.seat (Retire c.args.at c.args.outcome) c.retire-answer.result
    (Retired c.in_ok-clock.clock) c.self.view_is c.requires.has_seats c.requires.place c.index_mut.ensures.value
    c.retire-answer.ensures.replies c.in_ok-clock.ensures

pub returns-clause-later : goal.returns-clause-later
returns-clause-later g c =
    retirement_later c.args.at c.in_ok-clock.clock c.args.outcome c.retire-answer.result c.in_ok-clock.ensures
    c.retire-answer.ensures.reply

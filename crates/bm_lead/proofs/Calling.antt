-- What the calls of worker 0 do, and what they add to the calls of its seats.
use Rattle.std.proofs.Common.{◌≡◌, ℕ, ◌+◌, ◌*◌, ◌^◌, ◌<◌, ◌≤◌, max, false, List, [], ◌∷◌}
use Rattle.std.proofs.Common.{Option, Some, refl, sym, ap, ◌∙◌, append-nil, arith, subst}
use Rattle.bm_base.specs.declared.ids.Moment.{Moment}
use Rattle.bm_base.specs.declared.ids.ServerId.{ServerId}
use Rattle.bm_table.specs.declared.plan.Change.{Change}
use Rattle.bm_table.specs.declared.plan.Retirement.{Retirement}
use Rattle.bm_table.specs.Tables.{change_moment, next_change}
use Rattle.bm_core.specs.declared.events.Stage.{Stage}
use Rattle.bm_core.specs.Runs.Actor.{ShardOf}
use Rattle.bm_core.specs.Stages.{IsSound}
use Rattle.bm_core.proofs.Moments.{sound_early}
use Rattle.bm_merge.specs.Notes.{Note}
use Rattle.bm_merge.specs.Workers.{is_home}
use Rattle.bm_server.specs.Servings.{Serving, shard_at}
use Rattle.bm_server.specs.Seats.{Seated}
use Rattle.bm_worker.specs.WorkerNotes.{GetReplies, IsSameCaller, HasSeats, timed_events}
use Rattle.bm_worker.specs.Inside.WorkerNotes.{retiring}
use Rattle.bm_worker.specs.Callers.{CallerState}
use Rattle.bm_worker.specs.SeatCalls.{calls_there}
use Rattle.bm_worker.proofs.CallNotes.{gets_more, gets_none}
use Rattle.bm_publish.specs.Posts.{Posted}
use Rattle.bm_lead.specs.declared.leader.Leader.{Leader}
use Rattle.bm_lead.specs.Commands.{control_log}
use Rattle.bm_lead.specs.Inside.Steps.{AreRetirings, HasCalled, HasDone}

-- the moment of a change of a sound script
pub change_early : (stage : Stage) (v : ℕ) (change : Change) → IsSound stage
    → next_change stage.script.plan v ≡ Some change → change.moment.0 ≤ 45 * 10 ^ 17
change_early stage v change sound is =
    subst (λ (o : Option Change). change_moment o ≤ 45 * 10 ^ 17) is ((sound_early stage sound).changes v)

-- what isn't at a shard adds no call
pub gets_elsewhere : (stage : Stage) (servers : List Serving) (a b : List (List Seated)) (n : Note) → b ≡ a
    → ((s h : ℕ) → is_home stage (ShardOf s h) n ≡ false) → GetReplies stage servers a b (n ∷ [])
gets_elsewhere stage servers a b n same away s h server at =
    rw (same, away server.id.0 h) (sym (append-nil (timed_events (shard_at server h) (calls_there a s h))))

pub same_caller : (a b d : CallerState) → IsSameCaller a b → IsSameCaller b d → IsSameCaller a d
same_caller a b d first then =
    record { number = then.number ∙ first.number; who_is = then.who_is ∙ first.who_is }

pub sits_kept : (servers : List Serving) (a b : CallerState) → HasSeats servers a → IsSameCaller a b → HasSeats servers b
sits_kept servers a b has_seats same = rw same.number (same.who_is ∙ has_seats)

-- no call yet
pub none_called : (stage : Stage) (servers : List Serving) (a : CallerState) → HasCalled stage servers 0 a a []
none_called stage servers a = record {
  replies = gets_none stage servers a.seats;
  same = record { number = refl; who_is = refl };
  tries = omega arith;
  latest = omega arith;
}

-- one shard more
pub retired_more : (stage : Stage) (servers : List Serving) (i k : ℕ) (server : Serving) (at clock : Moment)
    (outcome : Retirement) (a b d : CallerState) (notes : List Note) → b.number ≡ 0
    → AreRetirings i server.id at outcome k notes → HasCalled stage servers k a b notes
    → GetReplies stage servers b.seats d.seats (retiring clock server.id k at outcome i b.number ∷ [])
    → IsSameCaller b d → d.tries ≤ b.tries + 1 → d.latest ≡ max b.latest clock.0 → at.0 < clock.0
    → (notes : List Note) × AreRetirings i server.id at outcome (k + 1) notes
    × HasCalled stage servers (k + 1) a d notes
retired_more stage servers i k server at clock outcome a b d notes zero are called replies same tries latest later =
    let n = retiring clock server.id k at outcome i 0 in
    let one : GetReplies stage servers b.seats d.seats (n ∷ []) =
    subst (λ (w : ℕ). GetReplies stage servers b.seats d.seats (retiring clock server.id k at outcome i w ∷ [])) zero
    replies in (
      n ∷ notes,
      (clock, k, omega arith, refl, later, are),
      record {
        replies = gets_more stage servers a.seats b.seats d.seats notes (n ∷ []) called.replies one;
        same = same_caller a b d called.same same;
        tries = let t = called.tries in omega arith;
        latest = let l = called.latest in omega arith;
      },
    )

pub called_up_to : (stage : Stage) (servers : List Serving) (n m : ℕ) (a b : CallerState) (notes : List Note) → n ≤ m
    → HasCalled stage servers n a b notes → HasCalled stage servers m a b notes
called_up_to stage servers n m a b notes low called = record {
  replies = called.replies;
  same = called.same;
  tries = let t = called.tries in omega arith;
  latest = called.latest;
}

-- the controller has nothing of it in its log
pub retirings_elsewhere : (stage : Stage) (i h : ℕ) (server : ServerId) (at : Moment) (outcome : Retirement)
    (notes : List Note) → AreRetirings i server at outcome h notes → control_log stage notes ≡ []
retirings_elsewhere stage i h server at outcome [] are = refl
retirings_elsewhere stage i h server at outcome (n ∷ notes) are =
    subst (λ (n : Note). control_log stage (n ∷ notes) ≡ []) (sym are.3)
    (retirings_elsewhere stage i are.1 server at outcome notes are.5)

-- calls alone
pub has_called : (stage : Stage) (servers : List Serving) (p : Posted) (a b : Leader) (notes : List Note)
    → HasCalled stage servers 64 a.caller b.caller notes → control_log stage notes ≡ [] → b.next ≡ a.next
    → b.log.items ≡ a.log.items → b.published.0 ≡ a.published.0
    → HasDone stage servers p p a b notes
has_called stage servers p a b notes called away next log published = record {
  called = called;
  next = next;
  log = rw away (log ∙ sym (append-nil a.log.items));
  posted = rw away (ap (λ (l : List ℕ). record p { clocks = l }) (sym (append-nil p.clocks)));
  published = rw away published;
}

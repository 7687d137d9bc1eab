use Rattle.std.proofs.Common.{◌≡◌, ℕ, ◌<◌, List, length, refl, sym, ap, ◌∙◌, subst, arith, [], ◌∷◌, max, append-nil}
use Rattle.std.specs.Prelude.{slice_get}
use Rattle.bm_base.specs.declared.ids.ServerId.{ServerId}
use Rattle.bm_server.specs.Servings.{Serving}
use Rattle.bm_worker.specs.WorkerNotes.{GetReplies, HasSeats}
use Rattle.bm_worker.specs.Inside.WorkerNotes.{closing}
use Rattle.bm_worker.proofs.Carrying.{place_inside}
use Rattle.bm_worker.proofs.CallNotes.{gets_close}
use Rattle.bm_lead.proofs.command.close.Goals as goal

pub close-requires-clause-place : goal.close-requires-clause-place
close-requires-clause-place g c =
    let at = c.known_place-place.ensures in
    subst (λ (l : List Serving). c.known_place-place.result < length l) (sym c.servers.ensures.value)
    (place_inside c.args.shared.now.servers c.known_place-place.result at.0 at.1)

pub close-requires-clause-has_seats : goal.close-requires-clause-has_seats
close-requires-clause-has_seats g c =
    subst (λ (l : List Serving). HasSeats l c.args.leader.now.caller) (sym c.servers.ensures.value) c.requires.can.has_seats

pub returns-clause-ok : goal.returns-clause-ok
returns-clause-ok g c = λ p.
    let a = c.args.leader.now in
    let server = c.known_place-place.ensures.0 in
    let due = c.in_ok-due.due in
    let at = c.known_place-place.ensures.1 in
    let same = c.known_place-place.ensures.2 in
    let done = c.in_ok-_closed._closed in
    let is : due.0 ≡ max c.args.at.0 a.caller.latest =
    (let e = c.in_ok-due.ensures.ok.0 in let l = c.latest.ensures in omega arith) in (
      closing done.0 c.args.server c.args.flow done.1 a.next (max c.args.at.0 a.caller.latest) 0 ∷ [],
      (done.0, done.1, refl, let h = c.in_ok-_closed.ensures.later in omega arith),
      record {
        called = record {
          replies = subst
              (λ (s : ServerId). GetReplies c.args.shared.now.stage c.args.shared.now.servers a.caller.seats c.close.new.self.seats
              (closing done.0 s c.args.flow done.1 a.next (max c.args.at.0 a.caller.latest) 0 ∷ [])) same
              (subst (λ (w : ℕ). GetReplies c.args.shared.now.stage c.args.shared.now.servers a.caller.seats c.close.new.self.seats
              (closing done.0 server.id c.args.flow done.1 a.next (max c.args.at.0 a.caller.latest) w ∷ []))
              c.requires.can.number
              (subst (λ (d : ℕ). GetReplies c.args.shared.now.stage c.args.shared.now.servers a.caller.seats c.close.new.self.seats
              (closing done.0 server.id c.args.flow done.1 a.next d a.caller.number ∷ [])) is
              (gets_close c.args.shared.now.stage c.args.shared.now.servers c.known_place-place.result a.next a.caller.number server
              c.args.flow due done.0 done.1 a.caller.seats c.close.new.self.seats c.servers.ensures.set_up.servers_are at
              (c.in_ok-_closed.ensures.call server (ap (λ (l : List Serving). slice_get l c.known_place-place.result)
              c.servers.ensures.value ∙ at)))));
          same = c.in_ok-_closed.ensures.same;
          tries = let e = c.in_ok-_closed.ensures.tries in omega arith;
          latest = let e = c.in_ok-_closed.ensures.latest in omega arith;
        };
        next = refl;
        log = sym (append-nil a.log.items);
        posted = ap (λ (l : List ℕ). record p { clocks = l }) (sym (append-nil p.clocks));
        published = refl;
      },
    )

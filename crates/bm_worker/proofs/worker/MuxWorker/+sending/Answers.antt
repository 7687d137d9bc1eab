use Rattle.std.proofs.Common.{◌≡◌, ◌+◌, ◌*◌, ◌<◌, ◌≤◌, ℕ, sym, ap, ◌∙◌, subst, arith, refl, List, length, Some, Ok, rules}
use Rattle.std.specs.Prelude.{slice_get}
use Rattle.bm_fault.specs.Faults.{Gives}
use Rattle.bm_server.specs.Servings.{Serving}
use Rattle.bm_worker.specs.WorkerNotes.{NumbersRise, HasSeats}
use Rattle.bm_worker.specs.Inside.Pending.{HasCarried, pending}
use Rattle.bm_worker.proofs.Carrying.{asks_copy, carried_none, carried_whole, carries_late, carries_loss, carries_stop, place_inside}
use Rattle.bm_worker.proofs.Sent.{can_on, lost_of, sent_call, sent_loss, sent_nothing, sent_on}
use Rattle.bm_worker.proofs.Forwarding.{carried_copy, carried_copy_stop, carries_forward, carries_one, carries_one_stop, not_forward, has_onward, has_place, is_turned, turned_copy, goes_further, weight_of}
use Rattle.bm_worker.proofs.Labels.{copy_on}
use Rattle.bm_worker.proofs.Copying.{copy_reads}
use Rattle.bm_worker.proofs.Completing.{no_sending}
use Rattle.bm_encap.specs.Faults.{chained}
use Rattle.bm_core.specs.Inside.Weights.{hop_weight}
use Rattle.bm_worker.specs.Inside.Pending.{copy_lost, most_lost, most_tries}
use Rattle.bm_worker.proofs.Weighing.{lost_whole, lost_within, one_more, some_lost, some_tries, some_weight, top_of}
use Rattle.bm_worker.proofs.Weighing.{tries_whole, tries_within}
use Rattle.bm_worker.proofs.worker.MuxWorker.+sending.Goals as goal

-- A SENDING

pub send-returns-in_err-due-clause-carries : goal.send-returns-in_err-due-clause-carries
send-returns-in_err-due-clause-carries g t c =
    let d = pending c.args.sending.now.packet c.args.sending.now.hop c.args.sending.now.clock.0 c.args.sending.now.fate in
    carries_late (Gives g.F.Fn c.args.shared.now.rule) c.args.shared.now.stage
    c.args.shared.now.servers d (most_tries c.args.sending.now.hop) c.args.self.now
    c.from_residual.result c.in_err-due.field-0.0 c.from_residual.ensures.1 c.in_err-due.ensures

-- NO COPIES

pub send-returns-in_err-due-clause-sent : goal.send-returns-in_err-due-clause-sent
send-returns-in_err-due-clause-sent g t c =
    sent_nothing (most_lost c.args.sending.now.hop) (most_tries c.args.sending.now.hop) c.args.self.now

pub send-returns-then-sending-eq0-clause-sent : goal.send-returns-then-sending-eq0-clause-sent
send-returns-then-sending-eq0-clause-sent g t c =
    sent_loss (most_lost c.args.sending.now.hop) (most_tries c.args.sending.now.hop) c.args.sending.now.packet
    c.args.sending.now.clock.0 c.args.sending.now.hop c.args.self.now c.lose.new.self c.lose.result
    (some_lost c.args.sending.now.hop) c.lose.ensures

pub send-returns-then-sending-eq0-clause-carries : goal.send-returns-then-sending-eq0-clause-carries
send-returns-then-sending-eq0-clause-carries g t c =
    carries_loss (Gives g.F.Fn c.args.shared.now.rule) c.args.shared.now.stage
    c.args.shared.now.servers
    (pending c.args.sending.now.packet c.args.sending.now.hop c.args.sending.now.clock.0 c.args.sending.now.fate) (most_tries c.args.sending.now.hop) c.args.self.now
    c.lose.new.self c.lose.result
    (some_tries c.args.sending.now.hop) c.if-sending-eq0.true c.lose.ensures

-- THE LOOP

pub send-loop-init : goal.send-loop-init
send-loop-init g t c = record {
  sent = sent_nothing (copy_lost c.args.sending.now.hop * 0) (hop_weight c.args.sending.now.hop * 0) c.args.self.now;
  carried =
      let none : hop_weight c.args.sending.now.hop * 0 ≡ 0 = omega arith in
      subst (λ (n : ℕ). HasCarried (Gives g.F.Fn c.args.shared.now.rule) c.args.shared.now.stage
      c.args.shared.now.servers
      (pending c.args.sending.now.packet c.args.sending.now.hop c.args.sending.now.clock.0 c.args.sending.now.fate) 0 n
      c.args.self.now c.args.self.now) (sym none)
      (carried_none (Gives g.F.Fn c.args.shared.now.rule) c.args.shared.now.stage
      c.args.shared.now.servers
      (pending c.args.sending.now.packet c.args.sending.now.hop c.args.sending.now.clock.0 c.args.sending.now.fate) c.args.self.now);
}

pub send-loop-preserved : goal.send-loop-preserved
send-loop-preserved g t c =
    let i = c.loop.invariant in
    let more : hop_weight c.args.sending.now.hop * (c.loop.counter + 1) ≡ hop_weight c.args.sending.now.hop * c.loop.counter + hop_weight c.args.sending.now.hop =
    one_more (hop_weight c.args.sending.now.hop) c.loop.counter in
    record {
      sent = let h = c.args.sending.now.hop in let n = c.loop.counter in
          sent_on (copy_lost h * n) (copy_lost h) (copy_lost h * (n + 1)) (hop_weight h * n) (hop_weight h)
          (hop_weight h * (n + 1)) c.args.self.now c.loop.self c.carry_copy.new.self (top_of (copy_lost h) n)
          (top_of (hop_weight h) n) i.sent c.carry_copy.ensures.sent;
      carried =
          subst (λ (n : ℕ). HasCarried (Gives g.F.Fn c.args.shared.now.rule) c.args.shared.now.stage
          c.args.shared.now.servers
          (pending c.args.sending.now.packet c.args.sending.now.hop c.args.sending.now.clock.0 c.args.sending.now.fate)
          (c.loop.counter + 1) n c.args.self.now c.carry_copy.new.self)
          (sym more)
          (carried_copy (Gives g.F.Fn c.args.shared.now.rule) c.args.shared.now.stage
          c.args.shared.now.servers
          (pending c.args.sending.now.packet c.args.sending.now.hop c.args.sending.now.clock.0 c.args.sending.now.fate) c.loop.counter
          (hop_weight c.args.sending.now.hop * c.loop.counter) (hop_weight c.args.sending.now.hop) c.args.self.now
          c.loop.self c.carry_copy.new.self i.carried c.in_ok-carry_copy.ensures.carries);
    }

-- STOPPED

pub send-returns-in_err-carry_copy-clause-sent : goal.send-returns-in_err-carry_copy-clause-sent
send-returns-in_err-carry_copy-clause-sent g t c =
    let h = c.args.sending.now.hop in let n = c.loop.counter in
    let few : n < 3 = (let fate = c.requires.fate.0 in let lt = c.loop-test.true in omega (arith, fate, lt)) in
    sent_on (copy_lost h * n) (copy_lost h) (most_lost h) (hop_weight h * n) (hop_weight h) (most_tries h)
    c.args.self.now c.loop.self c.carry_copy.new.self (lost_within h n few) (tries_within h n few)
    c.loop.invariant.sent c.carry_copy.ensures.sent

pub send-returns-in_err-carry_copy-clause-carries : goal.send-returns-in_err-carry_copy-clause-carries
send-returns-in_err-carry_copy-clause-carries g t c =
    carried_copy_stop (Gives g.F.Fn c.args.shared.now.rule) c.args.shared.now.stage
    c.args.shared.now.servers
    (pending c.args.sending.now.packet c.args.sending.now.hop c.args.sending.now.clock.0 c.args.sending.now.fate) c.loop.counter
    (hop_weight c.args.sending.now.hop * c.loop.counter) (hop_weight c.args.sending.now.hop) (most_tries c.args.sending.now.hop) c.args.self.now
    c.loop.self c.carry_copy.new.self c.in_err-carry_copy.field-0.0 c.from_residual-in_err-carry_copy.result
    (tries_within c.args.sending.now.hop c.loop.counter (let fate = c.requires.fate.0 in let lt = c.loop-test.true in omega (arith, fate, lt)))
    c.from_residual-in_err-carry_copy.ensures.1
    c.loop.invariant.carried c.in_err-carry_copy.ensures.carries

-- ALL COPIES

pub send-returns-clause-sent : goal.send-returns-clause-sent
send-returns-clause-sent g t c =
    let h = c.args.sending.now.hop in let n = c.loop.counter in
    let few : n ≤ 3 = (let fate = c.requires.fate.0 in let le = c.loop.auto.counter-end in omega (arith, fate, le)) in
    sent_on (copy_lost h * n) 0 (most_lost h) (hop_weight h * n) 0 (most_tries h) c.args.self.now c.loop.self
    c.loop.self (lost_whole h n few) (let w = tries_whole h n few in omega (arith, w)) c.loop.invariant.sent
    (sent_nothing 0 0 c.loop.self)

pub send-returns-clause-carries : goal.send-returns-clause-carries
send-returns-clause-carries g t c =
    let le = c.loop.auto.counter-end in let over = c.loop-test.false in
    let all : c.loop.counter ≡ c.args.sending.now.fate.copies = omega (arith, le, over) in
    let some = c.if-sending-eq0.false in
    carried_whole (Gives g.F.Fn c.args.shared.now.rule) c.args.shared.now.stage
    c.args.shared.now.servers
    (pending c.args.sending.now.packet c.args.sending.now.hop c.args.sending.now.clock.0 c.args.sending.now.fate) c.loop.counter
    (hop_weight c.args.sending.now.hop * c.loop.counter) (most_tries c.args.sending.now.hop) c.args.self.now c.loop.self
    (tries_whole c.args.sending.now.hop c.loop.counter (let fate = c.requires.fate.0 in omega (arith, fate, all))) all
    (not_none c.loop.counter c.args.sending.now.fate.copies all some) c.loop.invariant.carried where
      not_none : (i n : ℕ) → i ≡ n → (n ≡ 0 → ⊥) → 1 ≤ i
      not_none i n all some = omega (arith, some, all)

-- ONE COPY

-- what holds at a place of the servers that were lent
at_place : (lent servers : List Serving) (place : ℕ) (server : Serving) → lent ≡ servers
    → slice_get servers place ≡ Some server → slice_get lent place ≡ Some server
at_place lent servers place server same at = ap (λ (l : List Serving). slice_get l place) same ∙ at

pub carry_copy-arrive-requires-clause-copy : goal.carry_copy-arrive-requires-clause-copy
carry_copy-arrive-requires-clause-copy g t c server at =
    asks_copy c.args.shared.now.stage c.args.shared.now.servers c.args.self.now.mux c.args.sending.now.place
    c.args.sending.now.packet c.args.sending.now.hop c.args.sending.now.octets.now c.requires.copy server
    (at_place c.args.shared.now.servers c.servers.result.now c.args.sending.now.place server
    (sym c.servers.ensures.value) at)

pub carry_copy-arrive-requires-clause-place : goal.carry_copy-arrive-requires-clause-place
carry_copy-arrive-requires-clause-place g t c =
    subst (λ (l : List Serving). c.args.sending.now.place < length l) (sym c.servers.ensures.value)
    (place_inside c.args.shared.now.servers c.args.sending.now.place c.requires.copy.server
    c.requires.copy.is_server)

pub carry_copy-arrive-requires-clause-has_seats : goal.carry_copy-arrive-requires-clause-has_seats
carry_copy-arrive-requires-clause-has_seats g t c =
    subst (λ (l : List Serving). HasSeats l c.args.self.now.caller) (sym c.servers.ensures.value) c.requires.can.has_seats

pub carry_copy-arrive-requires-clause-few : goal.carry_copy-arrive-requires-clause-few
carry_copy-arrive-requires-clause-few g t c =
    let few = c.requires.can.few in let w = some_weight c.args.sending.now.hop in omega (arith, few, w)

pub carry_copy-returns-in_err-clock-clause-sent : goal.carry_copy-returns-in_err-clock-clause-sent
carry_copy-returns-in_err-clock-clause-sent g t c =
    sent_call (copy_lost c.args.sending.now.hop) (hop_weight c.args.sending.now.hop) c.args.self.now c.arrive.new.self
    (some_weight c.args.sending.now.hop) c.arrive.ensures.same c.arrive.ensures.tries

pub carry_copy-returns-in_err-clock-clause-carries : goal.carry_copy-returns-in_err-clock-clause-carries
carry_copy-returns-in_err-clock-clause-carries g t c =
    carries_one_stop (Gives g.F.Fn c.args.shared.now.rule) c.args.shared.now.stage
    c.args.shared.now.servers
    (pending c.args.sending.now.packet c.args.sending.now.hop c.args.sending.now.clock.0 c.args.sending.now.fate) (hop_weight c.args.sending.now.hop) c.args.self.now
    (record c.args.self.now { caller = c.arrive.new.self }) c.from_residual.result refl c.in_err-clock.ensures.no_call
    c.in_err-clock.ensures.latest
    c.arrive.ensures.same c.from_residual.ensures.1

pub carry_copy-returns-in_default : goal.carry_copy-returns-in_default
carry_copy-returns-in_default g t c = record {
  sent = sent_call (copy_lost c.args.sending.now.hop) (hop_weight c.args.sending.now.hop) c.args.self.now
      c.arrive.new.self (some_weight c.args.sending.now.hop) c.arrive.ensures.same c.arrive.ensures.tries;
  carries =
      carries_one (Gives g.F.Fn c.args.shared.now.rule) c.args.shared.now.stage
      c.args.shared.now.servers
      (pending c.args.sending.now.packet c.args.sending.now.hop c.args.sending.now.clock.0 c.args.sending.now.fate) (hop_weight c.args.sending.now.hop) c.args.self.now
      (record c.args.self.now { caller = c.arrive.new.self }) c.args.sending.now.place c.args.sending.now.octets.now
      c.args.due
      (c.in_ok-clock.clock, c.in_ok-clock.verdict) (some_weight c.args.sending.now.hop) c.servers.ensures.set_up.servers_are c.requires.copy c.requires.due.0
      c.in_ok-clock.ensures.later
      (λ server. no_sending c.args.sending.now.packet c.args.sending.now.hop server c.in_ok-clock.verdict
      (not_forward c.in_ok-clock.verdict c.in_default.not-Forward))
      (λ server read at. c.in_ok-clock.ensures.call server read (at_place c.servers.result.now c.args.shared.now.servers
      c.args.sending.now.place server c.servers.ensures.value at)) refl c.in_ok-clock.ensures.latest c.arrive.ensures.same;
}

pub carry_copy-returns-clause-sent : goal.carry_copy-returns-clause-sent
carry_copy-returns-clause-sent g t c =
    let h = c.args.sending.now.hop in let next = c.in-Some.next in
    let after = sym c.next.ensures ∙ c.in-Some.is in
    sent_on 0 (most_lost next) (copy_lost h) 1 (most_tries next) (hop_weight h) c.args.self.now
    (record c.args.self.now { caller = c.arrive.new.self }) c.forward.new.self
    (let lost = lost_of h next after in omega (arith, lost)) (let w = weight_of h next after in omega (arith, w))
    (sent_call 0 1 c.args.self.now c.arrive.new.self (omega arith) c.arrive.ensures.same c.arrive.ensures.tries)
    c.forward.ensures.sent

pub carry_copy-returns-clause-carries : goal.carry_copy-returns-clause-carries
carry_copy-returns-clause-carries g t c =
    carries_forward (Gives g.F.Fn c.args.shared.now.rule) c.args.shared.now.stage
    c.args.shared.now.servers
    c.args.sending.now.packet c.args.sending.now.clock.0 c.args.sending.now.hop c.in-Some.next c.args.sending.now.fate c.fate-fate.result
    c.args.self.now
    (record c.args.self.now { caller = c.arrive.new.self }) c.forward.new.self c.args.sending.now.place
    c.args.sending.now.octets.now c.args.due
    (c.in_ok-clock.clock, c.in_ok-clock.verdict) c.in-Forward.to c.forward.result (sym c.next.ensures ∙ c.in-Some.is)
    c.servers.ensures.set_up.servers_are c.requires.copy
    c.requires.due.0
    c.in_ok-clock.ensures.later c.in-Forward.is c.fate-fate.ensures.gives (λ server read at. c.in_ok-clock.ensures.call server read (at_place c.servers.result.now c.args.shared.now.servers
    c.args.sending.now.place server c.servers.ensures.value at)) refl
    c.in_ok-clock.ensures.latest
    c.arrive.ensures.same c.forward.ensures.carries

-- A FORWARD

pub forward-place_of-requires : goal.forward-place_of-requires
forward-place_of-requires g t c = subst NumbersRise (sym c.servers.ensures.value) c.servers.ensures.set_up.servers_are.rise

pub forward-unreachable-requires : goal.forward-unreachable-requires
forward-unreachable-requires g t c =
    has_place c.args.shared.now.servers c.args.to
    (has_onward c.args.shared.now.stage c.args.shared.now.servers c.args.self.now.mux c.args.sending.now.place
    c.args.sending.now.packet
    c.args.sending.now.hop c.args.next c.args.sending.now.octets.now c.args.to c.servers.ensures.set_up.sound c.servers.ensures.set_up.servers_are c.requires.next c.requires.onward)
    (λ s server at. c.place_of.ensures.none c.in_default.is s server (at_place c.servers.result.now
    c.args.shared.now.servers s server c.servers.ensures.value at))

pub forward-turned-requires : goal.forward-turned-requires
forward-turned-requires g t c =
    is_turned c.args.shared.now.stage c.args.shared.now.servers c.args.self.now.mux c.args.sending.now.place
    c.args.sending.now.packet
    c.args.sending.now.hop c.args.next c.args.sending.now.octets.now c.args.to c.requires.next c.requires.onward

pub forward-returns-in_err-octets-clause-sent : goal.forward-returns-in_err-octets-clause-sent
forward-returns-in_err-octets-clause-sent g t c =
    sent_nothing (most_lost c.args.next) (most_tries c.args.next) c.args.self.now

pub forward-returns-in_err-octets-clause-carries : goal.forward-returns-in_err-octets-clause-carries
forward-returns-in_err-octets-clause-carries g t c =
    carries_stop (Gives g.F.Fn c.args.shared.now.rule) c.args.shared.now.stage
    c.args.shared.now.servers
    (pending c.args.sending.now.packet c.args.next c.args.clock.0 c.args.fate) (most_tries c.args.next) c.args.self.now c.from_residual.result
    c.from_residual.ensures.1

-- WHERE IT GOES ON

pub carry_copy-unreachable-requires : goal.carry_copy-unreachable-requires
carry_copy-unreachable-requires g t c =
    let copy = c.requires.copy in
    let come = c.in_ok-clock.ensures.call copy.server (copy.tag, copy.segment) (at_place c.servers.result.now c.args.shared.now.servers c.args.sending.now.place copy.server c.servers.ensures.value copy.is_server)
    (copy_reads c.args.shared.now.stage c.args.shared.now.servers c.args.self.now.mux
    c.args.sending.now.place c.args.sending.now.packet c.args.sending.now.hop
    c.args.sending.now.octets.now copy) in
    goes_further c.args.shared.now.stage c.args.shared.now.servers c.args.self.now.mux
    c.args.sending.now.place c.args.sending.now.packet c.args.sending.now.hop
    c.args.sending.now.octets.now c.in-Forward.to (copy, come.passed c.in-Forward.to c.in-Forward.is)
    (sym c.next.ensures ∙ c.in_default-next.is)

-- WHAT EACH ASKS OF THE NEXT

pub send-carry_copy-requires : goal.send-carry_copy-requires
send-carry_copy-requires g t c κs within =
    let h = c.args.sending.now.hop in let n = c.loop.counter in
    let few : n < 3 = (let fate = c.requires.fate.0 in let lt = c.loop-test.true in omega (arith, fate, lt)) in (
      search rules,
      (
        search rules,
        (
          search rules,
          (
            search rules,
            (
              c.requires.rule,
              (
                copy_on c.args.shared.now.stage c.args.shared.now.servers (copy_lost h * n) c.args.self.now.mux
                    c.loop.self.mux c.args.sending.now.place c.args.sending.now.packet h
                    c.args.sending.now.octets.now c.loop.invariant.sent.same.id c.loop.invariant.sent.grows
                    c.requires.copy,
                (
                  can_on c.args.shared.now.servers (copy_lost h * n) (hop_weight h * n) (hop_weight h) (most_tries h)
                      c.args.self.now c.loop.self (tries_within h n few) c.requires.can c.loop.invariant.sent,
                  c.in_ok-due.ensures,
                ),
              ),
            ),
          ),
        ),
      ),
    )

pub carry_copy-forward-requires : goal.carry_copy-forward-requires
carry_copy-forward-requires g t c κs within =
    let h = c.args.sending.now.hop in let next = c.in-Some.next in
    let after = sym c.next.ensures ∙ c.in-Some.is in (
      let d = c.decreases in omega (arith, d),
      (
        search rules,
        (
          search rules,
          (
            search rules,
            (
              c.requires.rule,
              (
                after,
                (
                  let copy = c.requires.copy in
                      let come = c.in_ok-clock.ensures.call copy.server (copy.tag, copy.segment)
                      (at_place c.servers.result.now c.args.shared.now.servers c.args.sending.now.place copy.server
                      c.servers.ensures.value copy.is_server)
                      (copy_reads c.args.shared.now.stage c.args.shared.now.servers c.args.self.now.mux
                      c.args.sending.now.place c.args.sending.now.packet h c.args.sending.now.octets.now copy) in
                      (copy, come.passed c.in-Forward.to c.in-Forward.is),
                  (
                    can_on c.args.shared.now.servers 0 1 (most_tries next) (hop_weight h) c.args.self.now
                        (record c.args.self.now { caller = c.arrive.new.self })
                        (let w = weight_of h next after in omega (arith, w)) c.requires.can
                        (sent_call 0 1 c.args.self.now c.arrive.new.self (omega arith) c.arrive.ensures.same
                        c.arrive.ensures.tries),
                    (c.fate-fate.ensures.copies, c.fate-fate.ensures.delay),
                  ),
                ),
              ),
            ),
          ),
        ),
      ),
    )

pub forward-send-requires : goal.forward-send-requires
forward-send-requires g t c κs within = (
  let d = c.decreases in let w = weight_of c.args.sending.now.hop c.args.next c.requires.next in omega (arith, d, w),
  (
    search rules,
    (
      search rules,
      (
        search rules,
        (
          c.requires.rule,
          (
            turned_copy c.args.shared.now.stage c.args.shared.now.servers c.args.self.now.mux
                c.args.sending.now.place c.args.sending.now.packet c.args.sending.now.hop c.args.next
                c.args.sending.now.octets.now c.deref.result.now c.args.to c.in-Some.place c.requires.next
                c.requires.onward
                (subst (λ (l : List ℕ). chained c.args.sending.now.octets.now ≡ Ok l) (sym c.deref.ensures.value)
                c.in_ok-octets.ensures)
                (subst (λ (l : List Serving). (server : Serving) × (slice_get l c.in-Some.place ≡ Some server)
                × (server.id ≡ c.args.to)) c.servers.ensures.value
                (c.place_of.ensures.some c.in-Some.place c.in-Some.is)),
            (c.requires.can, c.requires.fate),
          ),
        ),
      ),
    ),
  ),
)

use Rattle.std.proofs.Common.{◌≡◌, ◌+◌, ◌*◌, ◌^◌, ◌≤◌, ℕ, List, Some, length, refl, sym, ap, ◌∙◌, subst}
use Rattle.std.specs.Prelude.{slice_get}
use Rattle.std.proofs.Common.{arith}
use Rattle.std.proofs.lemmas.Option.{slice_get-get_or}
use Rattle.bm_base.specs.declared.fate.Fate.{Fate}
use Rattle.bm_base.specs.declared.label.Hop.TheVariants.{Direct}
use Rattle.bm_fault.specs.Faults.{Gives}
use Rattle.bm_server.specs.Servings.{Serving}
use Rattle.bm_worker.specs.Inside.Batches.{IsSent}
use Rattle.bm_worker.specs.Inside.Pending.{HasSent, IsCopyOf}
use Rattle.bm_worker.specs.WorkerNotes.{NumbersRise}
use Rattle.bm_worker.proofs.Sent.{can_on, sent_nothing, sent_on, sent_same_steps}
use Rattle.bm_worker.proofs.Delivering.{all_at, delivered_more, delivered_none, delivers_all, delivers_stop, each_at}
use Rattle.bm_worker.proofs.Delivering.{sent_copy, sent_server}
use Rattle.bm_worker.proofs.Forwarding.{has_place}
use Rattle.bm_worker.proofs.worker.MuxWorker.deliver.Goals as goal

pub loop-at-init : goal.loop-at-init
loop-at-init g c = record {
  sent = sent_nothing (9 * 0) (39 * 0) c.args.self.now;
  steps = omega arith;
  delivered =
      delivered_none (Gives g.F.Fn c.args.shared.now.rule) c.args.shared.now.stage
      c.args.shared.now.servers
      c.args.sents.now c.args.fates.now c.args.self.now;
}

pub place_of-requires : goal.place_of-requires
place_of-requires g c = subst NumbersRise (sym c.servers.ensures.value) c.servers.ensures.set_up.servers_are.rise

pub unreachable-requires : goal.unreachable-requires
unreachable-requires g c =
    let t = c.index-sents-at.result in
    has_place c.args.shared.now.servers t.tag.dest
    (sent_server c.args.shared.now.stage c.args.shared.now.servers c.args.self.now.mux t
    (each_at (IsSent c.args.shared.now.stage c.args.shared.now.servers c.args.self.now.mux) c.args.sents.now
    c.loop-at.at t c.requires.sents
    (slice_get-get_or c.args.sents.now c.loop-at.at t c.loop-at-test.true ∙ ap Some (sym c.index-sents-at.is))))
    (λ s server at. c.place_of.ensures.none c.in_default.is s server
    (ap (λ (l : List Serving). slice_get l s) c.servers.ensures.value ∙ at))

pub send-requires-clause-copy : goal.send-requires-clause-copy
send-requires-clause-copy g c =
    let t = c.index-sents-at.result in let i = c.loop-at.invariant in
    subst (λ (l : List ℕ). IsCopyOf c.args.shared.now.stage c.args.shared.now.servers c.loop-at.self.mux
    c.in-Some.place t.packet Direct l)
    (sym c.items.ensures)
    (sent_copy c.args.shared.now.stage c.args.shared.now.servers (9 * c.loop-at.at) c.args.self.now.mux
    c.loop-at.self.mux t c.in-Some.place
    i.sent.same.id i.sent.grows
    (each_at (IsSent c.args.shared.now.stage c.args.shared.now.servers c.args.self.now.mux) c.args.sents.now
    c.loop-at.at t c.requires.sents
    (slice_get-get_or c.args.sents.now c.loop-at.at t c.loop-at-test.true ∙ ap Some (sym c.index-sents-at.is)))
    (subst (λ (l : List Serving). (server : Serving) × (slice_get l c.in-Some.place ≡ Some server)
    × (server.id ≡ t.tag.dest)) c.servers.ensures.value (c.place_of.ensures.some c.in-Some.place c.in-Some.is)))

pub send-requires-clause-can : goal.send-requires-clause-can
send-requires-clause-can g c =
    let w = c.args.self.now in
    let i = c.loop-at.invariant in
    let can = can_on c.args.shared.now.servers (9 * c.loop-at.at) (39 * c.loop-at.at) 39 (39 * length c.args.sents.now) w
    (record c.loop-at.self { steps = w.steps }) (let lt = c.loop-at-test.true in omega (arith, lt)) c.requires.can i.sent
    in record { has_seats = can.has_seats; number = can.number; few = can.few }

pub returns-in_err-send-clause-delivers : goal.returns-in_err-send-clause-delivers
returns-in_err-send-clause-delivers g c =
    let i = c.loop-at.invariant in let t = c.index-sents-at.result in let f = c.fate_at-fate.result in
    delivers_stop (Gives g.F.Fn c.args.shared.now.rule) c.args.shared.now.stage
    c.args.shared.now.servers
    c.args.sents.now c.args.fates.now c.loop-at.at t f c.args.self.now c.loop-at.self
    (record c.loop-at.self { steps = c.loop-at.self.steps + 1 })
    c.send.new.self c.in_err-send.field-0.0 c.from_residual.result c.loop-at-test.true
    (slice_get-get_or c.args.sents.now c.loop-at.at t c.loop-at-test.true ∙ ap Some (sym c.index-sents-at.is))
    c.fate_at-fate.ensures
    refl refl c.from_residual.ensures.1 i.delivered c.in_err-send.ensures.carries

pub loop-at-preserved : goal.loop-at-preserved
loop-at-preserved g c =
    let i = c.loop-at.invariant in let s = c.send.ensures.sent in let w = c.args.self.now in
    record {
      sent = sent_on (9 * c.loop-at.at) 9 (9 * (c.loop-at.at + 1)) (39 * c.loop-at.at) 39 (39 * (c.loop-at.at + 1)) w
          (record c.loop-at.self { steps = w.steps }) (record c.send.new.self { steps = w.steps }) (omega arith)
          (omega arith) i.sent (sent_same_steps 9 39 (record c.loop-at.self { steps = c.loop-at.self.steps + 1 })
          c.send.new.self w.steps s);
      steps = let a = i.steps in let b = s.same.steps in omega (arith, a, b);
      delivered = let t = c.index-sents-at.result in let f = c.fate_at-fate.result in
          delivered_more (Gives g.F.Fn c.args.shared.now.rule) c.args.shared.now.stage
          c.args.shared.now.servers
          c.args.sents.now c.args.fates.now c.loop-at.at t f c.args.self.now c.loop-at.self
          (record c.loop-at.self { steps = c.loop-at.self.steps + 1 })
          c.send.new.self
          (slice_get-get_or c.args.sents.now c.loop-at.at t c.loop-at-test.true ∙ ap Some (sym c.index-sents-at.is))
          c.fate_at-fate.ensures
          refl refl i.delivered c.in_ok-send.ensures.carries;
    }

pub returns-clause-delivers : goal.returns-clause-delivers
returns-clause-delivers g c =
    let le = c.loop-at.auto.at-end in let over = c.loop-at-test.false in
    delivers_all (Gives g.F.Fn c.args.shared.now.rule) c.args.shared.now.stage
    c.args.shared.now.servers
    c.args.sents.now c.args.fates.now c.loop-at.at c.args.self.now c.loop-at.self (omega (arith, le, over))
    c.requires.fates.0
    c.loop-at.invariant.delivered

pub fate_at-fate-requires : goal.fate_at-fate-requires
fate_at-fate-requires g c = let long = c.requires.fates.0 in let lt = c.loop-at-test.true in omega (arith, long, lt)

pub send-requires-clause-fate : goal.send-requires-clause-fate
send-requires-clause-fate g c =
    let f = c.fate_at-fate.result in
    all_at (λ (x : Fate). (x.copies ≤ 3) × (x.delay ≤ 60 * 10 ^ 9)) c.args.fates.now c.loop-at.at f c.requires.fates.1
    c.fate_at-fate.ensures

pub returns-in_err-send-clause-sent : goal.returns-in_err-send-clause-sent
returns-in_err-send-clause-sent g c =
    let w = c.args.self.now in
    let n = c.loop-at.at in
    let most = length c.args.sents.now in
    let lt = c.loop-at-test.true in
    sent_on (9 * n) 9 (9 * most) (39 * n) 39 (39 * most) w (record c.loop-at.self { steps = w.steps })
    (record c.send.new.self { steps = w.steps }) (omega (arith, lt)) (omega (arith, lt)) c.loop-at.invariant.sent
    (sent_same_steps 9 39 (record c.loop-at.self { steps = c.loop-at.self.steps + 1 }) c.send.new.self w.steps
    c.send.ensures.sent)

pub returns-clause-sent : goal.returns-clause-sent
returns-clause-sent g c =
    let w = c.args.self.now in
    let le = c.loop-at.auto.at-end in let over = c.loop-at-test.false in
    subst (λ (n : ℕ). HasSent (9 * n) (39 * n) w (record c.loop-at.self { steps = w.steps })) (omega (arith, le, over))
    c.loop-at.invariant.sent

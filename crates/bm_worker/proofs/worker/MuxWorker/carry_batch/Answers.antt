use Rattle.std.proofs.Common.{◌≡◌, ℕ, ◌+◌, ◌-◌, ◌*◌, ◌^◌, ◌<◌, ◌≤◌, List, [], length, Ok, refl, sym, ap, ◌∙◌, subst}
use Rattle.std.proofs.Common.{arith, false, max, true}
use Rattle.std.specs.Prelude.{All}
use Rattle.std.specs.List.{AllByRecursion}
use Rattle.std.proofs.lemmas.Bool.{eqb-false, eqb-true}
use Rattle.bm_base.specs.declared.fate.Fate.{Fate}
use Rattle.bm_base.specs.declared.ids.MuxId.{MuxId}
use Rattle.bm_fault.specs.Faults.{Gives}
use Rattle.bm_mux.specs.declared.item.MuxItem.{MuxItem}
use Rattle.bm_mux.specs.declared.item.Steered.{Steered}
use Rattle.bm_mux.specs.Muxes.{HasSteered, IsItem}
use Rattle.bm_worker.specs.declared.worker.MuxWorker.{MuxWorker}
use Rattle.bm_worker.specs.Inside.Batches.{AreCollected, Delivers, GrowsBy, HasSeen, IsSent}
use Rattle.bm_worker.proofs.Carrying.{ended, sits_on}
use Rattle.bm_worker.proofs.Going.{are_items, batch_grows, batch_sent, carries_batch, carries_none, carries_refused}
use Rattle.bm_worker.proofs.Going.{carries_stopped, drawn_length, drawn_small, grows_less, no_items, sents_length}
use Rattle.bm_worker.proofs.Going.{some_items, steered_as}
use Rattle.bm_worker.proofs.worker.MuxWorker.carry_batch.Goals as goal

pub returns-then-is_empty-clause-carries : goal.returns-then-is_empty-clause-carries
returns-then-is_empty-clause-carries g c =
    let F = Gives g.F.Fn c.args.shared.now.rule in let b = c.in_ok-batch.batch in
    carries_none F c.args.shared.now.stage c.args.shared.now.servers c.args.shared.now.routes
    c.args.from b.end c.args.until c.args.self.now b.items.items b.fates.items
    (no_items b.items.items (sym b.items.ok.0 ∙ eqb-true _ _ (sym c.is_empty.ensures ∙ c.if-is_empty.true)))
    (let lt = c.in_ok-batch.ensures.more.0 in omega (arith, lt))
    (subst (λ (j : MuxId). AreCollected F c.args.shared.now.stage c.args.shared.now.routes j.0 c.args.from b.end
    b.items.items b.fates.items) c.mux_id.ensures c.in_ok-batch.ensures.all)

pub batch-requires-clause-items : goal.batch-requires-clause-items
batch-requires-clause-items g c =
    subst (λ (l : List MuxItem). All IsItem l) (sym c.deref.ensures.value)
    (are_items c.args.shared.now.stage c.args.shared.now.routes c.mux_id.result.0
    c.in_ok-batch.batch.items.items c.in_ok-batch.ensures.set_up.sound c.in_ok-batch.ensures.all.each)

pub returns-in_err-batch-2-clause-carries : goal.returns-in_err-batch-2-clause-carries
returns-in_err-batch-2-clause-carries g c =
    let F = Gives g.F.Fn c.args.shared.now.rule in
    let err = c.in_err-batch-2.ensures.err in
    carries_refused F c.args.shared.now.stage c.args.shared.now.servers c.args.shared.now.routes
    c.args.from c.args.until c.args.self.now (record c.args.self.now { mux = c.batch.new.self })
    c.from_residual-in_err-batch-2.result c.from_residual-in_err-batch-2.ensures.1
    (record { mux = err.0; log = err.1; caller = refl; steps = refl })

pub deliver-requires-clause-sents : goal.deliver-requires-clause-sents
deliver-requires-clause-sents g c κs within =
    let F = Gives g.F.Fn c.args.shared.now.rule in let b = c.in_ok-batch.batch in
    subst (λ (l : List Steered). AllByRecursion
    (IsSent c.args.shared.now.stage c.args.shared.now.servers c.batch.new.self) l) (sym c.deref-2.ensures.value)
    (batch_sent F c.args.shared.now.stage c.args.shared.now.servers c.args.shared.now.routes
    c.args.self.now.mux c.batch.new.self c.args.from b.end b.items.items b.fates.items c.batch.new.out.items
    c.in_ok-batch.ensures.set_up.sound c.in_ok-batch.ensures.set_up.servers_are c.requires.can.mux c.requires.can.plan
    (subst (λ (j : MuxId). AreCollected F c.args.shared.now.stage c.args.shared.now.routes j.0 c.args.from b.end
    b.items.items b.fates.items) c.mux_id.ensures c.in_ok-batch.ensures.all)
    (steered_as c.args.self.now.mux c.batch.new.self b.items.items c.deref.result.now c.clear.new.self.items
    c.batch.new.out.items c.deref.ensures.value c.clear.ensures.items c.in_ok-batch-2.ensures.ok))

pub deliver-requires-clause-fates : goal.deliver-requires-clause-fates
deliver-requires-clause-fates g c κs within =
    let F = Gives g.F.Fn c.args.shared.now.rule in let b = c.in_ok-batch.batch in
    let drawn = c.in_ok-batch.ensures.all.drawn in
    let sents = sents_length c.args.self.now.mux c.batch.new.self b.items.items c.batch.new.out.items
    (steered_as c.args.self.now.mux c.batch.new.self b.items.items c.deref.result.now c.clear.new.self.items
    c.batch.new.out.items c.deref.ensures.value c.clear.ensures.items c.in_ok-batch-2.ensures.ok) in (
      ap (λ (l : List Fate). length l) c.deref-3.ensures.value
          ∙ (drawn_length F b.items.items b.fates.items drawn
          ∙ (sym sents ∙ ap (λ (l : List Steered). length l) (sym c.deref-2.ensures.value))),
      subst (λ (l : List Fate). All (λ (f : Fate). (f.copies ≤ 3) × (f.delay ≤ 60 * 10 ^ 9)) l)
          (sym c.deref-3.ensures.value) (drawn_small F b.items.items b.fates.items drawn),
    )

pub deliver-requires-clause-can : goal.deliver-requires-clause-can
deliver-requires-clause-can g c κs within =
    let w = c.args.self.now in let b = c.in_ok-batch.batch in let can = c.requires.can.can in
    let sents = sents_length w.mux c.batch.new.self b.items.items c.batch.new.out.items
    (steered_as w.mux c.batch.new.self b.items.items c.deref.result.now c.clear.new.self.items
    c.batch.new.out.items c.deref.ensures.value c.clear.ensures.items c.in_ok-batch-2.ensures.ok) in
    let same : length c.deref-2.result.now ≡ length c.batch.new.out.items =
    ap (λ (l : List Steered). length l) c.deref-2.ensures.value in
    record {
      has_seats = sits_on c.args.shared.now.servers w.caller c.see.new.self c.see.ensures.same can.has_seats;
      number = c.see.ensures.same.number
          ∙ (can.number ∙ ap (λ (m : MuxId). m.0 + 1) (sym c.in_ok-batch-2.ensures.ok.looked.same.id));
      few = let count = c.in_ok-batch.ensures.all.count in let end = c.in_ok-batch.ensures.more.1 in
          let tries = can.few in let now = c.see.ensures.tries in
          omega (arith, sents, same, count, end, tries, now);
    }

pub deliver-requires-clause-steps : goal.deliver-requires-clause-steps
deliver-requires-clause-steps g c κs within =
    let b = c.in_ok-batch.batch in
    let sents = sents_length c.args.self.now.mux c.batch.new.self b.items.items c.batch.new.out.items
    (steered_as c.args.self.now.mux c.batch.new.self b.items.items c.deref.result.now c.clear.new.self.items
    c.batch.new.out.items c.deref.ensures.value c.clear.ensures.items c.in_ok-batch-2.ensures.ok) in
    let same : length c.deref-2.result.now ≡ length c.batch.new.out.items =
    ap (λ (l : List Steered). length l) c.deref-2.ensures.value in
    let count = c.in_ok-batch.ensures.all.count in let end = c.in_ok-batch.ensures.more.1 in
    let steps = c.requires.can.steps in
    omega (arith, sents, same, count, end, steps)

pub returns-in_err-deliver-clause-grows : goal.returns-in_err-deliver-clause-grows
returns-in_err-deliver-clause-grows g c =
    let F = Gives g.F.Fn c.args.shared.now.rule in let b = c.in_ok-batch.batch in
    let w = c.args.self.now in
    let mid : MuxWorker = record w { mux = c.batch.new.self; caller = c.see.new.self } in
    let steered : HasSteered w.mux b.items.items mid.mux [] c.batch.new.out.items =
    steered_as w.mux c.batch.new.self b.items.items c.deref.result.now c.clear.new.self.items
    c.batch.new.out.items c.deref.ensures.value c.clear.ensures.items c.in_ok-batch-2.ensures.ok in
    let some : 0 < length b.items.items =
    some_items b.items.items (λ e. eqb-false _ _ (sym c.is_empty.ensures ∙ c.if-is_empty.false) (b.items.ok.0 ∙ e)) in
    let grown =
    batch_grows w mid c.deliver.new.self b.items.items c.deref-2.result.now (b.end - c.args.from)
    (subst (λ (l : List Steered). HasSteered w.mux b.items.items mid.mux [] l) (sym c.deref-2.ensures.value) steered)
    c.see.ensures.tries refl c.deliver.ensures.sent.tries c.deliver.ensures.steps c.deliver.ensures.sent.grows some
    (let count = c.in_ok-batch.ensures.all.count in omega (arith, count)) in
    ended (λ end. GrowsBy (end - c.args.from) w c.deliver.new.self) (λ e. e ≡ c.in_err-deliver.field-0.0)
    (λ e. GrowsBy (c.args.until - c.args.from) w c.deliver.new.self) c.from_residual-in_err-deliver.result
    c.from_residual-in_err-deliver.ensures.1
    (λ e is. grows_less (b.end - c.args.from) (c.args.until - c.args.from) w c.deliver.new.self
    (let end = c.in_ok-batch.ensures.more.1 in omega (arith, end)) grown)

pub returns-clause-grows : goal.returns-clause-grows
returns-clause-grows g c =
    let F = Gives g.F.Fn c.args.shared.now.rule in let b = c.in_ok-batch.batch in
    let w = c.args.self.now in
    let mid : MuxWorker = record w { mux = c.batch.new.self; caller = c.see.new.self } in
    let steered : HasSteered w.mux b.items.items mid.mux [] c.batch.new.out.items =
    steered_as w.mux c.batch.new.self b.items.items c.deref.result.now c.clear.new.self.items
    c.batch.new.out.items c.deref.ensures.value c.clear.ensures.items c.in_ok-batch-2.ensures.ok in
    let some : 0 < length b.items.items =
    some_items b.items.items (λ e. eqb-false _ _ (sym c.is_empty.ensures ∙ c.if-is_empty.false) (b.items.ok.0 ∙ e)) in
    batch_grows w mid c.deliver.new.self b.items.items c.deref-2.result.now (b.end - c.args.from)
    (subst (λ (l : List Steered). HasSteered w.mux b.items.items mid.mux [] l) (sym c.deref-2.ensures.value) steered)
    c.see.ensures.tries refl c.deliver.ensures.sent.tries c.deliver.ensures.steps c.deliver.ensures.sent.grows some
    (let count = c.in_ok-batch.ensures.all.count in omega (arith, count))

pub returns-in_err-deliver-clause-carries : goal.returns-in_err-deliver-clause-carries
returns-in_err-deliver-clause-carries g c =
    let F = Gives g.F.Fn c.args.shared.now.rule in let b = c.in_ok-batch.batch in
    let w = c.args.self.now in
    let mid : MuxWorker = record w { mux = c.batch.new.self; caller = c.see.new.self } in
    let steered : HasSteered w.mux b.items.items mid.mux [] c.batch.new.out.items =
    steered_as w.mux c.batch.new.self b.items.items c.deref.result.now c.clear.new.self.items
    c.batch.new.out.items c.deref.ensures.value c.clear.ensures.items c.in_ok-batch-2.ensures.ok in
    let some : 0 < length b.items.items =
    some_items b.items.items (λ e. eqb-false _ _ (sym c.is_empty.ensures ∙ c.if-is_empty.false) (b.items.ok.0 ∙ e)) in
    let clock = c.clock.ensures.clock in
    let latest = c.see.ensures.latest in
    let seen_it : HasSeen w mid = record {
      seats = c.see.ensures.seats;
      caller = c.see.ensures.same;
      tries = c.see.ensures.tries;
      latest = latest ∙ ap (λ (n : ℕ). max w.caller.latest n) clock;
      steps = refl;
    } in
    let got = subst (λ (j : MuxId). AreCollected F c.args.shared.now.stage c.args.shared.now.routes j.0
    c.args.from b.end b.items.items b.fates.items) c.mux_id.ensures c.in_ok-batch.ensures.all in
    carries_stopped F c.args.shared.now.stage c.args.shared.now.servers c.args.shared.now.routes c.args.from
    b.end c.args.until w mid c.deliver.new.self b.items.items b.fates.items c.batch.new.out.items
    c.in_err-deliver.field-0.0 c.from_residual-in_err-deliver.result c.from_residual-in_err-deliver.ensures.1 some
    c.in_ok-batch.ensures.more.1 got steered seen_it
    (subst (λ (l : List Steered). Delivers F c.args.shared.now.stage c.args.shared.now.servers l b.fates.items
    mid c.deliver.new.self (Rattle.std.proofs.Common.Err c.in_err-deliver.field-0.0)) c.deref-2.ensures.value
    (subst (λ (l : List Fate). Delivers F c.args.shared.now.stage c.args.shared.now.servers c.deref-2.result.now
    l mid c.deliver.new.self (Rattle.std.proofs.Common.Err c.in_err-deliver.field-0.0)) c.deref-3.ensures.value
    c.in_err-deliver.ensures.delivers))

pub returns-clause-carries : goal.returns-clause-carries
returns-clause-carries g c =
    let F = Gives g.F.Fn c.args.shared.now.rule in let b = c.in_ok-batch.batch in
    let w = c.args.self.now in
    let mid : MuxWorker = record w { mux = c.batch.new.self; caller = c.see.new.self } in
    let steered : HasSteered w.mux b.items.items mid.mux [] c.batch.new.out.items =
    steered_as w.mux c.batch.new.self b.items.items c.deref.result.now c.clear.new.self.items
    c.batch.new.out.items c.deref.ensures.value c.clear.ensures.items c.in_ok-batch-2.ensures.ok in
    let some : 0 < length b.items.items =
    some_items b.items.items (λ e. eqb-false _ _ (sym c.is_empty.ensures ∙ c.if-is_empty.false) (b.items.ok.0 ∙ e)) in
    let clock = c.clock.ensures.clock in
    let latest = c.see.ensures.latest in
    let seen_it : HasSeen w mid = record {
      seats = c.see.ensures.seats;
      caller = c.see.ensures.same;
      tries = c.see.ensures.tries;
      latest = latest ∙ ap (λ (n : ℕ). max w.caller.latest n) clock;
      steps = refl;
    } in
    let got = subst (λ (j : MuxId). AreCollected F c.args.shared.now.stage c.args.shared.now.routes j.0
    c.args.from b.end b.items.items b.fates.items) c.mux_id.ensures c.in_ok-batch.ensures.all in
    let s = c.deliver.ensures.sent.same in
    carries_batch F c.args.shared.now.stage c.args.shared.now.servers c.args.shared.now.routes c.args.from
    b.end c.args.until (9 * length c.deref-2.result.now) w mid c.deliver.new.self b.items.items b.fates.items
    c.batch.new.out.items some (let lt = c.in_ok-batch.ensures.more.0 in omega (arith, lt))
    c.in_ok-batch.ensures.more.1 got steered seen_it c.deliver.ensures.sent.grows s.seen
    (subst (λ (l : List Steered). Delivers F c.args.shared.now.stage c.args.shared.now.servers l b.fates.items
    mid c.deliver.new.self (Ok tt)) c.deref-2.ensures.value
    (subst (λ (l : List Fate). Delivers F c.args.shared.now.stage c.args.shared.now.servers c.deref-2.result.now
    l mid c.deliver.new.self (Ok tt)) c.deref-3.ensures.value c.in_ok-deliver.ensures.delivers))

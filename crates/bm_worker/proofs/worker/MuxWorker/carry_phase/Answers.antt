use Rattle.std.proofs.Common.{◌≡◌, ◌+◌, ◌<◌, Some, None, refl, sym, ap, ◌∙◌, subst}
use Rattle.std.proofs.Common.{arith, rules}
use Rattle.std.proofs.lemmas.Option.{same_Some}
use Rattle.bm_fault.specs.Faults.{Gives}
use Rattle.bm_base.specs.declared.ids.MuxId.{MuxId}
use Rattle.bm_publish.specs.Posts.{Posted}
use Rattle.bm_mux.specs.Muxes.{HasBegun}
use Rattle.bm_worker.specs.declared.stop.Stop.TheVariants.{Memory}
use Rattle.bm_worker.specs.declared.worker.MuxWorker.{MuxWorker}
use Rattle.bm_worker.specs.Phases.{HasEnded, task_of}
use Rattle.bm_worker.proofs.Beginning.{begin_done, begin_refused, begun_log, phase_ended}
use Rattle.bm_worker.proofs.Carrying.{ended, same_caller_on, sits_on}
use Rattle.bm_worker.proofs.Going.{continues_on}
use Rattle.bm_worker.proofs.worker.MuxWorker.carry_phase.Goals as goal

pub returns-in_err-begin-clause-ended : goal.returns-in_err-begin-clause-ended
returns-in_err-begin-clause-ended g c posted is =
    let F = Gives g.F.Fn c.args.shared.now.rule in
    let task = task_of c.args.shared.now.routes c.args.span posted c.args.self.now in
    let next : MuxWorker = record c.args.self.now { mux = c.begin.new.self; posted = c.take.new.self } in
    let err = c.in_err-begin.ensures.err in
    ended (λ u. HasEnded F c.args.shared.now.stage c.args.shared.now.servers task next None)
    (λ stop. stop ≡ Memory)
    (λ stop. HasEnded F c.args.shared.now.stage c.args.shared.now.servers task next (Some stop))
    c.from_residual.result c.from_residual.ensures.1
    (λ stop memory. begin_refused F c.args.shared.now.stage c.args.shared.now.servers task next stop memory
    (record { mux = err.0; log = err.2; caller = refl; steps = refl }))

pub loop-next-init : goal.loop-next-init
loop-next-init g c =
    let F = Gives g.F.Fn c.args.shared.now.rule in
    let begun = c.in_ok-begin.ensures.ok in
    let mid : MuxWorker =
    record c.args.self.now { mux = c.begin.new.self; caller = c.see.new.self; posted = c.take.new.self } in
    let ready = c.requires.ready c.in-Some.posted (sym c.take.ensures.value ∙ c.in-Some.is) in
    record {
      from = omega arith;
      until = ready.until.0;
      mux = begun.looked.same;
      caller = c.see.ensures.same;
      tries = let a = c.see.ensures.tries in omega (arith, a);
      steps = omega arith;
      log = let a = begun_log c.args.self.now.mux c.begin.new.self c.in-Some.posted c.args.span.after.0 begun in
          omega (arith, a);
      done = λ posted is.
          let same : c.in-Some.posted ≡ posted =
          same_Some c.in-Some.posted posted (sym c.in-Some.is ∙ (c.take.ensures.value ∙ is)) in
          let clock = c.clock.ensures.clock in
          begin_done F c.args.shared.now.stage c.args.shared.now.servers
          (task_of c.args.shared.now.routes c.args.span posted c.args.self.now) mid (c.requires.ready posted is)
          (subst (λ (p : Posted). HasBegun c.args.self.now.mux p c.args.span.after.0 c.begin.new.self) same begun)
          (record {
            seats = c.see.ensures.seats;
            caller = c.see.ensures.same;
            tries = c.see.ensures.tries;
            latest = let l = c.see.ensures.latest in omega (arith, l, clock);
            steps = refl;
          });
    }

pub loop-next-preserved : goal.loop-next-preserved
loop-next-preserved g c =
    let i = c.loop-next.invariant in let ok = c.in_ok-next.ensures in
    let from = i.from in let more = ok.more.0 in
    record {
      from = omega (arith, from, more);
      until = ok.more.1;
      mux = record {
        id = ok.mux.id ∙ i.mux.id;
        later = continues_on c.args.self.now.mux.seen c.loop-next.self.mux.seen c.carry_batch.new.self.mux.seen
            i.mux.later ok.mux.later;
      };
      caller = same_caller_on c.args.self.now.caller c.loop-next.self.caller c.carry_batch.new.self.caller i.caller
          ok.caller;
      tries = let a = i.tries in let b = ok.grows.tries in omega (arith, a, b, from, more);
      steps = let a = i.steps in let b = ok.grows.steps in omega (arith, a, b, from, more);
      log = let a = i.log in let b = ok.grows.log in omega (arith, a, b, from, more);
      done = λ posted is.
          let d = i.done posted is in
          ok.carries (task_of c.args.shared.now.routes c.args.span posted c.args.self.now) d.0 refl (omega arith)
          d.1;
    }

pub returns-clause-ended : goal.returns-clause-ended
returns-clause-ended g c posted is =
    let d = c.loop-next.invariant.done posted is in
    let until = c.loop-next.invariant.until in let over = c.loop-next-test.false in
    phase_ended (Gives g.F.Fn c.args.shared.now.rule) c.args.shared.now.stage
    c.args.shared.now.servers (task_of c.args.shared.now.routes c.args.span posted c.args.self.now)
    c.loop-next.self d.0 c.loop-next.next (omega (arith, until, over)) d.1

pub carry_batch-requires-clause-can : goal.carry_batch-requires-clause-can
carry_batch-requires-clause-can g c κs within =
    let w = c.args.self.now in
    let i = c.loop-next.invariant in
    let ready = c.requires.ready c.in-Some.posted (sym c.take.ensures.value ∙ c.in-Some.is) in
    let from = i.from in let lt = c.loop-next-test.true in
    record {
      plan = i.mux.later.plan ∙ ready.plan;
      mux = subst (λ (m : MuxId). m.0 < 64) (sym i.mux.id) ready.mux;
      can = record {
        has_seats = sits_on c.args.shared.now.servers w.caller c.loop-next.self.caller i.caller ready.has_seats;
        number = i.caller.number ∙ (ready.number ∙ ap (λ (m : MuxId). m.0 + 1) (sym i.mux.id));
        few = let a = ready.tries in let b = i.tries in omega (arith, a, b, from, lt);
      };
      steps = let a = ready.steps in let b = i.steps in omega (arith, a, b, from, lt);
      room = let a = ready.room in let b = i.log in omega (arith, a, b, from, lt);
    }

pub carry_batch-requires-clause-until : goal.carry_batch-requires-clause-until
carry_batch-requires-clause-until g c = search rules

pub returns-in_err-next-clause-grown : goal.returns-in_err-next-clause-grown
returns-in_err-next-clause-grown g c = search rules

pub returns-in_err-next-clause-ended : goal.returns-in_err-next-clause-ended
returns-in_err-next-clause-ended g c = search rules

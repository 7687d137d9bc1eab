use Rattle.std.proofs.Common.{◌≡◌, ◌∷◌, ◌∙◌, List, map, map-id, sym, ap, subst, length}
use Rattle.std.specs.Prelude.{slice_get, Some}
use Rattle.std.proofs.lemmas.Iterator.Adapters.{YieldsList-from_vec}
use Rattle.std.proofs.lemmas.Iterator.Consumers.{YieldsList-end, YieldsList-turn}
use Rattle.std.proofs.lemmas.List.{map-append}
use Rattle.std.proofs.lemmas.Option.{slice_get-get_or}
use mathlib.Core.List.{IsPrefix}
use Rattle.bm_rows.specs.Rows.{items_of}
use Rattle.bm_publish.specs.Posts.{Posted}
use Rattle.bm_worker.specs.declared.worker.MuxWorker.{MuxWorker}
use Rattle.bm_world.specs.Inside.RunStates.{rows_of}
use Rattle.bm_world.proofs.MakingWorkers.{one_parted}
use Rattle.bm_world.proofs.mux_workers.take_apart.Goals as goal

pub part-log-requires : goal.part-log-requires
part-log-requires c =
    let workers = c.args.workers.items
    in let n = length c.loop-worker.yielded
    in let turn = YieldsList-turn (YieldsList-from_vec workers (cc) (cc)) c.loop-worker.yielded
    c.loop-worker.worker-iterator c.loop-worker.yielded_by _ c.next.new.self c.in-Some.worker c.in-Some.is
    c.next.ensures.steps
    in c.requires.boards n c.in-Some.worker (slice_get-get_or workers n c.in-Some.worker turn.0 ∙ ap Some (sym turn.1))
    ∙ ap (λ (p : Posted). p.board) (sym c.loop-worker.invariant.0)

pub loop-worker-preserved : goal.loop-worker-preserved
loop-worker-preserved c =
    let same = c.loop-worker.invariant.0
    in (
      c.part-log.ensures.kept ∙ same,
      one_parted c.args.poster.now c.args.leader.log.items c.args.leader.caller.seats c.loop-worker.yielded
          c.in-Some.worker
          c.loop-worker.logs.items c.push-in-loop-worker.new.self.items (items_of c.loop-worker.rows.items)
          (items_of c.push-in-loop-worker-2.new.self.items) c.part-log.result.0 c.part-log.result.1.items
          c.part-log.ensures.log c.part-log.ensures.seats c.in_ok-push-3.ensures.items
          (ap items_of c.in_ok-push-4.ensures.items ∙ map-append _ c.loop-worker.rows.items _)
          (subst (λ (p : Posted). IsPrefix c.in-Some.worker.mux.seen.clocks p.clocks) same c.part-log.ensures.shown)
          c.loop-worker.invariant.1,
    )

pub returns : goal.returns
returns c =
    let i = c.loop-worker.invariant.1
    in let log = c.args.leader.log.items
    in let seats = c.args.leader.caller.seats
    in let end = YieldsList-end (YieldsList-from_vec c.args.workers.items (cc) (cc)) c.loop-worker.yielded
    c.loop-worker.worker-iterator c.loop-worker.yielded_by _ c.next.new.self c.in-None.is c.next.ensures.steps
    in let all : c.loop-worker.yielded ≡ c.args.workers.items = sym (map-id c.loop-worker.yielded) ∙ end.0
    in record {
      logs = i.logs_are ∙ ap (λ (l : List MuxWorker). log ∷ map (λ (w : MuxWorker). w.mux.log) l) all;
      rows = i.rows_are ∙ ap (λ (l : List MuxWorker). rows_of seats l) all;
      shown = λ m w here. i.shown m w (ap (λ (l : List MuxWorker). slice_get l m) all ∙ here);
    }

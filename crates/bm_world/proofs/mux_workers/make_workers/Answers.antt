use Rattle.std.proofs.Common.{◌≡◌, ◌+◌, ℕ, [], ◌∷◌, length, length-append, sym, ap, subst, arith}
use Rattle.std.proofs.lemmas.Iterator.{YieldsList-from_zip}
use Rattle.std.proofs.lemmas.Iterator.Adapters.{YieldsList-from_vec}
use Rattle.std.proofs.lemmas.Iterator.Consumers.{YieldsList-end, YieldsList-turn}
use Rattle.std.proofs.lemmas.Option.{slice_get_within}
use Rattle.bm_mux.specs.Muxes.{HasServers}
use Rattle.bm_publish.specs.Posts.{Posted}
use Rattle.bm_rows.specs.Rows.{items_of}
use Rattle.bm_world.specs.Inside.RunStates.{HaveNoTurns, IsNewWorker}
use Rattle.bm_world.proofs.MakingWorkers.{Pair, all_at, all_made, one_made, parts_at, row_there}
use Rattle.bm_world.proofs.mux_workers.make_workers.Goals as goal

pub make_worker-requires : goal.make_worker-requires
make_worker-requires c =
    let looks = c.args.looks.items
    in let rows = c.args.rows.items
    in let n = length c.loop-look.yielded
    in let here = parts_at looks rows n c.in-Some.look c.in-Some.seats
    (YieldsList-turn (YieldsList-from_zip (YieldsList-from_vec looks (cc) (cc)) (YieldsList-from_vec rows (cc) (cc)))
    c.loop-look.yielded c.loop-look.look-iterator c.loop-look.yielded_by _ c.next.new.self
    (c.in-Some.look, c.in-Some.seats) c.in-Some.is c.next.ensures.steps)
    in let low = slice_get_within rows n c.in-Some.seats here.1
    in record {
      mux = omega (arith, low, c.requires.few, c.loop-look.invariant.mux);
      look = all_at (λ (look : Posted). (c.args.buckets ≡ look.plan.buckets) × HasServers look.plan) looks n
          c.in-Some.look here.0 c.requires.looks;
      seats = all_at HaveNoTurns (items_of rows) n c.in-Some.seats.items (row_there rows n c.in-Some.seats here.1)
          c.requires.rows;
    }

pub loop-look-preserved : goal.loop-look-preserved
loop-look-preserved c =
    let i = c.loop-look.invariant
    in let pair : Pair = (c.in-Some.look, c.in-Some.seats)
    in record {
      mux = omega (arith, i.mux, length-append c.loop-look.yielded (pair ∷ []));
      made = one_made c.loop-look.yielded c.loop-look.workers.items c.push.new.self.items pair c.make_worker.result
          c.in_ok-push.ensures.items
          (subst (λ (m : ℕ). IsNewWorker c.in-Some.look c.in-Some.seats.items m c.make_worker.result) i.mux
          c.make_worker.ensures) i.made;
    }

pub returns : goal.returns
returns c =
    let looks = c.args.looks.items
    in let rows = c.args.rows.items
    in let end = YieldsList-end
    (YieldsList-from_zip (YieldsList-from_vec looks (cc) (cc)) (YieldsList-from_vec rows (cc) (cc)))
    c.loop-look.yielded c.loop-look.look-iterator c.loop-look.yielded_by _ c.next.new.self c.in-None.is
    c.next.ensures.steps
    in let all = all_made looks rows c.loop-look.yielded c.loop-look.workers.items c.requires.count end.0
    c.loop-look.invariant.made
    in record { count = all.count; each = all.each }

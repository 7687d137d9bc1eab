use Rattle.std.proofs.Common.{◌≡◌, ◌+◌, ◌<◌, ℕ, length, sym, subst, arith}
use Rattle.bm_fault.specs.Faults.{Gives}
use Rattle.bm_worker.specs.Inside.Batches.{AreCollected}
use Rattle.bm_worker.proofs.Collecting.{collected_new, collected_push, collected_skip, mux_is}
use Rattle.bm_worker.proofs.batch.collect.Goals as goal

pub loop-at-init : goal.loop-at-init
loop-at-init g c = record {
  at = omega arith;
  all = collected_new (Gives g.F.Fn c.args.shared.now.rule) c.args.shared.now.stage
      c.args.shared.now.routes c.args.mux.0 c.args.from
      c.in_ok-items.items.items c.in_ok-fates.fates.items c.in_ok-items.ensures.items
      c.in_ok-fates.ensures.items;
}

pub returns-then-len-eq-BATCH-clause-more : goal.returns-then-len-eq-BATCH-clause-more
returns-then-len-eq-BATCH-clause-more g c =
    let l = c.len.ensures in let t = c.if-len-eq-BATCH.true in let n = c.loop-at.invariant.all.count in
    let test = c.loop-at-test.true in let ok = c.loop-at.items.ok.0 in
    (omega (arith, l, t, n, ok), omega (arith, test))

pub loop-at-preserved : goal.loop-at-preserved
loop-at-preserved g c =
    let i = c.loop-at.invariant in
    let few : length c.loop-at.items.items < 256 =
    (let l = c.len.ensures in let t = c.if-len-eq-BATCH.false in let n = i.all.few in let ok =
    c.loop-at.items.ok.0 in omega (arith, l, t, n, ok)) in
    record {
      at = let le = i.at in omega (arith, le);
      all = collected_push (Gives g.F.Fn c.args.shared.now.rule) c.args.shared.now.stage
          c.args.shared.now.routes c.args.mux.0
          c.args.from c.loop-at.at c.loop-at.items.items c.push.new.self.items c.loop-at.fates.items
          c.push-in-loop-at.new.self.items
          c.item_at-item.result c.fate-fate.result c.in_ok-push.ensures.items c.in_ok-push-2.ensures.items i.at few
          c.item_at-item.ensures.packet
          (c.item_at-item.ensures.item c.args.mux.0 (sym c.if-not-is_assigned_to.ensures)) c.fate-fate.ensures.gives c.fate-fate.ensures.copies c.fate-fate.ensures.delay
          i.all;
    }

pub is_assigned_to-requires : goal.is_assigned_to-requires
is_assigned_to-requires g c =
    let until = c.requires.until.1 in let test = c.loop-at-test.true in omega (arith, until, test)

pub loop-at-preserved-then-not-is_assigned_to : goal.loop-at-preserved-then-not-is_assigned_to
loop-at-preserved-then-not-is_assigned_to g c =
    let i = c.loop-at.invariant in record {
      at = let le = i.at in omega (arith, le);
      all = collected_skip (Gives g.F.Fn c.args.shared.now.rule) c.args.shared.now.stage
          c.args.shared.now.routes c.args.mux.0 c.args.from c.loop-at.at c.loop-at.items.items
          c.loop-at.fates.items (sym c.if-not-is_assigned_to.ensures) i.all;
    }

pub item_at-item-requires-clause-at : goal.item_at-item-requires-clause-at
item_at-item-requires-clause-at g c =
    let until = c.requires.until.1 in let test = c.loop-at-test.true in omega (arith, until, test)

pub item_at-item-requires-clause-steerable : goal.item_at-item-requires-clause-steerable
item_at-item-requires-clause-steerable g c =
    c.alloc.ensures.steerable (c.loop-at.at + 1) c.args.mux.0
    (mux_is c.args.mux.0 _ (sym c.if-not-is_assigned_to.ensures))

pub returns-clause-all : goal.returns-clause-all
returns-clause-all g c =
    let test = c.loop-at-test.false in let end = c.loop-at.auto.at-end in
    let over : c.loop-at.at ≡ c.args.until = omega (arith, test, end) in
    subst (λ (end : ℕ). AreCollected (Gives g.F.Fn c.args.shared.now.rule) c.args.shared.now.stage
    c.args.shared.now.routes c.args.mux.0 c.args.from end c.loop-at.items.items c.loop-at.fates.items) over
    c.loop-at.invariant.all

use Rattle.std.proofs.Common.{ap, rules, ◌||◌}
use Rattle.bm_controller.proofs.Answered.{known-more, known-end}
use Rattle.bm_controller.proofs.engine.known_of.Goals as goal
use Rattle.bm_table.specs.Tables as tables

pub loop-s-init : goal.loop-s-init
loop-s-init c = record {
  long = c.in_ok-known.ensures.count;
  each = λ s l. ap (λ t. t || tables.is_among c.args.servers.now s) (c.in_ok-known.ensures.none s.0);
}

pub loop-s-preserved : goal.loop-s-preserved
loop-s-preserved c = record {
  long = c.loop-s.invariant.long;
  each = λ s l. known-more c.args.servers.now c.loop-s.s-index (record { 0 = 0 }) c.loop-s.known.items
      c.loop-s-test.true (search rules) s (c.loop-s.invariant.each s l);
}

pub returns-clause-known : goal.returns-clause-known
returns-clause-known c =
    λ s l. known-end c.args.servers.now c.loop-s.s-index _ s c.loop-s-test.false (c.loop-s.invariant.each s l)

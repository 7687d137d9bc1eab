use Rattle.bm_connections.proofs.Lines.{lines_more}
use Rattle.bm_connections_cli.specs.Stories.{told}
use Rattle.bm_connections_cli.proofs.stories.write_all.Goals as goal

pub loop-c-preserved : goal.loop-c-preserved
loop-c-preserved c = record {
  written = lines_more (told c.args.clock.0 c.args.h.now) c.args.list.now c.loop-c.c-index _ _ _ _
      c.loop-c-test.true c.in_ok-write_told.ensures c.loop-c.invariant.written;
}

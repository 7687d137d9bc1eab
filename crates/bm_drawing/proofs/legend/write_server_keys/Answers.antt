use Rattle.std.proofs.Common.{◌+◌, refl}
use Rattle.bm_drawing.specs.Drawing.{server_key, server_keys}
use Rattle.bm_drawing.proofs.Rests.{rest_more}
use Rattle.bm_drawing.proofs.legend.write_server_keys.Goals as goal

pub loop-place-preserved : goal.loop-place-preserved
loop-place-preserved c = record {
  written = rest_more server_key (λ place x. place + 1) server_keys (λ s x xs. refl) c.args.servers.now
      c.loop-place.place _ c.loop-place.place _ _ _ c.loop-place-test.true c.in_ok-write_server_key.ensures
      c.loop-place.invariant.written;
}

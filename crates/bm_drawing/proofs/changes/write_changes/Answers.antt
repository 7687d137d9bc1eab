use Rattle.std.proofs.Common.{◌+◌, ◌++◌, ◌∙◌, ap, drop, refl, string_bytes}
use Rattle.bm_drawing.specs.Drawing.{after, change, changes}
use Rattle.bm_drawing.specs.Scales.{x}
use Rattle.bm_drawing.proofs.Rests.{rest_more}
use Rattle.bm_drawing.proofs.changes.write_changes.Goals as goal

pub loop-change-preserved : goal.loop-change-preserved
loop-change-preserved c = record {
  written =
      ap (λ free. string_bytes c.write_change.new.text
      ++ changes c.args.plot free (drop (c.loop-change.change-index + 1) c.args.changes.now))
      c.after-free.ensures
      ∙ rest_more (change c.args.plot) (λ free p. after free (x c.args.plot.span p.clock.0)) (changes c.args.plot)
      (λ s x xs. refl)
      c.args.changes.now c.loop-change.change-index _ c.loop-change.free _ _ _ c.loop-change-test.true
      c.in_ok-write_change.ensures c.loop-change.invariant.written;
}

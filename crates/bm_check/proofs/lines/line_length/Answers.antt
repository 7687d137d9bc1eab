use Rattle.std.proofs.Common.{◌≡◌, ◌+◌, ◌∷◌, [], arith, false, true, rules, ap, refl, ◌∙◌, suc}
use Rattle.std.proofs.Math.Seq.{take-suc}
use Rattle.std.specs.Prelude.{slice_index, take}
use Rattle.bm_trace.proofs.Reading.{runs_on_append}
use Rattle.bm_trace.specs.Inside.Reading.{runs_on}
use Rattle.bm_check.specs.Inside.Taking.{is_feed}
use Rattle.bm_check.proofs.lines.line_length.Goals as goal

pub loop-place-preserved : goal.loop-place-preserved
loop-place-preserved c =
    let text = c.args.text.now
    in let at = c.loop-place.place
    in let below = c.loop-place-test.true
    in let goes_on : is_feed (slice_index text at) ≡ false = search rules
    in let one : runs_on is_feed (slice_index text at ∷ []) ≡ true = rw goes_on refl
    in let next : at + 1 ≡ suc at = omega arith
    in (
      omega (arith, below),
      ap (λ n. runs_on is_feed (take n text)) next ∙ ap (λ t. runs_on is_feed t) (take-suc text at 0 below)
          ∙ runs_on_append is_feed (take at text) (slice_index text at ∷ []) c.loop-place.invariant.1 one,
    )

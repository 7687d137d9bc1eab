use Rattle.std.proofs.Common.{◌≡◌, ◌+◌, arith, false, rules, ap, ◌∙◌, suc}
use Rattle.std.proofs.Math.Seq.{take-suc}
use Rattle.std.specs.Prelude.{slice_index, take}
use Rattle.bm_trace.specs.Inside.Reading.{ends_word, is_word}
use Rattle.bm_check.proofs.Texts.{word_longer}
use Rattle.bm_check.proofs.words.word_length.Goals as goal

pub loop-place-preserved : goal.loop-place-preserved
loop-place-preserved c =
    let text = c.args.text.now
    in let at = c.loop-place.place
    in let below = c.loop-place-test.true
    in let goes_on : ends_word (slice_index text at) ≡ false = search rules
    in let next : at + 1 ≡ suc at = omega arith
    in (
      omega (arith, below),
      ap (λ n. is_word (take n text)) next ∙ ap is_word (take-suc text at 0 below)
          ∙ word_longer (take at text) (slice_index text at) c.loop-place.invariant.1 goes_on,
    )

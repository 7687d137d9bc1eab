use Rattle.std.proofs.Common.{◌≡◌, ◌<◌, ◌-◌, ◌∙◌, ℕ, length, length-set, ap, arith, rules}
use Rattle.bm_base.proofs.Pieces.{all_lowered, lower_next}
use Rattle.bm_base.proofs.octets.lower.Goals as goal

pub loop-place-preserved : goal.loop-place-preserved
loop-place-preserved c =
    let kept = c.loop-place.invariant in
    let count : c.len-place-end.result ≡ length c.args.numbers.now.items = search rules in
    let inside : c.loop-place.place < length c.args.numbers.now.items =
    omega (arith, c.loop-place-test.true, count) in
    let value = c.saturating_sub.ensures ∙ ap (λ (n : ℕ). n - c.args.by) c.index.ensures in (
      omega (arith, inside),
      length-set c.loop-place.numbers.items c.loop-place.place c.saturating_sub.result ∙ kept.1,
      lower_next c.args.by c.loop-place.place c.loop-place.numbers.items c.args.numbers.now.items _ _ inside kept.2
          value,
    )

pub returns : goal.returns
returns c =
    let kept = c.loop-place.invariant in
    let count : c.len-place-end.result ≡ length c.args.numbers.now.items = search rules in
    kept.2
    ∙ all_lowered c.args.by c.loop-place.place c.args.numbers.now.items (omega (arith, c.loop-place-test.false, count))

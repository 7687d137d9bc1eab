use Rattle.std.proofs.Common.{◌≡◌, ◌<◌, ◌∷◌, [], ◌++◌, ap, arith, length, rules, ◌∙◌}
use Rattle.bm_check.proofs.Reports.{first_bad}
use Rattle.bm_check.specs.Lines.{AreGood, lines}
use Rattle.bm_check.proofs.lines.read_lines.Goals as goal

pub returns-then-not-branch : goal.returns-then-not-branch
returns-then-not-branch c =
    let kept = c.loop-rest.invariant.0
    in let some : 0 < length c.loop-rest.rest.now = search rules
    in let within = c.loop-rest.invariant.1
    in let line = c.first_line.result.0.now
    in let later = c.first_line.result.1.now
    in let whole : lines c.args.trace.now ≡ kept.0 ++ line ∷ lines later =
    kept.2 ∙ ap (λ x. kept.0 ++ x) c.first_line.ensures.line
    in let bad : AreGood (kept.0 ++ line ∷ []) → ⊥ = search rules
    in (
      first_bad c.loop-rest.events.items kept.0 line (lines later) (lines c.args.trace.now) c.loop-rest.number kept.1.0
          kept.1.1 whole bad,
      omega (arith, within, some),
    )

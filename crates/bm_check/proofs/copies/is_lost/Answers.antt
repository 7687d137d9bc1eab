use Rattle.std.proofs.Common.{◌≡◌, ◌==◌, true, false, ap, sym, ◌∙◌}
use Rattle.std.proofs.lemmas.Bool.{eq-eqb}
use Rattle.bm_fault.specs.Faults.{Gives}
use Rattle.bm_check.proofs.Copying.{copyless_total, eq_decides}
use Rattle.bm_check.proofs.Differing.{no_eqb}
use Rattle.bm_check.proofs.copies.is_lost.Goals as goal

pub returns-then-fate-eq0 : goal.returns-then-fate-eq0
returns-then-fate-eq0 g c all fates kept one fated =
    let F = Gives g.F.Fn c.args.faults.now.rule
    in let decides = c.are_all.ensures all kept
    in let none : (c.fate-fate.result.copies == 0) ≡ true = eq-eqb c.fate-fate.result.copies 0 c.if-fate-eq0.true
    in let total =
    copyless_total F one fates all c.args.packet c.args.hop c.args.clock.0 c.fate-fate.result c.fate-fate.ensures.gives
    fated
    in let sent = rw none at total
    in (λ t. decides.0 t ∙ sym sent, λ same. decides.1 (same ∙ sent))

pub returns-else-fate-eq0 : goal.returns-else-fate-eq0
returns-else-fate-eq0 g c all fates kept one fated =
    let F = Gives g.F.Fn c.args.faults.now.rule
    in let decides = c.is_kept.ensures all kept
    in let some : (c.fate-fate.result.copies == 0) ≡ false = no_eqb c.fate-fate.result.copies 0 c.if-fate-eq0.false
    in let total =
    copyless_total F one fates all c.args.packet c.args.hop c.args.clock.0 c.fate-fate.result c.fate-fate.ensures.gives
    fated
    in let none = rw some at total
    in (λ t. decides.0 t ∙ sym none, λ same. decides.1 (same ∙ none))

use Rattle.std.proofs.Common.{◌*◌, ap, arith, sym, ◌∙◌}
use Rattle.bm_fault.specs.Faults.{Gives}
use Rattle.bm_check.proofs.Copying.{copies_total, eq_decides, few_sendings}
use Rattle.bm_check.proofs.copies.has_arrived.Goals as goal

pub returns : goal.returns
returns g c all fates few kept one fated =
    let F = Gives g.F.Fn c.args.faults.now.rule
    in let k = c.args.packet
    in let hop = c.args.hop
    in let tally = c.of-tally.ensures.tally all kept
    in let came = ap (λ t. t.arrivals) tally
    in let sent = ap (λ t. t.sendings) tally
    in let low = few_sendings all k hop few
    in let product = c.all_copies.ensures c.fate-fate.ensures.copies (omega (arith, sent, low))
    ∙ ap (λ n. c.fate-fate.result.copies * n) sent
    in let total = copies_total F one fates all k hop c.fate-fate.result c.fate-fate.ensures.gives fated
    in eq_decides _ _ _ _ came (product ∙ sym total)

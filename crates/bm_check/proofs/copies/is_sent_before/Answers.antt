use Rattle.std.proofs.Common.{◌*◌, ap, arith, subst, sym, ◌∙◌}
use Rattle.std.specs.Bool.{Decides}
use Rattle.std.specs.Prelude.{nat_lt}
use Rattle.bm_fault.specs.Faults.{Gives}
use Rattle.bm_check.proofs.Copying.{copies_total, few_sendings, lt_decides}
use Rattle.bm_check.specs.Inside.Copies.{IsSentBefore}
use Rattle.bm_check.proofs.copies.is_sent_before.Goals as goal

pub returns-in-Arrive : goal.returns-in-Arrive
returns-in-Arrive g c past fates few kept one fated =
    let F = Gives g.F.Fn c.args.faults.now.rule
    in let k = c.in-Arrive.packet
    in let hop = c.in-Arrive.hop
    in let tally = c.of-tally.ensures.tally past kept
    in let came = ap (λ t. t.arrivals) tally
    in let sent = ap (λ t. t.sendings) tally
    in let low = few_sendings past k hop few
    in let product = c.all_copies.ensures c.fate-fate.ensures.copies (omega (arith, sent, low))
    ∙ ap (λ n. c.fate-fate.result.copies * n) sent
    in let total = copies_total F one fates past k hop c.fate-fate.result c.fate-fate.ensures.gives fated
    in subst (λ w. Decides (nat_lt c.of-tally.result.arrivals c.all_copies.result) (IsSentBefore fates past w))
    (sym c.in-Arrive.is) (lt_decides _ _ _ _ came (product ∙ sym total))

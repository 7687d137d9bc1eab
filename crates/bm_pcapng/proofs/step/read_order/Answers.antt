use Rattle.std.proofs.Common.{arith, sym, ◌∙◌}
use Rattle.bm_pcapng.proofs.Orders.{no_order, no_section, order_bad, order_read}
use Rattle.bm_pcapng.proofs.Heads.{ahead_old}
use Rattle.bm_pcapng.proofs.step.read_order.Goals as goal

pub returns-then-branch-lt4-clause-gives : goal.returns-then-branch-lt4-clause-gives
returns-then-branch-lt4-clause-gives g c =
    no_order _ 4 _ _ (omega arith) c.in_ok-want.ensures.ahead c.if-branch-lt4.true

pub returns-then-not-is_section-clause-gives : goal.returns-then-not-is_section-clause-gives
returns-then-not-is_section-clause-gives g c =
    no_section _ _ _ c.buffered.result.now c.in_ok-want.ensures.ahead c.if-branch-lt4.false c.in_ok-want.ensures.bound.0
    c.buffered.ensures (sym (c.if-not-is_section.ensures))

pub returns-then-branch-lt12-clause-gives : goal.returns-then-branch-lt12-clause-gives
returns-then-branch-lt12-clause-gives g c =
    no_order _ 12 _ _ (omega arith) (ahead_old _ _ _ _ _ c.in_ok-want.ensures.keeps c.in_ok-want-2.ensures.ahead)
    c.if-branch-lt12.true

pub returns-in-Some-clause-gives : goal.returns-in-Some-clause-gives
returns-in-Some-clause-gives g c =
    order_read _ _ _ _ _ _ c.buffered.result.now c.buffered-2.result.now _ c.in_ok-want.ensures.ahead c.if-branch-lt4.false
    c.in_ok-want.ensures.bound.0 c.buffered.ensures (sym c.if-not-is_section.ensures) c.in_ok-want.ensures.keeps
    c.in_ok-want-2.ensures.ahead c.if-branch-lt12.false c.in_ok-want-2.ensures.bound.0 c.buffered-2.ensures
    (sym c.magic.ensures ∙ c.in-Some.is)

pub returns-in-None-clause-gives : goal.returns-in-None-clause-gives
returns-in-None-clause-gives g c =
    order_bad _ _ _ _ _ _ c.buffered.result.now c.buffered-2.result.now c.in_ok-want.ensures.ahead c.if-branch-lt4.false
    c.in_ok-want.ensures.bound.0 c.buffered.ensures (sym c.if-not-is_section.ensures) c.in_ok-want.ensures.keeps
    c.in_ok-want-2.ensures.ahead c.if-branch-lt12.false c.in_ok-want-2.ensures.bound.0 c.buffered-2.ensures
    (sym c.magic.ensures ∙ c.in-None.is)

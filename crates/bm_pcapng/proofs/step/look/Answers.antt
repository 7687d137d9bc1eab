use Rattle.std.proofs.Common.{ap, ℕ, List, take}
use Rattle.bm_pcapng.proofs.Steps.{body_whole}
use Rattle.bm_pcapng.proofs.step.look.Goals as goal

pub returns-else-count-whole-clause-gives : goal.returns-else-count-whole-clause-gives
returns-else-count-whole-clause-gives g c =
    body_whole _ _ c.args.section.now.order c.args.section.now.interfaces.items c.args.place.now
    c.in_ok-read_head.field-0 c.in-States.kind c.in-States.order c.in-States.size _ _ _
    (take c.in-States.size c.buffered.result.now) c.framed.result
    c.in-States.is c.in_ok-read_head.ensures.gives c.in_ok-read_head.ensures.keeps
    c.in_ok-count-in-States.ensures.ahead c.min.ensures c.if-count-room.false c.if-count-whole.false
    (ap (λ (xs : List ℕ). take c.in-States.size xs) c.buffered.ensures) c.framed.ensures.block

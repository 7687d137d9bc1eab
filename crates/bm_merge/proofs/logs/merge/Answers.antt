use Rattle.std.proofs.Common.{◌∙◌, ap, List}
use Rattle.std.specs.Prelude.{reverse}
use Rattle.bm_core.specs.declared.events.Event.{Event}
use Rattle.bm_merge.specs.Merges.{by_clock, joined}
use Rattle.bm_merge.proofs.Joined.{joined_law}
use Rattle.bm_merge.proofs.logs.merge.Goals as goal

pub returns-clause-run : goal.returns-clause-run
returns-clause-run c = λ named are agree.
    joined_law (record { stage = c.args.stage; events = c.of.result }) named c.args.logs.items
    (c.of.ensures ∙ c.in_ok-events.ensures.order
    ∙ ap (λ (l : List (List Event)). reverse (by_clock (reverse (joined l)))) c.as_slice.ensures.value) are agree

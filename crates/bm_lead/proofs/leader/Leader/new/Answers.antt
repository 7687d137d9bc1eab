use Rattle.std.proofs.Common.{refl}
use Rattle.bm_lead.proofs.Ending.{led_nothing, ready_first}
use Rattle.bm_lead.proofs.leader.Leader.new.Goals as goal

pub returns-clause-ready : goal.returns-clause-ready
returns-clause-ready c = λ stage servers posted sound begins.
    ready_first stage servers posted _ sound begins refl refl

pub returns-clause-led : goal.returns-clause-led
returns-clause-led c = λ stage servers posted begins.
    led_nothing stage servers posted _ begins refl refl c.new.ensures.items

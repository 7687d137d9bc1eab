use Rattle.bm_connections_cli.proofs.Ending.{lifetime_refused, lifetime_shown}
use Rattle.bm_connections_cli.proofs.top.explain.Goals as goal

pub returns-in-Ok-clause-ends : goal.returns-in-Ok-clause-ends
returns-in-Ok-clause-ends g c =
    lifetime_shown c.args.name.now c.args.seconds _ _ _ _ _ c.in-Ok.script c.tell_lifetime.result
    c.in-Ok.ensures.script c.tell_lifetime.ensures

pub returns-in-Err-clause-ends : goal.returns-in-Err-clause-ends
returns-in-Err-clause-ends g c =
    lifetime_refused c.args.name.now c.args.seconds _ _ _ _ _ c.in-Err.fault c.refuse.result
    c.in-Err.ensures.script c.refuse.ensures

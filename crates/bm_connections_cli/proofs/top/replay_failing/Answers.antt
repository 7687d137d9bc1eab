use Rattle.std.proofs.Common.{Bool, List, false, ◌≡◌, subst}
use Rattle.std.specs.Prelude.{if◌then◌else◌}
use Rattle.bm_connections.specs.Connections.{connections}
use Rattle.bm_connections_cli.specs.Failing.{fails_one}
use Rattle.bm_connections_cli.proofs.Outcomes.{fails_if}
use Rattle.bm_connections_cli.proofs.top.replay_failing.Goals as goal

pub returns-clause-fails : goal.returns-clause-fails
returns-clause-fails g c =
    let both = c.in_ok-both.both in
    fails_if c.args.asked c.args.stage both.history both.wholes.items c.in_ok-fails.fails c.in_ok-both.ensures
    (subst (λ (ws : List Bool). c.in_ok-fails.fails
    ≡ (if c.args.asked then fails_one (connections both.history) ws else false))
    c.as_slice.ensures.value c.in_ok-fails.ensures)

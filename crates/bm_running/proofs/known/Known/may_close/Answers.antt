use Rattle.std.proofs.Common.{◌≡◌, ap, subst, ◌∙◌}
use Rattle.std.specs.Bool.{Decides, beq}
use Rattle.std.specs.Cmp.{booleans_Decides}
use Rattle.bm_core.specs.declared.events.What.TheVariants.{Close}
use Rattle.bm_running.proofs.known.Known.may_close.Goals as goal

pub returns-clause-decides : goal.returns-clause-decides
returns-clause-decides c past knows =
    let given = c.in_ok-given.given
    in subst (λ held. Decides (beq c.args.closed given) (c.args.closed ≡ held))
    (c.in_ok-given.ensures.held past knows.shards) (booleans_Decides c.args.closed given)

pub returns-clause-shards : goal.returns-clause-shards
returns-clause-shards c past e knows is may =
    c.in_ok-given.ensures.kept past e knows.shards
    (is ∙ ap (λ b. Close c.args.server c.args.flow b) ((booleans_Decides c.args.closed c.in_ok-given.given).0 may))

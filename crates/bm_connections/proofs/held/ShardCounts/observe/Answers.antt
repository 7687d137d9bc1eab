use Rattle.std.proofs.Common.{sym, ◌∙◌}
use Rattle.bm_connections.specs.Inside.Held.{count}
use Rattle.bm_connections.proofs.Holding.{counts_changed}
use Rattle.bm_connections.proofs.held.ShardCounts.observe.Goals as goal

pub returns-in_ok-apply : goal.returns-in_ok-apply
returns-in_ok-apply c = λ past holders k.
    counts_changed c.args.stage.now past c.args.event.now c.in-Some.change c.is_held-is_held.result
    (count c.args.self.now) (count c.apply.new.self) (sym c.change_of.ensures ∙ c.in-Some.is)
    (c.is_held-is_held.ensures past holders) c.in_ok-apply.ensures k

use Rattle.bm_core.proofs.laws.elsewhere.Goals as goal
use Rattle.bm_core.proofs.Owned.{elsewhere_shows, shown_elsewhere}

pub returns : goal.returns
returns c = λ past flow server. (
  λ shows. shown_elsewhere c.args.stage.now past past server flow shows,
  λ there. elsewhere_shows c.args.stage.now past past there.0 server flow there.2 there.1 there.2,
)

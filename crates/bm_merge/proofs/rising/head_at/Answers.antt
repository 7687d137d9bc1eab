use Rattle.std.proofs.Common.{refl}
use Rattle.bm_merge.proofs.Heading.{next_at}
use Rattle.bm_merge.proofs.rising.head_at.Goals as goal

pub returns-then-place-count : goal.returns-then-place-count
returns-then-place-count g c = (
  refl,
  next_at g.L.EventLog.events c.args.logs.now c.args.log c.args.place c.event-event.result _ c.requires
      c.index-logs-log-then-place-count.is c.event-event.ensures,
)

use Rattle.std.proofs.Common.{length, sym, ap, ◌∙◌}
use Rattle.std.proofs.Common.{Vec, Global}
use Rattle.bm_base.specs.declared.ids.ServerId.{ServerId}
use Rattle.bm_world.proofs.KnownServers.{known_more, known_less, nothing_below}
use Rattle.bm_world.proofs.known.known_servers.Goals as goal
use Rattle.bm_world.proofs.known.known_servers.Goals.{then-is_known_at_last+in_ok-push, else-is_known_at_last}

pub loop-number-init : goal.loop-number-init
loop-number-init c =
    nothing_below c.args.script.now.plan (length c.args.script.now.plan.changes) c.new-ids.result.items
    c.new-ids.ensures.items

pub loop-number-preserved : goal.loop-number-preserved
loop-number-preserved c = elim c.if-is_known_at_last.branch [
  | then-is_known_at_last+in_ok-push w ↦ known_more c.args.script.now.plan (length c.args.script.now.plan.changes)
      c.loop-number.number c.loop-number.ids.items c.if-is_known_at_last.ids.items c.loop-number.auto.number
      (sym c.is_known_at_last.ensures ∙ w.if-is_known_at_last.true)
      (ap (λ (v : Vec ServerId Global). v.items) w.ids-is ∙ w.in_ok-push.ensures.items) c.loop-number.invariant
  | else-is_known_at_last w ↦ known_less c.args.script.now.plan (length c.args.script.now.plan.changes)
      c.loop-number.number c.loop-number.ids.items c.if-is_known_at_last.ids.items
      (sym c.is_known_at_last.ensures ∙ w.if-is_known_at_last.false)
      (ap (λ (v : Vec ServerId Global). v.items) w.ids-is) c.loop-number.invariant
]

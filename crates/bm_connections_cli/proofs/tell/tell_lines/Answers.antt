use Rattle.std.proofs.Common.{◌∙◌, ℕ, List, ap, flat_map, subst}
use Rattle.bm_cli.specs.declared.status.Status.TheVariants.{Done}
use Rattle.bm_cli.specs.Statuses.{Writes, did}
use Rattle.bm_connections_cli.proofs.tell.tell_lines.Goals as goal

pub returns-in-Ok : goal.returns-in-Ok
returns-in-Ok g c =
    subst (λ (t : List ℕ). Writes Done t
    (did g.K.Sink.written g.K.Sink.faults c.args.out.now c.tell_parts.new.out) c.tell_parts.result)
    (ap (flat_map (λ (part : List ℕ). part)) (c.as_slice.ensures.value ∙ c.in-Ok.ensures)) c.tell_parts.ensures

use Rattle.std.proofs.Common.{◌∙◌, ap, sym}
use Rattle.bm_connections.specs.Counts.{is_cause}
use Rattle.bm_connections.proofs.Causes.{equal_number}
use Rattle.bm_connections.proofs.counts.is_cause.Goals as goal

pub returns-in-Some : goal.returns-in-Some
returns-in-Some c =
    c.eq.ensures ∙ equal_number c.in-Some.found c.args.cause ∙ sym (ap (is_cause c.args.cause) c.in-Some.is)

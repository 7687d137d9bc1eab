use Rattle.std.proofs.Common.{sym, arith, rules}
use Rattle.bm_link.specs.Classes.{classified}
use Rattle.bm_link.proofs.Services.{goes_to-true}
use Rattle.bm_link.proofs.record.classify.Goals as goal

pub returns-then-packet-clause-class : goal.returns-then-packet-clause-class
unfolding classified
returns-then-packet-clause-class c = search rules

pub returns-clause-class : goal.returns-clause-class
unfolding classified
returns-clause-class c = search rules

pub returns-clause-fit : goal.returns-clause-fit
returns-clause-fit c moment = (
  goes_to-true c.args.vips.now c.in-Ok-read_packet.read.0.flow (sym c.if-not-goes_to.ensures),
  let bound =
      c.in-Ok-read_packet.ensures.bound in omega arith,
)

pub returns-clause-packet : goal.returns-clause-packet
returns-clause-packet c = search rules

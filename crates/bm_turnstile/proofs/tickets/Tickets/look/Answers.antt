use Rattle.std.proofs.Common.{rules}
use Rattle.bm_turnstile.proofs.Steps.{looks}
use Rattle.bm_turnstile.proofs.tickets.Tickets.look.Goals as goal

pub load-requires : goal.load-requires
load-requires g c = (search rules, search rules, looks _ _ _ _ _ _ _ _ _ c.args.ticket (search rules))

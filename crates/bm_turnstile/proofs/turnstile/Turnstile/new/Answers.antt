use Rattle.bm_turnstile.proofs.Places.{seated_at}
use Rattle.bm_turnstile.proofs.turnstile.Turnstile.new.Goals as goal

pub returns-clause-each : goal.returns-clause-each
returns-clause-each g c =
    let e = c.seated.ensures in
    let about = g.T.Booked.fixed c.args.state in
    seated_at about c.args.seats (λ t. t.0) (λ t. t.1.items) c.seated.result e.given e.new e.own

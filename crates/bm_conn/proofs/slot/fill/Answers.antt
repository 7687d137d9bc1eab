use Rattle.bm_conn.proofs.Changes.{filled}
use Rattle.bm_conn.proofs.slot.fill.Goals as goal

pub returns-clause-puts : goal.returns-clause-puts
returns-clause-puts c =
    (filled c.args.places.now c.args.found.flow c.args.found.place c.args.receiver c.args.found.receiver
    c.requires.placed c.requires.found.place c.requires.found.receiver).0

pub returns-clause-count : goal.returns-clause-count
returns-clause-count c =
    (filled c.args.places.now c.args.found.flow c.args.found.place c.args.receiver c.args.found.receiver
    c.requires.placed c.requires.found.place c.requires.found.receiver).1

use Rattle.std.proofs.Common.{rules}
use Rattle.bm_cli.proofs.Names.{asks_all}
use Rattle.bm_cli.proofs.reading.read_file.Goals as goal

pub returns-clause-capture : goal.returns-clause-capture
returns-clause-capture g c = rw c.with_beginning.ensures.records (search rules)

pub returns-clause-replayable : goal.returns-clause-replayable
returns-clause-replayable g c = rw c.with_beginning.ensures.records (search rules)

pub returns-clause-packets : goal.returns-clause-packets
returns-clause-packets g c = rw c.with_beginning.ensures.records (search rules)

pub returns-clause-cause : goal.returns-clause-cause
returns-clause-cause g c = rw c.with_beginning.ensures.records (search rules)

pub returns-clause-asked : goal.returns-clause-asked
returns-clause-asked g c = asks_all _ _ _ (search rules)

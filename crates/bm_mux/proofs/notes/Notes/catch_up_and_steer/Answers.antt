use Rattle.std.proofs.Common.{arith, rules}
use Rattle.std.proofs.lemmas.Grind.{common_steps}
use Rattle.bm_mux.proofs.notes.Notes.catch_up_and_steer.Goals as goal

pub catch_up-requires-clause-room : goal.catch_up-requires-clause-room
catch_up-requires-clause-room c = search rules

pub returns-clause-ok : goal.returns-clause-ok
returns-clause-ok c = grind (arith, common_steps)

use Rattle.std.proofs.Common.{rules}
use Rattle.bm_pcapng.proofs.place.Place.moment.Goals as goal

pub returns-in-Some : goal.returns-in-Some
returns-in-Some c = search rules

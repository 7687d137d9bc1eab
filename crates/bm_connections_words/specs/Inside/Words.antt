-- What the code has read, without where its texts are.
use Rattle.bm_connections_words.specs.declared.options.Reading.{Reading}
use Rattle.bm_connections_words.specs.Options.{Read, awaiting, said}

abbrev pub so_far : Reading → Read
so_far r = awaiting (said r.options) r.awaits_client

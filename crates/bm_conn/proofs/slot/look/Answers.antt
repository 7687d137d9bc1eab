use Rattle.std.proofs.Common.{◌∙◌}
use Rattle.bm_conn.proofs.Filled.{some_free}
use Rattle.bm_conn.proofs.Changes.{place_receiver}
use Rattle.bm_conn.proofs.slot.look.Goals as goal

pub seek-place-requires-clause-free : goal.seek-place-requires-clause-free
seek-place-requires-clause-free c = some_free c.args.places.now c.requires.spare

pub returns-clause-found : goal.returns-clause-found
returns-clause-found c = record {
  receiver = c.receiver_of.ensures
      ∙ place_receiver c.args.places.now c.args.flow.now c.seek-place.result c.requires.placed c.seek-place.ensures;
  place = c.seek-place.ensures;
}

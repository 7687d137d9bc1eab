use Rattle.std.proofs.Common.{List, slice_get, sym, ap, ◌∙◌}
use Rattle.bm_server.specs.Seats.{Seated}
use Rattle.bm_server.proofs.server.Server.new.Goals as goal

pub returns-clause-each : goal.returns-clause-each
returns-clause-each c = λ i seat at.
    let here = ap (λ (l : List (List Seated)). slice_get l i) (sym c.in_ok-given.ensures) ∙ at in
    c.in_ok-shards.ensures.each i seat here

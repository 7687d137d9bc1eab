use Rattle.std.proofs.Common.{◌≡◌, List, Some, sym, ap, ◌∙◌, subst}
use Rattle.std.specs.Prelude.{slice_get}
use Rattle.bm_server.specs.Servings.{Serving}
use Rattle.bm_worker.specs.WorkerNotes.{NumbersRise}
use Rattle.bm_lead.proofs.command.known_place.Goals as goal

pub place_of-requires : goal.place_of-requires
place_of-requires g c = subst NumbersRise (sym c.servers.ensures.value) c.servers.ensures.set_up.servers_are.rise

pub unreachable-requires : goal.unreachable-requires
unreachable-requires g c =
    let has = c.servers.ensures.set_up.servers_are.known c.args.id c.requires in
    c.place_of.ensures.none c.in_default.is has.0 has.1
    (ap (λ (l : List Serving). slice_get l has.0) c.servers.ensures.value ∙ has.2) has.3

pub returns : goal.returns
returns g c =
    subst (λ (l : List Serving). (server : Serving) × (slice_get l c.in-Some.place ≡ Some server)
    × (server.id ≡ c.args.id)) c.servers.ensures.value (c.place_of.ensures.some c.in-Some.place c.in-Some.is)

use Rattle.std.proofs.Common.{refl, reverse}
use Rattle.bm_connections.proofs.Tabled.{place_kept, seen_here, seen_new, sight_is}
use Rattle.bm_connections.proofs.seen.Seen.see_packet.Goals as goal

pub is_risky_at-risky-requires : goal.is_risky_at-risky-requires
is_risky_at-risky-requires c =
    place_kept (reverse c.args.before.now) c.args.self.now c.args.segment.flow c.in-Some.place (cc) c.requires.seen

pub see_again-requires : goal.see_again-requires
see_again-requires c =
    place_kept (reverse c.args.before.now) c.args.self.now c.args.segment.flow c.in-Some.place (cc) c.requires.seen

pub returns-in_ok-see_again-in-Some : goal.returns-in_ok-see_again-in-Some
returns-in_ok-see_again-in-Some c =
    seen_here (reverse c.args.before.now) c.args.next.now c.args.segment _ c.in-Some.place _
    c.args.self.now _ c.requires.body (sight_is c.args.before.now c.args.next.now) (cc) refl
    c.is_risky_at-risky.ensures c.in_ok-see_again-in-Some.ensures.places
    c.in_ok-see_again-in-Some.ensures.risky c.in_ok-see_again-in-Some.ensures.connections c.requires.seen

pub returns-in_ok-see_first-in-None : goal.returns-in_ok-see_first-in-None
returns-in_ok-see_first-in-None c =
    seen_new (reverse c.args.before.now) c.args.next.now c.args.segment _ c.count-place.result _
    c.args.self.now _ c.requires.body (sight_is c.args.before.now c.args.next.now) (cc) c.count-place.ensures
    c.in_ok-put_place-in-None.ensures c.in_ok-see_first-in-None.ensures.places c.is_risky-risky.ensures
    c.in_ok-see_first-in-None.ensures.risky c.in_ok-see_first-in-None.ensures.connections c.requires.seen

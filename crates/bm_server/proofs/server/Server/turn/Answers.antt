use Rattle.std.proofs.Common.{◌≡◌, ◌+◌, ◌≤◌, ◌++◌, map, set, get_or, List, ap, ◌∙◌, subst, arith}
use Rattle.std.proofs.Math.Seq.{map-set_same}
use Rattle.bm_turnstile.specs.Sittings.{who}
use Rattle.bm_server.specs.Seats.{Seated, TakesTurn, added_at, most_turns, replies_at}
use Rattle.bm_server.proofs.Turns.{inside, takes_turn, turned_reply, turns_at, turns_set, replies_set}
use Rattle.bm_server.proofs.server.Server.turn.Goals as goal

pub turn-requires-clause-few : goal.turn-requires-clause-few
turn-requires-clause-few g c =
    let s = c.index_mut.result.now in
    let l = c.seat.inside.seats.items in
    let h = c.args.shard in
    let lt = inside c.args.self.now.tables l c.args.seat.now h c.seat.view_is c.requires.mine c.requires.shard in
    let is : s ≡ get_or l h s = c.index_mut.ensures.value in
    let most : most_turns l ≡ most_turns c.args.seat.now = ap most_turns c.seat.view_is in
    let few = c.requires.few in
    let a : (get_or l h s).turns ≤ most_turns l = turns_at l h s lt in
    let b : s.turns ≡ (get_or l h s).turns = ap (λ (x : Seated). x.turns) is in
    omega (arith, a, b, most, few)

pub returns-clause-who : goal.returns-clause-who
returns-clause-who g c =
    let s = c.index_mut.result.now in
    let l = c.seat.inside.seats.items in
    map-set_same who l c.args.shard c.turn.new.seat s (c.turn.ensures.who ∙ ap who c.index_mut.ensures.value)
    ∙ ap (λ (l : List Seated). map who l) c.seat.view_is

pub returns-clause-turns : goal.returns-clause-turns
returns-clause-turns g c =
    let s = c.index_mut.result.now in
    let l = c.seat.inside.seats.items in
    let h = c.args.shard in
    let lt = inside c.args.self.now.tables l c.args.seat.now h c.seat.view_is c.requires.mine c.requires.shard in
    let is : s ≡ get_or l h s = c.index_mut.ensures.value in
    let more : c.turn.new.seat.turns ≡ (get_or l h s).turns + 1 =
    c.turn.ensures.turns ∙ ap (λ (x : Seated). x.turns + 1) is in
    subst (λ (x : List Seated). most_turns (set l h c.turn.new.seat) ≤ most_turns x + 1) c.seat.view_is
    (turns_set l h s c.turn.new.seat lt more)

pub returns-clause-replies : goal.returns-clause-replies
returns-clause-replies g c = λ k.
    let s = c.index_mut.result.now in
    let l = c.seat.inside.seats.items in
    let h = c.args.shard in
    let call = c.args.call in
    let lt = inside c.args.self.now.tables l c.args.seat.now h c.seat.view_is c.requires.mine c.requires.shard in
    replies_set l h s c.turn.new.seat call c.turn.result lt c.index_mut.ensures.value c.turn.ensures.replies k
    ∙ ap (λ (x : List Seated). replies_at x k ++ added_at h call c.turn.result k) c.seat.view_is

pub returns-clause-turn : goal.returns-clause-turn
returns-clause-turn g c =
    let s = c.index_mut.result.now in
    let l = c.seat.inside.seats.items in
    let h = c.args.shard in
    let call = c.args.call in
    let lt = inside c.args.self.now.tables l c.args.seat.now h c.seat.view_is c.requires.mine c.requires.shard in
    let came = c.turn.ensures in
    subst (λ (x : List Seated). TakesTurn h call c.turn.result x (set l h c.turn.new.seat)) c.seat.view_is
    (takes_turn l h s c.turn.new.seat call c.turn.result lt c.index_mut.ensures.value came.turns came.ok came.memory)

pub returns-clause-reply : goal.returns-clause-reply
returns-clause-reply g c =
    turned_reply c.index_mut.result.now c.turn.new.seat c.args.call c.turn.result c.turn.ensures.ok

use Rattle.std.proofs.Common.{ℕ, List, [], ◌∷◌, ◌∙◌, ap}
use Rattle.bm_connections.specs.Needed.{needed_servers}
use Rattle.bm_connections.specs.NeededText.{servers_text as retired_text}
use Rattle.bm_connections_cli.specs.Replies.{replies_text}
use Rattle.bm_connections_cli.specs.Servers.{servers_of}
use Rattle.bm_connections_cli.proofs.Told.{replies_told}
use Rattle.bm_connections_cli.proofs.Joined.{added, then_more}
use Rattle.bm_connections_cli.proofs.parts.add_replies.Goals as goal

pub returns : goal.returns
returns c =
    let h = c.args.h.now in
    let f = c.requires.found in
    let clock = c.args.clock.0 in
    let d1 : List ℕ = replies_text clock h.events in
    let p1 = added c.replies_text.result _ _ _ d1 c.in_ok-add.ensures c.replies_text.ensures (ap (replies_text clock) (c.items.ensures ∙ f.replies_of_servers) ∙ replies_told clock h.events) in
    let d2 : List ℕ = retired_text clock (needed_servers h (servers_of h.stage.script)) in
    let p2 = added c.needed_servers_text.result _ _ _ d2 c.in_ok-add-2.ensures c.needed_servers_text.ensures (ap (retired_text clock) (c.items-2.ensures ∙ f.retired)) in
    then_more c.args.parts.now.items (d1 ∷ []) (d2 ∷ []) _ _ (p1) p2

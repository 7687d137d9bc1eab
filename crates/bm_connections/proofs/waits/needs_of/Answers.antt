use Rattle.std.proofs.Common.{◌∙◌, flat_map}
use Rattle.bm_connections.specs.Needed.{as_server}
use Rattle.bm_connections.proofs.waits.needs_of.Goals as goal

pub returns-clause-servers : goal.returns-clause-servers
returns-clause-servers c =
    c.of-4.ensures ∙ c.in_ok-retired.ensures
    ∙ (λ i. flat_map (λ s. as_server s (c.in_ok-all.ensures.servers s.0 i)) c.args.servers.now)

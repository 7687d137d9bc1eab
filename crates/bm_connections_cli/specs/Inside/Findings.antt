-- What the code finds out about a history beside its table.
use Rattle.std.specs.Prelude.{◌≡◌}
use Rattle.bm_core.specs.declared.events.History.{History}
use Rattle.bm_connections.specs.AfterEnd.{after_end}
use Rattle.bm_connections.specs.Connections.{connections}
use Rattle.bm_connections.specs.Copies.{copies}
use Rattle.bm_connections.specs.Counts.{causes_in, server_counts}
use Rattle.bm_connections.specs.Late.{longest_late}
use Rattle.bm_connections.specs.Needed.{needed_changes, needed_servers}
use Rattle.bm_connections.specs.OpenEnds.{open_count, open_ends}
use Rattle.bm_connections.specs.Replies.{replies}
use Rattle.bm_connections.specs.Thrice.{moved_thrice}
use Rattle.bm_connections.specs.Unsteered.{unsteered}
use Rattle.bm_connections_cli.specs.declared.findings.Findings.{Findings}
use Rattle.bm_connections_cli.specs.Servers.{servers_of}

-- these are found out about the history
pub record AreFindings (h : History) (f : Findings) : Type 0 where
  pub causes : f.summary.causes ≡ causes_in h
  pub servers : f.summary.servers ≡ server_counts h (servers_of h.stage.script)
  pub late : f.needs.late ≡ longest_late h
  pub after_ends : f.summary.after_end ≡ after_end h
  pub replies_of_servers : f.summary.replies ≡ replies h
  pub left_open : f.ends.changes ≡ open_ends h.stage (connections h)
  pub open_connections : f.ends.connections ≡ open_count h.stage (connections h)
  pub needed : f.needs.changes ≡ needed_changes h
  pub thirds : f.needs.thirds ≡ moved_thrice h
  pub retired : f.needs.servers ≡ needed_servers h (servers_of h.stage.script)
  pub not_steered : f.unsteered ≡ unsteered h.stage.capture
  pub copied : f.copies ≡ copies h.stage.capture

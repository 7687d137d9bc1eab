use Rattle.std.proofs.Common.{◌≡◌, ◌++◌, string_bytes, take}
use Rattle.bm_connections.specs.Owned.{owners_at}
use Rattle.bm_connections_cli.specs.Changes.{lines_from}
use Rattle.bm_connections_cli.proofs.changes.write_changes.Given as goal

abbrev pub invariant-loop-version : goal.invariant-loop-version
invariant-loop-version l = record {
  written : string_bytes l.text ≡ string_bytes l.initial.text
      ++ lines_from l.form.clock.0 l.form.racks l.initial.owners.servers l.plan l.verbs 0
      (take l.version l.plan.changes);
  owners : l.owners.owners ≡ owners_at l.plan l.version;
  servers : l.owners.servers ≡ l.initial.owners.servers;
}

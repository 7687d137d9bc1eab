use Rattle.std.proofs.Common.{◌∙◌, ◌++◌, ap, string_bytes}
use Rattle.std.specs.Prelude.{slice_get}
use Rattle.bm_connections_cli.proofs.Numbered.{line_more}
use Rattle.bm_connections_cli.specs.Inside.Changes.{some_line}
use Rattle.bm_connections_cli.proofs.changes.write_changes.Goals as goal

pub loop-version-preserved : goal.loop-version-preserved
loop-version-preserved c = record {
  written = line_more c.args.form.clock.0 c.args.form.racks c.args.owners.now.servers c.args.plan.now c.args.verbs.now
      c.args.plan.now.changes c.loop-version.version _ _ _
      (c.in_ok-write_next.ensures.text
      ∙ ap (λ n. string_bytes c.loop-version.text ++ some_line c.args.form.clock.0 c.args.form.racks n
      c.args.plan.now c.args.verbs.now c.loop-version.version (slice_get c.args.plan.now.changes c.loop-version.version))
      c.loop-version.invariant.servers)
      c.loop-version.invariant.written;
  owners = c.in_ok-write_next.ensures.owners;
  servers = c.in_ok-write_next.ensures.servers ∙ c.loop-version.invariant.servers;
}

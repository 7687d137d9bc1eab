use Rattle.std.proofs.Common.{◌≡◌, ◌∙◌, ap, sym, Some}
use Rattle.std.specs.Option.{option_copied}
use Rattle.bm_table.specs.Tables.{next_change}
use Rattle.bm_connections_cli.proofs.Numbered.{told}
use Rattle.bm_connections_cli.proofs.changes.write_next.Goals as goal

pub returns-clause-text : goal.returns-clause-text
returns-clause-text c =
    let is : Some c.in-Some.change.now ≡ next_change c.args.plan.now c.args.version =
    sym (ap option_copied c.in-Some.is) ∙ c.next_change.ensures in
    told c.args.form.clock.0 c.args.form.racks c.args.owners.now.servers c.args.plan.now c.args.verbs.now c.args.version
    c.in-Some.change.now _ is _ _ _ _ c.buckets.result c.verb_after-verb.result c.homeward-home.result _
    c.items.result.now c.args.owners.now.owners _ c.in_ok-counts.counts.items c.as_slice.result.now
    c.in_ok-write_change.ensures c.in_ok-write_home.ensures c.in_ok-write_owns.ensures c.buckets.ensures
    c.verb_after-verb.ensures c.homeward-home.ensures c.requires.owners c.items.ensures c.as_slice.ensures.value
    c.in_ok-counts.ensures c.apply.ensures.servers
    (c.apply.ensures.next c.args.plan.now c.args.version c.requires.plan (sym is) c.requires.owners)

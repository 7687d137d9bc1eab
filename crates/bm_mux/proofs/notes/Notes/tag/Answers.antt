use Rattle.std.proofs.Common.{◌<◌, sym, subst}
use Rattle.std.proofs.lemmas.Nat.{mod_below}
use Rattle.bm_base.specs.declared.label.Hop.TheVariants.{Direct}
use Rattle.bm_hash.specs.Buckets.{flow_hash}
use Rattle.bm_publish.specs.Posts.{last_version}
use Rattle.bm_base.proofs.Entries.{IsEntry, tag_valid}
use Rattle.bm_mux.proofs.Tags.{table_entry}
use Rattle.bm_mux.proofs.notes.Notes.tag.Goals as goal

pub returns-clause-valid : goal.returns-clause-valid
returns-clause-valid c =
    let seen = c.args.guard.now in
    let posted = c.version-version.ensures.posted in
    let below = mod_below (flow_hash c.args.segment.now.flow) seen.plan.buckets posted.plan.buckets.0 in
    let inside : c.bucket_of.result < seen.plan.buckets = rw (c.bucket_of.ensures, c.requires.kept.buckets_are) below in
    let entry : IsEntry c.entry.result = subst IsEntry (sym c.entry.ensures)
    (table_entry seen.plan posted.plan c.requires.kept.servers (last_version seen) c.bucket_of.result posted.few inside)
    in
    tag_valid _ Direct _ entry c.requires.kept.mux c.tag_of.ensures

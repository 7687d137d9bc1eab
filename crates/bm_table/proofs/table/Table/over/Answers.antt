use Rattle.std.proofs.Common.{refl}
use Rattle.bm_table.proofs.EntryLemmas.{no_opening, opening_more}
use Rattle.bm_table.proofs.table.Table.over.Goals as goal

pub loop-bucket-init : goal.loop-bucket-init
loop-bucket-init c = rw c.in_ok-entries.ensures.items (no_opening c.args.servers.now)

pub loop-bucket-preserved : goal.loop-bucket-preserved
loop-bucket-preserved c =
    rw c.in_ok-push.ensures.items
    (opening_more c.args.servers.now c.loop-bucket.bucket c.loop-bucket.entries.items _ c.loop-bucket.invariant refl)

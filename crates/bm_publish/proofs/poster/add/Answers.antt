use Rattle.std.proofs.Common.{◌≡◌, ap, sym, ◌∙◌, subst, Some}
use Rattle.bm_table.specs.Plans.{IsPlan}
use Rattle.bm_table.specs.Tables.{next_change}
use Rattle.bm_publish.specs.Posts.{Posted, last_version, with_post}
use Rattle.bm_publish.specs.Inside.Boards.{changed_from, IsRight}
use Rattle.bm_publish.proofs.BoardLemmas.{next_right}
use Rattle.bm_publish.proofs.poster.add.Goals as goal

pub show-writer-requires-clause-next : goal.show-writer-requires-clause-next
show-writer-requires-clause-next g c =
    let was = c.args.writer.desk.shown.value in
    let same : was.snapshot ≡ c.args.history = c.requires.same in
    let next : next_change was.snapshot.plan (last_version was.snapshot) ≡ Some c.args.change =
    subst (λ (p : Posted). next_change p.plan (last_version p) ≡ Some c.args.change) (sym same) c.requires.next in
    let more : c.with_post-more.result ≡ with_post was.snapshot c.args.clock.0 =
    c.with_post-more.ensures ∙ ap (λ (p : Posted). with_post p c.args.clock.0) (sym same) in
    let plan : IsPlan was.snapshot.plan =
    subst (λ (p : Posted). IsPlan p.plan) more c.snapshot-snapshot.ensures.posted.plan in
    let snapshot : c.snapshot-snapshot.result ≡ with_post was.snapshot c.args.clock.0 = c.snapshot-snapshot.ensures.same ∙ more in
    subst (IsRight (changed_from c.args.change 0 was.table)) (sym snapshot)
    (next_right c.args.change was.table was.snapshot c.args.clock.0 plan next c.requires.right)

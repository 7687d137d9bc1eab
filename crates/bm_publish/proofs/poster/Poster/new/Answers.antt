use Rattle.std.proofs.Common.{◌≡◌, sym, ◌∙◌, subst, List}
use Rattle.bm_base.specs.declared.label.Entry.{Entry}
use Rattle.bm_publish.specs.declared.shown.Shown.{Shown}
use Rattle.bm_publish.specs.Inside.Boards.{IsRight}
use Rattle.bm_publish.proofs.BoardLemmas.{changed-idle, same_shown, same_table}
use Rattle.bm_publish.proofs.poster.Poster.new.Goals as goal

pub new-requires-clause-alike : goal.new-requires-clause-alike
new-requires-clause-alike g c =
    let x = c.in_ok-shown.field-0 in
    let y = c.in_ok-shown-2.field-0 in
    let snapshot : x.snapshot ≡ y.snapshot = c.in_ok-shown.ensures.snapshot ∙ sym c.in_ok-shown-2.ensures.snapshot in
    let right : IsRight y.table x.snapshot = subst (IsRight y.table) (sym snapshot) c.in_ok-shown-2.ensures.right in
    let table : x.table ≡ y.table = same_table _ _ x.table y.table c.in_ok-shown.ensures.right right in
    same_shown x y table snapshot

pub publish-writer-requires-clause-next : goal.publish-writer-requires-clause-next
publish-writer-requires-clause-next g c =
    let x = c.in_ok-shown.field-0 in
    let was = c.in_ok-writer.writer.desk.shown.value in
    let same : was ≡ x = c.in_ok-writer.ensures.0 in
    let snapshot = c.in_ok-shown.ensures.snapshot in
    let right : IsRight x.table c.snapshot-snapshot.result = subst (IsRight x.table) snapshot c.in_ok-shown.ensures.right in
    let right' : IsRight was.table c.snapshot-snapshot.result =
    subst (λ (s : Shown). IsRight s.table c.snapshot-snapshot.result) (sym same) right in
    subst (λ (l : List Entry). IsRight l c.snapshot-snapshot.result)
    (sym (changed-idle c.idle_change.result 0 was.table c.idle_change.ensures)) right'

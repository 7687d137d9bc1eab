use Rattle.std.proofs.Common.{◌≡◌, ◌∙◌, ◌∷◌, [], ℕ, true, ap, sym, subst, List}
use mathlib.Core.List.{IsPrefix}
use Rattle.logbook.specs.Pages.{Book, Named}
use Rattle.bm_publish.specs.declared.snapshot.Line.{Line}
use Rattle.bm_publish.specs.declared.snapshot.Line.TheVariants.{Opens}
use Rattle.bm_publish.specs.Inside.Histories.{head_of}
use Rattle.bm_publish.proofs.HistoryLemmas.{first_posts, permit_idle}
use Rattle.bm_publish.proofs.snapshot.History.open.Goals as goal

pub invariant_of-result : goal.invariant_of-result
invariant_of-result c =
    let row = c.open_row-seen.ensures in
    let came = c.new_permit-pen.ensures in
    let seen = c.new_permit-pen.new.seen in
    let first = came.first c.if-found-ne0.false in
    let begins : IsPrefix (Opens c.args.plan.now ∷ []) seen.log =
    subst (λ (l : List Line). IsPrefix l seen.log) row.1 came.grows in
    let all = first_posts seen.book c.args.plan.now seen.log c.versions-versions.ensures.kept begins first.1 in
    let pen = c.take.ensures.pen in
    let key : c.take.result.nib.key ≡ 0 = ap (λ n. n.key) pen.1 ∙ row.3 in
    let board : c.take.result.book ≡ seen.book = pen.0 ∙ row.2 ∙ sym came.book in
    let named : ℕ → Book → Named = λ k b. record { tracked = true; key = k; book = b } in
    let head : c.tracked-head.result ≡ head_of seen.book =
    c.tracked-head.ensures.0 ∙ (ap (λ k. named k c.take.result.book) key ∙ ap (λ b. named 0 b) board) in (
      all.0,
      all.1,
      all.2,
      all.3,
      head,
      came.pen.0 ∙ sym came.book,
      came.pen.1,
      first.0 ∙ sym (permit_idle 1 seen.log first.1),
    )

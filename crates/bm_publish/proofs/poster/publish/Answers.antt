use Rattle.std.proofs.Common.{◌≡◌, List, [], ◌∷◌, ◌++◌, fold, sym, ap, ◌∙◌, subst}
use Rattle.bm_publish.specs.declared.shown.Shown.{Shown}
use Rattle.bm_publish.specs.declared.shown.Post.{Post}
use Rattle.bm_publish.specs.Inside.Boards.{changed_from, IsRight}
use Rattle.bm_publish.proofs.BoardLemmas.{turns}
use Rattle.bm_publish.proofs.poster.publish.Goals as goal

pub publish_as-writer-requires : goal.publish_as-writer-requires
publish_as-writer-requires g c next is =
    let x = c.append.new.self.desk.shown.value in
    let was = c.args.writer.desk.shown.value in
    let post = c.args.post in
    let A : Shown → Post → Shown = λ s m. record { table = changed_from m.change 0 s.table; snapshot = m.snapshot } in
    let desk : x ≡ was = ap (λ d. d.shown.value) c.in-Ok.ensures.desk in
    let pending = c.in-Ok.ensures.pending ∙ ap (λ (l : List Post). l ++ post ∷ []) c.requires.idle in
    let e : next ≡ A x post = is ∙ ap (fold A x) pending in
    let e' : next ≡ A was post = e ∙ ap (λ s. A s post) desk in
    let snapshot = ap (λ (s : Shown). s.snapshot) e' in
    let table = ap (λ (s : Shown). s.table) e' in
    let right : IsRight next.table next.snapshot = subst (λ (s : Shown). IsRight s.table s.snapshot) (sym e') c.requires.next in
    let board : next.snapshot.board ≡ x.snapshot.board =
    ap (λ t. t.board) snapshot ∙ c.requires.board ∙ sym (ap (λ (s : Shown). s.snapshot.board) desk) in
    turns _ _ x.table next.table x.snapshot next.snapshot board (λ _. right)

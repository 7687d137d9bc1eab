use Rattle.std.proofs.Common.{◌≡◌, ◌≤◌, ◌∙◌, ap, sym, subst, arith, length, List}
use mathlib.Core.List.{IsPrefix}
use Rattle.bm_publish.specs.declared.snapshot.Line.{Line}
use Rattle.bm_publish.specs.Inside.Histories.{clocks_in}
use Rattle.bm_publish.specs.Posts.{Posted}
use Rattle.bm_publish.proofs.HistoryLemmas.{goes_on}
use Rattle.bm_publish.proofs.snapshot.Snapshot.begins.Goals as goal

pub returns-then-self-other : goal.returns-then-self-other
returns-then-self-other c _ =
    let mine = c.self.inside in
    let theirs = c.other.inside in
    let both = c.learn.new.self.log in
    let this : IsPrefix mine.seen.log both =
    subst (λ (l : List Line). IsPrefix l both) (ap (λ s. s.log) c.again-both.ensures) c.learn.ensures.2 in
    let board : theirs.seen.book ≡ mine.seen.book =
    ap (λ (p : Posted). p.board) c.other.view_is ∙ c.requires ∙ sym (ap (λ (p : Posted). p.board) c.self.view_is) in
    let less : length (clocks_in mine.seen.log) ≤ length (clocks_in theirs.seen.log) =
    omega (arith, c.self.invariant.2, c.other.invariant.2, c.if-self-other.true) in
    rw (← c.self.view_is, ← c.other.view_is)
    (goes_on mine.seen.book theirs.seen.book mine.seen.log theirs.seen.log both board c.self.invariant.0
    c.other.invariant.0 this c.learn.ensures.3 less)

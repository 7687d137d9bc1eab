use Rattle.std.proofs.Common.{◌≡◌, ◌≤◌, ◌∙◌, ap, sym, subst, length, List, ℕ}
use mathlib.Core.List.{IsPrefix}
use Rattle.bm_publish.specs.declared.snapshot.Line.{Line}
use Rattle.bm_publish.specs.Inside.Histories.{clocks_in}
use Rattle.bm_publish.specs.Posts.{Posted}
use Rattle.bm_publish.proofs.HistoryLemmas.{check_moves, clocks_prefix, goes_on}
use Rattle.bm_publish.proofs.Prefixes.{prefix_length, prefix_trans}
use Rattle.bm_publish.proofs.snapshot.History.was_posted.Goals as goal

pub compare_exchange-requires : goal.compare_exchange-requires
compare_exchange-requires c =
    let h = c.self.invariant.4 in
    let offer = c.plain-offer.ensures in (
      ap (λ w. w.tracked) h,
      c.learn.ensures.0 ∙ (ap (λ s. s.book) c.again-both.ensures ∙ sym (ap (λ w. w.book) h)),
      c.self.invariant.5 ∙ sym (ap (λ w. w.book) h),
      offer.0,
      rw (ap (λ w. w.key) h, offer.3)
          (check_moves c.learn.new.self.log c.plain-offer.result.ask c.self.inside.pen.nib c.self.invariant.6),
    )

pub returns-clause-posted : goal.returns-clause-posted
returns-clause-posted c =
    let mine = c.self.inside in
    let theirs = c.snapshot.inside in
    let both = c.learn.new.self.log in
    let came = c.compare_exchange.ensures in
    let log = c.compare_exchange.new.seen.log in
    let this : IsPrefix mine.seen.log both =
    subst (λ (l : List Line). IsPrefix l both) (ap (λ s. s.log) c.again-both.ensures) c.learn.ensures.2 in
    let same : clocks_in log ≡ clocks_in mine.seen.log = came.7.1 mine.seen.log this (sym c.self.invariant.7) in
    let that : IsPrefix theirs.seen.log log = prefix_trans theirs.seen.log both log c.learn.ensures.3 came.6 in
    let whole : IsPrefix mine.seen.log log = prefix_trans mine.seen.log both log this came.6 in
    let less : length (clocks_in theirs.seen.log) ≤ length (clocks_in mine.seen.log) =
    subst (λ (cl : List ℕ). length (clocks_in theirs.seen.log) ≤ length cl) same
    (prefix_length (clocks_in theirs.seen.log) (clocks_in log) (clocks_prefix theirs.seen.log log that)) in
    let board : mine.seen.book ≡ theirs.seen.book =
    ap (λ (p : Posted). p.board) c.self.view_is ∙ sym c.requires
    ∙ sym (ap (λ (p : Posted). p.board) c.snapshot.view_is) in
    rw (← c.self.view_is, ← c.snapshot.view_is)
    (goes_on theirs.seen.book mine.seen.book theirs.seen.log mine.seen.log log board c.snapshot.invariant.0
    c.self.invariant.0 that whole less)

use Rattle.std.proofs.Common.{◌≡◌, ◌≤◌, ◌+◌, ◌++◌, ◌∷◌, [], ◌∙◌, ap, arith, length, length-append}
use Rattle.bm_publish.specs.Posts.{Posted, last_or, last_post, last_version}
use Rattle.bm_board_bench.proofs.Lengths.{last-snoc}
use Rattle.bm_board_bench.proofs.looks.post_all.Goals as goal

pub loop-version-preserved : goal.loop-version-preserved
loop-version-preserved g c =
    let old = c.loop-version.poster in
    let clock = c.from.result + 1 in
    let from = c.from.ensures in
    let posted = c.in_ok-post.ensures.ok in
    let more = length-append old.clocks (clock ∷ []) in
    let count : last_version c.post.new.self ≡ length old.clocks + 1 =
    ap (λ (p : Posted). length p.clocks) posted ∙ more in
    let last : last_post c.post.new.self ≡ clock =
    ap (λ (p : Posted). last_or 0 p.clocks) posted ∙ last-snoc 0 old.clocks clock in (
      ap (λ (p : Posted). p.plan) posted ∙ c.loop-version.invariant.0,
      (let was = c.loop-version.invariant.1 in omega arith),
      omega arith,
    )

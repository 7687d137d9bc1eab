use Rattle.std.proofs.Common.{◌≡◌, ◌≤◌}
use Rattle.bm_publish.specs.Posts.{last_post, last_version}
use Rattle.bm_board_bench.proofs.looks.post_all.Given as goal

abbrev pub invariant-loop-version : goal.invariant-loop-version
invariant-loop-version g l = (l.poster.plan ≡ l.plan) × (last_version l.poster ≡ l.version)
    × (last_post l.poster ≤ l.version)

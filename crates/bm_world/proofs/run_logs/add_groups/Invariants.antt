use Rattle.std.proofs.Common.{◌≡◌, ◌++◌, map}
use Rattle.bm_merge.specs.Inside.Rising.{all_logs}
use Rattle.bm_world.specs.Inside.Logged.{group_logs, source_logs, source_size}
use Rattle.bm_world.proofs.run_logs.add_groups.Given as goal

abbrev pub invariant-loop-all : goal.invariant-loop-all
invariant-loop-all l =
    all_logs (map group_logs l.groups.items) ++ source_logs l.all
    ≡ all_logs (map group_logs l.fn.groups.items) ++ source_logs l.fn.source

abbrev pub decreases-loop-all : goal.decreases-loop-all
decreases-loop-all l = source_size l.all

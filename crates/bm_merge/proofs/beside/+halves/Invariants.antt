use Rattle.std.proofs.Common.{◌+◌, ◌*◌}
use Rattle.bm_merge.proofs.beside.+halves.Given as goal

abbrev pub decreases-fill_beside : goal.decreases-fill_beside
decreases-fill_beside g l = 4 * l.halvings + 3

abbrev pub decreases-fill_halves : goal.decreases-fill_halves
decreases-fill_halves g l = 4 * l.halvings + 2

abbrev pub decreases-fill_halves-join_mut+arg2 : goal.decreases-fill_halves-join_mut+arg2
decreases-fill_halves-join_mut+arg2 g l = 4 * l.halvings + 1

abbrev pub decreases-fill_halves-join_mut+arg3 : goal.decreases-fill_halves-join_mut+arg3
decreases-fill_halves-join_mut+arg3 g l = 4 * l.halvings + 1

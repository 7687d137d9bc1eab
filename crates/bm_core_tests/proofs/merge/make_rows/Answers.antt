use Rattle.std.proofs.Common.{List, [], ◌∷◌, ◌++◌, map, subst, sym}
use Rattle.std.specs.List.{AllByRecursion}
use Rattle.bm_merge.specs.Rising.{IsRising}
use Rattle.bm_core_tests.specs.declared.merge.Row.{Row}
use Rattle.bm_core_tests.proofs.merge.make_rows.Goals as goal

abbrev AreRising : List Row → Type 0
AreRising rows = AllByRecursion IsRising (map (λ (row : Row). row.events.items) rows)

one_more : (rows : List Row) (row : Row) → AreRising rows → IsRising row.events.items → AreRising (rows ++ row ∷ [])
one_more [] row all one = (one, tt)
one_more (r ∷ rows) row all one = (all.0, one_more rows row all.1 one)

pub loop-log-preserved : goal.loop-log-preserved
loop-log-preserved c =
    subst AreRising (sym c.in_ok-push.ensures.items)
    (one_more c.loop-log.rows.items _ c.loop-log.invariant c.in_ok-make_row.ensures)

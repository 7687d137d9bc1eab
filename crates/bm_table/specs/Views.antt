-- A plan's fields, as contracts see them.
use Rattle.std.specs.Prelude.{◌≡◌, ℕ, List, length, map, IfSome, slice_get}
use Rattle.std.specs.BTreeMap.{get}
use Rattle.std.specs.Ordering.{nat_cmp}
use Rattle.bm_table.specs.declared.plan.Change.{Change}
use Rattle.bm_table.specs.declared.plan.Plan.TheInside.{Inside}
use Rattle.bm_table.specs.declared.plan.Step.{Step}
use Rattle.bm_table.specs.Entries.{IsTable}
use Rattle.bm_table.specs.Inside.Leaves.{first_left}
use Rattle.bm_table.specs.Planned.{Planned}
use Rattle.bm_table.specs.Plans.{IsPlan, total_moves}
use Rattle.bm_table.specs.Tables.{table}

abbrev pub changes_of : List Step → List Change
changes_of steps = map (λ step. step.change) steps

abbrev pub planned : Inside → Planned
planned p =
    record { buckets = p.buckets; servers = p.servers.items; changes = changes_of p.steps.items }

pub record IsKept (p : Inside) : Type 0 where
  pub plan : IsPlan (planned p)
  pub latest : IsTable (planned p) (length (changes_of p.steps.items)) p.latest
  pub moves : p.moves ≡ total_moves (planned p).changes
  -- each step has the first bucket that leaves each server
  pub left : (v s : ℕ)
      → IfSome (slice_get p.steps.items v)
      (λ step. get nat_cmp step.left s ≡ first_left (λ b. (table (planned p) v b).cur)
      step.change.moves s)

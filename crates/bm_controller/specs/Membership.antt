-- Which servers are known and active after the changes of a plan.
use Rattle.std.specs.Prelude.{◌≡◌, ℕ, zero, suc, ◌<◌, Bool, true, ◌&&◌, not, nat_lt, List, ◌∷◌}
use Rattle.std.specs.Prelude.{◌++◌, filter, length, Option, Some, None}
use Rattle.std.specs.List.{AllByRecursion}
use Rattle.bm_base.specs.declared.ids.ServerId.{ServerId}
use Rattle.bm_table.specs.declared.plan.Change.{Change}
use Rattle.bm_table.specs.declared.plan.Kind.{Kind}
use Rattle.bm_table.specs.declared.plan.Kind.TheVariants.{Add, Drain, Shift}
use Rattle.bm_table.specs.Planned.{Planned}
use Rattle.bm_table.specs.Plans.{IsPlan}
use Rattle.bm_table.specs.Scripts.{NamesServer}
use Rattle.bm_table.specs.Settings.{RiseFrom}
use Rattle.bm_table.specs.Tables.{is_among, is_drained, is_known, next_change, same_server}
use Rattle.bm_table.specs.Tables.{IsOrderly}

-- the servers and one more, in rising order
abbrev pub with_server : ServerId → List ServerId → List ServerId
with_server s servers =
    filter (λ t. nat_lt t.0 s.0) servers ++ s ∷ filter (λ t. nat_lt s.0 t.0) servers

-- the servers without one
abbrev pub without_server : ServerId → List ServerId → List ServerId
without_server s servers = filter (λ t. not (same_server t s)) servers

abbrev pub active_after : Kind → List ServerId → List ServerId
active_after (Add s) servers = with_server s servers
active_after (Drain s) servers = without_server s servers
active_after Shift servers = servers

abbrev pub active_next : Option Change → List ServerId → List ServerId
active_next None servers = servers
active_next (Some c) servers = active_after c.kind servers

-- the active servers after the first n changes, in rising order
abbrev pub active : Planned → ℕ → List ServerId
active plan zero = plan.servers
active plan (suc n) = active_next (next_change plan n) (active plan n)

-- the active servers after all changes
abbrev pub active_now : Planned → List ServerId
active_now plan = active plan (length plan.changes)

abbrev pub knows : Planned → ServerId → Bool
knows plan s = is_known plan (length plan.changes) s

abbrev pub has_drained : Planned → ServerId → Bool
has_drained plan s = is_drained plan (length plan.changes) s

abbrev pub is_active : Planned → ServerId → Bool
is_active plan s = is_among (active_now plan) s

-- what holds of a controller's plan
pub record KeepsMembership (plan : Planned) : Type 0 where
  pub kept : IsPlan plan
  pub orderly : IsOrderly plan
  pub adds : AllByRecursion (λ c. NamesServer c.kind) plan.changes
  pub rising : RiseFrom 0 (active_now plan)
  pub some : 0 < length (active_now plan)
  -- the active servers are those that are known and not drained
  pub members : (s : ServerId) → is_active plan s ≡ (knows plan s && not (has_drained plan s))
  pub left : (s : ServerId) → has_drained plan s ≡ true → knows plan s ≡ true

use Rattle.std.proofs.Common.{◌≡◌, ℕ, List}
use Rattle.bm_core.specs.declared.events.Event.{Event}
use Rattle.bm_connections.specs.Needed.{changes_needed, longest_of_change}
use Rattle.bm_connections.specs.Inside.Needs.{need_in}
use Rattle.bm_connections.proofs.needed.needed_changes.Given as goal

abbrev pub invariant-loop-before : goal.invariant-loop-before
invariant-loop-before l =
    (past : List Event) → ((n : ℕ) → need_in l.needs n ≡ longest_of_change l.stage past n)
    → l.list.items ≡ changes_needed l.stage past l.before

use Rattle.std.proofs.Common.{◌≡◌, ℕ, List}
use Rattle.bm_core.specs.declared.events.Event.{Event}
use Rattle.bm_connections.specs.Thrice.{longest_of_third, thirds}
use Rattle.bm_connections.specs.Inside.Needs.{need_in}
use Rattle.bm_connections.proofs.thrice.moved_thrice.Given as goal

abbrev pub invariant-loop-before : goal.invariant-loop-before
invariant-loop-before l =
    (past : List Event) → ((n : ℕ) → need_in l.needs n ≡ longest_of_third l.stage past n)
    → l.list.items ≡ thirds l.stage past l.before

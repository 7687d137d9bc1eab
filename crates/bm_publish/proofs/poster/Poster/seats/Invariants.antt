use Rattle.std.proofs.Common.{◌≡◌, length}
use Rattle.std.specs.Prelude.{All}
use Rattle.bm_publish.proofs.poster.Poster.seats.Given as goal

abbrev pub invariant-loop : goal.invariant-loop
invariant-loop l =
    (l.self ≡ l.initial.self) × (length l.looks.items ≡ l.counter) × All (λ look. look ≡ l.initial.self) l.looks.items

-- What the code keeps of each record of a capture.
use Rattle.std.specs.Prelude.{ℕ, zero, suc, Bool, false, List, [], ◌∷◌, ◌++◌, slice_get}
use Rattle.std.specs.Option.{option_map_or}
use Rattle.bm_base.specs.declared.capture.Record.{Record}

-- for each record, in order, what the test says of it and of the records before it
abbrev pub marks_by : (Record → List Record → Bool) → List Record → List Bool
marks_by test [] = []
marks_by test (r ∷ records) = marks_by test records ++ test r records ∷ []

-- the mark of the record of this number, counted from 1
abbrev pub mark_of : List Bool → ℕ → Bool
mark_of marks zero = false
mark_of marks (suc i) = option_map_or (λ mark. mark) (slice_get marks i) false

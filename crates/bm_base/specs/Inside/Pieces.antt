-- Lists stored one after the other in one list, each with its end.
use Rattle.std.specs.Prelude.{◌≡◌, ℕ, ◌≤◌, ◌-◌, ◌==◌, List, [], ◌∷◌, slice_range, slice_index_or}
use Rattle.std.specs.Prelude.{if◌then◌else◌}

-- the lists from this place on
abbrev pub pieces : ℕ → List ℕ → List ℕ → List (List ℕ)
pieces from [] octets = []
pieces from (end ∷ ends) octets = slice_range octets from end ∷ pieces end ends octets

-- the ends never fall, from `from` on, and the last of them is `last` (`from`, if there are none)
abbrev pub AreEnds : ℕ → List ℕ → ℕ → Type 0
AreEnds from [] last = from ≡ last
AreEnds from (end ∷ ends) last = (from ≤ end) × AreEnds end ends last

-- where the list at this place begins
abbrev pub begin_of : List ℕ → ℕ → ℕ
begin_of ends at = if at == 0 then 0 else slice_index_or ends (at - 1) 0

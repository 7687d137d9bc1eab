-- The ends of each packet's copies in a table: the first apart from the later ones.
use Rattle.std.specs.Prelude.{ℕ, List, [], ◌∷◌, Option, Some, None, Vec, nat_eq, slice_index_or}
use Rattle.std.specs.HashMap as map
use Rattle.bm_trace.specs.declared.endings.EndTable.{EndTable}
use Rattle.bm_trace.specs.declared.endings.First.{First}
use Rattle.bm_trace.specs.declared.endings.First.TheVariants.{Missing, Only, Followed}
use Rattle.bm_trace.specs.declared.records.End.{End}

-- the items of the list, or none
abbrev pub listed : {A : Type 0} → Option (Vec End A) → List End
listed None = []
listed (Some v) = v.items

-- the list at a place of the map
abbrev pub listed_at : EndTable → ℕ → List End
listed_at table place = listed (map.get nat_eq table.laters place)

abbrev pub first_of : First → Option End
first_of Missing = None
first_of (Only end) = Some end
first_of (Followed end) = Some end

abbrev pub later_of : First → List End → List End
later_of Missing ends = []
later_of (Only end) ends = []
later_of (Followed end) ends = ends

-- the first end and the later ones
abbrev pub with_later : Option End → List End → List End
with_later None later = later
with_later (Some end) later = end ∷ later

abbrev pub kept_at : EndTable → ℕ → First
kept_at table place = slice_index_or table.firsts.items place Missing

abbrev pub first_at : EndTable → ℕ → Option End
first_at table place = first_of (kept_at table place)

abbrev pub later_at : EndTable → ℕ → List End
later_at table place = later_of (kept_at table place) (listed_at table place)

-- the ends of the packet at a place
abbrev pub ends_at : EndTable → ℕ → List End
ends_at table place = with_later (first_at table place) (later_at table place)

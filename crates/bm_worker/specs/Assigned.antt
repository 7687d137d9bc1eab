-- Which mux a packet is assigned to: the one that the route gave it. Packet k is the record at
-- place k - 1.
use Rattle.std.specs.Prelude.{◌≡◌, ℕ, zero, suc, Bool, false, ◌&&◌, ◌==◌, nat_le, nat_lt, List}
use Rattle.std.specs.Prelude.{slice_get}
use Rattle.std.specs.Prelude.{Option, Some, None}
use Rattle.bm_base.specs.declared.ids.MuxId.{MuxId}
use Rattle.bm_core.specs.Accounts.{Routes}

-- the number of the mux that the route gave, if it gave one
abbrev pub mux_in : Option (Option MuxId) → Option ℕ
mux_in (Some (Some m)) = Some m.0
mux_in _ = None

-- the mux of the packet, if it has one
abbrev pub assigned_mux : List (Option MuxId) → ℕ → Option ℕ
assigned_mux routes zero = None
assigned_mux routes (suc i) = mux_in (slice_get routes i)

-- there is a mux, and this is its number
abbrev pub is_mux : Option ℕ → ℕ → Bool
is_mux None m = false
is_mux (Some n) m = n == m

-- the packet is one of the mux's, among the records at the places from..until
abbrev pub is_assigned : List (Option MuxId) → ℕ → ℕ → ℕ → ℕ → Bool
is_assigned routes m from until k = nat_lt from k && nat_le k until && is_mux (assigned_mux routes k) m

-- the route that gives each packet the mux that it is assigned here
abbrev pub RoutedBy : List (Option MuxId) → Routes
RoutedBy routes k flow m = assigned_mux routes k ≡ Some m

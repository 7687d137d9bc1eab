-- Going through the buckets in rising order: each server keeps buckets while it has room for one.
use Rattle.std.specs.Prelude.{ℕ, ◌+◌, ◌-◌, nat_lt, if◌then◌else◌, List, [], ◌∷◌, slice_index}
use Rattle.bm_base.specs.declared.ids.ServerId.{ServerId}
use Rattle.bm_table.specs.Tables.{is_among, same_server}

-- the room of each server, by its number
abbrev pub room_in : List ℕ → ServerId → ℕ
room_in rooms s = slice_index rooms s.0

-- the rooms after a server kept one more bucket
abbrev pub kept : (ServerId → ℕ) → ServerId → ServerId → ℕ
kept room owner s = if same_server owner s then room s - 1 else room s

-- the buckets, from b on, for which there was no room
abbrev pub given : (ServerId → ℕ) → ℕ → List ServerId → List ℕ
given room b [] = []
given room b (owner ∷ owners) =
    if nat_lt 0 (room owner) then given (kept room owner) (b + 1) owners
    else b ∷ given room (b + 1) owners

-- the room that is left
abbrev pub left : (ServerId → ℕ) → List ServerId → ServerId → ℕ
left room [] s = room s
left room (owner ∷ owners) s =
    if nat_lt 0 (room owner) then left (kept room owner) owners s else left room owners s

-- the rooms, where these servers have none
abbrev pub cleared : List ServerId → (ServerId → ℕ) → ServerId → ℕ
cleared servers room s = if is_among servers s then 0 else room s

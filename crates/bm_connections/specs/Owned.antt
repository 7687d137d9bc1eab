-- How many buckets each server has in the table of a version, and which moves of a change bring a
-- bucket home to its rack (docs/DEFINITIONS.md).
use Rattle.std.specs.Prelude.{ℕ, ◌%◌, ◌==◌, Bool, false, not, nat_lt, List, filter, map, count_by}
use Rattle.std.specs.Prelude.{slice_get}
use Rattle.std.specs.List.{range_with_len}
use Rattle.std.specs.Option.{option_map_or}
use Rattle.bm_base.specs.declared.ids.ServerId.{ServerId}
use Rattle.bm_table.specs.declared.plan.Move.{Move}
use Rattle.bm_table.specs.Planned.{Planned}
use Rattle.bm_table.specs.Settings.{rack_of}
use Rattle.bm_table.specs.Tables.{table}
use Rattle.bm_connections.specs.declared.owned.OwnedCount.{OwnedCount}

-- the server of each bucket in the table of version v
abbrev pub owners_at : Planned → ℕ → List ServerId
owners_at plan v = map (λ b. (table plan v b).cur) (range_with_len 0 plan.buckets)

-- how many buckets the server with this number has, by the server of each bucket
abbrev pub owned_by : List ServerId → ℕ → ℕ
owned_by owners n = count_by (λ s. s.0 == n) owners

abbrev pub owned_count : List ServerId → ℕ → OwnedCount
owned_count owners n = record { server = record { 0 = n }; buckets = owned_by owners n }

abbrev pub owns_some : OwnedCount → Bool
owns_some c = nat_lt 0 c.buckets

-- the servers with a number below this one that have buckets, in rising order, and how many
abbrev pub owned_below : ℕ → List ServerId → List OwnedCount
owned_below servers owners = filter owns_some (map (owned_count owners) (range_with_len 0 servers))

-- the move's bucket is at a server of another rack than the bucket's own
abbrev pub comes_home : ℕ → List ServerId → Move → Bool
comes_home racks owners m =
    option_map_or (λ s. not (rack_of racks s == m.bucket % racks)) (slice_get owners m.bucket) false

-- how many of these moves bring their buckets home to their racks
abbrev pub homeward : ℕ → List ServerId → List Move → ℕ
homeward racks owners moves = count_by (comes_home racks owners) moves

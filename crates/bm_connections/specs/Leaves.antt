-- By which changes a bucket left a server (docs/DEFINITIONS.md).
use Rattle.std.specs.Prelude.{ℕ, zero, suc, Bool, ◌&&◌, if◌then◌else◌, Option, Some, None}
use Rattle.bm_base.specs.declared.ids.ServerId.{ServerId}
use Rattle.bm_table.specs.Planned.{Planned}
use Rattle.bm_table.specs.Tables.{moves_next, same_server, table}

-- version v gives the bucket to the server
abbrev pub is_at : Planned → ℕ → ServerId → ℕ → Bool
is_at plan b s v = same_server (table plan v b).cur s

-- the number of changes before the last one, among the first v, by which the bucket left the server
abbrev pub last_leave : Planned → ℕ → ServerId → ℕ → Option ℕ
last_leave plan b s zero = None
last_leave plan b s (suc v) =
    if moves_next plan v b && is_at plan b s v then Some v else last_leave plan b s v

-- the same, if version v doesn't give the bucket to the server
abbrev pub away_since : Planned → ℕ → ServerId → ℕ → Option ℕ
away_since plan b s v = if is_at plan b s v then None else last_leave plan b s v

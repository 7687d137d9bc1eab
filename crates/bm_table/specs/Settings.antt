-- The ranges of a setting, and the setting of a script that sets nothing.
use Rattle.std.specs.Prelude.{ℕ, ◌+◌, ◌-◌, ◌*◌, ◌%◌, ◌^◌, ◌≤◌, ◌≡◌, List, [], ◌∷◌, length, All}
use Rattle.bm_base.specs.declared.ids.ServerId.{ServerId}
use Rattle.bm_table.specs.declared.setting.FaultRow.{FaultRow}
use Rattle.bm_table.specs.declared.setting.RouteKind.TheVariants.{Port}
use Rattle.bm_table.specs.declared.setting.Setting.{Setting}

-- the number is from low to high
abbrev pub IsWithin : ℕ → ℕ → ℕ → Type 0
IsWithin low high n = (low ≤ n) × (n ≤ high)

-- the servers' numbers rise, and the first is at least low
abbrev pub RiseFrom : ℕ → List ServerId → Type 0
RiseFrom low [] = Unit {0}
RiseFrom low (s ∷ servers) = (low ≤ s.0) × RiseFrom (s.0 + 1) servers

-- n seconds in nanoseconds
abbrev pub seconds : ℕ → ℕ
seconds n = n * 10 ^ 9

-- the rack of a server, counted from 0: servers stand in the racks in turn, by their numbers
abbrev pub rack_of : ℕ → ServerId → ℕ
rack_of racks s = (s.0 - 1) % racks

-- a packet's number, copies and a delay of at most a minute
pub record IsFaultRow (row : FaultRow) : Type 0 where
  pub packet : IsWithin 1 200000 row.packet
  pub copies : row.fate.copies ≤ 3
  pub delay : row.fate.delay ≤ seconds 60

-- each number of a setting is in its range
pub record IsSetting (setting : Setting) : Type 0 where
  pub buckets : IsWithin 1 65536 setting.buckets
  pub servers : IsWithin 1 1024 (length setting.servers)
  pub rising : RiseFrom 1 setting.servers
  pub numbers : All (λ s. s.0 ≤ 1024) setting.servers
  pub racks : IsWithin 1 64 setting.racks
  pub muxes : IsWithin 1 64 setting.muxes
  pub shards : IsWithin 1 64 setting.shards
  pub capacity : IsWithin 1 65536 setting.capacity
  pub timeout : IsWithin (seconds 1) (seconds 86400) setting.timeout
  pub vips : IsWithin 1 64 (length setting.vips)
  pub ports : All (λ vip. 1 ≤ vip.port) setting.vips
  -- one lag for each mux, of at most a day
  pub lag_of_each : length setting.lags ≡ setting.muxes
  pub lags : All (λ lag. lag ≤ seconds 86400) setting.lags
  pub rows : length setting.faults ≤ 4096
  pub faults : All IsFaultRow setting.faults

-- 8 buckets on servers 1 and 2 in one rack, one mux without a lag, 4 shards of 4,096 connections,
-- 240 seconds, the service 192.0.2.1:80, packets assigned to muxes by their port, no impairments
abbrev pub plain_setting : Setting
plain_setting = record {
  buckets = 8;
  servers = record { 0 = 1 } ∷ record { 0 = 2 } ∷ [];
  racks = 1;
  muxes = 1;
  shards = 4;
  capacity = 4096;
  timeout = seconds 240;
  vips = record { addr = 0xc000_0201; port = 80 } ∷ [];
  route = Port;
  lags = 0 ∷ [];
  faults = [];
}

-- What the code keeps of the connections that are left open and away.
use Rattle.std.specs.Prelude.{◌≡◌, ℕ, suc, ◌+◌, ◌<◌, ◌≤◌, ◌==◌, max, if◌then◌else◌, List}
use Rattle.std.specs.Prelude.{length, slice_index_or}
use Rattle.bm_connections.specs.declared.left_open.Away.{Away}
use Rattle.bm_connections.specs.declared.left_open.AwayCount.{AwayCount}
use Rattle.bm_connections.specs.declared.left_open.OpenEnd.{OpenEnd}
use Rattle.bm_connections.specs.OpenEnds.{away_count, longest_idle}

abbrev pub none : AwayCount
none = record { connections = 0; longest_idle = 0 }

-- what is kept of the change after version v
abbrev pub count_at : List AwayCount → ℕ → AwayCount
count_at counts v = slice_index_or counts v none

-- one connection more, which was idle for this long
abbrev pub with_one : ℕ → AwayCount → AwayCount
with_one idle c = record {
  connections = c.connections + 1;
  longest_idle = max idle c.longest_idle;
}

-- the counts after this connection, of each change
abbrev pub HaveOne : Away → List AwayCount → List AwayCount → Type 0
HaveOne c old new =
    (v : ℕ) → v < length old
    → count_at new v
    ≡ (if c.before == v then with_one c.idle (count_at old v) else count_at old v)

-- the counts, and the rest of these connections, tell what all of them do
pub record IsCounting (counts : List AwayCount) (rest away : List Away) : Type 0 where
  pub counted : (v : ℕ) → v < length counts
      → (count_at counts v).connections + away_count v rest ≡ away_count v away
  pub longest : (v : ℕ) → v < length counts
      → max (count_at counts v).longest_idle (longest_idle v rest) ≡ longest_idle v away
  pub few : (v : ℕ) → (count_at counts v).connections + length rest ≤ length away

-- the counts tell what all of these connections do
pub record AreCounts (counts : List AwayCount) (away : List Away) : Type 0 where
  pub counted : (v : ℕ) → v < length counts
      → (count_at counts v).connections ≡ away_count v away
  pub longest : (v : ℕ) → v < length counts
      → (count_at counts v).longest_idle ≡ longest_idle v away

-- what a count says of the change after version v
abbrev pub end_of : ℕ → AwayCount → OpenEnd
end_of v c = record {
  change = suc v;
  connections = c.connections;
  longest_idle = c.longest_idle;
}

-- What is left of the commands of each kind, and of the packets, after a place of the script or the
-- capture.
use Rattle.std.specs.Prelude.{◌≡◌, ◌<◌, ℕ, suc, List, [], ◌∷◌, ◌++◌, Option, Some, None}
use Rattle.bm_base.specs.declared.ids.ServerId.{ServerId}
use Rattle.bm_base.specs.declared.capture.Record.{Record}
use Rattle.bm_table.specs.declared.script.Command.{Command}
use Rattle.bm_core.specs.declared.schedule.Call.{Call}
use Rattle.bm_core.specs.declared.schedule.Call.TheVariants.{Retires, Steers}
use Rattle.bm_core.specs.declared.schedule.Due.{Due}
use Rattle.bm_core.specs.Schedule.{close_commands, dropped, packets_from, retire_commands}
use Rattle.bm_core.specs.Schedule.{retire_dues, sync_commands}
use Rattle.bm_replay.specs.declared.queue.Queue.{Queue}

-- the head is the first of these, and the others come after it
abbrev pub IsHead : List Due → List Due → Option Due → Type 0
IsHead dues others None = dues ≡ []
IsHead dues others (Some d) = dues ≡ d ∷ others

-- the closes of the commands after the first n
abbrev pub closes_from : List Command → ℕ → List Due
closes_from commands n = close_commands (dropped n commands)

abbrev pub syncs_from : List Command → ℕ → List Due
syncs_from commands n = sync_commands (dropped n commands)

-- the retires of the commands after the first n, for each shard
abbrev pub retires_from : ℕ → List Command → ℕ → List Due
retires_from shards commands n = retire_commands shards (dropped n commands)

-- the request to retire a shard of the server
abbrev pub retire_at : ServerId → ℕ → ℕ → Due
retire_at server at h = record { moment = at; number = h; call = Retires server h at }

-- the retires of the later shards of the same server
abbrev pub later_shards : ℕ → Call → List Due
later_shards shards (Retires server h at) = dropped (suc h) (retire_dues server at shards)
later_shards shards _ = []

abbrev pub behind : ℕ → Option Due → List Due
behind shards None = []
behind shards (Some d) = later_shards shards d.call

-- the retires after the head
abbrev pub retires_after : ℕ → List Command → Queue → List Due
retires_after shards commands q = behind shards q.head ++ retires_from shards commands q.next

-- the packets of the records after the first n
abbrev pub packets_after : List Record → ℕ → List Due
packets_after records n = packets_from (suc n) (dropped n records)

-- the head is the packet of the last record before the next place, after the first n
abbrev pub IsBehind : ℕ → ℕ → Option Due → Type 0
IsBehind n next None = Unit {0}
IsBehind n next (Some d) = (d.call ≡ Steers next) × (n < next)

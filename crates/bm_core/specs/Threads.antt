-- How the history of a threaded run follows its script (docs/DEFINITIONS.md). Worker 0 carries out
-- the commands, in their order; worker m + 1 carries the packets of mux m. A phase is the time
-- between two Syncs; at each Sync all workers have done the phase before it. A past has its newest
-- event first, and so have the fates, one for each event.
use Rattle.std.specs.Prelude.{◌≡◌, ℕ, zero, suc, ◌+◌, ◌<◌, ◌≤◌, max, Bool, true, false, ◌&&◌, ◌||◌}
use Rattle.std.specs.Prelude.{not, ◌==◌, nat_le, nat_lt, MatchBool, if◌then◌else◌, List, [], ◌∷◌}
use Rattle.std.specs.Prelude.{◌⊎◌, length, slice_get, Option, Some, None, IfSome, unwrap_or}
use Rattle.std.specs.Prelude.{reverse}
use Rattle.bm_base.specs.declared.ids.ServerId.{ServerId}
use Rattle.bm_base.specs.declared.ids.MuxId.{MuxId}
use Rattle.bm_base.specs.declared.label.Hop.{Hop}
use Rattle.bm_base.specs.declared.label.Label.{Label}
use Rattle.bm_base.specs.declared.capture.Record.{Record}
use Rattle.bm_base.specs.declared.flow.Segment.{Segment}
use Rattle.bm_base.specs.declared.fate.Fate.{Fate}
use Rattle.bm_table.specs.declared.script.Command.{Command}
use Rattle.bm_table.specs.declared.script.Command.TheVariants.{Change as ChangeCommand}
use Rattle.bm_table.specs.declared.script.Command.TheVariants.{Close as CloseCommand}
use Rattle.bm_table.specs.declared.script.Command.TheVariants.{Retire as RetireCommand}
use Rattle.bm_table.specs.declared.script.Command.TheVariants.{Sync as SyncCommand}
use Rattle.bm_table.specs.Tables.{same_server, next_change, change_moment}
use Rattle.bm_core.specs.declared.events.What.{What}
use Rattle.bm_core.specs.declared.events.What.TheVariants.{Publish, Switch, Steer, Lose, Arrive}
use Rattle.bm_core.specs.declared.events.What.TheVariants.{Close, Retire, Sync}
use Rattle.bm_core.specs.declared.events.Event.{Event}
use Rattle.bm_core.specs.declared.events.History.{History}
use Rattle.bm_core.specs.declared.events.Stage.{Stage}
use Rattle.bm_core.specs.Past.{segment_of, shard, sends, newest, version_at, label_of}
use Rattle.bm_core.specs.Runs.{Actor, actor_of, own_clock, last_clock, next_clock}
use Rattle.bm_core.specs.Past.{is_switch_of}
use Rattle.bm_core.specs.Accounts.{Routes, Rules, IsAccountOf, count_of, counts, is_sync, fate_now}
use Rattle.bm_core.specs.Accounts.{before}
use Rattle.bm_core.specs.Runs.{IsRun}

-- the clock of the actor's own last event, or 0
abbrev pub last_own : Stage → List Event → Option Actor → ℕ
last_own stage past None = 0
last_own stage past (Some a) = unwrap_or (own_clock stage past a) 0

-- COMMANDS

-- how far the script is carried out: this many commands, and these shards of the next one, if it is
-- a retire
pub record Progress : Type 0 where
  pub commands : ℕ
  pub shards : List ℕ

-- nothing of the next command is carried out yet
abbrev pub next_command : Progress → Progress
next_command p = record { commands = suc p.commands; shards = [] }

-- how far the script is carried out after the event
abbrev pub goes_on : ℕ → What → Progress → Progress
goes_on shards (Publish v) p = next_command p
goes_on shards (Close server flow closed) p = next_command p
goes_on shards Sync p = next_command p
goes_on shards (Retire server h at result) p =
    if suc (length p.shards) == shards then next_command p else record p { shards = h ∷ p.shards }
goes_on shards _ p = p

-- how far the script is carried out, with this many shards at each server
abbrev pub progress : ℕ → List Event → Progress
progress shards [] = record { commands = 0; shards = [] }
progress shards (e ∷ past) = goes_on shards e.what (progress shards past)

-- how far the script is carried out
abbrev pub progress_at : Stage → List Event → Progress
progress_at stage past = progress stage.script.setting.shards past

-- the command that is carried out next
abbrev pub command_at : Stage → List Event → Option Command
command_at stage past = slice_get stage.script.commands (progress_at stage past).commands

-- the number is in the list
abbrev pub is_number_among : List ℕ → ℕ → Bool
is_number_among [] n = false
is_number_among (x ∷ xs) n = x == n || is_number_among xs n

-- the event belongs to the command, and not to one of the shards of a retire that are done; an
-- event that belongs to no command may always come
abbrev pub IsOf : Option Command → List ℕ → What → Type 0
IsOf (Some (ChangeCommand v)) done (Publish w) = w ≡ v
IsOf (Some (CloseCommand at server flow)) done (Close s f closed) = (s ≡ server) × (f ≡ flow)
IsOf (Some (RetireCommand at server)) done (Retire s h moment result) =
    (s ≡ server) × (is_number_among done h ≡ false)
IsOf (Some (SyncCommand at)) done Sync = Unit {0}
IsOf c done (Publish w) = ⊥
IsOf c done (Close s f closed) = ⊥
IsOf c done (Retire s h moment result) = ⊥
IsOf c done Sync = ⊥
IsOf c done _ = Unit {0}

-- the event carries out a command, or a part of it
abbrev pub is_command : What → Bool
is_command (Publish v) = true
is_command (Close server flow closed) = true
is_command (Retire server h at result) = true
is_command Sync = true
is_command _ = false

-- the greatest clock of the commands' events, without the newest `skip` of them
abbrev pub commands_clock : ℕ → List Event → ℕ
commands_clock skip [] = 0
commands_clock zero (e ∷ past) =
    if is_command e.what then max e.clock.0 (commands_clock zero past) else commands_clock zero past
commands_clock (suc skip) (e ∷ past) =
    if is_command e.what then commands_clock skip past else commands_clock (suc skip) past

-- the controller's clock: the greatest clock of the events of earlier commands, without those of
-- the same retire
abbrev pub controller_at : Stage → List Event → ℕ
controller_at stage past = commands_clock (length (progress_at stage past).shards) past

-- the moment of a close, a retire or a sync
abbrev pub moment_at : Option Command → ℕ
moment_at (Some (CloseCommand at server flow)) = at.0
moment_at (Some (RetireCommand at server)) = at.0
moment_at (Some (SyncCommand at)) = at.0
moment_at _ = 0

-- the greater of the next command's moment and the controller's clock
abbrev pub command_moment : Stage → List Event → ℕ
command_moment stage past = max (moment_at (command_at stage past)) (controller_at stage past)

-- PHASES

-- how many Syncs there were
abbrev pub phase : List Event → ℕ
phase past = counts past is_sync

-- the command is a sync no later than this moment
abbrev pub is_sync_by : ℕ → Command → Bool
is_sync_by moment (SyncCommand at) = nat_le at.0 moment
is_sync_by moment _ = false

-- the moment of the record
abbrev pub moment_in : Option Record → ℕ
moment_in None = 0
moment_in (Some r) = r.moment.0

-- the moment of the record of this number, counted from 1
abbrev pub record_moment : Stage → ℕ → ℕ
record_moment stage zero = 0
record_moment stage (suc i) = moment_in (slice_get stage.capture.records i)

-- the phase of a packet: how many of the script's syncs are no later than it
abbrev pub phase_of : Stage → ℕ → ℕ
phase_of stage k = count_of (is_sync_by (record_moment stage k)) stage.script.commands

-- the packet of an event
abbrev pub packet_of : What → Option ℕ
packet_of (Steer k m) = Some k
packet_of (Arrive k hop server verdict) = Some k
packet_of (Lose k hop) = Some k
packet_of _ = None

-- MUXES

-- there is a Switch of the mux in this phase: it has looked at the table
abbrev pub has_looked : List Event → ℕ → Bool
has_looked [] m = false
has_looked (e ∷ past) m = not (is_sync e.what) && (is_switch_of e.what m || has_looked past m)

-- each mux has looked at the table in this phase
abbrev pub HaveLooked : Stage → List Event → Type 0
HaveLooked stage past = (m : ℕ) → m < stage.script.setting.muxes → has_looked past m ≡ true

-- the newest version that was published before this phase
abbrev pub newest_before : List Event → ℕ
newest_before [] = 0
newest_before (e ∷ past) = if is_sync e.what then newest past else newest_before past

-- the clock of the last Sync, or 0
abbrev pub sync_clock : List Event → ℕ
sync_clock [] = 0
sync_clock (e ∷ past) = if is_sync e.what then e.clock.0 else sync_clock past

-- the event publishes the version
abbrev pub is_publish_of : What → ℕ → Bool
is_publish_of (Publish v) n = v.0 == n
is_publish_of _ n = false

-- the clock of the version's Publish, or 0
abbrev pub publish_clock : List Event → ℕ → ℕ
publish_clock [] v = 0
publish_clock (e ∷ past) v = if is_publish_of e.what v then e.clock.0 else publish_clock past v

-- the first Switch of a mux in a phase is to a version no older than its own and than the newest
-- from before the phase; each later one is to a newer version
abbrev pub IsLook : List Event → MuxId → ℕ → Type 0
IsLook past m v =
    MatchBool (has_looked past m.0) ((version_at past m).0 < v)
    ((newest_before past ≤ v) × ((version_at past m).0 ≤ v))

-- ORDER

-- the event steers this packet or a later one, at the mux
abbrev pub steers_later : What → MuxId → ℕ → Bool
steers_later (Steer k m) n packet = m.0 == n.0 && nat_le packet k
steers_later _ n packet = false

-- the segment is of the shard
abbrev pub is_in : Option Segment → Stage → ℕ → Bool
is_in None stage h = false
is_in (Some s) stage h = shard stage s.flow == h

-- the label is of the mux
abbrev pub is_from : Option Label → ℕ → Bool
is_from None m = false
is_from (Some l) m = l.mux.0 == m

-- the event is an arrival of a later packet of the mux, at the server's shard
abbrev pub arrives_later : Stage → List Event → What → ServerId → ℕ → ℕ → ℕ → Bool
arrives_later stage all (Arrive k hop server verdict) s h m packet =
    same_server server s && is_in (segment_of stage k) stage h && is_from (label_of stage all k) m
    && nat_lt packet k
arrives_later stage all _ s h m packet = false

-- no later packet of the packet's mux has arrived at the server's shard of its flow
abbrev pub ArrivesInOrder : Stage → List Event → ℕ → ServerId → Type 0
ArrivesInOrder stage past k server =
    IfSome (label_of stage past k)
    (λ l. IfSome (segment_of stage k)
    (λ s. counts past
    (λ what. arrives_later stage past what server (shard stage s.flow) l.mux.0 k) ≡ 0))

-- one of the sendings of the packet and hop gives a copy this clock, at a shard whose last clock is
-- own
abbrev pub IsDueAt : List Fate → List Event → ℕ → Hop → ℕ → ℕ → Type 0
IsDueAt fates [] k hop own clock = ⊥
IsDueAt fates (e ∷ past) k hop own clock =
    ((sends e.what k hop ≡ true) × (clock ≡ next_clock own (e.clock.0 + (fate_now fates).delay)))
    ⊎ IsDueAt (before fates) past k hop own clock

-- THE RUN

-- the clock, and the order, of an event of an actor whose last clock is own
abbrev pub IsTimed : List Fate → Stage → List Event → ℕ → ℕ → What → Type 0
IsTimed fates stage past own clock (Publish v) =
    clock ≡ next_clock (controller_at stage past)
    (change_moment (next_change stage.script.plan (newest past)))
IsTimed fates stage past own clock Sync =
    HaveLooked stage past
    × (clock ≡ next_clock (last_clock past) (moment_at (command_at stage past)))
IsTimed fates stage past own clock (Close server flow closed) =
    clock ≡ next_clock own (command_moment stage past)
IsTimed fates stage past own clock (Retire server h at result) =
    (at.0 ≡ command_moment stage past) × (clock ≡ next_clock own at.0)
IsTimed fates stage past own clock (Switch m v) =
    IsLook past m v.0 × (clock ≡ next_clock own (max (publish_clock past v.0) (sync_clock past)))
IsTimed fates stage past own clock (Steer k m) =
    (has_looked past m.0 ≡ true) × (counts past (λ what. steers_later what m k) ≡ 0)
    × (clock ≡ next_clock own (record_moment stage k))
IsTimed fates stage past own clock (Arrive k hop server verdict) =
    ArrivesInOrder stage past k server × IsDueAt fates past k hop own clock
IsTimed fates stage past own clock (Lose k hop) = Unit {0}

-- the event may come after these in a threaded run
pub record IsThreadStep (fates : List Fate) (stage : Stage) (past : List Event) (e : Event) : Type
    0 where
  -- the events of the commands are in the script's order, those of one retire in any order
  pub command : IsOf (command_at stage past) (progress_at stage past).shards e.what
  -- the events of a packet are in its phase
  pub phase : IfSome (packet_of e.what) (λ k. phase past ≡ phase_of stage k)
  pub timed : IsTimed fates stage past (last_own stage past (actor_of stage e.what)) e.clock.0
      e.what

-- each event may come where it is
abbrev pub AreThreadSteps : List Fate → Stage → List Event → Type 0
AreThreadSteps fates stage [] = Unit {0}
AreThreadSteps fates stage (e ∷ past) =
    IsThreadStep (before fates) stage past e × AreThreadSteps (before fates) stage past

-- these events, to the end of the last phase, follow the script as the workers of a threaded run do
abbrev pub FollowsInThreads : List Fate → Stage → List Event → Type 0
FollowsInThreads fates stage all = AreThreadSteps fates stage all × HaveLooked stage all

-- a run made by the workers of a threaded run, to the end of the last phase
pub record IsThreadedRun (R : Routes) (F : Rules) (h : History) : Type 0 where
  pub run : IsRun h
  -- one fate for each event, the newest first
  pub fates : List Fate
  pub follows : FollowsInThreads fates h.stage (reverse h.events)
  pub account : IsAccountOf R F h.stage fates (reverse h.events)

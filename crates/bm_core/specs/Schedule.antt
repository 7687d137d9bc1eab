-- The history of a replay, event by event: of what can come and hasn't, the least by moment, then
-- rank, then number comes next (docs/DEFINITIONS.md). A past has its newest event first, and so
-- have the fates, one for each event.
use Rattle.std.specs.Prelude.{◌≡◌, ℕ, zero, suc, ◌+◌, ◌*◌, Bool, true, false, ◌&&◌, ◌||◌, ◌==◌}
use Rattle.std.specs.Prelude.{nat_lt, if◌then◌else◌, List, [], ◌∷◌, ◌++◌, length, slice_index_or}
use Rattle.std.specs.Prelude.{Option, Some, None, is_some, fold}
use Rattle.bm_base.specs.declared.ids.ServerId.{ServerId}
use Rattle.bm_base.specs.declared.capture.Record.{Record}
use Rattle.bm_base.specs.declared.fate.Fate.{Fate}
use Rattle.bm_table.specs.declared.plan.Change.{Change}
use Rattle.bm_table.specs.declared.script.Command.{Command}
use Rattle.bm_table.specs.declared.script.Command.TheVariants.{Close as CloseCommand}
use Rattle.bm_table.specs.declared.script.Command.TheVariants.{Retire as RetireCommand}
use Rattle.bm_table.specs.declared.script.Command.TheVariants.{Sync as SyncCommand}
use Rattle.bm_table.specs.Tables.{next_change}
use Rattle.bm_base.specs.declared.label.Hop.{Hop}
use Rattle.bm_core.specs.declared.events.What.{What}
use Rattle.bm_core.specs.declared.events.What.TheVariants.{Publish, Switch, Steer, Lose, Arrive}
use Rattle.bm_core.specs.declared.events.What.TheVariants.{Close, Retire, Sync}
use Rattle.bm_core.specs.declared.events.Event.{Event}
use Rattle.bm_core.specs.declared.events.Stage.{Stage}
use Rattle.bm_core.specs.declared.schedule.Call.{Call}
use Rattle.bm_core.specs.declared.schedule.Call.TheVariants.{Publishes, Switches, Closes, Retires}
use Rattle.bm_core.specs.declared.schedule.Call.TheVariants.{Syncs, Arrives, Steers, Loses}
use Rattle.bm_core.specs.declared.schedule.Due.{Due}
use Rattle.bm_core.specs.Past.{is_switch_of, steerable, newest, Sending, sending_of}
use Rattle.bm_core.specs.Runs.{last_clock, next_clock}
use Rattle.bm_core.specs.Accounts.{counts, fate_now, before}

-- the event without its result
abbrev pub call_of : What → Call
call_of (Publish v) = Publishes v.0
call_of (Switch m v) = Switches m.0 v.0
call_of (Close server flow closed) = Closes server flow
call_of (Retire server h at result) = Retires server h at.0
call_of Sync = Syncs
call_of (Arrive k hop server verdict) = Arrives k hop
call_of (Steer k m) = Steers k
call_of (Lose k hop) = Loses k hop

-- calls that are due at one moment come in this order; no loss is due
abbrev pub rank_of : Call → ℕ
rank_of (Publishes v) = 0
rank_of (Switches m v) = 1
rank_of (Closes server flow) = 2
rank_of (Retires server h at) = 3
rank_of Syncs = 4
rank_of (Arrives k hop) = 5
rank_of (Steers k) = 6
rank_of (Loses k hop) = 6

-- by moment, then rank, then number
abbrev pub comes_first : Due → Due → Bool
comes_first a b =
    nat_lt a.moment b.moment || (a.moment == b.moment
    && (nat_lt (rank_of a.call) (rank_of b.call)
    || (rank_of a.call == rank_of b.call && nat_lt a.number b.number)))

-- the sooner of the two; if they are equal, the first
abbrev pub sooner : Option Due → Due → Option Due
sooner None b = Some b
sooner (Some a) b = if comes_first b a then Some b else Some a

-- the soonest
abbrev pub least : List Due → Option Due
least dues = fold sooner None dues

-- COPIES UNDER WAY, by their due moment, and at one moment in the order of their sendings

-- a copy of a packet that is under way: when it is due, at which place of the history it was sent,
-- and its packet and hop
pub record Underway : Type 0 where
  pub moment : ℕ
  pub place : ℕ
  pub packet : ℕ
  pub hop : Hop

-- the copy added after those that are due no later
abbrev pub put : Underway → List Underway → List Underway
put d [] = d ∷ []
put d (x ∷ dues) = if nat_lt d.moment x.moment then d ∷ x ∷ dues else x ∷ put d dues

-- this many copies of one sending added
abbrev pub put_all : ℕ → Underway → List Underway → List Underway
put_all zero d dues = dues
put_all (suc n) d dues = put d (put_all n d dues)

-- the copies of a sending, if there is one
abbrev pub put_sent : Fate → ℕ → ℕ → Option Sending → List Underway → List Underway
put_sent fate place clock None dues = dues
put_sent fate place clock (Some s) dues =
    put_all fate.copies
    (record { moment = clock + fate.delay; place = place; packet = s.packet; hop = s.hop }) dues

-- all but the first
abbrev pub rest : List Underway → List Underway
rest [] = []
rest (d ∷ dues) = dues

-- without the first one after an Arrive: only the first copy may arrive next
abbrev pub after_arrive : What → List Underway → List Underway
after_arrive (Arrive k hop server verdict) dues = rest dues
after_arrive _ dues = dues

-- the copies that were sent and haven't arrived, in the order in which they come
abbrev pub wire : List Fate → List Event → List Underway
wire fates [] = []
wire fates (e ∷ past) =
    put_sent (fate_now fates) (length past) e.clock.0 (sending_of e.what)
    (after_arrive e.what (wire (before fates) past))

-- WHAT CAN COME

-- a call that is due at a moment, with its number among the calls of its kind
abbrev pub due_at : ℕ → ℕ → Call → Due
due_at moment n call = record { moment = moment; number = n; call = call }

-- the publication of a change, which leads from version v to the next
abbrev pub publish_due : ℕ → Option Change → List Due
publish_due v None = []
publish_due v (Some c) = due_at c.moment.0 v (Publishes (suc v)) ∷ []

-- the mux's Switch to the version after v, which is due the mux's lag after the change
abbrev pub switch_due : ℕ → ℕ → ℕ → ℕ → Option Change → List Due
switch_due muxes lag m v None = []
switch_due muxes lag m v (Some c) =
    due_at (c.moment.0 + lag) (v * muxes + m) (Switches m (suc v)) ∷ []

-- the next Switch of each of the first n muxes. In a replay a mux switches to each version in
-- order, so after v Switches it has version v.
abbrev pub switches_due : Stage → List Event → ℕ → List Due
switches_due stage past zero = []
switches_due stage past (suc m) =
    switches_due stage past m
    ++ switch_due stage.script.setting.muxes (slice_index_or stage.script.setting.lags m 0) m
    (counts past (λ what. is_switch_of what m))
    (next_change stage.script.plan (counts past (λ what. is_switch_of what m)))

-- the closes of the script
abbrev pub close_commands : List Command → List Due
close_commands [] = []
close_commands (CloseCommand at server flow ∷ rest) =
    due_at at.0 0 (Closes server flow) ∷ close_commands rest
close_commands (_ ∷ rest) = close_commands rest

-- a retire for each of the first n shards
abbrev pub retire_dues : ServerId → ℕ → ℕ → List Due
retire_dues server at zero = []
retire_dues server at (suc h) =
    retire_dues server at h ++ due_at at h (Retires server h at) ∷ []

-- the retires of the script, for each shard
abbrev pub retire_commands : ℕ → List Command → List Due
retire_commands shards [] = []
retire_commands shards (RetireCommand at server ∷ rest) =
    retire_dues server at.0 shards ++ retire_commands shards rest
retire_commands shards (_ ∷ rest) = retire_commands shards rest

-- the syncs of the script
abbrev pub sync_commands : List Command → List Due
sync_commands [] = []
sync_commands (SyncCommand at ∷ rest) = due_at at.0 0 Syncs ∷ sync_commands rest
sync_commands (_ ∷ rest) = sync_commands rest

-- the steerable records among these, where the first of all has this number
abbrev pub packets_from : ℕ → List Record → List Due
packets_from k [] = []
packets_from k (r ∷ records) =
    if is_some (steerable (Some r))
    then due_at r.moment.0 k (Steers k) ∷ packets_from (suc k) records
    else packets_from (suc k) records

-- without the first n
abbrev pub dropped : {X : Type 0} → ℕ → List X → List X
dropped zero xs = xs
dropped (suc n) [] = []
dropped (suc n) (x ∷ xs) = dropped n xs

-- at most the first of these
abbrev pub first_of : List Due → List Due
first_of [] = []
first_of (d ∷ dues) = d ∷ []

-- the first copy under way arrives
abbrev pub arrival_due : List Underway → List Due
arrival_due [] = []
arrival_due (u ∷ dues) = due_at u.moment u.place (Arrives u.packet u.hop) ∷ []

-- those of the list that haven't come yet; they come in the list's order
abbrev pub left : List Due → List Event → (Call → Bool) → List Due
left dues past test = dropped (counts past (λ what. test (call_of what))) dues

-- the call is a close
abbrev pub closes : Call → Bool
closes (Closes s f) = true
closes _ = false

-- the call is a retire
abbrev pub retires : Call → Bool
retires (Retires s h at) = true
retires _ = false

-- the call is a sync
abbrev pub syncs : Call → Bool
syncs Syncs = true
syncs _ = false

-- the call is a Steer
abbrev pub steers : Call → Bool
steers (Steers k) = true
steers _ = false

-- what can come: the next call of each kind; copies come in the order of their due moments, and
-- each mux has its own next Switch
abbrev pub can_come : List Underway → Stage → List Event → List Due
can_come wire stage past =
    publish_due (newest past) (next_change stage.script.plan (newest past))
    ++ switches_due stage past stage.script.setting.muxes
    ++ first_of (left (close_commands stage.script.commands) past closes)
    ++ first_of
    (left (retire_commands stage.script.setting.shards stage.script.commands) past retires)
    ++ first_of (left (sync_commands stage.script.commands) past syncs)
    ++ arrival_due wire
    ++ first_of (left (packets_from 1 stage.capture.records) past steers)

-- the loss of a sending without copies
abbrev pub loss_of_fate : Fate → Option Sending → Option Call
loss_of_fate fate None = None
loss_of_fate fate (Some s) = if fate.copies == 0 then Some (Loses s.packet s.hop) else None

-- the Lose that must come next
abbrev pub due_loss : List Fate → List Event → Option Call
due_loss fates [] = None
due_loss fates (e ∷ past) = loss_of_fate (fate_now fates) (sending_of e.what)

-- the event is the call that is due, if one is, with the clock after the newest event and the
-- call's moment
abbrev pub IsDueCall : List Event → Event → Option Due → Type 0
IsDueCall past e None = ⊥
IsDueCall past e (Some d) =
    (call_of e.what ≡ d.call) × (e.clock.0 ≡ next_clock (last_clock past) d.moment)

-- the event is the loss that is due, or else the least that can come
abbrev pub ComesNext : Option Call → List Due → List Event → Event → Type 0
ComesNext (Some loss) dues past e = (call_of e.what ≡ loss) × (e.clock.0 ≡ suc (last_clock past))
ComesNext None dues past e = IsDueCall past e (least dues)

-- the event comes next after these
abbrev pub IsNextBy : List Fate → Stage → List Event → Event → Type 0
IsNextBy fates stage past e =
    ComesNext (due_loss fates past) (can_come (wire fates past) stage past) past e

-- these events are those of a replay, up to here
abbrev pub Follows : List Fate → Stage → List Event → Type 0
Follows fates stage [] = Unit {0}
Follows fates stage (e ∷ past) =
    IsNextBy (before fates) stage past e × Follows (before fates) stage past

-- nothing is left to come
pub record IsOver (fates : List Fate) (stage : Stage) (past : List Event) : Type 0 where
  pub none : can_come (wire fates past) stage past ≡ []
  pub no_loss_due : due_loss fates past ≡ None

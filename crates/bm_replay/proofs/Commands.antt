-- A connection is closed, a shard asked to retire, a phase ended.
use Rattle.std.proofs.Common.{◌≡◌, ℕ, zero, suc, ◌<◌, ◌≤◌, List, [], ◌∷◌, Option, Some, None, is_some, length, refl}
use Rattle.std.proofs.Common.{sym, subst, ◌∙◌, arith}
use Rattle.std.specs.List.{AllByRecursion}
use Rattle.bm_base.specs.declared.ids.Moment.{Moment}
use Rattle.bm_base.specs.declared.ids.ServerId.{ServerId}
use Rattle.bm_base.specs.declared.flow.Flow.{Flow}
use Rattle.bm_table.specs.declared.plan.Retirement.{Retirement}
use Rattle.bm_table.specs.declared.script.Command.{Command}
use Rattle.bm_table.specs.declared.script.Command.TheVariants.{Change as ChangeCommand, Close as CloseCommand}
use Rattle.bm_table.specs.declared.script.Command.TheVariants.{Retire as RetireCommand, Sync as SyncCommand}
use Rattle.bm_table.specs.declared.script.Script.{Script}
use Rattle.bm_table.specs.Scripts.{IsOfKnown, IsSoundScript}
use Rattle.bm_table.specs.Tables.{IsRetirement}
use Rattle.bm_core.specs.declared.events.What.TheVariants.{Close, Retire, Sync}
use Rattle.bm_core.specs.declared.events.Event.{Event}
use Rattle.bm_core.specs.declared.events.Stage.{Stage}
use Rattle.bm_core.specs.declared.schedule.Call.{Call as Calls}
use Rattle.bm_core.specs.declared.schedule.Call.TheVariants.{Closes, Retires, Syncs}
use Rattle.bm_core.specs.declared.schedule.Due.{Due}
use Rattle.bm_core.specs.Accounts.{Routes, Rules, counts}
use Rattle.bm_core.specs.Books.{Closed, RetiredAs}
use Rattle.bm_core.specs.Runs.{last_clock}
use Rattle.bm_core.specs.Past.{Holding, held, shard, timeout}
use Rattle.bm_core.specs.Schedule.{call_of, close_commands, closes, first_of, left, retire_commands, retire_dues}
use Rattle.bm_core.specs.Schedule.{retires, steers, sync_commands, syncs, wire}
use Rattle.bm_core.specs.Verdicts.{receiver_of}
use Rattle.bm_core.proofs.Pasts.{newest_within}
use Rattle.bm_core.proofs.Schedules.{Each, IsFrom, each_append, each_dropped}
use Rattle.bm_replay.specs.declared.player.Player.{Player}
use Rattle.bm_shard.specs.States.{State}
use Rattle.bm_shard.specs.declared.calls.ShardCall.TheVariants.{Close as AsksClose, Retire as AsksRetire}
use Rattle.bm_replay.specs.Inside.Players.{HasClosed, HasPlaces, HasRetired, HasSynced, happened}
use Rattle.bm_replay.specs.Inside.Playing.{HasPlayed, IsPlayed, KeepsState, past_of}
use Rattle.bm_replay.specs.Inside.Shards.{IsCalled, KeepsShards, before, holds, place_of, state_at}
use Rattle.bm_replay.proofs.ShardStates.{holds_same, places_of, shard_below}
use Rattle.bm_replay.proofs.Flights.{all_stay}
use Rattle.bm_replay.proofs.Unchanged.{shards_more, shards_stay, muxes_stay, part_next, part_stays}
use Rattle.bm_replay.proofs.KnownServers.{known_server}
use Rattle.bm_replay.proofs.ReadyEvents.{clock_later, IsReady, packaged, plain, plain_soon, told}

-- THE SERVERS AND SHARDS OF COMMANDS

-- the server and the shard are there, and a retire is due at its moment
abbrev IsInRange : ℕ → Due → Calls → Type 0
IsInRange shards d (Closes s f) = s.0 ≤ 1024
IsInRange shards d (Retires s h at) = (s.0 ≤ 1024) × (h < shards) × (d.moment ≡ at)
IsInRange shards d _ = Unit {0}

closes_range : (script : Script) → IsSoundScript script → (shards : ℕ) (commands : List Command)
    → AllByRecursion (λ c. IsOfKnown script.plan c) commands
    → Each (λ d. IsInRange shards d d.call) (close_commands commands)
closes_range script sound shards [] known = tt
closes_range script sound shards (CloseCommand at s f ∷ commands) known = (
  (known_server script sound (length script.plan.changes) s known.0).1,
  closes_range script sound shards commands
      known.1,
)
closes_range script sound shards (ChangeCommand v ∷ commands) known = closes_range script sound shards commands known.1
closes_range script sound shards (RetireCommand at s ∷ commands) known =
    closes_range script sound shards commands known.1
closes_range script sound shards (SyncCommand at ∷ commands) known = closes_range script sound shards commands known.1

retire_range : (s : ServerId) (at shards n : ℕ) → s.0 ≤ 1024 → n ≤ shards
    → Each (λ d. IsInRange shards d d.call) (retire_dues s at n)
retire_range s at shards zero number below = tt
retire_range s at shards (suc n) number below =
    each_append (λ d. IsInRange shards d d.call) (retire_dues s at n) _
    (retire_range s at shards n number (omega arith)) ((number, omega arith, refl), tt)

retires_range : (script : Script) → IsSoundScript script → (shards : ℕ) (commands : List Command)
    → AllByRecursion (λ c. IsOfKnown script.plan c) commands
    → Each (λ d. IsInRange shards d d.call) (retire_commands shards commands)
retires_range script sound shards [] known = tt
retires_range script sound shards (CloseCommand at s f ∷ commands) known =
    retires_range script sound shards commands known.1
retires_range script sound shards (ChangeCommand v ∷ commands) known =
    retires_range script sound shards commands known.1
retires_range script sound shards (RetireCommand at s ∷ commands) known =
    each_append (λ d. IsInRange shards d d.call) (retire_dues s at.0 shards) _
    (retire_range s at.0 shards shards (known_server script sound (length script.plan.changes) s known.0).1
    (omega arith))
    (retires_range script sound shards commands known.1)
retires_range script sound shards (SyncCommand at ∷ commands) known = retires_range script sound shards commands known.1

first_range : (shards : ℕ) (dues : List Due) (d : Due) → Each (λ x. IsInRange shards x x.call) dues
    → first_of dues ≡ d ∷ [] → IsInRange shards d d.call
first_range shards [] d each is = absurd (cc)
first_range shards (x ∷ dues) d each is =
    let same : x ≡ d = cc in subst (λ (y : Due). IsInRange shards y y.call) same each.0

pub has_places : (R : Routes) (F : Rules) (p : Player) (at : Moment) (d : Due) → IsReady R F p at d → HasPlaces p
has_places R F p at d ready = places_of R F p ready.fates (past_of p) ready.played ready.state

-- A CONNECTION IS CLOSED

close_from : (R : Routes) (F : Rules) (p : Player) (at : Moment) (d : Due) (s : ServerId) (f : Flow)
    → IsReady R F p at d → d.call ≡ Closes s f
    → first_of (left (close_commands p.stage.script.commands) (past_of p) closes) ≡ d ∷ []
close_from R F p at d s f ready call =
    subst (λ (c : Calls). IsFrom (wire ready.fates (past_of p)) p.stage (past_of p) d c) call ready.from

pub close_number : (R : Routes) (F : Rules) (p : Player) (at : Moment) (d : Due) (s : ServerId) (f : Flow)
    → IsReady R F p at d → d.call ≡ Closes s f → s.0 ≤ 1024
close_number R F p at d s f ready call =
    subst (λ (c : Calls). IsInRange 0 d c) call (first_range 0 _ d
    (each_dropped (λ x. IsInRange 0 x x.call) (counts (past_of p) (λ what. closes (call_of what))) _
    (closes_range p.stage.script ready.played.sound.script 0 p.stage.script.commands
    ready.played.sound.script.of_known))
    (close_from R F p at d s f ready call))

some_receiver : (o : Option Holding) → is_some (receiver_of o) ≡ is_some o
some_receiver None = refl
some_receiver (Some h) = refl

abbrev close_event : Moment → ServerId → Flow → Player → Event
close_event at s f p =
    record { clock = at; what = Close s f (holds (state_at p.shards (place_of p.stage s (shard p.stage f))) f) }

close_answered : (stage : Stage) (past : List Event) (states : List State) (s : ServerId) (f : Flow) → s.0 ≤ 1024
    → 1 ≤ stage.script.setting.shards → KeepsShards stage past states
    → holds (state_at states (place_of stage s (shard stage f))) f ≡ is_some (held stage past s f)
close_answered stage past states s f number some keeps =
    holds_same stage past s (shard stage f) (state_at states (place_of stage s (shard stage f))) f
    (keeps.each s (shard stage f) number (shard_below stage f some)) refl

shards_closed : (p : Player) (past : List Event) (at : Moment) (s : ServerId) (f : Flow) (states : List State)
    → s.0 ≤ 1024 → 1 ≤ p.stage.script.setting.shards → last_clock past < at.0 → KeepsShards p.stage past p.shards
    → IsCalled (place_of p.stage s (shard p.stage f)) (AsksClose f (before at)) p.shards states
    → KeepsShards p.stage (close_event at s f p ∷ past) states
shards_closed p past at s f states number some later keeps called =
    shards_more p.stage past (close_event at s f p) p.shards states (AsksClose f (before at))
    (Closed f (holds (state_at p.shards (place_of p.stage s (shard p.stage f))) f)) s (shard p.stage f)
    number (shard_below p.stage f some) (λ t h. refl) refl later (omega arith) keeps called

pub closed_one : (R : Routes) (F : Rules) (p q : Player) (at : Moment) (d : Due) (s : ServerId) (f : Flow)
    → IsReady R F p at d → d.call ≡ Closes s f → HasClosed at s f p q → HasPlayed R F p q
closed_one R F p q at d s f ready call come =
    subst (λ (x : Player). HasPlayed R F p x) (sym come.is)
    (packaged R F p
    (happened at (close_event at s f p).what (record p { close = come.queue; shards = come.states }))
    plain ready.fates (close_event at s f p) refl refl refl played state) where
      number : s.0 ≤ 1024
      number = close_number R F p at d s f ready call

      some : 1 ≤ p.stage.script.setting.shards
      some = ready.played.sound.script.setting.shards.0

      played : IsPlayed R F p.stage (plain ∷ ready.fates) (close_event at s f p ∷ past_of p)
      played = told R F p at d ready (close_event at s f p).what plain (sym call)
          (close_answered p.stage (past_of p) p.shards s f number some ready.state.shards) tt tt plain_soon

      state : KeepsState (plain ∷ ready.fates) (close_event at s f p ∷ past_of p)
          (happened at (close_event at s f p).what (record p { close = come.queue; shards = come.states }))
      state = record {
        clock = refl;
        loss = ready.state.loss ∙ ready.no_loss_due;
        flights =
            all_stay p.stage (past_of p) (close_event at s f p) played.run.0 p.wire (wire ready.fates (past_of p))
            ready.state.flights;
        published = ready.state.published;
        muxes = muxes_stay p.stage (past_of p) (close_event at s f p) p.muxes p.switch (λ m. refl) (λ m. refl)
            ready.state.muxes;
        queues = record {
          due_closes =
              part_next _ _ _ p.close.head come.queue.head d (past_of p) (close_event at s f p) closes refl
              (close_from R F p at d s f ready call) ready.state.queues.due_closes come.next;
          due_retires = part_stays _ _ _ (past_of p) (close_event at s f p) retires refl ready.state.queues.due_retires;
          due_syncs = part_stays _ _ _ (past_of p) (close_event at s f p) syncs refl ready.state.queues.due_syncs;
          due_packets = part_stays _ _ _ (past_of p) (close_event at s f p) steers refl ready.state.queues.due_packets;
        };
        shards =
            shards_closed p (past_of p) at s f come.states number some (clock_later R F p at d ready).0
            ready.state.shards come.called;
        packets = ready.state.packets;
      }

-- A SHARD IS ASKED TO RETIRE

retire_from : (R : Routes) (F : Rules) (p : Player) (at : Moment) (d : Due) (s : ServerId) (h since : ℕ)
    → IsReady R F p at d → d.call ≡ Retires s h since
    → first_of (left (retire_commands p.stage.script.setting.shards p.stage.script.commands) (past_of p) retires)
    ≡ d ∷ []
retire_from R F p at d s h since ready call =
    subst (λ (c : Calls). IsFrom (wire ready.fates (past_of p)) p.stage (past_of p) d c) call ready.from

pub retire_numbers : (R : Routes) (F : Rules) (p : Player) (at : Moment) (d : Due) (s : ServerId) (h since : ℕ)
    → IsReady R F p at d → d.call ≡ Retires s h since → (s.0 ≤ 1024) × (h < p.stage.script.setting.shards)
    × (d.moment ≡ since)
retire_numbers R F p at d s h since ready call =
    subst (λ (c : Calls). IsInRange p.stage.script.setting.shards d c) call
    (first_range p.stage.script.setting.shards _ d
    (each_dropped (λ x. IsInRange p.stage.script.setting.shards x x.call)
    (counts (past_of p) (λ what. retires (call_of what))) _
    (retires_range p.stage.script ready.played.sound.script p.stage.script.setting.shards p.stage.script.commands
    ready.played.sound.script.of_known))
    (retire_from R F p at d s h since ready call))

pub published_within : (R : Routes) (F : Rules) (p : Player) (at : Moment) (d : Due) → IsReady R F p at d
    → p.published ≤ length p.stage.script.plan.changes
published_within R F p at d ready =
    let within = newest_within p.stage (past_of p) ready.played.run in let same = ready.state.published in omega arith

abbrev retire_event : Moment → ServerId → ℕ → Moment → Retirement → Event
retire_event at s h since result = record { clock = at; what = Retire s h since result }

shards_retired : (p : Player) (past : List Event) (at : Moment) (s : ServerId) (h : ℕ) (since : Moment)
    (result : Retirement) (states : List State) → s.0 ≤ 1024 → h < p.stage.script.setting.shards
    → last_clock past < at.0 → since.0 < at.0 → KeepsShards p.stage past p.shards
    → IsCalled (place_of p.stage s h) (AsksRetire since result) p.shards states
    → KeepsShards p.stage (retire_event at s h since result ∷ past) states
shards_retired p past at s h since result states number below later early keeps called =
    shards_more p.stage past (retire_event at s h since result) p.shards states (AsksRetire since result)
    (RetiredAs result) s h number below (λ t x. refl) refl later early keeps called

pub retire_early : (R : Routes) (F : Rules) (p : Player) (at : Moment) (d : Due) (s : ServerId) (h since : ℕ)
    → IsReady R F p at d → d.call ≡ Retires s h since → since < at.0
retire_early R F p at d s h since ready call =
    let same = (retire_numbers R F p at d s h since ready call).2
    in let early = (clock_later R F p at d ready).1
    in omega arith

pub retired_one : (R : Routes) (F : Rules) (p q : Player) (at : Moment) (d : Due) (s : ServerId) (h : ℕ)
    (since : Moment) → IsReady R F p at d → d.call ≡ Retires s h since.0 → HasRetired at s h since p q
    → HasPlayed R F p q
retired_one R F p q at d s h since ready call come =
    subst (λ (x : Player). HasPlayed R F p x) (sym come.is)
    (packaged R F p
    (happened at (Retire s h since come.result)
    (record p { retire = come.queue; shards = come.states })) plain ready.fates
    (retire_event at s h since come.result) refl refl refl played state) where
      numbers : (s.0 ≤ 1024) × (h < p.stage.script.setting.shards) × (d.moment ≡ since.0)
      numbers = retire_numbers R F p at d s h since.0 ready call

      played : IsPlayed R F p.stage (plain ∷ ready.fates) (retire_event at s h since come.result ∷ past_of p)
      played = told R F p at d ready (Retire s h since come.result) plain (sym call)
          (subst (λ (n : ℕ). IsRetirement p.stage.script.plan (timeout p.stage) n s since.0 come.result)
          ready.state.published come.answer) tt tt plain_soon

      state : KeepsState (plain ∷ ready.fates) (retire_event at s h since come.result ∷ past_of p)
          (happened at (Retire s h since come.result)
          (record p { retire = come.queue; shards = come.states }))
      state = record {
        clock = refl;
        loss = ready.state.loss ∙ ready.no_loss_due;
        flights =
            all_stay p.stage (past_of p) (retire_event at s h since come.result) played.run.0 p.wire
            (wire ready.fates (past_of p)) ready.state.flights;
        published = ready.state.published;
        muxes = muxes_stay p.stage (past_of p) (retire_event at s h since come.result) p.muxes p.switch (λ m. refl)
            (λ m. refl) ready.state.muxes;
        queues = record {
          due_closes =
              part_stays _ _ _ (past_of p) (retire_event at s h since come.result) closes refl
              ready.state.queues.due_closes;
          due_retires =
              part_next _ _ _ p.retire.head come.queue.head d (past_of p) (retire_event at s h since come.result)
              retires refl (retire_from R F p at d s h since.0 ready call) ready.state.queues.due_retires come.next;
          due_syncs =
              part_stays _ _ _ (past_of p) (retire_event at s h since come.result) syncs refl
              ready.state.queues.due_syncs;
          due_packets =
              part_stays _ _ _ (past_of p) (retire_event at s h since come.result) steers refl
              ready.state.queues.due_packets;
        };
        shards =
            shards_retired p (past_of p) at s h since come.result come.states numbers.0 numbers.1
            (clock_later R F p at d ready).0 (retire_early R F p at d s h since.0 ready call) ready.state.shards
            come.called;
        packets = ready.state.packets;
      }

-- A PHASE ENDS

sync_from : (R : Routes) (F : Rules) (p : Player) (at : Moment) (d : Due) → IsReady R F p at d → d.call ≡ Syncs
    → first_of (left (sync_commands p.stage.script.commands) (past_of p) syncs) ≡ d ∷ []
sync_from R F p at d ready call =
    subst (λ (c : Calls). IsFrom (wire ready.fates (past_of p)) p.stage (past_of p) d c) call ready.from

pub synced : (R : Routes) (F : Rules) (p q : Player) (at : Moment) (d : Due) → IsReady R F p at d → d.call ≡ Syncs
    → HasSynced at p q → HasPlayed R F p q
synced R F p q at d ready call come =
    subst (λ (x : Player). HasPlayed R F p x) (sym come.is)
    (packaged R F p (happened at Sync (record p { sync = come.queue })) plain ready.fates
    (record { clock = at; what = Sync }) refl refl refl played state) where
      played : IsPlayed R F p.stage (plain ∷ ready.fates) (record { clock = at; what = Sync } ∷ past_of p)
      played = told R F p at d ready Sync plain (sym call) tt tt tt plain_soon

      state : KeepsState (plain ∷ ready.fates) (record { clock = at; what = Sync } ∷ past_of p)
          (happened at Sync (record p { sync = come.queue }))
      state = record {
        clock = refl;
        loss = ready.state.loss ∙ ready.no_loss_due;
        flights =
            all_stay p.stage (past_of p) (record { clock = at; what = Sync }) played.run.0 p.wire
            (wire ready.fates (past_of p)) ready.state.flights;
        published = ready.state.published;
        muxes = muxes_stay p.stage (past_of p) (record { clock = at; what = Sync }) p.muxes p.switch (λ m. refl)
            (λ m. refl) ready.state.muxes;
        queues = record {
          due_closes =
              part_stays _ _ _ (past_of p) (record { clock = at; what = Sync }) closes refl
              ready.state.queues.due_closes;
          due_retires =
              part_stays _ _ _ (past_of p) (record { clock = at; what = Sync }) retires refl
              ready.state.queues.due_retires;
          due_syncs =
              part_next _ _ _ p.sync.head come.queue.head d (past_of p) (record { clock = at; what = Sync }) syncs refl
              (sync_from R F p at d ready call) ready.state.queues.due_syncs come.next;
          due_packets =
              part_stays _ _ _ (past_of p) (record { clock = at; what = Sync }) steers refl
              ready.state.queues.due_packets;
        };
        shards = shards_stay p.stage (past_of p) (record { clock = at; what = Sync }) p.shards (λ s h. refl)
            (omega (arith, (clock_later R F p at d ready).0)) ready.state.shards;
        packets = ready.state.packets;
      }

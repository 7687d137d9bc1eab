-- Accounts (docs/DEFINITIONS.md): each steerable packet is steered once, each copy that was sent
-- arrives or is lost, and each command is carried out.
-- A past has its newest event first, and so have the fates, one for each event.
use Rattle.std.specs.Prelude.{◌≡◌, ℕ, suc, ◌+◌, ◌<◌, ◌≤◌, Bool, true, false, ◌&&◌, ◌==◌}
use Rattle.std.specs.Prelude.{if◌then◌else◌, List, [], ◌∷◌, length, IfSome, is_some}
use Rattle.bm_base.specs.declared.ids.ServerId.{ServerId}
use Rattle.bm_base.specs.declared.flow.Flow.{Flow}
use Rattle.bm_base.specs.declared.label.Hop.{Hop}
use Rattle.bm_base.specs.declared.fate.Fate.{Fate}
use Rattle.bm_base.specs.Segments.{same_flow}
use Rattle.bm_table.specs.declared.script.Command.{Command}
use Rattle.bm_table.specs.declared.script.Command.TheVariants.{Close as CloseCommand}
use Rattle.bm_table.specs.declared.script.Command.TheVariants.{Retire as RetireCommand}
use Rattle.bm_table.specs.declared.script.Command.TheVariants.{Sync as SyncCommand}
use Rattle.bm_table.specs.Tables.{same_server}
use Rattle.bm_core.specs.declared.events.What.{What}
use Rattle.bm_core.specs.declared.events.What.TheVariants.{Steer, Lose, Arrive, Close, Retire, Sync}
use Rattle.bm_core.specs.declared.events.Event.{Event}
use Rattle.bm_core.specs.declared.events.Stage.{Stage}
use Rattle.bm_core.specs.Past.{segment_of, same_hop, sending_of, sends, newest}

-- what the route may answer for a packet of a flow
abbrev pub Routes : Type 1
Routes = ℕ → Flow → ℕ → Type 0

-- what the impairment rule may answer for a packet and a hop
abbrev pub Rules : Type 1
Rules = ℕ → Hop → Fate → Type 0

-- how many of these pass the test
abbrev pub count_of : {X : Type 0} → (X → Bool) → List X → ℕ
count_of test [] = 0
count_of test (x ∷ xs) = (if test x then 1 else 0) + count_of test xs

-- how many of these events pass the test
abbrev pub counts : List Event → (What → Bool) → ℕ
counts past test = count_of (λ e. test e.what) past

-- FATES: one for each event, the newest first; only a sending's fate means something

-- the fate at the newest event; without one, a sending has one copy without delay
abbrev pub fate_now : List Fate → Fate
fate_now [] = record { copies = 1; delay = 0 }
fate_now (f ∷ fates) = f

-- the fates of the events before it
abbrev pub before : List Fate → List Fate
before [] = []
before (f ∷ fates) = fates

-- WHAT THE ROUTE AND THE IMPAIRMENT RULE ANSWERED

-- a Steer is at a mux that the route may give
abbrev pub IsRouted : Routes → Stage → What → Type 0
IsRouted R stage (Steer k m) = IfSome (segment_of stage k) (λ s. R k s.flow m.0)
IsRouted R stage _ = Unit {0}

-- each Steer is at a mux that the route may give, and each sending has a fate that the rule may
-- give
abbrev pub AreAnswered : Routes → Rules → Stage → List Fate → List Event → Type 0
AreAnswered R F stage fates [] = Unit {0}
AreAnswered R F stage fates (e ∷ past) =
    (IsRouted R stage e.what × IfSome (sending_of e.what) (λ s. F s.packet s.hop (fate_now fates)))
    × AreAnswered R F stage (before fates) past

-- COPIES

-- the event steers the packet
abbrev pub steers_packet : What → ℕ → Bool
steers_packet (Steer packet m) k = packet == k
steers_packet _ k = false

-- the event is an arrival of the packet with this hop
abbrev pub arrives : What → ℕ → Hop → Bool
arrives (Arrive packet hop server verdict) k h = packet == k && same_hop hop h
arrives _ k h = false

-- the event is a loss of the packet with this hop
abbrev pub loses : What → ℕ → Hop → Bool
loses (Lose packet hop) k h = packet == k && same_hop hop h
loses _ k h = false

-- how many copies all sendings of the packet with this hop have
abbrev pub sent_copies : List Fate → List Event → ℕ → Hop → ℕ
sent_copies fates [] k h = 0
sent_copies fates (e ∷ past) k h =
    (if sends e.what k h then (fate_now fates).copies else 0) + sent_copies (before fates) past k h

-- at each place, at most as many copies have arrived as were sent
abbrev pub AreSent : List Fate → List Event → Type 0
AreSent fates [] = Unit {0}
AreSent fates (e ∷ past) =
    ((k : ℕ) (hop : Hop)
    → counts (e ∷ past) (λ what. arrives what k hop) ≤ sent_copies (before fates) past k hop)
    × AreSent (before fates) past

-- how many sendings at this clock have a fate without copies
abbrev pub copyless_at : List Fate → List Event → ℕ → Hop → ℕ → ℕ
copyless_at fates [] k hop clock = 0
copyless_at fates (e ∷ past) k hop clock =
    (if sends e.what k hop && ((fate_now fates).copies == 0 && e.clock.0 == clock) then 1 else 0)
    + copyless_at (before fates) past k hop clock

-- how many Loses of the packet and hop come at this clock
abbrev pub lost_at : List Event → ℕ → Hop → ℕ → ℕ
lost_at all k hop clock = count_of (λ e. loses e.what k hop && e.clock.0 == clock) all

-- COMMANDS

-- the event closes the flow at the server
abbrev pub closes_flow : What → ServerId → Flow → Bool
closes_flow (Close server flow closed) s f = same_server server s && same_flow flow f
closes_flow _ s f = false

-- the event answers a request to retire the server's shard
abbrev pub retires_shard : What → ServerId → ℕ → Bool
retires_shard (Retire server h at result) s shard = same_server server s && h == shard
retires_shard _ s shard = false

-- the event is a Sync
abbrev pub is_sync : What → Bool
is_sync Sync = true
is_sync _ = false

-- the command is a close of the flow at the server
abbrev pub wants_close : Command → ServerId → Flow → Bool
wants_close (CloseCommand at server flow) s f = same_server server s && same_flow flow f
wants_close _ s f = false

-- the command is a retire of the server
abbrev pub wants_retire : Command → ServerId → Bool
wants_retire (RetireCommand at server) s = same_server server s
wants_retire _ s = false

-- the command is a sync
abbrev pub wants_sync : Command → Bool
wants_sync (SyncCommand at) = true
wants_sync _ = false

-- each command has its events, and there are no others
pub record AreCarriedOut (stage : Stage) (all : List Event) : Type 0 where
  pub changes : newest all ≡ length stage.script.plan.changes
  pub closes : (s : ServerId) (f : Flow)
      → counts all (λ what. closes_flow what s f)
      ≡ count_of (λ c. wants_close c s f) stage.script.commands
  pub retires : (s : ServerId) (h : ℕ) → h < stage.script.setting.shards
      → counts all (λ what. retires_shard what s h)
      ≡ count_of (λ c. wants_retire c s) stage.script.commands
  pub no_other : (s : ServerId) (h : ℕ) → stage.script.setting.shards ≤ h
      → counts all (λ what. retires_shard what s h) ≡ 0
  pub syncs : counts all is_sync ≡ count_of wants_sync stage.script.commands

-- THE ACCOUNT

-- every packet, copy and command is accounted for, with these fates
pub record IsAccountOf (R : Routes) (F : Rules) (stage : Stage) (fates : List Fate)
    (all : List Event) : Type 0 where
  -- each steerable record has one Steer, no other has one
  pub steered : (k : ℕ)
      → counts all (λ what. steers_packet what k) ≡ (if is_some (segment_of stage k) then 1 else 0)
  -- at a mux that the route may give; each sending has a fate that the rule may give
  pub answered : AreAnswered R F stage fates all
  -- a sending without copies, and no other, has one Lose, at its clock plus one
  pub lost : (k : ℕ) (hop : Hop) (clock : ℕ)
      → lost_at all k hop (suc clock) ≡ copyless_at fates all k hop clock
  -- the copies that arrived are those that were sent, and none arrived before it was sent
  pub sent : AreSent fates all
  pub arrived : (k : ℕ) (hop : Hop)
      → counts all (λ what. arrives what k hop) ≡ sent_copies fates all k hop
  pub commands : AreCarriedOut stage all

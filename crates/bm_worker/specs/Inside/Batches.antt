-- A batch of a mux's packets: what the mux receives, what it logs and sends, and how far a phase is
-- after it. Only the proofs of bodies use this.
use Rattle.std.specs.Prelude.{◌≡◌, ◌<◌, ◌≤◌, ◌*◌, ◌^◌, ◌+◌, ℕ, true, ◌==◌, if◌then◌else◌, max}
use Rattle.std.specs.Prelude.{nat_lt}
use Rattle.std.specs.Prelude.{List, [], ◌∷◌, ◌++◌, length, reverse, Option, Some, None, Result}
use Rattle.std.specs.Prelude.{MatchResult}
use Rattle.std.specs.List.{AllByRecursion}
use Rattle.bm_base.specs.declared.fate.Fate.{Fate}
use Rattle.bm_base.specs.declared.ids.Moment.{Moment}
use Rattle.bm_base.specs.declared.ids.MuxId.{MuxId}
use Rattle.bm_base.specs.declared.label.Hop.{Hop}
use Rattle.bm_base.specs.declared.label.Hop.TheVariants.{Direct}
use Rattle.bm_tcp.specs.Packets.{ReadsAs}
use Rattle.bm_core.specs.declared.events.Event.{Event}
use Rattle.bm_core.specs.declared.events.Stage.{Stage}
use Rattle.bm_core.specs.declared.events.What.{What}
use Rattle.bm_core.specs.declared.events.What.TheVariants.{Arrive, Lose, Steer}
use Rattle.bm_core.specs.Accounts.{Rules, count_of, steers_packet}
use Rattle.bm_core.specs.Past.{is_switch_of, segment_of, sends, version_at}
use Rattle.bm_core.specs.Threads.{record_moment}
use Rattle.bm_merge.specs.Notes.{Note, many, switched_since, total}
use Rattle.bm_publish.specs.Posts.{Continues, Posted, last_post, last_version}
use Rattle.bm_mux.specs.declared.item.MuxItem.{MuxItem}
use Rattle.bm_mux.specs.declared.item.Steered.{Steered}
use Rattle.bm_mux.specs.Muxes.{IsOwn, IsSameMux, MuxState}
use Rattle.bm_mux.specs.Steers.{steering_clock, switch_to}
use Rattle.bm_server.specs.Servings.{Serving}
use Rattle.bm_worker.specs.declared.stop.Stop.{Stop}
use Rattle.bm_worker.specs.declared.worker.MuxWorker.{MuxWorker}
use Rattle.bm_worker.specs.WorkerNotes.{IsSameCaller, note_at, no_fate}
use Rattle.bm_worker.specs.Inside.Pending.{CanSend, Pending, IsAmong, IsCopyOf, IsUpTo, comes, comes_by}
use Rattle.bm_worker.specs.Inside.Pending.{copyless_at}
use Rattle.bm_worker.specs.Inside.Pending.{pending, gives, gives_by, lost_at}
use Rattle.bm_worker.specs.Phases.{AreFew, HasEnded, IsStopOf, Kept, Task, mux_for}
use Rattle.bm_worker.specs.Phases.{entries_per_packet, tries_per_packet}
use Rattle.bm_worker.specs.Assigned.{is_assigned, assigned_mux}

-- WHAT THE MUX TAKES

-- the packets' numbers rise above this one
abbrev pub Rise : ℕ → List MuxItem → Type 0
Rise low [] = Unit {0}
Rise low (i ∷ items) = (low < i.packet) × Rise i.packet items

-- the last packet's number, or this one if there is none
abbrev pub last_packet : ℕ → List MuxItem → ℕ
last_packet low [] = low
last_packet low (i ∷ items) = last_packet i.packet items

-- a packet of the mux, as the stage and the octets have it
pub record IsItemOf (stage : Stage) (routes : List (Option MuxId)) (m : ℕ) (i : MuxItem) : Type
    0 where
  pub assigned : assigned_mux routes i.packet ≡ Some m
  pub moment : i.moment.0 ≡ record_moment stage i.packet
  pub segment : segment_of stage i.packet ≡ Some i.segment
  pub reads : ReadsAs i.inner.now i.segment
  pub short : length i.inner.now ≤ 65479

-- the fates that were drawn for the items' copies
abbrev pub AreDrawn : Rules → List MuxItem → List Fate → Type 0
AreDrawn F [] [] = Unit {0}
AreDrawn F (i ∷ items) (f ∷ fates) =
    F i.packet Direct f × (f.copies ≤ 3) × (f.delay ≤ 60 * 10 ^ 9) × AreDrawn F items fates
AreDrawn F _ _ = ⊥

-- all of the mux's packets among the records at the places from..end, at most 256
pub record AreCollected (F : Rules) (stage : Stage) (routes : List (Option MuxId)) (m from end : ℕ)
    (items : List MuxItem) (fates : List Fate) : Type 0 where
  pub few : length items ≤ 256
  pub rise : Rise from items
  pub under : last_packet from items ≤ end
  pub each : AllByRecursion (IsItemOf stage routes m) items
  pub drawn : AreDrawn F items fates
  pub once : (k : ℕ) → count_of (λ (i : MuxItem). i.packet == k) items
      ≡ (if is_assigned routes m from end k then 1 else 0)
  -- at most as many as the places
  pub count : from + length items ≤ end

-- WHAT IT LOGS AND SENDS, as notes, the newest first

abbrev pub steering : Moment → ℕ → MuxId → Fate → ℕ → Note
steering clock k m fate seat = note_at clock (Steer k m) fate 0 0 seat

abbrev pub sent_notes : MuxId → List Steered → List Fate → List Note
sent_notes m [] fates = []
sent_notes m (t ∷ sents) [] = []
sent_notes m (t ∷ sents) (f ∷ fates) =
    sent_notes m sents fates ++ steering t.clock t.packet m f (m.0 + 1) ∷ []

abbrev pub switch_note : MuxId → Posted → List Event → ℕ → Note
switch_note m seen past cause = record {
  event = switch_to m seen past cause;
  fate = no_fate;
  command = 0;
  due = 0;
  seat = m.0 + 1;
}

abbrev pub switch_notes : MuxId → Posted → List Event → List Note
switch_notes m seen past =
    if nat_lt (version_at past m).0 (last_version seen)
    then switch_note m seen past (last_post seen) ∷ [] else []

-- DELIVERED

-- the notes x complete the sendings in s, and those in x
pub record CompletesAll (s x : List Note) : Type 0 where
  pub lost : (k : ℕ) (hop : Hop) (clock : ℕ) → total (lost_at k hop clock) x
      ≡ total (copyless_at k hop clock) s + total (copyless_at k hop clock) x
  pub sent : (k : ℕ) (hop : Hop) (clock : ℕ) → total (comes_by k hop clock) x
      ≤ total (gives_by k hop clock) s + total (gives_by k hop clock) x
  pub arrived : (k : ℕ) (hop : Hop) → total (comes k hop) x
      ≡ total (gives k hop) s + total (gives k hop) x

-- a steered packet among the notes of a phase
pub record HasSending (task : Task) (notes : List Note) (d : Pending) : Type 0 where
  pub note : Note
  pub among : IsAmong note notes
  pub sending : sends note.event.what d.packet d.hop ≡ true
  pub clock : note.event.clock.0 ≡ d.clock
  pub fate : note.fate ≡ d.fate
  pub steered : 1 ≤ many (λ y. steers_packet y.event.what d.packet) notes
  pub later : task.after < d.clock
  pub within : (task.from < d.packet) × (d.packet ≤ task.until)

-- each of these is, with its fate, and their numbers rise
abbrev pub HaveSendings : Task → List Note → ℕ → List Steered → List Fate → Type 0
HaveSendings task notes low [] fates = Unit {0}
HaveSendings task notes low (t ∷ sents) [] = ⊥
HaveSendings task notes low (t ∷ sents) (f ∷ fates) =
    (low < t.packet) × HasSending task notes (pending t.packet Direct t.clock.0 f)
    × HaveSendings task notes t.packet sents fates

-- a copy of the packet for the server of its tag
abbrev pub IsSent : Stage → List Serving → MuxState → Steered → Type 0
IsSent stage servers mux t =
    (place : ℕ) × (copy : IsCopyOf stage servers mux place t.packet Direct t.octets)
    × (copy.tag ≡ t.tag)

abbrev pub last_sent : ℕ → List Steered → ℕ
last_sent low [] = low
last_sent low (t ∷ sents) = last_sent t.packet sents

-- a copy arrives, or a sending is lost
abbrev pub IsDelivery : What → Type 0
IsDelivery (Arrive k hop server verdict) = Unit {0}
IsDelivery (Lose k hop) = Unit {0}
IsDelivery _ = ⊥

-- every phase goes on with at most this many notes, which complete what was steered, or the worker
-- gave up
abbrev pub Delivers : Rules → Stage → List Serving → List Steered → List Fate → MuxWorker
    → MuxWorker
    → Result (Unit {0}) Stop → Type 0
Delivers F stage servers sents fates old new result =
    (task : Task) (notes : List Note) (low : ℕ) → Kept F stage servers task old notes
    → HaveSendings task notes low sents fates → AllByRecursion (λ y. IsUpTo low y.event.what) notes
    → (x : List Note) × Kept F stage servers task new (x ++ notes) × (length x ≤ tries_per_packet * length sents)
    × AllByRecursion (λ y. IsDelivery y.event.what) x
    × MatchResult result
    (λ _. CompletesAll (sent_notes (mux_for task) sents fates) x
    × AllByRecursion (λ y. IsUpTo (last_sent low sents) y.event.what) x)
    (λ stop. IsStopOf (x ++ notes) stop)

-- HOW FAR A PHASE IS

-- every sending among the notes is completed
pub record AreSettled (notes : List Note) : Type 0 where
  pub lost : (k : ℕ) (hop : Hop) (clock : ℕ) → total (lost_at k hop clock) notes
      ≡ total (copyless_at k hop clock) notes
  pub sent : (k : ℕ) (hop : Hop) (clock : ℕ) → total (comes_by k hop clock) notes
      ≤ total (gives_by k hop clock) notes
  pub arrived : (k : ℕ) (hop : Hop) → total (comes k hop) notes ≡ total (gives k hop) notes

-- a Steer is of this packet or an earlier one
abbrev pub IsSteerTo : ℕ → What → Type 0
IsSteerTo next (Steer k m) = k ≤ next
IsSteerTo next _ = Unit {0}

-- an event of the mux's log, of a packet up to this one
pub record IsLogged (m : MuxId) (next : ℕ) (e : Event) : Type 0 where
  pub own : IsOwn m e.what
  pub packet : IsSteerTo next e.what

-- the phase is done up to the place next
pub record IsDoneTo (F : Rules) (stage : Stage) (servers : List Serving) (task : Task)
    (now : MuxWorker) (next : ℕ)
    (notes : List Note) : Type 0 where
  pub from : task.from ≤ next
  pub kept : Kept F stage servers task now notes
  pub settled : AreSettled notes
  pub steered : (k : ℕ) → many (λ n. steers_packet n.event.what k) notes
      ≡ (if is_assigned task.routes (mux_for task).0 task.from next k then 1 else 0)
  pub looked : 1 ≤ many (λ n. is_switch_of n.event.what (mux_for task).0) notes
  pub learned : Continues task.posted now.mux.seen
  pub few : AreFew notes
  pub first : AllByRecursion (λ y. IsUpTo next y.event.what) notes
  pub logged : AllByRecursion (IsLogged (mux_for task) next) (reverse now.mux.log)
  pub switched : switched_since task.after (mux_for task).0 (reverse now.mux.log) ≡ true
  pub begun : task.after < steering_clock (reverse now.mux.log)

-- what the worker did is recorded: the caller has the mux's clock, and nothing else changed
pub record HasSeen (old new : MuxWorker) : Type 0 where
  pub seats : new.caller.seats ≡ old.caller.seats
  pub caller : IsSameCaller old.caller new.caller
  pub tries : new.caller.tries ≡ old.caller.tries
  pub latest : new.caller.latest ≡ max old.caller.latest (steering_clock (reverse new.mux.log))
  pub steps : new.steps ≡ old.steps

-- nothing was done; the mux may have seen or learned of more posts
pub record HasOnlyLooked (old new : MuxWorker) : Type 0 where
  pub mux : IsSameMux old.mux new.mux
  pub log : new.mux.log ≡ old.mux.log
  pub caller : new.caller ≡ old.caller
  pub steps : new.steps ≡ old.steps

-- the phase goes on from the place to the one returned, or the worker gave up
abbrev pub CarriesTo : Rules → Stage → List Serving → List (Option MuxId) → ℕ → ℕ → MuxWorker
    → MuxWorker → Result ℕ Stop → Type 0
CarriesTo F stage servers routes from until old new result =
    (task : Task) (notes : List Note) → task.routes ≡ routes → until ≤ task.until
    → IsDoneTo F stage servers task old from notes
    → MatchResult result (λ end. (d : List Note) × IsDoneTo F stage servers task new end d)
    (λ stop. HasEnded F stage servers task new (Some stop))

-- the worker may carry its mux's packets of this many places
pub record CanCarry (stage : Stage) (servers : List Serving) (places : ℕ) (w : MuxWorker) : Type
    0 where
  pub plan : w.mux.seen.plan ≡ stage.script.plan
  pub mux : w.mux.id.0 < 64
  pub can : CanSend servers (tries_per_packet * places) w
  pub steps : w.steps + places ≤ 4294967295
  pub room : length w.mux.log < 2 ^ 48

-- how much this many places may add to the worker's counts
pub record GrowsBy (places : ℕ) (old new : MuxWorker) : Type 0 where
  pub tries : new.caller.tries ≤ old.caller.tries + tries_per_packet * places
  pub steps : new.steps ≤ old.steps + places
  pub log : length new.mux.log ≤ length old.mux.log + entries_per_packet * places

-- the phase is done, or the worker gave up in it and returns why
abbrev pub EndsAs : Rules → Stage → List Serving → Task → MuxWorker → Result (Unit {0}) Stop
    → Type 0
EndsAs F stage servers task now result =
    MatchResult result (λ _. HasEnded F stage servers task now None)
    (λ stop. HasEnded F stage servers task now (Some stop))

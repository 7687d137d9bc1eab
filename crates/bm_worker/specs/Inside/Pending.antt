-- How a sending is completed: each of its copies arrives, and each forward of one is completed too;
-- a sending without copies is lost. Only the proofs of bodies use this.
use Rattle.std.specs.Prelude.{◌≡◌, ◌<◌, ◌≤◌, ◌*◌, ◌^◌, ◌+◌, ℕ, suc, Bool, true, false, ◌&&◌, ◌==◌}
use Rattle.std.specs.Prelude.{nat_le, nat_lt}
use Rattle.std.specs.Prelude.{if◌then◌else◌, List, ◌++◌, length, reverse, slice_get, Some, Result}
use Rattle.std.specs.Prelude.{MatchResult}
use Rattle.std.specs.List.{AllByRecursion}
use Rattle.bm_base.specs.declared.fate.Fate.{Fate}
use Rattle.bm_base.specs.declared.flow.Segment.{Segment}
use Rattle.bm_base.specs.declared.ids.ServerId.{ServerId}
use Rattle.bm_base.specs.declared.label.Hop.{Hop}
use Rattle.bm_base.specs.declared.label.Hop.TheVariants.{Direct, Chained, Twice}
use Rattle.bm_base.specs.declared.label.Label.{Label}
use Rattle.bm_base.specs.declared.label.Tag.{Tag}
use Rattle.bm_base.specs.Labels.{entry_of, onward, server_of, tag_of}
use Rattle.bm_base.specs.Tags.{IsTag}
use Rattle.bm_tcp.specs.Packets.{ReadsAs}
use Rattle.bm_encap.specs.Spellings.{spelling}
use Rattle.bm_encap.specs.Inside.Spellings.{FitsFields}
use Rattle.bm_core.specs.Inside.Weights.{hop_weight}
use Rattle.bm_core.specs.declared.events.Event.{Event}
use Rattle.bm_core.specs.declared.events.Stage.{Stage}
use Rattle.bm_core.specs.declared.events.What.{What}
use Rattle.bm_core.specs.declared.events.What.TheVariants.{Arrive, Lose}
use Rattle.bm_core.specs.Accounts.{Rules, arrives, loses, steers_packet}
use Rattle.bm_core.specs.Past.{label_of, same_hop, segment_of, sends}
use Rattle.bm_merge.specs.Notes.{Note, many, total}
use Rattle.bm_mux.specs.Muxes.{MuxState}
use Rattle.bm_mux.specs.Steers.{is_lose}
use Rattle.bm_server.specs.Servings.{Serving}
use Rattle.bm_worker.specs.declared.stop.Stop.{Stop}
use Rattle.bm_worker.specs.declared.stop.Stop.TheVariants.{Late}
use Rattle.bm_worker.specs.declared.worker.MuxWorker.{MuxWorker}
use Rattle.bm_worker.specs.WorkerNotes.{IsSameCaller, HasSeats}
use Rattle.bm_worker.specs.Phases.{IsStopOf, Kept, Task}

-- a sending, with what has to come of it
pub record Pending : Type 0 where
  pub packet : ℕ
  pub hop : Hop
  pub clock : ℕ
  pub fate : Fate

abbrev pub pending : ℕ → Hop → ℕ → Fate → Pending
pending k hop clock fate = record { packet = k; hop = hop; clock = clock; fate = fate }

abbrev pub is_of : Pending → ℕ → Hop → Bool
is_of d k hop = d.packet == k && same_hop d.hop hop

-- the same with i copies
abbrev pub with_copies : Pending → ℕ → Pending
with_copies d i = record d { fate = record { copies = i; delay = d.fate.delay } }

-- SUMS: what one note adds to what a carrier promises, and what the sending adds

abbrev pub comes : ℕ → Hop → Note → ℕ
comes k hop n = if arrives n.event.what k hop then 1 else 0

abbrev pub comes_by : ℕ → Hop → ℕ → Note → ℕ
comes_by k hop clock n = if arrives n.event.what k hop && nat_le n.event.clock.0 clock then 1 else 0

abbrev pub gives : ℕ → Hop → Note → ℕ
gives k hop n = if sends n.event.what k hop then n.fate.copies else 0

abbrev pub gives_by : ℕ → Hop → ℕ → Note → ℕ
gives_by k hop clock n =
    if sends n.event.what k hop && nat_lt n.event.clock.0 clock then n.fate.copies else 0

abbrev pub lost_at : ℕ → Hop → ℕ → Note → ℕ
lost_at k hop clock n = if loses n.event.what k hop && n.event.clock.0 == suc clock then 1 else 0

abbrev pub copyless_at : ℕ → Hop → ℕ → Note → ℕ
copyless_at k hop clock n =
    if sends n.event.what k hop && (n.fate.copies == 0 && n.event.clock.0 == clock) then 1 else 0

abbrev pub pending_gives : Pending → ℕ → Hop → ℕ
pending_gives d k hop = if is_of d k hop then d.fate.copies else 0

abbrev pub pending_gives_by : Pending → ℕ → Hop → ℕ → ℕ
pending_gives_by d k hop clock = if is_of d k hop && nat_lt d.clock clock then d.fate.copies else 0

abbrev pub pending_copyless : Pending → ℕ → Hop → ℕ → ℕ
pending_copyless d k hop clock =
    if is_of d k hop && (d.fate.copies == 0 && d.clock == clock) then 1 else 0

-- the notes x complete the copies of the sending, and all sendings in x; with `whole`, a sending
-- without copies has its Lose in x
pub record Completes (whole : Bool) (d : Pending) (x : List Note) : Type 0 where
  pub lost : (k : ℕ) (hop : Hop) (clock : ℕ) → total (lost_at k hop clock) x
      ≡ (if whole then pending_copyless d k hop clock else 0) + total (copyless_at k hop clock) x
  pub sent : (k : ℕ) (hop : Hop) (clock : ℕ) → total (comes_by k hop clock) x
      ≤ pending_gives_by d k hop clock + total (gives_by k hop clock) x
  pub arrived : (k : ℕ) (hop : Hop) → total (comes k hop) x
      ≡ pending_gives d k hop + total (gives k hop) x

-- AMONG THE NOTES OF A PHASE

-- each sum over the notes has the note's part, so it is one of them
abbrev pub IsAmong : Note → List Note → Type 0
IsAmong n notes = (f : Note → ℕ) → f n ≤ total f notes

-- an arrival is of this packet or an earlier one
abbrev pub IsUpTo : ℕ → What → Type 0
IsUpTo k (Arrive j hop server verdict) = j ≤ k
IsUpTo k _ = Unit {0}

-- one of the notes is this sending, of a packet of the phase, and no later packet has arrived
pub record AwaitsCopies (task : Task) (notes : List Note) (d : Pending) : Type 0 where
  pub note : Note
  pub among : IsAmong note notes
  pub sending : sends note.event.what d.packet d.hop ≡ true
  pub clock : note.event.clock.0 ≡ d.clock
  pub fate : note.fate ≡ d.fate
  pub steered : 1 ≤ many (λ y. steers_packet y.event.what d.packet) notes
  pub later : task.after < d.clock
  pub within : (task.from < d.packet) × (d.packet ≤ task.until)
  pub first : AllByRecursion (λ y. IsUpTo d.packet y.event.what) notes

-- a copy of the packet arrives, or a sending of it is lost
abbrev pub IsOf : ℕ → What → Type 0
IsOf k (Arrive j hop server verdict) = j ≡ k
IsOf k (Lose j hop) = j ≡ k
IsOf k _ = ⊥

-- the worker went on with these notes, all of the packet
pub record GoesOn (F : Rules) (stage : Stage) (servers : List Serving) (task : Task)
    (packet most : ℕ)
    (now : MuxWorker) (notes x : List Note) : Type 0 where
  pub kept : Kept F stage servers task now (x ++ notes)
  pub packets : AllByRecursion (λ n. IsOf packet n.event.what) x
  pub few : length x ≤ most

-- the copies of the sending are completed, with `whole` its Lose too, or the worker gave up
abbrev pub IsCompleted : Bool → Pending → List Note → List Note → Result (Unit {0}) Stop → Type 0
IsCompleted whole d notes x result =
    MatchResult result (λ _. Completes whole d x) (λ stop. IsStopOf (x ++ notes) stop)

-- in every phase that has this sending, it is completed with at most this many notes, or the worker
-- gave up
abbrev pub Carries : Rules → Stage → List Serving → Pending → ℕ → MuxWorker → MuxWorker
    → Result (Unit {0}) Stop → Type 0
Carries F stage servers d most old new result =
    (task : Task) (notes : List Note) → Kept F stage servers task old notes → AwaitsCopies task notes d
    → (x : List Note) × GoesOn F stage servers task d.packet most new notes x
    × IsCompleted true d notes x result

-- the same for one copy of it
abbrev pub CarriesOne : Rules → Stage → List Serving → Pending → ℕ → MuxWorker → MuxWorker
    → Result (Unit {0}) Stop → Type 0
CarriesOne F stage servers d most old new result =
    (task : Task) (notes : List Note) → Kept F stage servers task old notes → AwaitsCopies task notes d
    → (x : List Note) × GoesOn F stage servers task d.packet most new notes x
    × IsCompleted false (with_copies d 1) notes x result

-- i copies of it are completed
abbrev pub HasCarried : Rules → Stage → List Serving → Pending → ℕ → ℕ → MuxWorker → MuxWorker → Type 0
HasCarried F stage servers d i most old now =
    (task : Task) (notes : List Note) → Kept F stage servers task old notes → AwaitsCopies task notes d
    → (x : List Note) × GoesOn F stage servers task d.packet most now notes x
    × Completes false (with_copies d i) x

-- THE WORKER

-- what a sending doesn't change
pub record IsSameWorker (old new : MuxWorker) : Type 0 where
  pub id : new.mux.id ≡ old.mux.id
  pub seen : new.mux.seen ≡ old.mux.seen
  pub caller : IsSameCaller old.caller new.caller
  pub steps : new.steps ≡ old.steps

-- the mux's log has at most this many more Loses, and nothing else
abbrev pub GrowsByLosses : ℕ → List Event → List Event → Type 0
GrowsByLosses most old new =
    (more : List Event) × (new ≡ old ++ more) × AllByRecursion (λ e. is_lose e.what ≡ true) more
    × (length more ≤ most)

-- the worker has its seats at the servers, and may make this many calls
pub record CanSend (servers : List Serving) (calls : ℕ) (w : MuxWorker) : Type 0 where
  pub has_seats : HasSeats servers w.caller
  pub number : w.caller.number ≡ w.mux.id.0 + 1
  pub few : w.caller.tries + calls ≤ 4294967295

-- it sent something, with at most this many losses and calls
pub record HasSent (losses calls : ℕ) (old new : MuxWorker) : Type 0 where
  pub same : IsSameWorker old new
  pub grows : GrowsByLosses losses old.mux.log new.mux.log
  pub tries : new.caller.tries ≤ old.caller.tries + calls

-- what an impairment rule may answer
abbrev pub IsWithinLimits : Fate → Type 0
IsWithinLimits fate = (fate.copies ≤ 3) × (fate.delay ≤ 60 * 10 ^ 9)

-- the worker came to a moment that is too large, at most a minute after this clock
abbrev pub IsLateFrom : ℕ → Stop → Type 0
IsLateFrom clock (Late moment at) =
    (9 * 10 ^ 18 < moment.0) × (moment.0 ≤ at.0 + 60 * 10 ^ 9) × (at.0 ≡ clock)
IsLateFrom clock _ = ⊥

-- THE OCTETS OF A COPY

-- the octets are a copy of the packet by this hop, with the tag of the label that its mux gave it,
-- for the server at the place
pub record IsCopyOf (stage : Stage) (servers : List Serving) (mux : MuxState) (place k : ℕ)
    (hop : Hop)
    (octets : List ℕ) : Type 0 where
  pub segment : Segment
  pub is_segment : segment_of stage k ≡ Some segment
  pub label : Label
  pub by : label.mux ≡ mux.id
  pub is_label : label_of stage (reverse mux.log) k ≡ Some label
  pub tag : Tag
  pub tagged : tag_of label hop ≡ Some tag
  pub valid : IsTag tag
  pub fits : FitsFields tag
  pub inner : List ℕ
  pub spelled : octets ≡ spelling tag inner
  pub reads : ReadsAs inner segment
  pub short : length inner ≤ 65479
  pub server : Serving
  pub is_server : slice_get servers place ≡ Some server
  pub mine : tag.dest ≡ server.id

-- a copy of the packet by this hop, whose tag has it passed on to this server
abbrev pub IsForwarded : Stage → List Serving → MuxState → ℕ → ℕ → Hop → List ℕ → ServerId → Type 0
IsForwarded stage servers mux place k hop octets to =
    (copy : IsCopyOf stage servers mux place k hop octets)
    × (server_of (onward (entry_of copy.tag) copy.tag.hop) ≡ Some to)

-- HOW MUCH A SENDING LEADS TO

-- the most arrivals of a sending of this hop and of its forwards, with three copies each
abbrev pub most_tries : Hop → ℕ
most_tries hop = 3 * hop_weight hop

-- the most losses of what a copy of this hop is forwarded as
abbrev pub copy_lost : Hop → ℕ
copy_lost Direct = 3
copy_lost Chained = 1
copy_lost Twice = 0

-- the most losses of a sending of this hop and of its forwards
abbrev pub most_lost : Hop → ℕ
most_lost Direct = 9
most_lost Chained = 3
most_lost Twice = 1

-- What the workers of a run give back when all phases are done: what each did, what its mux logged,
-- and the books of the shards. Only the proofs of bodies use this.
use Rattle.std.specs.Prelude.{◌≡◌, ℕ, suc, ◌==◌, ◌<◌, Bool, true, false}
use Rattle.std.specs.Prelude.{◌&&◌, ◌||◌}
use Rattle.std.specs.Prelude.{List, [], ◌∷◌, reverse}
use Rattle.std.specs.Prelude.{Some}
use Rattle.std.specs.Prelude.{IfSome}
use Rattle.std.specs.List.{AllByRecursion}
use Rattle.bm_base.specs.declared.label.Label.{Label}
use Rattle.bm_base.specs.Labels.{tag_of}
use Rattle.bm_core.specs.declared.events.What.{What}
use Rattle.bm_core.specs.declared.events.What.TheVariants.{Arrive as Arrives, Close as Closes}
use Rattle.bm_core.specs.declared.events.What.TheVariants.{Retire as Retires}
use Rattle.bm_core.specs.declared.events.Event.{Event}
use Rattle.bm_core.specs.declared.events.Stage.{Stage}
use Rattle.bm_core.specs.Past.{segment_of, shard, label_of}
use Rattle.bm_core.specs.Runs.{AtEach}
use Rattle.bm_core.specs.Runs.Actor.{ShardOf}
use Rattle.bm_core.specs.Accounts.{Routes, Rules, counts, is_sync}
use Rattle.bm_core.specs.Threads.{newest_before, sync_clock}
use Rattle.bm_core.specs.Threads.{packet_of}
use Rattle.bm_core.specs.Threads.{phase_of}
use Rattle.bm_shard.specs.declared.book.Shard.{Shard}
use Rattle.bm_shard.specs.declared.calls.ShardCall.{ShardCall}
use Rattle.bm_shard.specs.declared.calls.ShardCall.TheVariants.{Arrive}
use Rattle.bm_shard.specs.Books.{Book, Replays}
use Rattle.bm_shard.specs.Laws.{IsOf}
use Rattle.bm_merge.specs.Notes.{Note, until}
use Rattle.bm_merge.specs.Workers.{notes_by, home_part}
use Rattle.bm_merge.specs.Workers.{IsCarrier}
use Rattle.bm_worker.specs.Phases.{mux_log, IsInOrder, IsMuxGiven}
pub use Rattle.bm_lead.specs.Commands.{control_log, posted_clocks, IsControlStep, IsJudgedBy}
use Rattle.bm_world.specs.Inside.Shards.{entries_by, AreNoted}

-- WHAT A MUX LOGS

-- what a mux logs, in the phase that follows from the controller's log up to the event
abbrev pub IsMuxGivenBy : Stage → List Event → List ℕ → List Event → Event → Type 0
IsMuxGivenBy stage control posts rest e =
    IsMuxGiven stage (sync_clock (until e.clock.0 control))
    (newest_before (until e.clock.0 control)) posts rest
    e.clock.0 e.what

-- WORKER m + 1

-- the event comes after as many Syncs as its packet's phase requires
abbrev pub IsPhasedBy : Stage → List Event → Note → Type 0
IsPhasedBy stage control n =
    IfSome (packet_of n.event.what)
    (λ k. counts (until n.event.clock.0 control) is_sync ≡ phase_of stage k)

-- what worker m + 1 did, given the controller's log and the posts
pub record IsCarriage (R : Routes) (F : Rules) (stage : Stage) (control : List Event)
    (posts : List ℕ) (m : ℕ)
    (notes : List Note) : Type 0 where
  pub carrier : IsCarrier R F stage m notes
  pub seats : AllByRecursion (λ n. n.seat ≡ suc m) notes
  pub positive : AllByRecursion (λ n. 0 < n.event.clock.0) notes
  pub ordered : AtEach (λ rest n. IsInOrder rest n.event.what) notes
  pub gives : AtEach (IsMuxGivenBy stage control posts) (mux_log stage m notes)
  pub phases : AllByRecursion (IsPhasedBy stage control) notes

-- WORKER 0

-- the controller's log is that of a controller
pub record IsControl (stage : Stage) (controller : List Note) : Type 0 where
  pub seats : AllByRecursion (λ n. n.seat ≡ 0) controller
  pub steps : AtEach (IsControlStep stage) (control_log stage controller)
  pub judged : AllByRecursion
      (λ n. IsJudgedBy stage (control_log stage controller) n.event.clock.0 n.event.what) controller

-- SHARDS

-- a copy has the tag of the label that its mux gave the packet, for this server
abbrev pub IsCopied : Stage → List (List Note) → Shard → ShardCall → Type 0
IsCopied stage carriers about (Arrive packet tag segment due) =
    (segment_of stage packet ≡ Some segment) × (shard stage segment.flow ≡ about.number)
    × ((label : Label)
    × (label_of stage (mux_log stage label.mux.0 (notes_by carriers label.mux.0)) packet
    ≡ Some label)
    × (tag_of label tag.hop ≡ Some tag) × (tag.dest ≡ about.server))
IsCopied stage carriers about _ = Unit {0}

-- the book of a shard: it replays, and has exactly what the workers did there, in their order
pub record IsBookOfAll (stage : Stage) (controller : List Note) (carriers : List (List Note))
    (book : Book)
    : Type 0 where
  pub of : IsOf stage book.shard
  pub replays : Replays book.shard (reverse book.entries)
  pub noted : (w : ℕ) → AreNoted (entries_by w (reverse book.entries))
      (home_part stage (ShardOf book.shard.server.0 book.shard.number)
      (notes_by (controller ∷ carriers) w))
  pub copied : AllByRecursion (λ e. IsCopied stage carriers book.shard e.call)
      (reverse book.entries)

-- one of the books is that of the shard
abbrev pub has_book : List Book → ℕ → ℕ → Bool
has_book [] s h = false
has_book (b ∷ books) s h = (b.shard.server.0 == s && b.shard.number == h) || has_book books s h

-- no shard has two books
abbrev pub HaveOwnBooks : List Book → Type 0
HaveOwnBooks [] = Unit {0}
HaveOwnBooks (b ∷ books) =
    (has_book books b.shard.server.0 b.shard.number ≡ false) × HaveOwnBooks books

-- there is a book for what was done at a shard
abbrev pub IsBooked : Stage → List Book → What → Type 0
IsBooked stage books (Arrives k hop server verdict) =
    IfSome (segment_of stage k) (λ s. has_book books server.0 (shard stage s.flow) ≡ true)
IsBooked stage books (Closes server flow closed) = has_book books server.0 (shard stage flow) ≡ true
IsBooked stage books (Retires server h at result) = has_book books server.0 h ≡ true
IsBooked stage books _ = Unit {0}

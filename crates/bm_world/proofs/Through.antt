-- What the workers and the books give back after the last phase merges to a threaded run.
use Rattle.std.proofs.Common.{◌≡◌, ℕ, suc, ◌+◌, List, [], ◌∷◌, ◌++◌, length, map, Option, Some, refl}
use Rattle.std.proofs.Common.{sym, ap, ◌∙◌, subst, arith, append_assoc}
use Rattle.std.specs.Prelude.{reverse, slice_get}
use Rattle.std.specs.List.{AllByRecursion}
use Rattle.std.proofs.lemmas.List.{map-append, reverse-append}
use mathlib.Core.List.{IsPrefix}
use Rattle.bm_base.specs.declared.ids.MuxId.{MuxId}
use Rattle.bm_core.specs.declared.events.Event.{Event}
use Rattle.bm_core.specs.declared.events.Stage.{Stage}
use Rattle.bm_core.specs.Accounts.{Rules}
use Rattle.bm_core.specs.Stages.{IsSound}
use Rattle.bm_shard.specs.Books.{Book}
use Rattle.bm_shard.specs.declared.calls.ShardEntry.{ShardEntry}
use Rattle.bm_merge.specs.Merges.{AreLogs}
use Rattle.bm_merge.specs.Notes.{Note, NotedLog, events_of, plain}
use Rattle.bm_merge.specs.Workers.{notes_by, ArePromises}
use Rattle.bm_merge.proofs.Keeping.{joined_run}
use Rattle.bm_server.specs.Servings.{Serving}
use Rattle.bm_publish.specs.Posts.{Posted}
use Rattle.bm_worker.specs.WorkerNotes.{AreServersOf}
use Rattle.bm_worker.specs.Phases.{mux_log}
use Rattle.bm_worker.specs.Assigned.{RoutedBy}
use Rattle.bm_worker.specs.declared.worker.MuxWorker.{MuxWorker}
use Rattle.bm_lead.specs.declared.leader.Leader.{Leader}
use Rattle.bm_lead.proofs.Ending.{all_led, all_published}
use Rattle.bm_world.specs.Inside.RunStates.{rows_of, IsThrough, MergeToRun}
use Rattle.bm_world.specs.Inside.Returned.{IsBookOfAll}
use Rattle.bm_world.specs.Inside.Logged.{book_log, books_logs}
use Rattle.bm_world.specs.Inside.Routed.{AreRouted}
use Rattle.bm_world.specs.Inside.Served.{AreBooksThere}
use Rattle.bm_world.specs.Inside.Shards.{Kept, entries_of, notes_of}
use Rattle.bm_world.proofs.Assembled.{handed_back}
use Rattle.bm_world.proofs.Ending.{IsEnded, ended}
use Rattle.bm_world.proofs.Finishing.{all_books}
use Rattle.bm_world.proofs.Logs.{book_notes, logs_of, mux_logs, shard_logs}

-- THE LOGS, THE OLDEST EVENT FIRST

are_append : (x y : List NotedLog) (a b : List (List Event)) → AreLogs (plain x) a → AreLogs (plain y) b
    → AreLogs (plain (x ++ y)) (a ++ b)
are_append [] y [] b p q = q
are_append [] y (l ∷ a) b p q = absurd p
are_append (n ∷ x) y [] b p q = absurd p
are_append (n ∷ x) y (l ∷ a) b p q = (p.0, are_append x y a b p.1 q)

muxes_are : (stage : Stage) (m : ℕ) (carriers : List (List Note)) (workers : List MuxWorker)
    → length carriers ≡ length workers
    → ((i : ℕ) (w : MuxWorker) → slice_get workers i ≡ Some w
    → reverse w.mux.log ≡ mux_log stage (m + i) (notes_by carriers i))
    → AreLogs (plain (mux_logs stage m carriers)) (map (λ (w : MuxWorker). w.mux.log) workers)
muxes_are stage m [] [] count each = tt
muxes_are stage m [] (w ∷ workers) count each = absurd (omega arith)
muxes_are stage m (d ∷ carriers) [] count each = absurd (omega arith)
muxes_are stage m (d ∷ carriers) (w ∷ workers) count each = (
  ap (λ (k : ℕ). mux_log stage k d) (omega arith) ∙ sym (each 0 w refl),
  muxes_are stage (suc m) carriers workers (omega arith)
      (λ i y at. each (suc i) y at ∙ ap (λ (k : ℕ). mux_log stage k (notes_by carriers i)) (omega arith)),
)

abbrev entry_event : ShardEntry → Event
entry_event e = e.event

kept_events : (kept : List Kept) → events_of (notes_of kept) ≡ map entry_event (entries_of kept)
kept_events [] = refl
kept_events (k ∷ kept) = ap (λ (l : List Event). k.entry.event ∷ l) (kept_events kept)

back_events : (entries : List ShardEntry) → map entry_event (reverse entries) ≡ reverse (map entry_event entries)
back_events [] = refl
back_events (e ∷ entries) =
    ap (λ (l : List ShardEntry). map entry_event l) (reverse-append (e ∷ []) entries)
    ∙ map-append entry_event (reverse entries) (e ∷ [])
    ∙ ap (λ (l : List Event). l ++ e.event ∷ []) (back_events entries)
    ∙ sym (reverse-append (e.event ∷ []) (map entry_event entries))

shards_are : (stage : Stage) (controller : List Note) (carriers : List (List Note)) (books : List Book)
    (all : AllByRecursion (IsBookOfAll stage controller carriers) books)
    → AreLogs (plain (shard_logs stage controller carriers books all)) (map book_log books)
shards_are stage controller carriers [] all = tt
shards_are stage controller carriers (b ∷ books) all =
    let notes = book_notes stage controller carriers b all.0
    in (
      kept_events notes.kept ∙ ap (λ (l : List ShardEntry). map entry_event l) notes.entries_are
          ∙ back_events b.entries,
      shards_are stage controller carriers books all.1,
    )

pub books_logged : (all : List (List Book)) → books_logs all ≡ map book_log (all_books all)
books_logged [] = refl
books_logged (books ∷ all) =
    ap (λ (l : List (List Event)). map book_log books ++ l) (books_logged all)
    ∙ sym (map-append book_log books (all_books all))

pub books_append : (x y : List (List Book)) → books_logs (x ++ y) ≡ books_logs x ++ books_logs y
books_append [] y = refl
books_append (books ∷ x) y =
    ap (λ (l : List (List Event)). map book_log books ++ l) (books_append x y)
    ∙ sym (append_assoc (map book_log books) (books_logs x) (books_logs y))

-- THE RUN

is_ended : (F : Rules) (stage : Stage) (servers : List Serving) (routes : List (Option MuxId)) (posted : Posted)
    (leader : Leader) (workers : List MuxWorker) → IsSound stage → AreServersOf stage servers
    → ((s : ℕ) (server : Serving) → slice_get servers s ≡ Some server → server.seats ≡ suc (length workers))
    → AreRouted stage routes
    → ((m : ℕ) (w : MuxWorker) → slice_get workers m ≡ Some w → IsPrefix w.mux.seen.clocks posted.clocks)
    → (end : IsThrough F stage servers routes posted leader workers)
    → IsEnded (RoutedBy routes) F stage servers routes posted.board end.p end.phases workers leader.caller.seats
    end.controller end.carriers
is_ended F stage servers routes posted leader workers sound servers_are seats routed shown end =
    let standing = end.standing
    in let led = standing.led
    in record {
      sound = sound;
      servers_are = servers_are;
      seats = seats;
      routed = routed;
      muxes = standing.muxes;
      controls = all_led stage posted leader end.controller led end.done;
      control = record { seats = led.seats; steps = led.steps; judged = led.judged };
      changes = all_published stage servers posted leader end.controller standing.ready led end.done;
      replies = standing.replies;
      led_at = standing.placed;
      at_work = standing.at_work;
      looked = end.looked;
      shown = λ m w here. subst (λ (l : List ℕ). IsPrefix w.mux.seen.clocks l) led.posts (shown m w here);
    }

pub merge_to_run : (F : Rules) (stage : Stage) (servers : List Serving) (routes : List (Option MuxId)) (posted : Posted)
    (leader : Leader) (workers : List MuxWorker) (all : List (List Book)) (logs : List (List Event))
    → IsSound stage → AreServersOf stage servers
    → ((s : ℕ) (server : Serving) → slice_get servers s ≡ Some server → server.seats ≡ suc (length workers))
    → AreRouted stage routes
    → ((m : ℕ) (w : MuxWorker) → slice_get workers m ≡ Some w → IsPrefix w.mux.seen.clocks posted.clocks)
    → IsThrough F stage servers routes posted leader workers → length all ≡ length servers
    → ((s : ℕ) (books : List Book) → slice_get all s ≡ Some books
    → AreBooksThere servers (rows_of leader.caller.seats workers) s books)
    → logs ≡ (leader.log.items ∷ map (λ (w : MuxWorker). w.mux.log) workers) ++ books_logs all
    → MergeToRun (RoutedBy routes) F stage logs
merge_to_run F stage servers routes posted leader workers all logs sound servers_are seats routed shown end count books are h is
    events =
    let fin = is_ended F stage servers routes posted leader workers sound servers_are seats routed shown end
    in let back = ended (RoutedBy routes) F stage servers routes posted.board end.p end.phases workers leader.caller.seats
    end.controller end.carriers all fin count books
    in let promises = handed_back (RoutedBy routes) F stage end.controller end.carriers (all_books all) back
    in let named = logs_of stage end.controller end.carriers (all_books all) back.left.kept
    in let parts = are_append (mux_logs stage 0 end.carriers)
    (shard_logs stage end.controller end.carriers (all_books all) back.left.kept)
    (map (λ (w : MuxWorker). w.mux.log) workers) (map book_log (all_books all))
    (muxes_are stage 0 end.carriers workers end.standing.at_work.count
    (λ i w here. (end.standing.at_work.each i w here).going.logged ∙ ap (λ (k : ℕ). mux_log stage k (notes_by end.carriers i))
    (omega arith)))
    (shards_are stage end.controller end.carriers (all_books all) back.left.kept)
    in let whole : AreLogs (plain named) ((leader.log.items ∷ map (λ (w : MuxWorker). w.mux.log) workers)
    ++ map book_log (all_books all)) = (sym end.standing.led.log, parts)
    in let lists : (leader.log.items ∷ map (λ (w : MuxWorker). w.mux.log) workers) ++ map book_log (all_books all)
    ≡ logs =
    ap (λ (l : List (List Event)). (leader.log.items ∷ map (λ (w : MuxWorker). w.mux.log) workers) ++ l)
    (sym (books_logged all)) ∙ sym are
    in joined_run (RoutedBy routes) F h named logs end.controller end.carriers
    (subst (λ (s : Stage). ArePromises (RoutedBy routes) F s named end.controller end.carriers) (sym is) promises)
    (subst (λ (l : List (List Event)). AreLogs (plain named) l) lists whole) events

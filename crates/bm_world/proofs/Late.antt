-- No worker of a run gives up for a moment that is too large: a run has too few events to lead to such a moment.
use Rattle.std.proofs.Common.{◌≡◌, ℕ, suc, ◌+◌, ◌*◌, ◌≤◌, List, [], ◌∷◌}
use Rattle.std.proofs.Common.{◌++◌, length, Option, Some, refl, sym, ap, ◌∙◌, subst, arith}
use Rattle.std.specs.Prelude.{reverse, slice_get, IfSome, ◌^◌}
use Rattle.std.specs.List.{AllByRecursion}
use Rattle.std.proofs.lemmas.List.{length-reverse, reverse-append, reverse-reverse}
use Rattle.std.proofs.lemmas.Option.{slice_get_within}
use mathlib.Core.List.{IsPrefix}
use Rattle.bm_base.specs.declared.fate.Fate.{Fate}
use Rattle.bm_base.specs.declared.label.Hop.{Hop}
use Rattle.bm_base.specs.declared.ids.MuxId.{MuxId}
use Rattle.bm_core.specs.declared.events.Event.{Event}
use Rattle.bm_core.specs.declared.events.History.{History}
use Rattle.bm_core.specs.declared.events.Stage.{Stage}
use Rattle.bm_core.specs.Accounts.{Rules}
use Rattle.bm_core.specs.Runs.{event_at}
use Rattle.bm_core.specs.Stages.{IsSound}
use Rattle.bm_shard.specs.Books.{Book}
use Rattle.bm_merge.specs.Merges.{by_clock, highest, merged}
use Rattle.bm_merge.specs.Notes.{Note, all_notes, events_of, greatest, plain, total}
use Rattle.bm_merge.specs.Workers.{notes_of_all}
use Rattle.bm_merge.proofs.Noting.{each_event, events_by_clock, events_gathered}
use Rattle.bm_merge.proofs.Noting.{total_by_clock}
use Rattle.bm_merge.proofs.Promised.{notes_by_clock}
use Rattle.bm_merge.proofs.Sharing.{greatest_shared}
use Rattle.bm_merge.proofs.Underway.{underway_bounded}
use Rattle.bm_publish.specs.Posts.{Posted}
use Rattle.bm_server.specs.Servings.{Serving}
use Rattle.bm_worker.specs.WorkerNotes.{AreServersOf, clock_of}
use Rattle.bm_worker.specs.declared.worker.MuxWorker.{MuxWorker}
use Rattle.bm_lead.specs.declared.leader.Leader.{Leader}
use Rattle.bm_world.specs.Inside.RunStates.{WereShown, rows_of}
use Rattle.bm_world.specs.Inside.GivenUp.{HasGivenUp}
use Rattle.bm_world.specs.Inside.Left.{AreLeft}
use Rattle.bm_world.specs.Inside.Served.{AreBooksThere}
use Rattle.bm_world.proofs.Amounts.{total_ones}
use Rattle.bm_world.proofs.Ending.{IsOver, over_left}
use Rattle.bm_world.proofs.Finishing.{all_books}
use Rattle.bm_world.proofs.InLogs.{left_shared}
use Rattle.bm_world.proofs.Leaving.{left_underway}
use Rattle.bm_world.proofs.Logs.{logs_of}

-- THE BOUND

each_place : (P : Event → Type 0) (x : List Event) → ((i : ℕ) (e : Event) → slice_get x i ≡ Some e → P e)
    → AllByRecursion P x
each_place P [] each = tt
each_place P (e ∷ x) each = (each 0 e refl, each_place P x (λ i y at. each (suc i) y at))

each_last : (P : Event → Type 0) (x : List Event) (e : Event) → AllByRecursion P x → P e
    → AllByRecursion P (x ++ e ∷ [])
each_last P [] e all p = (p, tt)
each_last P (y ∷ x) e all p = (all.0, each_last P x e all.1 p)

each_reverse : (P : Event → Type 0) (x : List Event) → AllByRecursion P x → AllByRecursion P (reverse x)
each_reverse P [] all = tt
each_reverse P (e ∷ x) all =
    subst (λ (l : List Event). AllByRecursion P l) (sym (reverse-append (e ∷ []) x))
    (each_last P (reverse x) e (each_reverse P x all.1) all.0)

each_forth : (P : Event → Type 0) (x : List Event) → AllByRecursion P (reverse x) → AllByRecursion P x
each_forth P x all =
    subst (λ (l : List Event). AllByRecursion P l) (reverse-reverse x) (each_reverse P (reverse x) all)

clock_at : (h : History) (place : ℕ) (e : Event) (n : ℕ) → slice_get h.events place ≡ Some e → length h.events ≡ n
    → IfSome (event_at h place) (λ y. y.clock.0 ≤ highest (place + 1)) → e.clock.0 ≤ highest n
clock_at h place e n is long most =
    let here : e.clock.0 ≤ highest (place + 1) =
    subst (λ (o : Option Event). IfSome o (λ y. y.clock.0 ≤ highest (place + 1))) is most
    in let low = slice_get_within h.events place e is
    in omega arith

greatest_most : (top : ℕ) (x : List Note) → AllByRecursion (λ n. n.event.clock.0 ≤ top) x → greatest clock_of x ≤ top
greatest_most top [] all = omega arith
greatest_most top (n ∷ x) all = let old = greatest_most top x all.1 in let here = all.0 in omega arith

events_length : (x : List Note) → length (events_of x) ≡ length x
events_length [] = refl
events_length (n ∷ x) = ap suc (events_length x)

-- no clock of what is left is large
left_bounded : (F : Rules) (stage : Stage) (controller : List Note) (carriers : List (List Note)) (books : List Book)
    → AreLeft F stage controller carriers books
    → ((packet : ℕ) (hop : Hop) (f : Fate) → F packet hop f → f.delay ≤ 60000000000)
    → greatest clock_of (controller ++ notes_of_all carriers) ≤ highest (length (controller ++ notes_of_all carriers))
left_bounded F stage controller carriers books left short =
    let logs = logs_of stage controller carriers books left.kept
    in let all = controller ++ notes_of_all carriers
    in let ns = notes_by_clock (all_notes logs)
    in let same : (f : Note → ℕ) → total f ns ≡ total f all =
    λ f. total_by_clock f (all_notes logs) ∙ left_shared F stage controller carriers books left f
    in let whole : merged (plain logs) ≡ events_of ns =
    ap by_clock (sym (events_gathered logs)) ∙ sym (events_by_clock (all_notes logs))
    in let h : History = record { stage = stage; events = reverse (merged (plain logs)) }
    in let long : length h.events ≡ length all =
    length-reverse (merged (plain logs)) ∙ ap (λ (l : List Event). length l) whole ∙ events_length ns
    ∙ sym (total_ones ns) ∙ same (λ n. 1) ∙ total_ones all
    in let P : Event → Type 0 = λ e. e.clock.0 ≤ highest (length all)
    in let each : AllByRecursion P (reverse (merged (plain logs))) =
    each_place P (reverse (merged (plain logs))) (λ i e at.
    clock_at h i e (length all) at long
    (underway_bounded F h logs controller carriers i (left_underway F stage controller carriers books left) short refl))
    in let notes : AllByRecursion (λ n. P n.event) ns =
    each_event P ns (subst (λ (l : List Event). AllByRecursion P l) whole (each_forth P (merged (plain logs)) each))
    in let top = greatest_most (highest (length all)) ns notes
    in let shared = greatest_shared clock_of ns all same
    in omega arith

-- TOGETHER

-- it can't be that a worker has given up for such a moment
pub none_late : (F : Rules) (stage : Stage) (servers : List Serving) (routes : List (Option MuxId)) (posted : Posted)
    (leader : Leader) (workers : List MuxWorker) (all : List (List Book)) → IsSound stage → AreServersOf stage servers
    → ((s : ℕ) (server : Serving) → slice_get servers s ≡ Some server → server.seats ≡ suc (length workers))
    → ((packet : ℕ) (hop : Hop) (f : Fate) → F packet hop f → f.delay ≤ 60 * 10 ^ 9)
    → HasGivenUp F stage servers routes posted leader workers → WereShown posted workers → length all ≡ length servers
    → ((s : ℕ) (books : List Book) → slice_get all s ≡ Some books
    → AreBooksThere servers (rows_of leader.caller.seats workers) s books) → ⊥
none_late F stage servers routes posted leader workers all sound servers_are seats short given shown count books =
    let over : IsOver F stage servers routes posted.board given.phases given.until workers leader.caller.seats
    given.controller given.carriers all = record {
      sound = sound;
      servers_are = servers_are;
      seats = seats;
      commands = given.led.each;
      first = given.led.seats;
      replies = given.replies;
      led_at = given.placed;
      count = given.count;
      each = given.each;
      synced = given.synced;
      shown = λ m w here. subst (λ (l : List ℕ). IsPrefix w.mux.seen.clocks l) given.led.posts (shown m w here);
      all_books_count = count;
      books = books;
    }
    in let most = left_bounded F stage given.controller given.carriers (all_books all)
    (over_left F stage servers routes posted.board given.phases given.until workers leader.caller.seats given.controller
    given.carriers all over)
    (λ packet hop f at. let s = short packet hop f at in omega arith)
    in let few = given.few
    in let large = given.large
    in absurd (omega arith)

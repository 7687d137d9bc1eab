-- A run before its first phase.
use Rattle.std.proofs.Common.{◌≡◌, ℕ, ◌+◌, Bool, true, false, List, [], length}
use Rattle.std.proofs.Common.{Option, Some, refl, sym, ap, ◌∙◌, subst, arith}
use Rattle.std.specs.Prelude.{reverse, slice_get}
use Rattle.std.proofs.Common.{All}
use Rattle.std.proofs.lemmas.Option.{slice_get_within}
use Rattle.bm_rows.proofs.Places.{there}
use Rattle.std.proofs.Common.{leb, ltb}
use Rattle.std.proofs.lemmas.Bool.{lt-leb, ltb-true}
use Rattle.std.specs.List.{AllByRecursion}
use Rattle.bm_base.specs.declared.ids.MuxId.{MuxId}
use Rattle.bm_core.specs.declared.events.Event.{Event}
use Rattle.bm_core.specs.declared.events.Stage.{Stage}
use Rattle.bm_core.specs.Accounts.{Routes, Rules}
use Rattle.bm_core.specs.Stages.{IsSound}
use Rattle.bm_merge.specs.Notes.{Note, total}
use Rattle.bm_merge.proofs.Phasing.{nothing_phased}
use Rattle.bm_merge.proofs.Reaching.{one_if}
use Rattle.bm_mux.specs.Muxes.{MuxState}
use Rattle.bm_publish.specs.Posts.{Posted}
use Rattle.bm_server.specs.Seats.{Answered, Seated, row}
use Rattle.bm_server.specs.Servings.{Serving, shard_at}
use Rattle.bm_worker.specs.WorkerNotes.{timed_events, HasSeats}
use Rattle.bm_worker.specs.Phases.{AreCopies, IsCopyCall}
use Rattle.bm_worker.specs.Callers.{CallerState}
use Rattle.bm_worker.specs.SeatCalls.{calls_there}
use Rattle.bm_worker.specs.Assigned.{RoutedBy, is_assigned}
use Rattle.bm_worker.specs.declared.worker.MuxWorker.{MuxWorker}
use Rattle.bm_lead.specs.declared.leader.Leader.{Leader}
use Rattle.bm_lead.specs.Leaders.{Begins, IsReady}
use Rattle.bm_lead.specs.Leads.{IsLed}
use Rattle.bm_world.specs.Inside.RunStates.{IsBetween, IsNewWorker}
use Rattle.bm_world.specs.Inside.Returned.{IsCarriage}
use Rattle.bm_world.specs.Inside.Running.{HaveReplies, IsAtWork, AreApart, IsAtPhase}
use Rattle.bm_world.specs.Inside.Served.{IsNewRow}
use Rattle.bm_world.proofs.Meeting.{idle, idle_all, idle_count, idle_notes, nothing_apart}
use Rattle.bm_world.proofs.Scripting.{phase_first}
use Rattle.bm_world.proofs.MakingWorkers.{all_at}

have_none : (stage : Stage) (servers : List Serving) (seats : List (List Seated))
    → ((s h : ℕ) → calls_there seats s h ≡ []) → HaveReplies stage servers seats []
have_none stage servers seats none s h server at = ap (λ (l : List Answered). timed_events (shard_at server h) l) (none s h)

no_copies : (stage : Stage) (m : MuxId) (servers : List Serving) (past : List Event) (seats : List (List Seated))
    → ((s h : ℕ) → calls_there seats s h ≡ []) → AreCopies stage m servers past seats
no_copies stage m servers past seats none s h server at =
    subst (λ (l : List Answered). AllByRecursion (λ a. IsCopyCall stage past m server h a.0) l) (sym (none s h)) tt

none_assigned : (routes : List (Option MuxId)) (m k : ℕ) → is_assigned routes m 0 0 k ≡ false
none_assigned routes m k = go (ltb 0 k) refl where
  go : (b : Bool) → ltb 0 k ≡ b → is_assigned routes m 0 0 k ≡ false
  go false is = rw is refl
  go true is = let low = ltb-true _ _ is in let no : leb k 0 ≡ false = lt-leb _ _ low in rw (is, no) refl

no_carriage : (R : Routes) (F : Rules) (stage : Stage) (posts : List ℕ) (m : ℕ) → IsCarriage R F stage [] posts m []
no_carriage R F stage posts m = record {
  carrier = record {
    kinds = tt;
    has_sending = tt;
    answers = tt;
    lost = λ k hop clock. refl;
    sent = λ k hop clock. omega arith;
    arrived = λ k hop. refl;
  };
  seats = tt;
  positive = tt;
  ordered = tt;
  gives = tt;
  phases = tt;
}

new_at_work : (R : Routes) (F : Rules) (stage : Stage) (servers : List Serving) (routes : List (Option MuxId))
    (posted : Posted) (seats : List (List Seated)) (m : ℕ) (w : MuxWorker) → posted.plan ≡ stage.script.plan
    → IsNewRow servers (m + 1) seats → IsNewWorker posted seats m w
    → IsAtWork R F stage servers routes [] posted.board 0 0 m w []
new_at_work R F stage servers routes posted seats m w plan new is =
    let log : w.mux.log ≡ [] = ap (λ (x : MuxState). x.log) is.mux
    in let seen : w.mux.seen ≡ posted = ap (λ (x : MuxState). x.seen) is.mux
    in let own : w.caller.seats ≡ seats = ap (λ (x : CallerState). x.seats) is.caller
    in let number : w.caller.number ≡ m + 1 = ap (λ (x : CallerState). x.number) is.caller
    in let none : (s h : ℕ) → calls_there w.caller.seats s h ≡ [] =
    λ s h. ap (λ (x : List (List Seated)). calls_there x s h) own ∙ new.replies s h
    in record {
      going = record {
        left = record {
          kinds = tt;
          seats = tt;
          has_sending = tt;
          drawn = tt;
          losses = tt;
          steerable = tt;
          gives = tt;
        };
        id = ap (λ (x : MuxState). x.id.0) is.mux;
        logged = ap (λ (x : List Event). reverse x) log;
        replies = have_none stage servers w.caller.seats none;
        copies = no_copies stage w.mux.id servers (reverse w.mux.log) w.caller.seats none;
        placed = tt;
        number = number;
        has_seats = subst (λ (p : CallerState). HasSeats servers p) (sym is.caller) new.«is»;
        board_is = ap (λ (x : Posted). x.board) seen;
        steered = λ k. omega arith;
        few = omega arith;
      };
      carriage = no_carriage R F stage w.mux.seen.clocks m;
      latest = ap (λ (x : CallerState). x.latest) is.caller;
      steered = λ k. sym (ap (λ (b : Bool). one_if b) (none_assigned routes m k));
      within = tt;
      plan = ap (λ (x : Posted). x.plan) seen ∙ plan;
      tries = let t : w.caller.tries ≡ 0 = ap (λ (x : CallerState). x.tries) is.caller in omega arith;
      steps = let t = is.steps in omega arith;
      room = let t : length w.mux.log ≡ 0 = ap (λ (x : List Event). length x) log in omega arith;
      stop = is.stop;
    }

-- between no phase and the first one
pub starts : (F : Rules) (stage : Stage) (servers : List Serving) (routes : List (Option MuxId)) (posted : Posted)
    (leader : Leader) (workers : List MuxWorker) → IsSound stage
    → length workers ≡ stage.script.setting.muxes → Begins stage servers posted leader.caller
    → ((s h : ℕ) → calls_there leader.caller.seats s h ≡ [])
    → IsReady stage servers posted leader → IsLed stage posted leader [] → leader.next ≡ 0 → leader.published.0 ≡ 0
    → ((m : ℕ) (w : MuxWorker) → slice_get workers m ≡ Some w
    → (seats : List (List Seated)) × IsNewRow servers (m + 1) seats × IsNewWorker posted seats m w)
    → IsBetween F stage servers routes posted leader workers 0
starts F stage servers routes posted leader workers sound muxes begins none ready led next published each =
    let n = length workers
    in let R : Routes = RoutedBy routes
    in let latest = begins.latest
    in record {
      p = 0;
      controller = [];
      carriers = idle n;
      standing = record {
        muxes = muxes;
        ready = ready;
        led = led;
        replies = have_none stage servers leader.caller.seats none;
        placed = tt;
        at_work = record {
          count = idle_count n;
          each = λ m w here.
              let one = each m w here
              in subst (λ (d : List Note). IsAtWork R F stage servers routes [] posted.board 0 0 m w d)
              (sym (idle_notes n m))
              (new_at_work R F stage servers routes posted one.0 m w begins.plan one.1 one.2);
          all = [];
          same = λ f. ap (λ (d : List Note). total f d) (sym (idle_all n));
          phased = nothing_phased stage;
        };
      };
      apart = subst (λ (a : ℕ). AreApart stage a leader.published.0 [] (idle n)) (sym latest)
          (subst (λ (f : ℕ). AreApart stage 0 f [] (idle n)) (sym published) (nothing_apart stage n));
      at_phase = subst (λ (i : ℕ). IsAtPhase stage i 0 0) (sym next) (phase_first stage);
      within = omega arith;
      early = omega arith;
    }

-- so a run starts with what was made for it
pub starts_with : (F : Rules) (stage : Stage) (servers : List Serving) (routes : List (Option MuxId)) (posted : Posted)
    (caller : CallerState) (leader : Leader) (first : List (List Seated)) (others : List (List (List Seated)))
    (looks : List Posted) (workers : List MuxWorker) → IsSound stage → posted.plan ≡ stage.script.plan
    → posted.clocks ≡ [] → caller ≡ record { number = 0; seats = first; tries = 0; latest = 0 }
    → leader.caller ≡ caller → leader.next ≡ 0 → leader.published.0 ≡ 0
    → (Begins stage servers posted caller → IsReady stage servers posted leader)
    → (Begins stage servers posted caller → IsLed stage posted leader []) → IsNewRow servers 0 first
    → ((m : ℕ) (seats : List (List Seated)) → slice_get others m ≡ Some seats → IsNewRow servers (m + 1) seats)
    → All (λ (look : Posted). look ≡ posted) looks → length looks ≡ stage.script.setting.muxes
    → length others ≡ length looks → length workers ≡ length others
    → ((m : ℕ) (look : Posted) (seats : List (List Seated)) (w : MuxWorker) → slice_get looks m ≡ Some look
    → slice_get others m ≡ Some seats → slice_get workers m ≡ Some w → IsNewWorker look seats m w)
    → IsBetween F stage servers routes posted leader workers 0
starts_with F stage servers routes posted caller leader first others looks workers sound plan clocks is same next
    published ready led row rows all muxes long many each =
    let begins : Begins stage servers posted caller = record {
      plan = plan;
      clocks = clocks;
      number = ap (λ (p : CallerState). p.number) is;
      has_seats = subst (λ (p : CallerState). HasSeats servers p) (sym is) row.«is»;
      tries = ap (λ (p : CallerState). p.tries) is;
      latest = ap (λ (p : CallerState). p.latest) is;
    }
    in starts F stage servers routes posted leader workers sound (many ∙ long ∙ muxes)
    (subst (λ (p : CallerState). Begins stage servers posted p) (sym same) begins)
    (λ s h. ap (λ (p : CallerState). calls_there p.seats s h) (same ∙ is) ∙ row.replies s h)
    (ready begins) (led begins) next published
    (λ m w here.
    let low = slice_get_within workers m w here
    in let look = there looks m (omega arith)
    in let seats = there others m (omega arith)
    in let one = each m look.0 seats.0 w look.1 seats.1 here
    in let as_posted : look.0 ≡ posted = all_at (λ (x : Posted). x ≡ posted) looks m look.0 look.1 all
    in (
      seats.0,
      rows m seats.0 seats.1,
      subst (λ (x : Posted). IsNewWorker x seats.0 m w) as_posted one,
    ))

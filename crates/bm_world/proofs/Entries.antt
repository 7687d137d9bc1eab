-- The logs of what the workers gave back agree.
use Rattle.std.proofs.Common.{◌≡◌, ℕ, zero, suc, ◌+◌, ◌<◌, ◌≤◌, Bool, true, false, ◌&&◌, List, [], ◌∷◌}
use Rattle.std.proofs.Common.{◌++◌, length}
use Rattle.std.proofs.Common.{Option, Some, None, refl, sym, ap, ◌∙◌, arith, eqb, ltb, inl, inr}
use Rattle.std.proofs.Common.{length-append}
use Rattle.std.specs.Prelude.{IfSome, is_some, ◌⊎◌, option_map, unwrap_or, slice_get}
use Rattle.std.specs.List.{AllByRecursion}
use Rattle.std.proofs.lemmas.Bool.{cases_lt, eq-eqb, eqb-true, and_parts, and_from, lt-ltb}
use Rattle.std.proofs.lemmas.Bool.{or_right, or_left}
use Rattle.std.proofs.lemmas.Option.{same_Some, slice_get_within}
use Rattle.bm_table.proofs.Gets.{slice_get-append_left, slice_get-push}
use Rattle.bm_core.specs.declared.events.Event.{Event}
use Rattle.bm_core.specs.declared.events.Stage.{Stage}
use Rattle.bm_core.specs.declared.events.What.{What}
use Rattle.bm_core.specs.declared.events.What.TheVariants.{Publish, Switch, Steer, Lose, Sync}
use Rattle.bm_core.specs.declared.events.What.TheVariants.{Arrive as Arrives, Close as Closes, Retire as Retires}
use Rattle.bm_core.specs.Past.{segment_of, shard, newest}
use Rattle.bm_core.specs.Accounts.{Routes, Rules, steers_packet}
use Rattle.bm_core.specs.Runs.{is_by, own_clock, AtEach}
use Rattle.bm_core.specs.Runs.Actor.{Controller, MuxOf, ShardOf}
use Rattle.bm_core.specs.Threads.{is_publish_of}
use Rattle.bm_shard.specs.Books.{Book}
use Rattle.bm_merge.specs.Merges.{Log, gathered, some_event, named, stands_in, IsEntry, IsSentBefore}
use Rattle.bm_merge.specs.Merges.{IsNextVersion}
use Rattle.bm_merge.specs.Notes.{Note, NotedLog, events_of, plain, many}
use Rattle.bm_merge.specs.Workers.{home_of, is_home, home_part, notes_by, carries}
use Rattle.bm_merge.proofs.Merging.{some_weaker}
use Rattle.bm_merge.proofs.Paced.{some_append}
use Rattle.bm_base.specs.declared.flow.Segment.{Segment}
use Rattle.bm_merge.proofs.Standing.{entry_of}
use Rattle.bm_mux.specs.Muxes.{post_clock}
use Rattle.bm_worker.specs.Phases.{mux_log}
use Rattle.bm_world.specs.Inside.HandedBack.{AreHandedBack}
use Rattle.bm_world.specs.Inside.Returned.{posted_clocks, control_log, IsMuxGivenBy, IsControlStep, IsControl}
use Rattle.bm_world.proofs.Homes.{home_is, home_each, carried_not_control}
use Rattle.bm_world.proofs.Logs.{mux_logs, shard_logs, logs_of}
use Rattle.bm_world.proofs.InLogs.{all_among, IsAmong, steered_known, all_sent}

-- FROM NOTES TO EVENTS

pub at_events : (P : List Event → Event → Type 0) (x : List Note) → AtEach (λ rest n. P (events_of rest) n.event) x
    → AtEach P (events_of x)
at_events P [] each = tt
at_events P (n ∷ x) each = (each.0, at_events P x each.1)

pub at_notes : (P : List Event → Event → Type 0) (x : List Note) → AtEach P (events_of x)
    → AtEach (λ rest n. P (events_of rest) n.event) x
at_notes P [] each = tt
at_notes P (n ∷ x) each = (each.0, at_notes P x each.1)

pub at_so : (P : Note → Type 0) (Q S : List Note → Note → Type 0) (x : List Note)
    → ((rest : List Note) (n : Note) → P n → Q rest n → S rest n) → AllByRecursion P x → AtEach Q x → AtEach S x
at_so P Q S [] f ps qs = tt
at_so P Q S (n ∷ x) f ps qs = (f x n ps.0 qs.0, at_so P Q S x f ps.1 qs.1)

pub both : (P Q : Note → Type 0) (x : List Note) → AllByRecursion P x → AllByRecursion Q x
    → AllByRecursion (λ n. P n × Q n) x
both P Q [] ps qs = tt
both P Q (n ∷ x) ps qs = ((ps.0, qs.0), both P Q x ps.1 qs.1)

-- STANDING

-- what belongs in a mux's log stands in it
home_stands : (stage : Stage) (seat : ℕ) (what : What) (m : ℕ) → is_by (home_of stage seat what) (MuxOf m) ≡ true
    → stands_in stage what (MuxOf m) ≡ true
home_stands stage seat (Publish v) m is = is
home_stands stage seat (Switch x v) m is = is
home_stands stage seat (Steer k x) m is = is
home_stands stage seat (Lose k hop) m is = refl
home_stands stage seat (Arrives k hop server verdict) m is = is
home_stands stage seat (Closes server flow closed) m is = is
home_stands stage seat (Retires server h at result) m is = is
home_stands stage seat Sync m is = is

lower : (o : Option ℕ) (clock : ℕ) → unwrap_or o 0 < clock → IfSome o (λ c. c < clock)
lower None clock h = tt
lower (Some c) clock h = h

-- THE CONTROLLER'S LOG

control_entry : (stage : Stage) (logs : List Log) (rest : List Event) (n : Note) (what : What) → n.event.what ≡ what
    → is_by (home_of stage n.seat what) Controller ≡ true → IsControlStep stage rest n.event
    → IsEntry stage logs Controller rest n.event
control_entry stage logs rest n (Publish v) is home step =
    entry_of stage logs Controller rest n.event (rw is refl) (rw is step.own) (rw is (rw is at step.version))
control_entry stage logs rest n Sync is home step =
    entry_of stage logs Controller rest n.event (rw is refl) (rw is step.own) (rw is tt)
control_entry stage logs rest n (Switch m v) is home step = absurd (cc)
control_entry stage logs rest n (Steer k m) is home step = absurd (cc)
control_entry stage logs rest n (Lose k hop) is home step = absurd (cc)
control_entry stage logs rest n (Closes server flow closed) is home step = absurd (cc)
control_entry stage logs rest n (Retires server h at result) is home step = absurd (cc)
control_entry stage logs rest n (Arrives k hop server verdict) is home step =
    let not = carried_not_control stage 0 n.seat (Arrives k hop server verdict) refl
    in absurd (let bad : true ≡ false = sym home ∙ not in cc)

pub control_entries : (stage : Stage) (logs : List Log) (controller : List Note) → IsControl stage controller
    → AtEach (IsEntry stage logs Controller) (control_log stage controller)
control_entries stage logs controller c =
    at_events (IsEntry stage logs Controller) (home_part stage Controller controller)
    (at_so (λ n. is_home stage Controller n ≡ true) (λ rest n. IsControlStep stage (events_of rest) n.event)
    (λ rest n. IsEntry stage logs Controller (events_of rest) n.event) (home_part stage Controller controller)
    (λ rest n home step. control_entry stage logs (events_of rest) n n.event.what refl home step)
    (home_is stage Controller controller)
    (at_notes (IsControlStep stage) (home_part stage Controller controller) c.steps))

-- POSTS

-- as many posts as versions
posts_one : (rest : List Event) (stage : Stage) (e : Event) (what : What) → e.what ≡ what
    → IsNextVersion stage rest what → length (posted_clocks rest) ≡ newest rest
    → length (posted_clocks (e ∷ rest)) ≡ newest (e ∷ rest)
posts_one rest stage e (Publish v) is next old =
    let more : length (posted_clocks rest ++ e.clock.0 ∷ []) ≡ length (posted_clocks rest) + 1 =
    length-append (posted_clocks rest) (e.clock.0 ∷ [])
    in rw is (omega (arith, next.0))
posts_one rest stage e (Switch m v) is next old = rw is old
posts_one rest stage e (Steer k m) is next old = rw is old
posts_one rest stage e (Lose k hop) is next old = rw is old
posts_one rest stage e (Arrives k hop server verdict) is next old = rw is old
posts_one rest stage e (Closes server flow closed) is next old = rw is old
posts_one rest stage e (Retires server h at result) is next old = rw is old
posts_one rest stage e Sync is next old = rw is old

pub posts_count : (stage : Stage) (past : List Event) → AtEach (IsControlStep stage) past
    → length (posted_clocks past) ≡ newest past
posts_count stage [] steps = refl
posts_count stage (e ∷ past) steps =
    posts_one past stage e e.what refl steps.0.version (posts_count stage past steps.1)

-- the post of a version is its Publish
abbrev IsPostedAt : List Event → ℕ → ℕ → Type 0
IsPostedAt past v post = some_event (λ e. is_publish_of e.what (suc v) && eqb e.clock.0 post) past ≡ true

posted_same : (rest : List Event) (e : Event) (v post : ℕ) → IsPostedAt rest v post → IsPostedAt (e ∷ rest) v post
posted_same rest e v post old = or_right _ _ old

posted_one : (rest : List Event) (stage : Stage) (e : Event) (what : What) (v post : ℕ) → e.what ≡ what
    → IsNextVersion stage rest what → length (posted_clocks rest) ≡ newest rest
    → (slice_get (posted_clocks rest) v ≡ Some post → IsPostedAt rest v post)
    → slice_get (posted_clocks (e ∷ rest)) v ≡ Some post → IsPostedAt (e ∷ rest) v post
posted_one rest stage e (Publish w) v post is next count old found =
    let here : slice_get (posted_clocks rest ++ e.clock.0 ∷ []) v ≡ Some post = rw is at found
    in elim (cases_lt v (length (posted_clocks rest))) [
      | inl low ↦ posted_same rest e v post
          (old (sym (slice_get-append_left (posted_clocks rest) (e.clock.0 ∷ []) v low) ∙ here))
      | inr high ↦
          let more : length (posted_clocks rest ++ e.clock.0 ∷ []) ≡ length (posted_clocks rest) + 1 =
          length-append (posted_clocks rest) (e.clock.0 ∷ [])
          in let within = slice_get_within (posted_clocks rest ++ e.clock.0 ∷ []) v post here
          in let last : v ≡ length (posted_clocks rest) = omega arith
          in let item : Some e.clock.0 ≡ Some post =
          sym (slice_get-push (posted_clocks rest) e.clock.0)
          ∙ (ap (λ (i : ℕ). slice_get (posted_clocks rest ++ e.clock.0 ∷ []) i) (sym last) ∙ here)
          in let clock : e.clock.0 ≡ post = same_Some _ _ item
          in let version : w.0 ≡ suc v = omega (arith, next.0)
          in let named : is_publish_of e.what (suc v) ≡ true = rw is (eq-eqb _ _ version)
          in or_left _ _ (and_from _ _ named (eq-eqb _ _ clock))
    ]
posted_one rest stage e (Switch m w) v post is next count old found =
    posted_same rest e v post (old (rw is at found))
posted_one rest stage e (Steer k m) v post is next count old found =
    posted_same rest e v post (old (rw is at found))
posted_one rest stage e (Lose k hop) v post is next count old found =
    posted_same rest e v post (old (rw is at found))
posted_one rest stage e (Arrives k hop server verdict) v post is next count old found =
    posted_same rest e v post (old (rw is at found))
posted_one rest stage e (Closes server flow closed) v post is next count old found =
    posted_same rest e v post (old (rw is at found))
posted_one rest stage e (Retires server h moment result) v post is next count old found =
    posted_same rest e v post (old (rw is at found))
posted_one rest stage e Sync v post is next count old found =
    posted_same rest e v post (old (rw is at found))

pub posted_at : (stage : Stage) (past : List Event) (v post : ℕ) → AtEach (IsControlStep stage) past
    → slice_get (posted_clocks past) v ≡ Some post → IsPostedAt past v post
posted_at stage [] v post steps found = absurd (cc)
posted_at stage (e ∷ past) v post steps found =
    posted_one past stage e e.what v post refl steps.0.version (posts_count stage past steps.1)
    (posted_at stage past v post steps.1) found

-- THE MUXES' LOGS

published : (stage : Stage) (logs : List Log) (control : List Event) (v clock post : ℕ)
    → AtEach (IsControlStep stage) control → named logs Controller ≡ control
    → ((g : Event → Bool) → some_event g control ≡ true → some_event g (gathered logs) ≡ true)
    → post_clock (posted_clocks control) v ≡ Some post → post < clock
    → (v ≡ 0) ⊎ (some_event (λ e. is_publish_of e.what v && ltb e.clock.0 clock) (gathered logs) ≡ true)
published stage logs control zero clock post steps is among found low = inl refl
published stage logs control (suc v) clock post steps is among found low =
    inr (among (λ e. is_publish_of e.what (suc v) && ltb e.clock.0 clock)
    (some_weaker (λ e. is_publish_of e.what (suc v) && eqb e.clock.0 post)
    (λ e. is_publish_of e.what (suc v) && ltb e.clock.0 clock) control
    (λ e h. let parts = and_parts (is_publish_of e.what (suc v)) (eqb e.clock.0 post) h
    in let at : e.clock.0 ≡ post = eqb-true _ _ parts.1
    in and_from _ _ parts.0 (lt-ltb _ _ (omega arith)))
    (posted_at stage control v post steps found)))

-- what a note of a mux's worker has
pub record IsOfMuxWork (stage : Stage) (logs : List Log) (m : ℕ) (notes : List Note) (n : Note) : Type 0 where
  pub home : is_home stage (MuxOf m) n ≡ true
  pub kind : carries m n.event.what ≡ true
  pub among : IsAmong notes n
  pub sent : IsSentBefore logs n.event.clock.0 n.event.what

mux_entry : (stage : Stage) (logs : List Log) (control : List Event) (m : ℕ) (notes : List Note) (rest : List Event)
    (n : Note) (what : What) → n.event.what ≡ what → m < stage.script.setting.muxes
    → AtEach (IsControlStep stage) control → named logs Controller ≡ control
    → ((g : Event → Bool) → some_event g control ≡ true → some_event g (gathered logs) ≡ true)
    → ((k : ℕ) → 1 ≤ many (λ y. steers_packet y.event.what k) notes → is_some (segment_of stage k) ≡ true)
    → IsOfMuxWork stage logs m notes n → IsMuxGivenBy stage control (posted_clocks control) rest n.event
    → IsEntry stage logs (MuxOf m) rest n.event
mux_entry stage logs control m notes rest n (Switch x v) is within steps at among known work gives =
    let given = rw is at gives
    in let mine : x.0 ≡ m = eqb-true _ _ (rw is at work.kind)
    in let stands : stands_in stage n.event.what (MuxOf m) ≡ true =
    home_stands stage n.seat n.event.what m work.home
    in let post = given.1.0
    in let clock = given.1.2
    in entry_of stage logs (MuxOf m) rest n.event stands
    (rw is (lower (own_clock stage rest (MuxOf x.0)) n.event.clock.0 (omega arith)))
    (rw is (omega arith, published stage logs control v.0 n.event.clock.0 post steps at among given.1.1 (omega arith)))
mux_entry stage logs control m notes rest n (Steer k x) is within steps at among known work gives =
    let given = rw is at gives
    in let mine : x.0 ≡ m = eqb-true _ _ (rw is at work.kind)
    in let stands : stands_in stage n.event.what (MuxOf m) ≡ true =
    home_stands stage n.seat n.event.what m work.home
    in let clock = given.2
    in let steers : steers_packet n.event.what k ≡ true = rw is (eq-eqb _ _ refl)
    in let here : is_some (segment_of stage k) ≡ true = known k (work.among (λ y. steers_packet y.event.what k) steers)
    in entry_of stage logs (MuxOf m) rest n.event stands
    (rw is (lower (own_clock stage rest (MuxOf x.0)) n.event.clock.0 (omega arith)))
    (rw is (omega arith, here))
mux_entry stage logs control m notes rest n (Lose k hop) is within steps at among known work gives =
    entry_of stage logs (MuxOf m) rest n.event (rw is refl) (rw is tt) (rw is (rw is at work.sent))
mux_entry stage logs control m notes rest n (Arrives k hop server verdict) is within steps at among known work gives =
    absurd (no (segment_of stage k) (rw is at work.home)) where
      no : (o : Option Segment)
          → is_by (option_map (λ (s : Segment). ShardOf server.0 (shard stage s.flow)) o) (MuxOf m) ≡ true → ⊥
      no None h = absurd (cc)
      no (Some s) h = absurd (cc)
mux_entry stage logs control m notes rest n (Publish v) is within steps at among known work gives =
    absurd (let kind = rw is at work.kind in cc)
mux_entry stage logs control m notes rest n (Closes server flow closed) is within steps at among known work gives =
    absurd (let kind = rw is at work.kind in cc)
mux_entry stage logs control m notes rest n (Retires server h moment result) is within steps at among known work gives =
    absurd (let kind = rw is at work.kind in cc)
mux_entry stage logs control m notes rest n Sync is within steps at among known work gives =
    absurd (let kind = rw is at work.kind in cc)

works : (stage : Stage) (logs : List Log) (m : ℕ) (notes x : List Note)
    → AllByRecursion (λ n. is_home stage (MuxOf m) n ≡ true) x → AllByRecursion (λ n. carries m n.event.what ≡ true) x
    → AllByRecursion (IsAmong notes) x → AllByRecursion (λ n. IsSentBefore logs n.event.clock.0 n.event.what) x
    → AllByRecursion (IsOfMuxWork stage logs m notes) x
works stage logs m notes [] a b c d = tt
works stage logs m notes (n ∷ x) a b c d = (
  record { home = a.0; kind = b.0; among = c.0; sent = d.0 },
  works stage logs m notes x a.1 b.1 c.1 d.1,
)

-- what is in the controller's log is in all logs
control_among : (stage : Stage) (logs : List NotedLog) (control : List Note) (g : Event → Bool)
    → some_event g (events_of control) ≡ true
    → some_event g (gathered (plain (record { actor = Controller; notes = control } ∷ logs))) ≡ true
control_among stage logs control g some = some_append g (gathered (plain logs)) (events_of control) some

pub mux_entries : (R : Routes) (F : Rules) (stage : Stage) (controller : List Note) (carriers : List (List Note))
    (books : List Book) (back : AreHandedBack R F stage controller carriers books) (m : ℕ) → m < length carriers
    → AtEach (IsEntry stage (plain (logs_of stage controller carriers books back.left.kept)) (MuxOf m))
    (mux_log stage m (notes_by carriers m))
mux_entries R F stage controller carriers books back m low =
    let logs = plain (logs_of stage controller carriers books back.left.kept)
    in let notes = notes_by carriers m
    in let c = back.carried m low
    in let control = control_log stage controller
    in let muxes = back.muxes
    in let home = home_part stage (MuxOf m) notes
    in at_events (IsEntry stage logs (MuxOf m)) home
    (at_so (IsOfMuxWork stage logs m notes)
    (λ rest n. IsMuxGivenBy stage control (posted_clocks control) (events_of rest) n.event)
    (λ rest n. IsEntry stage logs (MuxOf m) (events_of rest) n.event) home
    (λ rest n work gives. mux_entry stage logs control m notes (events_of rest) n n.event.what refl (omega arith)
    back.control.steps refl
    (λ g some. control_among stage (mux_logs stage 0 carriers ++ shard_logs stage controller carriers books back.left.kept)
    (home_part stage Controller controller) g some)
    (λ k one. steered_known stage notes k (back.left.each m low).steerable one) work gives)
    (works stage logs m notes home (home_is stage (MuxOf m) notes)
    (home_each (λ n. carries m n.event.what ≡ true) stage (MuxOf m) notes c.carrier.kinds)
    (home_each (IsAmong notes) stage (MuxOf m) notes (all_among notes))
    (home_each (λ n. IsSentBefore logs n.event.clock.0 n.event.what) stage (MuxOf m) notes
    (all_sent R F stage controller carriers books back m low)))
    (at_notes (IsMuxGivenBy stage control (posted_clocks control)) home c.gives))

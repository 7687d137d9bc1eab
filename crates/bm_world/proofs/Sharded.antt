-- The entries of a shard's book stand in its log as the logs of a run do.
use Rattle.std.proofs.Common.{◌≡◌, ℕ, ◌<◌, true, List, [], ◌∷◌, Option, Some, None, is_some, refl, sym, ap, subst, ◌∙◌}
use Rattle.std.proofs.Common.{arith, eqb}
use Rattle.std.specs.Prelude.{IfSome, option_map, unwrap_or}
use Rattle.std.specs.List.{AllByRecursion}
use Rattle.std.proofs.lemmas.Bool.{eq-eqb, and_from}
use Rattle.std.proofs.lemmas.Option.{same_Some}
use Rattle.bm_base.specs.declared.flow.Flow.{Flow}
use Rattle.bm_base.specs.declared.ids.Moment.{Moment}
use Rattle.bm_base.specs.declared.ids.ServerId.{ServerId}
use Rattle.bm_base.specs.declared.label.Hop.{Hop}
use Rattle.bm_base.specs.declared.label.Label.{Label}
use Rattle.bm_base.specs.declared.label.Tag.{Tag}
use Rattle.bm_base.specs.Labels.{arrives_at, tag_for}
use Rattle.bm_table.specs.Tables.{same_server}
use Rattle.bm_core.specs.declared.events.Event.{Event}
use Rattle.bm_core.specs.declared.events.Stage.{Stage}
use Rattle.bm_core.specs.declared.events.Local.{Local}
use Rattle.bm_core.specs.declared.events.What.{What}
use Rattle.bm_core.specs.declared.events.What.TheVariants.{Publish, Switch, Steer, Lose, Sync, Arrive as Arrives}
use Rattle.bm_core.specs.declared.events.What.TheVariants.{Close as Closes, Retire as Retires}
use Rattle.bm_core.specs.Books.{Turn, add_turn, book_held, book_local, book_of, turn_of}
use Rattle.bm_core.specs.Past.{segment_of, shard}
use Rattle.bm_core.specs.Runs.{Actor, actor_of, is_by, own_clock, next_clock, AtEach}
use Rattle.bm_core.specs.Runs.Actor.{ShardOf}
use Rattle.bm_core.specs.Verdicts.{onward, verdict_of}
use Rattle.bm_core.proofs.Tagged.{verdict_by_tag}
use Rattle.bm_shard.specs.declared.book.Shard.{Shard}
use Rattle.bm_shard.specs.declared.calls.ShardCall.{ShardCall}
use Rattle.bm_shard.specs.declared.calls.ShardCall.TheVariants.{Arrive, Close, Retire}
use Rattle.bm_shard.specs.declared.calls.ShardEntry.{ShardEntry}
use Rattle.bm_shard.specs.Books.{Replays, clock_of, clock_after, event_after, knows_after}
use Rattle.bm_shard.specs.Laws.{IsOf}
use Rattle.bm_shard.specs.Replies.{what_of}
use Rattle.bm_shard.specs.Turns.{call_moment, turn_kept, turns}
use Rattle.bm_merge.specs.Merges.{Log, stands_in, IsEntry}
use Rattle.bm_merge.proofs.Standing.{MayStand, entry_of}
use Rattle.bm_merge.specs.Notes.{events_of}
use Rattle.bm_merge.proofs.Agreeing.{same_actor-true}
use Rattle.bm_world.specs.Inside.Shards.{Kept, entries_of, note_of, notes_of, IsAsked, AreAsked}

-- THE SHARD'S EVENTS

abbrev home : Shard → Actor
home about = ShardOf about.server.0 about.number

same_home : (a b : ℕ) (about : Shard) → a ≡ about.server.0 → b ≡ about.number
    → is_by (Some (ShardOf a b)) (home about) ≡ true
same_home a b about x y = and_from _ _ (eq-eqb _ _ x) (eq-eqb _ _ y)

-- the call is at the shard of its flow
abbrev pub IsAskedHere : Stage → Shard → ShardCall → Type 0
IsAskedHere stage about (Arrive packet tag segment due) =
    (segment_of stage packet ≡ Some segment) × (shard stage segment.flow ≡ about.number)
IsAskedHere stage about (Close flow moment) = shard stage flow ≡ about.number
IsAskedHere stage about (Retire moment result) = Unit {0}

abbrev pub AreAskedHere : Stage → Shard → List Kept → Type 0
AreAskedHere stage about kept = AllByRecursion (λ k. IsAskedHere stage about k.entry.call) kept

asked_here : (stage : Stage) (logs : List Log) (about : Shard) (clock : ℕ) (call : ShardCall)
    → IsAsked stage logs about clock call → IsAskedHere stage about call
asked_here stage logs about clock (Arrive packet tag segment due) asked = (asked.is_segment, asked.here)
asked_here stage logs about clock (Close flow moment) asked = asked
asked_here stage logs about clock (Retire moment result) asked = tt

pub all_asked_here : (stage : Stage) (logs : List Log) (about : Shard) (kept : List Kept)
    → AreAsked stage logs about kept
    → AreAskedHere stage about kept
all_asked_here stage logs about [] asked = tt
all_asked_here stage logs about (k ∷ kept) asked = (
  asked_here stage logs about k.entry.event.clock.0 k.entry.call asked.0,
  all_asked_here stage logs about kept
      asked.1,
)

-- each event is the shard's
by_shard : (stage : Stage) (about : Shard) (knows : Flow → Local) (clock : Moment) (call : ShardCall)
    → IsAskedHere stage about call
    → is_by (actor_of stage (what_of about knows clock call)) (home about) ≡ true
by_shard stage about knows clock (Arrive packet tag segment due) asked =
    let segment_is : segment_of stage packet ≡ Some segment = asked.0
    in rw segment_is (same_home about.server.0 (shard stage segment.flow) about refl asked.1)
by_shard stage about knows clock (Close flow moment) asked =
    same_home about.server.0 (shard stage flow) about refl asked
by_shard stage about knows clock (Retire moment result) asked = same_home about.server.0 about.number about refl refl

-- its turn is the one that the book keeps
turn_same : (stage : Stage) (about : Shard) (knows : Flow → Local) (clock : Moment) (call : ShardCall)
    → IsAskedHere stage about call
    → turn_kept call (what_of about knows clock call) ≡ turn_of stage (what_of about knows clock call) about.server
    about.number
turn_same stage about knows clock (Arrive packet tag segment due) asked =
    let segment_is : segment_of stage packet ≡ Some segment = asked.0
    in let server : same_server about.server about.server ≡ true = eq-eqb _ _ refl
    in let number : eqb (shard stage segment.flow) about.number ≡ true = eq-eqb _ _ asked.1
    in rw (segment_is, server, number) refl
turn_same stage about knows clock (Close flow moment) asked =
    let server : same_server about.server about.server ≡ true = eq-eqb _ _ refl
    in let number : eqb (shard stage flow) about.number ≡ true = eq-eqb _ _ asked
    in rw (server, number) refl
turn_same stage about knows clock (Retire moment result) asked =
    let server : same_server about.server about.server ≡ true = eq-eqb _ _ refl
    in let number : eqb about.number about.number ≡ true = eq-eqb _ _ refl
    in rw (server, number) refl

what_is : (about : Shard) (past : List ShardEntry) (e : ShardEntry) → e.event ≡ event_after about past e.call
    → e.event.what ≡ what_of about (knows_after about past) (clock_after past e.call) e.call
what_is about past e is = ap (λ (x : Event). x.what) is

book_same : (stage : Stage) (about : Shard) (kept : List Kept) → Replays about (entries_of kept)
    → AreAskedHere stage about kept
    → turns (entries_of kept) ≡ book_of stage (events_of (notes_of kept)) about.server about.number
book_same stage about [] replays asked = refl
book_same stage about (k ∷ kept) replays asked =
    let what = what_is about (entries_of kept) k.entry replays.0
    in let old = book_same stage about kept replays.1 asked.1
    in let turn : turn_kept k.entry.call k.entry.event.what ≡ turn_of stage k.entry.event.what about.server
    about.number =
    ap (λ (w : What). turn_kept k.entry.call w) what
    ∙ turn_same stage about (knows_after about (entries_of kept)) (clock_after (entries_of kept) k.entry.call)
    k.entry.call asked.0
    ∙ ap (λ (w : What). turn_of stage w about.server about.number) (sym what)
    in ap (λ (o : Option Turn). add_turn o (turns (entries_of kept))) turn
    ∙ ap (λ (b : List Turn). add_turn (turn_of stage k.entry.event.what about.server about.number) b) old

-- the shard's last clock is that of its newest entry
own_same : (stage : Stage) (about : Shard) (kept : List Kept) → Replays about (entries_of kept)
    → AreAskedHere stage about kept
    → unwrap_or (own_clock stage (events_of (notes_of kept)) (home about)) 0 ≡ (clock_of (entries_of kept)).0
own_same stage about [] replays asked = refl
own_same stage about (k ∷ kept) replays asked =
    let mine : is_by (actor_of stage k.entry.event.what) (home about) ≡ true =
    ap (λ (w : What). is_by (actor_of stage w) (home about)) (what_is about (entries_of kept) k.entry replays.0)
    ∙ by_shard stage about (knows_after about (entries_of kept)) (clock_after (entries_of kept) k.entry.call)
    k.entry.call asked.0
    in rw mine refl

stands : (stage : Stage) (what : What) (server number : ℕ) → is_by (actor_of stage what) (ShardOf server number) ≡ true
    → stands_in stage what (ShardOf server number) ≡ true
stands stage (Arrives k hop s verdict) server number h = h
stands stage (Closes s flow closed) server number h = h
stands stage (Retires s x at result) server number h = h
stands stage (Publish v) server number h = absurd (cc)
stands stage (Switch m v) server number h = absurd (cc)
stands stage (Steer k m) server number h = absurd (cc)
stands stage (Lose k hop) server number h = absurd (cc)
stands stage Sync server number h = absurd (cc)

lower : (o : Option ℕ) (clock : ℕ) → unwrap_or o 0 < clock → IfSome o (λ c. c < clock)
lower None clock h = tt
lower (Some c) clock h = h

own_lower : (stage : Stage) (o : Option Actor) (a : Actor) (rest : List Event) (clock : ℕ) → is_by o a ≡ true
    → unwrap_or (own_clock stage rest a) 0 < clock → IfSome o (λ b. IfSome (own_clock stage rest b) (λ c. c < clock))
own_lower stage None a rest clock mine h = tt
own_lower stage (Some b) a rest clock mine h =
    subst (λ (c : Actor). IfSome (own_clock stage rest c) (λ k. k < clock)) (sym (same_actor-true b a mine))
    (lower _ _ h)

dest_of : (label : Label) (hop : Hop) (tag : Tag) (server : ServerId) (o : Option ServerId)
    → arrives_at label.entry hop ≡ o → option_map (tag_for label hop) o ≡ Some tag → tag.dest ≡ server → o ≡ Some server
dest_of label hop tag server None at is mine = absurd (cc)
dest_of label hop tag server (Some s) at is mine =
    ap (λ (x : ServerId). Some x) (ap (λ (t : Tag). t.dest) (same_Some _ _ is) ∙ mine)

may_stand : (stage : Stage) (logs : List Log) (about : Shard) (kept : List Kept) (clock : Moment) (call : ShardCall)
    → IsOf stage about → turns (entries_of kept) ≡ book_of stage (events_of (notes_of kept)) about.server about.number
    → (call_moment call).0 < clock.0 → IsAsked stage logs about clock.0 call
    → MayStand stage logs (events_of (notes_of kept)) clock.0
    (what_of about (knows_after about (entries_of kept)) clock call)
may_stand stage logs about kept clock (Arrive packet tag segment due) of book low asked =
    let here : book_of stage (events_of (notes_of kept)) about.server (shard stage segment.flow)
    ≡ turns (entries_of kept) =
    ap (λ (h : ℕ). book_of stage (events_of (notes_of kept)) about.server h) asked.here ∙ sym book
    in record {
      segment = segment;
      is_segment = asked.is_segment;
      label = asked.label;
      is_label = asked.is_label;
      sent = asked.sent;
      place = dest_of asked.label tag.hop tag about.server (arrives_at asked.label.entry tag.hop) refl asked.tagged
          asked.mine;
      verdict_is =
          verdict_by_tag (book_local about.capacity (turns (entries_of kept)) segment.flow) about.timeout clock.0
          asked.label tag.hop tag segment asked.tagged
          ∙ (λ i. verdict_of (book_local (of.capacity i) (sym here i) segment.flow) (of.timeout_is i) clock.0 tag.hop
          (onward asked.label.entry tag.hop) segment);
    }
may_stand stage logs about kept clock (Close flow at) of book low asked =
    let here : book_of stage (events_of (notes_of kept)) about.server (shard stage flow) ≡ turns (entries_of kept) =
    ap (λ (h : ℕ). book_of stage (events_of (notes_of kept)) about.server h) asked ∙ sym book
    in ap (λ (b : List Turn). is_some (book_held b flow)) (sym here)
may_stand stage logs about kept clock (Retire at result) of book low asked = (low, asked)

pub shard_entries : (stage : Stage) (logs : List Log) (about : Shard) (kept : List Kept) → IsOf stage about
    → Replays about (entries_of kept) → AreAsked stage logs about kept
    → AtEach (IsEntry stage logs (ShardOf about.server.0 about.number)) (events_of (notes_of kept))
shard_entries stage logs about [] of replays asked = tt
shard_entries stage logs about (k ∷ kept) of replays asked =
    let what = what_is about (entries_of kept) k.entry replays.0
    in let clock : k.entry.event.clock ≡ clock_after (entries_of kept) k.entry.call =
    ap (λ (x : Event). x.clock) replays.0
    in let clock_is : k.entry.event.clock.0 ≡ next_clock (clock_of (entries_of kept)).0 (call_moment k.entry.call).0 =
    ap (λ (x : Moment). x.0) clock
    in let here = all_asked_here stage logs about (k ∷ kept) asked
    in let own = own_same stage about kept replays.1 here.1
    in let mine : is_by (actor_of stage k.entry.event.what) (home about) ≡ true =
    ap (λ (w : What). is_by (actor_of stage w) (home about)) what
    ∙ by_shard stage about (knows_after about (entries_of kept)) (clock_after (entries_of kept) k.entry.call)
    k.entry.call here.0
    in let may : MayStand stage logs (events_of (notes_of kept)) k.entry.event.clock.0
    (what_of about (knows_after about (entries_of kept)) k.entry.event.clock k.entry.call) =
    may_stand stage logs about kept k.entry.event.clock k.entry.call of (book_same stage about kept replays.1 here.1)
    (omega arith) asked.0
    in (
      entry_of stage logs (ShardOf about.server.0 about.number) (events_of (notes_of kept)) k.entry.event
          (stands stage k.entry.event.what about.server.0 about.number mine)
          (own_lower stage (actor_of stage k.entry.event.what) (home about) (events_of (notes_of kept))
          k.entry.event.clock.0 mine (omega arith))
          (subst (λ (w : What). MayStand stage logs (events_of (notes_of kept)) k.entry.event.clock.0 w)
          (ap (λ (c : Moment). what_of about (knows_after about (entries_of kept)) c k.entry.call) clock ∙ sym what)
          may),
      shard_entries stage logs about kept of replays.1 asked.1,
    )

-- and has the clock after the shard's last one and the moment that was passed to it
pub shard_clock : (stage : Stage) (about : Shard) (k : Kept) (kept : List Kept) → Replays about (entries_of (k ∷ kept))
    → AreAskedHere stage about kept
    → (note_of k).event.clock.0 ≡ next_clock (unwrap_or (own_clock stage (events_of (notes_of kept)) (home about)) 0)
    (note_of k).due
shard_clock stage about k kept replays asked =
    let own = own_same stage about kept replays.1 asked
    in ap (λ (x : Event). x.clock.0) replays.0 ∙ ap (λ (c : ℕ). next_clock c (call_moment k.entry.call).0) (sym own)

-- The entries of a log by their kinds, each in one fact.
use Rattle.std.proofs.Common.{◌≡◌, ℕ, suc, ◌+◌, ◌<◌, ◌≤◌, true, ◌&&◌, List, length, Some, ltb, eqb}
use Rattle.std.specs.Prelude.{◌⊎◌, IfSome, is_some}
use Rattle.bm_base.specs.declared.ids.Moment.{Moment}
use Rattle.bm_base.specs.declared.ids.ServerId.{ServerId}
use Rattle.bm_base.specs.declared.flow.Segment.{Segment}
use Rattle.bm_base.specs.declared.label.Label.{Label}
use Rattle.bm_base.specs.declared.label.Hop.{Hop}
use Rattle.bm_base.specs.Labels.{arrives_at}
use Rattle.bm_table.specs.Tables.{IsRetirement}
use Rattle.bm_core.specs.declared.events.Verdict.{Verdict}
use Rattle.bm_core.specs.declared.events.What.{What}
use Rattle.bm_core.specs.declared.events.What.TheVariants.{Publish, Switch, Steer, Lose, Arrive, Close, Retire, Sync}
use Rattle.bm_core.specs.declared.events.Event.{Event}
use Rattle.bm_core.specs.declared.events.Stage.{Stage}
use Rattle.bm_core.specs.Past.{segment_of, shard, timeout, newest, label_of, sends}
use Rattle.bm_core.specs.Verdicts.{onward, verdict_of}
use Rattle.bm_core.specs.Books.{book_held, book_local, book_of}
use Rattle.bm_core.specs.Threads.{is_publish_of}
use Rattle.bm_core.specs.Runs.{Actor, actor_of, own_clock}
use Rattle.bm_core.specs.Runs.Actor.{Controller, MuxOf}
use Rattle.bm_merge.specs.Merges.{Log, gathered, some_event, named, newest_until, stands_in, IsEntry}

-- an arrival as the logs have it
pub record IsLogged (stage : Stage) (logs : List Log) (rest : List Event) (clock k : ℕ) (hop : Hop)
    (server : ServerId)
    (verdict : Verdict) : Type 0 where
  pub segment : Segment
  pub is_segment : segment_of stage k ≡ Some segment
  pub label : Label
  pub is_label : label_of stage (named logs (MuxOf label.mux.0)) k ≡ Some label
  pub sent : some_event (λ e. sends e.what k hop && ltb e.clock.0 clock) (gathered logs) ≡ true
  pub place : arrives_at label.entry hop ≡ Some server
  pub verdict_is : verdict ≡ verdict_of
      (book_local stage.script.setting.capacity (book_of stage rest server (shard stage segment.flow)) segment.flow)
      (timeout stage) clock hop (onward label.entry hop) segment

-- the event may stand in its log after the rest of that log
abbrev pub MayStand : Stage → List Log → List Event → ℕ → What → Type 0
MayStand stage logs rest clock (Publish v) = (v.0 ≡ suc (newest rest)) × (v.0 ≤ length stage.script.plan.changes)
MayStand stage logs rest clock (Switch m v) =
    (m.0 < stage.script.setting.muxes)
    × ((v.0 ≡ 0) ⊎ (some_event (λ e. is_publish_of e.what v.0 && ltb e.clock.0 clock) (gathered logs) ≡ true))
MayStand stage logs rest clock (Steer k m) =
    (m.0 < stage.script.setting.muxes) × (is_some (segment_of stage k) ≡ true)
MayStand stage logs rest clock (Lose k hop) =
    (sending : ℕ) × (clock ≡ sending + 1)
    × (some_event (λ e. sends e.what k hop && eqb e.clock.0 sending) (gathered logs) ≡ true)
MayStand stage logs rest clock (Arrive k hop server verdict) = IsLogged stage logs rest clock k hop server verdict
MayStand stage logs rest clock (Close server flow closed) =
    closed ≡ is_some (book_held (book_of stage rest server (shard stage flow)) flow)
MayStand stage logs rest clock (Retire server h at result) =
    (at.0 < clock)
    × IsRetirement stage.script.plan (timeout stage) (newest_until clock (named logs Controller)) server at.0 result
MayStand stage logs rest clock Sync = Unit {0}

-- such an event is an entry of the log
entry_at : (stage : Stage) (logs : List Log) (a : Actor) (rest : List Event) (clock : Moment) (what : What)
    → stands_in stage what a ≡ true
    → IfSome (actor_of stage what) (λ b. IfSome (own_clock stage rest b) (λ c. c < clock.0))
    → MayStand stage logs rest clock.0 what → IsEntry stage logs a rest (record { clock = clock; what = what })
entry_at stage logs a rest clock (Publish v) stands own may = record {
  stands = stands;
  own = own;
  version = may;
  mux = tt;
  published = tt;
  record_of = tt;
  sent = tt;
  place = tt;
  replayed = tt;
  judged = tt;
}
entry_at stage logs a rest clock (Switch m v) stands own may = record {
  stands = stands;
  own = own;
  version = tt;
  mux = may.0;
  published = may.1;
  record_of = tt;
  sent = tt;
  place = tt;
  replayed = tt;
  judged = tt;
}
entry_at stage logs a rest clock (Steer k m) stands own may = record {
  stands = stands;
  own = own;
  version = tt;
  mux = may.0;
  published = tt;
  record_of = may.1;
  sent = tt;
  place = tt;
  replayed = tt;
  judged = tt;
}
entry_at stage logs a rest clock (Lose k hop) stands own may = record {
  stands = stands;
  own = own;
  version = tt;
  mux = tt;
  published = tt;
  record_of = tt;
  sent = may;
  place = tt;
  replayed = tt;
  judged = tt;
}
entry_at stage logs a rest clock (Arrive k hop server verdict) stands own may = record {
  stands = stands;
  own = own;
  version = tt;
  mux = tt;
  published = tt;
  record_of = tt;
  sent = may.sent;
  place = (may.label, may.is_label, may.place);
  replayed = (may.segment, may.is_segment, may.label, may.is_label, may.verdict_is);
  judged = tt;
}
entry_at stage logs a rest clock (Close server flow closed) stands own may = record {
  stands = stands;
  own = own;
  version = tt;
  mux = tt;
  published = tt;
  record_of = tt;
  sent = tt;
  place = tt;
  replayed = may;
  judged = tt;
}
entry_at stage logs a rest clock (Retire server h at result) stands own may = record {
  stands = stands;
  own = own;
  version = tt;
  mux = tt;
  published = tt;
  record_of = tt;
  sent = tt;
  place = tt;
  replayed = tt;
  judged = may;
}
entry_at stage logs a rest clock Sync stands own may = record {
  stands = stands;
  own = own;
  version = tt;
  mux = tt;
  published = tt;
  record_of = tt;
  sent = tt;
  place = tt;
  replayed = tt;
  judged = tt;
}

pub entry_of : (stage : Stage) (logs : List Log) (a : Actor) (rest : List Event) (e : Event)
    → stands_in stage e.what a ≡ true
    → IfSome (actor_of stage e.what) (λ b. IfSome (own_clock stage rest b) (λ c. c < e.clock.0))
    → MayStand stage logs rest e.clock.0 e.what → IsEntry stage logs a rest e
entry_of stage logs a rest e stands own may = entry_at stage logs a rest e.clock e.what stands own may

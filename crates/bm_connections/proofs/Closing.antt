-- The connections that a `close` closed, and how all ended.
use Rattle.std.proofs.Common.{◌≡◌, ℕ, ◌+◌, ◌<◌, ◌++◌, length, take, drop, set, get_or, arith}
use Rattle.std.proofs.lemmas.List.Edits.{map_over_more}
use Rattle.std.proofs.lemmas.Option.{get_or_from_slice_get, slice_get-get_or}
use Rattle.std.proofs.Common.{Bool, true, false, ◌&&◌, ◌||◌, not, inl, inr, List, [], ◌∷◌, map}
use Rattle.std.proofs.Common.{Option, Some, None, option_map, refl, sym, ap, ◌∙◌}
use Rattle.std.specs.Prelude.{if◌then◌else◌, reverse}
use Rattle.std.proofs.lemmas.Bool.{cases_Bool}
use Rattle.bm_base.specs.declared.flow.Flow.{Flow}
use Rattle.bm_base.specs.declared.flow.Segment.{Segment}
use Rattle.bm_base.specs.Segments.{same_flow}
use Rattle.bm_core.specs.declared.events.Event.{Event}
use Rattle.bm_core.specs.declared.events.History.{History}
use Rattle.bm_core.specs.declared.events.Stage.{Stage}
use Rattle.bm_core.specs.declared.events.What.{What}
use Rattle.bm_core.specs.declared.events.What.TheVariants.{Publish, Switch, Steer, Lose, Arrive, Close, Retire, Sync}
use Rattle.bm_core.specs.Past.{is_accept, is_of, segment_of}
use Rattle.bm_connections.specs.declared.connection.Connection.{Connection}
use Rattle.bm_connections.specs.declared.flow_set.FlowSet.{FlowSet}
use Rattle.bm_connections.specs.declared.flow_set.Membership.{Membership}
use Rattle.bm_connections.specs.declared.resets.Resets.{Resets}
use Rattle.bm_connections.specs.declared.rows.Rows.{Rows}
use Rattle.bm_connections.specs.declared.connection.Ending.TheVariants.{Close as ByClose, Reset}
use Rattle.bm_connections.specs.Connections.{closed_by, connection, connection_in, connections, is_closed}
use Rattle.bm_connections.specs.Endings.{ending_seen}
use Rattle.bm_connections.specs.Inside.Closed.{AreClosed, closing_of}
use Rattle.bm_connections.specs.Inside.FlowSets.{changed, is_in}
use Rattle.bm_connections.specs.Inside.Resets.{KnowsResets, with_end}
use Rattle.bm_connections.specs.Inside.Rows.{AreRows, row}
use Rattle.bm_connections.specs.Seen.{flows_of, records_of}

opened_changes : (accepts : Bool) (o : Option Segment) (q : Flow) (before : Bool)
    → (not (accepts && is_of o q) && before)
    ≡ changed (if accepts then option_map (λ s. record { flow = s.flow; member = false }) o else None) q before
opened_changes false o q before = refl
opened_changes true None q before = refl
opened_changes true (Some s) q before = elim (cases_Bool (same_flow s.flow q)) [
  | inl same ↦ rw same refl
  | inr other ↦ rw other refl
]

close_changes : (flow q : Flow) (closed before : Bool)
    → (same_flow flow q && closed || before)
    ≡ changed (if closed then Some (record { flow = flow; member = true }) else None) q before
close_changes flow q true before = elim (cases_Bool (same_flow flow q)) [
  | inl same ↦ rw same refl
  | inr other ↦ rw other refl
]
close_changes flow q false before = elim (cases_Bool (same_flow flow q)) [
  | inl same ↦ rw same refl
  | inr other ↦ rw other refl
]

closed_changed : (stage : Stage) (q : Flow) (what : What) (before : Bool)
    → closed_by stage q what before ≡ changed (closing_of stage what) q before
closed_changed stage q (Arrive k hop server verdict) before =
    opened_changes (is_accept verdict) (segment_of stage k) q before
closed_changed stage q (Close server flow closed) before = close_changes flow q closed before
closed_changed stage q (Publish v) before = refl
closed_changed stage q (Switch m v) before = refl
closed_changed stage q (Steer k m) before = refl
closed_changed stage q (Lose k hop) before = refl
closed_changed stage q (Retire server shard at result) before = refl
closed_changed stage q Sync before = refl

pub closed_more : (stage : Stage) (past : List Event) (e : Event) (old new : FlowSet) (change : Option Membership)
    → change ≡ closing_of stage e.what
    → ((q : Flow) → is_in new q ≡ changed change q (is_in old q))
    → AreClosed stage past old → AreClosed stage (e ∷ past) new
closed_more stage past e old new change is put k = record {
  each = λ q. put q ∙ (λ i. changed (is i) q (k.each q i)) ∙ sym (closed_changed stage q e.what (is_closed stage q past));
}

-- one connection more
pub end_more : (closed : FlowSet) (resets : Resets) (old now : List Connection) (i : ℕ) (d y : Connection)
    → i < length old → length now ≡ length old
    → now ≡ map (with_end closed resets) (take i old) ++ drop i old → y ≡ with_end closed resets (get_or now i d)
    → set now i y ≡ map (with_end closed resets) (take (i + 1) old) ++ drop (i + 1) old
end_more closed resets old now i d y below long so_far is =
    let within : i < length now = omega (arith, below, long)
    in let same : get_or now i d ≡ get_or now i (get_or now i d) =
    sym (get_or_from_slice_get now i (get_or now i d) (get_or now i d) (slice_get-get_or now i d within))
    in ap (set now i) is ∙ map_over_more (with_end closed resets) old now i (get_or now i d) below so_far same

row_ended : (h : History) (closed : FlowSet) (resets : Resets) (f : Flow) → AreClosed h.stage (reverse h.events) closed
    → KnowsResets h.stage (reverse h.events) resets
    → with_end closed resets (row h.stage (records_of h.stage) (reverse h.events) f) ≡ connection_in h f
row_ended h closed resets f k known = λ i. record (connection h.stage (records_of h.stage) (reverse h.events) f) {
  ending = if k.each f i then ByClose
      else if known.each f i then Reset else ending_seen (records_of h.stage) f;
}

with_all : (h : History) (closed : FlowSet) (resets : Resets) (flows : List Flow)
    → AreClosed h.stage (reverse h.events) closed → KnowsResets h.stage (reverse h.events) resets
    → map (with_end closed resets) (map (row h.stage (records_of h.stage) (reverse h.events)) flows)
    ≡ map (connection_in h) flows
with_all h closed resets [] k known = refl
with_all h closed resets (f ∷ flows) k known =
    λ i. row_ended h closed resets f k known i ∷ with_all h closed resets flows k known i

-- the rows with these ends are the connections
pub all_ended : (h : History) (closed : FlowSet) (resets : Resets) (rows : Rows) (list : List Connection)
    → AreRows h.stage (records_of h.stage) (reverse h.events) rows → AreClosed h.stage (reverse h.events) closed
    → KnowsResets h.stage (reverse h.events) resets
    → list ≡ map (with_end closed resets) rows.connections.items → list ≡ connections h
all_ended h closed resets rows list k closes known is =
    is ∙ ap (map (with_end closed resets)) k.connections
    ∙ with_all h closed resets (flows_of (records_of h.stage)) closes known

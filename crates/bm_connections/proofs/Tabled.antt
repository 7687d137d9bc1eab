-- What one record more and one event more change in the table.
use Rattle.std.proofs.Common.{◌≡◌, ℕ, zero, suc, ◌+◌, ◌<◌, ◌^◌, Bool, true, false, List, [], ◌∷◌, ◌++◌, length, reverse}
use Rattle.std.proofs.Common.{option_map}
use Rattle.std.proofs.Common.{map, Option, Some, None, is_some, refl, sym, ap, ◌∙◌, arith, subst}
use Rattle.std.specs.Prelude.{if◌then◌else◌, slice_get}
use Rattle.std.specs.BTreeMap as tree
use Rattle.std.proofs.lemmas.List.{length-map, length-reverse, map-append}
use Rattle.bm_base.specs.contracts.flow.FlowOrd.TheImpl as flow_order
use Rattle.bm_base.specs.declared.capture.Body.TheVariants.{Steerable, Unsteered}
use Rattle.bm_base.specs.declared.capture.Reason.{Reason}
use Rattle.bm_base.specs.declared.capture.Record.{Record}
use Rattle.bm_base.specs.declared.flow.Flow.{Flow}
use Rattle.bm_base.specs.declared.flow.Segment.{Segment}
use Rattle.bm_base.specs.Segments.{same_flow}
use Rattle.bm_core.specs.declared.events.Cause.{Cause}
use Rattle.bm_core.specs.declared.events.Event.{Event}
use Rattle.bm_core.specs.declared.events.Stage.{Stage}
use Rattle.bm_core.specs.Books.{is_listed}
use Rattle.bm_core.specs.Causes.{cause}
use Rattle.bm_core.specs.Past.{segment_of}
use Rattle.bm_trace.specs.CauseOf.{is_break}
use Rattle.bm_connections.specs.declared.connection.Break.{Break}
use Rattle.bm_connections.specs.declared.connection.Connection.{Connection}
use Rattle.bm_connections.specs.declared.connection.Ending.TheVariants.{Open}
use Rattle.bm_connections.specs.declared.connection.Sight.{Sight}
use Rattle.bm_connections.specs.declared.observed.Facts.{Facts}
use Rattle.bm_connections.specs.declared.rows.Rows.{Rows}
use Rattle.bm_connections.specs.declared.seen.Seen.{Seen}
use Rattle.bm_connections.specs.Connections.{as_break, breaks_nothing}
use Rattle.bm_connections.specs.Inside.Rows.{AreRows, HasRoomAt, HasRoomForEach, IsSeen, changed_at, ending_after}
use Rattle.bm_connections.specs.Inside.Rows.{facts_of, observed}
use Rattle.bm_connections.specs.Inside.Rows.{packet_place, place_in, row}
use Rattle.bm_connections.specs.Inside.Rows as kept
use Rattle.bm_connections.specs.Inside.Marks.{mark_of, marks_by}
use Rattle.bm_connections.specs.Inside.Rows.{places_of, seen, seen_again, seen_from, table}
use Rattle.bm_connections.specs.Endings.{is_risky}
use Rattle.bm_connections.specs.Seen.{first_seen, flows_of, is_packet_of, is_seen, last_seen, records_of, sight}
use Rattle.bm_connections.specs.Waits.{wait_of}
use Rattle.bm_connections.proofs.Placed.{IsPlace, at_place, distinct, listed_is, map_apart, map_changed}
use Rattle.bm_connections.proofs.Placed.{packet_placed, place_listed, place_push, place_within, room_of}
use Rattle.bm_connections.proofs.Marked.{ending_more, ending_other, first_risky, mark_is, risky_more, unseen_open}
use Rattle.bm_connections.proofs.Steps.{AreFacts, says_of_packet}
use Rattle.bm_connections.proofs.Steps.{here_observed, lost_observed, none_observed, other_observed, room_in}
use Rattle.bm_connections.proofs.Steps.{same_flow_refl}

-- RECORDS

-- a record of another flow
seen_other : (records : List Record) (r : Record) (s : Segment) (q : Flow)
    → r.body ≡ Steerable s → same_flow s.flow q ≡ false → seen (r ∷ records) q ≡ seen records q
seen_other records r s q body other =
    let packet : is_packet_of r q ≡ false = rw body other
    in rw packet (ap (seen_from q (first_seen records q) (last_seen records q)) (ending_other records r s q body other))

-- the first one of a flow
seen_first : (records : List Record) (r : Record) (s : Segment)
    → r.body ≡ Steerable s → is_seen records s.flow ≡ false
    → seen (r ∷ records) s.flow ≡ seen_from s.flow (sight records r) (sight records r) (ending_after s Open)
seen_first records r s body unseen =
    let packet : is_packet_of r s.flow ≡ true = rw body (same_flow_refl s.flow)
    in rw (packet, unseen) (ap (seen_from s.flow (sight records r) (sight records r))
    (ending_more records r s body ∙ ap (ending_after s) (unseen_open records s.flow unseen)))

-- one more of a flow
seen_once_more : (records : List Record) (r : Record) (s : Segment)
    → r.body ≡ Steerable s → is_seen records s.flow ≡ true
    → seen (r ∷ records) s.flow ≡ seen_again (sight records r) s (seen records s.flow)
seen_once_more records r s body there =
    let packet : is_packet_of r s.flow ≡ true = rw body (same_flow_refl s.flow)
    in rw (packet, there)
    (ap (seen_from s.flow (first_seen records s.flow) (sight records r)) (ending_more records r s body))

-- where a record is seen that comes after these
pub sight_is : (before : List Record) (r : Record)
    → record { number = length before + 1; moment = r.moment } ≡ sight (reverse before) r
sight_is before r =
    let e : length before + 1 ≡ suc (length (reverse before)) = omega (arith, length-reverse before)
    in ap (λ (n : ℕ). record { number = n; moment = r.moment }) e

-- a record that is no packet of a connection
pub unsteered : (records : List Record) (r : Record) (why : Reason) (old new : Seen)
    → r.body ≡ Unsteered why → new.flows ≡ old.flows
    → new.rows.places.items ≡ old.rows.places.items ++ None ∷ []
    → new.rows.risky.items ≡ old.rows.risky.items ++ false ∷ []
    → new.rows.connections ≡ old.rows.connections
    → IsSeen records old → IsSeen (r ∷ records) new
unsteered records r why old new body same places marks connections k = record {
  places = places ∙ rw (body, k.places) refl;
  risky = marks ∙ rw (body, k.risky) refl;
  connections = ap (λ v. v.items) connections ∙ k.connections ∙ rw body refl;
  flows = λ f. ap (λ (m : tree.BTreeMap Flow ℕ). tree.get (flow_order.ghosts).cmp m f) same ∙ k.flows f
      ∙ rw body refl;
}

-- the place that is kept of a flow
pub place_kept : (records : List Record) (s : Seen) (f : Flow) (place : ℕ)
    → tree.get (flow_order.ghosts).cmp s.flows f ≡ Some place → IsSeen records s
    → place < length s.rows.connections.items
place_kept records s f place is k =
    let there : place_in (flows_of records) f ≡ Some place = sym (k.flows f) ∙ is
    in let below = place_within (flows_of records) f place (at_place (flows_of records) f place there)
    in let e : length s.rows.connections.items ≡ length (flows_of records) =
    ap length k.connections ∙ length-map (flows_of records) (seen records)
    in omega (arith, below, e)

get_map : {X Y : Type 0} (g : X → Y) (xs : List X) (i : ℕ) (x : X) → slice_get xs i ≡ Some x
    → slice_get (map g xs) i ≡ Some (g x)
get_map g [] i x e = absurd (cc)
get_map g (y ∷ xs) zero x e = ap (option_map g) e
get_map g (y ∷ xs) (suc i) x e = get_map g xs i x e

-- what the connection at a place says of its next packet
risky_at : (records : List Record) (r : Record) (s : Segment) (place : ℕ) (list : List Connection)
    → r.body ≡ Steerable s → slice_get list place ≡ Some (seen records s.flow)
    → kept.is_risky_at list place records s ≡ is_risky r records
risky_at records r s place list body at = rw at (risky_more records r s body)

-- one packet more of a connection
pub seen_here : (records : List Record) (r : Record) (s : Segment) (t : Sight) (place : ℕ) (has : Bool)
    (old new : Seen)
    → r.body ≡ Steerable s → t ≡ sight records r
    → tree.get (flow_order.ghosts).cmp old.flows s.flow ≡ Some place
    → new.flows ≡ old.flows
    → has ≡ kept.is_risky_at old.rows.connections.items place records s
    → new.rows.places.items ≡ old.rows.places.items ++ Some place ∷ []
    → new.rows.risky.items ≡ old.rows.risky.items ++ has ∷ []
    → new.rows.connections.items ≡ changed_at (seen_again t s) old.rows.connections.items place
    → IsSeen records old → IsSeen (r ∷ records) new
seen_here records r s t place has old new body at is same with places marks connections k =
    let there : place_in (flows_of records) s.flow ≡ Some place = sym (k.flows s.flow) ∙ is
    in let seen' : is_seen records s.flow ≡ true =
    sym (listed_is records s.flow) ∙ sym (place_listed (flows_of records) s.flow) ∙ ap is_some there
    in let flows : flows_of (r ∷ records) ≡ flows_of records = rw (body, seen') refl
    in let row_at : slice_get old.rows.connections.items place ≡ Some (seen records s.flow) =
    ap (λ list. slice_get list place) k.connections
    ∙ get_map (seen records) (flows_of records) place s.flow (at_place (flows_of records) s.flow place there)
    in let mark : has ≡ is_risky r records = with ∙ risky_at records r s place old.rows.connections.items body row_at
    in record {
      places = places ∙ rw (body, seen', there, k.places) refl;
      risky = marks ∙ (λ i. k.risky i ++ mark i ∷ []);
      connections =
          connections ∙ ap (λ xs. changed_at (seen_again t s) xs place) k.connections
          ∙ sym (map_changed (seen records) (seen (r ∷ records)) (seen_again t s) (flows_of records) place s.flow
          (distinct records) (at_place (flows_of records) s.flow place there)
          (λ q other. seen_other records r s q body other)
          (seen_once_more records r s body seen' ∙ ap (λ (x : Sight). seen_again x s (seen records s.flow)) (sym at)))
          ∙ ap (map (seen (r ∷ records))) (sym flows);
      flows = λ f. ap (λ (m : tree.BTreeMap Flow ℕ). tree.get (flow_order.ghosts).cmp m f) same ∙ k.flows f
          ∙ ap (λ fs. place_in fs f) (sym flows);
    }

-- the first packet of a connection
pub seen_new : (records : List Record) (r : Record) (s : Segment) (t : Sight) (place : ℕ) (has : Bool)
    (old new : Seen)
    → r.body ≡ Steerable s → t ≡ sight records r
    → tree.get (flow_order.ghosts).cmp old.flows s.flow ≡ None
    → place ≡ length old.rows.connections.items
    → ((q : Flow) → tree.get (flow_order.ghosts).cmp new.flows q
    ≡ (if same_flow s.flow q then Some place else tree.get (flow_order.ghosts).cmp old.flows q))
    → new.rows.places.items ≡ old.rows.places.items ++ Some (length old.rows.connections.items) ∷ []
    → has ≡ kept.is_risky s false Open
    → new.rows.risky.items ≡ old.rows.risky.items ++ has ∷ []
    → new.rows.connections.items ≡ old.rows.connections.items ++ seen_from s.flow t t (ending_after s Open) ∷ []
    → IsSeen records old → IsSeen (r ∷ records) new
seen_new records r s t place has old new body at is last put places with marks connections k =
    let there : place_in (flows_of records) s.flow ≡ None = sym (k.flows s.flow) ∙ is
    in let absent : is_listed (flows_of records) s.flow ≡ false =
    sym (place_listed (flows_of records) s.flow) ∙ ap is_some there
    in let unseen : is_seen records s.flow ≡ false = sym (listed_is records s.flow) ∙ absent
    in let flows : flows_of (r ∷ records) ≡ flows_of records ++ s.flow ∷ [] = rw (body, unseen) refl
    in let count : length old.rows.connections.items ≡ length (flows_of records) =
    ap length k.connections ∙ length-map (flows_of records) (seen records)
    in let here : place_in (flows_of records ++ s.flow ∷ []) s.flow ≡ Some (length old.rows.connections.items) =
    place_push (flows_of records) s.flow s.flow absent ∙ rw (same_flow_refl s.flow, count) refl
    in let mark : has ≡ is_risky r records = with ∙ first_risky records r s body unseen
    in record {
      places = places ∙ rw (body, unseen, here, k.places) refl;
      risky = marks ∙ (λ i. k.risky i ++ mark i ∷ []);
      connections =
          connections ∙ ap (λ xs. xs ++ seen_from s.flow t t (ending_after s Open) ∷ []) (k.connections
          ∙ sym (map_apart (seen records) (seen (r ∷ records)) (flows_of records) s.flow absent
          (λ q other. seen_other records r s q body other)))
          ∙ ap (λ x. map (seen (r ∷ records)) (flows_of records) ++ x ∷ [])
          (ap (λ (x : Sight). seen_from s.flow x x (ending_after s Open)) at ∙ sym (seen_first records r s body unseen))
          ∙ sym (map-append (seen (r ∷ records)) (flows_of records) (s.flow ∷ []))
          ∙ ap (map (seen (r ∷ records))) (sym flows);
      flows = λ q. put q ∙ (λ i. if same_flow s.flow q then Some ((last ∙ count) i) else k.flows q i)
          ∙ sym (place_push (flows_of records) s.flow q absent) ∙ ap (λ fs. place_in fs q) (sym flows);
    }

-- EVENTS

pub map_same : {X Y : Type 0} (f g : X → Y) (xs : List X) → ((x : X) → f x ≡ g x) → map f xs ≡ map g xs
map_same f g [] same = refl
map_same f g (x ∷ xs) same = rw (same x, map_same f g xs same) refl

-- an event that is no arrival
pub rows_still : (stage : Stage) (records : List Record) (past : List Event) (e : Event) (found : Option Cause)
    (rows : Rows) → as_break e.clock e.what found ≡ None
    → AreRows stage records past rows → AreRows stage records (e ∷ past) rows
rows_still stage records past e found rows is k = record {
  places = k.places;
  risky = k.risky;
  connections = k.connections
      ∙ map_same _ _ (flows_of records) (λ q. sym (none_observed stage records past e found q is));
}

-- an arrival of no connection
pub rows_lost : (stage : Stage) (past : List Event) (e : Event) (found : Option Cause) (b : Break) (rows : Rows)
    → as_break e.clock e.what found ≡ Some b → packet_place rows.places.items b.packet ≡ None
    → AreRows stage (records_of stage) past rows → AreRows stage (records_of stage) (e ∷ past) rows
rows_lost stage past e found b rows is place k =
    let none : packet_place (places_of (records_of stage)) b.packet ≡ None =
    ap (λ places. packet_place places b.packet) (sym k.places) ∙ place
    in record {
      places = k.places;
      risky = k.risky;
      connections = k.connections
          ∙ map_same _ _ (flows_of (records_of stage))
          (λ q. sym (lost_observed stage (records_of stage) past e found b q is
          (no_segment _ (subst (λ o. IsPlace (flows_of (records_of stage)) (segment_of stage b.packet) o) none
          (packet_placed stage b.packet)))));
    } where
      no_segment : (o : Option Segment) → IsPlace (flows_of (records_of stage)) o None → o ≡ None
      no_segment None k = refl
      no_segment (Some s) k = absurd k

-- what is known about an arrival is what the records and the events say
facts_are : (stage : Stage) (past : List Event) (e : Event) (found : Option Cause) (waited : ℕ) (b : Break)
    (late : Bool) (rows : Rows)
    → as_break e.clock e.what found ≡ Some b → waited ≡ wait_of stage past e.clock.0 e.what
    → late ≡ breaks_nothing stage past e.what
    → rows.risky.items ≡ marks_by is_risky (records_of stage)
    → AreFacts stage past e.clock.0 e.what (facts_of rows late b.packet waited)
facts_are stage past e found waited b late rows is after over with =
    let says = says_of_packet stage e.clock e.what found b is
    in record {
      wait = after;
      late = over;
      risks = ap (λ xs. mark_of xs b.packet) with ∙ mark_is is_risky (records_of stage) b.packet ∙ sym says.risks;
    }

-- an arrival of a packet of a connection
pub rows_observed : (stage : Stage) (past : List Event) (e : Event) (found : Option Cause) (waited : ℕ) (b : Break)
    (place : ℕ) (x : Facts) (late : Bool) (old new : Rows)
    → as_break e.clock e.what found ≡ Some b → packet_place old.places.items b.packet ≡ Some place
    → waited ≡ wait_of stage past e.clock.0 e.what
    → found ≡ cause stage past e.clock.0 e.what → is_some found ≡ is_break stage past e.what
    → late ≡ breaks_nothing stage past e.what → x ≡ facts_of old late b.packet waited
    → new.places ≡ old.places → new.risky ≡ old.risky
    → new.connections.items ≡ changed_at (observed b x) old.connections.items place
    → AreRows stage (records_of stage) past old → AreRows stage (records_of stage) (e ∷ past) new
rows_observed stage past e found waited b place x late old new is at after by broke over known same same_data
    changed k =
    let there : packet_place (places_of (records_of stage)) b.packet ≡ Some place =
    ap (λ places. packet_place places b.packet) (sym k.places) ∙ at
    in let facts : AreFacts stage past e.clock.0 e.what x =
    subst (λ (y : Facts). AreFacts stage past e.clock.0 e.what y) (sym known)
    (facts_are stage past e found waited b late old is after over k.risky)
    in record {
      places = ap (λ v. v.items) same ∙ k.places;
      risky = ap (λ v. v.items) same_data ∙ k.risky;
      connections = changed ∙ ap (λ xs. changed_at (observed b x) xs place) k.connections
          ∙ by_segment facts (segment_of stage b.packet) refl
          (subst (λ o. IsPlace (flows_of (records_of stage)) (segment_of stage b.packet) o) there
          (packet_placed stage b.packet));
    } where
      by_segment : AreFacts stage past e.clock.0 e.what x → (o : Option Segment) → segment_of stage b.packet ≡ o
          → IsPlace (flows_of (records_of stage)) o (Some place)
          → changed_at (observed b x) (table stage (records_of stage) past) place
          ≡ table stage (records_of stage) (e ∷ past)
      by_segment facts None seg k = absurd k
      by_segment facts (Some s) seg k =
          sym (map_changed (row stage (records_of stage) past) (row stage (records_of stage) (e ∷ past))
          (observed b x) (flows_of (records_of stage)) place s.flow (distinct (records_of stage)) k
          (λ q other. other_observed stage (records_of stage) past e found b s q is seg other)
          (here_observed stage (records_of stage) past e found x b s is seg facts by broke))

-- the place of a packet is one of a connection
place_there : (stage : Stage) (past : List Event) (k place : ℕ) (rows : Rows)
    → packet_place rows.places.items k ≡ Some place → AreRows stage (records_of stage) past rows
    → place < length rows.connections.items
place_there stage past k place rows at kept =
    let there : packet_place (places_of (records_of stage)) k ≡ Some place =
    ap (λ places. packet_place places k) (sym kept.places) ∙ at
    in let below = within (segment_of stage k)
    (subst (λ o. IsPlace (flows_of (records_of stage)) (segment_of stage k) o) there (packet_placed stage k))
    in let e : length rows.connections.items ≡ length (flows_of (records_of stage)) =
    ap length kept.connections ∙ length-map (flows_of (records_of stage)) _
    in omega (arith, below, e) where
      within : (o : Option Segment) → IsPlace (flows_of (records_of stage)) o (Some place)
          → place < length (flows_of (records_of stage))
      within None k = absurd k
      within (Some s) k = place_within (flows_of (records_of stage)) s.flow place k

-- each connection has room
pub have_room : (stage : Stage) (past : List Event) (rows : Rows) → suc (length past) < 2 ^ 64
    → AreRows stage (records_of stage) past rows → HasRoomForEach rows
have_room stage past rows few kept = record {
  there = λ k place at. place_there stage past k place rows at kept;
  room = λ place.
      subst (λ xs. HasRoomAt xs place) (sym kept.connections)
      (room_of (row stage (records_of stage) past) (flows_of (records_of stage)) place
      (λ f. room_in stage f past few));
}

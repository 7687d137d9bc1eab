-- Entries whose servers have the numbers of servers, and the tags that they make.
use Rattle.std.proofs.Common.{◌≡◌, ◌≢◌, ℕ, ◌<◌, ◌≤◌, Option, Some, None, option_map, refl, sym, ap, subst, ◌∙◌}
use Rattle.std.specs.Prelude.{IfSome, IsSomeAnd}
use Rattle.std.proofs.lemmas.Option.{same_Some}
use Rattle.bm_base.specs.Labels.{arrives_at, entry_of, hop_after, onward, server_of, tag_for, tag_of}
use Rattle.bm_base.specs.Inside.Labels.{later_hop}
use Rattle.bm_base.specs.Tags.{GoesRight, IsServer, IsTag}
use Rattle.bm_base.specs.declared.ids.ServerId.{ServerId}
use Rattle.bm_base.specs.declared.label.Entry.{Entry}
use Rattle.bm_base.specs.declared.label.Hop.{Hop}
use Rattle.bm_base.specs.declared.label.Hop.TheVariants.{Direct, Chained, Twice}
use Rattle.bm_base.specs.declared.label.Label.{Label}
use Rattle.bm_base.specs.declared.label.Past.{Past}
use Rattle.bm_base.specs.declared.label.Tag.{Tag}

-- the servers of an entry have numbers of servers, and each differs from the one before it
pub record IsEntry (e : Entry) : Type 0 where
  pub cur : IsServer e.cur
  pub prev : IfSome e.prev (λ p. IsServer p.server)
  pub apart : server_of e.prev ≢ Some e.cur
  pub older : IfSome e.older (λ o. IsServer o.server × IsSomeAnd e.prev (λ p. o.server ≢ p.server))

-- an entry's stamps are at most this
pub record AreEarly (top : ℕ) (e : Entry) : Type 0 where
  pub prev : IfSome e.prev (λ p. p.stamp.0 ≤ top)
  pub older : IfSome e.older (λ p. p.stamp.0 ≤ top)

past_server : (past : Option Past) (server : ServerId) → IfSome past (λ p. IsServer p.server)
    → server_of past ≡ Some server → IsServer server
past_server None server is there = absurd (cc)
past_server (Some p) server is there = subst IsServer (same_Some _ _ there) is

older_server : (prev older : Option Past)
    → IfSome older (λ o. IsServer o.server × IsSomeAnd prev (λ p. o.server ≢ p.server))
    → IfSome older (λ o. IsServer o.server)
older_server prev None is = tt
older_server prev (Some o) is = is.0

stop_server : (e : Entry) (hop : Hop) (server : ServerId) → IsEntry e → arrives_at e hop ≡ Some server → IsServer server
stop_server e Direct server is at = subst IsServer (same_Some _ _ at) is.cur
stop_server e Chained server is at = past_server e.prev server is.prev at
stop_server e Twice server is at = past_server e.older server (older_server e.prev e.older is.older) at

stop_right : (e : Entry) (hop : Hop) (server : ServerId) → IsEntry e → arrives_at e hop ≡ Some server
    → GoesRight hop server e.prev e.older
stop_right e Direct server is at = λ same. is.apart (same ∙ sym at)
stop_right e Chained server is at = at
stop_right e Twice server is at = at

tag_to : (l : Label) (hop : Hop) (t : Tag) (dest : Option ServerId) → IsEntry l.entry → l.mux.0 < 64
    → arrives_at l.entry hop ≡ dest → option_map (tag_for l hop) dest ≡ Some t → IsTag t
tag_to l hop t None e mux at is = absurd (cc)
tag_to l hop t (Some server) e mux at is = subst IsTag (same_Some _ _ is) (record {
  dest = stop_server l.entry hop server e at;
  prev = e.prev;
  older = e.older;
  mux = mux;
  hop = stop_right l.entry hop server e at;
})

-- the tag of each copy is valid
pub tag_valid : (l : Label) (hop : Hop) (t : Tag) → IsEntry l.entry → l.mux.0 < 64 → tag_of l hop ≡ Some t → IsTag t
tag_valid l hop t e mux is = tag_to l hop t (arrives_at l.entry hop) e mux refl is

-- what may be passed on goes on by a later hop, to where that hop's copies arrive
pub record IsPassed (e : Entry) (hop : Hop) (to : ServerId) : Type 0 where
  pub next : hop_after hop ≡ Some (later_hop hop)
  pub onto : server_of (onward e hop) ≡ Some to
  pub stop : arrives_at e (later_hop hop) ≡ Some to

pub is_passed : (e : Entry) (hop : Hop) (to : ServerId) → server_of (onward e hop) ≡ Some to → IsPassed e hop to
is_passed e Direct to onto = record { next = refl; onto = onto; stop = onto }
is_passed e Chained to onto = record { next = refl; onto = onto; stop = onto }
is_passed e Twice to onto = absurd (cc)

pub stops_there : (e : Entry) (hop next : Hop) (to : ServerId) → hop_after hop ≡ Some next
    → server_of (onward e hop) ≡ Some to → arrives_at e next ≡ Some to
stops_there e Direct next to after onto = rw (sym (same_Some _ _ after)) onto
stops_there e Chained next to after onto = rw (sym (same_Some _ _ after)) onto
stops_there e Twice next to after onto = absurd (cc)

-- the tag of the next hop is that of this one, with the hop and the destination changed
pub tag_passed : (l : Label) (hop next : Hop) (t : Tag) (to : ServerId) → arrives_at l.entry next ≡ Some to
    → tag_of l hop ≡ Some t → tag_of l next ≡ Some (record t { hop = next; dest = to })
tag_passed l hop next t to stop is = go (arrives_at l.entry hop) is where
  go : (dest : Option ServerId) → option_map (tag_for l hop) dest ≡ Some t
      → tag_of l next ≡ Some (record t { hop = next; dest = to })
  go None is = absurd (cc)
  go (Some server) is =
      let there : tag_of l next ≡ Some (tag_for l next to) = rw stop refl
      in there ∙ ap (λ (x : Tag). Some (record x { hop = next; dest = to })) (same_Some _ _ is)

onward_of_tag : (l : Label) (hop h : Hop) (dest : ServerId) → onward (entry_of (tag_for l hop dest)) h ≡ onward l.entry h
onward_of_tag l hop Direct dest = refl
onward_of_tag l hop Chained dest = refl
onward_of_tag l hop Twice dest = refl

-- a tag says where its label has a copy passed on to
pub onward_by_label : (l : Label) (hop : Hop) (t : Tag) → tag_of l hop ≡ Some t
    → onward (entry_of t) hop ≡ onward l.entry hop
onward_by_label l hop t is = go (arrives_at l.entry hop) is where
  go : (dest : Option ServerId) → option_map (tag_for l hop) dest ≡ Some t → onward (entry_of t) hop ≡ onward l.entry hop
  go None is = absurd (cc)
  go (Some server) is =
      ap (λ (x : Tag). onward (entry_of x) hop) (sym (same_Some _ _ is)) ∙ onward_of_tag l hop hop server

turned_right : (e : Entry) (hop next : Hop) (to : ServerId) → hop_after hop ≡ Some next
    → server_of (onward e hop) ≡ Some to → GoesRight next to e.prev e.older
turned_right e Direct next to after onto = rw (sym (same_Some _ _ after)) onto
turned_right e Chained next to after onto = rw (sym (same_Some _ _ after)) onto
turned_right e Twice next to after onto = absurd (cc)

turned_server : (t : Tag) (hop : Hop) (to : ServerId) → IsTag t → server_of (onward (entry_of t) hop) ≡ Some to
    → IsServer to
turned_server t Direct to is onto = past_server t.prev to is.prev onto
turned_server t Chained to is onto = past_server t.older to (older_server t.prev t.older is.older) onto
turned_server t Twice to is onto = absurd (cc)

-- the tag of a copy that is passed on is valid
pub tag_turned : (t : Tag) (next : Hop) (to : ServerId) → IsTag t → hop_after t.hop ≡ Some next
    → server_of (onward (entry_of t) t.hop) ≡ Some to → IsTag (record t { hop = next; dest = to })
tag_turned t next to is after onto = record {
  dest = turned_server t t.hop to is onto;
  prev = is.prev;
  older = is.older;
  mux = is.mux;
  hop = turned_right (entry_of t) t.hop next to after onto;
}

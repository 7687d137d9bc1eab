-- A copy that arrives carries its tag and its packet's segment, and goes on by them.
use Rattle.std.proofs.Common.{◌≡◌, ℕ, ◌-◌, List, [], Option, Some, None, sym, ap, subst, ◌∙◌}
use Rattle.std.specs.Prelude.{slice_index_or}
use Rattle.std.proofs.lemmas.Option.{same_Some}
use Rattle.bm_base.specs.declared.capture.Body.TheVariants.{Steerable}
use Rattle.bm_base.specs.declared.flow.Segment.{Segment}
use Rattle.bm_base.specs.declared.ids.Moment.{Moment}
use Rattle.bm_base.specs.declared.ids.ServerId.{ServerId}
use Rattle.bm_base.proofs.Entries.{IsPassed}
use Rattle.bm_base.specs.Inside.Labels.{later_hop}
use Rattle.bm_base.specs.declared.label.Tag.{Tag}
use Rattle.bm_base.specs.Tags.{IsTag}
use Rattle.bm_link.specs.Fits.{IsPacketOf}
use Rattle.bm_encap.specs.Spellings.{spelling}
use Rattle.bm_encap.specs.Inside.Spellings.{FitsFields}
use Rattle.bm_fault.specs.declared.wire.Flight.{Flight}
use Rattle.bm_fault.specs.Wires.{first_flight, others}
use Rattle.bm_core.specs.declared.events.Verdict.{Verdict}
use Rattle.bm_core.specs.declared.events.Verdict.TheVariants.{Accept, Process, Forward, Reset, Drop}
use Rattle.bm_core.specs.Accounts.{Rules}
use Rattle.bm_core.specs.Past.{segment_of, shard}
use Rattle.bm_core.specs.Verdicts.{entry_of}
use Rattle.bm_core.proofs.Forwards.{forwarded}
use Rattle.bm_shard.specs.States.{State, clock_at, known_in}
use Rattle.bm_fault.specs.Flying.{Flying}
use Rattle.bm_shard.specs.declared.calls.ShardCall.TheVariants.{Arrive as AsksArrive}
use Rattle.bm_replay.specs.declared.player.Player.{Player}
use Rattle.bm_replay.specs.Inside.Carriers.{carried, next_tag}
use Rattle.bm_replay.specs.Inside.Players.{CanArrive, HasArrived, HasGone, passes_to, after_arrival, place_for}
use Rattle.bm_replay.specs.Inside.Players.{verdict_for}
use Rattle.bm_replay.specs.Inside.Players.{HasCalled, forwards, what_for}
use Rattle.bm_replay.specs.Inside.Shards.{IsCalled, arrival, before, state_at}
use Rattle.bm_replay.proofs.Carriers.{carries, goes_on}

-- the copy that comes first, with a valid tag, and the packet within
pub record IsCopy (p : Player) (flight : Flight) (s : Segment) (octets : List ℕ) : Type 0 where
  pub tag : IsTag flight.tag
  pub fits : FitsFields flight.tag
  pub packet : IsPacketOf (Steerable s) octets

pub is_copy : (at : Moment) (p : Player) (can : CanArrive at p) (flight : Flight) (octets : List ℕ)
    → first_flight p.wire ≡ Some flight
    → octets ≡ slice_index_or p.packets (flight.packet - 1) [] → IsCopy p flight can.segment octets
is_copy at p can flight octets first is =
    let same : can.flight ≡ flight = same_Some _ _ (sym can.is_flight ∙ first)
    in let packet : IsPacketOf (Steerable can.segment) (slice_index_or p.packets (flight.packet - 1) []) =
    subst (λ (f : Flight). IsPacketOf (Steerable can.segment) (slice_index_or p.packets (f.packet - 1) [])) same
    can.packet
    in record {
      tag = subst (λ (f : Flight). IsTag f.tag) same can.tag;
      fits = subst (λ (f : Flight). FitsFields f.tag) same can.fits;
      packet = subst (λ (l : List ℕ). IsPacketOf (Steerable can.segment) l) (sym is) packet;
    }

-- its octets say the tag and the segment
pub says : (p : Player) (flight : Flight) (s : Segment) (octets carrier : List ℕ) → IsCopy p flight s octets
    → carrier ≡ spelling flight.tag octets → carried flight.tag.dest carrier ≡ Some (flight.tag, s)
says p flight s octets carrier is same =
    ap (λ (l : List ℕ). carried flight.tag.dest l) same ∙ carries flight.tag octets s is.tag is.fits is.packet.0 is.packet.1

-- what was read of its octets
pub record IsReadAs (flight : Flight) (s : Segment) (tag : Tag) (segment : Segment) : Type 0 where
  pub tag_is : flight.tag ≡ tag
  pub segment_is : s ≡ segment

pub read_as : (flight : Flight) (s segment : Segment) (tag : Tag) (read : Option (Tag × Segment)) (carrier : List ℕ)
    → read ≡ carried flight.tag.dest carrier → carried flight.tag.dest carrier ≡ Some (flight.tag, s) → read ≡ Some (tag, segment)
    → IsReadAs flight s tag segment
read_as flight s segment tag read carrier by said is =
    let same : (flight.tag, s) ≡ (tag, segment) = same_Some _ _ (sym said ∙ (sym by ∙ is))
    in record { tag_is = ap (λ (x : Tag × Segment). x.0) same; segment_is = ap (λ (x : Tag × Segment). x.1) same }

pub is_read : (flight : Flight) (s : Segment) (read : Option (Tag × Segment)) (carrier : List ℕ)
    → read ≡ carried flight.tag.dest carrier → carried flight.tag.dest carrier ≡ Some (flight.tag, s) → read ≡ None → ⊥
is_read flight s read carrier by said none =
    let bad : ◌≡◌ {A = Option (Tag × Segment)} None (Some (flight.tag, s)) = sym none ∙ (by ∙ said) in absurd (cc)

-- where a verdict passes it on, it is the verdict that forwards there
passes_forward : (v : Verdict) (to : ServerId) → passes_to v ≡ Some to → v ≡ Forward to
passes_forward (Forward server) to is = ap (λ (s : ServerId). Forward s) (same_Some _ _ is)
passes_forward Accept to is = absurd (cc)
passes_forward (Process taken) to is = absurd (cc)
passes_forward (Reset why) to is = absurd (cc)
passes_forward (Drop why) to is = absurd (cc)

-- where it is forwarded, they say the tag of the next hop
pub says_next : (at : Moment) (p : Player) (flight : Flight) (s segment : Segment) (tag : Tag) (octets carrier : List ℕ)
    (next : Option ServerId)
    → IsCopy p flight s octets → carrier ≡ spelling flight.tag octets → IsReadAs flight s tag segment
    → next ≡ passes_to (verdict_for p at (record { packet = flight.packet; tag = tag }) segment)
    → (to : ServerId) → next ≡ Some to → next_tag carrier ≡ Some (record tag { hop = later_hop tag.hop; dest = to })
says_next at p flight s segment tag octets carrier next is same read by to forward =
    subst (λ (t : Tag). next_tag carrier ≡ Some (record t { hop = later_hop t.hop; dest = to })) read.tag_is
    (ap (λ (l : List ℕ). next_tag l) same
    ∙ goes_on flight.tag octets to is.tag is.fits is.packet.0 passes) where
      forwards : verdict_for p at flight s ≡ Forward to
      forwards =
          (λ i. verdict_for p at (record { packet = flight.packet; tag = read.tag_is i }) (read.segment_is i))
          ∙ passes_forward _ to (sym by ∙ forward)

      passes : IsPassed (entry_of flight.tag) flight.tag.hop to
      passes = forwarded (known_in (state_at p.shards (place_for p flight s)) s.flow)
          (state_at p.shards (place_for p flight s)).shard.timeout
          (clock_at (state_at p.shards (place_for p flight s)) (arrival flight s at)).0
          (entry_of flight.tag) flight.tag.hop s to forwards

-- the copy arrived, and what happened is written
pub record HasCome (at : Moment) (flight : Flight) (segment : Segment) (p wrote : Player) : Type 0 where
  pub states : List State
  pub called : IsCalled (place_for p flight segment) (arrival flight segment at) p.shards states
  pub is : wrote ≡ after_arrival at flight segment states p

-- the copy arrived, and went on
pub comes : (F : Rules) (at : Moment) (p wrote q : Player) (can : CanArrive at p) (flight : Flight) (segment : Segment)
    (tag : Tag) (next : Option ServerId)
    → first_flight p.wire ≡ Some flight → IsReadAs flight can.segment tag segment
    → next ≡ passes_to (verdict_for p at (record { packet = flight.packet; tag = tag }) segment)
    → HasCome at (record { packet = flight.packet; tag = tag }) segment p wrote
    → HasGone F at (record { packet = flight.packet; tag = tag }) next wrote q → HasArrived F at p q
comes F at p wrote q can flight segment tag next first read by come gone =
    let same : can.flight ≡ flight = same_Some _ _ (sym can.is_flight ∙ first)
    in record {
      flight = flight;
      is_flight = first;
      segment = can.segment;
      is_segment = subst (λ (f : Flight). segment_of p.stage f.packet ≡ Some can.segment) same can.is_segment;
      states = come.states;
      called = there.0;
      is = there.1;
    } where
      Went : Tag → Segment → Type 0
      Went t x = IsCalled (place_for p (record { packet = flight.packet; tag = t }) x)
          (arrival (record { packet = flight.packet; tag = t }) x at) p.shards come.states
          × HasGone F at (record { packet = flight.packet; tag = t })
          (passes_to (verdict_for p at (record { packet = flight.packet; tag = t }) x))
          (after_arrival at (record { packet = flight.packet; tag = t }) x come.states p) q

      went : Went tag segment
      went = (
        come.called,
        subst (λ (o : Option ServerId). HasGone F at (record { packet = flight.packet; tag = tag }) o
            (after_arrival at (record { packet = flight.packet; tag = tag }) segment come.states p) q) by
            (subst (λ (x : Player). HasGone F at (record { packet = flight.packet; tag = tag }) next x q) come.is gone),
      )

      there : Went flight.tag can.segment
      there = subst (λ (t : Tag). Went t can.segment) (sym read.tag_is)
          (subst (λ (x : Segment). Went tag x) (sym read.segment_is) went)

-- what has a next hop says it
pub some_next : (o : Option Tag) (tag : Tag) → o ≡ Some tag → o ≡ None → ⊥
some_next o tag some none = let bad : ◌≡◌ {A = Option Tag} None (Some tag) = sym none ∙ some in absurd (cc)

-- the call of an arrival, and what happens at it
pub call_is : (at : Moment) (p wrote : Player) (flight : Flight) (segment : Segment) (h : ℕ) (due : Moment)
    (wire : List Flying)
    → wire ≡ others p.wire → h ≡ shard p.stage segment.flow → due ≡ before at
    → HasCalled at flight.tag.dest h (AsksArrive flight.packet flight.tag segment due) (record p { wire = wire }) wrote
    → HasCome at flight segment p wrote
call_is at p wrote flight segment h due wire popped here early called = record {
  states = there.states;
  called = there.called;
  is = there.is;
} where
  there : HasCalled at flight.tag.dest (shard p.stage segment.flow) (arrival flight segment at)
      (record p { wire = others p.wire }) wrote
  there = subst (λ (x : ℕ). HasCalled at flight.tag.dest x (arrival flight segment at)
      (record p { wire = others p.wire }) wrote) here
      (subst (λ (m : Moment). HasCalled at flight.tag.dest h (AsksArrive flight.packet flight.tag segment m)
      (record p { wire = others p.wire }) wrote) early
      (subst (λ (l : List Flying). HasCalled at flight.tag.dest h (AsksArrive flight.packet flight.tag segment due)
      (record p { wire = l }) wrote) popped called))

pub next_is : (at : Moment) (p : Player) (flight : Flight) (segment : Segment) (h : ℕ) (due : Moment)
    (wire : List Flying)
    → h ≡ shard p.stage segment.flow → due ≡ before at
    → forwards (what_for (record p { wire = wire }) flight.tag.dest h (AsksArrive flight.packet flight.tag segment due))
    ≡ passes_to (verdict_for p at flight segment)
next_is at p flight segment h due wire here early =
    λ i. forwards (what_for p flight.tag.dest (here i) (AsksArrive flight.packet flight.tag segment (early i)))

-- The packets of one mux come to a shard from one worker, in their order.
use Rattle.std.proofs.Common.{◌≡◌, ℕ, suc, ◌+◌, ◌≤◌, Bool, true, false, ◌&&◌, inl, inr, List, [], ◌∷◌, Option, Some}
use Rattle.std.proofs.Common.{None, refl, sym, ◌∙◌, subst, arith, ltb, eqb}
use Rattle.std.specs.Prelude.{IfSome, is_some}
use Rattle.std.specs.List.{AllByRecursion}
use Rattle.std.proofs.lemmas.Bool.{cases_eq, eqb-true, eq-eqb, and_parts, and_from}
use Rattle.bm_base.specs.declared.ids.ServerId.{ServerId}
use Rattle.bm_base.specs.declared.ids.MuxId.{MuxId}
use Rattle.bm_base.specs.declared.flow.Segment.{Segment}
use Rattle.bm_base.specs.declared.label.Label.{Label}
use Rattle.bm_core.specs.declared.events.What.{What}
use Rattle.bm_core.specs.declared.events.What.TheVariants.{Publish, Switch, Steer, Lose, Arrive, Close, Retire, Sync}
use Rattle.bm_core.specs.declared.events.Event.{Event}
use Rattle.bm_core.specs.declared.events.Stage.{Stage}
use Rattle.bm_table.specs.Tables.{same_server}
use Rattle.bm_core.specs.Past.{segment_of, shard, label_of}
use Rattle.bm_core.specs.Runs.Actor.{MuxOf}
use Rattle.bm_core.specs.Accounts.{counts, steers_packet}
use Rattle.bm_core.specs.Threads.{is_in, is_from, arrives_later}
use Rattle.bm_merge.specs.Merges.{Log, named}
use Rattle.bm_merge.specs.Notes.{Note, events_of, many}
use Rattle.bm_merge.proofs.Promised.{AreInOrder}
use Rattle.bm_merge.specs.Workers.{arrives_after}
use Rattle.bm_merge.proofs.Reaching.{one_if}

-- the packet has a Steer by the worker of this seat
abbrev pub IsSteeredBy : List Note → ℕ → ℕ → Type 0
IsSteeredBy all k seat = 1 ≤ many (λ y. steers_packet y.event.what k && eqb y.seat seat) all

both_seats : (t a b : Bool) → (a ≡ true → b ≡ true → ⊥) → one_if (t && a) + one_if (t && b) ≤ one_if t
both_seats t true true not = absurd (not refl refl)
both_seats true true false not = omega arith
both_seats true false true not = omega arith
both_seats true false false not = omega arith
both_seats false true false not = omega arith
both_seats false false true not = omega arith
both_seats false false false not = omega arith

two_seats : (k v w : ℕ) (all : List Note) → (v ≡ w → ⊥)
    → many (λ y. steers_packet y.event.what k && eqb y.seat v) all + many
    (λ y. steers_packet y.event.what k && eqb y.seat w) all ≤ many (λ y. steers_packet y.event.what k) all
two_seats k v w [] not = omega arith
two_seats k v w (n ∷ all) not =
    let old = two_seats k v w all not
    in let apart : eqb n.seat v ≡ true → eqb n.seat w ≡ true → ⊥ =
    λ a b. not (sym (eqb-true n.seat v a) ∙ eqb-true n.seat w b)
    in let here : one_if (steers_packet n.event.what k && eqb n.seat v) + one_if
    (steers_packet n.event.what k && eqb n.seat w) ≤ one_if (steers_packet n.event.what k) =
    both_seats (steers_packet n.event.what k) (eqb n.seat v) (eqb n.seat w) apart
    in omega arith

-- it has one worker
pub one_worker : (k v w : ℕ) (all : List Note) → many (λ y. steers_packet y.event.what k) all ≤ 1
    → IsSteeredBy all k v → IsSteeredBy all k w → v ≡ w
one_worker k v w all once a b = elim (cases_eq v w) [
  | inl same ↦ same
  | inr not ↦ let two = two_seats k v w all not in absurd (omega arith)
]

-- an arrival is of a packet that its worker steered
abbrev pub IsKnown : List Note → Note → What → Type 0
IsKnown all n (Arrive k hop server verdict) = IsSteeredBy all k n.seat
IsKnown all n _ = Unit {0}

is_labelled : (o : Option Label) (m : ℕ) → is_from o m ≡ true → is_some o ≡ true
is_labelled None m h = absurd (cc)
is_labelled (Some l) m h = refl

-- what comes later of the mux is by this seat
later_seat : (stage : Stage) (log : List Event) (all : List Note) (s : ServerId) (h m k seat : ℕ) (y : Note)
    (what : What)
    → ((j : ℕ) → many (λ z. steers_packet z.event.what j) all ≤ 1)
    → ((j : ℕ) → is_some (label_of stage log j) ≡ true → IsSteeredBy all j seat) → IsKnown all y what
    → arrives_later stage log what s h m k ≡ true → (eqb y.seat seat && arrives_after k what) ≡ true
later_seat stage log all s h m k seat y (Arrive packet hop server verdict) once steered known is =
    let a =
    and_parts
    ((same_server server s && is_in (segment_of stage packet) stage h) && is_from (label_of stage log packet) m)
    (ltb k packet) is
    in let b =
    and_parts (same_server server s && is_in (segment_of stage packet) stage h)
    (is_from (label_of stage log packet) m) a.0
    in let by : IsSteeredBy all packet seat = steered packet (is_labelled (label_of stage log packet) m b.1)
    in let same : y.seat ≡ seat = one_worker packet y.seat seat all (once packet) known by
    in and_from _ _ (eq-eqb _ _ same) a.1
later_seat stage log all s h m k seat y (Publish v) once steered known is = absurd (cc)
later_seat stage log all s h m k seat y (Switch n v) once steered known is = absurd (cc)
later_seat stage log all s h m k seat y (Steer j n) once steered known is = absurd (cc)
later_seat stage log all s h m k seat y (Lose j hop) once steered known is = absurd (cc)
later_seat stage log all s h m k seat y (Close server flow closed) once steered known is = absurd (cc)
later_seat stage log all s h m k seat y (Retire server n at result) once steered known is = absurd (cc)
later_seat stage log all s h m k seat y Sync once steered known is = absurd (cc)

most_if : (p q : Bool) → (p ≡ true → q ≡ true) → one_if p ≤ one_if q
most_if true q so = let h = so refl in rw h (omega arith)
most_if false q so = omega arith

later_most : (stage : Stage) (log : List Event) (all : List Note) (s : ServerId) (h m k seat : ℕ) (rest : List Note)
    → ((j : ℕ) → many (λ z. steers_packet z.event.what j) all ≤ 1)
    → ((j : ℕ) → is_some (label_of stage log j) ≡ true → IsSteeredBy all j seat)
    → AllByRecursion (λ y. IsKnown all y y.event.what) rest
    → counts (events_of rest) (λ what. arrives_later stage log what s h m k)
    ≤ many (λ y. eqb y.seat seat && arrives_after k y.event.what) rest
later_most stage log all s h m k seat [] once steered known = omega arith
later_most stage log all s h m k seat (y ∷ rest) once steered known =
    let old = later_most stage log all s h m k seat rest once steered known.1
    in let here =
    most_if (arrives_later stage log y.event.what s h m k) (eqb y.seat seat && arrives_after k y.event.what)
    (later_seat stage log all s h m k seat y y.event.what once steered known.0)
    in omega arith

-- the packets of one mux come in their order where each worker's do
pub in_order : (stage : Stage) (logs : List Log) (all rest : List Note) (k : ℕ) (server : ServerId) (seat : ℕ)
    → ((j : ℕ) → many (λ z. steers_packet z.event.what j) all ≤ 1)
    → ((m : MuxId) (j : ℕ) → is_some (label_of stage (named logs (MuxOf m.0)) j) ≡ true
    → IsSteeredBy all j (suc m.0))
    → AllByRecursion (λ y. IsKnown all y y.event.what) rest → IsSteeredBy all k seat
    → many (λ y. eqb y.seat seat && arrives_after k y.event.what) rest ≡ 0
    → AreInOrder stage logs (events_of rest) k server
in_order stage logs all rest k server seat once steered known mine none m labelled = go (segment_of stage k) where
  go : (o : Option Segment)
      → IfSome o
      (λ s. counts (events_of rest)
      (λ what. arrives_later stage (named logs (MuxOf m.0)) what server (shard stage s.flow) m.0 k) ≡ 0)
  go None = tt
  go (Some s) =
      let at : seat ≡ suc m.0 = one_worker k seat (suc m.0) all (once k) mine (steered m k labelled)
      in let most =
      later_most stage (named logs (MuxOf m.0)) all server (shard stage s.flow) m.0 k seat rest once
      (λ j h. subst (λ (w : ℕ). IsSteeredBy all j w) (sym at) (steered m j h)) known
      in omega arith

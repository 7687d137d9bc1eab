-- What the calls do to the slots.
use Rattle.std.proofs.Common.{◌≡◌, ℕ, zero, suc, ◌+◌, ◌<◌, ◌≤◌, true, cond, List, [], ◌∷◌, ◌++◌, length, set, take}
use Rattle.std.proofs.Common.{drop, replicate, Option, Some, None, is_some, inl, inr, refl, sym, ap, subst, ◌∙◌, arith}
use Rattle.std.proofs.Common.{rules, length-set, length-append, drop-cons, get_or-set_same}
use Rattle.std.proofs.lemmas.List.{take_more, take-append-drop, append-nil}
use Rattle.std.specs.Prelude.{IsSome}
use Rattle.std.proofs.lemmas.Bool.{cases_Bool, both_ways}
use Rattle.bm_base.specs.declared.flow.Flow.{Flow}
use Rattle.bm_base.specs.Segments.{same_flow}
use Rattle.bm_seq.specs.declared.receiver.Receiver.{Receiver}
use Rattle.bm_conn.specs.declared.table.Connection.{Connection}
use Rattle.bm_conn.specs.declared.slot.Slot.{Slot}
use Rattle.bm_conn.specs.declared.slot.Slot.TheVariants.{Free, Used}
use Rattle.bm_conn.specs.Connections.{receiver_in, AreOnce}
use Rattle.bm_conn.specs.Slots.{slot_at, is_of, AreReached, Stops}
use Rattle.bm_conn.specs.Inside.Slots.{used, HoldsSame, IsPlaced, IsPutInto, AreMoved}
use Rattle.bm_conn.specs.Slots.{IsPlaceOf}
use Rattle.bm_conn.specs.Inside.Slots.{receiver_of}
use Rattle.bm_conn.proofs.Flows.{same_flow-true, same_flow_refl}
use Rattle.bm_conn.proofs.Maps.{receiver-put}
use Rattle.bm_conn.proofs.Filled.{absent_at, receiver_filled, receiver_freed, length_filled, length_freed, once_filled}
use Rattle.bm_conn.proofs.Filled.{once_freed, receiver_at}
use Rattle.bm_conn.proofs.Reached.{HasPassed, used_by, free_is, used_is, found_none, reached_filled}

-- WHERE A WALK STOPS

pub stop_used : (s : List Slot) (f : Flow) (place : ℕ) (g : Flow) (r : Receiver) → Stops s f place
    → slot_at s place ≡ Used g r → slot_at s place ≡ Used f r
stop_used s f place g r stops is = elim stops [
  | inl free ↦ absurd (both_ways _ (used_is (slot_at s place) g r is) free)
  | inr own ↦
      let same : same_flow g f ≡ true = sym (ap (λ (x : Slot). is_of f x) is) ∙ own
      in is ∙ ap (λ (h : Flow). Used h r) (same_flow-true g f same)
]

pub stop_free : (s : List Slot) (f : Flow) (place : ℕ) → Stops s f place → place < length s
    → receiver_in (used s) f ≡ None → slot_at s place ≡ Free
stop_free s f place stops inside none = elim stops [
  | inl free ↦ free_is (slot_at s place) free
  | inr own ↦ absurd (both_ways _ (absent_at s f place inside none) own)
]

not_none : (o : Option Receiver) → IsSome o → o ≡ None → ⊥
not_none None some none = search rules
not_none (Some r) some none = cc

pub stop_there : (s : List Slot) (f : Flow) (place : ℕ) → Stops s f place → place < length s → IsPlaced s
    → HasPassed s f place → IsSome (receiver_in (used s) f) → (r : Receiver) × (slot_at s place ≡ Used f r)
stop_there s f place stops inside placed passed some = elim stops [
  | inl free ↦ absurd (not_none (receiver_in (used s) f) some (found_none s f place placed.reached inside free passed))
  | inr own ↦ used_by (slot_at s place) f own
]

-- the receiver at the flow's place
pub place_receiver : (s : List Slot) (f : Flow) (place : ℕ) → IsPlaced s → IsPlaceOf s f place
    → receiver_of (slot_at s place) ≡ receiver_in (used s) f
place_receiver s f place placed at = elim at.stops [
  | inl free ↦ ap (λ (x : Slot). receiver_of x) (free_is (slot_at s place) free)
      ∙ sym (found_none s f place placed.reached at.within free at.passed)
  | inr own ↦
      let is : (r : Receiver) × (slot_at s place ≡ Used f r) = used_by (slot_at s place) f own
      in ap (λ (x : Slot). receiver_of x) is.1 ∙ sym (receiver_at s place f is.0 at.within is.1 placed.once)
]

-- PUT

pub filled_puts : (s : List Slot) (place : ℕ) (f : Flow) (r : Receiver) → place < length s → slot_at s place ≡ Free
    → IsPlaced s → receiver_in (used s) f ≡ None → HasPassed s f place → IsPutInto f (Some r) s (set s place (Used f r))
filled_puts s place f r inside free placed none passed = record {
  size = length-set s place (Used f r);
  placed = record {
    once = once_filled s place f r inside free none placed.once;
    reached =
        subst (λ (n : ℕ). AreReached (set s place (Used f r)) n) (sym (length-set s place (Used f r)))
        (reached_filled s (length s) place f r refl placed.reached inside (λ k h less. (passed k h less).0));
  };
  each = λ g. receiver_filled s place f r g inside free none;
}

set_twice : (s : List Slot) (place : ℕ) (x y : Slot) → set (set s place x) place y ≡ set s place y
set_twice [] place x y = refl
set_twice (z ∷ s) zero x y = refl
set_twice (z ∷ s) (suc place) x y = ap (λ (l : List Slot). z ∷ l) (set_twice s place x y)

given_each : (f g : Flow) (r : Receiver) (o p q : Option Receiver) → q ≡ cond (same_flow f g) (Some r) p
    → p ≡ cond (same_flow f g) None o → q ≡ cond (same_flow f g) (Some r) o
given_each f g r o p q a b = elim (cases_Bool (same_flow f g)) [
  | inl same ↦ let e = rw same at a in rw same e
  | inr other ↦ let e = rw other at a in let d = rw other at b in rw other (e ∙ d)
]

pub given_puts : (s : List Slot) (place : ℕ) (f : Flow) (r old : Receiver) → place < length s
    → slot_at s place ≡ Used f old → IsPlaced s → HasPassed s f place
    → IsPutInto f (Some r) s (set s place (Used f r)) × (length (used (set s place (Used f r))) ≡ length (used s))
given_puts s place f r old inside is placed passed =
    let within : place < length (set s place Free) = omega (arith, length-set s place Free)
    in let free : slot_at (set s place Free) place ≡ Free = get_or-set_same s place Free Free inside
    in let none : receiver_in (used (set s place Free)) f ≡ None =
    receiver_freed s place f old f inside is placed.once ∙ rw (same_flow_refl f) refl
    in let once : AreOnce (used (set s place Free)) = once_freed s place placed.once
    in let twice : set (set s place Free) place (Used f r) ≡ set s place (Used f r) = set_twice s place Free (Used f r)
    in let once_then : AreOnce (used (set s place (Used f r))) =
    subst (λ (l : List Slot). AreOnce (used l)) twice (once_filled (set s place Free) place f r within free none once)
    in let count : length (used (set (set s place Free) place (Used f r))) ≡ length (used s) =
    omega (arith, length_filled (set s place Free) place f r within free, length_freed s place f old inside is)
    in (
      record {
        size = length-set s place (Used f r);
        placed = record {
          once = once_then;
          reached =
              subst (λ (n : ℕ). AreReached (set s place (Used f r)) n) (sym (length-set s place (Used f r)))
              (reached_filled s (length s) place f r refl placed.reached inside (λ k h less. (passed k h less).0));
        };
        each = λ g.
            let a : receiver_in (used (set s place (Used f r))) g
            ≡ cond (same_flow f g) (Some r) (receiver_in (used (set s place Free)) g) =
            subst (λ (l : List Slot). receiver_in (used l) g
            ≡ cond (same_flow f g) (Some r) (receiver_in (used (set s place Free)) g)) twice
            (receiver_filled (set s place Free) place f r g within free none)
            in given_each f g r (receiver_in (used s) g) (receiver_in (used (set s place Free)) g)
            (receiver_in (used (set s place (Used f r))) g) a (receiver_freed s place f old g inside is placed.once);
      },
      subst (λ (l : List Slot). length (used l) ≡ length (used s)) twice count,
    )

-- a flow that was sought has the receiver
pub filled : (s : List Slot) (f : Flow) (place : ℕ) (r : Receiver) (o : Option Receiver) → IsPlaced s
    → IsPlaceOf s f place → o ≡ receiver_in (used s) f
    → IsPutInto f (Some r) s (set s place (Used f r))
    × (length (used (set s place (Used f r))) ≡ length (used s) + cond (is_some o) 0 1)
filled s f place r None placed at is =
    let free : slot_at s place ≡ Free = stop_free s f place at.stops at.within (sym is)
    in (
      filled_puts s place f r at.within free placed (sym is) at.passed,
      length_filled s place f r at.within free,
    )
filled s f place r (Some before) placed at is =
    let some : IsSome (receiver_in (used s) f) = subst (λ (o : Option Receiver). IsSome o) is refl
    in let own : (old : Receiver) × (slot_at s place ≡ Used f old) =
    stop_there s f place at.stops at.within placed at.passed some
    in let given : IsPutInto f (Some r) s (set s place (Used f r))
    × (length (used (set s place (Used f r))) ≡ length (used s)) =
    given_puts s place f r own.0 at.within own.1 placed at.passed
    in (given.0, omega (arith, given.1))

-- TAKEN AWAY

pub absent_puts : (s : List Slot) (f : Flow) → IsPlaced s → receiver_in (used s) f ≡ None → IsPutInto f None s s
absent_puts s f placed none = record {
  size = refl;
  placed = placed;
  each = λ g. elim (cases_Bool (same_flow f g)) [
    | inl same ↦ rw same (subst (λ (h : Flow). receiver_in (used s) h ≡ None) (same_flow-true f g same) none)
    | inr other ↦ rw other refl
  ];
}

pub taken_puts : (s then : List Slot) (place : ℕ) (f : Flow) (r : Receiver) → place < length s
    → slot_at s place ≡ Used f r → IsPlaced s
    → AreReached then (length (set s place Free))
    → HoldsSame (set s place Free) then → IsPutInto f None s then × (length (used then) + 1 ≡ length (used s))
taken_puts s then place f r inside is placed reached same = (
  record {
    size = same.size ∙ length-set s place Free;
    placed = record { once = same.once; reached = subst (λ (n : ℕ). AreReached then n) (sym same.size) reached };
    each = λ g. same.each g ∙ receiver_freed s place f r g inside is placed.once;
  },
  let count : length (used then) ≡ length (used (set s place Free)) =
      same.count in omega (arith, length_freed s place f r inside is),
)

-- MOVED

used-append : (a b : List Slot) → used (a ++ b) ≡ used a ++ used b
used-append [] b = refl
used-append (Free ∷ a) b = used-append a b
used-append (Used f r ∷ a) b = ap (λ (l : List Connection). record { flow = f; receiver = r } ∷ l) (used-append a b)

none_front : (a b : List Connection) (f : Flow) → receiver_in (a ++ b) f ≡ None → receiver_in a f ≡ None
none_front [] b f none = refl
none_front (c ∷ a) b f none = elim (cases_Bool (same_flow c.flow f)) [
  | inl here ↦ let bad = rw here at none in absurd (cc)
  | inr there ↦ rw there (none_front a b f (rw there at none))
]

behind_found : (a b : List Connection) (c : Connection) → receiver_in (a ++ c ∷ b) c.flow ≡ None → ⊥
behind_found [] b c none = let bad = rw (same_flow_refl c.flow) at none in cc
behind_found (x ∷ a) b c none = elim (cases_Bool (same_flow x.flow c.flow)) [
  | inl here ↦ let bad = rw here at none in absurd (cc)
  | inr there ↦ behind_found a b c (rw there at none)
]

pub front_absent : (a b : List Connection) (c : Connection) → AreOnce (a ++ c ∷ b) → receiver_in a c.flow ≡ None
front_absent [] b c once = refl
front_absent (x ∷ a) b c once = elim (cases_Bool (same_flow x.flow c.flow)) [
  | inl here ↦ absurd
      (behind_found a b c
      (subst (λ (f : Flow). receiver_in (a ++ c ∷ b) f ≡ None) (same_flow-true x.flow c.flow here) once.0))
  | inr there ↦ rw there (front_absent a b c once.1)
]

pub free_used : (n : ℕ) → used (replicate n Free) ≡ []
free_used zero = refl
free_used (suc n) = free_used n

at_replicate : (n p : ℕ) → slot_at (replicate n Free) p ≡ Free
at_replicate zero p = refl
at_replicate (suc n) zero = refl
at_replicate (suc n) (suc p) = at_replicate n p

pub free_placed : (n count : ℕ) → AreReached (replicate n Free) count
free_placed n count =
    record { way = λ p f r is k h less. let bad : Free ≡ Used f r = sym (at_replicate n p) ∙ is in absurd (cc) }

pub moved_none : (places : List Slot) → places ≡ replicate (length places) Free → AreMoved [] places (length places)
moved_none places free = record {
  size = refl;
  placed = record {
    once = subst (λ (l : List Slot). AreOnce (used l)) (sym free)
        (subst (λ (l : List Connection). AreOnce l) (sym (free_used (length places))) tt);
    reached =
        subst (λ (l : List Slot). AreReached l (length places)) (sym free)
        (free_placed (length places) (length places));
  };
  count = ap (λ (l : List Slot). length (used l)) free
      ∙ ap (λ (l : List Connection). length l) (free_used (length places));
  each = λ f. ap (λ (l : List Slot). receiver_in (used l) f) free
      ∙ ap (λ (l : List Connection). receiver_in l f) (free_used (length places));
}

-- those before a place, and the slot there
before_used : (s : List Slot) (i : ℕ) (f : Flow) (r : Receiver) → i < length s → slot_at s i ≡ Used f r
    → used (take (i + 1) s) ≡ used (take i s) ++ (record { flow = f; receiver = r } ∷ [])
before_used s i f r h is =
    ap (λ (l : List Slot). used l) (take_more s i Free h)
    ∙ (used-append (take i s) (slot_at s i ∷ []) ∙ ap (λ (x : Slot). used (take i s) ++ used (x ∷ [])) is)

before_free : (s : List Slot) (i : ℕ) → i < length s → slot_at s i ≡ Free → used (take (i + 1) s) ≡ used (take i s)
before_free s i h is =
    ap (λ (l : List Slot). used l) (take_more s i Free h)
    ∙ (used-append (take i s) (slot_at s i ∷ [])
    ∙ (ap (λ (x : Slot). used (take i s) ++ used (x ∷ [])) is ∙ append-nil (used (take i s))))

all_used : (s : List Slot) (i : ℕ) → used s ≡ used (take i s) ++ used (drop i s)
all_used s i = sym (ap (λ (l : List Slot). used l) (take-append-drop i s)) ∙ used-append (take i s) (drop i s)

pub before_few : (s : List Slot) (i : ℕ) → length (used (take i s)) ≤ length (used s)
before_few s i =
    omega (
      arith,
      ap (λ (l : List Connection). length l) (all_used s i),
      length-append (used (take i s))
          (used (drop i s)),
    )

drop_used : (s : List Slot) (i : ℕ) (f : Flow) (r : Receiver) → i < length s → slot_at s i ≡ Used f r
    → used (drop i s) ≡ record { flow = f; receiver = r } ∷ used (drop (suc i) s)
drop_used s i f r h is =
    ap (λ (l : List Slot). used l) (drop-cons s i Free h) ∙ ap (λ (x : Slot). used (x ∷ drop (suc i) s)) is

pub before_absent : (s : List Slot) (i : ℕ) (f : Flow) (r : Receiver) → i < length s → slot_at s i ≡ Used f r
    → AreOnce (used s) → receiver_in (used (take i s)) f ≡ None
before_absent s i f r h is once =
    let all : used s ≡ used (take i s) ++ (record { flow = f; receiver = r } ∷ used (drop (suc i) s)) =
    all_used s i ∙ ap (λ (l : List Connection). used (take i s) ++ l) (drop_used s i f r h is)
    in front_absent (used (take i s)) (used (drop (suc i) s)) (record { flow = f; receiver = r })
    (subst (λ (l : List Connection). AreOnce l) all once)

moved_put : (f g : Flow) (r : Receiver) (o p q t : Option Receiver) → q ≡ cond (same_flow f g) (Some r) p
    → t ≡ cond (same_flow f g) (Some r) o → p ≡ o → q ≡ t
moved_put f g r o p q t a b e = a ∙ (ap (λ (x : Option Receiver). cond (same_flow f g) (Some r) x) e ∙ sym b)

pub moved_more : (s places then : List Slot) (n i : ℕ) (f : Flow) (r : Receiver) → i < length s → slot_at s i ≡ Used f r
    → AreOnce (used s) → AreMoved (take i s) places n
    → IsPutInto f (Some r) places then → length (used then) ≡ length (used places) + 1
    → AreMoved (take (i + 1) s) then n
moved_more s places then n i f r h is once moved puts count =
    let absent : receiver_in (used (take i s)) f ≡ None = before_absent s i f r h is once
    in let list : used (take (i + 1) s) ≡ used (take i s) ++ (record { flow = f; receiver = r } ∷ []) =
    before_used s i f r h is
    in record {
      size = puts.size ∙ moved.size;
      placed = puts.placed;
      count = let m : length (used places) ≡ length (used (take i s)) =
          moved.count in
          omega (
            arith,
            ap (λ (l : List Connection). length l) list,
            length-append (used (take i s))
                (record { flow = f; receiver = r } ∷ []),
          );
      each = λ g.
          let t : receiver_in (used (take (i + 1) s)) g
          ≡ cond (same_flow f g) (Some r) (receiver_in (used (take i s)) g) =
          ap (λ (l : List Connection). receiver_in l g) list
          ∙ receiver-put (record { flow = f; receiver = r }) (used (take i s)) g absent
          in moved_put f g r (receiver_in (used (take i s)) g) (receiver_in (used places) g) (receiver_in (used then) g)
          (receiver_in (used (take (i + 1) s)) g) (puts.each g) t (moved.each g);
    }

pub moved_skip : (s places : List Slot) (n i : ℕ) → i < length s → slot_at s i ≡ Free → AreMoved (take i s) places n
    → AreMoved (take (i + 1) s) places n
moved_skip s places n i h is moved =
    let list : used (take (i + 1) s) ≡ used (take i s) = before_free s i h is
    in record {
      size = moved.size;
      placed = moved.placed;
      count = moved.count ∙ sym (ap (λ (l : List Connection). length l) list);
      each = λ g. moved.each g ∙ sym (ap (λ (l : List Connection). receiver_in l g) list);
    }

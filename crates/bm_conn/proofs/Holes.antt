-- Closing a hole.
use Rattle.std.proofs.Common.{◌≡◌, ℕ, ◌+◌, ◌<◌, ◌≤◌, true, false, cond, List, length, set, Option, Some, None, inl, inr}
use Rattle.std.proofs.Common.{refl, sym, ap, subst, ◌∙◌, arith, get_or-set_same, get_or-set_other, length-set}
use Rattle.std.proofs.lemmas.List.{get_or_past}
use Rattle.std.proofs.lemmas.Bool.{cases_Bool, cases_eq, cases_lt, both_ways}
use Rattle.bm_base.specs.declared.flow.Flow.{Flow}
use Rattle.bm_base.specs.Segments.{same_flow}
use Rattle.bm_seq.specs.declared.receiver.Receiver.{Receiver}
use Rattle.bm_conn.specs.declared.slot.Slot.{Slot}
use Rattle.bm_conn.specs.declared.slot.Slot.TheVariants.{Free, Used}
use Rattle.bm_conn.specs.Connections.{receiver_in, AreOnce}
use Rattle.bm_conn.specs.Slots.{slot_at, is_free, distance, home, AreReached}
use Rattle.bm_conn.specs.Inside.Slots.{used, after, HasHole, HoldsSame}
use Rattle.bm_conn.specs.Inside.Slots.{IsShifting, Shifts}
use Rattle.bm_conn.proofs.Flows.{same_flow-true, same_flow_refl}
use Rattle.bm_conn.proofs.Places.{distance_same, distance_none, distance_positive, distance_from, distance-lt}
use Rattle.bm_conn.proofs.Places.{distance-after, after-lt, further, home-lt}
use Rattle.bm_conn.proofs.Filled.{receiver_at, receiver_filled, receiver_freed, length_filled, length_freed}
use Rattle.bm_conn.proofs.Filled.{once_filled, once_freed, another_free}
use Rattle.bm_conn.proofs.Reached.{used_is, used_still}

pub used_inside : (s : List Slot) (p : ℕ) (f : Flow) (r : Receiver) → slot_at s p ≡ Used f r → p < length s
used_inside s p f r is = elim (cases_lt p (length s)) [
  | inl fine ↦ fine
  | inr past ↦ let free : slot_at s p ≡ Free = get_or_past s p Free past in let bad : Free ≡ Used f r =
      sym free ∙ is in absurd (cc)
]

-- a hole where a slot was freed
pub hole_freed : (s : List Slot) (n p : ℕ) → length s ≡ n → p < n → AreReached s n → HasHole (set s p Free) n p
hole_freed s n p size inside reached =
    let within : p < length s = omega arith
    in record {
      inside = inside;
      free = get_or-set_same s p Free Free within;
      way = λ q g t is k h less other. elim (cases_eq q p) [
        | inl here ↦
            let at : slot_at (set s p Free) q ≡ Free =
            subst (λ (m : ℕ). slot_at (set s p Free) m ≡ Free) (sym here) (get_or-set_same s p Free Free within)
            in let bad : Free ≡ Used g t = sym at ∙ is
            in absurd (cc)
        | inr there ↦
            let old : slot_at s q ≡ Used g t = sym (get_or-set_other s p q Free Free there) ∙ is
            in ap (λ (x : Slot). is_free x) (get_or-set_other s p k Free Free other) ∙ reached.way q g t old k h less
      ];
    }

-- THE SAME FLOWS

moved_each : (f g : Flow) (r : Receiver) (o p q : Option Receiver) → q ≡ cond (same_flow f g) (Some r) p
    → p ≡ cond (same_flow f g) None o → (same_flow f g ≡ true → o ≡ Some r) → q ≡ o
moved_each f g r o p q a b at = elim (cases_Bool (same_flow f g)) [
  | inl same ↦ let e = rw same at a in e ∙ sym (at same)
  | inr other ↦ let e = rw other at a in let d = rw other at b in e ∙ d
]

pub moved_same : (s : List Slot) (hole place : ℕ) (f : Flow) (r : Receiver) → hole < length s → place < length s
    → (hole ≡ place → ⊥)
    → slot_at s hole ≡ Free → slot_at s place ≡ Used f r → AreOnce (used s)
    → HoldsSame s (set (set s place Free) hole (Used f r))
moved_same s hole place f r hole_inside place_inside apart free is once =
    let inside : hole < length (set s place Free) = omega (arith, length-set s place Free)
    in let still : slot_at (set s place Free) hole ≡ Free = get_or-set_other s place hole Free Free apart ∙ free
    in let none : receiver_in (used (set s place Free)) f ≡ None =
    receiver_freed s place f r f place_inside is once ∙ rw (same_flow_refl f) refl
    in let once_then : AreOnce (used (set s place Free)) = once_freed s place once
    in record {
      size = length-set (set s place Free) hole (Used f r) ∙ length-set s place Free;
      count = omega
          (arith, length_filled (set s place Free) hole f r inside still, length_freed s place f r place_inside is);
      once = once_filled (set s place Free) hole f r inside still none once_then;
      each = λ g. moved_each f g r (receiver_in (used s) g) (receiver_in (used (set s place Free)) g)
          (receiver_in (used (set (set s place Free) hole (Used f r))) g)
          (receiver_filled (set s place Free) hole f r g inside still none)
          (receiver_freed s place f r g place_inside is once)
          (λ same. subst (λ (z : Flow). receiver_in (used s) z ≡ Some r) (same_flow-true f g same)
          (receiver_at s place f r place_inside is once));
    }

-- THE STEPS

pub shifting_none : (s : List Slot) (n start : ℕ) → length s ≡ n → length (used s) + 2 ≤ n → HasHole s n start
    → IsShifting s n start start start 1
shifting_none s n start size few hole = record {
  size = size;
  few = few;
  start_inside = hole.inside;
  place_inside = hole.inside;
  gone = omega (arith, distance_none n start);
  behind = omega arith;
  ways = hole;
  seen = λ k h less other. let far : 0 < distance n start k =
      distance_positive n start k hole.inside h (λ e. other (sym e)) in absurd (omega arith);
  clear = λ k f r h is far near. absurd (omega (arith, distance_none n start));
}

-- a step from the place
next_gone : (n start place steps : ℕ) → start < n → place < n → distance n start place + 1 ≡ steps → steps < n
    → distance n start (after n place) ≡ steps
next_gone n start place steps a b gone more =
    let room : distance n start place + 1 < n = omega arith
    in distance-after n start place a b room ∙ gone

next_behind : (n start hole place steps : ℕ) → start < n → hole < n → place < n → distance n start place + 1 ≡ steps
    → steps < n → distance n start hole ≤ distance n start place
    → distance n hole (after n place) ≡ distance n hole place + 1
next_behind n start hole place steps a b c gone more behind =
    let sum : distance n start hole + distance n hole place ≡ distance n start place =
    distance_from n start hole place a b c behind
    in let room : distance n hole place + 1 < n = omega arith
    in distance-after n hole place b c room

-- the next place isn't the hole
pub next_other : (s : List Slot) (n start hole place steps : ℕ) → IsShifting s n start hole place steps → steps < n
    → after n place ≡ hole → ⊥
next_other s n start hole place steps state more same =
    let gone : distance n start (after n place) ≡ steps =
    next_gone n start place steps state.start_inside state.place_inside state.gone more
    in let e : distance n start (after n place) ≡ distance n start hole = ap (λ (m : ℕ). distance n start m) same
    in let g : distance n start place + 1 ≡ steps = state.gone
    in let b : distance n start hole ≤ distance n start place = state.behind
    in omega arith

not_both : (s : List Slot) (p : ℕ) (f : Flow) (r : Receiver) → slot_at s p ≡ Free → slot_at s p ≡ Used f r → ⊥
not_both s p f r free is = let bad : Free ≡ Used f r = sym free ∙ is in absurd (cc)

-- where the next place is free, every way is without a free slot
pub shifting_stop : (s : List Slot) (n start hole place steps : ℕ) → IsShifting s n start hole place steps → steps < n
    → slot_at s (after n place) ≡ Free → AreReached s n
shifting_stop s n start hole place steps state more free =
    let next_inside : after n place < n = after-lt n place state.place_inside
    in let other : after n place ≡ hole → ⊥ = next_other s n start hole place steps state more
    in let near : distance n hole (after n place) ≡ distance n hole place + 1 =
    next_behind n start hole place steps state.start_inside state.ways.inside state.place_inside state.gone more
    state.behind
    in record {
      way = λ p f r is k h less. elim (cases_eq k hole) [
        | inl here ↦
            let over : distance n (home n f) hole < distance n (home n f) p =
            subst (λ (m : ℕ). distance n (home n f) m < distance n (home n f) p) here less
            in let p_inside : p < n = omega (arith, used_inside s p f r is, state.size)
            in let hole_inside : hole < n = state.ways.inside
            in let home_inside : home n f < n = home-lt n f (omega arith)
            in let not_hole : hole ≡ p → ⊥ =
            λ e. not_both s p f r (subst (λ (m : ℕ). slot_at s m ≡ Free) e state.ways.free) is
            in let not_next : after n place ≡ p → ⊥ =
            λ e. not_both s p f r (subst (λ (m : ℕ). slot_at s m ≡ Free) e free) is
            in let far : 0 < distance n hole p = distance_positive n hole p hole_inside p_inside not_hole
            in elim (cases_lt (distance n hole place) (distance n hole p)) [
              | inr within ↦
                  let short : distance n (home n f) p ≤ distance n (home n f) hole =
                  state.clear p f r p_inside is far within
                  in absurd (omega arith)
              | inl beyond ↦
                  let apart : distance n hole (after n place) ≡ distance n hole p → ⊥ =
                  λ e. not_next (distance_same n hole (after n place) p hole_inside next_inside p_inside e)
                  in let before : distance n hole (after n place) < distance n hole p = omega arith
                  in let way : distance n (home n f) (after n place) < distance n (home n f) p =
                  further n (home n f) hole (after n place) p home_inside hole_inside next_inside p_inside over before
                  in absurd
                  (both_ways _ (state.ways.way p f r is (after n place) next_inside way other)
                  (ap (λ (x : Slot). is_free x) free))
            ]
        | inr there ↦ state.ways.way p f r is k h less there
      ];
    }

-- the flow at the next place stays there, since its way doesn't go over the hole
pub shifting_stay : (s : List Slot) (n start hole place steps : ℕ) (f : Flow) (r : Receiver)
    → IsShifting s n start hole place steps → steps < n → slot_at s (after n place) ≡ Used f r
    → distance n (home n f) (after n place) ≤ distance n (home n f) hole
    → IsShifting s n start hole (after n place) (steps + 1)
shifting_stay s n start hole place steps f r state more is short =
    let next_inside : after n place < n = after-lt n place state.place_inside
    in let gone : distance n start (after n place) ≡ steps =
    next_gone n start place steps state.start_inside state.place_inside state.gone more
    in let near : distance n hole (after n place) ≡ distance n hole place + 1 =
    next_behind n start hole place steps state.start_inside state.ways.inside state.place_inside state.gone more
    state.behind
    in record {
      size = state.size;
      few = state.few;
      start_inside = state.start_inside;
      place_inside = next_inside;
      gone = omega arith;
      behind = let b : distance n start hole ≤ distance n start place =
          state.behind in let g : distance n start place + 1 ≡ steps = state.gone in omega arith;
      ways = state.ways;
      seen = λ k h less other. elim (cases_eq (distance n start k) steps) [
        | inl here ↦
            let eq : after n place ≡ k =
            distance_same n start (after n place) k state.start_inside next_inside h (gone ∙ sym here)
            in subst (λ (m : ℕ). is_free (slot_at s m) ≡ false) eq (used_is (slot_at s (after n place)) f r is)
        | inr before ↦ state.seen k h (omega arith) other
      ];
      clear = λ k g t h at far within. elim (cases_eq (distance n hole k) (distance n hole (after n place))) [
        | inl here ↦
            let eq : after n place ≡ k =
            distance_same n hole (after n place) k state.ways.inside next_inside h (sym here)
            in let both : Used f r ≡ Used g t = sym is ∙ (subst (λ (m : ℕ). slot_at s m ≡ Used g t) (sym eq) at)
            in let flows : f ≡ g = cc
            in let P : Flow → ℕ → Type 0 = λ (x : Flow) (m : ℕ). distance n (home n x) m ≤ distance n (home n x) hole
            in let one : P g (after n place) = subst (λ (x : Flow). P x (after n place)) flows short
            in subst (λ (m : ℕ). P g m) eq one
        | inr before ↦ state.clear k g t h at far (omega arith)
      ];
    }

-- two slots changed
other_slot : (s : List Slot) (hole place : ℕ) (x : Slot) (k : ℕ) → (k ≡ hole → ⊥) → (k ≡ place → ⊥)
    → slot_at (set (set s place Free) hole x) k ≡ slot_at s k
other_slot s hole place x k a b =
    get_or-set_other (set s place Free) hole k x Free a ∙ get_or-set_other s place k Free Free b

moved_used : (s : List Slot) (hole place : ℕ) (f : Flow) (r : Receiver) (k : ℕ) → hole < length s → (k ≡ place → ⊥)
    → is_free (slot_at s k) ≡ false → is_free (slot_at (set (set s place Free) hole (Used f r)) k) ≡ false
moved_used s hole place f r k inside apart not =
    used_still (set s place Free) hole f r k (omega (arith, length-set s place Free))
    (ap (λ (x : Slot). is_free x) (get_or-set_other s place k Free Free apart) ∙ not)

moved_hole : (s : List Slot) (hole place : ℕ) (f : Flow) (r : Receiver) → hole < length s
    → slot_at (set (set s place Free) hole (Used f r)) hole ≡ Used f r
moved_hole s hole place f r inside =
    let within : hole < length (set s place Free) =
    omega (arith, length-set s place Free) in get_or-set_same (set s place Free) hole (Used f r) Free within

moved_ways : (s : List Slot) (n hole place : ℕ) (f : Flow) (r : Receiver) → length s ≡ n → place < n
    → (place ≡ hole → ⊥) → HasHole s n hole → slot_at s place ≡ Used f r
    → distance n (home n f) hole < distance n (home n f) place
    → HasHole (set (set s place Free) hole (Used f r)) n place
moved_ways s n hole place f r size inside apart ways at over =
    let hole_within : hole < length s = let i : hole < n = ways.inside in omega arith
    in let place_within : place < length s = omega arith
    in record {
      inside = inside;
      free = get_or-set_other (set s place Free) hole place (Used f r) Free apart
          ∙ get_or-set_same s place Free Free place_within;
      way = λ q g t is k h less other. elim (cases_eq q hole) [
        | inl here ↦
            let both : Used f r ≡ Used g t =
            sym (moved_hole s hole place f r hole_within)
            ∙ (subst (λ (m : ℕ). slot_at (set (set s place Free) hole (Used f r)) m ≡ Used g t) here is)
            in let flows : f ≡ g = cc
            in let step : distance n (home n g) k < distance n (home n g) hole =
            subst (λ (m : ℕ). distance n (home n g) k < distance n (home n g) m) here less
            in let nearer : distance n (home n f) k < distance n (home n f) hole =
            subst (λ (x : Flow). distance n (home n x) k < distance n (home n x) hole) (sym flows) step
            in let not_hole : k ≡ hole → ⊥ = λ e. let same : distance n (home n f) k ≡ distance n (home n f) hole =
            ap (λ (m : ℕ). distance n (home n f) m) e in omega arith
            in moved_used s hole place f r k hole_within other (ways.way place f r at k h (omega arith) not_hole)
        | inr there ↦ elim (cases_eq q place) [
          | inl freed ↦
              let free : slot_at (set (set s place Free) hole (Used f r)) place ≡ Free =
              get_or-set_other (set s place Free) hole place (Used f r) Free apart
              ∙ get_or-set_same s place Free Free place_within
              in let bad : Free ≡ Used g t =
              sym free ∙ (subst (λ (m : ℕ). slot_at (set (set s place Free) hole (Used f r)) m ≡ Used g t) freed is)
              in absurd (cc)
          | inr kept ↦
              let old : slot_at s q ≡ Used g t = sym (other_slot s hole place (Used f r) q there kept) ∙ is
              in elim (cases_eq k hole) [
                | inl filled ↦ used_is (slot_at (set (set s place Free) hole (Used f r)) k) f r
                    (subst (λ (m : ℕ). slot_at (set (set s place Free) hole (Used f r)) m ≡ Used f r) (sym filled)
                    (moved_hole s hole place f r hole_within))
                | inr as_before ↦ moved_used s hole place f r k hole_within other
                    (ways.way q g t old k h less as_before)
              ]
        ]
      ];
    }

-- the flow at the next place goes into the hole, and leaves one
pub shifting_move : (s : List Slot) (n start hole place steps : ℕ) (f : Flow) (r : Receiver)
    → IsShifting s n start hole place steps → steps < n → slot_at s (after n place) ≡ Used f r → AreOnce (used s)
    → distance n (home n f) hole < distance n (home n f) (after n place)
    → IsShifting (set (set s (after n place) Free) hole (Used f r)) n start (after n place) (after n place) (steps + 1)
shifting_move s n start hole place steps f r state more is once over =
    let next_inside : after n place < n = after-lt n place state.place_inside
    in let gone : distance n start (after n place) ≡ steps =
    next_gone n start place steps state.start_inside state.place_inside state.gone more
    in let other : after n place ≡ hole → ⊥ = next_other s n start hole place steps state more
    in let hole_inside : hole < n = state.ways.inside
    in let size : length s ≡ n = state.size
    in let hole_within : hole < length s = omega arith
    in let next_within : after n place < length s = omega arith
    in let same : HoldsSame s (set (set s (after n place) Free) hole (Used f r)) =
    moved_same s hole (after n place) f r hole_within next_within (λ e. other (sym e)) state.ways.free is once
    in record {
      size = same.size ∙ size;
      few = let few : length (used s) + 2 ≤ n =
          state.few in let count : length (used (set (set s (after n place) Free) hole (Used f r))) ≡ length (used s) =
          same.count in omega arith;
      start_inside = state.start_inside;
      place_inside = next_inside;
      gone = omega arith;
      behind = omega arith;
      ways = moved_ways s n hole (after n place) f r size next_inside other state.ways is over;
      seen = λ k h less apart. elim (cases_eq k hole) [
        | inl filled ↦ used_is (slot_at (set (set s (after n place) Free) hole (Used f r)) k) f r
            (subst (λ (m : ℕ). slot_at (set (set s (after n place) Free) hole (Used f r)) m ≡ Used f r) (sym filled)
            (moved_hole s hole (after n place) f r hole_within))
        | inr kept ↦
            let far : distance n start (after n place) ≡ distance n start k → ⊥ =
            λ e. apart (sym (distance_same n start (after n place) k state.start_inside next_inside h e))
            in let before : distance n start k < steps = omega arith
            in moved_used s hole (after n place) f r k hole_within apart (state.seen k h before kept)
      ];
      clear = λ k g t h at far within. absurd (omega (arith, distance_none n (after n place)));
    }

-- a slot that isn't the hole is free, so it ends before it comes round
pub shifting_all : (s : List Slot) (n start hole place steps : ℕ) → IsShifting s n start hole place steps → n ≤ steps
    → ⊥
shifting_all s n start hole place steps state all =
    let size : length s ≡ n = state.size
    in let hole_inside : hole < n = state.ways.inside
    in let few : length (used s) + 2 ≤ n = state.few
    in let one : (p : ℕ) × (p < length s) × (is_free (slot_at s p) ≡ true) × (p ≡ hole → ⊥) =
    another_free s hole (omega arith) (omega arith)
    in let inside : one.0 < n = omega (arith, one.1)
    in let less : distance n start one.0 < n = distance-lt n start one.0 state.start_inside inside
    in both_ways _ (state.seen one.0 inside (omega arith) one.3) one.2

pub same_then : (a b c : List Slot) → HoldsSame a b → HoldsSame b c → HoldsSame a c
same_then a b c p q = record {
  size = q.size ∙ p.size;
  count = q.count ∙ p.count;
  once = q.once;
  each = λ f. q.each f ∙ p.each f;
}

-- a step of the loop
pub shifted : (first s then : List Slot) (n start hole place steps : ℕ) (f : Flow) (r : Receiver) (next result : ℕ)
    → IsShifting s n start hole place steps → steps < n → next ≡ after n place → slot_at s next ≡ Used f r
    → HoldsSame first s → Shifts (length s) f s then hole next result
    → IsShifting then n start result next (steps + 1) × HoldsSame first then
shifted first s then n start hole place steps f r next result state more is at same step =
    let by : Shifts n f s then hole next result = subst (λ (m : ℕ). Shifts m f s then hole next result) state.size step
    in let P : ℕ → Type 0 =
    λ (m : ℕ). Shifts n f s then hole m result → slot_at s m ≡ Used f r → IsShifting then n start result m (steps + 1)
    × HoldsSame first then
    in subst P (sym is) (λ taken held. elim taken [
      | inl w ↦
          let to : then ≡ set (set s (after n place) Free) hole (Used f r) =
          w.1 ∙ ap (λ (x : Slot). set (set s (after n place) Free) hole x) held
          in let moved : IsShifting (set (set s (after n place) Free) hole (Used f r)) n start (after n place)
          (after n place) (steps + 1) = shifting_move s n start hole place steps f r state more held same.once w.0
          in let hole_inside : hole < n = state.ways.inside
          in let size : length s ≡ n = state.size
          in let next_inside : after n place < n = after-lt n place state.place_inside
          in let other : after n place ≡ hole → ⊥ = next_other s n start hole place steps state more
          in let kept : HoldsSame s (set (set s (after n place) Free) hole (Used f r)) =
          moved_same s hole (after n place) f r (omega arith) (omega arith) (λ e. other (sym e)) state.ways.free held
          same.once
          in let Q : List Slot → ℕ → Type 0 =
          λ (l : List Slot) (m : ℕ). IsShifting l n start m (after n place) (steps + 1) × HoldsSame first l
          in let one : Q then (after n place) =
          subst (λ (l : List Slot). Q l (after n place)) (sym to) (moved, same_then first s _ same kept)
          in subst (λ (m : ℕ). Q then m) (sym w.2) one
      | inr w ↦
          let Q : List Slot → ℕ → Type 0 =
          λ (l : List Slot) (m : ℕ). IsShifting l n start m (after n place) (steps + 1) × HoldsSame first l
          in let one : Q then hole =
          subst (λ (l : List Slot). Q l hole) (sym w.1)
          (shifting_stay s n start hole place steps f r state more held w.0, same)
          in subst (λ (m : ℕ). Q then m) (sym w.2) one
    ]) by at

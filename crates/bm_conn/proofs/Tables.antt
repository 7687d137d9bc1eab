-- What a table keeps.
use Rattle.std.proofs.Common.{Vec, Global, ◌≡◌, ℕ, suc, ◌-◌, ◌*◌, ◌/◌, ◌^◌, ◌<◌, ◌≤◌, true, false, List, [], ◌∷◌}
use Rattle.std.proofs.Common.{length, set, replicate, Some, None, inl, inr, refl, sym, ap, subst, ◌∙◌, arith, pow_pos}
use Rattle.std.proofs.Common.{get_or-set_other}
use Rattle.std.proofs.lemmas.Bool.{cases_Bool, cases_eq, both_ways}
use Rattle.std.specs.Vec.{with_items}
use Rattle.std.proofs.lemmas.List.{length-replicate, with_items_is}
use Rattle.std.proofs.Math.Nat.{pow-suc}
use Rattle.bm_base.specs.declared.flow.Flow.{Flow}
use Rattle.bm_base.specs.Segments.{same_flow}
use Rattle.bm_seq.specs.declared.receiver.Receiver.{Receiver}
use Rattle.bm_conn.specs.declared.table.Connection.{Connection}
use Rattle.bm_conn.specs.declared.slot.Slot.{Slot}
use Rattle.bm_conn.specs.declared.slot.Slot.TheVariants.{Free, Used}
use Rattle.bm_conn.specs.Connections.{IsSame, HasRoom, receiver_in, AreOnce}
use Rattle.bm_conn.specs.Layouts.{IsLaidOut}
use Rattle.bm_conn.specs.Slots.{slot_at, is_free, is_of}
use Rattle.bm_conn.specs.Inside.Slots.{used, AreMoved}
use Rattle.bm_conn.specs.Views.{IsTable, table_of}
use Rattle.bm_conn.proofs.Flows.{same_flow-true, same_flow_refl}
use Rattle.bm_conn.proofs.Filled.{some_free, absent_at, receiver_at, receiver_freed}
use Rattle.bm_conn.proofs.Holes.{used_inside}
use Rattle.bm_conn.proofs.Reached.{free_is}
use Rattle.bm_conn.proofs.Changes.{free_used, free_placed}

-- a vector whose slots were all freed
pub wiped_items : (v : Vec Slot Global) (old now : List Slot) → old ≡ v.items → now ≡ replicate (length old) Free
    → (with_items v now).items ≡ replicate (length v.items) Free
wiped_items v old now is wiped =
    let written : now ≡ replicate (length v.items) Free = wiped ∙ ap (λ (l : List Slot). replicate (length l) Free) is
    in let long : length now ≡ v.len =
    ap (λ (l : List Slot). length l) written ∙ (length-replicate (length v.items) Free ∙ sym v.ok.0)
    in with_items_is v now long ∙ written

pub wiped : (s : List Slot) (len capacity : ℕ) → IsTable s len capacity → IsTable (replicate (length s) Free) 0 capacity
wiped s len capacity table =
    let none : used (replicate (length s) Free) ≡ [] = free_used (length s)
    in let long : length (replicate (length s) Free) ≡ length s = length-replicate (length s) Free
    in let count : length (used (replicate (length s) Free)) ≡ 0 = ap (λ (l : List Connection). length l) none
    in let once : AreOnce (used (replicate (length s) Free)) = subst (λ (l : List Connection). AreOnce l) (sym none) tt
    in record {
      map = record {
        some = table.map.some;
        most = table.map.most;
        few = omega arith;
        once = once;
      };
      placed = record { once = once; reached = free_placed (length s) (length (replicate (length s) Free)) };
      count = sym count;
      spare = omega arith;
      size = (table.size.0, long ∙ table.size.1);
      bound = let b : length s ≤ 2 ^ 18 = table.bound in omega arith;
    }

double : (n k : ℕ) → n ≡ 8 * 2 ^ k → 2 * n ≡ 8 * 2 ^ suc k
double n k e = omega (arith, pow-suc 2 k)

pub grown : (s then : List Slot) (len capacity : ℕ) → IsTable s len capacity → length s * 3 / 4 ≤ len
    → (len ≡ capacity → ⊥) → AreMoved s then (2 * length s) → IsTable then len capacity
grown s then len capacity table full apart moved =
    let count : length (used then) ≡ length (used s) = moved.count
    in let size : length then ≡ 2 * length s = moved.size
    in let old : len ≡ length (used s) = table.count
    in let few : length (used s) ≤ capacity = table.map.few
    in let spare : length (used s) ≤ length s * 3 / 4 = table.spare
    in let most : capacity ≤ 65536 = table.map.most
    in record {
      map = record {
        some = table.map.some;
        most = table.map.most;
        few = omega arith;
        once = moved.placed.once;
      };
      placed = moved.placed;
      count = old ∙ sym count;
      spare = omega arith;
      size = (suc table.size.0, size ∙ double (length s) table.size.0 table.size.1);
      bound = omega arith;
    }

pub some_slots : (s : List Slot) (len capacity : ℕ) → IsTable s len capacity → 8 ≤ length s
some_slots s len capacity table =
    let e : length s ≡ 8 * 2 ^ table.size.0 = table.size.1
    in let p : 1 ≤ 2 ^ table.size.0 = pow_pos table.size.0
    in omega arith

pub grown_same : (s then : List Slot) (len capacity : ℕ) → IsTable s len capacity → length s * 3 / 4 ≤ len
    → AreMoved s then (2 * length s)
    → IsSame (table_of s capacity) (table_of then capacity) × HasRoom (table_of then capacity)
grown_same s then len capacity table full moved =
    let count : length (used then) ≡ length (used s) = moved.count
    in let size : length then ≡ 2 * length s = moved.size
    in let old : len ≡ length (used s) = table.count
    in let spare : length (used s) ≤ length s * 3 / 4 = table.spare
    in let some : 8 ≤ length s = some_slots s len capacity table
    in let more : 1 ≤ length then * 3 / 4 - length (used then) = omega arith
    in (
      record {
        capacity = refl;
        count = count;
        each = moved.each;
      },
      inl more,
    )

-- WHERE THE FLOWS STAND

stands_at : (s : List Slot) (f : Flow) (r : Receiver) → receiver_in (used s) f ≡ Some r → (p : ℕ) × (p < length s)
    × (slot_at s p ≡ Used f r)
stands_at [] f r is = absurd (cc)
stands_at (Free ∷ s) f r is =
    let rest : (p : ℕ) × (p < length s) × (slot_at s p ≡ Used f r) = stands_at s f r is
    in (suc rest.0, omega (arith, rest.1), rest.2)
stands_at (Used g t ∷ s) f r is = elim (cases_Bool (same_flow g f)) [
  | inl here ↦
      let one : Some t ≡ Some r = rw here at is
      in let same : t ≡ r = cc
      in (0, omega arith, (λ i. Used (same_flow-true g f here i) (same i)))
  | inr there ↦
      let rest : (p : ℕ) × (p < length s) × (slot_at s p ≡ Used f r) = stands_at s f r (rw there at is)
      in (suc rest.0, omega (arith, rest.1), rest.2)
]

stands_alone : (s : List Slot) (p q : ℕ) (f : Flow) (a b : Receiver) → AreOnce (used s) → slot_at s p ≡ Used f a
    → slot_at s q ≡ Used f b → p ≡ q
stands_alone s p q f a b once at_p at_q = elim (cases_eq q p) [
  | inl same ↦ sym same
  | inr apart ↦
      let p_inside : p < length s = used_inside s p f a at_p
      in let still : slot_at (set s p Free) q ≡ Used f b = get_or-set_other s p q Free Free apart ∙ at_q
      in let q_inside : q < length (set s p Free) = used_inside (set s p Free) q f b still
      in let none : receiver_in (used (set s p Free)) f ≡ None =
      receiver_freed s p f a f p_inside at_p once ∙ rw (same_flow_refl f) refl
      in let other : is_of f (slot_at (set s p Free) q) ≡ false = absent_at (set s p Free) f q q_inside none
      in let own : is_of f (slot_at (set s p Free) q) ≡ true = ap (λ (x : Slot). is_of f x) still ∙ same_flow_refl f
      in absurd (both_ways _ other own)
]

pub laid_out : (s : List Slot) (len capacity : ℕ) → IsTable s len capacity → IsLaidOut (table_of s capacity)
laid_out s len capacity table = record {
  size = table.size;
  stands = λ f r is. stands_at s f r is;
  held = λ p f r is. receiver_at s p f r (used_inside s p f r is) is table.placed.once;
  alone = λ p q f a b x y. stands_alone s p q f a b table.placed.once x y;
  reached = table.placed.reached;
  spare = let spare : length (used s) ≤ length s * 3 / 4 = table.spare in omega arith;
  free =
      let some : 8 ≤ length s = some_slots s len capacity table
      in let spare : length (used s) ≤ length s * 3 / 4 = table.spare
      in let one : (p : ℕ) × (p < length s) × (is_free (slot_at s p) ≡ true) = some_free s (omega arith)
      in (one.0, one.1, free_is (slot_at s one.0) one.2);
}

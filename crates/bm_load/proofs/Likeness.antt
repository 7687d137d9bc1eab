-- The load of n connections is what its runs go by.
use Rattle.std.proofs.Common.{◌≡◌, ℕ, zero, suc, ◌+◌, ◌*◌, ◌/◌, ◌%◌, ◌<◌, ◌≤◌, ◌==◌, Bool, true, false, cond}
use Rattle.std.proofs.Common.{Some, None, is_some, nat_le, length, map, slice_get, inl, inr, refl, sym}
use Rattle.std.proofs.Common.{ap, ◌∙◌, subst, arith}
use Rattle.std.proofs.lemmas.Bool.{cases_lt, eq-eqb, ne_eqb, le-leb, lt-leb, leb-true}
use Rattle.std.proofs.lemmas.List.FromFn.{length-map-range_with_len}
use Rattle.std.proofs.lemmas.Nat.{mod_below}
use Rattle.std.proofs.lemmas.Option.{same_Some, slice_get_past}
use Rattle.std.proofs.Math.Nat.{div-add-mod, div-eq_of_lt, mod-eq_of_lt, mod-le, mod-mod}
use Rattle.std.specs.List.{range_with_len}
use Rattle.bm_base.specs.declared.flow.Segment.{Segment}
use Rattle.bm_base.specs.Segments.{has_flag, is_opening, RST}
use Rattle.bm_core.specs.Past.{segment_of, steerable}
use Rattle.bm_core.specs.Threads.{record_moment}
use Rattle.bm_load.specs.declared.packets.Round.{Round}
use Rattle.bm_base.specs.declared.flow.Flow.{Flow}
use Rattle.bm_load.specs.Load.{flow_from, load_of, load_plan, load_records, port_of, record_at, round_at, segment_from}
use Rattle.bm_load.proofs.Rounds.{each_round, opening, pick}
use Rattle.bm_load.proofs.Shape.{IsLoadLike}
use Rattle.bm_table.specs.Tables.{change_moment, next_change}

-- RECORDS

record_from : (n a count i : ℕ) → i < count
    → slice_get (map (record_at n) (range_with_len a count)) i ≡ Some (record_at n (a + i))
record_from n a zero i low = absurd (omega arith)
record_from n a (suc count) zero low = let e : a ≡ a + 0 = omega arith in ap (λ j. Some (record_at n j)) e
record_from n a (suc count) (suc i) low =
    let e : (a + 1) + i ≡ a + suc i = omega arith
    in record_from n (a + 1) count i (omega arith) ∙ ap (λ j. Some (record_at n j)) e

here : (n i : ℕ) → i < 4 * n → slice_get (load_records n) i ≡ Some (record_at n i)
here n i low = let e : 0 + i ≡ i = omega arith in record_from n 0 (4 * n) i low ∙ ap (λ j. Some (record_at n j)) e

past_all : (n i : ℕ) → 4 * n ≤ i → slice_get (load_records n) i ≡ None
past_all n i high =
    slice_get_past (load_records n) i (omega (arith, length-map-range_with_len (record_at n) 0 (4 * n), high))

-- the segment of the record at place i, counted from 0
abbrev segment_at : ℕ → ℕ → Segment
segment_at n i = segment_from (round_at (i / n)) (port_of (i % n))

segment_here : (n i : ℕ) → i < 4 * n → segment_of (load_of n) (suc i) ≡ Some (segment_at n i)
segment_here n i low = ap steerable (here n i low)

-- a packet's place and segment
record IsPlace (n k : ℕ) (s : Segment) : Type 0 where
  place : ℕ
  number : k ≡ suc place
  low : place < 4 * n
  is : s ≡ segment_at n place

place_of : (n k : ℕ) (s : Segment) → segment_of (load_of n) k ≡ Some s → IsPlace n k s
place_of n zero s is = absurd (cc)
place_of n (suc i) s is = elim (cases_lt i (4 * n)) [
  | inl low ↦ record {
    place = i;
    number = refl;
    low = low;
    is = sym (same_Some (segment_at n i) s (sym (segment_here n i low) ∙ is));
  }
  | inr high ↦ let none : segment_of (load_of n) (suc i) ≡ None = ap steerable (past_all n i high) in absurd (cc)
]

-- OPENING SEGMENTS

opens_alone : (P : Round → Bool) (b : Bool) (x y : Round) → P x ≡ true → P y ≡ false → P (cond b x y) ≡ b
opens_alone P true x y at other = at
opens_alone P false x y at other = other

round_opens : (r port : ℕ) → is_opening (segment_from (round_at r) port) ≡ (r == 0)
unfolding is_opening has_flag
round_opens r port =
    opens_alone (λ round. is_opening (segment_from round port)) (r == 0) _ _ refl
    (pick (λ round. is_opening (segment_from round port) ≡ false) (r == 1) _ _ refl
    (pick (λ round. is_opening (segment_from round port) ≡ false) (r == 2) _ _ refl refl))

first_round : (n i : ℕ) → 1 ≤ n → (i / n == 0) ≡ nat_le (suc i) n
first_round n i some = elim (cases_lt i n) [
  | inl low ↦ eq-eqb (i / n) 0 (div-eq_of_lt low) ∙ sym (le-leb (suc i) n (omega arith))
  | inr high ↦
      ne_eqb (i / n) 0 (λ none. absurd (not_below n i high (div-add-mod i n) none (mod_below i n some)))
      ∙ sym (lt-leb (suc i) n (omega arith))
] where
  not_below : (n i : ℕ) → n ≤ i → n * (i / n) + i % n ≡ i → i / n ≡ 0 → i % n < n → ⊥
  not_below n i high parts none low =
      let all : n * 0 + i % n ≡ i = subst (λ (q : ℕ). n * q + i % n ≡ i) none parts in absurd (omega arith)

opens_at : (n i : ℕ) → 1 ≤ n → is_opening (segment_at n i) ≡ nat_le (suc i) n
opens_at n i some = round_opens (i / n) (port_of (i % n)) ∙ first_round n i some

opens : (n k : ℕ) (s : Segment) → 1 ≤ n → segment_of (load_of n) k ≡ Some s → is_opening s ≡ nat_le k n
opens n k s some is =
    let at = place_of n k s is
    in ap is_opening at.is ∙ opens_at n at.place some ∙ ap (λ i. nat_le i n) (sym at.number)

round_resets : (r port : ℕ) → has_flag RST (segment_from (round_at r) port) ≡ false
unfolding has_flag
round_resets r port =
    each_round (λ round. has_flag RST (segment_from round port) ≡ false) refl refl refl refl r

no_rst : (n k : ℕ) (s : Segment) → segment_of (load_of n) k ≡ Some s → has_flag RST s ≡ false
no_rst n k s is =
    let at = place_of n k s is
    in ap (has_flag RST) at.is ∙ round_resets (at.place / n) (port_of (at.place % n))

-- a connection's opening packet has the number of its port
opened : (n k : ℕ) (s : Segment) → 1 ≤ n → segment_of (load_of n) k ≡ Some s
    → (o : ℕ) × (t : Segment)
    × (segment_of (load_of n) o ≡ Some t) × (t.flow ≡ s.flow) × (is_opening t ≡ true) × (o ≤ k)
opened n k s some is =
    let at = place_of n k s is
    in let low : at.place % n < n = mod_below at.place n some
    in let few : at.place % n ≤ at.place = mod-le at.place n
    in let within : at.place < 4 * n = at.low
    in let number : k ≡ suc at.place = at.number
    in (
      suc (at.place % n),
      segment_at n (at.place % n),
      segment_here n (at.place % n) (omega arith),
      ap (λ i. flow_from (port_of i)) (mod-mod at.place n) ∙ sym (ap (λ (x : Segment). x.flow) at.is),
      opens_at n (at.place % n) some ∙ le-leb (suc (at.place % n)) n (omega arith),
      omega arith,
    )

opens_low : (n i k : ℕ) (s : Segment) → 1 ≤ n → s ≡ segment_at n i → is_opening s ≡ true → i < n
opens_low n i k s some is opening = leb-true (suc i) n (sym (ap is_opening is ∙ opens_at n i some) ∙ opening)

alone : (n j k : ℕ) (s t : Segment) → 1 ≤ n → segment_of (load_of n) j ≡ Some s → segment_of (load_of n) k ≡ Some t
    → s.flow ≡ t.flow → is_opening s ≡ true → is_opening t ≡ true → j ≡ k
alone n j k s t some is_s is_t same opening_s opening_t =
    let a = place_of n j s is_s
    in let b = place_of n k t is_t
    in let flows : flow_from (port_of (a.place % n)) ≡ flow_from (port_of (b.place % n)) =
    sym (ap (λ (x : Segment). x.flow) a.is) ∙ same ∙ ap (λ (x : Segment). x.flow) b.is
    in let ports : port_of (a.place % n) ≡ port_of (b.place % n) = ap (λ (f : Flow). f.sport) flows
    in let left : a.place % n ≡ a.place = mod-eq_of_lt (opens_low n a.place j s some a.is opening_s)
    in let right : b.place % n ≡ b.place = mod-eq_of_lt (opens_low n b.place k t some b.is opening_t)
    in let places : a.place ≡ b.place = omega arith
    in a.number ∙ ap suc places ∙ sym b.number

-- MOMENTS

moments : (n k : ℕ) → n ≤ 20000 → record_moment (load_of n) k ≤ 80000000
moments n zero few = omega arith
moments n (suc i) few = elim (cases_lt i (4 * n)) [
  | inl low ↦ rw (here n i low) (omega (arith, low, few))
  | inr high ↦ rw (past_all n i high) (omega arith)
]

changes : (n v : ℕ) → n ≤ 20000 → change_moment (next_change (load_plan n) v) ≤ 80000000
unfolding load_plan
changes n zero few = omega (arith, few)
changes n (suc v) few = omega arith

one_change : (n : ℕ) → length (load_plan n).changes ≡ 1
unfolding load_plan
one_change n = refl

steered : (n k : ℕ) → 1 ≤ k → k ≤ 4 * n → is_some (segment_of (load_of n) k) ≡ true
steered n zero low high = absurd (omega arith)
steered n (suc i) low high = ap is_some (segment_here n i (omega arith))

within : (n k : ℕ) (s : Segment) → segment_of (load_of n) k ≡ Some s → (1 ≤ k) × (k ≤ 4 * n)
within n k s is =
    let at = place_of n k s is
    in let number : k ≡ suc at.place = at.number
    in let low : at.place < 4 * n = at.low
    in (omega arith, omega arith)

pub load_like : (n : ℕ) → 1 ≤ n → n ≤ 20000 → IsLoadLike (load_of n) n
load_like n some few = record {
  few = few;
  records = length-map-range_with_len (record_at n) 0 (4 * n);
  steered = steered n;
  within = within n;
  opens = λ k s is. opens n k s some is;
  no_rst = no_rst n;
  opened = λ k s is. opened n k s some is;
  alone = λ j k s t. alone n j k s t some;
  one_mux = λ j k f. refl;
  unit_fate = λ k hop. refl;
  muxes = refl;
  roomy = omega (arith, few);
  commands = (refl, tt);
  one_change = one_change n;
  moments = λ k. moments n k few;
  changes = λ v. changes n v few;
  long = omega arith;
}

-- The packets of a mux, one place after the other.
use Rattle.std.proofs.Common.{◌≡◌, ◌≢◌, ℕ, suc, ◌+◌, ◌*◌, ◌^◌, ◌<◌, ◌≤◌, ◌==◌, ◌&&◌, Bool, true, false, cond}
use Rattle.std.proofs.Common.{List, [], ◌∷◌, ◌++◌, length}
use Rattle.std.proofs.Common.{slice_get, Option, Some, None, inl, inr, refl, sym, ap, ◌∙◌, subst, arith, leb, ltb}
use Rattle.std.specs.List.{AllByRecursion}
use Rattle.std.specs.Prelude.{slice_index_or}
use Rattle.std.proofs.lemmas.Bool.{cases_Bool, cases_lt, eqb-true, eqb-false, eq-eqb, ne_eqb, lt-ltb, le-ltb, le-leb}
use Rattle.std.proofs.lemmas.Bool.{lt-leb}
use Rattle.std.proofs.lemmas.List.{length-append}
use Rattle.std.proofs.lemmas.Option.{same_Some}
use Rattle.bm_base.specs.declared.capture.Body.{Body}
use Rattle.bm_base.specs.declared.capture.Body.TheVariants.{Steerable, Unsteered}
use Rattle.bm_base.specs.declared.capture.Record.{Record}
use Rattle.bm_base.specs.Captures.{steerable}
use Rattle.bm_base.specs.declared.fate.Fate.{Fate}
use Rattle.bm_base.specs.declared.flow.Segment.{Segment}
use Rattle.bm_base.specs.declared.ids.MuxId.{MuxId}
use Rattle.bm_base.specs.declared.label.Hop.TheVariants.{Direct}
use Rattle.bm_core.specs.declared.events.Stage.{Stage}
use Rattle.bm_link.specs.Fits.{ArePackets, IsPacketOf, ReadsAs}
use Rattle.bm_core.specs.Past.{segment_of}
use Rattle.bm_core.specs.Accounts.{Rules, count_of}
use Rattle.bm_mux.specs.declared.item.MuxItem.{MuxItem}
use Rattle.bm_worker.specs.Inside.Batches.{AreCollected, AreDrawn, IsItemOf, Rise, last_packet}
use Rattle.bm_worker.specs.Assigned.{is_mux, is_assigned, assigned_mux}

-- TURNS

none_assigned : (a b : Bool) → ◌≡◌ {A = Bool} (a && (false && b)) false
none_assigned true b = refl
none_assigned false b = refl

-- no packet lies between a place and itself
pub assigned_none : (routes : List (Option MuxId)) (m from k : ℕ) → is_assigned routes m from from k ≡ false
assigned_none routes m from k = elim (cases_lt from k) [
  | inl low ↦ rw (lt-ltb from k low, lt-leb k from low) refl
  | inr high ↦ rw (le-ltb from k high) refl
]

-- the packet after the place is not the mux's
assigned_skip : (routes : List (Option MuxId)) (m from at k : ℕ) → is_mux (assigned_mux routes (at + 1)) m ≡ false
    → is_assigned routes m from (at + 1) k ≡ is_assigned routes m from at k
assigned_skip routes m from at k other = elim (cases_lt at k) [
  | inl low ↦ elim (cases_Bool (k == at + 1)) [
    | inl same ↦
        let e : k ≡ at + 1 = eqb-true k (at + 1) same in
        let none : is_mux (assigned_mux routes k) m ≡ false = ap (λ (j : ℕ). is_mux (assigned_mux routes j) m) e ∙ other in
        rw none (both_false (ltb from k && leb k (at + 1)) (ltb from k && leb k at))
    | inr apart ↦
        let other : k ≢ at + 1 = eqb-false k (at + 1) apart in
        rw (lt-leb k (at + 1) (omega (arith, low, other)), lt-leb k at low) refl
  ]
  | inr high ↦ rw (le-leb k (at + 1) (omega (arith, high)), le-leb k at high) refl
] where
  both_false : (a b : Bool) → ◌≡◌ {A = Bool} (a && false) (b && false)
  both_false true true = refl
  both_false true false = refl
  both_false false true = refl
  both_false false false = refl

-- it is
assigned_more : (routes : List (Option MuxId)) (m from at k : ℕ) → from ≤ at → is_mux (assigned_mux routes (at + 1)) m ≡ true
    → ◌≡◌ {A = ℕ} (cond (is_assigned routes m from (at + 1) k) 1 0)
    (cond (is_assigned routes m from at k) 1 0 + cond (at + 1 == k) 1 0)
assigned_more routes m from at k le mine = elim (cases_lt at k) [
  | inl low ↦ elim (cases_Bool (at + 1 == k)) [
    | inl same ↦
        let e : at + 1 ≡ k = eqb-true (at + 1) k same in
        let one : is_mux (assigned_mux routes k) m ≡ true = ap (λ (j : ℕ). is_mux (assigned_mux routes j) m) (sym e) ∙ mine in
        rw (one, same, lt-ltb from k (omega (arith, le, low)), le-leb k (at + 1) (omega (arith, e)), lt-leb k at low)
        refl
    | inr apart ↦
        let other : at + 1 ≢ k = eqb-false (at + 1) k apart in
        rw (apart, lt-leb k (at + 1) (omega (arith, low, other)), lt-leb k at low) (none_one (ltb from k))
  ]
  | inr high ↦
      rw (le-leb k (at + 1) (omega (arith, high)), le-leb k at high, ne_eqb (at + 1) k (λ e. omega (arith, e, high)))
      (omega arith)
] where
  none_one : (a : Bool)
      → ◌≡◌ {A = ℕ} (cond ((a && false) && is_mux (assigned_mux routes k) m) 1 0)
      (cond ((a && false) && is_mux (assigned_mux routes k) m) 1 0 + 0)
  none_one a = omega arith

-- LISTS WITH ONE MORE

rise_more : (low : ℕ) (items : List MuxItem) (i : MuxItem) → Rise low items → last_packet low items < i.packet
    → Rise low (items ++ i ∷ [])
rise_more low [] i rise lt = (lt, tt)
rise_more low (x ∷ items) i rise lt = (rise.0, rise_more x.packet items i rise.1 lt)

last_more : (low : ℕ) (items : List MuxItem) (i : MuxItem) → last_packet low (items ++ i ∷ []) ≡ i.packet
last_more low [] i = refl
last_more low (x ∷ items) i = last_more x.packet items i

each_more : {X : Type 0} (P : X → Type 0) (xs : List X) (x : X) → AllByRecursion P xs → P x
    → AllByRecursion P (xs ++ x ∷ [])
each_more P [] x all is = (is, tt)
each_more P (y ∷ xs) x all is = (all.0, each_more P xs x all.1 is)

drawn_more : (F : Rules) (items : List MuxItem) (fates : List Fate) (i : MuxItem) (f : Fate) → AreDrawn F items fates
    → F i.packet Direct f
    → f.copies ≤ 3 → f.delay ≤ 60 * 10 ^ 9 → AreDrawn F (items ++ i ∷ []) (fates ++ f ∷ [])
drawn_more F [] [] i f all gives copies delay = (gives, copies, delay, tt)
drawn_more F [] (g ∷ fates) i f all gives copies delay = absurd all
drawn_more F (x ∷ items) [] i f all gives copies delay = absurd all
drawn_more F (x ∷ items) (g ∷ fates) i f all gives copies delay =
    (all.0, all.1, all.2, drawn_more F items fates i f all.3 gives copies delay)

count_more : (k : ℕ) (items : List MuxItem) (i : MuxItem)
    → count_of (λ (x : MuxItem). x.packet == k) (items ++ i ∷ [])
    ≡ count_of (λ (x : MuxItem). x.packet == k) items + cond (i.packet == k) 1 0
count_more k [] i = omega arith
count_more k (x ∷ items) i = let old = count_more k items i in omega arith

-- THE LOOP

pub collected_none : (F : Rules) (stage : Stage) (routes : List (Option MuxId)) (m from : ℕ)
    → AreCollected F stage routes m from from [] []
collected_none F stage routes m from = record {
  few = omega arith;
  rise = tt;
  under = omega arith;
  each = tt;
  drawn = tt;
  once = λ k. rw (assigned_none routes m from k) refl;
  count = omega arith;
}

pub collected_skip : (F : Rules) (stage : Stage) (routes : List (Option MuxId)) (m from at : ℕ) (items : List MuxItem)
    (fates : List Fate)
    → is_mux (assigned_mux routes (at + 1)) m ≡ false → AreCollected F stage routes m from at items fates
    → AreCollected F stage routes m from (at + 1) items fates
collected_skip F stage routes m from at items fates other old = record {
  few = old.few;
  rise = old.rise;
  under = let u = old.under in omega arith;
  each = old.each;
  drawn = old.drawn;
  once = λ k. old.once k ∙ ap (λ (b : Bool). cond b 1 0) (sym (assigned_skip routes m from at k other));
  count = let u = old.count in omega arith;
}

pub collected_more : (F : Rules) (stage : Stage) (routes : List (Option MuxId)) (m from at : ℕ) (items : List MuxItem)
    (fates : List Fate)
    (i : MuxItem) (f : Fate) → from ≤ at → length items < 256 → i.packet ≡ at + 1 → IsItemOf stage routes m i
    → F i.packet Direct f → f.copies ≤ 3 → f.delay ≤ 60 * 10 ^ 9
    → AreCollected F stage routes m from at items fates
    → AreCollected F stage routes m from (at + 1) (items ++ i ∷ []) (fates ++ f ∷ [])
collected_more F stage routes m from at items fates i f le few is item gives copies delay old =
    let long = length-append items (i ∷ []) in
    let mine : is_mux (assigned_mux routes (at + 1)) m ≡ true =
    ap (λ (j : ℕ). is_mux (assigned_mux routes j) m) (sym is)
    ∙ (ap (λ (o : Option ℕ). is_mux o m) item.assigned ∙ eq-eqb m m refl) in
    record {
      few = omega (arith, few, long);
      rise = rise_more from items i old.rise (let u = old.under in omega (arith, u, is));
      under = let e = last_more from items i in omega (arith, e, is);
      each = each_more (IsItemOf stage routes m) items i old.each item;
      drawn = drawn_more F items fates i f old.drawn gives copies delay;
      once = λ k.
          let a = count_more k items i in let b = old.once k in let c = assigned_more routes m from at k le mine in
          let same : ◌≡◌ {A = ℕ} (cond (i.packet == k) 1 0) (cond (at + 1 == k) 1 0) =
          ap (λ (j : ℕ). cond (j == k) 1 0) is in
          omega (arith, a, b, c, same);
      count = let u = old.count in omega (arith, u, long);
    }

pub collected_new : (F : Rules) (stage : Stage) (routes : List (Option MuxId)) (m from : ℕ) (items : List MuxItem)
    (fates : List Fate)
    → items ≡ [] → fates ≡ [] → AreCollected F stage routes m from from items fates
collected_new F stage routes m from items fates no_items no_fates =
    subst (λ (l : List MuxItem). AreCollected F stage routes m from from l fates) (sym no_items)
    (subst (λ (l : List Fate). AreCollected F stage routes m from from [] l) (sym no_fates)
    (collected_none F stage routes m from))

-- the same with what the vectors contain
pub collected_push : (F : Rules) (stage : Stage) (routes : List (Option MuxId)) (m from at : ℕ)
    (items items' : List MuxItem) (fates fates' : List Fate)
    (i : MuxItem) (f : Fate) → items' ≡ items ++ i ∷ [] → fates' ≡ fates ++ f ∷ [] → from ≤ at → length items < 256
    → i.packet ≡ at + 1
    → IsItemOf stage routes m i → F i.packet Direct f → f.copies ≤ 3 → f.delay ≤ 60 * 10 ^ 9
    → AreCollected F stage routes m from at items fates → AreCollected F stage routes m from (at + 1) items' fates'
collected_push F stage routes m from at items items' fates fates' i f more fates_more le few is item gives copies delay
    old =
    subst (λ (l : List MuxItem). AreCollected F stage routes m from (at + 1) l fates') (sym more)
    (subst (λ (l : List Fate). AreCollected F stage routes m from (at + 1) (items ++ i ∷ []) l) (sym fates_more)
    (collected_more F stage routes m from at items fates i f le few is item gives copies delay old))

-- WHOSE TURN

pub mux_is : (m : ℕ) (o : Option ℕ) → is_mux o m ≡ true → o ≡ Some m
mux_is m None is = absurd (cc)
mux_is m (Some n) is = ap (λ (x : ℕ). Some x) (eqb-true n m is)

-- the packet of a record
pub packet_of_record : (stage : Stage) (octets : List (List ℕ)) (at : ℕ) (s : Segment)
    → ArePackets stage.capture.records octets
    → segment_of stage (at + 1) ≡ Some s → (length (slice_index_or octets at []) ≤ 65479)
    × ReadsAs (slice_index_or octets at []) s
packet_of_record stage octets at s packets is =
    let e : at + 1 ≡ suc at = omega arith in
    of_record (slice_get stage.capture.records at) refl (ap (segment_of stage) (sym e) ∙ is) where
      of_body : (b : Body) (r : Record) → r.body ≡ b → slice_get stage.capture.records at ≡ Some r
          → steerable (Some r) ≡ Some s
          → (length (slice_index_or octets at []) ≤ 65479) × ReadsAs (slice_index_or octets at []) s
      of_body (Steerable x) r body got some =
          let same : x ≡ s =
          same_Some x s (sym (ap (λ (b : Body). steerable (Some (record r { body = b }))) body) ∙ some) in
          subst (λ (y : Segment). (length (slice_index_or octets at []) ≤ 65479)
          × ReadsAs (slice_index_or octets at []) y) same
          (subst (λ (b : Body). IsPacketOf b (slice_index_or octets at [])) body (packets.each at r got))
      of_body (Unsteered why) r body got some =
          absurd (let bad : None ≡ Some s =
          sym (ap (λ (b : Body). steerable (Some (record r { body = b }))) body) ∙ some in cc)

      of_record : (o : Option Record) → slice_get stage.capture.records at ≡ o
          → steerable (slice_get stage.capture.records at) ≡ Some s
          → (length (slice_index_or octets at []) ≤ 65479) × ReadsAs (slice_index_or octets at []) s
      of_record None got some = absurd (let bad : None ≡ Some s = sym (ap steerable got) ∙ some in cc)
      of_record (Some r) got some = of_body r.body r refl got (sym (ap steerable got) ∙ some)

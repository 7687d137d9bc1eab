-- The places of flows and records, and what a change at one place does to the table.
use Rattle.std.proofs.Common.{◌≡◌, ℕ, zero, suc, ◌<◌, Bool, true, false, ◌||◌, inl, inr}
use Rattle.std.proofs.Common.{List, [], ◌∷◌, ◌++◌, length, reverse, map, set, get_or, Option, Some, None, is_some}
use Rattle.std.proofs.Common.{option_map, refl, sym, ap, ◌∙◌, arith, subst}
use Rattle.std.specs.Prelude.{slice_get, if◌then◌else◌}
use Rattle.std.proofs.lemmas.Bool.{both_ways, cases_Bool, cases_eq}
use Rattle.std.proofs.lemmas.List.{length-append, length-reverse, reverse-append, reverse-reverse}
use Rattle.bm_base.specs.declared.capture.Record.{Record}
use Rattle.bm_base.specs.declared.flow.Flow.{Flow}
use Rattle.bm_base.specs.declared.flow.Segment.{Segment}
use Rattle.bm_base.specs.Segments.{same_flow}
use Rattle.bm_core.specs.declared.events.Stage.{Stage}
use Rattle.bm_core.specs.Books.{AreDistinct, is_listed}
use Rattle.bm_core.specs.Past.{is_of, segment_of, steerable}
use Rattle.bm_connections.specs.declared.connection.Connection.{Connection}
use Rattle.bm_connections.specs.Inside.Rows.{HasRoom, HasRoomAt, changed_at, known, packet_place, place_in, place_of}
use Rattle.bm_connections.specs.Inside.Rows.{places_of}
use Rattle.bm_connections.specs.Seen.{flows_of, is_seen, records_of, with_flow}
use Rattle.bm_connections.proofs.Steps.{same_flow-true, same_flow_refl}

-- LISTS OF FLOWS

or_false : (b : Bool) → (b || false) ≡ b
or_false true = refl
or_false false = refl

or_assoc : (a b c : Bool) → (a || (b || c)) ≡ ((a || b) || c)
or_assoc true b c = refl
or_assoc false b c = refl

pub same_flow_sym : (a b : Flow) → same_flow a b ≡ same_flow b a
same_flow_sym a b = elim (cases_Bool (same_flow a b)) [
  | inl same ↦ let eq : a ≡ b = same_flow-true a b same in rw eq refl
  | inr other ↦ elim (cases_Bool (same_flow b a)) [
    | inl bad ↦ let eq : b ≡ a = same_flow-true b a bad in rw eq refl
    | inr fine ↦ rw (other, fine) refl
  ]
]

listed_push : (flows : List Flow) (f q : Flow)
    → is_listed (flows ++ f ∷ []) q ≡ (is_listed flows q || same_flow f q)
listed_push [] f q = or_false (same_flow f q)
listed_push (x ∷ flows) f q =
    ap (λ (b : Bool). same_flow x q || b) (listed_push flows f q)
    ∙ or_assoc (same_flow x q) (is_listed flows q) (same_flow f q)

distinct_push : (flows : List Flow) (f : Flow) → AreDistinct flows → is_listed flows f ≡ false
    → AreDistinct (flows ++ f ∷ [])
distinct_push [] f d absent = (refl, tt)
distinct_push (x ∷ flows) f d absent = elim (cases_Bool (same_flow x f)) [
  | inl bad ↦ absurd (let h : is_listed (x ∷ flows) f ≡ true = rw bad refl in both_ways _ absent h)
  | inr apart ↦
      let rest : is_listed flows f ≡ false = rw apart at absent
      in let other : same_flow f x ≡ false = same_flow_sym f x ∙ apart
      in (listed_push flows f x ∙ rw (d.0, other) refl, distinct_push flows f d.1 rest)
]

listed_after : (o : Option Segment) (records : List Record) (flows : List Flow) (q : Flow)
    → ((g : Flow) → is_listed flows g ≡ is_seen records g)
    → is_listed (with_flow o records flows) q ≡ (is_of o q || is_seen records q)
listed_after None records flows q k = k q
listed_after (Some s) records flows q k = elim (cases_Bool (is_seen records s.flow)) [
  | inl seen ↦ elim (cases_Bool (same_flow s.flow q)) [
    | inl same ↦
        let eq : s.flow ≡ q = same_flow-true s.flow q same
        in let there : is_seen records q ≡ true = ap (is_seen records) (sym eq) ∙ seen
        in rw (seen, same) (k q ∙ there)
    | inr other ↦ rw (seen, other) (k q)
  ]
  | inr unseen ↦
      rw unseen (listed_push flows s.flow q ∙ turned (is_listed flows q) (is_seen records q) (same_flow s.flow q) (k q))
] where
  turned : (a b c : Bool) → a ≡ b → (a || c) ≡ (c || b)
  turned true true true e = refl
  turned true true false e = refl
  turned false false true e = refl
  turned false false false e = refl
  turned true false c e = absurd (cc)
  turned false true c e = absurd (cc)

-- the flows of records are those that are seen
pub listed_is : (records : List Record) (f : Flow) → is_listed (flows_of records) f ≡ is_seen records f
listed_is [] f = refl
listed_is (r ∷ records) f = listed_after (steerable (Some r)) records (flows_of records) f (listed_is records)

distinct_after : (o : Option Segment) (records : List Record) (flows : List Flow)
    → ((g : Flow) → is_listed flows g ≡ is_seen records g) → AreDistinct flows
    → AreDistinct (with_flow o records flows)
distinct_after None records flows k d = d
distinct_after (Some s) records flows k d = elim (cases_Bool (is_seen records s.flow)) [
  | inl seen ↦ rw seen d
  | inr unseen ↦ rw unseen (distinct_push flows s.flow d (k s.flow ∙ unseen))
]

-- each flow of records is there once
pub distinct : (records : List Record) → AreDistinct (flows_of records)
distinct [] = tt
distinct (r ∷ records) =
    distinct_after (steerable (Some r)) records (flows_of records) (listed_is records) (distinct records)

-- PLACES

-- the flow at a place
pub at_place : (flows : List Flow) (f : Flow) (i : ℕ) → place_in flows f ≡ Some i → slice_get flows i ≡ Some f
at_place [] f i e = absurd (cc)
at_place (x ∷ flows) f i e = elim (cases_Bool (same_flow x f)) [
  | inl same ↦
      let eq : x ≡ f = same_flow-true x f same
      in let is : Some 0 ≡ Some i = rw same at e
      in let zero_is : 0 ≡ i = cc
      in subst (λ (n : ℕ). slice_get (x ∷ flows) n ≡ Some f) zero_is (ap (λ (y : Flow). Some y) eq)
  | inr other ↦
      let is : option_map (λ n. suc n) (place_in flows f) ≡ Some i = rw other at e
      in behind x flows f i (place_in flows f) is (at_place flows f)
] where
  behind : (x : Flow) (flows : List Flow) (f : Flow) (i : ℕ) (o : Option ℕ)
      → option_map (λ n. suc n) o ≡ Some i
      → ((j : ℕ) → o ≡ Some j → slice_get flows j ≡ Some f)
      → slice_get (x ∷ flows) i ≡ Some f
  behind x flows f i None e k = absurd (cc)
  behind x flows f i (Some j) e k =
      let next : suc j ≡ i = cc
      in subst (λ (n : ℕ). slice_get (x ∷ flows) n ≡ Some f) next (k j refl)

pub place_within : (flows : List Flow) (f : Flow) (i : ℕ) → slice_get flows i ≡ Some f → i < length flows
place_within [] f i e = absurd (cc)
place_within (x ∷ flows) f zero e = omega arith
place_within (x ∷ flows) f (suc i) e = let h = place_within flows f i e in omega arith

some_place : (b : Bool) (o : Option ℕ) (l : Bool) → is_some o ≡ l
    → is_some (if b then Some 0 else option_map (λ n. suc n) o) ≡ (b || l)
some_place true o l e = refl
some_place false None l e = e
some_place false (Some n) l e = e

-- a flow has a place where it is listed
pub place_listed : (flows : List Flow) (f : Flow) → is_some (place_in flows f) ≡ is_listed flows f
place_listed [] f = refl
place_listed (x ∷ flows) f = some_place (same_flow x f) _ _ (place_listed flows f)

no_place : (o : Option ℕ) → is_some o ≡ false → o ≡ None
no_place None e = refl
no_place (Some n) e = absurd (cc)

place_push_other : (flows : List Flow) (f q : Flow) → same_flow f q ≡ false
    → place_in (flows ++ f ∷ []) q ≡ place_in flows q
place_push_other [] f q other = rw other refl
place_push_other (x ∷ flows) f q other =
    ap (λ (o : Option ℕ). if same_flow x q then Some 0 else option_map (λ n. suc n) o)
    (place_push_other flows f q other)

place_push_last : (flows : List Flow) (f : Flow) → is_listed flows f ≡ false
    → place_in (flows ++ f ∷ []) f ≡ Some (length flows)
place_push_last [] f absent = rw (same_flow_refl f) refl
place_push_last (x ∷ flows) f absent = elim (cases_Bool (same_flow x f)) [
  | inl bad ↦ absurd (let h : is_listed (x ∷ flows) f ≡ true = rw bad refl in both_ways _ absent h)
  | inr apart ↦
      let rest : is_listed flows f ≡ false = rw apart at absent
      in rw apart (ap (option_map (λ n. suc n)) (place_push_last flows f rest))
]

-- the places of flows, with one more flow at the end
pub place_push : (flows : List Flow) (f q : Flow) → is_listed flows f ≡ false
    → place_in (flows ++ f ∷ []) q ≡ (if same_flow f q then Some (length flows) else place_in flows q)
place_push flows f q absent = elim (cases_Bool (same_flow f q)) [
  | inl same ↦
      let eq : f ≡ q = same_flow-true f q same
      in rw same (ap (place_in (flows ++ f ∷ [])) (sym eq) ∙ place_push_last flows f absent)
  | inr other ↦ rw other (place_push_other flows f q other)
]

get_push : {X : Type 0} (xs : List X) (x y : X) (i : ℕ) → slice_get xs i ≡ Some x
    → slice_get (xs ++ y ∷ []) i ≡ Some x
get_push [] x y i e = absurd (cc)
get_push (z ∷ xs) x y zero e = e
get_push (z ∷ xs) x y (suc i) e = get_push xs x y i e

pub get_last : {X : Type 0} (xs : List X) (y : X) (i : ℕ) → i ≡ length xs → slice_get (xs ++ y ∷ []) i ≡ Some y
get_last [] y zero e = refl
get_last [] y (suc i) e = absurd (omega arith)
get_last (z ∷ xs) y zero e = absurd (omega arith)
get_last (z ∷ xs) y (suc i) e = get_last xs y i (omega arith)

pub get_other : {X : Type 0} (xs : List X) (y : X) (i : ℕ) → (i ≡ length xs → ⊥)
    → slice_get (xs ++ y ∷ []) i ≡ slice_get xs i
get_other [] y zero e = absurd (e refl)
get_other [] y (suc i) e = refl
get_other (z ∷ xs) y zero e = refl
get_other (z ∷ xs) y (suc i) e = get_other xs y i (λ h. e (ap (λ n. suc n) h))

-- this is the place of the segment's flow, and there is none where there is no segment
abbrev pub IsPlace : List Flow → Option Segment → Option ℕ → Type 0
IsPlace flows None None = Unit {0}
IsPlace flows None (Some i) = ⊥
IsPlace flows (Some s) None = ⊥
IsPlace flows (Some s) (Some i) = slice_get flows i ≡ Some s.flow

grown : (o segment : Option Segment) (records : List Record) (flows : List Flow) (place : Option ℕ)
    → IsPlace flows segment place → IsPlace (with_flow o records flows) segment place
grown None segment records flows place k = k
grown (Some t) segment records flows place k = elim (cases_Bool (is_seen records t.flow)) [
  | inl seen ↦ rw seen k
  | inr unseen ↦ rw unseen (pushed segment place k)
] where
  pushed : (segment : Option Segment) (place : Option ℕ) → IsPlace flows segment place
      → IsPlace (flows ++ t.flow ∷ []) segment place
  pushed None None k = tt
  pushed None (Some i) k = absurd k
  pushed (Some s) None k = absurd k
  pushed (Some s) (Some i) k = get_push flows s.flow t.flow i k

placed : (flows : List Flow) (o : Option Segment) → ((q : Flow) → is_of o q ≡ true → is_listed flows q ≡ true)
    → IsPlace flows o (place_of flows o)
placed flows None k = tt
placed flows (Some s) k =
    there (place_in flows s.flow) refl (place_listed flows s.flow ∙ k s.flow (same_flow_refl s.flow)) where
      there : (o : Option ℕ) → place_in flows s.flow ≡ o → is_some (place_in flows s.flow) ≡ true
          → IsPlace flows (Some s) o
      there None e some = absurd (let h : is_some (place_in flows s.flow) ≡ false = ap is_some e in both_ways _ h some)
      there (Some i) e some = at_place flows s.flow i e

length_places : (records : List Record) → length (places_of records) ≡ length records
length_places [] = refl
length_places (r ∷ records) =
    length-append (places_of records) _ ∙ (let e = length_places records in omega arith)

or_left : (a b : Bool) → a ≡ true → (a || b) ≡ true
or_left true b e = refl
or_left false b e = absurd (cc)

record_placed : (records : List Record) (i : ℕ)
    → IsPlace (flows_of records) (steerable (slice_get (reverse records) i)) (known (slice_get (places_of records) i))
record_placed [] i = tt
record_placed (r ∷ records) i = elim (cases_eq i (length records)) [
  | inl last ↦
      let n : i ≡ length (reverse records) = last ∙ sym (length-reverse records)
      in let m : i ≡ length (places_of records) = last ∙ sym (length_places records)
      in let e : slice_get (reverse (r ∷ records)) i ≡ Some r =
      ap (λ xs. slice_get xs i) (reverse-append (r ∷ []) records) ∙ get_last (reverse records) r i n
      in let p : slice_get (places_of (r ∷ records)) i ≡ Some (place_of (flows_of (r ∷ records)) (steerable (Some r))) =
      get_last (places_of records) _ i m
      in rw (e, p) (placed (flows_of (r ∷ records)) (steerable (Some r))
      (λ q of. listed_is (r ∷ records) q ∙ or_left _ _ of))
  | inr other ↦
      let e : slice_get (reverse (r ∷ records)) i ≡ slice_get (reverse records) i =
      ap (λ xs. slice_get xs i) (reverse-append (r ∷ []) records)
      ∙ get_other (reverse records) r i (λ h. other (h ∙ length-reverse records))
      in let p : slice_get (places_of (r ∷ records)) i ≡ slice_get (places_of records) i =
      get_other (places_of records) _ i (λ h. other (h ∙ length_places records))
      in rw (e, p) (grown (steerable (Some r)) _ records (flows_of records) _ (record_placed records i))
]

-- the place of a packet's flow
pub packet_placed : (stage : Stage) (k : ℕ)
    → IsPlace (flows_of (records_of stage)) (segment_of stage k)
    (packet_place (places_of (records_of stage)) k)
packet_placed stage zero = tt
packet_placed stage (suc i) =
    subst (λ (xs : List Record). IsPlace (flows_of (records_of stage)) (steerable (slice_get xs i))
    (known (slice_get (places_of (records_of stage)) i)))
    (reverse-reverse stage.capture.records) (record_placed (records_of stage) i)

-- TABLES

-- what the code writes at a place
pub written : (change : Connection → Connection) (list : List Connection) (i : ℕ) (c : Connection)
    → i < length list → c ≡ get_or list i c → set list i (change c) ≡ changed_at change list i
written change [] i c below is = absurd (omega arith)
written change (x ∷ list) zero c below is = ap (λ (y : Connection). change y ∷ list) is
written change (x ∷ list) (suc i) c below is = ap (λ xs. x ∷ xs) (written change list i c (omega arith) is)

pub room_here : (list : List Connection) (i : ℕ) (c : Connection)
    → i < length list → c ≡ get_or list i c → HasRoomAt list i → HasRoom c.tally
room_here [] i c below is k = absurd (omega arith)
room_here (x ∷ list) zero c below is k = subst (λ (y : Connection). HasRoom y.tally) (sym is) k
room_here (x ∷ list) (suc i) c below is k = room_here list i c (omega arith) is k

pub room_of : (g : Flow → Connection) (flows : List Flow) (i : ℕ) → ((f : Flow) → HasRoom (g f).tally)
    → HasRoomAt (map g flows) i
room_of g [] i k = tt
room_of g (f ∷ flows) zero k = k f
room_of g (f ∷ flows) (suc i) k = room_of g flows i k

pub map_apart : (g h : Flow → Connection) (flows : List Flow) (f : Flow) → is_listed flows f ≡ false
    → ((q : Flow) → same_flow f q ≡ false → h q ≡ g q) → map h flows ≡ map g flows
map_apart g h [] f absent k = refl
map_apart g h (x ∷ flows) f absent k = elim (cases_Bool (same_flow x f)) [
  | inl bad ↦ absurd (let b : is_listed (x ∷ flows) f ≡ true = rw bad refl in both_ways _ absent b)
  | inr apart ↦
      let rest : is_listed flows f ≡ false = rw apart at absent
      in let other : same_flow f x ≡ false = same_flow_sym f x ∙ apart
      in λ i. k x other i ∷ map_apart g h flows f rest k i
]

listed_at : (flows : List Flow) (i : ℕ) (f : Flow) → slice_get flows i ≡ Some f → is_listed flows f ≡ true
listed_at [] i f e = absurd (cc)
listed_at (x ∷ flows) zero f e =
    let eq : x ≡ f = cc
    in let h : same_flow x f ≡ true = rw eq (same_flow_refl f)
    in rw h refl
listed_at (x ∷ flows) (suc i) f e = or_right (same_flow x f) _ (listed_at flows i f e) where
  or_right : (a b : Bool) → b ≡ true → (a || b) ≡ true
  or_right true b e = refl
  or_right false b e = e

-- a table whose connections stay but for one
pub map_changed : (g h : Flow → Connection) (change : Connection → Connection) (flows : List Flow) (i : ℕ) (f : Flow)
    → AreDistinct flows → slice_get flows i ≡ Some f
    → ((q : Flow) → same_flow f q ≡ false → h q ≡ g q) → h f ≡ change (g f)
    → map h flows ≡ changed_at change (map g flows) i
map_changed g h change [] i f d e others here = absurd (cc)
map_changed g h change (x ∷ flows) zero f d e others here =
    let eq : x ≡ f = cc
    in let absent : is_listed flows f ≡ false = ap (is_listed flows) (sym eq) ∙ d.0
    in let first : h x ≡ change (g x) = ap h eq ∙ here ∙ ap (λ (y : Flow). change (g y)) (sym eq)
    in λ j. first j ∷ map_apart g h flows f absent others j
map_changed g h change (x ∷ flows) (suc i) f d e others here = elim (cases_Bool (same_flow f x)) [
  | inl same ↦ absurd (let eq : f ≡ x = same_flow-true f x same
      in let b : is_listed flows x ≡ true = ap (is_listed flows) (sym eq) ∙ listed_at flows i f e
      in both_ways _ d.0 b)
  | inr apart ↦ λ j. others x apart j ∷ map_changed g h change flows i f d.1 e others here j
]

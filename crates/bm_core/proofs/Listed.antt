-- The list of held flows has each flow that is held, once.
use Rattle.std.proofs.Common.{◌≡◌, ℕ, Bool, true, false, cond, not, sym, ◌∙◌, ◌&&◌, ◌||◌, List, [], ◌∷◌, Option, Some}
use Rattle.std.proofs.Common.{None, is_some, inl, inr, refl, ap, subst, eqb, if◌then◌else◌, arith}
use Rattle.std.proofs.lemmas.Bool.{cases_Bool, both_ways, or_cases, and_parts, eqb-true, eq-eqb}
use Rattle.bm_base.specs.declared.ids.ServerId.{ServerId}
use Rattle.bm_base.specs.declared.flow.Flow.{Flow}
use Rattle.bm_base.specs.declared.flow.Segment.{Segment}
use Rattle.bm_seq.specs.declared.receiver.Receiver.{Receiver}
use Rattle.bm_base.specs.declared.receive.Taken.{Taken}
use Rattle.bm_base.specs.declared.receive.Taken.TheVariants.{Advance, Duplicate, Ahead, Outside, Challenge, Ended}
use Rattle.bm_core.specs.declared.events.Verdict.{Verdict}
use Rattle.bm_core.specs.declared.events.Verdict.TheVariants.{Accept, Process, Forward, Reset, Drop}
use Rattle.bm_core.specs.declared.events.Event.{Event}
use Rattle.bm_core.specs.declared.events.Stage.{Stage}
use Rattle.bm_base.specs.Segments.{same_flow}
use Rattle.bm_table.specs.Tables.{same_server}
use Rattle.bm_core.specs.declared.events.What.{What}
use Rattle.bm_core.specs.declared.events.What.TheVariants.{Publish, Switch, Steer, Lose, Arrive, Close, Retire, Sync}
use Rattle.bm_core.specs.Past.{Holding, is_accept, segment_of, flows_arrived, flows_after, ends, shard, without, held}
use Rattle.bm_core.specs.Past.{flows_held, is_done}
use Rattle.bm_core.specs.Verdicts.{receiver_of}
use Rattle.bm_core.specs.Books.{Turn, Took, Closed, RetiredAs, held_by_verdict, book_held, book_flows, book_of}
use Rattle.bm_core.specs.Books.{turn_flows, turn_held, is_listed, AreDistinct}
use Rattle.bm_core.proofs.Pasts.{same_flow-true, same_flow_refl}
use Rattle.bm_core.proofs.Books.{held_in_book, flows_in_book}

same_flow_sym : (a b : Flow) → same_flow a b ≡ true → same_flow b a ≡ true
same_flow_sym a b e = let h : a ≡ b = same_flow-true a b e in rw h (same_flow_refl b)

dropped : (fg xg l : Bool) → fg ≡ xg → (not fg && l) ≡ (not fg && (xg || l))
dropped true xg l e = refl
dropped false true l e = absurd (cc)
dropped false false l e = refl

kept : (fg xg l : Bool) → (fg ≡ true → xg ≡ true → ⊥) → (xg || (not fg && l)) ≡ (not fg && (xg || l))
kept true true l no_way = absurd (no_way refl refl)
kept true false l no_way = refl
kept false xg l no_way = refl

and_false : (a b : Bool) → b ≡ false → (a && b) ≡ false
and_false true b e = e
and_false false b e = refl

closed_listed : (same listed : Bool) (before : Option Receiver) → listed ≡ is_some before
    → (not same && listed) ≡ is_some (cond (same && true) None before)
closed_listed true listed before e = refl
closed_listed false listed before e = e

-- a flow that was taken out is out, and the others stay
listed_without : (f g : Flow) (flows : List Flow)
    → is_listed (without f flows) g ≡ (not (same_flow f g) && is_listed flows g)
listed_without f g [] = sym (and_false (not (same_flow f g)) false refl)
listed_without f g (x ∷ flows) = elim (cases_Bool (same_flow f x)) [
  | inl same ↦
      let eq : f ≡ x = same_flow-true f x same
      in rw same
      (listed_without f g flows
      ∙ dropped (same_flow f g) (same_flow x g) (is_listed flows g) (ap (λ (y : Flow). same_flow y g) eq))
  | inr other ↦
      rw other (ap (λ (b : Bool). same_flow x g || b) (listed_without f g flows)
      ∙ kept (same_flow f g) (same_flow x g) (is_listed flows g) (λ fg xg.
      let a : f ≡ g = same_flow-true f g fg
      in let b : x ≡ g = same_flow-true x g xg
      in let bad : same_flow f x ≡ true = rw (a, b) (same_flow_refl g)
      in both_ways _ other bad))
]

same_either : {l : Bool} (b : Bool) (before : Option Receiver) → l ≡ is_some before → l ≡ is_some (cond b before before)
same_either true before e = e
same_either false before e = e

processed : (b : Bool) (t : Taken) (s : Segment) (flows : List Flow) (f : Flow) (before : Option Receiver)
    → ends (Process t) ≡ false → is_listed flows f ≡ is_some before
    → is_listed flows f ≡ is_some (cond b (held_by_verdict (Process t) s before) before)
processed b t s flows f before stays e = grind arith

took_listed : (verdict : Verdict) (s : Segment) (f : Flow) (flows : List Flow) (before : Option Receiver)
    → is_listed flows f ≡ is_some before
    → is_listed (turn_flows (Took s verdict) flows) f ≡ is_some (turn_held (Took s verdict) f before)
took_listed Accept s f flows before e = elim (cases_Bool (same_flow s.flow f)) [
  | inl same ↦ rw same refl
  | inr other ↦ rw other (listed_without s.flow f flows ∙ rw other e)
]
took_listed (Process Ended) s f flows before e = elim (cases_Bool (same_flow s.flow f)) [
  | inl same ↦ rw same (listed_without s.flow f flows ∙ rw same refl)
  | inr other ↦ rw other (listed_without s.flow f flows ∙ rw other e)
]
took_listed (Process Advance) s f flows before e = processed (same_flow s.flow f) Advance s flows f before refl e
took_listed (Process Duplicate) s f flows before e = processed (same_flow s.flow f) Duplicate s flows f before refl e
took_listed (Process Ahead) s f flows before e = processed (same_flow s.flow f) Ahead s flows f before refl e
took_listed (Process Outside) s f flows before e = processed (same_flow s.flow f) Outside s flows f before refl e
took_listed (Process Challenge) s f flows before e = processed (same_flow s.flow f) Challenge s flows f before refl e
took_listed (Forward to) s f flows before e = same_either (same_flow s.flow f) before e
took_listed (Reset why) s f flows before e = same_either (same_flow s.flow f) before e
took_listed (Drop why) s f flows before e = same_either (same_flow s.flow f) before e

-- the same holds of one turn: the list and the receiver agree
turn_listed : (t : Turn) (f : Flow) (flows : List Flow) (before : Option Receiver) → is_listed flows f ≡ is_some before
    → is_listed (turn_flows t flows) f ≡ is_some (turn_held t f before)
turn_listed (Took s verdict) f flows before e = took_listed verdict s f flows before e
turn_listed (Closed flow true) f flows before e =
    listed_without flow f flows ∙ closed_listed (same_flow flow f) (is_listed flows f) before e
turn_listed (Closed flow false) f flows before e =
    elim (cases_Bool (same_flow flow f)) [ inl same ↦ rw same e | inr other ↦ rw other e ]
turn_listed (RetiredAs result) f flows before e =
    elim (cases_Bool (is_done result)) [ inl done ↦ rw done refl | inr stays ↦ rw stays e ]

-- the flows of a book are those that it has a receiver of
pub book_listed : (book : List Turn) (f : Flow) → is_listed (book_flows book) f ≡ is_some (book_held book f)
book_listed [] f = refl
book_listed (t ∷ book) f = turn_listed t f (book_flows book) (book_held book f) (book_listed book f)

distinct_without : (f : Flow) (flows : List Flow) → AreDistinct flows → AreDistinct (without f flows)
distinct_without f [] d = tt
distinct_without f (x ∷ flows) d = elim (cases_Bool (same_flow f x)) [
  | inl same ↦ rw same (distinct_without f flows d.1)
  | inr other ↦ rw other
      (listed_without f x flows ∙ and_false (not (same_flow f x)) (is_listed flows x) d.0, distinct_without f flows d.1)
]

turn_distinct : (t : Turn) (flows : List Flow) → AreDistinct flows → AreDistinct (turn_flows t flows)
turn_distinct (Took s Accept) flows d =
    (listed_without s.flow s.flow flows ∙ rw (same_flow_refl s.flow) refl, distinct_without s.flow flows d)
turn_distinct (Took s (Process Ended)) flows d = distinct_without s.flow flows d
turn_distinct (Took s (Process Advance)) flows d = d
turn_distinct (Took s (Process Duplicate)) flows d = d
turn_distinct (Took s (Process Ahead)) flows d = d
turn_distinct (Took s (Process Outside)) flows d = d
turn_distinct (Took s (Process Challenge)) flows d = d
turn_distinct (Took s (Forward to)) flows d = d
turn_distinct (Took s (Reset why)) flows d = d
turn_distinct (Took s (Drop why)) flows d = d
turn_distinct (Closed flow true) flows d = distinct_without flow flows d
turn_distinct (Closed flow false) flows d = d
turn_distinct (RetiredAs result) flows d =
    elim (cases_Bool (is_done result)) [ inl done ↦ rw done tt | inr stays ↦ rw stays d ]

pub book_distinct : (book : List Turn) → AreDistinct (book_flows book)
book_distinct [] = tt
book_distinct (t ∷ book) = turn_distinct t (book_flows book) (book_distinct book)

-- the list of a shard's held flows has each flow of the shard that is held, once
pub flows_are_held : (stage : Stage) (past : List Event) (s : ServerId) (f : Flow)
    → is_listed (flows_held stage past s (shard stage f)) f ≡ is_some (receiver_of (held stage past s f))
flows_are_held stage past s f =
    rw (flows_in_book stage past s (shard stage f), held_in_book stage past s f)
    (book_listed (book_of stage past s (shard stage f)) f)

pub flows_are_distinct : (stage : Stage) (past : List Event) (s : ServerId) (h : ℕ)
    → AreDistinct (flows_held stage past s h)
flows_are_distinct stage past s h = rw (flows_in_book stage past s h) (book_distinct (book_of stage past s h))

-- WHOSE SHARD THE FLOWS ARE OF

-- each of these flows is of the shard
abbrev pub AreIn : Stage → ℕ → List Flow → Type 0
AreIn stage h [] = Unit {0}
AreIn stage h (f ∷ flows) = (shard stage f ≡ h) × AreIn stage h flows

without_in : (stage : Stage) (h : ℕ) (f : Flow) (flows : List Flow) → AreIn stage h flows
    → AreIn stage h (without f flows)
without_in stage h f [] all = tt
without_in stage h f (x ∷ flows) all = elim (cases_Bool (same_flow f x)) [
  | inl same ↦ rw same (without_in stage h f flows all.1)
  | inr other ↦ rw other (all.0, without_in stage h f flows all.1)
]

taken_in : (stage : Stage) (h : ℕ) (verdict : Verdict) (f : Flow) (flows : List Flow) → shard stage f ≡ h
    → AreIn stage h flows
    → AreIn stage h (if is_accept verdict then f ∷ without f flows else if ends verdict then without f flows else flows)
taken_in stage h verdict f flows here all = elim (cases_Bool (is_accept verdict)) [
  | inl accepts ↦ rw accepts (here, without_in stage h f flows all)
  | inr other ↦ rw other (elim (cases_Bool (ends verdict)) [
    | inl ended ↦ rw ended (without_in stage h f flows all)
    | inr stays ↦ rw stays all
  ])
]

arrived_in : (stage : Stage) (h : ℕ) (here : Bool) (verdict : Verdict) (o : Option Segment) (flows : List Flow)
    → AreIn stage h flows → AreIn stage h (flows_arrived stage h here verdict o flows)
arrived_in stage h here verdict None flows all = all
arrived_in stage h here verdict (Some s) flows all = elim (cases_Bool (here && eqb (shard stage s.flow) h)) [
  | inl is ↦ rw is (taken_in stage h verdict s.flow flows (eqb-true _ _ (and_parts _ _ is).1) all)
  | inr other ↦ rw other all
]

either_in : (stage : Stage) (h : ℕ) (b : Bool) (xs ys : List Flow) → AreIn stage h xs → AreIn stage h ys
    → AreIn stage h (if b then xs else ys)
either_in stage h true xs ys p q = p
either_in stage h false xs ys p q = q

after_in : (stage : Stage) (what : What) (s : ServerId) (h : ℕ) (flows : List Flow) → AreIn stage h flows
    → AreIn stage h (flows_after stage what s h flows)
after_in stage (Arrive k hop server verdict) s h flows all =
    arrived_in stage h (same_server server s) verdict (segment_of stage k) flows all
after_in stage (Close server flow closed) s h flows all =
    either_in stage h _ _ _ (without_in stage h flow flows all) all
after_in stage (Retire server x at result) s h flows all = either_in stage h _ [] _ tt all
after_in stage (Publish v) s h flows all = all
after_in stage (Switch m v) s h flows all = all
after_in stage (Steer k m) s h flows all = all
after_in stage (Lose k hop) s h flows all = all
after_in stage Sync s h flows all = all

held_in : (stage : Stage) (past : List Event) (s : ServerId) (h : ℕ) → AreIn stage h (flows_held stage past s h)
held_in stage [] s h = tt
held_in stage (e ∷ past) s h = after_in stage e.what s h (flows_held stage past s h) (held_in stage past s h)

listed_in : (stage : Stage) (h : ℕ) (f : Flow) (flows : List Flow) → AreIn stage h flows → is_listed flows f ≡ true
    → shard stage f ≡ h
listed_in stage h f [] all is = absurd (cc)
listed_in stage h f (x ∷ flows) all is = elim (or_cases (same_flow x f) (is_listed flows f) is) [
  | inl same ↦ subst (λ (g : Flow). shard stage g ≡ h) (same_flow-true x f same) all.0
  | inr old ↦ listed_in stage h f flows all.1 old
]

same_some : (o : Option Holding) → is_some (receiver_of o) ≡ is_some o
same_some None = refl
same_some (Some x) = refl

-- a flow is in the list exactly where it is of the shard and is held
pub flows_of_shard : (stage : Stage) (past : List Event) (s : ServerId) (h : ℕ) (f : Flow)
    → is_listed (flows_held stage past s h) f ≡ (eqb (shard stage f) h && is_some (held stage past s f))
flows_of_shard stage past s h f = elim (cases_Bool (eqb (shard stage f) h)) [
  | inl is ↦
      let here : shard stage f ≡ h = eqb-true _ _ is
      in let listed : is_listed (flows_held stage past s h) f ≡ is_some (held stage past s f) =
      subst (λ (n : ℕ). is_listed (flows_held stage past s n) f ≡ is_some (held stage past s f)) here
      (flows_are_held stage past s f ∙ same_some (held stage past s f))
      in rw is listed
  | inr other ↦ rw other (elim (cases_Bool (is_listed (flows_held stage past s h) f)) [
    | inl listed ↦ absurd (both_ways _ other (eq-eqb _ _ (listed_in stage h f _ (held_in stage past s h) listed)))
    | inr absent ↦ absent
  ])
]

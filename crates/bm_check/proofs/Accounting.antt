-- The account of a run, from what is decided of its events.
use mathlib.Core.List.{reverse_aux}
use Rattle.std.proofs.Common.{◌≡◌, ℕ, zero, suc, ◌+◌, ◌==◌, Bool, true, false, ◌&&◌, ◌||◌, ◌⊎◌, inl, inr, List, []}
use Rattle.std.proofs.Common.{◌∷◌, Option, Some, None, is_some, refl, ap, sym, ◌∙◌, arith, subst}
use Rattle.std.specs.List.{AllByRecursion}
use Rattle.std.specs.Prelude.{if◌then◌else◌, reverse, All, IfSome}
use Rattle.std.proofs.lemmas.Bool.{and_parts, cases_Bool, eqb-true}
use Rattle.bm_base.specs.declared.fate.Fate.{Fate}
use Rattle.bm_base.specs.declared.label.Hop.{Hop}
use Rattle.bm_base.specs.declared.label.Hop.TheVariants.{Direct}
use Rattle.bm_base.specs.Labels.{same_hop}
use Rattle.bm_core.specs.Accounts.{AreAnswered, AreCarriedOut, AreSent, IsAccountOf, IsRouted, Routes, Rules, before}
use Rattle.bm_core.specs.Accounts.{copyless_at, count_of, counts, fate_now, loses, lost_at, sent_copies}
use Rattle.bm_core.specs.Accounts.{steers_packet}
use Rattle.bm_core.specs.Past.{Sending, is_sending, is_sent, segment_of, sending_of, sends}
use Rattle.bm_core.specs.Runs.{MayCome, Run}
use Rattle.bm_core.proofs.Ends.{direct_steers}
use Rattle.bm_core.specs.declared.events.Event.{Event}
use Rattle.bm_core.specs.declared.events.Stage.{Stage}
use Rattle.bm_core.specs.declared.events.What.{What}
use Rattle.bm_core.specs.declared.events.What.TheVariants.{Arrive, Close, Lose, Publish, Retire, Steer, Switch, Sync}
use Rattle.bm_check.proofs.Copying.{same_hop-true, sent_bound}
use Rattle.bm_check.specs.Inside.Copies.{AreFated, HasArrived, IsLossSettled, IsLost, IsSettled}

-- EACH EVENT

each_all : {X : Type 0} (P : X → Type 0) (xs : List X) → All P xs → AllByRecursion P xs
each_all P [] all = tt
each_all P (x ∷ xs) all = (all 0 x (omega arith), each_all P xs (λ k d below. all (suc k) d (omega (arith, below))))

all_each : {X : Type 0} (P : X → Type 0) (xs : List X) → AllByRecursion P xs → All P xs
all_each P [] each k d = λ below. absurd (omega (arith, below))
all_each P (x ∷ xs) each zero d = λ below. each.0
all_each P (x ∷ xs) each (suc k) d = λ below. all_each P xs each.1 k d (omega (arith, below))

each_reverse : {X : Type 0} (P : X → Type 0) (xs done : List X) → AllByRecursion P xs → AllByRecursion P done
    → AllByRecursion P (reverse_aux xs done)
each_reverse P [] done each before_it = before_it
each_reverse P (x ∷ xs) done each before_it = each_reverse P xs (x ∷ done) each.1 (each.0, before_it)

each_back : {X : Type 0} (P : X → Type 0) (xs done : List X) → AllByRecursion P (reverse_aux xs done)
    → AllByRecursion P xs × AllByRecursion P done
each_back P [] done each = (tt, each)
each_back P (x ∷ xs) done each = let r = each_back P xs (x ∷ done) each in ((r.1.0, r.0), r.1.1)

-- the newest first
pub each_past : {X : Type 0} (P : X → Type 0) (xs : List X) → All P xs → AllByRecursion P (reverse xs)
each_past P xs all = each_reverse P xs [] (each_all P xs all) tt

pub all_of_past : {X : Type 0} (P : X → Type 0) (xs : List X) → AllByRecursion P (reverse xs) → All P xs
all_of_past P xs each = all_each P xs (each_back P xs [] each).0

-- WHAT WAS ANSWERED

answered : (R : Routes) (F : Rules) (stage : Stage) (fates : List Fate) (past : List Event)
    → AllByRecursion (λ (e : Event). IsRouted R stage e.what) past → AreFated F fates past
    → AreAnswered R F stage fates past
answered R F stage fates [] routed fated = tt
answered R F stage fates (e ∷ past) routed fated =
    ((routed.0, fated.0), answered R F stage (before fates) past routed.1 fated.1)

pub fated_of : (R : Routes) (F : Rules) (stage : Stage) (fates : List Fate) (past : List Event)
    → AreAnswered R F stage fates past → AreFated F fates past
fated_of R F stage fates [] all = tt
fated_of R F stage fates (e ∷ past) all = (all.0.1, fated_of R F stage (before fates) past all.1)

pub routed_of : (R : Routes) (F : Rules) (stage : Stage) (fates : List Fate) (past : List Event)
    → AreAnswered R F stage fates past → AllByRecursion (λ (e : Event). IsRouted R stage e.what) past
routed_of R F stage fates [] all = tt
routed_of R F stage fates (e ∷ past) all = (all.0.0, routed_of R F stage (before fates) past all.1)

-- PACKETS

module _ (stage : Stage) where
  fresh : (past : List Event) (clock : ℕ) (what : What) (k : ℕ) → MayCome stage past clock what
      → steers_packet what k ≡ true → (is_sent past k Direct ≡ false) × (is_some (segment_of stage k) ≡ true)
  fresh past clock (Steer p m) k may is =
      let same = eqb-true p k is
      in (
        subst (λ (n : ℕ). is_sent past n Direct ≡ false) same may.1,
        subst (λ (n : ℕ). is_some (segment_of stage n) ≡ true) same may.2,
      )
  fresh past clock (Arrive p hop server verdict) k may is = absurd (cc)
  fresh past clock (Publish v) k may is = absurd (cc)
  fresh past clock (Switch m v) k may is = absurd (cc)
  fresh past clock (Lose p hop) k may is = absurd (cc)
  fresh past clock (Close server flow closed) k may is = absurd (cc)
  fresh past clock (Retire server h at result) k may is = absurd (cc)
  fresh past clock Sync k may is = absurd (cc)

  one_step : (b s : Bool) (n : ℕ) → (b ≡ true → s ≡ false) → n ≡ (if s then 1 else 0)
      → (if b then 1 else 0) + n ≡ (if b || s then 1 else 0)
  one_step true true n new is = let no : true ≡ false = new refl in absurd (cc)
  one_step true false n new is = omega (arith, is)
  one_step false true n new is = omega (arith, is)
  one_step false false n new is = omega (arith, is)

  -- a run steers each packet at most once
  steered_once : (past : List Event) → Run stage past → (k : ℕ)
      → counts past (λ what. steers_packet what k) ≡ (if is_sent past k Direct then 1 else 0)
  steered_once [] run k = refl
  steered_once (e ∷ past) run k =
      one_step (steers_packet e.what k) (is_sent past k Direct) (counts past (λ what. steers_packet what k))
      (λ is. (fresh past e.clock.0 e.what k run.0.may is).0) (steered_once past run.1 k)
      ∙ ap (λ (b : Bool). if b || is_sent past k Direct then 1 else 0) (sym (direct_steers e.what k))

  sent_has_segment : (past : List Event) → Run stage past → (k : ℕ) → is_sent past k Direct ≡ true
      → is_some (segment_of stage k) ≡ true
  sent_has_segment [] run k is = absurd (cc)
  sent_has_segment (e ∷ past) run k is = elim (cases_Bool (steers_packet e.what k)) [
    | inl here ↦ (fresh past e.clock.0 e.what k run.0.may here).1
    | inr other ↦
        let none : sends e.what k Direct ≡ false = direct_steers e.what k ∙ other
        in sent_has_segment past run.1 k (rw none at is)
  ]

  pub steered_all : (all : List Event) → Run stage all
      → ((k : ℕ) → is_some (segment_of stage k) ≡ true → is_sent all k Direct ≡ true) → (k : ℕ)
      → counts all (λ what. steers_packet what k) ≡ (if is_some (segment_of stage k) then 1 else 0)
  steered_all all run steered k = elim (cases_Bool (is_some (segment_of stage k))) [
    | inl some ↦
        let once = steered_once all run k
        in let sent = steered k some
        in rw some (rw sent at once)
    | inr none ↦ elim (cases_Bool (is_sent all k Direct)) [
      | inl sent ↦ let some = sent_has_segment all run k sent in absurd (cc)
      | inr unsent ↦ let once = steered_once all run k in rw none (rw unsent at once)
    ]
  ]

  pub not_steered : (all : List Event) → Run stage all
      → ((k : ℕ) → counts all (λ what. steers_packet what k) ≡ (if is_some (segment_of stage k) then 1 else 0))
      → (k : ℕ) → is_some (segment_of stage k) ≡ true → is_sent all k Direct ≡ true
  not_steered all run counted k some = elim (cases_Bool (is_sent all k Direct)) [
    | inl sent ↦ sent
    | inr unsent ↦
        let once : counts all (λ what. steers_packet what k) ≡ 0 = rw unsent at (steered_once all run k)
        in let one : counts all (λ what. steers_packet what k) ≡ 1 = rw some at (counted k)
        in absurd (omega (arith, once, one))
  ]

-- COPIES

some_or_none : {X : Type 0} (test : X → Bool) (Q : X → Type 0) (P : Type 0) (xs : List X)
    → ((x : X) → Q x → test x ≡ true → P) → AllByRecursion Q xs → (count_of test xs ≡ 0) ⊎ P
some_or_none test Q P [] found each = inl refl
some_or_none test Q P (x ∷ xs) found each = elim (cases_Bool (test x)) [
  | inl here ↦ inr (found x each.0 here)
  | inr other ↦ elim (some_or_none test Q P xs found each.1) [
    | inl none ↦ inl (rw other (omega (arith, none)))
    | inr p ↦ inr p
  ]
]

loss_found : (fates : List Fate) (all : List Event) (what : What) (n k : ℕ) (hop : Hop) (clock : ℕ)
    → loses what k hop ≡ true → n ≡ suc clock → IsLossSettled fates all what n → IsLost fates all k hop clock
loss_found fates all (Lose p h) zero k hop clock is at settled = absurd (omega (arith, at))
loss_found fates all (Lose p h) (suc m) k hop clock is at settled =
    let q = and_parts (p == k) (same_hop h hop) is
    in let moment : m ≡ clock = omega (arith, at)
    in subst (λ (x : ℕ). IsLost fates all k hop x) moment
    (subst (λ (x : Hop). IsLost fates all k x m) (same_hop-true h hop q.1)
    (subst (λ (x : ℕ). IsLost fates all x h m) (eqb-true p k q.0) settled))
loss_found fates all (Publish v) n k hop clock is at settled = absurd (cc)
loss_found fates all (Switch m v) n k hop clock is at settled = absurd (cc)
loss_found fates all (Steer p m) n k hop clock is at settled = absurd (cc)
loss_found fates all (Arrive p h server verdict) n k hop clock is at settled = absurd (cc)
loss_found fates all (Close server flow closed) n k hop clock is at settled = absurd (cc)
loss_found fates all (Retire server h x result) n k hop clock is at settled = absurd (cc)
loss_found fates all Sync n k hop clock is at settled = absurd (cc)

sending_found : (fates : List Fate) (all : List Event) (sent : Option Sending) (n k : ℕ) (hop : Hop)
    → is_sending sent k hop ≡ true
    → IfSome sent (λ s. HasArrived fates all s.packet s.hop × IsLost fates all s.packet s.hop n)
    → HasArrived fates all k hop × IsLost fates all k hop n
sending_found fates all None n k hop is settled = absurd (cc)
sending_found fates all (Some s) n k hop is settled =
    let q = and_parts (s.packet == k) (same_hop s.hop hop) is
    in subst (λ (x : Hop). HasArrived fates all k x × IsLost fates all k x n) (same_hop-true s.hop hop q.1)
    (subst (λ (x : ℕ). HasArrived fates all x s.hop × IsLost fates all x s.hop n) (eqb-true s.packet k q.0) settled)

copyless_or : (Q : Event → Type 0) (P : Type 0) (fates : List Fate) (past : List Event) (k : ℕ) (hop : Hop) (clock : ℕ)
    → ((e : Event) → Q e → sends e.what k hop ≡ true → e.clock.0 ≡ clock → P) → AllByRecursion Q past
    → (copyless_at fates past k hop clock ≡ 0) ⊎ P
copyless_or Q P fates [] k hop clock found each = inl refl
copyless_or Q P fates (e ∷ past) k hop clock found each = elim (cases_Bool (sends e.what k hop && ((fate_now fates).copies == 0 && e.clock.0 == clock))) [
  | inl here ↦
      let p = and_parts (sends e.what k hop) ((fate_now fates).copies == 0 && e.clock.0 == clock) here
      in let q = and_parts ((fate_now fates).copies == 0) (e.clock.0 == clock) p.1
      in inr (found e each.0 p.0 (eqb-true e.clock.0 clock q.1))
  | inr other ↦ elim (copyless_or Q P (before fates) past k hop clock found each.1) [
    | inl none ↦ inl (rw other (omega (arith, none)))
    | inr p ↦ inr p
  ]
]

copies_or : (Q : Event → Type 0) (P : Type 0) (fates : List Fate) (past : List Event) (k : ℕ) (hop : Hop)
    → ((e : Event) → Q e → sends e.what k hop ≡ true → P) → AllByRecursion Q past
    → (sent_copies fates past k hop ≡ 0) ⊎ P
copies_or Q P fates [] k hop found each = inl refl
copies_or Q P fates (e ∷ past) k hop found each = elim (cases_Bool (sends e.what k hop)) [
  | inl here ↦ inr (found e each.0 here)
  | inr other ↦ elim (copies_or Q P (before fates) past k hop found each.1) [
    | inl none ↦ inl (rw other (omega (arith, none)))
    | inr p ↦ inr p
  ]
]

lost_all : (fates : List Fate) (all : List Event) → AllByRecursion (λ (e : Event). IsSettled fates all e) all → (k : ℕ)
    (hop : Hop) (clock : ℕ) → IsLost fates all k hop clock
lost_all fates all each k hop clock =
    let lost : (lost_at all k hop (suc clock) ≡ 0) ⊎ IsLost fates all k hop clock =
    some_or_none (λ (e : Event). loses e.what k hop && e.clock.0 == suc clock) (λ (e : Event). IsSettled fates all e)
    (IsLost fates all k hop clock) all
    (λ e settled is.
    let p = and_parts (loses e.what k hop) (e.clock.0 == suc clock) is
    in loss_found fates all e.what e.clock.0 k hop clock p.0 (eqb-true e.clock.0 (suc clock) p.1) settled.1) each
    in let sent : (copyless_at fates all k hop clock ≡ 0) ⊎ IsLost fates all k hop clock =
    copyless_or (λ (e : Event). IsSettled fates all e) (IsLost fates all k hop clock) fates all k hop clock
    (λ e settled is at.
    subst (λ (n : ℕ). IsLost fates all k hop n) at
    (sending_found fates all (sending_of e.what) e.clock.0 k hop is settled.0).1) each
    in elim lost [
      | inr found ↦ found
      | inl none ↦ elim sent [
        | inr found ↦ found
        | inl zero_too ↦ none ∙ sym zero_too
      ]
    ]

arrived_all : (fates : List Fate) (all : List Event) → AreSent fates all
    → AllByRecursion (λ (e : Event). IsSettled fates all e) all → (k : ℕ) (hop : Hop) → HasArrived fates all k hop
arrived_all fates all sent each k hop =
    let copies : (sent_copies fates all k hop ≡ 0) ⊎ HasArrived fates all k hop =
    copies_or (λ (e : Event). IsSettled fates all e) (HasArrived fates all k hop) fates all k hop
    (λ e settled is. (sending_found fates all (sending_of e.what) e.clock.0 k hop is settled.0).0) each
    in elim copies [
      | inr found ↦ found
      | inl none ↦ let few = sent_bound fates all sent k hop in omega (arith, none, few)
    ]

if_some : {X : Type 0} (P : X → Type 0) (o : Option X) → ((x : X) → P x) → IfSome o P
if_some P None all = tt
if_some P (Some x) all = all x

loss_any : (fates : List Fate) (all : List Event) → ((k : ℕ) (hop : Hop) (clock : ℕ) → IsLost fates all k hop clock)
    → (what : What) (n : ℕ) → IsLossSettled fates all what n
loss_any fates all lost (Lose k hop) zero = tt
loss_any fates all lost (Lose k hop) (suc clock) = lost k hop clock
loss_any fates all lost (Publish v) n = tt
loss_any fates all lost (Switch m v) n = tt
loss_any fates all lost (Steer p m) n = tt
loss_any fates all lost (Arrive p h server verdict) n = tt
loss_any fates all lost (Close server flow closed) n = tt
loss_any fates all lost (Retire server h x result) n = tt
loss_any fates all lost Sync n = tt

-- where all is accounted for, so is what each event sends or loses
pub settled_all : (fates : List Fate) (all : List Event) → ((k : ℕ) (hop : Hop) → HasArrived fates all k hop)
    → ((k : ℕ) (hop : Hop) (clock : ℕ) → IsLost fates all k hop clock) → (e : Event) → IsSettled fates all e
settled_all fates all came lost e = (
  if_some _ (sending_of e.what) (λ s. (came s.packet s.hop, lost s.packet s.hop e.clock.0)),
  loss_any fates all lost e.what e.clock.0,
)

-- THE ACCOUNT

pub accounted : (R : Routes) (F : Rules) (stage : Stage) (fates : List Fate) (all : List Event) → Run stage all
    → ((k : ℕ) → is_some (segment_of stage k) ≡ true → is_sent all k Direct ≡ true)
    → AllByRecursion (λ (e : Event). IsRouted R stage e.what) all → AreFated F fates all → AreSent fates all
    → AllByRecursion (λ (e : Event). IsSettled fates all e) all → AreCarriedOut stage all
    → IsAccountOf R F stage fates all
accounted R F stage fates all run steered routed fated sent settled done = record {
  steered = steered_all stage all run steered;
  answered = answered R F stage fates all routed fated;
  lost = lost_all fates all settled;
  sent = sent;
  arrived = arrived_all fates all sent settled;
  commands = done;
}

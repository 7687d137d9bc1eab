-- The clocks of logs that are underway come from lower ones by short delays.
use Rattle.std.proofs.Common.{◌≡◌, ℕ, ◌+◌, ◌*◌, ◌^◌, ◌<◌, ◌≤◌, max, Bool, true, false, cond, inl, inr, List, [], ◌∷◌}
use Rattle.std.proofs.Common.{◌++◌, Option, Some, None, refl, sym, subst, arith, leb}
use Rattle.std.specs.Prelude.{IfSome, ◌⊎◌, unwrap_or}
use Rattle.std.specs.List.{AllByRecursion}
use Rattle.std.proofs.lemmas.Bool.{cases_lt, or_cases, or_left, or_right, and_parts, eqb-true, eq-eqb}
use Rattle.bm_base.specs.declared.label.Hop.{Hop}
use Rattle.bm_base.specs.declared.fate.Fate.{Fate}
use Rattle.bm_core.specs.declared.events.Event.{Event}
use Rattle.bm_core.specs.declared.events.Stage.{Stage}
use Rattle.bm_core.specs.Past.{sends, sending_of, Sending, is_sending}
use Rattle.bm_core.specs.Runs.{Actor, actor_of, is_by, own_clock, next_clock}
use Rattle.bm_core.specs.Accounts.{Rules}
use Rattle.bm_core.specs.Threads.{last_own, publish_clock, sync_clock, is_publish_of}
use Rattle.bm_core.specs.Accounts.{is_sync}
use Rattle.bm_merge.specs.Merges.{some_event, is_clock}
use Rattle.bm_merge.specs.Notes.{Note, events_of, many, greatest, until}
use Rattle.bm_merge.proofs.Pacing.{IsPacedAmong}
use Rattle.bm_merge.specs.Workers.{is_due_at}
use Rattle.bm_merge.proofs.Reaching.{one_if}

-- SOURCES OF CLOCKS

-- 0, or a lower clock of these events
abbrev pub IsSource : List Event → ℕ → ℕ → Type 0
IsSource events clock c = (c ≡ 0) ⊎ ((c < clock) × (is_clock events c ≡ true))

-- a stated moment, or a lower clock of these events with a short delay
abbrev pub IsCause : List Event → ℕ → ℕ → Type 0
IsCause events clock b =
    (b ≤ 45 * 10 ^ 17) ⊎ ((c : ℕ) × (c < clock) × (is_clock events c ≡ true) × (b ≤ c + 60000000000))

pub paced_from : (events : List Event) (e : Event) (a b : ℕ) → IsSource events e.clock.0 a
    → IsCause events e.clock.0 b → e.clock.0 ≡ next_clock a b → IsPacedAmong events e
paced_from events e a b source cause is =
    record { a = a; b = b; before = source; moment = cause; clock = omega arith }

pub source_cause : (events : List Event) (clock c : ℕ) → IsSource events clock c → IsCause events clock c
source_cause events clock c (inl none) = inl (omega arith)
source_cause events clock c (inr low) = inr (c, low.0, low.1, omega arith)

-- the greater of two causes is a cause
pub max_cause : (events : List Event) (clock a b : ℕ) → IsCause events clock a → IsCause events clock b
    → IsCause events clock (max a b)
max_cause events clock a b x y = elim (cases_lt a b) [
  | inl low ↦ let is : max a b ≡ b = omega arith in rw is y
  | inr high ↦ let is : max a b ≡ a = omega arith in rw is x
]

-- WHERE THEY STAND

pub some_append : (test : Event → Bool) (x y : List Event) → some_event test y ≡ true
    → some_event test (x ++ y) ≡ true
some_append test [] y h = h
some_append test (e ∷ x) y h = or_right (test e) _ (some_append test x y h)

pub some_first : (test : Event → Bool) (x y : List Event) → some_event test x ≡ true → some_event test (x ++ y) ≡ true
some_first test [] y h = absurd (cc)
some_first test (e ∷ x) y h =
    elim (or_cases (test e) (some_event test x) h)
    [ inl a ↦ or_left _ _ a | inr b ↦ or_right (test e) _ (some_first test x y b) ]

-- an actor's last clock is one of its log's, or 0
own_clocked : (stage : Stage) (a : Actor) (rest : List Event)
    → (unwrap_or (own_clock stage rest a) 0 ≡ 0) ⊎ (is_clock rest (unwrap_or (own_clock stage rest a) 0) ≡ true)
own_clocked stage a [] = inl refl
own_clocked stage a (e ∷ rest) = go (is_by (actor_of stage e.what) a) (own_clocked stage a rest) where
  go : (b : Bool)
      → (unwrap_or (own_clock stage rest a) 0 ≡ 0) ⊎ (is_clock rest (unwrap_or (own_clock stage rest a) 0) ≡ true)
      → (unwrap_or (cond b (Some e.clock.0) (own_clock stage rest a)) 0 ≡ 0)
      ⊎ (is_clock (e ∷ rest) (unwrap_or (cond b (Some e.clock.0) (own_clock stage rest a)) 0) ≡ true)
  go true old = inr (or_left _ _ (eq-eqb e.clock.0 e.clock.0 refl))
  go false (inl none) = inl none
  go false (inr is) = inr (or_right _ _ is)

pub own_source : (stage : Stage) (o : Option Actor) (events rest : List Event) (clock : ℕ)
    → ((c : ℕ) → is_clock rest c ≡ true → is_clock events c ≡ true) → last_own stage rest o < clock
    → IsSource events clock (last_own stage rest o)
own_source stage None events rest clock within low = inl refl
own_source stage (Some a) events rest clock within low =
    elim (own_clocked stage a rest) [ inl none ↦ inl none | inr is ↦ inr (low, within _ is) ]

publish_clocked : (log : List Event) (v : ℕ) → (publish_clock log v ≡ 0) ⊎ (is_clock log (publish_clock log v) ≡ true)
publish_clocked [] v = inl refl
publish_clocked (e ∷ log) v = go (is_publish_of e.what v) (publish_clocked log v) where
  go : (b : Bool) → (publish_clock log v ≡ 0) ⊎ (is_clock log (publish_clock log v) ≡ true)
      → (cond b e.clock.0 (publish_clock log v) ≡ 0)
      ⊎ (is_clock (e ∷ log) (cond b e.clock.0 (publish_clock log v)) ≡ true)
  go true old = inr (or_left _ _ (eq-eqb e.clock.0 e.clock.0 refl))
  go false (inl none) = inl none
  go false (inr is) = inr (or_right _ _ is)

sync_clocked : (log : List Event) → (sync_clock log ≡ 0) ⊎ (is_clock log (sync_clock log) ≡ true)
sync_clocked [] = inl refl
sync_clocked (e ∷ log) = go (is_sync e.what) (sync_clocked log) where
  go : (b : Bool) → (sync_clock log ≡ 0) ⊎ (is_clock log (sync_clock log) ≡ true)
      → (cond b e.clock.0 (sync_clock log) ≡ 0) ⊎ (is_clock (e ∷ log) (cond b e.clock.0 (sync_clock log)) ≡ true)
  go true old = inr (or_left _ _ (eq-eqb e.clock.0 e.clock.0 refl))
  go false (inl none) = inl none
  go false (inr is) = inr (or_right _ _ is)

until_clocked : (clock c : ℕ) (log : List Event) → is_clock (until clock log) c ≡ true → is_clock log c ≡ true
until_clocked clock c [] h = h
until_clocked clock c (e ∷ log) h = go (leb e.clock.0 clock) h (until_clocked clock c log) where
  go : (b : Bool) → is_clock (cond b (e ∷ log) (until clock log)) c ≡ true
      → (is_clock (until clock log) c ≡ true → is_clock log c ≡ true) → is_clock (e ∷ log) c ≡ true
  go true h old = h
  go false h old = or_right _ _ (old h)

pub publish_source : (events log : List Event) (at v clock : ℕ)
    → ((c : ℕ) → is_clock log c ≡ true → is_clock events c ≡ true) → publish_clock (until at log) v < clock
    → IsSource events clock (publish_clock (until at log) v)
publish_source events log at v clock within low =
    elim (publish_clocked (until at log) v)
    [ inl none ↦ inl none | inr is ↦ inr (low, within _ (until_clocked at _ log is)) ]

pub sync_source : (events log : List Event) (at clock : ℕ)
    → ((c : ℕ) → is_clock log c ≡ true → is_clock events c ≡ true) → sync_clock (until at log) < clock
    → IsSource events clock (sync_clock (until at log))
sync_source events log at clock within low =
    elim (sync_clocked (until at log))
    [ inl none ↦ inl none | inr is ↦ inr (low, within _ (until_clocked at _ log is)) ]

-- the greatest clock of some notes is one of them, or 0
pub top_clocked : (test : Note → Bool) (x : List Note)
    → (greatest (λ y. cond (test y) y.event.clock.0 0) x ≡ 0)
    ⊎ (is_clock (events_of x) (greatest (λ y. cond (test y) y.event.clock.0 0) x) ≡ true)
top_clocked test [] = inl refl
top_clocked test (n ∷ x) = go (test n) (top_clocked test x) where
  go : (b : Bool)
      → (greatest (λ y. cond (test y) y.event.clock.0 0) x ≡ 0)
      ⊎ (is_clock (events_of x) (greatest (λ y. cond (test y) y.event.clock.0 0) x) ≡ true)
      → (max (cond b n.event.clock.0 0) (greatest (λ y. cond (test y) y.event.clock.0 0) x) ≡ 0)
      ⊎ (is_clock (n.event ∷ events_of x)
      (max (cond b n.event.clock.0 0) (greatest (λ y. cond (test y) y.event.clock.0 0) x)) ≡ true)
  go true (inl none) =
      let is : max n.event.clock.0 (greatest (λ y. cond (test y) y.event.clock.0 0) x) ≡ n.event.clock.0 = omega arith
      in inr (subst (λ (c : ℕ). is_clock (n.event ∷ events_of x) c ≡ true) (sym is)
      (or_left _ _ (eq-eqb n.event.clock.0 n.event.clock.0 refl)))
  go true (inr h) = elim (cases_lt n.event.clock.0 (greatest (λ y. cond (test y) y.event.clock.0 0) x)) [
    | inl low ↦
        let is : max n.event.clock.0 (greatest (λ y. cond (test y) y.event.clock.0 0) x)
        ≡ greatest (λ y. cond (test y) y.event.clock.0 0) x = omega arith
        in inr (subst (λ (c : ℕ). is_clock (n.event ∷ events_of x) c ≡ true) (sym is) (or_right _ _ h))
    | inr high ↦
        let is : max n.event.clock.0 (greatest (λ y. cond (test y) y.event.clock.0 0) x) ≡ n.event.clock.0 =
        omega arith
        in inr (subst (λ (c : ℕ). is_clock (n.event ∷ events_of x) c ≡ true) (sym is)
        (or_left _ _ (eq-eqb n.event.clock.0 n.event.clock.0 refl)))
  ]
  go false (inl none) = inl (omega arith)
  go false (inr h) =
      let is : max 0 (greatest (λ y. cond (test y) y.event.clock.0 0) x)
      ≡ greatest (λ y. cond (test y) y.event.clock.0 0) x = omega arith
      in inr (subst (λ (c : ℕ). is_clock (n.event ∷ events_of x) c ≡ true) (sym is) (or_right _ _ h))

pub top_source : (events : List Event) (test : Note → Bool) (x : List Note) (clock : ℕ)
    → ((c : ℕ) → is_clock (events_of x) c ≡ true → is_clock events c ≡ true)
    → greatest (λ y. cond (test y) y.event.clock.0 0) x < clock
    → IsSource events clock (greatest (λ y. cond (test y) y.event.clock.0 0) x)
top_source events test x clock within low =
    elim (top_clocked test x) [ inl none ↦ inl none | inr is ↦ inr (low, within _ is) ]

-- MOMENTS

-- a sending's copies are due a short delay after it
pub due_cause : (F : Rules) (events : List Event) (x : List Note) (k : ℕ) (hop : Hop) (due clock : ℕ)
    → ((packet : ℕ) (h : Hop) (f : Fate) → F packet h f → f.delay ≤ 60000000000)
    → AllByRecursion (λ n. IfSome (sending_of n.event.what) (λ s. F s.packet s.hop n.fate)) x
    → ((c : ℕ) → is_clock (events_of x) c ≡ true → is_clock events c ≡ true) → due < clock
    → 1 ≤ many (is_due_at k hop due) x → IsCause events clock due
due_cause F events [] k hop due clock short all within low h = absurd (omega arith)
due_cause F events (n ∷ x) k hop due clock short all within low h =
    go (is_due_at k hop due n) refl h
    (λ more. due_cause F events x k hop due clock short all.1 (λ c is. within c (or_right _ _ is)) low more) where
      delay_of : (o : Option Sending) → is_sending o k hop ≡ true → IfSome o (λ s. F s.packet s.hop n.fate)
          → n.fate.delay ≤ 60000000000
      delay_of None is f = absurd (cc)
      delay_of (Some s) is f = short s.packet s.hop n.fate f

      go : (b : Bool) → is_due_at k hop due n ≡ b → 1 ≤ one_if b + many (is_due_at k hop due) x
          → (1 ≤ many (is_due_at k hop due) x → IsCause events clock due) → IsCause events clock due
      go true is h old =
          let parts = and_parts (sends n.event.what k hop) _ is
          in let at : due ≡ n.event.clock.0 + n.fate.delay = eqb-true _ _ parts.1
          in let delay : n.fate.delay ≤ 60000000000 = delay_of (sending_of n.event.what) parts.0 all.0
          in inr (
            n.event.clock.0,
            omega arith,
            within n.event.clock.0
                (or_left _ _ (eq-eqb n.event.clock.0 n.event.clock.0 refl)),
            omega arith,
          )
      go false is h old = old (omega arith)

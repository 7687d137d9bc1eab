-- Steps by which a worker keeps its promises: the copies that are still to arrive, and the phases.
use Rattle.std.proofs.Common.{◌≡◌, ℕ, suc, ◌+◌, ◌<◌, ◌≤◌, max, Bool, true, false, cond, ◌&&◌, List, [], ◌∷◌, ◌++◌}
use Rattle.std.proofs.Common.{refl, sym, ap, ◌∙◌, arith, leb, ltb}
use Rattle.std.specs.List.{AllByRecursion}
use Rattle.std.specs.Prelude.{slice_get}
use Rattle.std.proofs.lemmas.Bool.{lt-leb, leb-true, lt-ltb, le-ltb, leb-false}
use Rattle.bm_base.specs.declared.label.Hop.{Hop}
use Rattle.bm_core.specs.declared.events.Event.{Event}
use Rattle.bm_core.specs.declared.events.What.{What}
use Rattle.bm_core.specs.declared.events.What.TheVariants.{Publish, Switch, Steer, Lose, Arrive, Close, Retire, Sync}
use Rattle.bm_core.specs.declared.events.Stage.{Stage}
use Rattle.bm_core.specs.Past.{sends, is_switch_of}
use Rattle.bm_core.specs.Runs.{next_clock}
use Rattle.bm_core.specs.Accounts.{arrives, counts, is_sync}
use Rattle.bm_core.specs.Threads.{sync_clock, moment_at}
use Rattle.bm_merge.specs.Notes.{Note, total, many, greatest, until}
use Rattle.bm_merge.specs.Workers.{IsMet}
use Rattle.bm_merge.proofs.Noting.{total_append, greatest_append, greatest_none, each_so}
use Rattle.bm_merge.proofs.Reaching.{one_if}

-- COPIES

-- up to each clock at most as many copies arrived as were sent at lower clocks, minus those still to arrive from a
-- sending at that clock
abbrev pub HasCopiesLeft : List Note → ℕ → Hop → ℕ → ℕ → Type 0
HasCopiesLeft notes k hop clock left =
    (c : ℕ) → many (λ n. arrives n.event.what k hop && leb n.event.clock.0 c) notes + cond (ltb clock c) left 0
    ≤ total (λ n. cond (sends n.event.what k hop && ltb n.event.clock.0 c) n.fate.copies 0) notes

-- the copies of a sending are still to arrive
pub copies_left_more : (n : Note) (notes : List Note) (k : ℕ) (hop : Hop) (old : ℕ) → arrives n.event.what k hop ≡ false
    → sends n.event.what k hop ≡ true → HasCopiesLeft notes k hop old 0
    → HasCopiesLeft (n ∷ notes) k hop n.event.clock.0 n.fate.copies
copies_left_more n notes k hop old not is has_left c =
    let before = has_left c
    in rw (not, is) (go (ltb n.event.clock.0 c) before) where
      go : (b : Bool)
          → many (λ n. arrives n.event.what k hop && leb n.event.clock.0 c) notes + cond (ltb old c) 0 0
          ≤ total (λ n. cond (sends n.event.what k hop && ltb n.event.clock.0 c) n.fate.copies 0) notes
          → (0 + many (λ n. arrives n.event.what k hop && leb n.event.clock.0 c) notes) + cond b n.fate.copies 0
          ≤ cond b n.fate.copies 0 + total
          (λ n. cond (sends n.event.what k hop && ltb n.event.clock.0 c) n.fate.copies 0) notes
      go true h = omega arith
      go false h = omega arith

-- a copy that arrives later than it was sent is no longer to arrive
pub copies_left_less : (n : Note) (notes : List Note) (k : ℕ) (hop : Hop) (clock left : ℕ)
    → arrives n.event.what k hop ≡ true → sends n.event.what k hop ≡ false → clock < n.event.clock.0
    → HasCopiesLeft notes k hop clock (suc left) → HasCopiesLeft (n ∷ notes) k hop clock left
copies_left_less n notes k hop clock left is not later has_left c =
    let before = has_left c
    in rw (is, not) (go (leb n.event.clock.0 c) (ltb clock c) refl refl before) where
      go : (a b : Bool) → leb n.event.clock.0 c ≡ a → ltb clock c ≡ b
          → many (λ n. arrives n.event.what k hop && leb n.event.clock.0 c) notes + cond b (suc left) 0
          ≤ total (λ n. cond (sends n.event.what k hop && ltb n.event.clock.0 c) n.fate.copies 0) notes
          → (one_if a + many (λ n. arrives n.event.what k hop && leb n.event.clock.0 c) notes) + cond b left 0
          ≤ 0 + total (λ n. cond (sends n.event.what k hop && ltb n.event.clock.0 c) n.fate.copies 0) notes
      go true true x y h = omega arith
      go true false x y h =
          let under : n.event.clock.0 ≤ c = leb-true _ _ x
          in let yes : ltb clock c ≡ true = lt-ltb _ _ (omega arith)
          in absurd (let bad : true ≡ false = sym yes ∙ y in cc)
      go false true x y h = omega arith
      go false false x y h = omega arith

-- what is neither changes nothing
pub copies_left_same : (n : Note) (notes : List Note) (k : ℕ) (hop : Hop) (clock left : ℕ)
    → arrives n.event.what k hop ≡ false → sends n.event.what k hop ≡ false → HasCopiesLeft notes k hop clock left
    → HasCopiesLeft (n ∷ notes) k hop clock left
copies_left_same n notes k hop clock left none not has_left c = let before = has_left c in rw (none, not) (omega arith)

-- PHASES

-- the controller's log up to the clock has p Syncs
abbrev pub IsInPhase : List Event → ℕ → ℕ → Type 0
IsInPhase control clock p = counts (until clock control) is_sync ≡ p

-- from the last Sync on a clock is in the newest phase
pub now_in_phase : (control : List Event) (clock : ℕ) → sync_clock control ≤ clock
    → IsInPhase control clock (counts control is_sync)
now_in_phase [] clock low = refl
now_in_phase (e ∷ control) clock low =
    go (leb e.clock.0 clock) (is_sync e.what) refl refl low (now_in_phase control clock) where
      go : (a b : Bool) → leb e.clock.0 clock ≡ a → is_sync e.what ≡ b → cond b e.clock.0 (sync_clock control) ≤ clock
          → (sync_clock control ≤ clock → IsInPhase control clock (counts control is_sync))
          → counts (cond a (e ∷ control) (until clock control)) is_sync ≡ one_if b + counts control is_sync
      go true b x y low old = rw y refl
      go false true x y low old = let over : clock < e.clock.0 = leb-false _ _ x in absurd (omega arith)
      go false false x y low old = old low ∙ omega arith

-- a later event of the controller doesn't change the phase
pub stays_in_phase : (control : List Event) (e : Event) (clock p : ℕ) → clock < e.clock.0 → IsInPhase control clock p
    → IsInPhase (e ∷ control) clock p
stays_in_phase control e clock p over old = let no : leb e.clock.0 clock ≡ false = lt-leb _ _ over in rw no old

-- neither does a Publish in the phase
pub publish_in_phase : (control : List Event) (e : Event) (clock p : ℕ) → is_sync e.what ≡ false
    → sync_clock control ≤ clock → IsInPhase control clock p → IsInPhase (e ∷ control) clock p
publish_in_phase control e clock p not low old = go (leb e.clock.0 clock) (now_in_phase control clock low) where
  go : (a : Bool) → IsInPhase control clock (counts control is_sync)
      → counts (cond a (e ∷ control) (until clock control)) is_sync ≡ p
  go true now = rw not (omega (arith, sym now ∙ old))
  go false now = old

-- SYNCS

-- what comes later doesn't change that a Sync came after its phase
pub met_still : (stage : Stage) (more all : List Note) (rest : List Event) (n : Note) (what : What)
    → AllByRecursion (λ y. n.event.clock.0 ≤ y.event.clock.0) more → IsMet stage all rest n what
    → IsMet stage (more ++ all) rest n what
met_still stage more all rest n Sync later met =
    let f : Note → ℕ = λ y. cond (ltb y.event.clock.0 n.event.clock.0) y.event.clock.0 0
    in let none : greatest f more ≡ 0 =
    greatest_none f more
    (each_so (λ y. n.event.clock.0 ≤ y.event.clock.0) (λ y. f y ≡ 0) more
    (λ y h. let no = le-ltb _ _ h in rw no refl) later)
    in let split : greatest f (more ++ all) ≡ max (greatest f more) (greatest f all) = greatest_append f more all
    in let same : greatest f all ≡ greatest f (more ++ all) = omega arith
    in (
      (λ m low.
          let g : Note → ℕ =
          λ y. one_if
          (is_switch_of y.event.what m
          && (leb (sync_clock rest) y.event.clock.0 && ltb y.event.clock.0 n.event.clock.0))
          in let sum : total g (more ++ all) ≡ total g more + total g all = total_append g more all
          in let one : 1 ≤ total g all = met.0 m low
          in omega arith),
      met.1 ∙ ap (λ (c : ℕ). next_clock c (moment_at (slice_get stage.script.commands n.command))) same,
    )
met_still stage more all rest n (Publish v) later met = tt
met_still stage more all rest n (Switch m v) later met = tt
met_still stage more all rest n (Steer k m) later met = tt
met_still stage more all rest n (Lose k hop) later met = tt
met_still stage more all rest n (Arrive k hop server verdict) later met = tt
met_still stage more all rest n (Close server flow closed) later met = tt
met_still stage more all rest n (Retire server h at result) later met = tt

top_is : (c top : ℕ) (all : List Note) → top < c → AllByRecursion (λ y. y.event.clock.0 ≤ top) all
    → greatest (λ y. cond (ltb y.event.clock.0 c) y.event.clock.0 0) all ≡ greatest (λ y. y.event.clock.0) all
top_is c top [] low all = refl
top_is c top (n ∷ all) low each =
    let under : n.event.clock.0 < c = omega (arith, each.0)
    in let yes : ltb n.event.clock.0 c ≡ true = lt-ltb _ _ under
    in rw (yes, top_is c top all low each.1) refl

pub all_under : (all : List Note) → AllByRecursion (λ y. y.event.clock.0 ≤ greatest (λ z. z.event.clock.0) all) all
all_under [] = tt
all_under (n ∷ all) = (
  omega arith,
  each_so (λ y. y.event.clock.0 ≤ greatest (λ z. z.event.clock.0) all)
      (λ y. y.event.clock.0 ≤ max n.event.clock.0 (greatest (λ z. z.event.clock.0) all)) all (λ y h. omega arith)
      (all_under all),
)

with_true : (a b : Bool) → one_if (a && b) ≡ one_if (a && (b && true))
with_true true true = refl
with_true true false = refl
with_true false b = refl

switches_under : (m since c top : ℕ) (all : List Note) → top < c → AllByRecursion (λ y. y.event.clock.0 ≤ top) all
    → many (λ y. is_switch_of y.event.what m && leb since y.event.clock.0) all
    ≡ many (λ y. is_switch_of y.event.what m && (leb since y.event.clock.0 && ltb y.event.clock.0 c)) all
switches_under m since c top [] low each = refl
switches_under m since c top (n ∷ all) low each =
    let under : n.event.clock.0 < c = omega (arith, each.0)
    in let yes : ltb n.event.clock.0 c ≡ true = lt-ltb _ _ under
    in let old = switches_under m since c top all low each.1
    in rw yes (let here = with_true (is_switch_of n.event.what m) (leb since n.event.clock.0) in omega arith)

-- a Sync above the greatest clock of all that was done so far
pub met_now : (stage : Stage) (all : List Note) (rest : List Event) (n : Note)
    → n.event.clock.0
    ≡ next_clock (greatest (λ y. y.event.clock.0) all) (moment_at (slice_get stage.script.commands n.command))
    → ((m : ℕ) → m < stage.script.setting.muxes
    → 1 ≤ many (λ y. is_switch_of y.event.what m && leb (sync_clock rest) y.event.clock.0) all)
    → IsMet stage all rest n Sync
met_now stage all rest n clock looked =
    let low : greatest (λ y. y.event.clock.0) all < n.event.clock.0 = omega arith
    in let top : greatest (λ y. cond (ltb y.event.clock.0 n.event.clock.0) y.event.clock.0 0) all
    ≡ greatest (λ y. y.event.clock.0) all = top_is n.event.clock.0 _ all low (all_under all)
    in (
      (λ m within. let one = looked m within
          in let same = switches_under m (sync_clock rest) n.event.clock.0 _ all low (all_under all) in omega arith),
      clock ∙ ap (λ (c : ℕ). next_clock c (moment_at (slice_get stage.script.commands n.command))) (sym top),
    )

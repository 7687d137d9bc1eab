-- The phases of a threaded run, step by step: what a run keeps at each Publish, at what its workers do, and at each
-- Sync.
use Rattle.std.proofs.Common.{◌≡◌, ℕ, suc, ◌<◌, ◌≤◌, true, false, cond, ◌&&◌, inl, inr, List}
use Rattle.std.proofs.Common.{[], ◌∷◌, ◌++◌, Option, Some, None, refl, sym, ap, ◌∙◌, subst, arith, leb, ltb}
use Rattle.std.specs.List.{AllByRecursion}
use Rattle.std.specs.Prelude.{IfSome, slice_get}
use Rattle.std.proofs.lemmas.Bool.{cases_lt, cases_Bool}
use Rattle.bm_core.specs.declared.events.What.{What}
use Rattle.bm_core.specs.declared.events.What.TheVariants.{Publish, Switch, Steer, Lose, Arrive, Close, Retire, Sync}
use Rattle.bm_core.specs.declared.events.Event.{Event}
use Rattle.bm_core.specs.declared.events.Stage.{Stage}
use Rattle.bm_core.specs.Past.{is_switch_of}
use Rattle.bm_core.specs.Runs.{next_clock, AtEach}
use Rattle.bm_core.specs.Accounts.{counts, is_sync}
use Rattle.bm_core.specs.Threads.{sync_clock, moment_at, phase_of, packet_of}
use Rattle.bm_merge.specs.Notes.{Note, events_of, total, many, greatest}
use Rattle.bm_merge.specs.Workers.{IsMet}
use Rattle.bm_merge.proofs.Noting.{each_append, each_so}
use Rattle.bm_merge.proofs.Reaching.{one_if}
use Rattle.bm_merge.proofs.Sharing.{greatest_shared}
use Rattle.bm_merge.proofs.CopiesLeft.{IsInPhase, now_in_phase, stays_in_phase, publish_in_phase, met_still, met_now}
use Rattle.bm_merge.proofs.CopiesLeft.{all_under}

abbrev pub IsPhasedIn : Stage → List Event → Note → Type 0
IsPhasedIn stage control n =
    IfSome (packet_of n.event.what) (λ k. IsInPhase control n.event.clock.0 (phase_of stage k))

-- after p Syncs, with this log of the controller and all that was done
pub record IsPhased (stage : Stage) (p : ℕ) (control notes : List Note) : Type 0 where
  pub syncs : counts (events_of control) is_sync ≡ p
  pub phases : AllByRecursion (IsPhasedIn stage (events_of control)) notes
  pub met : AtEach (λ rest n. IsMet stage notes (events_of rest) n n.event.what) control
  pub tops : AllByRecursion (λ n. is_sync n.event.what ≡ true → n.event.clock.0 ≤ sync_clock (events_of control))
      control

pub nothing_phased : (stage : Stage) → IsPhased stage 0 [] []
nothing_phased stage = record { syncs = refl; phases = tt; met = tt; tops = tt }

met_free : (stage : Stage) (all : List Note) (rest : List Event) (n : Note) (what : What) → is_sync what ≡ false
    → IsMet stage all rest n what
met_free stage all rest n Sync not = absurd (cc)
met_free stage all rest n (Publish v) not = tt
met_free stage all rest n (Switch m v) not = tt
met_free stage all rest n (Steer k m) not = tt
met_free stage all rest n (Lose k hop) not = tt
met_free stage all rest n (Arrive k hop server verdict) not = tt
met_free stage all rest n (Close server flow closed) not = tt
met_free stage all rest n (Retire server h at result) not = tt

-- of one event
met_one : (stage : Stage) (more notes : List Note) (rest : List Event) (n : Note) (what : What) (low : ℕ)
    → n.event.what ≡ what → AllByRecursion (λ y. low ≤ y.event.clock.0) more
    → (is_sync what ≡ true → n.event.clock.0 ≤ low) → IsMet stage notes rest n what
    → IsMet stage (more ++ notes) rest n what
met_one stage more notes rest n what low is later top met = elim (cases_Bool (is_sync what)) [
  | inl sync ↦ met_still stage more notes rest n what
      (each_so (λ y. low ≤ y.event.clock.0) (λ y. n.event.clock.0 ≤ y.event.clock.0) more
      (λ y h. let under = top sync in omega arith) later) met
  | inr not ↦ met_free stage (more ++ notes) rest n what not
]

-- what comes after the last Sync doesn't change that each Sync came after its phase
met_later : (stage : Stage) (more notes control : List Note) (low : ℕ)
    → AllByRecursion (λ y. low ≤ y.event.clock.0) more
    → AllByRecursion (λ n. is_sync n.event.what ≡ true → n.event.clock.0 ≤ low) control
    → AtEach (λ rest n. IsMet stage notes (events_of rest) n n.event.what) control
    → AtEach (λ rest n. IsMet stage (more ++ notes) (events_of rest) n n.event.what) control
met_later stage more notes [] low later tops met = tt
met_later stage more notes (n ∷ control) low later tops met = (
  met_one stage more notes (events_of control) n n.event.what low refl later tops.0 met.0,
  met_later stage more
      notes control low later tops.1 met.1,
)

IfSome_map : (o : Option ℕ) (P Q : ℕ → Type 0) → ((k : ℕ) → P k → Q k) → IfSome o P → IfSome o Q
IfSome_map None P Q f h = tt
IfSome_map (Some k) P Q f h = f k h

-- WHAT THE WORKERS DO

new_phases : (stage : Stage) (p : ℕ) (control more : List Note) → counts (events_of control) is_sync ≡ p
    → AllByRecursion (λ y. sync_clock (events_of control) ≤ y.event.clock.0) more
    → AllByRecursion (λ y. IfSome (packet_of y.event.what) (λ k. phase_of stage k ≡ p)) more
    → AllByRecursion (IsPhasedIn stage (events_of control)) more
new_phases stage p control [] syncs later own = tt
new_phases stage p control (n ∷ more) syncs later own = (
  IfSome_map (packet_of n.event.what) (λ k. phase_of stage k ≡ p)
      (λ k. IsInPhase (events_of control) n.event.clock.0 (phase_of stage k))
      (λ k is. now_in_phase (events_of control) n.event.clock.0 later.0 ∙ syncs ∙ sym is) own.0,
  new_phases stage p control more syncs later.1 own.1,
)

pub phased_more : (stage : Stage) (p : ℕ) (control notes more : List Note) → IsPhased stage p control notes
    → AllByRecursion (λ y. sync_clock (events_of control) ≤ y.event.clock.0) more
    → AllByRecursion (λ y. IfSome (packet_of y.event.what) (λ k. phase_of stage k ≡ p)) more
    → IsPhased stage p control (more ++ notes)
phased_more stage p control notes more old later own = record {
  syncs = old.syncs;
  phases = each_append (IsPhasedIn stage (events_of control)) more notes
      (new_phases stage p control more old.syncs later own) old.phases;
  met = met_later stage more notes control (sync_clock (events_of control)) later old.tops old.met;
  tops = old.tops;
}

-- A PUBLISH

pub phased_publish : (stage : Stage) (p : ℕ) (control notes : List Note) (n : Note) → IsPhased stage p control notes
    → is_sync n.event.what ≡ false → packet_of n.event.what ≡ None
    → sync_clock (events_of control) < n.event.clock.0 → IsPhased stage p (n ∷ control) (n ∷ notes)
phased_publish stage p control notes n old not none low =
    let same : sync_clock (events_of (n ∷ control)) ≡ sync_clock (events_of control) = rw not refl
    in record {
      syncs = rw not (let was = old.syncs in omega arith);
      phases = (
        (rw none tt),
        each_so (IsPhasedIn stage (events_of control)) (IsPhasedIn stage (events_of (n ∷ control))) notes
            (λ y h. IfSome_map (packet_of y.event.what) _ _ (λ k in_phase.
            elim (cases_lt y.event.clock.0 (sync_clock (events_of control))) [
              | inl before ↦ stays_in_phase (events_of control) n.event y.event.clock.0 (phase_of stage k)
                  (omega arith) in_phase
              | inr since ↦ publish_in_phase (events_of control) n.event y.event.clock.0 (phase_of stage k) not since
                  in_phase
            ]) h) old.phases,
      );
      met = (
        met_free stage (n ∷ notes) (events_of control) n n.event.what not,
        met_later stage (n ∷ []) notes control
            (sync_clock (events_of control)) (omega arith, tt) old.tops old.met,
      );
      tops = (
        (λ is. absurd (let bad : true ≡ false = sym is ∙ not in cc)),
        each_so (λ y. is_sync y.event.what ≡ true → y.event.clock.0 ≤ sync_clock (events_of control))
            (λ y. is_sync y.event.what ≡ true → y.event.clock.0 ≤ sync_clock (events_of (n ∷ control))) control
            (λ y h is. let under = h is in omega arith) old.tops,
      );
    }

-- A SYNC

all_over : (stage : Stage) (control : List Event) (notes : List Note) (n : Note) (top : ℕ) → top < n.event.clock.0
    → AllByRecursion (λ y. y.event.clock.0 ≤ top) notes → AllByRecursion (IsPhasedIn stage control) notes
    → AllByRecursion (IsPhasedIn stage (n.event ∷ control)) notes
all_over stage control [] n top low under phases = tt
all_over stage control (y ∷ notes) n top low under phases = (
  IfSome_map (packet_of y.event.what) (λ k. IsInPhase control y.event.clock.0 (phase_of stage k))
      (λ k. IsInPhase (n.event ∷ control) y.event.clock.0 (phase_of stage k))
      (λ k in_phase. stays_in_phase control n.event y.event.clock.0 (phase_of stage k) (omega (arith, under.0))
      in_phase) phases.0,
  all_over stage control notes n top low under.1 phases.1,
)

pub phased_sync : (stage : Stage) (p : ℕ) (control notes : List Note) (n : Note) → IsPhased stage p control notes
    → n.event.what ≡ Sync
    → n.event.clock.0
    ≡ next_clock (greatest (λ y. y.event.clock.0) notes) (moment_at (slice_get stage.script.commands n.command))
    → ((m : ℕ) → m < stage.script.setting.muxes
    → 1 ≤ many (λ y. is_switch_of y.event.what m && leb (sync_clock (events_of control)) y.event.clock.0) notes)
    → sync_clock (events_of control) ≤ n.event.clock.0 → IsPhased stage (suc p) (n ∷ control) (n ∷ notes)
phased_sync stage p control notes n old is clock looked low =
    let sync : is_sync n.event.what ≡ true = ap is_sync is
    in let none : packet_of n.event.what ≡ None = ap packet_of is
    in let now : IsMet stage notes (events_of control) n n.event.what =
    subst (λ (w : What). IsMet stage notes (events_of control) n w) (sym is)
    (met_now stage notes (events_of control) n clock looked)
    in let still : IsMet stage (n ∷ notes) (events_of control) n n.event.what =
    met_still stage (n ∷ []) notes (events_of control) n n.event.what (omega arith, tt) now
    in let at : sync_clock (events_of (n ∷ control)) ≡ n.event.clock.0 = rw sync refl
    in record {
      syncs = rw sync (let was = old.syncs in omega arith);
      phases = (
        (rw none tt),
        all_over stage (events_of control) notes n (greatest (λ y. y.event.clock.0) notes)
            (omega arith) (all_under notes) old.phases,
      );
      met =
          (still, met_later stage (n ∷ []) notes control (sync_clock (events_of control)) (low, tt) old.tops old.met);
      tops = (
        (λ h. omega arith),
        each_so (λ y. is_sync y.event.what ≡ true → y.event.clock.0 ≤ sync_clock (events_of control))
            (λ y. is_sync y.event.what ≡ true → y.event.clock.0 ≤ sync_clock (events_of (n ∷ control))) control
            (λ y h s. let under = h s in omega arith) old.tops,
      );
    }

-- the same notes in another order
pub met_shared : (stage : Stage) (x y : List Note) (rest : List Event) (n : Note) (what : What)
    → ((f : Note → ℕ) → total f x ≡ total f y) → IsMet stage x rest n what → IsMet stage y rest n what
met_shared stage x y rest n Sync same met =
    let top : greatest (λ z. cond (ltb z.event.clock.0 n.event.clock.0) z.event.clock.0 0) x
    ≡ greatest (λ z. cond (ltb z.event.clock.0 n.event.clock.0) z.event.clock.0 0) y =
    greatest_shared (λ z. cond (ltb z.event.clock.0 n.event.clock.0) z.event.clock.0 0) x y same
    in (
      (λ m low.
          let is =
          same (λ z. one_if
          (is_switch_of z.event.what m
          && (leb (sync_clock rest) z.event.clock.0 && ltb z.event.clock.0 n.event.clock.0)))
          in let one = met.0 m low
          in omega arith),
      met.1 ∙ ap (λ (c : ℕ). next_clock c (moment_at (slice_get stage.script.commands n.command))) top,
    )
met_shared stage x y rest n (Publish v) same met = tt
met_shared stage x y rest n (Switch m v) same met = tt
met_shared stage x y rest n (Steer k m) same met = tt
met_shared stage x y rest n (Lose k hop) same met = tt
met_shared stage x y rest n (Arrive k hop server verdict) same met = tt
met_shared stage x y rest n (Close server flow closed) same met = tt
met_shared stage x y rest n (Retire server h at result) same met = tt

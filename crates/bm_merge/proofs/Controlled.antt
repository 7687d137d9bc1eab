-- What an event sees of the controller's log stays the same while the log grows.
use Rattle.std.proofs.Common.{◌≡◌, ℕ, ◌<◌, ◌≤◌, Bool, true, false, cond, inl, inr, List, [], ◌∷◌, refl, sym, ap}
use Rattle.std.proofs.Common.{arith, leb}
use Rattle.std.proofs.lemmas.Bool.{cases_lt, leb-false, lt-leb}
use Rattle.std.specs.List.{AllByRecursion}
use Rattle.bm_core.specs.declared.events.Event.{Event}
use Rattle.bm_core.specs.declared.events.Stage.{Stage}
use Rattle.bm_core.specs.declared.events.What.{What}
use Rattle.bm_core.specs.declared.events.What.TheVariants.{Publish, Switch, Steer, Lose, Arrive, Close, Retire, Sync}
use Rattle.bm_core.specs.Runs.{actor_of, AtEach}
use Rattle.bm_core.specs.Accounts.{is_sync}
use Rattle.bm_core.specs.Threads.{last_own, newest_before, sync_clock, publish_clock, is_publish_of}
use Rattle.bm_merge.specs.Notes.{Note, events_of, until}
use Rattle.bm_merge.specs.Workers.{IsGivenBy}

-- what an event of this clock sees, as far as version v goes: the last Sync, the newest version from before the
-- phase, and the clock of the version's Publish
pub record Sight : Type 0 where
  pub sync : ℕ
  pub old : ℕ
  pub post : ℕ

abbrev pub sight : List Event → ℕ → Sight
sight control v = record { sync = sync_clock control; old = newest_before control; post = publish_clock control v }

abbrev pub seen : List Event → ℕ → ℕ → Sight
seen control clock v = sight (until clock control) v

-- it sees all that was there, where the last Sync and the version's Publish are no later
pub sees_all : (control : List Event) (clock v : ℕ) → sync_clock control ≤ clock → publish_clock control v ≤ clock
    → seen control clock v ≡ sight control v
sees_all [] clock v sync post = refl
sees_all (e ∷ control) clock v sync post =
    go (leb e.clock.0 clock) (is_sync e.what) (is_publish_of e.what v) refl refl refl sync post
    (sees_all control clock v) where
      go : (a b c : Bool) → leb e.clock.0 clock ≡ a → is_sync e.what ≡ b → is_publish_of e.what v ≡ c
          → cond b e.clock.0 (sync_clock control) ≤ clock → cond c e.clock.0 (publish_clock control v) ≤ clock
          → (sync_clock control ≤ clock → publish_clock control v ≤ clock → seen control clock v ≡ sight control v)
          → sight (cond a (e ∷ control) (until clock control)) v ≡ sight (e ∷ control) v
      go true b c x y z s p old = refl
      go false true c x y z s p old = let over : clock < e.clock.0 = leb-false _ _ x in absurd (omega arith)
      go false false true x y z s p old = let over : clock < e.clock.0 = leb-false _ _ x in absurd (omega arith)
      go false false false x y z s p old = rw (y, z) (old s p)

-- a later event of the controller changes nothing
pub sees_less : (control : List Event) (e : Event) (clock v : ℕ) → clock < e.clock.0
    → seen (e ∷ control) clock v ≡ seen control clock v
sees_less control e clock v over = let no : leb e.clock.0 clock ≡ false = lt-leb _ _ over in rw no refl

-- neither does the Publish of another version in the phase, whatever its clock
pub sees_same : (control : List Event) (e : Event) (clock v : ℕ) → is_sync e.what ≡ false
    → is_publish_of e.what v ≡ false → sync_clock control ≤ clock → publish_clock control v ≤ clock
    → seen (e ∷ control) clock v ≡ seen control clock v
sees_same control e clock v not other sync post = go (leb e.clock.0 clock) where
  go : (a : Bool) → sight (cond a (e ∷ control) (until clock control)) v ≡ seen control clock v
  go true = rw (not, other) (sym (sees_all control clock v sync post))
  go false = refl

-- WHAT IS GIVEN

abbrev pub IsGivenAll : Stage → List Event → List Note → Type 0
IsGivenAll stage control notes =
    AtEach (λ rest n. IsGivenBy stage control rest (last_own stage (events_of rest) (actor_of stage n.event.what)) n
    n.event.what) notes

-- the controller's next event isn't seen: it comes later, or it is the Publish of a version that the event didn't
-- look for
abbrev pub IsUnseen : List Event → Event → ℕ → What → Type 0
IsUnseen control e clock (Switch m v) = (is_publish_of e.what v.0 ≡ false) × (publish_clock control v.0 ≤ clock)
IsUnseen control e clock what = Unit {0}

-- what is given stays given while the controller's log grows
given_less : (stage : Stage) (control : List Event) (e : Event) (rest : List Note) (own : ℕ) (n : Note) (what : What)
    → n.event.clock.0 < e.clock.0
    → IsGivenBy stage control rest own n what → IsGivenBy stage (e ∷ control) rest own n what
given_less stage control e rest own n (Switch m v) over given =
    let none : leb e.clock.0 n.event.clock.0 ≡ false = lt-leb _ _ over in rw none given
given_less stage control e rest own n (Steer k m) over given =
    let none : leb e.clock.0 n.event.clock.0 ≡ false = lt-leb _ _ over in rw none given
given_less stage control e rest own n (Arrive k hop server verdict) over given = given
given_less stage control e rest own n (Close server flow closed) over given = given
given_less stage control e rest own n (Retire server h at result) over given = given
given_less stage control e rest own n (Publish v) over given = tt
given_less stage control e rest own n (Lose k hop) over given = tt
given_less stage control e rest own n Sync over given = tt

sync_stays : (control : List Event) (clock : ℕ) → sync_clock control ≤ clock
    → sync_clock (until clock control) ≡ sync_clock control
sync_stays [] clock low = refl
sync_stays (e ∷ control) clock low =
    go (leb e.clock.0 clock) (is_sync e.what) refl refl low (sync_stays control clock) where
      go : (a b : Bool) → leb e.clock.0 clock ≡ a → is_sync e.what ≡ b → cond b e.clock.0 (sync_clock control) ≤ clock
          → (sync_clock control ≤ clock → sync_clock (until clock control) ≡ sync_clock control)
          → sync_clock (cond a (e ∷ control) (until clock control)) ≡ cond b e.clock.0 (sync_clock control)
      go true b x y low old = rw y refl
      go false true x y low old = let over : clock < e.clock.0 = leb-false _ _ x in absurd (omega arith)
      go false false x y low old = old low

sync_grows : (control : List Event) (e : Event) (clock : ℕ) → is_sync e.what ≡ false → sync_clock control ≤ clock
    → sync_clock (until clock (e ∷ control)) ≡ sync_clock (until clock control)
sync_grows control e clock not low = go (leb e.clock.0 clock) where
  go : (a : Bool) → sync_clock (cond a (e ∷ control) (until clock control)) ≡ sync_clock (until clock control)
  go true = rw not (sym (sync_stays control clock low))
  go false = refl

given_same : (stage : Stage) (control : List Event) (e : Event) (rest : List Note) (own : ℕ) (n : Note) (what : What)
    → is_sync e.what ≡ false → sync_clock control ≤ n.event.clock.0 → IsUnseen control e n.event.clock.0 what
    → IsGivenBy stage control rest own n what → IsGivenBy stage (e ∷ control) rest own n what
given_same stage control e rest own n (Switch m v) not low unseen given =
    let same : seen (e ∷ control) n.event.clock.0 v.0 ≡ seen control n.event.clock.0 v.0 =
    sees_same control e n.event.clock.0 v.0 not unseen.0 low unseen.1
    in let sync = ap (λ (s : Sight). s.sync) same
    in let old = ap (λ (s : Sight). s.old) same
    in let post = ap (λ (s : Sight). s.post) same
    in (rw (sync, old) given.0, rw (sync, post) given.1)
given_same stage control e rest own n (Steer k m) not low unseen given =
    let sync = sync_grows control e n.event.clock.0 not low in (rw sync given.0, given.1, given.2)
given_same stage control e rest own n (Arrive k hop server verdict) not low unseen given = given
given_same stage control e rest own n (Close server flow closed) not low unseen given = given
given_same stage control e rest own n (Retire server h at result) not low unseen given = given
given_same stage control e rest own n (Publish v) not low unseen given = tt
given_same stage control e rest own n (Lose k hop) not low unseen given = tt
given_same stage control e rest own n Sync not low unseen given = tt

-- at a Sync, which is above all clocks
pub given_sync : (stage : Stage) (control : List Event) (e : Event) (notes : List Note)
    → AllByRecursion (λ n. n.event.clock.0 < e.clock.0) notes → IsGivenAll stage control notes
    → IsGivenAll stage (e ∷ control) notes
given_sync stage control e [] below given = tt
given_sync stage control e (n ∷ notes) below given = (
  given_less stage control e notes _ n n.event.what below.0 given.0,
  given_sync stage control e notes below.1
      given.1,
)

-- at a Publish: what came before the last Sync is below it, and what came since looked for older versions
pub given_publish : (stage : Stage) (control : List Event) (e : Event) (notes : List Note) → is_sync e.what ≡ false
    → sync_clock control < e.clock.0 → AllByRecursion (λ n. IsUnseen control e n.event.clock.0 n.event.what) notes
    → IsGivenAll stage control notes → IsGivenAll stage (e ∷ control) notes
given_publish stage control e [] not low unseen given = tt
given_publish stage control e (n ∷ notes) not low unseen given =
    let here : IsGivenBy stage (e ∷ control) notes (last_own stage (events_of notes) (actor_of stage n.event.what)) n
    n.event.what =
    elim (cases_lt n.event.clock.0 (sync_clock control)) [
      | inl before ↦ given_less stage control e notes _ n n.event.what (omega arith) given.0
      | inr since ↦ given_same stage control e notes _ n n.event.what not since unseen.0 given.0
    ]
    in (here, given_publish stage control e notes not low unseen.1 given.1)

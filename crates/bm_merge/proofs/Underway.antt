-- Logs that are underway, whether they come to the end or not, have no large clock.
use Rattle.std.proofs.Common.{◌≡◌, ℕ, zero, suc, ◌+◌, ◌<◌, ◌≤◌, Bool, true, false, ◌||◌, inl, inr, List}
use Rattle.std.proofs.Common.{[], ◌∷◌, ◌++◌, length, refl, sym, ◌∙◌, subst, arith, eqb}
use Rattle.std.specs.Prelude.{IfSome, slice_get, reverse}
use Rattle.std.specs.List.{AllByRecursion}
use Rattle.std.proofs.lemmas.Bool.{cases_lt, or_right}
use Rattle.bm_base.specs.declared.label.Hop.{Hop}
use Rattle.bm_base.specs.declared.fate.Fate.{Fate}
use Rattle.bm_table.specs.Tables.{next_change, change_moment}
use Rattle.bm_core.specs.declared.events.What.{What}
use Rattle.bm_core.specs.declared.events.What.TheVariants.{Publish, Switch, Steer, Lose, Arrive, Close, Retire, Sync}
use Rattle.bm_core.specs.declared.events.Event.{Event}
use Rattle.bm_core.specs.declared.events.History.{History}
use Rattle.bm_core.specs.declared.events.Stage.{Stage}
use Rattle.bm_core.specs.Past.{sending_of}
use Rattle.bm_core.specs.Runs.{actor_of, AtEach, event_at}
use Rattle.bm_core.specs.Accounts.{Rules}
use Rattle.bm_core.specs.Threads.{last_own, is_command, moment_at}
use Rattle.bm_merge.specs.Merges.{gathered, merged, is_clock, highest}
use Rattle.bm_merge.specs.Notes.{Note, NotedLog, events_of, plain, all_notes, total, many, top_clock, is_earlier}
use Rattle.bm_merge.specs.Workers.{notes_by, IsBefore, IsClocked, IsMeant, IsUnderway, carries, HasSending}
use Rattle.bm_merge.specs.Workers.{AreUnderway}
use Rattle.bm_merge.proofs.Noting.{total_most, each_always, events_gathered}
use Rattle.bm_merge.proofs.Reaching.{one_if}
use Rattle.bm_merge.proofs.Sharing.{seat_total, all_by_seat, of_seat}
use Rattle.bm_merge.proofs.Keeping.{no_notes, within}
use Rattle.bm_core.proofs.Moments.{sound_early, AreEarly}
use Rattle.bm_merge.proofs.Pacing.{bounded_logs, IsPacedAmong}
use Rattle.bm_merge.proofs.Paced.{IsSource, IsCause, paced_from, source_cause, max_cause, some_append, some_first}
use Rattle.bm_merge.proofs.Paced.{own_source, top_source, due_cause}

-- the logs' events

some_counts : (c : ℕ) (x : List Note) → is_clock (events_of x) c ≡ true → 1 ≤ many (λ y. eqb y.event.clock.0 c) x
some_counts c [] h = absurd (cc)
some_counts c (n ∷ x) h = go (eqb n.event.clock.0 c) h (some_counts c x) where
  go : (b : Bool) → (b || is_clock (events_of x) c) ≡ true
      → (is_clock (events_of x) c ≡ true → 1 ≤ many (λ y. eqb y.event.clock.0 c) x)
      → 1 ≤ one_if b + many (λ y. eqb y.event.clock.0 c) x
  go true h old = omega arith
  go false h old = let more = old h in omega arith

counts_some : (c : ℕ) (x : List Note) → 1 ≤ many (λ y. eqb y.event.clock.0 c) x → is_clock (events_of x) c ≡ true
counts_some c [] h = absurd (omega arith)
counts_some c (n ∷ x) h = go (eqb n.event.clock.0 c) h (counts_some c x) where
  go : (b : Bool) → 1 ≤ one_if b + many (λ y. eqb y.event.clock.0 c) x
      → (1 ≤ many (λ y. eqb y.event.clock.0 c) x → is_clock (events_of x) c ≡ true)
      → (b || is_clock (events_of x) c) ≡ true
  go true h old = refl
  go false h old = old (omega arith)

-- what stands among all notes
abbrev IsAmong : List Event → List Event → Type 0
IsAmong x events = (c : ℕ) → is_clock x c ≡ true → is_clock events c ≡ true

-- WHAT WORKERS GIVE

-- what worker 0 gives for the clock
abbrev IsOrdered : List Event → Note → What → Type 0
IsOrdered events n (Publish v) = IsPacedAmong events n.event
IsOrdered events n (Close server flow closed) = IsCause events n.event.clock.0 n.due
IsOrdered events n (Retire server h at result) = IsCause events n.event.clock.0 at.0
IsOrdered events n _ = Unit {0}

-- what another worker gives for it
abbrev IsSent : List Event → Note → What → Type 0
IsSent events n (Arrive k hop server verdict) = n.due < n.event.clock.0 → IsCause events n.event.clock.0 n.due
IsSent events n (Publish v) = ⊥
IsSent events n (Close server flow closed) = ⊥
IsSent events n (Retire server h at result) = ⊥
IsSent events n _ = Unit {0}

abbrev IsCaused : List Event → ℕ → Note → Type 0
IsCaused events zero n = (is_command n.event.what ≡ true) × IsOrdered events n n.event.what
IsCaused events (suc m) n = IsSent events n n.event.what

top_of : (events : List Event) (rest : List Note) (n : Note) → IsAmong (events_of rest) events
    → top_clock (is_earlier n.command) rest < n.event.clock.0
    → IsSource events n.event.clock.0 (top_clock (is_earlier n.command) rest)
top_of events rest n among low = top_source events (is_earlier n.command) rest n.event.clock.0 among low

ordered : (stage : Stage) (events : List Event) (rest : List Note) (n : Note) (what : What) → n.event.what ≡ what
    → AreEarly stage → IsAmong (events_of rest) events
    → IsMeant stage rest n what → IsOrdered events n what
ordered stage events rest n (Publish v) is early among m =
    paced_from events n.event (top_clock (is_earlier n.command) rest)
    (change_moment (next_change stage.script.plan m.0)) (top_of events rest n among (omega (arith, m.2)))
    (inl (early.changes m.0)) m.2
ordered stage events rest n (Close server flow closed) is early among m =
    rw m.0 (max_cause events n.event.clock.0 (moment_at (slice_get stage.script.commands n.command))
    (top_clock (is_earlier n.command) rest) (inl (early.commands n.command))
    (source_cause events n.event.clock.0 _ (top_of events rest n among (omega (arith, m.0, m.1)))))
ordered stage events rest n (Retire server h at result) is early among m =
    rw m.0 (max_cause events n.event.clock.0 (moment_at (slice_get stage.script.commands n.command))
    (top_clock (is_earlier n.command) rest) (inl (early.commands n.command))
    (source_cause events n.event.clock.0 _ (top_of events rest n among (omega (arith, m.0, m.1)))))
ordered stage events rest n Sync is early among m = tt
ordered stage events rest n (Switch k v) is early among m = tt
ordered stage events rest n (Steer k v) is early among m = tt
ordered stage events rest n (Lose k hop) is early among m = tt
ordered stage events rest n (Arrive k hop server verdict) is early among m = tt

all_ordered : (stage : Stage) (events : List Event) (notes : List Note) → AreEarly stage
    → IsAmong (events_of notes) events → AtEach (IsUnderway stage) notes → AllByRecursion (IsCaused events zero) notes
all_ordered stage events [] early among each = tt
all_ordered stage events (n ∷ notes) early among each =
    let less : IsAmong (events_of notes) events = λ c h. among c (or_right _ _ h)
    in (
      (each.0.kind, ordered stage events notes n n.event.what refl early less each.0.meant),
      all_ordered stage
          events notes early less each.1,
    )

sent_note : (F : Rules) (events : List Event) (m : ℕ) (notes : List Note) (n : Note) (what : What)
    → ((packet : ℕ) (h : Hop) (f : Fate) → F packet h f → f.delay ≤ 60000000000)
    → AllByRecursion (λ y. IfSome (sending_of y.event.what) (λ s. F s.packet s.hop y.fate)) notes
    → IsAmong (events_of notes) events → carries m what ≡ true → HasSending notes n what → IsSent events n what
sent_note F events m notes n (Arrive k hop server verdict) short answers among kind has_sending =
    λ low. due_cause F events notes k hop n.due n.event.clock.0 short answers among low has_sending.1
sent_note F events m notes n (Switch k v) short answers among kind has_sending = tt
sent_note F events m notes n (Steer k v) short answers among kind has_sending = tt
sent_note F events m notes n (Lose k hop) short answers among kind has_sending = tt
sent_note F events m notes n (Publish v) short answers among kind has_sending = absurd (cc)
sent_note F events m notes n (Close server flow closed) short answers among kind has_sending = absurd (cc)
sent_note F events m notes n (Retire server h at result) short answers among kind has_sending = absurd (cc)
sent_note F events m notes n Sync short answers among kind has_sending = tt

-- LOG BY LOG

-- what is before by the notes is before by the events
before_source : (logs : List NotedLog) (clock c : ℕ) → IsBefore (all_notes logs) clock c
    → IsSource (gathered (plain logs)) clock c
before_source logs clock c (inl none) = inl none
before_source logs clock c (inr h) =
    inr (
      h.0,
      subst (λ (l : List Event). is_clock l c ≡ true) (events_gathered logs)
          (counts_some c (all_notes logs) h.1),
    )

paced_note : (stage : Stage) (logs : List NotedLog) (rest : List Note) (n : Note) (seat : ℕ) (what : What)
    → n.event.what ≡ what → AreEarly stage → IsAmong (events_of rest) (gathered (plain logs))
    → IsClocked stage (all_notes logs) (last_own stage (events_of rest) (actor_of stage n.event.what)) n what
    → IsCaused (gathered (plain logs)) seat n → IsPacedAmong (gathered (plain logs)) n.event
paced_note stage logs rest n zero (Publish v) is early among at c =
    subst (λ (w : What). IsOrdered (gathered (plain logs)) n w) is c.1
paced_note stage logs rest n (suc m) (Publish v) is early among at c =
    absurd (subst (λ (w : What). IsSent (gathered (plain logs)) n w) is c)
paced_note stage logs rest n seat (Switch m v) is early among at c =
    let own =
    own_source stage (actor_of stage n.event.what) (gathered (plain logs)) (events_of rest) n.event.clock.0 among
    (omega (arith, at.4))
    in paced_from (gathered (plain logs)) n.event _ _ own
    (max_cause (gathered (plain logs)) n.event.clock.0 at.0 at.1
    (source_cause (gathered (plain logs)) n.event.clock.0 at.0 (before_source logs n.event.clock.0 at.0 at.2))
    (source_cause (gathered (plain logs)) n.event.clock.0 at.1 (before_source logs n.event.clock.0 at.1 at.3))) at.4
paced_note stage logs rest n seat (Steer k m) is early among at c =
    let own =
    own_source stage (actor_of stage n.event.what) (gathered (plain logs)) (events_of rest) n.event.clock.0 among
    (omega (arith, at))
    in paced_from (gathered (plain logs)) n.event _ _ own (inl (early.records k)) at
paced_note stage logs rest n zero (Arrive k hop server verdict) is early among at c =
    let bad : is_command (Arrive k hop server verdict) ≡ true =
    subst (λ (w : What). is_command w ≡ true) is c.0 in absurd (cc)
paced_note stage logs rest n (suc m) (Arrive k hop server verdict) is early among at c =
    let own =
    own_source stage (actor_of stage n.event.what) (gathered (plain logs)) (events_of rest) n.event.clock.0 among
    (omega (arith, at))
    in let sent : IsSent (gathered (plain logs)) n (Arrive k hop server verdict) =
    subst (λ (w : What). IsSent (gathered (plain logs)) n w) is c
    in paced_from (gathered (plain logs)) n.event _ _ own (sent (omega (arith, at))) at
paced_note stage logs rest n zero (Close server flow closed) is early among at c =
    let own =
    own_source stage (actor_of stage n.event.what) (gathered (plain logs)) (events_of rest) n.event.clock.0 among
    (omega (arith, at))
    in paced_from (gathered (plain logs)) n.event _ _ own
    (subst (λ (w : What). IsOrdered (gathered (plain logs)) n w) is c.1) at
paced_note stage logs rest n (suc m) (Close server flow closed) is early among at c =
    absurd (subst (λ (w : What). IsSent (gathered (plain logs)) n w) is c)
paced_note stage logs rest n zero (Retire server h moment result) is early among at c =
    let own =
    own_source stage (actor_of stage n.event.what) (gathered (plain logs)) (events_of rest) n.event.clock.0 among
    (omega (arith, at))
    in paced_from (gathered (plain logs)) n.event _ _ own
    (subst (λ (w : What). IsOrdered (gathered (plain logs)) n w) is c.1) at
paced_note stage logs rest n (suc m) (Retire server h moment result) is early among at c =
    absurd (subst (λ (w : What). IsSent (gathered (plain logs)) n w) is c)
paced_note stage logs rest n seat Sync is early among at c =
    paced_from (gathered (plain logs)) n.event at.0 _ (before_source logs n.event.clock.0 at.0 at.1)
    (inl (early.commands n.command)) at.2
paced_note stage logs rest n seat (Lose k hop) is early among at c =
    paced_from (gathered (plain logs)) n.event at.0 0 (before_source logs n.event.clock.0 at.0 at.1)
    (inl (omega arith)) (at.2 ∙ omega arith)

paced_log : (stage : Stage) (logs : List NotedLog) (notes : List Note) → AreEarly stage
    → IsAmong (events_of notes) (gathered (plain logs))
    → AtEach (λ rest n. IsClocked stage (all_notes logs)
    (last_own stage (events_of rest) (actor_of stage n.event.what)) n n.event.what) notes
    → AllByRecursion (λ n. IsCaused (gathered (plain logs)) n.seat n) notes
    → AllByRecursion (IsPacedAmong (gathered (plain logs))) (events_of notes)
paced_log stage logs [] early among clocked caused = tt
paced_log stage logs (n ∷ notes) early among clocked caused =
    let less : IsAmong (events_of notes) (gathered (plain logs)) = λ c h. among c (or_right _ _ h)
    in (
      paced_note stage logs notes n n.seat n.event.what refl early less clocked.0 caused.0,
      paced_log stage logs
          notes early less clocked.1 caused.1,
    )

all_append : (P : Event → Type 0) (x y : List Event) → AllByRecursion P x → AllByRecursion P y
    → AllByRecursion P (x ++ y)
all_append P [] y a b = b
all_append P (e ∷ x) y a b = (a.0, all_append P x y a.1 b)

paced_logs : (stage : Stage) (logs some : List NotedLog) → AreEarly stage
    → IsAmong (gathered (plain some)) (gathered (plain logs))
    → AllByRecursion
    (λ l. AtEach
    (λ rest n. IsClocked stage (all_notes logs) (last_own stage (events_of rest) (actor_of stage n.event.what)) n
    n.event.what) l.notes) some
    → AllByRecursion (λ l. AllByRecursion (λ n. IsCaused (gathered (plain logs)) n.seat n) l.notes) some
    → AllByRecursion (IsPacedAmong (gathered (plain logs))) (gathered (plain some))
paced_logs stage logs [] early among clocked caused = tt
paced_logs stage logs (l ∷ some) early among clocked caused =
    all_append (IsPacedAmong (gathered (plain logs))) (gathered (plain some)) (events_of l.notes)
    (paced_logs stage logs some early
    (λ c h. among c (some_first (λ e. eqb e.clock.0 c) (gathered (plain some)) (events_of l.notes) h)) clocked.1
    caused.1)
    (paced_log stage logs l.notes early
    (λ c h. among c (some_append (λ e. eqb e.clock.0 c) (gathered (plain some)) (events_of l.notes) h)) clocked.0
    caused.0)

-- what a worker did stands in the logs
notes_among : (F : Rules) (stage : Stage) (logs : List NotedLog) (controller : List Note)
    (carriers : List (List Note)) → AreUnderway F stage logs controller carriers → (w : ℕ)
    → IsAmong (events_of (notes_by (controller ∷ carriers) w)) (gathered (plain logs))
notes_among F stage logs controller carriers u w c h =
    let f : Note → ℕ = λ y. one_if (eqb y.event.clock.0 c)
    in let one : 1 ≤ many (λ y. eqb y.event.clock.0 c) (notes_by (controller ∷ carriers) w) =
    some_counts c (notes_by (controller ∷ carriers) w) h
    in let same : total (of_seat w f) (all_notes logs) ≡ total f (notes_by (controller ∷ carriers) w) =
    seat_total stage logs (controller ∷ carriers) u.actors u.seated u.homes w f
    in let most : total (of_seat w f) (all_notes logs) ≤ total f (all_notes logs) =
    total_most (of_seat w f) f (all_notes logs)
    (each_always (λ n. of_seat w f n ≤ f n) (λ n. within (eqb n.seat w) (f n)) (all_notes logs))
    in subst (λ (l : List Event). is_clock l c ≡ true) (events_gathered logs)
    (counts_some c (all_notes logs) (omega arith))

sent_notes_are : (F : Rules) (events : List Event) (m : ℕ) (whole notes : List Note)
    → ((packet : ℕ) (h : Hop) (f : Fate) → F packet h f → f.delay ≤ 60000000000)
    → AllByRecursion (λ y. IfSome (sending_of y.event.what) (λ s. F s.packet s.hop y.fate)) whole
    → IsAmong (events_of whole) events
    → AllByRecursion (λ n. (carries m n.event.what ≡ true) × HasSending whole n n.event.what) notes
    → AllByRecursion (IsCaused events (suc m)) notes
sent_notes_are F events m whole [] short answers among carried = tt
sent_notes_are F events m whole (n ∷ notes) short answers among carried = (
  sent_note F events m whole n n.event.what short answers among carried.0.0 carried.0.1,
  sent_notes_are F events m
      whole notes short answers among carried.1,
)

all_caused : (F : Rules) (stage : Stage) (logs : List NotedLog) (controller : List Note) (carriers : List (List Note))
    → AreUnderway F stage logs controller carriers → AreEarly stage
    → ((packet : ℕ) (h : Hop) (f : Fate) → F packet h f → f.delay ≤ 60000000000) → (w : ℕ)
    → AllByRecursion (IsCaused (gathered (plain logs)) w) (notes_by (controller ∷ carriers) w)
all_caused F stage logs controller carriers u early short zero =
    all_ordered stage (gathered (plain logs)) controller early (notes_among F stage logs controller carriers u 0)
    u.controls
all_caused F stage logs controller carriers u early short (suc m) = elim (cases_lt m (length carriers)) [
  | inl low ↦
      sent_notes_are F (gathered (plain logs)) m (notes_by carriers m) (notes_by carriers m) short (u.answers m low)
      (notes_among F stage logs controller carriers u (suc m)) (u.carried m low)
  | inr high ↦ subst (λ (x : List Note). AllByRecursion (IsCaused (gathered (plain logs)) (suc m)) x)
      (sym (no_notes carriers m high)) tt
]

-- the clocks of logs that are underway are bounded by the number of events
pub underway_bounded : (F : Rules) (h : History) (logs : List NotedLog) (controller : List Note)
    (carriers : List (List Note)) (place : ℕ) → AreUnderway F h.stage logs controller carriers
    → ((packet : ℕ) (hop : Hop) (f : Fate) → F packet hop f → f.delay ≤ 60000000000)
    → h.events ≡ reverse (merged (plain logs)) → IfSome (event_at h place) (λ e. e.clock.0 ≤ highest (place + 1))
underway_bounded F h logs controller carriers place u short is =
    bounded_logs h (plain logs) place
    (paced_logs h.stage logs logs (sound_early h.stage u.sound) (λ c k. k) u.clocked
    (all_by_seat (IsCaused (gathered (plain logs))) h.stage logs (controller ∷ carriers) u.seated
    (all_caused F h.stage logs controller carriers u (sound_early h.stage u.sound) short))) is

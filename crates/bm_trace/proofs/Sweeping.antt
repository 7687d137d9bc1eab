-- One cause for each event, in their order.
use Rattle.std.proofs.Common.{◌≡◌, ℕ, zero, suc, ◌+◌, ◌<◌, ◌≤◌, Bool, true, false, ◌&&◌, inl, inr, List, [], ◌∷◌, ◌++◌}
use Rattle.std.proofs.Common.{◌-◌, get_or, length, length-append, min, take}
use Rattle.std.proofs.Common.{Option, Some, None, is_some, refl, sym, ap, ◌∙◌, arith, subst}
use Rattle.std.specs.Prelude.{reverse, slice_get, if◌then◌else◌}
use Rattle.std.proofs.lemmas.Bool.{cases_lt}
use Rattle.std.proofs.lemmas.Grind.{common_steps}
use Rattle.std.proofs.lemmas.List.{length-reverse, length-take-le}
use Rattle.std.proofs.lemmas.Option.{slice_get_past}
use Rattle.bm_core.specs.declared.events.Cause.{Cause}
use Rattle.bm_core.specs.declared.events.Event.{Event}
use Rattle.bm_core.specs.declared.events.History.{History}
use Rattle.bm_core.specs.declared.events.Stage.{Stage}
use Rattle.bm_core.specs.declared.events.What.{What}
use Rattle.bm_core.specs.declared.events.What.TheVariants.{Publish, Switch, Steer, Lose, Arrive, Close, Retire, Sync}
use Rattle.bm_core.specs.Causes.{cause, is_process}
use Rattle.bm_core.specs.Runs.{IsRun, past_at}
use Rattle.bm_trace.specs.CauseOf.{cause_after, cause_of, is_break, is_break_after}
use Rattle.bm_trace.specs.declared.known.Known.{Known}
use Rattle.bm_trace.specs.Inside.Known.{Knows}
use Rattle.bm_trace.specs.Swept.{AreCauses, cause_in}
use Rattle.bm_trace.specs.Inside.Swept.{AreCausesOf, HasSwept}
use Rattle.bm_trace.specs.declared.swept.Sweeper.{Sweeper}
use Rattle.bm_trace.specs.Totals.{arrives, is_stray, strays}
use Rattle.bm_state.specs.declared.versions.Versions.{Versions}
use Rattle.bm_state.specs.Versions.{KeepsVersions}
use Rattle.bm_trace.proofs.Caused.{cause_there}
use Rattle.bm_state.proofs.Newest.{reverse_take}

get_within : {X : Type 0} (xs : List X) (i : ℕ) (d : X) → i < length xs → slice_get xs i ≡ Some (get_or xs i d)
get_within [] i d h = absurd (omega arith)
get_within (x ∷ xs) zero d h = refl
get_within (x ∷ xs) (suc i) d h = get_within xs i d (omega arith)

here : (h : History) (place : ℕ) (d : Event) → place < length h.events
    → cause_of h place ≡ cause h.stage (reverse (take place h.events)) (get_or h.events place d).clock.0
    (get_or h.events place d).what
here h place d below =
    let e : slice_get h.events place ≡ Some (get_or h.events place d) = get_within h.events place d below
    in ap (λ o. cause_after h.stage (past_at h place) o) e

-- the cause of an event
pub cause_at : (h : History) (shown : List Event) (place : ℕ) (d : Event) (found : Option Cause) → shown ≡ h.events
    → place < length h.events → found ≡ cause_of h place
    → found ≡ cause h.stage (reverse (take place shown)) (get_or shown place d).clock.0 (get_or shown place d).what
cause_at h shown place d found same below is = rw same (is ∙ here h place d below)

-- the same, from the list of causes
pub cause_here : (h : History) (shown : List Event) (place : ℕ) (d : Event) (causes : List (Option Cause))
    (found : Option Cause) → shown ≡ h.events → place < length shown → AreCauses h causes
    → found ≡ cause_in causes place
    → found ≡ cause h.stage (reverse (take place shown)) (get_or shown place d).clock.0 (get_or shown place d).what
cause_here h shown place d causes found same below all is =
    let below' : place < length h.events = rw same at below
    in cause_at h shown place d found same below' (is ∙ all place)

pub length_before : (h : History) (shown : List Event) (n : ℕ) → shown ≡ h.events → n < length h.events
    → n ≡ length (reverse (take n shown))
length_before h shown n same below =
    let below' : n < length shown = subst (λ es. n < length es) (sym same) below
    in sym (length-reverse (take n shown) ∙ length-take-le n shown (omega (arith, below')))

-- one event more of the versions
pub versions_next : (shown : List Event) (n : ℕ) (d : Event) (versions : Versions) → n < length shown
    → KeepsVersions (get_or shown n d ∷ reverse (take n shown)) versions
    → KeepsVersions (reverse (take (n + 1) shown)) versions
versions_next shown n d versions below keeps =
    subst (λ past. KeepsVersions past versions) (sym (reverse_take shown n d below)) keeps

-- the cause that was found is the event's
pub cause_found : (h : History) (shown : List Event) (n : ℕ) (d : Event) (found : Option Cause)
    → shown ≡ h.events → n < length h.events
    → found ≡ cause h.stage (reverse (take n shown)) (get_or shown n d).clock.0 (get_or shown n d).what
    → found ≡ cause_of h n
cause_found h shown n d found same below is =
    let is' : found ≡ cause h.stage (reverse (take n h.events)) (get_or h.events n d).clock.0
    (get_or h.events n d).what = rw same at is
    in is' ∙ sym (here h n d below)

-- one cause more
pub causes_more : (h : History) (from n : ℕ) (causes new : List (Option Cause)) (found : Option Cause)
    → min from (length h.events) ≤ n → n < length h.events → found ≡ cause_of h n → new ≡ causes ++ found ∷ []
    → AreCausesOf h from n causes → AreCausesOf h from (n + 1) new
causes_more h from n causes new found order below is e first = record {
  count = let c = first.count in rw e (omega (arith, length-append causes (found ∷ []), c, order, below));
  each = λ k few.
      let c = first.count
      in let few' : k < length (causes ++ found ∷ []) = rw e at few
      in elim (cases_lt k (length causes)) [
        | inl before ↦
            let old : cause_in (causes ++ found ∷ []) k ≡ cause_in causes k = grind (arith, common_steps)
            in rw e (old ∙ first.each k before)
        | inr last ↦
            let at : k ≡ length causes = omega (arith, few', last, length-append causes (found ∷ []))
            in let place : from + k ≡ n = omega (arith, at, c, order, below)
            in let new' : cause_in (causes ++ found ∷ []) (length causes) ≡ found = grind (arith, common_steps)
            in ap (λ xs. cause_in xs k) e ∙ ap (λ j. cause_in (causes ++ found ∷ []) j) at ∙ new' ∙ is
            ∙ ap (λ j. cause_of h j) (sym place)
      ];
}

get_beyond : {X : Type 0} (xs : List X) (i : ℕ) (d : X) → length xs ≤ i → get_or xs i d ≡ d
get_beyond [] i d h = refl
get_beyond (x ∷ xs) zero d h = absurd (omega arith)
get_beyond (x ∷ xs) (suc i) d h = get_beyond xs i d (omega arith)

pub all_causes : (h : History) (causes : List (Option Cause)) → AreCausesOf h 0 (length h.events) causes
    → AreCauses h causes
all_causes h causes all place =
    let c = all.count
    in elim (cases_lt place (length h.events)) [
      | inl within ↦
          let at : 0 + place ≡ place = omega arith
          in all.each place (omega (arith, c, within)) ∙ ap (λ j. cause_of h j) at
      | inr beyond ↦
          get_beyond causes place None (omega (arith, c, beyond))
          ∙ sym (ap (λ o. cause_after h.stage (past_at h place) o) (slice_get_past h.events place beyond))
    ]

-- the cause of an event among those of a part
pub cause_of_part : (h : History) (from to place : ℕ) (causes : List (Option Cause)) → AreCausesOf h from to causes
    → from ≤ place → place < to → place < length h.events → cause_in causes (place - from) ≡ cause_of h place
cause_of_part h from to place causes all order below there =
    let c = all.count
    in let at : from + (place - from) ≡ place = omega (arith, order)
    in all.each (place - from) (omega (arith, c, order, below, there)) ∙ ap (λ j. cause_of h j) at

-- STRAYS

stray_is : (stage : Stage) (past : List Event) (what : What)
    → is_stray stage past what ≡ (arrives is_process what && is_break stage past what)
stray_is stage past (Arrive packet hop server verdict) = refl
stray_is stage past (Publish v) = refl
stray_is stage past (Switch m v) = refl
stray_is stage past (Steer k m) = refl
stray_is stage past (Lose k hop) = refl
stray_is stage past (Close server flow closed) = refl
stray_is stage past (Retire server h at result) = refl
stray_is stage past Sync = refl

-- an arrival that is processed is a stray just where it has a cause
stray_by_cause : (h : History) (place : ℕ) (d : Event) (found : Option Cause) → IsRun h → place < length h.events
    → found ≡ cause_of h place
    → is_stray h.stage (reverse (take place h.events)) (get_or h.events place d).what
    ≡ (arrives is_process (get_or h.events place d).what && is_some found)
stray_by_cause h place d found run below is =
    let e : slice_get h.events place ≡ Some (get_or h.events place d) = get_within h.events place d below
    in stray_is h.stage (reverse (take place h.events)) (get_or h.events place d).what
    ∙ ap (λ b. arrives is_process (get_or h.events place d).what && b)
    (sym (ap is_some is ∙ cause_there h place run ∙ ap (λ o. is_break_after h.stage (past_at h place) o) e))

strays_more : (h : History) (n count : ℕ) (d : Event) → n < length h.events
    → count ≡ strays h.stage (reverse (take n h.events))
    → strays h.stage (reverse (take (n + 1) h.events))
    ≡ (if is_stray h.stage (reverse (take n h.events)) (get_or h.events n d).what then suc count else count)
strays_more h n count d below is = rw (reverse_take h.events n d below, is) refl

pub stray_counted : (h : History) (n count new : ℕ) (d : Event) (shown : List Event) (found : Option Cause)
    (stray : Bool)
    → IsRun h → shown ≡ h.events → n < length shown → found ≡ cause_of h n
    → count ≡ strays h.stage (reverse (take n h.events))
    → stray ≡ (arrives is_process (get_or shown n d).what && is_some found) → new ≡ (if stray then suc count else count)
    → new ≡ strays h.stage (reverse (take (n + 1) h.events))
stray_counted h n count new d shown found stray run same below is was s e =
    let below' : n < length h.events = rw same at below
    in let s' : stray ≡ (arrives is_process (get_or h.events n d).what && is_some found) = rw same at s
    in e ∙ ap (λ b. if b then suc count else count) (s' ∙ sym (stray_by_cause h n d found run below' is))
    ∙ sym (strays_more h n count d below' was)

known_more : (h : History) (shown : List Event) (n : ℕ) (d : Event) (k : Known) → shown ≡ h.events
    → n < length h.events → Knows h.stage (get_or shown n d ∷ reverse (take n shown)) k
    → Knows h.stage (reverse (take (n + 1) h.events)) k
known_more h shown n d k same below knows =
    subst (λ past. Knows h.stage past k) (sym (reverse_take h.events n d below))
    (subst (λ es. Knows h.stage (get_or es n d ∷ reverse (take n es)) k) same knows)

-- THE SWEEP

few_more : (stray : Bool) (count new n len : ℕ) → new ≡ (if stray then suc count else count) → count ≤ min n len
    → n < len → new ≤ min (n + 1) len
few_more true count new n len is few below = omega (arith, is, few, below)
few_more false count new n len is few below = omega (arith, is, few, below)

-- where a sweep ends
pub events_end : (h : History) (shown : List Event) (to end : ℕ) → shown ≡ h.events → end ≡ min to (length shown)
    → end ≡ min to (length h.events)
events_end h shown to end same is = is ∙ ap (λ es. min to (length es)) same

-- one event more
pub swept_more : (h : History) (shown : List Event) (n : ℕ) (d : Event) (old new : Sweeper) (found : Option Cause)
    (stray : Bool)
    → shown ≡ h.events → n < length h.events
    → found ≡ cause h.stage (reverse (take n shown)) (get_or shown n d).clock.0 (get_or shown n d).what
    → Knows h.stage (get_or shown n d ∷ reverse (take n shown)) new.known
    → stray ≡ (arrives is_process (get_or shown n d).what && is_some found)
    → new.strays ≡ (if stray then suc old.strays else old.strays) → HasSwept h n old → HasSwept h (n + 1) new
swept_more h shown n d old new found stray same below is knows stray_is count before = record {
  known = known_more h shown n d new.known same below knows;
  counted = λ run.
      stray_counted h n old.strays new.strays d shown found stray run same (omega (arith, below, ap length same))
      (cause_found h shown n d found same below is) (before.counted run) stray_is count;
  few = few_more stray old.strays new.strays n (length h.events) count before.few below;
}

take_min : {X : Type 0} (n : ℕ) (xs : List X) → take (min n (length xs)) xs ≡ take n xs
take_min n xs = grind (arith, common_steps)

-- after the last event nothing changes
pub swept_to : (h : History) (n to : ℕ) (sweeper : Sweeper) → n ≡ min to (length h.events) → HasSwept h n sweeper
    → HasSwept h to sweeper
swept_to h n to sweeper at swept =
    let same : take n h.events ≡ take to h.events = ap (λ k. take k h.events) at ∙ take_min to h.events
    in record {
      known = subst (λ es. Knows h.stage (reverse es) sweeper.known) same swept.known;
      counted = λ run. swept.counted run ∙ ap (λ es. strays h.stage (reverse es)) same;
      few = let f = swept.few in omega (arith, f, at);
    }

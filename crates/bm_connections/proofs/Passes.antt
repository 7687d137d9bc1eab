-- The passes over all records and over all events.
use Rattle.std.proofs.Common.{◌≡◌, ℕ, zero, suc, ◌+◌, ◌<◌, List, [], ◌∷◌, length, take, get_or, reverse}
use Rattle.std.proofs.Common.{Option, Some, is_some, refl, sym, ap, ◌∙◌, arith, subst}
use Rattle.std.specs.Prelude.{◌^◌, slice_get}
use Rattle.std.proofs.lemmas.List.{length-reverse, length-take-le}
use Rattle.bm_base.specs.declared.capture.Record.{Record}
use Rattle.bm_core.specs.declared.events.Cause.{Cause}
use Rattle.bm_core.specs.declared.events.Event.{Event}
use Rattle.bm_core.specs.declared.events.History.{History}
use Rattle.bm_core.specs.Causes.{cause}
use Rattle.bm_core.specs.Runs.{IsRun, past_at}
use Rattle.bm_trace.specs.CauseOf.{cause_after, cause_of, is_break, is_break_after}
use Rattle.bm_trace.proofs.Caused.{cause_there}
use Rattle.bm_state.proofs.Newest.{reverse_take}
use Rattle.bm_connections.specs.declared.seen.Seen.{Seen}
use Rattle.bm_connections.specs.Inside.Rows.{IsSeen}

get_within : {X : Type 0} (xs : List X) (i : ℕ) (d : X) → i < length xs → slice_get xs i ≡ Some (get_or xs i d)
get_within [] i d h = absurd (omega arith)
get_within (x ∷ xs) zero d h = refl
get_within (x ∷ xs) (suc i) d h = get_within xs i d (omega arith)

-- the cause at a place is that of its event after those before it
pub cause_here : (h : History) (shown : List Event) (place : ℕ) (d : Event) (found : Option Cause)
    → shown ≡ h.events → place < length shown → found ≡ cause_of h place
    → found ≡ cause h.stage (reverse (take place shown)) (get_or shown place d).clock.0 (get_or shown place d).what
cause_here h shown place d found same below by =
    let below' : place < length h.events = rw same at below
    in let e : slice_get h.events place ≡ Some (get_or h.events place d) = get_within h.events place d below'
    in rw same (by ∙ ap (λ o. cause_after h.stage (past_at h place) o) e)

-- there is one just where the event is a break
pub break_here : (h : History) (shown : List Event) (place : ℕ) (d : Event) (found : Option Cause)
    → IsRun h → shown ≡ h.events → place < length shown → found ≡ cause_of h place
    → is_some found ≡ is_break h.stage (reverse (take place shown)) (get_or shown place d).what
break_here h shown place d found run same below by =
    let below' : place < length h.events = rw same at below
    in let e : slice_get h.events place ≡ Some (get_or h.events place d) = get_within h.events place d below'
    in rw same (ap is_some by ∙ cause_there h place run ∙ ap (λ o. is_break_after h.stage (past_at h place) o) e)

-- fewer events came before one of them
pub few_before : (events : List Event) (place : ℕ) → place < length events → length events < 2 ^ 64
    → suc (length (reverse (take place events))) < 2 ^ 64
few_before events place below few =
    let all = length-reverse (take place events)
    in let first = length-take-le place events (omega (arith, below))
    in omega (arith, all, first, below, few)

-- what holds after one event more
pub past_more : (P : List Event → Type 0) (shown : List Event) (n : ℕ) (d : Event) → n < length shown
    → P (get_or shown n d ∷ reverse (take n shown)) → P (reverse (take (n + 1) shown))
past_more P shown n d below k = subst P (sym (reverse_take shown n d below)) k

pub records_more : (P : List Record → Type 0) (shown : List Record) (n : ℕ) (d : Record) → n < length shown
    → P (get_or shown n d ∷ reverse (take n shown)) → P (reverse (take (n + 1) shown))
records_more P shown n d below k = subst P (sym (reverse_take shown n d below)) k

-- one record more
pub seen_more : (shown : List Record) (n : ℕ) (d : Record) (seen : Seen) → n < length shown
    → IsSeen (get_or shown n d ∷ reverse (take n shown)) seen
    → IsSeen (reverse (take (n + 1) shown)) seen
seen_more shown n d seen below k =
    subst (λ records. IsSeen records seen) (sym (reverse_take shown n d below)) k

-- Whether copies are accounted for, where the impairment rule has one answer to each question.
use Rattle.std.specs.Prelude.{◌≡◌, ℕ, suc, ◌<◌, List, [], ◌∷◌, IfSome}
use Rattle.bm_base.specs.declared.fate.Fate.{Fate}
use Rattle.bm_base.specs.declared.label.Hop.{Hop}
use Rattle.bm_core.specs.Accounts.{Rules, arrives, before, copyless_at, counts, fate_now, lost_at}
use Rattle.bm_core.specs.Accounts.{sent_copies}
use Rattle.bm_core.specs.Past.{sending_of}
use Rattle.bm_core.specs.declared.events.Event.{Event}
use Rattle.bm_core.specs.declared.events.What.{What}
use Rattle.bm_core.specs.declared.events.What.TheVariants.{Arrive, Lose}

-- the rule has just one answer for each packet and hop
abbrev pub IsOne : Rules → Type 0
IsOne F = (k : ℕ) (hop : Hop) (a b : Fate) → F k hop a → F k hop b → a ≡ b

-- each sending has a fate that the rule may give
abbrev pub AreFated : Rules → List Fate → List Event → Type 0
AreFated F fates [] = Unit {0}
AreFated F fates (e ∷ past) =
    IfSome (sending_of e.what) (λ s. F s.packet s.hop (fate_now fates))
    × AreFated F (before fates) past

-- an arrival is of one more copy that was sent before it
abbrev pub IsSentBefore : List Fate → List Event → What → Type 0
IsSentBefore fates past (Arrive k hop server verdict) =
    counts past (λ what. arrives what k hop) < sent_copies fates past k hop
IsSentBefore fates past _ = Unit {0}

-- the copies that arrived are those that were sent
abbrev pub HasArrived : List Fate → List Event → ℕ → Hop → Type 0
HasArrived fates all k hop = counts all (λ what. arrives what k hop) ≡ sent_copies fates all k hop

-- those that were sent at this clock without copies are lost, and no others
abbrev pub IsLost : List Fate → List Event → ℕ → Hop → ℕ → Type 0
IsLost fates all k hop clock = lost_at all k hop (suc clock) ≡ copyless_at fates all k hop clock

abbrev pub IsSendingSettled : List Fate → List Event → Event → Type 0
IsSendingSettled fates all e = IfSome (sending_of e.what)
    (λ s. HasArrived fates all s.packet s.hop × IsLost fates all s.packet s.hop e.clock.0)

abbrev pub IsLossSettled : List Fate → List Event → What → ℕ → Type 0
IsLossSettled fates all (Lose k hop) (suc clock) = IsLost fates all k hop clock
IsLossSettled fates all _ _ = Unit {0}

-- what the event sends, or loses, is accounted for
abbrev pub IsSettled : List Fate → List Event → Event → Type 0
IsSettled fates all e = IsSendingSettled fates all e × IsLossSettled fates all e.what e.clock.0

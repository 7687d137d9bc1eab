-- Fates with few copies that come soon, so that a replay ends and its clocks stay small.
use Rattle.std.specs.Prelude.{◌*◌, ◌^◌, ◌≤◌, List, [], ◌∷◌, IfSome}
use Rattle.bm_base.specs.declared.fate.Fate.{Fate}
use Rattle.bm_core.specs.declared.events.Event.{Event}
use Rattle.bm_core.specs.Past.{sending_of}
use Rattle.bm_core.specs.Accounts.{fate_now, before}

-- at most three copies, each delayed at most a minute
abbrev pub IsSoon : Fate → Type 0
IsSoon f = (f.copies ≤ 3) × (f.delay ≤ 60 * 10 ^ 9)

-- each sending's fate has few copies that come soon
abbrev pub AreSoon : List Fate → List Event → Type 0
AreSoon fates [] = Unit {0}
AreSoon fates (e ∷ past) =
    IfSome (sending_of e.what) (λ s. IsSoon (fate_now fates)) × AreSoon (before fates) past

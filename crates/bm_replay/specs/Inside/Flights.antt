-- The copies under way, as the wire has them.
use Rattle.std.specs.Prelude.{◌≡◌, ℕ, zero, suc, List, [], ◌∷◌, Some}
use Rattle.bm_base.specs.declared.label.Label.{Label}
use Rattle.bm_base.specs.Labels.{tag_of}
use Rattle.bm_fault.specs.Flying.{Flying}
use Rattle.bm_fault.specs.Wires.{put_flying}
use Rattle.bm_core.specs.declared.events.Event.{Event}
use Rattle.bm_core.specs.declared.events.Stage.{Stage}
use Rattle.bm_core.specs.Schedule.{Underway}
use Rattle.bm_core.specs.Past.{label_of}

-- the copy on the wire is this one, and carries its packet's label
pub record IsFlying (stage : Stage) (past : List Event) (f : Flying) (u : Underway) : Type 0 where
  pub due : f.due.0 ≡ u.moment
  pub packet : f.flight.packet ≡ u.packet
  pub label : Label
  pub is_label : label_of stage past u.packet ≡ Some label
  pub tag : tag_of label u.hop ≡ Some f.flight.tag

-- the copies on the wire are these, in their order
abbrev pub AreFlying : Stage → List Event → List Flying → List Underway → Type 0
AreFlying stage past [] [] = Unit {0}
AreFlying stage past (f ∷ flying) (u ∷ dues) =
    IsFlying stage past f u × AreFlying stage past flying dues
AreFlying stage past _ _ = ⊥

-- this many copies of one sending
abbrev pub copies_put : ℕ → Flying → List Flying → List Flying
copies_put zero f flying = flying
copies_put (suc n) f flying = put_flying f (copies_put n f flying)

-- What a controller keeps of its members, which kinds of change it may make next, what becomes known
-- by one, and which refusals come where there is one rack.
use Rattle.std.specs.Prelude.{◌≡◌, ℕ, ◌<◌, Bool, true, false, List, length, slice_set}
use Rattle.bm_controller.specs.declared.members.Member.{Member}
use Rattle.bm_controller.specs.declared.refusal.RackRefusal.{RackRefusal}
use Rattle.bm_controller.specs.declared.refusal.RackRefusal.TheVariants.{Base, LastInRack, WrongRack}
use Rattle.bm_controller.specs.Membership.{active_now, is_active, knows}
use Rattle.bm_table.specs.declared.plan.Kind.{Kind}
use Rattle.bm_table.specs.declared.plan.Kind.TheVariants.{Add, Drain, Shift}
use Rattle.bm_table.specs.Planned.{Planned}
use Rattle.bm_table.specs.Settings.{IsWithin}

abbrev pub HasWeight : Member → Type 0
HasWeight m = IsWithin 1 1000 m.weight

abbrev pub HasRack : ℕ → Member → Type 0
HasRack racks m = m.rack < racks

abbrev pub MayCome : Planned → Kind → Type 0
MayCome plan (Add s) = IsWithin 1 1024 s.0 × (knows plan s ≡ false)
MayCome plan (Drain s) = (is_active plan s ≡ true) × (1 < length (active_now plan))
MayCome plan Shift = Unit {0}

-- whether each server is known, by its number
abbrev pub known_after : Kind → List Bool → List Bool
known_after (Add s) known = slice_set known s.0 true
known_after (Drain s) known = known
known_after Shift known = known

-- a refusal that a controller of one rack gives
abbrev pub IsBase : RackRefusal → Type 0
IsBase (Base refusal) = Unit {0}
IsBase LastInRack = ⊥
IsBase WrongRack = ⊥

-- A controller's fields, as contracts see them: the plan that its commands made, and its members.
use Rattle.std.specs.Prelude.{◌≡◌, ◌<◌, All, false, slice_index_or, vec_len}
use Rattle.bm_base.specs.declared.ids.ServerId.{ServerId}
use Rattle.bm_controller.specs.Controlled.{Controlled, servers_of}
use Rattle.bm_controller.specs.declared.controller.Controller.TheInside.{Inside as OneRack}
use Rattle.bm_controller.specs.declared.engine.Engine.TheInside.{Inside}
use Rattle.bm_controller.specs.Inside.Kinds.{HasRack, HasWeight}
use Rattle.bm_controller.specs.Membership.{active_now, knows, KeepsMembership}
use Rattle.bm_controller.specs.Racks.{EachRackHasMember}
use Rattle.bm_table.specs.Settings.{IsWithin}

abbrev pub controlled : Inside → Controlled
controlled c = record { plan = c.plan; racks = c.racks; members = c.members.items }

pub record IsKept (c : Inside) : Type 0 where
  pub membership : KeepsMembership c.plan
  pub active : servers_of c.members.items ≡ active_now c.plan
  pub weights : All HasWeight c.members.items
  pub few : IsWithin 1 c.plan.buckets c.racks
  pub racks : All (HasRack c.racks) c.members.items
  pub each : EachRackHasMember c.racks c.members.items
  pub numbers : vec_len c.known ≡ 65536
  pub known : (s : ServerId) → s.0 < 65536 → slice_index_or c.known.items s.0 false ≡ knows c.plan s

abbrev pub with_one_rack : OneRack → Controlled
with_one_rack c = c.engine

-- each bucket and each server is in rack 0
pub record HasOneRack (c : OneRack) : Type 0 where
  pub one : c.engine.racks ≡ 1

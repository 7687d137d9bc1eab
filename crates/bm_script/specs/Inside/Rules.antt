-- The rule that a script's controller asks for the rack of each server.
use Rattle.std.specs.Prelude.{◌≡◌, ℕ}
use denote.Param.Members.{Shared}
use Rattle.bm_base.specs.declared.ids.ServerId.{ServerId}
use Rattle.bm_controller.specs.declared.racks.RackController.{RackController}
use Rattle.bm_policy.specs.Policies.{IsNumber}
use Rattle.bm_table.specs.Settings.{IsWithin, rack_of}

module _ {F : Type 0} (g : Shared F (ServerId × Unit {0}) ℕ) where
  -- it may be asked for each server number, and answers with the rack that scripts give the server
  pub record IsRackRule (f : F) (racks : ℕ) : Type 0 where
    pub count : IsWithin 1 64 racks
    pub takes : (s : ServerId) → IsNumber s → g.pre f (s, tt)
    pub answers : (s : ServerId) (r : ℕ) → IsNumber s → g.post f (s, tt) r → r ≡ rack_of racks s
    pub may : (s : ServerId) → IsNumber s → g.post f (s, tt) (rack_of racks s)

  -- the controller asks such a rule
  pub record AsksRule (c : RackController F) : Type 0 where
    pub rule : IsRackRule c.policy.rule c.policy.racks
    pub racks : c.policy.racks ≡ c.engine.racks

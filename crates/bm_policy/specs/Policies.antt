-- What a policy is: a rule that may be asked for each server number, and that has exactly one answer
-- for it, a rack.
use Rattle.std.specs.Prelude.{◌≡◌, ℕ, ◌<◌}
use denote.Param.Members.{Shared}
use Rattle.bm_base.specs.declared.ids.ServerId.{ServerId}
use Rattle.bm_table.specs.Settings.{IsWithin}

-- the numbers that a server may have
abbrev pub IsNumber : ServerId → Type 0
IsNumber s = IsWithin 1 1024 s.0

module _ {F : Type 0} (g : Shared F (ServerId × Unit {0}) ℕ) (f : F) where
  pub record IsPolicy (racks : ℕ) : Type 0 where
    pub count : IsWithin 1 64 racks
    -- the answer for each server
    pub rack : ServerId → ℕ
    pub takes : (s : ServerId) → IsNumber s → g.pre f (s, tt)
    pub answers : (s : ServerId) (r : ℕ) → IsNumber s → g.post f (s, tt) r → r ≡ rack s
    pub below : (s : ServerId) → IsNumber s → rack s < racks

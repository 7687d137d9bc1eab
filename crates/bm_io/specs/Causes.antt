-- When a failure may be returned.
use Rattle.std.specs.Prelude.{◌≡◌, ℕ, ◌+◌, ◌-◌, ◌^◌, ◌≤◌, min, Result, OnErr, OnOk, IsErrOf}
use Rattle.bm_io.specs.declared.fault.IoFault.{IoFault}
use Rattle.bm_io.specs.declared.fault.IoFault.TheVariants.{Failed, Memory}

-- The count went up, or it is at its maximum.
abbrev pub Rose : ℕ → ℕ → Type 0
Rose before now = min (before + 1) (2 ^ 64 - 1) ≤ now

-- The count rises if an error is returned, and stays the same otherwise.
pub record HasCause {T E : Type 0} (before now : ℕ) (result : Result T E) : Type 0 where
  pub later : before ≤ now
  pub failed : OnErr result (Rose before now)
  pub kept : OnOk result (now ≡ before)

-- The count rises if `Failed` is returned, and stays the same otherwise.
pub record HasIoCause {T : Type 0} (before now : ℕ) (result : Result T IoFault) : Type 0 where
  pub later : before ≤ now
  pub failed : IsErrOf result Failed → Rose before now
  pub kept : OnOk result (now ≡ before)
  pub memory : IsErrOf result Memory → now ≡ before

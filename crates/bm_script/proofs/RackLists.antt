-- A test of each rack, one after the other.
use Rattle.std.proofs.Common.{◌≡◌, ℕ, suc, ◌+◌, ◌-◌, ◌<◌, Bool, true, ◌&&◌, refl, sym, ap, ◌∙◌, arith}
use Rattle.std.specs.List.{list_all, range_with_len}

module _ (f : ℕ → Bool) (rack racks : ℕ) where
  -- the racks from this one on
  next : rack < racks
      → list_all f (range_with_len rack (racks - rack))
      ≡ (f rack && list_all f (range_with_len (rack + 1) (racks - (rack + 1))))
  next lt =
      let more : racks - rack ≡ suc (racks - (rack + 1)) = omega (arith, lt) in
      ap (λ (n : ℕ). list_all f (range_with_len rack n)) more

  pub all-more : rack < racks → f rack ≡ true
      → list_all f (range_with_len (rack + 1) (racks - (rack + 1))) ≡ list_all f (range_with_len rack (racks - rack))
  all-more lt is = sym (next lt ∙ rw is refl)

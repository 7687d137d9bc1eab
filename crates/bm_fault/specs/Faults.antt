-- What an impairment rule is: a rule that may always be called, and whose answers are within the
-- limits.
use Rattle.std.specs.Prelude.{ℕ, ◌≤◌, ◌*◌, ◌^◌}
use denote.Param.Members.{Shared}
use Rattle.bm_base.specs.declared.label.Hop.{Hop}
use Rattle.bm_base.specs.declared.fate.Fate.{Fate}

module _ {F : Type 0} (g : Shared F (ℕ × (Hop × Unit {0})) Fate) (f : F) where
  -- a call with this packet and this hop may give this fate
  abbrev pub Gives : ℕ → Hop → Fate → Type 0
  Gives packet hop fate = g.post f (packet, (hop, tt)) fate

  -- it may always be called, and every answer has at most 3 copies, at most a minute late
  pub record IsRule : Type 0 where
    pub takes : (packet : ℕ) (hop : Hop) → g.pre f (packet, (hop, tt))
    pub copies : (packet : ℕ) (hop : Hop) (fate : Fate) → Gives packet hop fate → fate.copies ≤ 3
    pub delay : (packet : ℕ) (hop : Hop) (fate : Fate) → Gives packet hop fate
        → fate.delay ≤ 60 * 10 ^ 9

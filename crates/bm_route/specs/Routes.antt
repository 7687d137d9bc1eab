-- What a route is: a rule that may always be called, and whose answers are muxes.
use Rattle.std.specs.Prelude.{◌≡◌, ℕ, ◌<◌, ◌%◌}
use denote.Ref.{Bor}
use denote.Param.Members.{Shared}
use Rattle.bm_base.specs.declared.flow.Flow.{Flow}
use Rattle.bm_table.specs.declared.setting.RouteKind.{RouteKind}
use Rattle.bm_table.specs.declared.setting.RouteKind.TheVariants.{Port, Turn}

module _ {F : Type 0} (g : Shared F (ℕ × (Bor Flow × Unit {0})) ℕ) (f : F) where
  -- a call with this packet and this flow may give r
  pub record Answers (packet : ℕ) (flow : Flow) (r : ℕ) : Type 0 where
    pub shown : Bor Flow
    pub shows : shown.now ≡ flow
    pub met : g.post f (packet, (shown, tt)) r

  -- it may always be called, and every answer is below the number of muxes
  pub record IsRoute (muxes : ℕ) : Type 0 where
    pub takes : (packet : ℕ) (flow : Bor Flow) → g.pre f (packet, (flow, tt))
    pub below : (packet : ℕ) (flow : Bor Flow) (r : ℕ) → g.post f (packet, (flow, tt)) r → r < muxes

-- one of this many muxes, by the flow's source port or by the packet's number
abbrev pub mux_of_kind : RouteKind → ℕ → ℕ → Flow → ℕ
mux_of_kind Port muxes packet flow = flow.sport % muxes
mux_of_kind Turn muxes packet flow = packet % muxes

-- What the route and the impairment rule of a setting answer (docs/DEFINITIONS.md).
use Rattle.std.specs.Prelude.{◌≡◌, ℕ}
use Rattle.bm_base.specs.declared.flow.Flow.{Flow}
use Rattle.bm_base.specs.declared.label.Hop.{Hop}
use Rattle.bm_base.specs.declared.fate.Fate.{Fate}
use Rattle.bm_table.specs.declared.setting.Setting.{Setting}
use Rattle.bm_core.specs.Accounts.{Routes, Rules}
pub use Rattle.bm_route.specs.Routes.{mux_of_kind}
pub use Rattle.bm_fault.specs.Rows.{fate_in}

-- the mux of packet k
abbrev pub setting_mux : Setting → ℕ → Flow → ℕ
setting_mux s k f = mux_of_kind s.route s.muxes k f

-- the fate of each sending of packet k with this hop
abbrev pub setting_fate : Setting → ℕ → Hop → Fate
setting_fate s k hop = fate_in s.faults k hop

-- the route that gives just this answer
abbrev pub RouteBy : (ℕ → Flow → ℕ) → Routes
RouteBy mux k f m = m ≡ mux k f

-- the impairment rule that gives just this answer
abbrev pub RuleBy : (ℕ → Hop → Fate) → Rules
RuleBy fate k hop f = f ≡ fate k hop

-- Which captures can be carried through muxes and servers (docs/DEFINITIONS.md).
use Rattle.std.specs.Prelude.{◌≡◌, ◌⊎◌, ℕ, ◌*◌, ◌^◌, ◌≤◌, List, [], ◌∷◌, length, map, Option, Some}
use Rattle.std.specs.Prelude.{None, IfSome}
use Rattle.std.specs.List.{AllByRecursion}
use Rattle.bm_base.specs.declared.flow.Flow.{Flow}
use Rattle.bm_base.specs.declared.flow.Segment.{Segment}
use Rattle.bm_base.specs.declared.capture.Body.{Body}
use Rattle.bm_base.specs.declared.capture.Body.TheVariants.{Steerable, Unsteered}
use Rattle.bm_base.specs.declared.capture.Capture.{Capture}
use Rattle.bm_base.specs.declared.capture.Record.{Record}
use Rattle.bm_base.specs.declared.capture.Vip.{Vip}

-- the segment of a record that is steerable
abbrev pub steerable : Option Record → Option Segment
steerable None = None
steerable (Some r) = steerable_body r.body where
  steerable_body : Body → Option Segment
  steerable_body (Steerable s) = Some s
  steerable_body (Unsteered why) = None

-- these moments never fall, are at least `low`, and are at most `high`
abbrev pub AreRising : ℕ → ℕ → List ℕ → Type 0
AreRising low high [] = Unit {0}
AreRising low high (m ∷ moments) = (low ≤ m) × (m ≤ high) × AreRising m high moments

-- the flow goes to one of these services
abbrev pub IsService : List Vip → Flow → Type 0
IsService [] f = ⊥
IsService (v ∷ vips) f = ((f.dst ≡ v.addr) × (f.dport ≡ v.port)) ⊎ IsService vips f

-- a steerable record's segment goes to a service, and takes at most 2^20 sequence numbers
abbrev pub IsFit : List Vip → Record → Type 0
IsFit vips r = IfSome (steerable (Some r)) (λ s. IsService vips s.flow × (s.len ≤ 1048576))

-- at most 200,000 records, whose moments never fall and are at most 4.4 * 10^18 ns, and whose
-- segments go to a service and take at most 2^20 sequence numbers
pub record IsReplayable (vips : List Vip) (capture : Capture) : Type 0 where
  pub few : length capture.records ≤ 200000
  pub rise : AreRising 0 (44 * 10 ^ 17) (map (λ r. r.moment.0) capture.records)
  pub fit : AllByRecursion (λ r. IsFit vips r) capture.records

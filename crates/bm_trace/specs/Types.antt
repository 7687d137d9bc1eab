-- The numbers of an event fit the types that they have in the code.
use Rattle.std.specs.Prelude.{◌<◌, ◌^◌, List, [], ◌∷◌}
use Rattle.bm_base.specs.declared.flow.Flow.{Flow}
use Rattle.bm_table.specs.declared.plan.Retirement.{Retirement}
use Rattle.bm_table.specs.declared.plan.Retirement.TheVariants.{TooEarly}
use Rattle.bm_core.specs.declared.events.Event.{Event}
use Rattle.bm_core.specs.declared.events.Verdict.{Verdict}
use Rattle.bm_core.specs.declared.events.Verdict.TheVariants.{Forward}
use Rattle.bm_core.specs.declared.events.What.{What}
use Rattle.bm_core.specs.declared.events.What.TheVariants.{Publish, Switch, Steer, Lose, Arrive}
use Rattle.bm_core.specs.declared.events.What.TheVariants.{Close, Retire, Sync}

abbrev pub IsFlow : Flow → Type 0
IsFlow f = (f.src < 2 ^ 32) × (f.dst < 2 ^ 32) × (f.sport < 2 ^ 16) × (f.dport < 2 ^ 16)

abbrev pub IsVerdict : Verdict → Type 0
IsVerdict (Forward to) = to.0 < 2 ^ 16
IsVerdict _ = Unit {0}

abbrev pub IsAnswer : Retirement → Type 0
IsAnswer (TooEarly bucket) = bucket < 2 ^ 32
IsAnswer _ = Unit {0}

abbrev pub IsWhat : What → Type 0
IsWhat (Publish v) = v.0 < 2 ^ 32
IsWhat (Switch m v) = (m.0 < 2 ^ 16) × (v.0 < 2 ^ 32)
IsWhat (Steer k m) = (k < 2 ^ 32) × (m.0 < 2 ^ 16)
IsWhat (Lose k hop) = k < 2 ^ 32
IsWhat (Arrive k hop server verdict) = (k < 2 ^ 32) × (server.0 < 2 ^ 16) × IsVerdict verdict
IsWhat (Close server flow closed) = (server.0 < 2 ^ 16) × IsFlow flow
IsWhat (Retire server shard at answer) =
    (server.0 < 2 ^ 16) × (shard < 2 ^ 16) × (at.0 < 2 ^ 64) × IsAnswer answer
IsWhat Sync = Unit {0}

abbrev pub IsEvent : Event → Type 0
IsEvent e = (e.clock.0 < 2 ^ 64) × IsWhat e.what

abbrev pub AreEvents : List Event → Type 0
AreEvents [] = Unit {0}
AreEvents (e ∷ events) = IsEvent e × AreEvents events

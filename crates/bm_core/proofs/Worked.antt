-- Worked histories: what a small stage's replay is, event by event.
use Rattle.std.proofs.Common.{◌≡◌, ℕ, Bool, not, ◌&&◌, if◌then◌else◌, List, [], ◌∷◌, Option, Some, None, refl, arith}
use Rattle.std.specs.Prelude.{nat_lt, nat_le}
use Rattle.bm_base.specs.declared.ids.ServerId.{ServerId}
use Rattle.bm_base.specs.declared.flow.Flow.{Flow}
use Rattle.bm_base.specs.declared.flow.Segment.{Segment}
use Rattle.bm_base.specs.declared.label.Hop.{Hop}
use Rattle.bm_base.specs.declared.label.Label.{Label}
use Rattle.bm_base.specs.declared.capture.Record.{Record}
use Rattle.bm_base.specs.declared.capture.Body.TheVariants.{Steerable}
use Rattle.bm_table.specs.declared.plan.Change.{Change}
use Rattle.bm_table.specs.declared.plan.Kind.{Kind}
use Rattle.bm_table.specs.declared.plan.Move.{Move}
use Rattle.bm_table.specs.declared.plan.Retirement.{Retirement}
use Rattle.bm_table.specs.declared.script.Command.{Command}
use Rattle.bm_table.specs.declared.setting.Setting.{Setting}
use Rattle.bm_core.specs.declared.events.Verdict.{Verdict}
use Rattle.bm_core.specs.declared.events.What.{What}
use Rattle.bm_core.specs.declared.events.What.TheVariants.{Publish, Switch, Steer, Arrive, Retire}
use Rattle.bm_core.specs.declared.events.Cause.{Cause}
use Rattle.bm_core.specs.declared.events.Event.{Event}
use Rattle.bm_core.specs.declared.events.Stage.{Stage}
use Rattle.bm_core.specs.Causes.{is_holding, is_elsewhere, is_late, first_broken, cause}
use Rattle.bm_core.specs.Rules.{setting_mux, setting_fate}
use Rattle.bm_table.specs.Tables.{same_server, moves}
use Rattle.bm_core.specs.declared.events.Cause.TheVariants.{NeverAccepted, NotHeld, StaleMux, MovedThrice, ChainLate}
use Rattle.bm_core.specs.declared.events.Cause.TheVariants.{SynElsewhere}
use Rattle.bm_core.specs.Past.{segment_of, bucket, label_of, held, Accepted, owner}
use Rattle.bm_core.proofs.Playing.{play}

-- STAGES

abbrev pub server : ℕ → ServerId
server n = record { 0 = n }

-- from 10.0.0.1 and this port to 192.0.2.1:80
abbrev pub flow_from : ℕ → Flow
flow_from port = record { src = 0x0a00_0001; dst = 0xc000_0201; sport = port; dport = 80 }

abbrev pub syn : ℕ → ℕ → Segment
syn port seq = record { flow = flow_from port; seq = seq; ack = 0; len = 1; flags = 0x02 }

-- a data segment of this many octets
abbrev pub data_of : ℕ → ℕ → ℕ → Segment
data_of port seq octets = record { flow = flow_from port; seq = seq; ack = 501; len = octets; flags = 0x18 }

abbrev pub fin : ℕ → ℕ → Segment
fin port seq = record { flow = flow_from port; seq = seq; ack = 501; len = 1; flags = 0x11 }

abbrev pub rst : ℕ → ℕ → Segment
rst port seq = record { flow = flow_from port; seq = seq; ack = 0; len = 0; flags = 0x04 }

-- a record at this moment, in nanoseconds
abbrev pub record_at : ℕ → Segment → Record
record_at moment s = record { moment = record { 0 = moment }; body = Steerable s }

abbrev pub move : ℕ → ℕ → Move
move bucket to = record { bucket = bucket; to = server to }

abbrev pub change_at : ℕ → Kind → List Move → Change
change_at moment kind moves = record { moment = record { 0 = moment }; kind = kind; moves = moves }

abbrev pub stage_of : Setting → List Change → List Command → List Record → Stage
stage_of setting changes commands records = record {
  script = record {
    setting = setting;
    plan =
        record { buckets = setting.buckets; servers = setting.servers; changes = changes };
    commands = commands;
  };
  capture = record { records = records; cut = None };
}

-- EVENTS

abbrev pub at : ℕ → What → Event
at clock what = record { clock = record { 0 = clock }; what = what }

abbrev pub publish : ℕ → ℕ → Event
publish clock v = at clock (Publish (record { 0 = v }))

abbrev pub switch : ℕ → ℕ → ℕ → Event
switch clock m v = at clock (Switch (record { 0 = m }) (record { 0 = v }))

abbrev pub steer : ℕ → ℕ → ℕ → Event
steer clock k m = at clock (Steer k (record { 0 = m }))

abbrev pub arrive : ℕ → ℕ → Hop → ℕ → Verdict → Event
arrive clock k hop s verdict = at clock (Arrive k hop (server s) verdict)

abbrev pub retire : ℕ → ℕ → ℕ → ℕ → Retirement → Event
retire clock s h moment result = at clock (Retire (server s) h (record { 0 = moment }) result)

-- THE REPLAY

-- the first events of the stage's replay, the newest first
unfoldable pub replayed : Stage → ℕ → List Event
replayed stage n = play (setting_mux stage.script.setting) (setting_fate stage.script.setting) stage n []

-- the causes, one for each event
abbrev pub causes_of : Stage → List Event → List (Option Cause)
causes_of stage [] = []
causes_of stage (e ∷ past) = cause stage past e.clock.0 e.what ∷ causes_of stage past

-- ALL BROKEN PREMISES

abbrev pub when : Bool → Cause → List Cause → List Cause
when test c causes = if test then c ∷ causes else causes

-- each premise that is broken, and not only the first
abbrev pub broken : Stage → List Event → ℕ → Label → Hop → Flow → ServerId → Option Accepted → List Cause
broken stage past clock label hop f s None = NeverAccepted ∷ []
broken stage past clock label hop f s (Some a) =
    when (not (is_holding (held stage past a.server f) a.place)) NotHeld
    (when (nat_lt label.version.0 a.version) StaleMux
    (when (nat_le 3 (moves stage.script.plan (bucket stage f) a.version label.version.0)) MovedThrice
    (when (not (same_server s a.server) && is_late stage label hop clock) ChainLate
    (when (is_elsewhere stage past past f a.server) SynElsewhere []))))

abbrev pub first_cause : List Cause → Option Cause
first_cause [] = None
first_cause (c ∷ causes) = Some c

-- the cause is the first of them
pub broken_first : (stage : Stage) (past : List Event) (clock : ℕ) (label : Label) (hop : Hop) (f : Flow)
    (s : ServerId) (a : Option Accepted)
    → first_cause (broken stage past clock label hop f s a) ≡ first_broken stage past clock label hop f s a
broken_first stage past clock label hop f s None = refl
broken_first stage past clock label hop f s (Some a) = grind arith

abbrev pub broken_by : Stage → List Event → ℕ → Hop → ServerId → Option Accepted → Option Segment → Option Label
    → List Cause
broken_by stage past clock hop s a (Some segment) (Some label) = broken stage past clock label hop segment.flow s a
broken_by stage past clock hop s a _ _ = []

abbrev pub broken_at : Stage → List Event → ℕ → What → List Cause
broken_at stage past clock (Arrive k hop s verdict) =
    broken_by stage past clock hop s (owner stage past k) (segment_of stage k) (label_of stage past k)
broken_at stage past clock _ = []

-- each premise that is broken at the newest event
abbrev pub newest_broken : Stage → List Event → List Cause
newest_broken stage [] = []
newest_broken stage (e ∷ past) = broken_at stage past e.clock.0 e.what

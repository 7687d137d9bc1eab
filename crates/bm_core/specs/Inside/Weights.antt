-- How much of a replay is left (docs/DEFINITIONS.md): each event takes at least one from its
-- weight, so a replay ends.
use Rattle.std.specs.Prelude.{ℕ, zero, suc, ◌+◌, ◌-◌, ◌*◌, List, [], ◌∷◌, length, Option}
use Rattle.std.specs.Prelude.{Some, None}
use Rattle.bm_base.specs.declared.label.Hop.{Hop}
use Rattle.bm_base.specs.declared.label.Hop.TheVariants.{Direct, Chained, Twice}
use Rattle.bm_base.specs.declared.fate.Fate.{Fate}
use Rattle.bm_core.specs.declared.events.Event.{Event}
use Rattle.bm_core.specs.declared.events.Stage.{Stage}
use Rattle.bm_core.specs.declared.schedule.Call.{Call}
use Rattle.bm_core.specs.Schedule.{Underway}
use Rattle.bm_core.specs.Past.{is_switch_of, newest}
use Rattle.bm_core.specs.Accounts.{counts}
use Rattle.bm_core.specs.Schedule.{wire, due_loss, left, close_commands, retire_commands}
use Rattle.bm_core.specs.Schedule.{sync_commands, packets_from, closes, retires, syncs, steers}

-- a copy arrives, and except at the last hop it may be forwarded in three copies
abbrev pub hop_weight : Hop → ℕ
hop_weight Direct = 13
hop_weight Chained = 4
hop_weight Twice = 1

abbrev pub wire_weight : List Underway → ℕ
wire_weight [] = 0
wire_weight (u ∷ w) = hop_weight u.hop + wire_weight w

abbrev pub loss_weight : Option Call → ℕ
loss_weight None = 0
loss_weight (Some loss) = 1

-- the packets that are left, each with a Steer and three direct copies, the copies under way, and a
-- loss that is due
abbrev pub packets_weight : ℕ → List Underway → Option Call → ℕ
packets_weight packets w loss = 40 * packets + (wire_weight w + loss_weight loss)

-- how many Switches the first n muxes have left, where each has one for each change
abbrev pub switches_weight : ℕ → List Event → ℕ → ℕ
switches_weight changes past zero = 0
switches_weight changes past (suc m) =
    (changes - counts past (λ what. is_switch_of what m)) + switches_weight changes past m

-- how many closes, retires and syncs are left
abbrev pub commands_weight : Stage → List Event → ℕ
commands_weight stage past =
    length (left (close_commands stage.script.commands) past closes)
    + (length
    (left (retire_commands stage.script.setting.shards stage.script.commands) past retires)
    + length (left (sync_commands stage.script.commands) past syncs))

-- how many Publishes and Switches are left
abbrev pub changes_weight : Stage → List Event → ℕ
changes_weight stage past =
    (length stage.script.plan.changes - newest past) + switches_weight
    (length stage.script.plan.changes) past stage.script.setting.muxes

-- a bound on how many events are left
abbrev pub weight : List Fate → Stage → List Event → ℕ
weight fates stage past =
    packets_weight (length (left (packets_from 1 stage.capture.records) past steers))
    (wire fates past) (due_loss fates past)
    + (commands_weight stage past + changes_weight stage past)

-- What the fault tables and the command tables of a script say. Commands are read in their order,
-- each with the controller that those before it made.
use Rattle.std.specs.Prelude.{ℕ, ◌+◌, List, [], ◌∷◌, ◌++◌, length, Option, Some, None, Result, Ok}
use Rattle.std.specs.Prelude.{Err, nat_le, if◌then◌else◌}
use Rattle.toml.specs.Data.{as_table, Items, no_items, item, Members}
use Rattle.bm_base.specs.declared.ids.ServerId.{ServerId}
use Rattle.bm_controller.specs.Commands as controller
use Rattle.bm_controller.specs.Commands.Command.{AddServer, DrainServer, WeighServer, MoveBucket}
use Rattle.bm_controller.specs.Controlled.{Controlled}
use Rattle.bm_controller.specs.declared.refusal.RackRefusal.{RackRefusal}
use Rattle.bm_controller.specs.Membership.{knows}
use Rattle.bm_quota.specs.declared.refusal.Refusal.TheVariants.{UnknownServer}
use Rattle.bm_script.specs.declared.commands.Verb.{Verb}
use Rattle.bm_script.specs.declared.commands.Verb.TheVariants.{Add, Drain, Move, Close, Retire}
use Rattle.bm_script.specs.declared.commands.Verb.TheVariants.{Sync, Weigh}
use Rattle.bm_script.specs.declared.fault.Place.{Place}
use Rattle.bm_script.specs.declared.fault.Place.TheVariants as at_
use Rattle.bm_script.specs.declared.fault.ScriptFault.{ScriptFault}
use Rattle.bm_script.specs.declared.fault.ScriptFault.TheVariants.{Refused}
use Rattle.bm_script.specs.declared.key.Key.TheVariants as key
use Rattle.bm_script.specs.Faults.{◌>>=◌, only_keys, refused_as, required, valued}
use Rattle.bm_script.specs.Keys.{row_keys, verb_keys}
use Rattle.bm_script.specs.Values.{endpoint_value, hop, number, server, verb, weight}
use Rattle.bm_table.specs.declared.script.Command.{Command}
use Rattle.bm_table.specs.declared.script.Command.TheVariants.{Change as ChangeCommand}
use Rattle.bm_table.specs.declared.script.Command.TheVariants.{Close as CloseCommand}
use Rattle.bm_table.specs.declared.script.Command.TheVariants.{Retire as RetireCommand}
use Rattle.bm_table.specs.declared.script.Command.TheVariants.{Sync as SyncCommand}
use Rattle.bm_table.specs.declared.setting.FaultRow.{FaultRow}
use Rattle.bm_table.specs.Settings.{rack_of}

-- IMPAIRMENTS

-- the impairment of the `fault` table number n
abbrev pub row_of : ℕ → Members → Result FaultRow ScriptFault
row_of n members = do
  only ← only_keys (at_.Fault n) 1 row_keys members
  packet ← required (at_.Fault n) key.Packet (number 1 200000) members
  hop ← required (at_.Fault n) key.Hop hop members
  copies ← required (at_.Fault n) key.Copies (number 0 3) members
  delay ← required (at_.Fault n) key.Delay (number 0 60000000000) members
  Ok (record { packet = packet; hop = hop; fate = record { copies = copies; delay = delay } })

-- the impairments of these tables; the first table has number n
abbrev pub rows_from : ℕ → Items → Result (List FaultRow) ScriptFault
rows_from n no_items = Ok []
rows_from n (item d items) = do
  members ← valued at_.Top key.Fault (as_table d)
  row ← row_of n members
  rows ← rows_from (n + 1) items
  Ok (row ∷ rows)

-- COMMANDS

-- what was read so far
pub record Progress : Type 0 where
  -- of the script
  pub version : ℕ
  pub controller : Controlled
  -- the moment of the last command, or 0
  pub last : ℕ
  pub commands : List Command

-- the number of the next command
abbrev pub next : Progress → ℕ
next p = length p.commands + 1

-- one more command
abbrev pub with_command : Progress → ℕ → Command → Progress
with_command p at command = record {
  version = p.version;
  controller = p.controller;
  last = at;
  commands = p.commands ++ command ∷ [];
}

-- one more command, which leads to the change that the controller makes, unless it refuses
abbrev pub changed : Progress → ℕ → controller.Command → Option RackRefusal
    → Result Progress ScriptFault
changed p at command (Some refusal) = Err (refused_as (next p) refusal)
changed p at command None = Ok (record {
  version = p.version;
  controller = controller.after p.controller (record { 0 = at }) command;
  last = at;
  commands =
      p.commands ++ ChangeCommand (record { 0 = length p.controller.plan.changes + 1 }) ∷ [];
})

-- a command that the controller carries out
abbrev pub asked_of_controller : Progress → ℕ → controller.Command → Result Progress ScriptFault
asked_of_controller p at command =
    changed p at command (controller.refusal p.controller (record { 0 = at }) command)

-- a command to a server that must be known
abbrev pub asked_of_known : Progress → ℕ → ServerId → Command → Result Progress ScriptFault
asked_of_known p at s command =
    if knows p.controller.plan s then Ok (with_command p at command) else Err (Refused (next p) UnknownServer)

-- the weight of a server that is added; in version 1 each server weighs 1
abbrev pub added_weight : ℕ → Place → Members → Result ℕ ScriptFault
added_weight version place entries =
    if nat_le 2 version then required place key.Weight weight entries else Ok 1

-- what was read after a command with this verb, at this moment
abbrev pub carried : Progress → ℕ → Verb → Members → Result Progress ScriptFault
carried p at Add entries = do
  s ← required (at_.Command (next p)) key.Server server entries
  weight ← added_weight p.version (at_.Command (next p)) entries
  asked_of_controller p at (AddServer s weight (rack_of p.controller.racks s))
carried p at Drain entries = do
  s ← required (at_.Command (next p)) key.Server server entries
  asked_of_controller p at (DrainServer s)
carried p at Weigh entries = do
  s ← required (at_.Command (next p)) key.Server server entries
  weight ← required (at_.Command (next p)) key.Weight weight entries
  asked_of_controller p at (WeighServer s weight)
carried p at Move entries = do
  bucket ← required (at_.Command (next p)) key.Bucket (number 0 65535) entries
  s ← required (at_.Command (next p)) key.Server server entries
  asked_of_controller p at (MoveBucket bucket s)
carried p at Close entries = do
  s ← required (at_.Command (next p)) key.Server server entries
  from ← required (at_.Command (next p)) key.From endpoint_value entries
  to ← required (at_.Command (next p)) key.To endpoint_value entries
  asked_of_known p at s
      (CloseCommand (record { 0 = at }) s
      (record { src = from.addr; dst = to.addr; sport = from.port; dport = to.port }))
carried p at Retire entries = do
  s ← required (at_.Command (next p)) key.Server server entries
  asked_of_known p at s (RetireCommand (record { 0 = at }) s)
carried p at Sync entries = Ok (with_command p at (SyncCommand (record { 0 = at })))

-- what was read after the command of a table; its moment isn't below that of the command before it
abbrev pub after_command : Progress → Members → Result Progress ScriptFault
after_command p members = do
  at ← required (at_.Command (next p)) key.At (number p.last 4000000000000000000) members
  verb ← required (at_.Command (next p)) key.Do (verb p.version) members
  only ← only_keys (at_.Command (next p)) p.version (verb_keys verb) members
  carried p at verb members

-- what was read after the commands of these tables
abbrev pub after_commands : Progress → Items → Result Progress ScriptFault
after_commands p no_items = Ok p
after_commands p (item d items) = do
  members ← valued at_.Top key.Command (as_table d)
  q ← after_command p members
  after_commands q items

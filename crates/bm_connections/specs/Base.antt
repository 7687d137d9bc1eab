-- The base of a stage: the same without the commands that change the table; and which connections a
-- change broke (docs/DEFINITIONS.md).
use Rattle.std.specs.Prelude.{Bool, true, false, ◌&&◌, not, if◌then◌else◌, List, [], ◌∷◌, map, filter}
use Rattle.std.specs.Prelude.{Option, Some, None, is_some}
use Rattle.bm_base.specs.declared.ids.ServerId.{ServerId}
use Rattle.bm_table.specs.declared.script.Command.{Command}
use Rattle.bm_table.specs.declared.script.Command.TheVariants.{Change as ChangeCommand}
use Rattle.bm_table.specs.declared.script.Command.TheVariants.{Close as CloseCommand}
use Rattle.bm_table.specs.declared.script.Command.TheVariants.{Retire as RetireCommand}
use Rattle.bm_table.specs.declared.script.Command.TheVariants.{Sync as SyncCommand}
use Rattle.bm_table.specs.declared.script.Script.{Script}
use Rattle.bm_table.specs.declared.setting.Setting.{Setting}
use Rattle.bm_table.specs.Planned.{Planned}
use Rattle.bm_table.specs.Tables.{is_among}
use Rattle.bm_core.specs.declared.events.History.{History}
use Rattle.bm_core.specs.declared.events.Stage.{Stage}
use Rattle.bm_connections.specs.declared.compared.Compared.{Compared}
use Rattle.bm_connections.specs.declared.compared.Origin.{Origin}
use Rattle.bm_connections.specs.declared.compared.Origin.TheVariants.{Anyway, ByTheChange}
use Rattle.bm_connections.specs.declared.connection.Connection.{Connection}
use Rattle.bm_connections.specs.Connections.{connections}

-- THE BASE

-- the command is one of the base's: it doesn't change the table, and if it is a close or a retire,
-- it is of a server that is there at the beginning
abbrev pub stays : List ServerId → Command → Bool
stays servers (ChangeCommand v) = false
stays servers (CloseCommand at server flow) = is_among servers server
stays servers (RetireCommand at server) = is_among servers server
stays servers (SyncCommand at) = true

-- the plan that opens on the setting's servers and changes nothing
abbrev pub base_plan : Setting → Planned
base_plan setting = record {
  buckets = setting.buckets;
  servers = setting.servers;
  changes = [];
}

abbrev pub base_script : Script → Script
base_script script = record {
  setting = script.setting;
  plan = base_plan script.setting;
  commands = filter (stays script.setting.servers) script.commands;
}

-- the same setting and capture, without the changes of the table
abbrev pub base_of : Stage → Stage
base_of stage = record { script = base_script stage.script; capture = stage.capture }

-- WHAT THE CHANGE BROKE

-- a server accepted the connection, and nothing broke it
unfoldable pub is_whole : Connection → Bool
is_whole c = is_some c.server && not (is_some c.broken)

-- a connection that is broken: by the change, if it is whole in the base, and otherwise anyway
abbrev pub origin_of : Bool → Connection → Option Origin
origin_of whole c =
    if is_some c.broken then Some (if whole then ByTheChange else Anyway) else None

abbrev pub compared_one : Bool → Connection → Compared
compared_one whole c = record { connection = c; origin = origin_of whole c }

-- these connections, by whether each is whole in the base
abbrev pub compared_with : List Connection → List Bool → List Compared
compared_with [] wholes = []
compared_with (c ∷ cs) [] = compared_one false c ∷ compared_with cs []
compared_with (c ∷ cs) (whole ∷ wholes) = compared_one whole c ∷ compared_with cs wholes

-- the connections of a history, compared with those of a replay of its base: both tables have the
-- same flows in the same order, since the capture is the same
abbrev pub compared : History → History → List Compared
compared h base = compared_with (connections h) (map is_whole (connections base))

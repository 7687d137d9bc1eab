-- What the text of a script means: the script, or its first fault.
use Rattle.std.specs.Prelude.{ℕ, List, [], length, replicate, Option, Some, None, Result, Ok, Err}
use Rattle.std.specs.Prelude.{if◌then◌else◌, map, unwrap_or}
use Rattle.std.specs.Str.{is_utf8}
use Rattle.toml.specs.Data.{Data, Items, no_items, Members}
use Rattle.toml.specs.Parse.{parse_document}
use Rattle.bm_controller.specs.Controlled.{members_of}
use Rattle.bm_script.specs.declared.fault.Place.TheVariants.{Top}
use Rattle.bm_script.specs.declared.fault.ScriptFault.{ScriptFault}
use Rattle.bm_script.specs.declared.fault.ScriptFault.TheVariants.{NotToml}
use Rattle.bm_script.specs.declared.key.Key.TheVariants as key
use Rattle.bm_script.specs.declared.top.Opening.{Opening}
use Rattle.bm_script.specs.Commands.{Progress, after_commands, rows_from}
use Rattle.bm_script.specs.Faults.{◌>>=◌, only_keys, optional}
use Rattle.bm_script.specs.Keys.{top_keys, value_at}
use Rattle.bm_script.specs.Values.{lags, number, racks, route, servers, tables, vips, weights}
use Rattle.bm_table.specs.declared.script.Command.{Command}
use Rattle.bm_table.specs.declared.script.Script.{Script}
use Rattle.bm_table.specs.Planned.{Planned}
use Rattle.bm_table.specs.Settings.{plain_setting, rack_of, seconds}

-- the top table of a text; None if it isn't UTF-8, or isn't TOML
unfoldable pub tree_of : List ℕ → Option Members
tree_of text = if is_utf8 text then parse_document text else None

abbrev pub version_in : Option Data → ℕ
version_in None = 1
version_in (Some d) = unwrap_or (number 2 3 d) 1

-- The version by which a script's keys are judged: 1 but where `version` is the number of a later
-- one. So a key of a later version is unknown before a bad value of `version` is looked at.
abbrev pub version_of : Members → ℕ
version_of members = version_in (value_at key.Version members)

-- what the top keys give: the setting without impairments, and the servers' weights
abbrev pub opening_of : Members → Result Opening ScriptFault
opening_of members = do
  version ← optional key.Version 1 (number 1 3) members
  buckets ← optional key.Buckets plain_setting.buckets (number 1 65536) members
  servers ← optional key.Servers plain_setting.servers servers members
  weights ← optional key.Weights (replicate (length servers) 1) (weights (length servers)) members
  racks ← optional key.Racks plain_setting.racks (racks buckets servers) members
  muxes ← optional key.Muxes plain_setting.muxes (number 1 64) members
  shards ← optional key.Shards plain_setting.shards (number 1 64) members
  capacity ← optional key.Capacity plain_setting.capacity (number 1 65536) members
  timeout ← optional key.Timeout 240 (number 1 86400) members
  vips ← optional key.Vips plain_setting.vips vips members
  route ← optional key.Route plain_setting.route route members
  lags ← optional key.Lags (replicate muxes 0) (lags muxes) members
  Ok (record {
    setting = record {
      buckets = buckets;
      servers = servers;
      racks = racks;
      muxes = muxes;
      shards = shards;
      capacity = capacity;
      timeout = seconds timeout;
      vips = vips;
      route = route;
      lags = lags;
      faults = [];
    };
    weights = weights;
  })

-- what was read before the first command
abbrev pub opened : ℕ → Opening → Progress
opened version opening = record {
  version = version;
  controller = record {
    plan = record {
      buckets = opening.setting.buckets;
      servers = opening.setting.servers;
      changes = [];
    };
    racks = opening.setting.racks;
    members = members_of opening.setting.servers opening.weights
        (map (rack_of opening.setting.racks) opening.setting.servers);
  };
  last = 0;
  commands = [];
}

-- the plan that the commands of these tables make, and the commands
abbrev pub commands_of : ℕ → Opening → Items → Result (Planned × List Command) ScriptFault
commands_of version opening tables = do
  p ← after_commands (opened version opening) tables
  Ok (p.controller.plan, p.commands)

-- The checks are made in the order of these lines.
abbrev pub script_with : ℕ → Members → Result Script ScriptFault
script_with version members = do
  only ← only_keys Top version top_keys members
  opening ← opening_of members
  fault_tables ← optional key.Fault no_items (tables 4096) members
  command_tables ← optional key.Command no_items (tables 65536) members
  rows ← rows_from 1 fault_tables
  read ← commands_of version opening command_tables
  Ok (record {
    setting = record opening.setting { faults = rows };
    plan = read.0;
    commands = read.1;
  })

abbrev pub script_in : Members → Result Script ScriptFault
script_in members = script_with (version_of members) members

abbrev pub of_tree : Option Members → Result Script ScriptFault
of_tree None = Err NotToml
of_tree (Some members) = script_in members

-- the script, or the first fault
abbrev pub script_of : List ℕ → Result Script ScriptFault
script_of text = of_tree (tree_of text)

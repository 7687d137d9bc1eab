-- A script that the definition gives is sound, beside what the controller says of its plan.
use Rattle.std.proofs.Common.{◌≡◌, ◌≢◌, ℕ, ◌*◌, ◌^◌, ◌≤◌, List, length, map, Option, Some, None, Result, Ok, Err, IfOk}
use Rattle.std.proofs.Common.{IfErr, refl, ap, ◌∙◌, subst, arith}
use Rattle.std.specs.List.{AllByRecursion}
use Rattle.toml.specs.Data.{Items, Members}
use Rattle.bm_base.specs.Captures.{AreRising}
use Rattle.bm_controller.specs.Membership.{KeepsMembership}
use Rattle.bm_script.proofs.Ordered.{commands-ordered, AreOrdered, AreRising-higher}
use Rattle.bm_script.proofs.Sound.{Any, AreRows, Meets, meets-only_keys, meets-tables, meets-then, rows-sound}
use Rattle.bm_script.proofs.Sound.{opening-sound}
use Rattle.bm_script.specs.declared.fault.Place.TheVariants.{Top}
use Rattle.bm_script.specs.declared.fault.ScriptFault.{ScriptFault}
use Rattle.bm_script.specs.declared.fault.ScriptFault.TheVariants.{NotToml, Missing, BadValue, Unknown, Refused, Rack}
use Rattle.bm_script.specs.declared.fault.ScriptFault.TheVariants.{Memory}
use Rattle.bm_script.specs.declared.key.Key.TheVariants as key
use Rattle.bm_script.specs.Faults.{Gives, IsOfScript}
use Rattle.bm_script.specs.Keys.{top_keys}
use Rattle.bm_script.specs.declared.top.Opening.{Opening}
use Rattle.bm_script.specs.Inside.Openings.{IsOpening}
use Rattle.bm_script.specs.Scripts.{commands_of, of_tree, opened, script_in, script_of, script_with, tree_of, version_of}
use Rattle.bm_script.specs.Values as values
use Rattle.bm_table.specs.declared.script.Command.{Command}
use Rattle.bm_table.specs.declared.script.Script.{Script}
use Rattle.bm_table.specs.Planned.{Planned}
use Rattle.bm_table.specs.declared.setting.FaultRow.{FaultRow}
use Rattle.bm_table.specs.declared.setting.Setting.{Setting}
use Rattle.bm_table.specs.Scripts.{moment_of_command, IsOfKnown, IsSoundScript, NamesVersions}
use Rattle.bm_table.specs.Settings.{IsSetting}

-- what is sound of a script, its plan's own laws aside
pub record IsRead (script : Script) : Type 0 where
  pub setting : IsSetting script.setting
  pub buckets : script.plan.buckets ≡ script.setting.buckets
  pub servers : script.plan.servers ≡ script.setting.servers
  pub few : length script.commands ≤ 65536
  pub rise : AreRising 0 (4 * 10 ^ 18) (map (λ c. moment_of_command script.plan c) script.commands)
  pub versions : NamesVersions 1 (length script.plan.changes) script.commands
  pub of_known : AllByRecursion (λ c. IsOfKnown script.plan c) script.commands

opened-ordered : (version : ℕ) (opening : Opening)
    → AreOrdered (opened version opening).controller.plan 0 (opened version opening)
opened-ordered version opening = record {
  few = refl;
  buckets = refl;
  servers = refl;
  last = omega arith;
  plan_last = omega arith;
  rise = tt;
  versions = refl;
  of_known = tt;
}

-- the plan and the commands that were read, beside the plan that was there at first
record AreCarried (first : Planned) (n : ℕ) (read : Planned × List Command) : Type 0 where
  few : length read.1 ≡ n
  buckets : read.0.buckets ≡ first.buckets
  servers : read.0.servers ≡ first.servers
  rise : AreRising 0 (4 * 10 ^ 18) (map (λ c. moment_of_command read.0 c) read.1)
  versions : NamesVersions 1 (length read.0.changes) read.1
  of_known : AllByRecursion (λ c. IsOfKnown read.0 c) read.1

commands-carried : (version : ℕ) (opening : Opening) (items : Items)
    → Meets (AreCarried (opened version opening).controller.plan (values.count items)) (commands_of version opening items)
commands-carried version opening items =
    meets-then (AreOrdered (opened version opening).controller.plan (values.count items))
    (AreCarried (opened version opening).controller.plan (values.count items)) _ _
    (commands-ordered (opened version opening).controller.plan 0 (values.count items) (opened version opening) items
    (omega arith) (opened-ordered version opening)) λ p are.
    record {
      few = are.few;
      buckets = are.buckets;
      servers = are.servers;
      rise = AreRising-higher 0 p.last (4 * 10 ^ 18) (map (λ c. moment_of_command p.controller.plan c) p.commands)
          are.rise are.last;
      versions = are.versions;
      of_known = are.of_known;
    }

with_rows : (setting : Setting) (items : Items) (rows : List FaultRow) → IsSetting setting → values.count items ≤ 4096
    → AreRows items rows → IsSetting (record setting { faults = rows })
with_rows setting items rows h few are = record {
  buckets = h.buckets;
  servers = h.servers;
  rising = h.rising;
  numbers = h.numbers;
  racks = h.racks;
  muxes = h.muxes;
  shards = h.shards;
  capacity = h.capacity;
  timeout = h.timeout;
  vips = h.vips;
  ports = h.ports;
  lag_of_each = h.lag_of_each;
  lags = h.lags;
  rows = omega (arith, are.1);
  faults = are.0;
}

read-with : (version : ℕ) (inside : Members) → Meets IsRead (script_with version inside)
read-with version inside =
    meets-then Any IsRead _ _ (meets-only_keys Top version top_keys inside) λ only _.
    meets-then IsOpening IsRead _ _ (opening-sound inside) λ opening is_opening.
    meets-then (λ items. values.count items ≤ 4096) IsRead _ _ (meets-tables key.Fault 4096 inside) λ fault_tables
    few_rows.
    meets-then (λ items. values.count items ≤ 65536) IsRead _ _ (meets-tables key.Command 65536 inside) λ command_tables
    few.
    meets-then (AreRows fault_tables) IsRead _ _ (rows-sound 1 fault_tables) λ rows are_rows.
    meets-then (AreCarried (opened version opening).controller.plan (values.count command_tables)) IsRead _ _
    (commands-carried version opening command_tables) λ read are.
    record {
      setting = with_rows opening.setting fault_tables rows is_opening.setting few_rows are_rows;
      buckets = are.buckets;
      servers = are.servers;
      few = omega (arith, are.few);
      rise = are.rise;
      versions = are.versions;
      of_known = are.of_known;
    }

read-tree : (inside : Members) → Meets IsRead (script_in inside)
read-tree inside = read-with (version_of inside) inside

read-of_tree : (tree : Option Members) → Meets IsRead (of_tree tree)
read-of_tree None = tt
read-of_tree (Some inside) = read-tree inside

pub script-read : (text : List ℕ) → Meets IsRead (script_of text)
script-read text = read-of_tree (tree_of text)

script-sound : (text : List ℕ) (script : Script) → script_of text ≡ Ok script → KeepsMembership script.plan
    → IsSoundScript script
script-sound text script is membership =
    let h : Meets IsRead (Ok script) = subst (Meets IsRead) is (script-read text) in
    record {
      setting = h.setting;
      buckets = h.buckets;
      servers = h.servers;
      adds = membership.adds;
      plan = membership.orderly;
      few_commands = h.few;
      commands_rise = h.rise;
      versions = h.versions;
      of_known = h.of_known;
    }

script-fault : (text : List ℕ) (fault : ScriptFault) → script_of text ≡ Err fault → IsOfScript fault
script-fault text fault is = subst (Meets IsRead) is (script-read text)

fault-sound : (text : List ℕ) (fault : ScriptFault) → (fault ≢ Memory → script_of text ≡ Err fault) → IsOfScript fault
fault-sound text NotToml is = tt
fault-sound text (Missing place key) is = tt
fault-sound text (BadValue place key) is = tt
fault-sound text (Unknown place name) is = tt
fault-sound text (Refused n r) is = script-fault text (Refused n r) (is (λ e. cc))
fault-sound text (Rack n r) is = script-fault text (Rack n r) (is (λ e. cc))
fault-sound text Memory is = tt

-- of an answer that is what the definition gives
module _ (text : List ℕ) (inside : Members) (tree : tree_of text ≡ Some inside) where
  pub answer-sound : (result : Result Script ScriptFault) → Gives result (script_in inside)
      → IfOk result (λ script. KeepsMembership script.plan) → IfOk result IsSoundScript
  answer-sound (Ok script) gives membership = script-sound text script (ap of_tree tree ∙ gives) membership
  answer-sound (Err fault) gives membership = tt

  pub answer-fault : (result : Result Script ScriptFault) → Gives result (script_in inside) → IfErr result IsOfScript
  answer-fault (Ok script) gives = tt
  answer-fault (Err fault) gives = fault-sound text fault (λ other. ap of_tree tree ∙ gives other)

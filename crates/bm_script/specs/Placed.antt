-- Where the commands of a script leave its buckets. After each `add`, `drain` and `weight` every bucket
-- is at an active server of its own rack, and each rack's servers have their quotas of its buckets, by
-- the fewest moves.
use Rattle.std.specs.Prelude.{◌≡◌, List, ℕ, IsOkAnd, IsSomeAnd, Result}
use Rattle.toml.specs.Data.{as_table, Items, no_items, item, Members}
use Rattle.bm_controller.specs.Controlled.{Controlled}
use Rattle.bm_controller.specs.Racks.{IsHome, IsRacked, IsRebalanced}
use Rattle.bm_script.specs.Commands.{after_command, next, Progress}
use Rattle.bm_script.specs.declared.commands.Verb.{Verb}
use Rattle.bm_script.specs.declared.commands.Verb.TheVariants.{Add, Drain, Weigh}
use Rattle.bm_script.specs.declared.fault.Place.TheVariants.{Command}
use Rattle.bm_script.specs.declared.fault.ScriptFault.{ScriptFault}
use Rattle.bm_script.specs.declared.key.Key.TheVariants as key
use Rattle.bm_script.specs.Faults.{optional, required}
use Rattle.bm_script.specs.Scripts.{opened, opening_of, tree_of, version_of}
use Rattle.bm_script.specs.Values.{tables, verb}
use Rattle.bm_table.specs.declared.plan.Change.{Change}
use Rattle.bm_table.specs.declared.script.Script.{Script}
use Rattle.bm_table.specs.declared.setting.Setting.{Setting}
use Rattle.bm_table.specs.Plans.{with_change}
use Rattle.bm_table.specs.Settings.{rack_of}

-- what holds of the controller before and after a command that rebalances
pub record IsPlaced (setting : Setting) (before after : Controlled) : Type 0 where
  -- the change that the command added to the plan
  pub change : Change
  pub added : after.plan ≡ with_change before.plan change
  pub racks : after.racks ≡ setting.racks
  -- the members are the plan's active servers, each in the rack that scripts give it
  pub racked : IsRacked (rack_of setting.racks) after
  -- by the plan's table each bucket is at an active server of its own rack
  pub home : IsHome (rack_of setting.racks) after
  -- each rack's servers have their quotas, and no shorter list of moves reaches these
  pub rebalanced : IsRebalanced before.plan change after

-- an `add`, a `drain` and a `weight` rebalance; the other commands don't
abbrev pub Places : Setting → Verb → Controlled → Controlled → Type 0
Places setting Add before after = IsPlaced setting before after
Places setting Drain before after = IsPlaced setting before after
Places setting Weigh before after = IsPlaced setting before after
Places setting _ before after = Unit {0}

-- what the table of the next command says that it does
abbrev pub verb_in : Progress → Members → Result Verb ScriptFault
verb_in p members = required (Command (next p)) key.Do (verb p.version) members

-- Each command of these tables is carried out after those before it, and the plan after the last one is
-- the script's.
abbrev pub ArePlaced : Script → Progress → Items → Type 0
ArePlaced script p no_items = p.controller.plan ≡ script.plan
ArePlaced script p (item d items) =
    IsSomeAnd (as_table d) (λ members. IsOkAnd (after_command p members) (λ q.
    IsOkAnd (verb_in p members) (λ v. Places script.setting v p.controller q.controller)
    × ArePlaced script q items))

-- the commands of a text, from its opening to its script
abbrev pub IsPlacedText : List ℕ → Script → Type 0
IsPlacedText text script =
    IsSomeAnd (tree_of text) (λ members. IsOkAnd (opening_of members) (λ opening.
    IsOkAnd (optional key.Command no_items (tables 65536) members)
    (ArePlaced script (opened (version_of members) opening))))

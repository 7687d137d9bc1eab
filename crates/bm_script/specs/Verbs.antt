-- What the commands that change the table say, in their order. A plan has three kinds of changes, and
-- a script has four verbs for them: `move` and `weight` both make a change of the kind Shift.
use Rattle.std.specs.Prelude.{◌≡◌, ℕ, List, [], ◌∷◌, ◌++◌, Option, Some, None, Result, Ok}
use Rattle.std.specs.Prelude.{option_to_list, unwrap_or}
use Rattle.toml.specs.Data.{as_table, Data, Items, no_items, item, Members}
use Rattle.bm_script.specs.declared.commands.Verb.{Verb}
use Rattle.bm_script.specs.declared.commands.Verb.TheVariants.{Add, Drain, Move, Weigh}
use Rattle.bm_script.specs.declared.fault.ScriptFault.{ScriptFault}
use Rattle.bm_script.specs.declared.key.Key.{Key}
use Rattle.bm_script.specs.declared.key.Key.TheVariants as key
use Rattle.bm_script.specs.declared.verbs.ChangeVerb.{ChangeVerb}
use Rattle.bm_script.specs.declared.verbs.ChangeVerb.TheVariants as says
use Rattle.bm_script.specs.declared.verbs.WordedScript.{WordedScript}
use Rattle.bm_script.specs.Faults as faults
use Rattle.bm_script.specs.Keys.{value_at}
use Rattle.bm_script.specs.Scripts.{script_of, tree_of, version_of}
use Rattle.bm_script.specs.Values.{◌>>=◌, number, server, tables, verb, weight}
use Rattle.bm_table.specs.declared.plan.Change.{Change}
use Rattle.bm_table.specs.declared.plan.Kind.TheVariants as kind

-- WHAT COMMANDS SAY

-- what the value of a key reads as, if the key is there
abbrev pub found : {A : Type 0} → Key → (Data → Option A) → Members → Option A
found key read members = value_at key members >>= read

-- what a command with this verb says that it changes; None for one that changes no table
abbrev pub said : Verb → Members → Option ChangeVerb
said Add entries = do
  s ← found key.Server server entries
  Some (says.Add s)
said Drain entries = do
  s ← found key.Server server entries
  Some (says.Drain s)
said Move entries = do
  bucket ← found key.Bucket (number 0 65535) entries
  s ← found key.Server server entries
  Some (says.Move bucket s)
said Weigh entries = do
  s ← found key.Server server entries
  w ← found key.Weight weight entries
  Some (says.Weight s w)
said _ entries = None

-- what the command of a table says that it changes
abbrev pub change_verb : ℕ → Members → Option ChangeVerb
change_verb version members = do
  v ← found key.Do (verb version) members
  said v members

-- what the commands of these tables say that they change
abbrev pub verbs_in : ℕ → Items → List ChangeVerb
verbs_in version no_items = []
verbs_in version (item d items) =
    option_to_list (as_table d >>= change_verb version) ++ verbs_in version items

-- the tables of a script's commands
abbrev pub commands_in : Members → Items
commands_in members = unwrap_or (found key.Command (tables 65536) members) no_items

abbrev pub tree_verbs : Option Members → List ChangeVerb
tree_verbs None = []
tree_verbs (Some members) = verbs_in (version_of members) (commands_in members)

-- what the commands of a script say that they change
abbrev pub verbs_of : List ℕ → List ChangeVerb
verbs_of text = tree_verbs (tree_of text)

-- a script with what its commands say, or the script's first fault
abbrev pub worded_script_of : List ℕ → Result WordedScript ScriptFault
worded_script_of text = faults.◌>>=◌ (script_of text) (λ script.
    Ok (record { script = script; verbs = verbs_of text }))

-- WHAT CHANGES THEY MAKE

-- the change is of the verb's kind; a `move` moves its bucket, and no other
abbrev pub IsDoneBy : ChangeVerb → Change → Type 0
IsDoneBy (says.Add s) c = c.kind ≡ kind.Add s
IsDoneBy (says.Drain s) c = c.kind ≡ kind.Drain s
IsDoneBy (says.Move bucket s) c =
    (c.kind ≡ kind.Shift) × (c.moves ≡ record { bucket = bucket; to = s } ∷ [])
IsDoneBy (says.Weight s w) c = c.kind ≡ kind.Shift

-- one change for each of these verbs, in their order
abbrev pub AreDoneBy : List ChangeVerb → List Change → Type 0
AreDoneBy [] [] = Unit {0}
AreDoneBy (v ∷ verbs) (c ∷ changes) = IsDoneBy v c × AreDoneBy verbs changes
AreDoneBy _ _ = ⊥

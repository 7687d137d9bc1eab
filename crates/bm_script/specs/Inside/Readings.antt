-- The commands read so far, as the code keeps them.
use Rattle.std.specs.Prelude.{◌≡◌, ◌≢◌, ℕ, ◌+◌, ◌≤◌, [], ◌∷◌, ◌++◌, length, Result, Ok, Err}
use Rattle.bm_controller.specs.declared.refusal.RackRefusal.{RackRefusal}
use Rattle.bm_controller.specs.declared.refusal.RackRefusal.TheVariants.{Base}
use Rattle.bm_quota.specs.declared.refusal.Refusal.TheVariants.{Memory as no_memory}
use Rattle.bm_script.specs.Commands.{Progress}
use Rattle.bm_script.specs.declared.commands.Reading.{Reading}
use Rattle.bm_script.specs.declared.fault.ScriptFault.{ScriptFault}
use Rattle.bm_script.specs.declared.fault.ScriptFault.TheVariants.{Memory}
use Rattle.bm_script.specs.Faults.{refused_as}
use Rattle.bm_table.specs.declared.script.Command.TheVariants.{Change}

abbrev pub progress : {P : Type 0} → Reading P → Progress
progress r = record {
  version = r.version;
  controller = r.controller.engine;
  last = r.last;
  commands = r.commands.items;
}

module _ {P : Type 0} where
  -- the count of changes is right, and each of them has a command
  pub record IsCounted (r : Reading P) : Type 0 where
    pub versions : r.versions ≡ length r.controller.engine.plan.changes
    pub within : r.versions ≤ length r.commands.items

  -- a command was added for a change that the controller had made
  pub record IsPublished (old new : Reading P) (at : ℕ) : Type 0 where
    pub version : new.version ≡ old.version
    pub controller : new.controller ≡ old.controller
    pub last : new.last ≡ at
    pub versions : new.versions ≡ old.versions + 1
    pub commands : new.commands.items ≡ old.commands.items
        ++ Change (record { 0 = old.versions + 1 }) ∷ []

  -- one more command was read
  pub record HasRead (old new : Reading P) (wanted : Result Progress ScriptFault) : Type 0 where
    pub gives : wanted ≡ Ok (progress new)
    pub counted : IsCounted new
    pub one : length new.commands.items ≡ length old.commands.items + 1
    pub policy : new.controller.policy ≡ old.controller.policy
    pub racks : new.controller.engine.racks ≡ old.controller.engine.racks

  -- what was read is what the definition gives, unless memory was refused
  abbrev pub Reads : Reading P → Reading P → Result Progress ScriptFault
      → Result (Unit {0}) ScriptFault → Type 0
  Reads old new wanted (Ok x) = HasRead old new wanted
  Reads old new wanted (Err fault) = fault ≢ Memory → wanted ≡ Err fault

abbrev pub command_fault : ℕ → RackRefusal → ScriptFault
command_fault n (Base no_memory) = Memory
command_fault n refusal = refused_as n refusal

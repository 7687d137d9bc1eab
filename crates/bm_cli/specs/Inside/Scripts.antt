-- What was read of a script.
use Rattle.std.specs.Prelude.{◌≡◌, ℕ, List, [], Option, Some, None, Result, Ok}
use Rattle.bm_table.specs.declared.script.Script.{Script}
use Rattle.bm_script.specs.declared.verbs.ChangeVerb.{ChangeVerb}
use Rattle.bm_script.specs.Verbs.{verbs_of}
use Rattle.bm_cli.specs.declared.fault.StageFault.{StageFault}
use Rattle.bm_cli.specs.Plain.{plain_script}
use Rattle.bm_cli.specs.Reading.{Octets, script_in}
use Rattle.bm_cli.specs.Stages.{IsRead}

-- if no script is named it is the one that sets nothing, whatever the files contain
abbrev pub ReadsScript : Octets → Option (List ℕ) → Result Script StageFault → Type 0
ReadsScript told None result = IsRead (Ok plain_script) result
ReadsScript None (Some name) result = Unit {0}
ReadsScript (Some octets) (Some name) result = IsRead (script_in (octets name)) result

-- what its commands say that they change
abbrev pub ReadsVerbs : Octets → Option (List ℕ) → List ChangeVerb → Type 0
ReadsVerbs told None verbs = verbs ≡ []
ReadsVerbs None (Some name) verbs = Unit {0}
ReadsVerbs (Some octets) (Some name) verbs = verbs ≡ verbs_of (octets name)

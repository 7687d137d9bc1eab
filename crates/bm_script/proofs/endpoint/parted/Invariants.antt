use Rattle.std.proofs.Common.{◌≡◌, drop, take}
use Rattle.bm_script.specs.Values as values
use Rattle.bm_script.proofs.Parts.{behind}
use Rattle.bm_script.proofs.endpoint.parted.Given as goal

abbrev pub invariant-loop-at : goal.invariant-loop-at
invariant-loop-at l = behind (take l.at l.text) (values.parted l.mark (drop l.at l.text)) ≡ values.parted l.mark l.text

use Rattle.std.proofs.Common.{rules}
use Rattle.bm_script.proofs.commands.Reading.read.Goals as goal

pub returns-in_err-verb : goal.returns-in_err-verb
returns-in_err-verb c = search rules

pub returns-in_err-only_keys : goal.returns-in_err-only_keys
returns-in_err-only_keys c = search rules

pub returns : goal.returns
returns c = search rules

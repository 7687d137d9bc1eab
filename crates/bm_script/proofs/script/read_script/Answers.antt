use Rattle.bm_script.proofs.Whole.{answer-fault, answer-sound}
use Rattle.toml.specs.View.{table_view}
use Rattle.bm_script.proofs.script.read_script.Goals as goal

pub returns-clause-sound : goal.returns-clause-sound
returns-clause-sound c =
    answer-sound c.args.text.now (table_view c.in_ok-table.table) c.in_ok-table.ensures.ok c.read_tree.result
    c.read_tree.ensures.gives c.read_tree.ensures.membership

pub returns-clause-refusals : goal.returns-clause-refusals
returns-clause-refusals c =
    answer-fault c.args.text.now (table_view c.in_ok-table.table) c.in_ok-table.ensures.ok c.read_tree.result
    c.read_tree.ensures.gives

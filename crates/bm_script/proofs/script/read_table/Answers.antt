use Rattle.std.proofs.Common.{refl}
use Rattle.bm_script.proofs.Trees.{tree_of_text, no_tree}
use Rattle.bm_script.proofs.script.read_table.Goals as goal

pub returns-in-Ok-table_from_str-clause-ok : goal.returns-in-Ok-table_from_str-clause-ok
returns-in-Ok-table_from_str-clause-ok c =
    tree_of_text c.args.text.now c.in-Ok.text.now _ c.in-Ok.ensures.cases.1 c.in-Ok.ensures.cases.0
    c.in-Ok-table_from_str.ensures.ok

pub returns-in-Err-2-clause-err : goal.returns-in-Err-2-clause-err
returns-in-Err-2-clause-err c =
    λ _. (
      refl,
      tree_of_text c.args.text.now c.in-Ok.text.now _ c.in-Ok.ensures.cases.1 c.in-Ok.ensures.cases.0
          (c.in-Err-table_from_str.ensures.refused (λ m. let no = c.if-is_memory.ensures.1 m in cc)),
    )

pub returns-in-Err-clause-err : goal.returns-in-Err-clause-err
returns-in-Err-clause-err c = λ _. (refl, no_tree c.args.text.now c.in-Err.ensures.cases.0)

use Rattle.std.proofs.Common.{rules, subst, sym}
use Rattle.bm_core.proofs.Determined.{same_retirement}
use Rattle.bm_core.specs.Past.{newest, timeout}
use Rattle.bm_table.specs.declared.plan.Retirement.{Retirement}
use Rattle.bm_table.specs.Tables.{IsRetirement}
use Rattle.bm_running.proofs.known.Known.may_retire.Goals as goal

pub returns-then-at-clock-clause-decides : goal.returns-then-at-clock-clause-decides
returns-then-at-clock-clause-decides c past knows =
    let stage = c.args.stage.now
    in let plan = stage.script.plan
    in let due : IsRetirement plan (timeout stage) (newest past) c.args.server c.args.at.0 c.retirement-due.result =
    c.retirement-due.ensures plan (newest past) knows.leaves
    in (
      λ same. (
        search rules,
        subst (λ (r : Retirement). IsRetirement plan (timeout stage) (newest past) c.args.server c.args.at.0 r)
            (sym (c.is_answer.ensures.0 same)) due,
      ),
      λ may.
          c.is_answer.ensures.1
          (same_retirement plan (timeout stage) (newest past) c.args.server c.args.at.0 c.args.answer
          c.retirement-due.result may.1 due),
    )

pub returns-then-at-clock-clause-shards : goal.returns-then-at-clock-clause-shards
returns-then-at-clock-clause-shards c past e knows is may =
    c.in_ok-retire.ensures.kept past e c.args.at knows.shards is

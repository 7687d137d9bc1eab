use Rattle.std.proofs.Common.{List, length, ap, ◌∙◌, arith}
use Rattle.bm_controller.proofs.MemberPlans.{length-owners_now}
use Rattle.bm_controller.proofs.RackParts.{moves-list}
use Rattle.bm_controller.proofs.engine.change_to.Goals as goal
use Rattle.bm_table.specs.declared.plan.Move.{Move}
use Rattle.bm_table.specs.Plans.{server_now}

pub moves_by_racks-requires-clause-buckets : goal.moves_by_racks-requires-clause-buckets
moves_by_racks-requires-clause-buckets c =
    omega (
      arith,
      ap length (c.as_slice.ensures.value ∙ c.in_ok-owners.ensures),
      length-owners_now c.args.plan.now,
      c.requires.plan.buckets.1,
    )

pub returns : goal.returns
returns c =
    ap (λ (ms : List Move). record { moment = c.args.at; kind = c.args.kind; moves = ms })
    (c.of.ensures
    ∙ c.in_ok-moves.ensures
    ∙ moves-list (server_now c.args.plan.now) c.args.plan.now.buckets c.args.racks c.args.members.now
    (omega (arith, c.requires.few)) c.as_slice.result.now (c.as_slice.ensures.value ∙ c.in_ok-owners.ensures))

use Rattle.std.proofs.Common.{◌≡◌, ℕ, Vec, Global, List, Option, length, get_or, ap, ◌∙◌, arith}
use Rattle.std.proofs.lemmas.Result.{IfOk-weaker}
use Rattle.bm_base.specs.declared.ids.ServerId.{ServerId}
use Rattle.bm_controller.proofs.rebalance.moves_by_racks.Goals as goal
use Rattle.bm_controller.specs.Inside.Targets.{target_in}
use Rattle.bm_controller.specs.Racks.{rack_part}
use Rattle.bm_quota.specs.Parts.{listed, rebalancing_by_parts}
use Rattle.bm_table.proofs.Gets.{given_back}
use Rattle.bm_table.specs.declared.plan.Move.{Move}

pub returns : goal.returns
returns c =
    let whole = c.as_slice.ensures.value
    ∙ given_back c.in_ok-targets.targets.items c.find_targets.new.targets c.in_ok-targets.targets.len (omega arith)
    (omega arith)
    in let count : length c.as_slice.result.now ≡ length c.args.owners.now =
    omega (arith, ap length whole, c.in_ok-targets.ensures.count)
    in IfOk-weaker c.listed.result
    (λ (m : Vec Move Global). m.items ≡ listed (target_in c.as_slice.result.now) 0 (length c.as_slice.result.now))
    (λ (m : Vec Move Global). m.items ≡ rebalancing_by_parts (length c.args.owners.now) c.args.racks
    (rack_part (λ b. get_or c.args.owners.now b (record { 0 = 0 })) (length c.args.owners.now) c.args.racks
    c.args.members.now))
    (λ m is. is
    ∙ ap (listed (target_in c.as_slice.result.now) 0) count
    ∙ ap (λ (ts : List (Option ServerId)). listed (target_in ts) 0 (length c.args.owners.now)) whole
    ∙ ap (λ (f : ℕ → Option ServerId). listed f 0 (length c.args.owners.now))
    (λ i b. c.in_ok-find_targets.ensures b i))
    c.listed.ensures

use Rattle.std.proofs.Common.{◌+◌, ◌*◌, ◌++◌, List, [], ◌∷◌, get_or, ap, sym, ◌∙◌, arith}
use Rattle.std.proofs.lemmas.List.FromFn.{map-range_with_len_more}
use Rattle.bm_base.specs.declared.ids.ServerId.{ServerId}
use Rattle.bm_controller.proofs.rebalance.owners_of_rack.Goals as goal

pub loop-j-preserved : goal.loop-j-preserved
loop-j-preserved c =
    c.in_ok-push.ensures.items
    ∙ ap (λ (xs : List ServerId). xs ++ get_or c.args.owners.now (c.loop-j.j * c.args.racks + c.args.rack) (record { 0 = 0 }) ∷ [])
    c.loop-j.invariant
    ∙ sym (map-range_with_len_more (λ j. get_or c.args.owners.now (j * c.args.racks + c.args.rack) (record { 0 = 0 })) 0
    c.loop-j.j c.loop-j.j (omega arith))

use Rattle.std.proofs.Common.{arith, ◌∙◌}
use Rattle.std.proofs.lemmas.List.{with_items_is}
use Rattle.bm_trace.proofs.Pieces.{round_of}
use Rattle.bm_trace.proofs.beside.Round.first.Goals as goal

pub returns-clause-round : goal.returns-clause-round
returns-clause-round c =
    let few = c.in_ok-pieces.ensures
    in let given = c.as_mut_slice.ensures.len
    in let kept = c.in_ok-to.ensures.count
    in let some = c.requires.count
    in round_of c.args.h.now 0 c.in_ok-to.to c.deal_out.new.sweeper c.deal_out.new.pieces _ _
    (with_items_is c.in_ok-pieces.pieces c.deal_out.new.pieces (kept ∙ given)) (omega arith) c.in_ok-to.ensures.dealt
    (omega (arith, few, given, kept, some)) (omega (arith, few, given, kept, c.in_ok-spare.ensures))

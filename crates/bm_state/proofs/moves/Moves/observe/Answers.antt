use Rattle.std.proofs.Common.{sym, ap, ◌∙◌}
use Rattle.std.specs.BTreeMap as tree
use Rattle.std.specs.Ordering.{nat_cmp}
use Rattle.std.specs.Option.{option_copied}
use Rattle.bm_state.specs.Inside.Moves.{with_moves}
use Rattle.bm_state.specs.Moves.{listed}
use Rattle.bm_state.proofs.Moving.{moves_more}
use Rattle.bm_state.proofs.moves.Moves.observe.Goals as goal

pub returns-in_ok-add_all : goal.returns-in_ok-add_all
returns-in_ok-add_all c =
    moves_more c.args.plan.now c.args.change c.in-Some.next.now _ _
    (sym c.next_change.ensures ∙ ap option_copied c.in-Some.is) c.requires
    (λ q. c.in_ok-add_all.ensures q
    ∙ ap (λ ms. with_moves c.args.change ms q (listed (tree.get nat_cmp c.args.self.now.lists q))) c.items.ensures)

use Rattle.std.proofs.Common.{refl, suc}
use Rattle.bm_check.proofs.Copying.{eq_decides}
use Rattle.bm_check.proofs.copies.is_kept.Goals as goal

pub returns-then-are_none : goal.returns-then-are_none
returns-then-are_none c all keeps = (
  λ t. c.are_none.ensures.none all keeps c.if-are_none.true c.args.packet c.args.hop (suc c.args.clock.0),
  λ same. refl,
)

pub returns : goal.returns
returns c all keeps = eq_decides c.of.result 0 _ 0 (c.of.ensures all keeps) refl

use Rattle.std.proofs.Common.{arith, rules}
use Rattle.bm_seq.proofs.laws.window.Goals as goal
use Rattle.bm_seq.proofs.Windows.{in_window_after, after_in_window}

pub returns : goal.returns
returns c = record {
  has = λ k below. after_in_window c.args.next c.args.size k (search rules) (let h = c.requires in omega arith) below;
  only = λ x range is. in_window_after c.args.next c.args.size x (search rules) range is;
}

use Rattle.std.proofs.Common.{rules}
use Rattle.bm_seq.specs.Receivers.{taken_reset}
use Rattle.bm_seq.proofs.receiver.Receiver.judge_reset.Goals as goal

pub returns-then-s-self : goal.returns-then-s-self
unfolding taken_reset
returns-then-s-self c = search rules

use Rattle.std.proofs.Common.{ℕ, ◌<◌, get_or}
use Rattle.bm_controller.specs.declared.members.Member.{Member}
use Rattle.bm_controller.proofs.members.numbers.Given as goal

abbrev pub invariant-loop-m : goal.invariant-loop-m
invariant-loop-m l = (k : ℕ) → (d : Member) → k < l.m-index → (get_or l.members k d).server.0 < l.numbers

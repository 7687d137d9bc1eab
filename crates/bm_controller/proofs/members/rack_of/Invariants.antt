use Rattle.std.proofs.Common.{◌≡◌, drop}
use Rattle.bm_controller.specs.Controlled as controlled
use Rattle.bm_controller.proofs.members.rack_of.Given as goal

abbrev pub invariant-loop-m : goal.invariant-loop-m
invariant-loop-m l = controlled.rack_of (drop l.m-index l.members) l.s ≡ controlled.rack_of l.members l.s

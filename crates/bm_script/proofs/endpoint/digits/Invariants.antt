use Rattle.std.proofs.Common.{◌≡◌, ◌≤◌, drop}
use Rattle.bm_script.specs.Values as values
use Rattle.bm_script.proofs.endpoint.digits.Given as goal

abbrev pub invariant-loop-c : goal.invariant-loop-c
invariant-loop-c l = record {
  so_far : values.digits l.high l.n (drop l.c-index l.text) ≡ values.digits l.high 0 l.text;
  within : l.n ≤ l.high;
}

use Rattle.std.proofs.Common.{◌≡◌, vec_len}
use Rattle.bm_trace.proofs.beside.no_pieces.Given as goal

abbrev pub invariant-loop : goal.invariant-loop
invariant-loop l = vec_len l.pieces ≡ l.counter

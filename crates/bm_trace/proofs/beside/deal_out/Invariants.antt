use Rattle.std.proofs.Common.{◌≡◌, ◌≤◌, All, length, take}
use Rattle.bm_trace.specs.Inside.Pieces.{AreInRow, CanWrite, place_of}
use Rattle.bm_trace.specs.Inside.Swept.{HasSwept}
use Rattle.bm_trace.proofs.beside.deal_out.Given as goal

abbrev pub invariant-loop-number : goal.invariant-loop-number
invariant-loop-number l = record {
  within : l.at ≤ length l.h.events;
  place : l.at ≡ place_of l.h l.from l.number;
  swept : HasSwept l.h l.at l.sweeper;
  count : length l.pieces ≡ length l.initial.pieces;
  can : All (CanWrite l.h) (take l.number l.pieces);
  row : AreInRow l.h l.from (take l.number l.pieces);
}

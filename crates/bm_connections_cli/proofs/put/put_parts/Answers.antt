use Rattle.std.proofs.Common.{◌∙◌}
use Rattle.bm_trace.proofs.Parted.{on_err}
use Rattle.bm_connections_cli.proofs.Pieces.{text_more, text_part}
use Rattle.bm_connections_cli.proofs.put.put_parts.Goals as goal

pub returns-in_err-put_all-clause-err : goal.returns-in_err-put_all-clause-err
returns-in_err-put_all-clause-err g c =
    let part = c.in_err-put_all.ensures.err in
    on_err _ _
    (text_part _ _ _ c.args.parts.now c.loop-part.part-index part.0 _ c.as_bytes.result.now c.loop-part-test.true
    (c.as_bytes.ensures.value ∙ c.as_str.ensures ∙ c.part-item.is) c.loop-part.invariant.written part.1 part.2)

pub loop-part-preserved : goal.loop-part-preserved
loop-part-preserved g c = record {
  written = text_more _ _ _ c.args.parts.now c.loop-part.part-index _ c.as_bytes.result.now c.loop-part-test.true
      (c.as_bytes.ensures.value ∙ c.as_str.ensures ∙ c.part-item.is) c.loop-part.invariant.written
      c.in_ok-put_all.ensures.ok;
  later = c.in_ok-put_all.ensures.cause.kept ∙ c.loop-part.invariant.later;
}

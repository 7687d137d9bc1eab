use Rattle.std.proofs.Common.{codes, decimal, refl, string_bytes}
use Rattle.bm_trace.specs.Words.{because_words, verdict_words}
use Rattle.bm_trace.proofs.Parted.{ok_more}
use Rattle.bm_trace.proofs.Spacing.{begun, named_more, words_end, words_more}
use Rattle.bm_trace.proofs.lines.write_arrival.Goals as goal

pub returns : goal.returns
returns c =
    let clock = begun (string_bytes c.args.line.now) (decimal c.args.clock) _ c.in_ok-push_digits.ensures
    in let packet = named_more _ _ _ _ _ _ (codes "arrive") _ _ clock refl c.from.ensures c.in_ok-push_named.ensures
    in let server = named_more _ _ _ _ _ _ _ _ _ packet refl c.from-2.ensures c.in_ok-push_hop.ensures
    in let verdict = words_more _ _ _ _ _ (verdict_words c.args.verdict) server c.in_ok-push_verdict.ensures
    in ok_more c.end_line.result _ _ (words_end _ _ _ _ _ (because_words c.args.cause) verdict) c.end_line.ensures

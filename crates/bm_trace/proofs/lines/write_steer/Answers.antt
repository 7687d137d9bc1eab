use Rattle.std.proofs.Common.{ap, codes, decimal, refl, rules, string_bytes}
use Rattle.bm_trace.proofs.Spacing.{begun, line_ends, named_more, word_more}
use Rattle.bm_trace.proofs.lines.write_steer.Goals as goal

pub returns : goal.returns
returns c =
    let clock = begun (string_bytes c.args.line.now) (decimal c.args.clock) _ c.in_ok-push_digits.ensures
    in let packet = named_more _ _ _ _ _ _ (codes "steer") _ _ clock refl c.from.ensures c.in_ok-push_named.ensures
    in let mux = word_more _ _ _ _ _ _ _ packet (ap decimal c.from-2.ensures) c.in_ok-push_number.ensures
    in let version = word_more _ _ _ _ _ _ _ mux
    (ap decimal c.from-3.ensures) c.in_ok-push_number-2.ensures
    in let bucket = word_more _ _ _ _ _ _ _ version
    (ap decimal c.from-4.ensures) c.in_ok-push_number-3.ensures
    in line_ends _ _ _ _ _ bucket (search rules)

use Rattle.std.proofs.Common.{◌++◌, ◌∙◌, ap, sym, arith, string_bytes}
use Rattle.std.proofs.lemmas.Fmt.{decimal_digit}
use Rattle.bm_trace.proofs.Digits.{two_more}
use Rattle.bm_trace.proofs.Parted.{ok_more}
use Rattle.bm_trace.proofs.append.push_first.Goals as goal

pub returns-then-number-lt10 : goal.returns-then-number-lt10
returns-then-number-lt10 c = ok_more c.push_digit.result _ _
    (λ e. e ∙ ap (λ x. string_bytes c.args.line.now ++ x) (sym (decimal_digit c.args.number (omega arith))))
    c.push_digit.ensures

pub returns : goal.returns
returns c = ok_more c.push_digit-3.result _ _
    (two_more _ _ _ c.args.number (omega arith) (omega arith) c.in_ok-push_digit.ensures)
    c.push_digit-3.ensures

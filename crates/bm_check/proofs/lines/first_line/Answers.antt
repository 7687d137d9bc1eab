use Rattle.std.proofs.Common.{◌≡◌, ◌+◌, ◌-◌, ◌∷◌, [], ◌++◌, ap, arith, length, sym, suc, subst, true, ◌∙◌}
use Rattle.std.proofs.Math.Seq.{drop-cons, take-length, take-suc}
use Rattle.std.proofs.lemmas.List.{length-drop, take-append-drop}
use Rattle.std.specs.Prelude.{drop, slice_index, take}
use Rattle.bm_trace.specs.Inside.Reading.{runs_on}
use Rattle.bm_check.proofs.Lining.{line_first, line_last}
use Rattle.bm_check.specs.Inside.Taking.{is_feed}
use Rattle.bm_check.specs.Lines.{lines}
use Rattle.bm_check.proofs.lines.first_line.Goals as goal

pub returns-then-place-text-clause-line : goal.returns-then-place-text-clause-line
returns-then-place-text-clause-line c =
    let text = c.args.text.now
    in let at = c.line_length-place.result
    in let below = c.if-place-text.true
    in let next : suc at ≡ at + 1 = omega arith
    in let feed : slice_index text at ≡ 10 = c.line_length-place.ensures.feed below
    in let left : length (drop (at + 1) text) ≡ length text - (at + 1) = length-drop (at + 1) text
    in let all : take (length text - (at + 1)) (drop (at + 1) text) ≡ drop (at + 1) text =
    ap (λ n. take n (drop (at + 1) text)) (sym left) ∙ take-length (drop (at + 1) text)
    in let parts : text ≡ take at text ++ 10 ∷ drop (at + 1) text =
    sym (take-append-drop at text)
    ∙ ap (λ x. take at text ++ x)
    (drop-cons text at 0 below ∙ ap (λ n. slice_index text at ∷ drop n text) next
    ∙ ap (λ x. x ∷ drop (at + 1) text) feed)
    in let front : take (at + 1) text ≡ take at text ++ 10 ∷ [] =
    ap (λ n. take n text) (sym next) ∙ take-suc text at 0 below ∙ ap (λ x. take at text ++ x ∷ []) feed
    in let back = sym front
    in let again = sym all
    in ap lines parts ∙ line_first (take at text) (drop (at + 1) text) c.line_length-place.ensures.line
    ∙ (λ i. back i ∷ lines (again i))

pub returns-else-place-text-clause-line : goal.returns-else-place-text-clause-line
returns-else-place-text-clause-line c =
    let text = c.args.text.now
    in let at = c.line_length-place.result
    in let within = c.line_length-place.ensures.within
    in let above = c.if-place-text.false
    in let end : at ≡ length text = omega (arith, within, above)
    in let one : runs_on is_feed text ≡ true =
    subst (λ t. runs_on is_feed t ≡ true) (ap (λ n. take n text) end ∙ take-length text) c.line_length-place.ensures.line
    in line_last text one c.requires

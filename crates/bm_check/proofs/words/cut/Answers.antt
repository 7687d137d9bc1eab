use Rattle.std.proofs.Common.{◌≡◌, ◌+◌, ◌-◌, ◌∷◌, ◌++◌, ap, arith, length, sym, suc, subst, true, ◌∙◌}
use Rattle.std.proofs.Math.Seq.{drop-cons, take-length}
use Rattle.std.proofs.lemmas.List.{length-drop, take-append-drop}
use Rattle.std.specs.Prelude.{drop, slice_index, take}
use Rattle.bm_trace.specs.Inside.Reading.{is_word}
use Rattle.bm_check.proofs.Texts.{cut_never, cut_there}
use Rattle.bm_check.proofs.words.cut.Goals as goal

pub returns-then-place-text : goal.returns-then-place-text
returns-then-place-text c w ws word whole =
    let text = c.args.text.now
    in let at = c.word_length-place.result
    in let below = c.if-place-text.true
    in let next : suc at ≡ at + 1 = omega arith
    in let left : length (drop (at + 1) text) ≡ length text - (at + 1) = length-drop (at + 1) text
    in let all : take (length text - (at + 1)) (drop (at + 1) text) ≡ drop (at + 1) text =
    ap (λ n. take n (drop (at + 1) text)) (sym left) ∙ take-length (drop (at + 1) text)
    in let parts : text ≡ take at text ++ slice_index text at ∷ drop (at + 1) text =
    sym (take-append-drop at text)
    ∙ ap (λ x. take at text ++ x) (drop-cons text at 0 below ∙ ap (λ n. slice_index text at ∷ drop n text) next)
    in let is =
    cut_there text (take at text) (drop (at + 1) text) w (slice_index text at) ws parts c.word_length-place.ensures.word
    (c.word_length-place.ensures.stops below) word whole
    in (is.0, all ∙ is.1)

pub returns-else-place-text : goal.returns-else-place-text
returns-else-place-text c w ws word whole =
    let text = c.args.text.now
    in let at = c.word_length-place.result
    in let within = c.word_length-place.ensures.within
    in let above = c.if-place-text.false
    in let end : at ≡ length text = omega (arith, within, above)
    in let one : is_word text ≡ true =
    subst (λ t. is_word t ≡ true) (ap (λ n. take n text) end ∙ take-length text) c.word_length-place.ensures.word
    in absurd (cut_never text w ws one whole)

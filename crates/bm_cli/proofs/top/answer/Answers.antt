use Rattle.std.proofs.Common.{ap, sym, subst, ◌∙◌, option_map}
use Rattle.bm_words.specs.Form.{asked}
use Rattle.bm_cli.specs.Dues.{due}
use Rattle.bm_cli.specs.Top.{AsksNone}
use Rattle.bm_cli.proofs.Ending.{memory_ends, usage_ends, words_end}
use Rattle.bm_cli.proofs.top.answer.Goals as goal

pub returns-in-Ok-Some-clause-ends : goal.returns-in-Ok-Some-clause-ends
returns-in-Ok-Some-clause-ends g c =
    words_end _ _ _ _ _ _
    (sym (ap (option_map asked) c.in-Ok-Some.field-0-is) ∙ c.in-Ok-Some.ensures.form) c.answer_form.ensures.ends

pub returns-in-Ok-None-clause-ends : goal.returns-in-Ok-None-clause-ends
returns-in-Ok-None-clause-ends g c =
    usage_ends _ _ _ _ _ _ (sym (ap (option_map asked) c.in-Ok-None.field-0-is) ∙ c.in-Ok-None.ensures.form)
    c.misuse.ensures

pub returns-in-Err-clause-ends : goal.returns-in-Err-clause-ends
returns-in-Err-clause-ends g c = memory_ends _ _ _ _ _ _

pub returns-in-Ok-Some-clause-unasked : goal.returns-in-Ok-Some-clause-unasked
returns-in-Ok-Some-clause-unasked g c = λ none.
    let same = sym (ap (option_map asked) c.in-Ok-Some.field-0-is) ∙ c.in-Ok-Some.ensures.form in
    c.answer_form.ensures.unasked (subst (λ f. AsksNone (due f)) (sym same) none)

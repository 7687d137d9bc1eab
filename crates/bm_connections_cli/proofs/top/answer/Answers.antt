use Rattle.std.proofs.Common.{ap, sym, subst, ◌∙◌, option_map}
use Rattle.bm_cli.specs.Top.{AsksNone}
use Rattle.bm_connections_cli.specs.Dues.{due}
use Rattle.bm_connections_words.specs.Words.{asked}
use Rattle.bm_connections_cli.proofs.Ending.{usage_ends, words_end}
use Rattle.bm_connections_cli.proofs.Outcomes.{misused_decides, words_decide}
use Rattle.bm_connections_cli.proofs.top.answer.Goals as goal

pub returns-in-Some-clause-ends : goal.returns-in-Some-clause-ends
returns-in-Some-clause-ends g c =
    words_end _ _ _ _ _ _ _ (sym (ap (option_map asked) c.in-Some.is) ∙ c.read_words.ensures) c.answer_form.ensures.ends

pub returns-in-None-clause-ends : goal.returns-in-None-clause-ends
returns-in-None-clause-ends g c =
    rw c.of.ensures.status
    (usage_ends _ _ _ _ _ _ _ _ (sym (ap (option_map asked) c.in-None.is) ∙ c.read_words.ensures) c.misuse.ensures)

pub returns-in-Some-clause-fails : goal.returns-in-Some-clause-fails
returns-in-Some-clause-fails g c =
    words_decide _ _ _ _ (sym (ap (option_map asked) c.in-Some.is) ∙ c.read_words.ensures) c.answer_form.ensures.fails

pub returns-in-None-clause-fails : goal.returns-in-None-clause-fails
returns-in-None-clause-fails g c =
    words_decide _ _ _ _ (sym (ap (option_map asked) c.in-None.is) ∙ c.read_words.ensures)
    (misused_decides _ c.of.result c.of.ensures.fails)

pub returns-in-Some-clause-unasked : goal.returns-in-Some-clause-unasked
returns-in-Some-clause-unasked g c = λ none.
    let same = sym (ap (option_map asked) c.in-Some.is) ∙ c.read_words.ensures in
    c.answer_form.ensures.unasked (subst (λ f. AsksNone (due f)) (sym same) none)

use Rattle.std.proofs.Common.{Some, ap, sym, subst, refl}
use Rattle.bm_cli.specs.Top.{AsksNone}
use Rattle.bm_connections_words.specs.declared.words.Form.{Form}
use Rattle.bm_words.specs.Form.{named}
use Rattle.bm_connections_words.specs.Options.{said}
use Rattle.bm_connections_words.specs.Words.{Help, Version, asked}
use Rattle.bm_connections_cli.specs.Dues.{due}
use Rattle.bm_connections_cli.specs.Help.{help_text, version_line}
use Rattle.bm_connections_cli.proofs.Ending.{text_ends, words_end}
use Rattle.bm_connections_cli.proofs.Forms.{lifetime_asks, report_asks}
use Rattle.bm_connections_cli.proofs.Outcomes.{help_decides, lifetime_decides, version_decides, words_decide}
use Rattle.bm_connections_cli.proofs.top.answer_form.Goals as goal

pub returns-in-Help-clause-ends : goal.returns-in-Help-clause-ends
returns-in-Help-clause-ends g c =
    rw c.of-in-Help.ensures.status
    (words_end _ _ _ _ _ _ _ (sym (ap (λ (f : Form). Some (asked f)) c.in-Help.is))
    (text_ends Help help_text _ _ _ _ _ _ _ (λ reads. refl) c.help.ensures))

pub returns-in-Version-clause-ends : goal.returns-in-Version-clause-ends
returns-in-Version-clause-ends g c =
    rw c.of-in-Version.ensures.status
    (words_end _ _ _ _ _ _ _ (sym (ap (λ (f : Form). Some (asked f)) c.in-Version.is))
    (text_ends Version version_line _ _ _ _ _ _ _ (λ reads. refl) c.version.ensures))

pub returns-in-Connections-clause-fails : goal.returns-in-Connections-clause-fails
returns-in-Connections-clause-fails g c =
    words_decide _ _ _ _ (sym (ap (λ (f : Form). Some (asked f)) c.in-Connections.is)) c.report.ensures.fails

pub returns-in-Lifetime-clause-fails : goal.returns-in-Lifetime-clause-fails
returns-in-Lifetime-clause-fails g c =
    words_decide _ _ _ _ (sym (ap (λ (f : Form). Some (asked f)) c.in-Lifetime.is))
    (lifetime_decides c.in-Lifetime.script.now c.in-Lifetime.seconds _ c.of.result c.of.ensures.fails)

pub returns-in-Help-clause-fails : goal.returns-in-Help-clause-fails
returns-in-Help-clause-fails g c =
    words_decide _ _ _ _ (sym (ap (λ (f : Form). Some (asked f)) c.in-Help.is))
    (help_decides _ c.of-in-Help.result c.of-in-Help.ensures.fails)

pub returns-in-Version-clause-fails : goal.returns-in-Version-clause-fails
returns-in-Version-clause-fails g c =
    words_decide _ _ _ _ (sym (ap (λ (f : Form). Some (asked f)) c.in-Version.is))
    (version_decides _ c.of-in-Version.result c.of-in-Version.ensures.fails)

pub returns-in-Connections-clause-unasked : goal.returns-in-Connections-clause-unasked
returns-in-Connections-clause-unasked g c = λ none.
    absurd (report_asks (named c.in-Connections.names) (said c.in-Connections.options)
    (subst (λ (f : Form). AsksNone (due (Some (asked f)))) c.in-Connections.is none))

pub returns-in-Lifetime-clause-unasked : goal.returns-in-Lifetime-clause-unasked
returns-in-Lifetime-clause-unasked g c = λ none.
    absurd (lifetime_asks c.in-Lifetime.script.now c.in-Lifetime.seconds
    (subst (λ (f : Form). AsksNone (due (Some (asked f)))) c.in-Lifetime.is none))

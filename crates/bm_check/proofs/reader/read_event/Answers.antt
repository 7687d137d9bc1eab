use Rattle.std.proofs.Common.{◌≡◌, List, ℕ, Some, true, ap, rules, sym, ◌∙◌}
use Rattle.std.specs.Prelude.{decimal}
use Rattle.std.proofs.lemmas.Option.{same_Some}
use Rattle.bm_core.specs.declared.events.Event.{Event}
use Rattle.bm_trace.specs.Report.{words_of}
use Rattle.bm_trace.specs.Words.{line}
use Rattle.bm_trace.specs.declared.lines.Aside.{Aside}
use Rattle.bm_check.proofs.Spelling.{shown_same}
use Rattle.bm_check.proofs.Texts.{line_is}
use Rattle.bm_check.specs.Inside.Reading.{shown}
use Rattle.bm_check.specs.Lines.{has_line}
use Rattle.bm_check.proofs.reader.read_event.Goals as goal

pub returns-in_default-clause-found : goal.returns-in_default-clause-found
returns-in_default-clause-found c e l =
    let guessed =
    c.guess.ensures e l.aside l.numbers l.version l.bucket
    (l.is ∙ line_is (decimal e.clock.0) (words_of e.what l.aside))
    in absurd (search rules)

pub returns-then-ne-clause-found : goal.returns-then-ne-clause-found
returns-then-ne-clause-found c e l =
    let guessed =
    c.guess.ensures e l.aside l.numbers l.version l.bucket
    (l.is ∙ line_is (decimal e.clock.0) (words_of e.what l.aside))
    in let pair : ◌≡◌ {A = Event × Aside} (c.in-Some.event, c.in-Some.aside) (e, shown e.what l.aside) =
    same_Some _ _ (sym c.in-Some.is ∙ guessed)
    in let written : c.as_bytes.result.now
    ≡ line (decimal c.in-Some.event.clock.0) (words_of c.in-Some.event.what c.in-Some.aside) = search rules
    in let same : c.as_bytes.result.now ≡ c.args.line.now =
    written ∙ (λ i. line (decimal (pair i).0.clock.0) (words_of (pair i).0.what (pair i).1))
    ∙ ap (λ (ws : List (List ℕ)). line (decimal e.clock.0) ws) (shown_same e.what l.aside) ∙ sym l.is
    in absurd (search rules)

pub returns-clause-found : goal.returns-clause-found
returns-clause-found c e l =
    let guessed =
    c.guess.ensures e l.aside l.numbers l.version l.bucket
    (l.is ∙ line_is (decimal e.clock.0) (words_of e.what l.aside))
    in let pair : ◌≡◌ {A = Event × Aside} (c.in-Some.event, c.in-Some.aside) (e, shown e.what l.aside) =
    same_Some _ _ (sym c.in-Some.is ∙ guessed)
    in ap (λ (p : Event × Aside). Some p.0) pair

pub returns-then-not-has_line-clause-found : goal.returns-then-not-has_line-clause-found
returns-then-not-has_line-clause-found c e l =
    let guessed =
    c.guess.ensures e l.aside l.numbers l.version l.bucket
    (l.is ∙ line_is (decimal e.clock.0) (words_of e.what l.aside))
    in let pair : ◌≡◌ {A = Event × Aside} (c.in-Some.event, c.in-Some.aside) (e, shown e.what l.aside) =
    same_Some _ _ (sym c.in-Some.is ∙ guessed)
    in let same : has_line c.in-Some.event.what ≡ true =
    ap (λ (p : Event × Aside). has_line p.0.what) pair ∙ l.has
    in absurd (search rules)

use Rattle.std.proofs.Common.{◌≡◌, ◌∙◌, ◌||◌, ap, ap₂}
use Rattle.clap.specs.Words.{App, app_of, with_rule, with_subcommand}
use Rattle.bm_words.specs.Inside.Command.{with_check}
use Rattle.bm_words.proofs.words.with_check.Goals as goal

pub returns : goal.returns
returns c =
    let check = c.in_ok-check.ensures in
    let check_is : app_of c.in_ok-check.check ≡ with_check =
    check.shape c.new-4.ensures.optional.1
    ∙ ap₂ with_rule (c.in_ok-arg-2.ensures.shape c.new-3.ensures.optional.1
    ∙ ap₂ with_rule (c.in_ok-arg.ensures.shape c.new-2.ensures.optional.1
    ∙ ap₂ with_rule c.new.ensures.app c.new-2.ensures.rule) c.new-3.ensures.rule) c.new-4.ensures.rule in
    c.in_ok-more.ensures.shape
    (check.globals ∙ ap₂ ◌||◌ (c.in_ok-arg-2.ensures.globals
    ∙ ap₂ ◌||◌ (c.in_ok-arg.ensures.globals
    ∙ ap₂ ◌||◌ c.new.ensures.local c.new-2.ensures.optional.1) c.new-3.ensures.optional.1) c.new-4.ensures.optional.1)
    ∙ ap (λ (a : App). with_subcommand (app_of c.args.command) a.top) check_is

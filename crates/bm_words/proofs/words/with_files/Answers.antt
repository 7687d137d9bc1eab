use Rattle.std.proofs.Common.{◌≡◌, ◌∙◌, ◌||◌, ap, ap₂}
use Rattle.clap.specs.Words.{App, app_of, with_rule, with_subcommand}
use Rattle.bm_words.specs.Inside.Command.{with_files}
use Rattle.bm_words.proofs.words.with_files.Goals as goal

pub returns : goal.returns
returns c =
    let files = c.in_ok-files.ensures in
    let files_is : app_of c.in_ok-files.files ≡ with_files c.args.name.now =
    files.shape c.new-3.ensures.optional.1
    ∙ ap₂ with_rule (c.in_ok-arg.ensures.shape c.new-2.ensures.optional.1
    ∙ ap₂ with_rule c.new.ensures.app c.new-2.ensures.rule) c.new-3.ensures.rule in
    c.in_ok-more.ensures.shape
    (files.globals ∙ ap₂ ◌||◌ (c.in_ok-arg.ensures.globals
    ∙ ap₂ ◌||◌ c.new.ensures.local c.new-2.ensures.optional.1) c.new-3.ensures.optional.1)
    ∙ ap (λ (a : App). with_subcommand (app_of c.args.command) a.top) files_is

use Rattle.std.proofs.Common.{◌≡◌, ◌∙◌, ◌||◌, ap, ap₂}
use Rattle.clap.specs.Words.{App, app_of, with_rule, with_subcommand}
use Rattle.bm_words.specs.Inside.Command.{with_connections}
use Rattle.bm_words.proofs.words.with_connections.Goals as goal

pub returns : goal.returns
returns c =
    let load = c.in_ok-load.ensures in
    let load_is : app_of c.in_ok-load.load ≡ with_connections =
    load.shape c.new-2.ensures.optional.1 ∙ ap₂ with_rule c.new.ensures.app c.new-2.ensures.rule in
    c.in_ok-more.ensures.shape (load.globals ∙ ap₂ ◌||◌ c.new.ensures.local c.new-2.ensures.optional.1)
    ∙ ap (λ (a : App). with_subcommand (app_of c.args.command) a.top) load_is

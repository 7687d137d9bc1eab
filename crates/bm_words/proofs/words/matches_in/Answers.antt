use Rattle.std.proofs.Common.{◌≡◌, ◌∙◌, ap, map, string_bytes}
use Rattle.clap.specs.Words.{is_simple, subcommand_of, takes}
use Rattle.clap.specs.declared.error.kind.ErrorKind.TheVariants.{OutOfMemory}
use Rattle.bm_words.proofs.Taken.{simple}
use Rattle.bm_words.proofs.words.matches_in.Goals as goal

pub unreachable-requires : goal.unreachable-requires
unreachable-requires c =
    let words = map string_bytes c.args.words.now in
    let taken = ap (λ a. takes a words) c.in_ok-command.ensures ∙ c.requires in
    let k : c.kind.result ≡ OutOfMemory = c.kind.ensures ∙ c.in-Err.ensures.passes taken in
    let no = rw k at c.if-eq.ensures in
    cc

pub returns-in-Ok : goal.returns-in-Ok
returns-in-Ok c =
    let words = map string_bytes c.args.words.now in
    (c.in-Ok.ensures.matches (ap is_simple c.in_ok-command.ensures ∙ simple)).1
    ∙ ap (λ a. subcommand_of a words) c.in_ok-command.ensures

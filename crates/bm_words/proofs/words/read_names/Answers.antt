use Rattle.std.proofs.Common.{◌∙◌, codes, map, option_map, string_bytes}
use Rattle.clap.specs.Words.{found_of, subcommand_rows_of}
use Rattle.clap.proofs.WalkLemmas.{first_value-rows}
use Rattle.bm_words.proofs.Taken.{reads, is_found, no_rows, has_capture, has_script, form_is}
use Rattle.bm_words.proofs.words.read_names.Goals as goal

pub matches_in-requires : goal.matches_in-requires
matches_in-requires c = (reads (map string_bytes c.args.words.now) c.requires).taken

pub unreachable-requires : goal.unreachable-requires
unreachable-requires c =
    let words = map string_bytes c.args.words.now in
    no_rows _ words (is_found (subcommand_rows_of c.in_ok-matches.matches) words c.requires c.in_ok-matches.ensures)
    c.in_default.ensures.rows

pub unreachable-requires-in_default-get_str : goal.unreachable-requires-in_default-get_str
unreachable-requires-in_default-get_str c =
    let words = map string_bytes c.args.words.now in
    let found = is_found (subcommand_rows_of c.in_ok-matches.matches) words c.requires c.in_ok-matches.ensures in
    let s = c.in_default-get_str.ensures ∙ first_value-rows (found_of c.in-Some.found.now) (codes "capture")
    ∙ has_capture _ _ words c.in-Some.ensures.rows found in
    cc

pub returns : goal.returns
returns c =
    let words = map string_bytes c.args.words.now in
    let found = is_found (subcommand_rows_of c.in_ok-matches.matches) words c.requires c.in_ok-matches.ensures in
    form_is words found.form c.in-Some-get_str.capture.now
    (option_map (λ s. s.now) c.get_str-2.result) found.words_are
    (c.in-Some-get_str.ensures ∙ first_value-rows (found_of c.in-Some.found.now) (codes "capture")
    ∙ has_capture _ _ words c.in-Some.ensures.rows found)
    (c.get_str-2.ensures ∙ first_value-rows (found_of c.in-Some.found.now) (codes "script")
    ∙ has_script _ _ words c.in-Some.ensures.rows found)

use Rattle.std.proofs.Common.{◌∙◌, codes, map, string_bytes}
use Rattle.clap.specs.Words.{found_of}
use Rattle.clap.proofs.WalkLemmas.{first_value-rows}
use Rattle.bm_words.proofs.Checks.{asks_for, check_reads}
use Rattle.bm_words.proofs.Given.{none_found, rows_give}
use Rattle.bm_words.proofs.words.read_check.Goals as goal

pub matches_in-requires : goal.matches_in-requires
matches_in-requires c = (check_reads (map string_bytes c.args.words.now) c.requires).taken

pub unreachable-requires : goal.unreachable-requires
unreachable-requires c =
    let reads = check_reads (map string_bytes c.args.words.now) c.requires in
    none_found (codes "trace") c.in_ok-matches.ensures reads.gives_trace c.in_default.ensures.rows

pub unreachable-requires-in_default-get_str : goal.unreachable-requires-in_default-get_str
unreachable-requires-in_default-get_str c =
    let reads = check_reads (map string_bytes c.args.words.now) c.requires in
    let trace = c.in_default-get_str.ensures ∙ first_value-rows (found_of c.in-Some.found.now) (codes "trace")
    ∙ rows_give (codes "trace") c.in_ok-matches.ensures reads.gives_trace c.in-Some.ensures.rows in
    cc

pub unreachable-requires-in_default-get_str-2 : goal.unreachable-requires-in_default-get_str-2
unreachable-requires-in_default-get_str-2 c =
    let reads = check_reads (map string_bytes c.args.words.now) c.requires in
    let capture = c.in_default-get_str-2.ensures ∙ first_value-rows (found_of c.in-Some.found.now) (codes "capture")
    ∙ rows_give (codes "capture") c.in_ok-matches.ensures reads.gives_capture c.in-Some.ensures.rows in
    cc

pub unreachable-requires-in_default-get_str-3 : goal.unreachable-requires-in_default-get_str-3
unreachable-requires-in_default-get_str-3 c =
    let reads = check_reads (map string_bytes c.args.words.now) c.requires in
    let script = c.in_default-get_str-3.ensures ∙ first_value-rows (found_of c.in-Some.found.now) (codes "script")
    ∙ rows_give (codes "script") c.in_ok-matches.ensures reads.gives_script c.in-Some.ensures.rows in
    cc

pub returns-clause-asked : goal.returns-clause-asked
returns-clause-asked c =
    let words = map string_bytes c.args.words.now in
    let reads = check_reads words c.requires in
    let trace = c.in-Some-get_str.ensures ∙ first_value-rows (found_of c.in-Some.found.now) (codes "trace")
    ∙ rows_give (codes "trace") c.in_ok-matches.ensures reads.gives_trace c.in-Some.ensures.rows in
    let capture = c.in-Some-get_str-2.ensures ∙ first_value-rows (found_of c.in-Some.found.now) (codes "capture")
    ∙ rows_give (codes "capture") c.in_ok-matches.ensures reads.gives_capture c.in-Some.ensures.rows in
    let script = c.in-Some-get_str-3.ensures ∙ first_value-rows (found_of c.in-Some.found.now) (codes "script")
    ∙ rows_give (codes "script") c.in_ok-matches.ensures reads.gives_script c.in-Some.ensures.rows in
    asks_for words reads c.in-Some-get_str.trace.now c.in-Some-get_str-2.capture.now c.in-Some-get_str-3.script.now
    trace capture script

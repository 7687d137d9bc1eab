use Rattle.std.proofs.Common.{◌∙◌, ap, sym, codes, map, string_bytes}
use Rattle.std.proofs.lemmas.Option.{same_Some}
use Rattle.clap.specs.Words.{found_of}
use Rattle.clap.proofs.WalkLemmas.{first_value-rows}
use Rattle.bm_words.specs.Form.{count_of}
use Rattle.bm_words.proofs.Given.{none_found, rows_give}
use Rattle.bm_words.proofs.Loads.{load_reads, no_count}
use Rattle.bm_words.proofs.words.read_connections.Goals as goal

pub matches_in-requires : goal.matches_in-requires
matches_in-requires c = (load_reads (map string_bytes c.args.words.now) c.requires).taken

pub unreachable-requires : goal.unreachable-requires
unreachable-requires c =
    let reads = load_reads (map string_bytes c.args.words.now) c.requires in
    none_found (codes "connections") c.in_ok-matches.ensures reads.gives c.in_default.ensures.rows

pub unreachable-requires-in_default-get_str : goal.unreachable-requires-in_default-get_str
unreachable-requires-in_default-get_str c =
    let reads = load_reads (map string_bytes c.args.words.now) c.requires in
    let number = c.in_default-get_str.ensures ∙ first_value-rows (found_of c.in-Some.found.now) (codes "connections")
    ∙ rows_give (codes "connections") c.in_ok-matches.ensures reads.gives c.in-Some.ensures.rows in
    cc

pub unreachable-requires-in_default-count_in : goal.unreachable-requires-in_default-count_in
unreachable-requires-in_default-count_in c =
    let words = map string_bytes c.args.words.now in
    let reads = load_reads words c.requires in
    let number = c.in-Some-get_str.ensures ∙ first_value-rows (found_of c.in-Some.found.now) (codes "connections")
    ∙ rows_give (codes "connections") c.in_ok-matches.ensures reads.gives c.in-Some.ensures.rows in
    no_count words c.in-Some-get_str.number.now c.requires
    (reads.count ∙ ap count_of (sym (same_Some _ _ number))) c.in_default-count_in.ensures.count

pub returns-clause-connections : goal.returns-clause-connections
returns-clause-connections c =
    let reads = load_reads (map string_bytes c.args.words.now) c.requires in
    let number = c.in-Some-get_str.ensures ∙ first_value-rows (found_of c.in-Some.found.now) (codes "connections")
    ∙ rows_give (codes "connections") c.in_ok-matches.ensures reads.gives c.in-Some.ensures.rows in
    c.in-Some-count_in.ensures.count ∙ ap count_of (same_Some _ _ number) ∙ sym reads.count

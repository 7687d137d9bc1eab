use Rattle.std.proofs.Common.{◌≡◌, length, rules}
use Rattle.std.proofs.lemmas.Option.{same_Some}
use Rattle.bm_check.proofs.Differing.{as_expected, no_item}
use Rattle.bm_check.proofs.compare.ExpectingSink.expected_length.Goals as goal

pub returns-then-is_empty-clause-same : goal.returns-then-is_empty-clause-same
returns-then-is_empty-clause-same c written is =
    let other = c.args.self.now.other.items
    in let count : length other ≡ 0 = search rules
    in let none = no_item other count
    in as_expected c.args.self.now.expected.now other c.args.piece.now written c.args.self.now.common
    c.common_length.result none (same_Some _ _ is) c.common_length.ensures.same

use Rattle.std.proofs.Common.{◌≡◌, ◌-◌, true, ap, rules, sym, ◌∙◌}
use Rattle.std.specs.BTreeMap as tree
use Rattle.std.specs.Ordering.{nat_cmp}
use Rattle.bm_table.specs.Tables.{is_drained}
use Rattle.bm_running.specs.Inside.Leaves.{first_since, is_kept, listed}
use Rattle.bm_running.proofs.Leaving.{is_done, too_early}
use Rattle.bm_running.proofs.leaves.Leaves.retirement.Goals as goal

pub returns-in-Some : goal.returns-in-Some
returns-in-Some c plan changes keeps =
    let kept : is_kept c.args.self.now c.args.server ≡ true = search rules
    in let drained : is_drained plan changes c.args.server ≡ true =
    sym (keeps.drained_of_each c.args.server) ∙ kept
    in let since : c.saturating_sub.result ≡ c.args.at.0 - c.args.timeout = search rules
    in let leaves = listed (tree.get nat_cmp c.args.self.now.left c.args.server.0)
    in too_early plan c.args.timeout changes c.args.server c.args.at.0 leaves c.in-Some.bucket drained
    (keeps.left_of_each c.args.server.0)
    (sym c.in-Some.is ∙ c.first_left.ensures (keeps.left_of_each c.args.server.0).rises ∙ ap (λ t. first_since leaves t) since)

pub returns-in-None : goal.returns-in-None
returns-in-None c plan changes keeps =
    let kept : is_kept c.args.self.now c.args.server ≡ true = search rules
    in let drained : is_drained plan changes c.args.server ≡ true =
    sym (keeps.drained_of_each c.args.server) ∙ kept
    in let since : c.saturating_sub.result ≡ c.args.at.0 - c.args.timeout = search rules
    in let leaves = listed (tree.get nat_cmp c.args.self.now.left c.args.server.0)
    in is_done plan c.args.timeout changes c.args.server c.args.at.0 leaves drained
    (keeps.left_of_each c.args.server.0)
    (sym c.in-None.is ∙ c.first_left.ensures (keeps.left_of_each c.args.server.0).rises ∙ ap (λ t. first_since leaves t) since)

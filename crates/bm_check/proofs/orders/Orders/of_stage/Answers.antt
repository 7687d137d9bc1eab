use Rattle.std.proofs.Common.{ap, arith, length, subst, sym, ◌∙◌}
use Rattle.std.specs.Prelude.{reverse, take}
use Rattle.bm_core.specs.Accounts.{count_of}
use Rattle.bm_state.proofs.Newest.{reverse_take}
use Rattle.bm_check.proofs.Ordering.{begun_few, count_reverse, opens_same, take_all}
use Rattle.bm_check.specs.Inside.Orders.{Opens, asked, asks}
use Rattle.bm_check.proofs.orders.Orders.of_stage.Goals as goal

pub loop-command-preserved : goal.loop-command-preserved
loop-command-preserved c =
    let shards = c.args.stage.now.script.setting.shards
    in let commands = c.items-commands.result.now
    in let i = c.loop-command.command-index
    in let few = c.requires
    in let same = c.items-commands.ensures
    in subst (λ past. Opens (λ q. count_of (λ x. asks shards x q) past) c.ask_command.new.self)
    (sym (reverse_take commands i _ c.loop-command-test.true))
    (c.in_ok-ask_command.ensures (λ q. count_of (λ x. asks shards x q) (reverse (take i commands)))
    (λ q. let begun = begun_few (λ x. asks shards x q) commands i in let all = ap length same in omega (arith, begun, few, all))
    c.loop-command.invariant)

pub returns : goal.returns
returns c =
    let shards = c.args.stage.now.script.setting.shards
    in let commands = c.items-commands.result.now
    in let i = c.loop-command.command-index
    in opens_same _ (asked c.args.stage.now) c.loop-command.orders
    (λ q.
    ap (λ xs. count_of (λ x. asks shards x q) (reverse xs)) (take_all commands i c.loop-command-test.false)
    ∙ count_reverse (λ x. asks shards x q) commands
    ∙ ap (λ xs. count_of (λ x. asks shards x q) xs) c.items-commands.ensures)
    c.loop-command.invariant

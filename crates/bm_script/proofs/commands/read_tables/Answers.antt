use Rattle.bm_controller.specs.Controlled.{Controlled}
use Rattle.bm_policy.specs.declared.policy.Policy.{Policy}
use Rattle.bm_script.proofs.Fronts.{commands-bad, commands-end, commands-fault, commands-more, RiseFrom-lower}
use Rattle.bm_script.proofs.Racked.{asks_still, each_member, numbers, opened_by, policy_of}
use Rattle.bm_script.specs.Inside.Readings.{progress}
use Rattle.bm_script.specs.Inside.Rules.{IsRackRule}
use Rattle.bm_script.specs.Scripts.{opened}
use Rattle.std.proofs.Common.{◌≡◌, ◌∙◌, ap, arith, length, refl, subst, sym}
use Rattle.std.proofs.lemmas.Result.{err_from_is_err_and}
use Rattle.toml.specs.View.{table_view}
use Rattle.bm_script.proofs.commands.read_tables.Goals as goal

pub new-requires-clause-rising : goal.new-requires-clause-rising
new-requires-clause-rising g c = rw c.items.ensures (RiseFrom-lower c.args.opening.now.setting.servers c.requires.setting.setting.rising)

pub new-requires-clause-numbers : goal.new-requires-clause-numbers
new-requires-clause-numbers g c =
    rw c.items.ensures (numbers 1 c.args.opening.now.setting.servers (omega arith) c.requires.setting.setting.rising
    c.requires.setting.setting.numbers)

pub new-requires-clause-rule : goal.new-requires-clause-rule
new-requires-clause-rule g c = policy_of g.P.Fn c.args.policy.rule c.args.policy.racks c.requires.rule

pub new-requires-clause-each : goal.new-requires-clause-each
new-requires-clause-each g c = λ p.
    each_member g.P.Fn c.args.policy.rule c.args.policy.racks c.requires.rule p c.items.result.now c.items-2.result.now
    (new-requires-clause-numbers g c) (rw (c.items.ensures, c.items-2.ensures) c.requires.setting.count)
    (rw (c.items.ensures, c.requires.racks) c.requires.setting.filled)

pub loop-value-init : goal.loop-value-init
unfolding policy_of
loop-value-init g c =
    let opened_is : c.in_ok-new.field-0.engine ≡ (opened c.args.version c.args.opening.now).controller =
    opened_by c.args.version c.args.opening.now c.items.result.now c.items-2.result.now c.args.policy.racks
    c.in_ok-new.field-0.engine c.items.ensures c.items-2.ensures c.requires.racks
    (c.in_ok-new.ensures.opening
    (policy_of g.P.Fn c.args.policy.rule c.args.policy.racks c.requires.rule)) in
    record {
      so_far = rw (opened_is, c.new-2.ensures.items) refl;
      counted = record {
        versions = ap (λ (x : Controlled). length x.plan.changes) (sym opened_is);
        within = omega arith;
      };
      asks = record {
        rule = subst (λ (p : Policy g.row.P.Denot). IsRackRule g.P.Fn p.rule p.racks) (sym c.in_ok-new.ensures.policy)
            c.requires.rule;
        racks = ap (λ (p : Policy g.row.P.Denot). p.racks) c.in_ok-new.ensures.policy ∙ c.requires.racks
            ∙ ap (λ (x : Controlled). x.racks) (sym opened_is);
      };
      count = ap length c.new-2.ensures.items;
    }

pub loop-value-preserved : goal.loop-value-preserved
loop-value-preserved g c = record {
  so_far = commands-more (progress c.loop-value.reading) (progress c.read.new.self) c.args.tables.now
      c.loop-value.value-index c.value-item.result _ (table_view c.in-Some.table.now)
      c.loop-value-test.true (rw (← c.value-item.is) c.in-Some.ensures) c.in_ok-read.ensures.gives
      c.loop-value.invariant.so_far;
  counted = c.in_ok-read.ensures.counted;
  asks = asks_still g.P.Fn _ _ c.in_ok-read.ensures.policy c.in_ok-read.ensures.racks c.loop-value.invariant.asks;
  count = omega (arith, c.in_ok-read.ensures.one, c.loop-value.invariant.count);
}

pub returns-clause-ok : goal.returns-clause-ok
returns-clause-ok g c =
    commands-end (progress c.loop-value.reading) c.args.tables.now c.loop-value.value-index _ c.loop-value-test.false
    c.loop-value.invariant.so_far

pub returns-in_default-clause-err : goal.returns-in_default-clause-err
returns-in_default-clause-err g c = λ _.
    commands-bad (progress c.loop-value.reading) c.args.tables.now c.loop-value.value-index c.value-item.result _
    c.loop-value-test.true (rw (← c.value-item.is) c.in_default.ensures) c.loop-value.invariant.so_far

pub returns-in_err-read-clause-err : goal.returns-in_err-read-clause-err
returns-in_err-read-clause-err g c =
    let p = err_from_is_err_and c.from_residual-in_err-read.result c.from_residual-in_err-read.ensures.1 in
    rw (p.1, p.2)
    (λ other. commands-fault (progress c.loop-value.reading) c.args.tables.now c.loop-value.value-index
    c.value-item.result _ (table_view c.in-Some.table.now) c.in_err-read.field-0.0 c.loop-value-test.true
    (rw (← c.value-item.is) c.in-Some.ensures) (c.in_err-read.ensures other) c.loop-value.invariant.so_far)

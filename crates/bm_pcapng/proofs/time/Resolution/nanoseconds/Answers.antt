use Rattle.std.proofs.Common.{arith, ap, ◌∙◌, ◌<◌, ◌/◌, ◌*◌, ◌^◌, ℕ}
use Rattle.bm_pcapng.specs.Times.{nanoseconds, per_second}
use Rattle.bm_pcapng.proofs.Times.{some_units, beyond}
use Rattle.bm_pcapng.proofs.time.Resolution.nanoseconds.Goals as goal

pub nonzero_div-result : goal.nonzero_div-result
nonzero_div-result c =
    let some : 0 < per_second c.args.self = some_units c.args.self in omega (arith, some, c.in-Some.ensures)

pub returns-in-Some-clause-value : goal.returns-in-Some-clause-value
unfolding nanoseconds
returns-in-Some-clause-value c =
    ap (λ (n : ℕ). n * 10 ^ 9 / c.in-Some.count) c.from-billions.ensures
    ∙ ap (λ (n : ℕ). c.args.units * 10 ^ 9 / n) c.in-Some.ensures

pub returns-in-None-clause-value : goal.returns-in-None-clause-value
returns-in-None-clause-value c =
    let few : c.args.units < 2 ^ 64 = omega arith in beyond c.args.self c.args.units few c.in-None.ensures

use Rattle.std.proofs.Common.{arith, rules}
use Rattle.bm_lifetime.proofs.script.slack.Goals as goal
use Rattle.bm_lifetime.proofs.Slack.{delay_within, greatest_within}

pub overflow_mul-result : goal.overflow_mul-result
overflow_mul-result c =
    let is = rw c.items.ensures at c.longest_delay-delay.ensures
    in let delay = delay_within _ c.requires.faults
    in omega arith

pub overflow_add-result : goal.overflow_add-result
overflow_add-result c =
    let is = rw c.items.ensures at c.longest_delay-delay.ensures
    in let delay = delay_within _ c.requires.faults
    in omega arith

pub overflow_add-result-2 : goal.overflow_add-result-2
overflow_add-result-2 c =
    let is = rw c.items.ensures at c.longest_delay-delay.ensures
    in let delay = delay_within _ c.requires.faults
    in let same = rw c.items-2.ensures at c.greatest.ensures
    in let lag = greatest_within 86400000000000 _ c.requires.lags
    in omega arith

pub returns : goal.returns
returns c = search rules

use Rattle.std.proofs.Common.{◌≡◌, ℕ, true, false, Some, None, length, ap, sym, ◌∙◌, arith, rules}
use Rattle.bm_table.proofs.Gets.{given_back}
use Rattle.bm_lifetime.specs.declared.explained.Lifetime.{Lifetime}
use Rattle.bm_lifetime.specs.Inside.Seen.{IsSeen, explain_seen}
use Rattle.bm_lifetime.specs.Lifetime as spec
use Rattle.bm_lifetime.proofs.script.lifetime.Goals as goal
use Rattle.bm_lifetime.proofs.Telling.{told, unsteady}

pub returns : goal.returns
returns c =
    let script = c.args.script.now
    in let whole =
    given_back c.in_ok-seen.seen.items c.note_plan.new.seen c.in_ok-seen.seen.len (omega arith) (omega arith)
    in let same : c.as_slice.result.now ≡ c.note_plan.new.seen = c.as_slice.ensures.value ∙ whole
    in let steady : spec.is_steady script ≡ true = sym c.is_steady.ensures ∙ c.if-not-is_steady.false
    in let count : length c.as_mut_slice.result.now ≡ script.setting.buckets = omega (arith, c.in_ok-seen.ensures.len)
    in let lag : c.greatest-lag.result ≡ spec.longest_lag script.setting =
    c.greatest-lag.ensures ∙ ap spec.greatest c.items.ensures
    in let most : c.saturating_sub-most.result ≡ spec.timeout_bound script = search rules
    in let noted : IsSeen (spec.longest_lag script.setting) script.setting.buckets 1 script.plan.changes c.note_plan.new.seen =
    rw (lag, count) at c.note_plan.ensures
    in c.explain.ensures
    ∙ ((λ i. explain_seen (same i) (most i) (c.slack-slack.ensures i)) ∙ told script c.note_plan.new.seen steady noted)

pub returns-then-not-is_steady : goal.returns-then-not-is_steady
returns-then-not-is_steady c =
    ap (λ (l : Lifetime). Some l) c.no_time.ensures
    ∙ (ap (λ (n : ℕ). Some (record { time = 0; by_timeout = false; by_moves = None; next = None; slack = n }))
    c.slack-slack.ensures
    ∙ sym (unsteady c.args.script.now (sym c.is_steady.ensures ∙ c.if-not-is_steady.true) c.requires.setting.buckets.0))

use Rattle.std.proofs.Common.{subst, sym}
use Rattle.std.proofs.lemmas.Bool.{MatchBool-at_false, MatchBool-at_true}
use Rattle.bm_state.proofs.Newest.{reverse_take}
use Rattle.bm_running.specs.Inside.Known.{Knows}
use Rattle.bm_running.proofs.Prefixes.{few_before, first_bad}
use Rattle.bm_running.proofs.running.follow.Goals as goal

pub returns-then-not-branch : goal.returns-then-not-branch
returns-then-not-branch c =
    let few = few_before c.args.events.now c.loop-place.place c.loop-place-test.true c.requires.few
    in first_bad c.args.stage.now c.args.events.now c.loop-place.place _ c.loop-place-test.true
    c.loop-place.invariant.run
    (MatchBool-at_false _ _ c.if-not-branch.true (c.in_ok-step.ensures _ few c.loop-place.invariant))

pub loop-place-preserved : goal.loop-place-preserved
loop-place-preserved c =
    let few = few_before c.args.events.now c.loop-place.place c.loop-place-test.true c.requires.few
    in subst (λ past. Knows c.args.stage.now past c.step.new.self)
    (sym (reverse_take c.args.events.now c.loop-place.place _ c.loop-place-test.true))
    (MatchBool-at_true _ _ c.if-not-branch.false (c.in_ok-step.ensures _ few c.loop-place.invariant))

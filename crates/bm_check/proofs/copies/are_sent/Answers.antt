use Rattle.std.proofs.Common.{◌≡◌, ◌∷◌, List, false, true, arith, get_or, refl, subst, sym, ◌∙◌}
use Rattle.std.specs.Prelude.{reverse, take}
use Rattle.bm_base.specs.declared.fate.Fate.{Fate}
use Rattle.bm_core.specs.Accounts.{AreSent}
use Rattle.bm_fault.specs.Faults.{Gives}
use Rattle.bm_state.proofs.Newest.{reverse_take}
use Rattle.bm_state.specs.Tallies.{KeepsTallies}
use Rattle.bm_check.proofs.Copying.{arrival_more, few_past, not_sent, sent_bound}
use Rattle.bm_check.proofs.Ordering.{no_event}
use Rattle.bm_check.specs.Inside.Copies.{AreFated}
use Rattle.bm_check.proofs.copies.are_sent.Goals as goal

pub returns-then-not-is_sent_before : goal.returns-then-not-is_sent_before
returns-then-not-is_sent_before g c =
    let F = Gives g.F.Fn c.args.faults.now.rule
    in let events = c.args.events.now
    in let i = c.loop-event.event-index
    in let past = reverse (take i events)
    in let kept = c.loop-event.invariant
    in let decides = c.is_sent_before.ensures past kept.1.0 (few_past events i c.requires.few) kept.0 c.requires.sure kept.1.1
    in not_sent F c.requires.sure events i (get_or events i no_event) past kept.1.0
    (reverse_take events i no_event c.loop-event-test.true) kept.1.1
    (λ was. let no : false ≡ true = sym c.if-not-is_sent_before.true ∙ decides.1 was in absurd (cc))

pub loop-event-preserved : goal.loop-event-preserved
loop-event-preserved g c =
    let F = Gives g.F.Fn c.args.faults.now.rule
    in let events = c.args.events.now
    in let i = c.loop-event.event-index
    in let past = reverse (take i events)
    in let kept = c.loop-event.invariant
    in let few = few_past events i c.requires.few
    in let decides = c.is_sent_before.ensures past kept.1.0 few kept.0 c.requires.sure kept.1.1
    in let was = decides.0 c.if-not-is_sent_before.false
    in subst (λ now. KeepsTallies now c.observe.new.self × ((fates : List Fate) × AreFated F fates now × AreSent fates now))
    (sym (reverse_take events i no_event c.loop-event-test.true)) (
      c.in_ok-observe.ensures past (get_or events i no_event) refl (omega (arith, few)) kept.0,
      (
        c.ask-fate.result ∷ kept.1.0,
        (c.ask-fate.ensures, kept.1.1),
        (
          arrival_more (get_or events i no_event).what kept.1.0 past was (sent_bound kept.1.0 past kept.1.2),
          kept.1.2,
        ),
      ),
    )

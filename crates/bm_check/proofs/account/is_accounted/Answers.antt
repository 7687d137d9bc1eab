use Rattle.std.proofs.Common.{◌≡◌, ◌<◌, ◌^◌, ◌∙◌, List, false, length, arith, sym}
use Rattle.std.specs.Prelude.{reverse}
use Rattle.std.proofs.lemmas.Bool.{MatchBool-at_false, MatchBool-at_true}
use Rattle.std.proofs.lemmas.List.{length-reverse}
use Rattle.bm_base.specs.declared.fate.Fate.{Fate}
use Rattle.bm_core.specs.Accounts.{AreSent, IsRouted}
use Rattle.bm_core.specs.declared.events.Event.{Event}
use Rattle.bm_fault.specs.Faults.{Gives}
use Rattle.bm_route.specs.Routes.{Answers}
use Rattle.bm_check.proofs.Accounting.{accounted, all_of_past, each_past, fated_of, not_steered, routed_of, settled_all}
use Rattle.bm_check.proofs.Copying.{copyless_same, sent_same}
use Rattle.bm_check.specs.Inside.Copies.{AreFated, IsSettled}
use Rattle.bm_check.proofs.account.is_accounted.Goals as goal

pub returns-then-not-branch : goal.returns-then-not-branch
returns-then-not-branch g c =
    let R = Answers g.R.Fn c.args.route.now.rule
    in let F = Gives g.F.Fn c.args.faults.now.rule
    in let stage = c.args.stage.now
    in let all = reverse c.args.events.now
    in let none : (fates : List Fate) → AreFated F fates all → AreSent fates all → ⊥ =
    MatchBool-at_false _ _ c.if-not-branch.true c.in_ok-are_sent.ensures
    in (
      λ t. absurd (cc),
      λ account. absurd (none account.0 (fated_of R F stage account.0 all account.1.answered) account.1.sent),
    )

pub returns-then-not-are_steered : goal.returns-then-not-are_steered
returns-then-not-are_steered g c =
    let F = Gives g.F.Fn c.args.faults.now.rule
    in let all = reverse c.args.events.now
    in let decides = c.are_steered.ensures all c.requires.tallies
    in (
      λ t. absurd (cc),
      λ account.
          let no : false ≡ _ =
          sym c.if-not-are_steered.true
          ∙ decides.1 (not_steered c.args.stage.now all c.requires.run account.1.steered)
          in absurd (cc),
    )

pub returns-then-not-are_routed : goal.returns-then-not-are_routed
returns-then-not-are_routed g c =
    let R = Answers g.R.Fn c.args.route.now.rule
    in let F = Gives g.F.Fn c.args.faults.now.rule
    in let stage = c.args.stage.now
    in let events = c.args.events.now
    in (
      λ t. absurd (cc),
      λ account.
          let no : false ≡ _ =
          sym c.if-not-are_routed.true
          ∙ c.are_routed.ensures.1 (all_of_past (λ (e : Event). IsRouted R stage e.what) events
          (routed_of R F stage account.0 (reverse events) account.1.answered))
          in absurd (cc),
    )

pub returns-then-not-are_settled : goal.returns-then-not-are_settled
returns-then-not-are_settled g c =
    let R = Answers g.R.Fn c.args.route.now.rule
    in let F = Gives g.F.Fn c.args.faults.now.rule
    in let stage = c.args.stage.now
    in let all = reverse c.args.events.now
    in let kept : (fates : List Fate) × AreFated F fates all × AreSent fates all =
    MatchBool-at_true _ _ c.if-not-branch.false c.in_ok-are_sent.ensures
    in let same = length-reverse c.args.events.now
    in let most = c.requires.few
    in let few : length all < 2 ^ 62 = omega (arith, same, most)
    in let decides = c.are_settled.ensures all kept.0 few c.requires.tallies c.requires.losses c.requires.fate kept.1
    in (
      λ t. absurd (cc),
      λ account.
          let fated = fated_of R F stage account.0 all account.1.answered
          in let settled = settled_all kept.0 all
          (λ k hop. account.1.arrived k hop ∙ sent_same F c.requires.fate account.0 kept.0 all fated kept.1 k hop)
          (λ k hop clock.
          account.1.lost k hop clock
          ∙ copyless_same F c.requires.fate account.0 kept.0 all fated kept.1 k hop clock)
          in let no : false ≡ _ =
          sym c.if-not-are_settled.true ∙ decides.1 (λ k d below. settled _)
          in absurd (cc),
    )

pub returns : goal.returns
returns g c =
    let R = Answers g.R.Fn c.args.route.now.rule
    in let F = Gives g.F.Fn c.args.faults.now.rule
    in let stage = c.args.stage.now
    in let events = c.args.events.now
    in let all = reverse events
    in let kept : (fates : List Fate) × AreFated F fates all × AreSent fates all =
    MatchBool-at_true _ _ c.if-not-branch.false c.in_ok-are_sent.ensures
    in let same = length-reverse events
    in let most = c.requires.few
    in let few : length all < 2 ^ 62 = omega (arith, same, most)
    in let steered = (c.are_steered.ensures all c.requires.tallies).0 c.if-not-are_steered.false
    in let routed = c.are_routed.ensures.0 c.if-not-are_routed.false
    in let settled =
    (c.are_settled.ensures all kept.0 few c.requires.tallies c.requires.losses c.requires.fate kept.1).0 c.if-not-are_settled.false
    in (
      λ t. (
        kept.0,
        accounted R F stage kept.0 all c.requires.run steered
            (each_past (λ (e : Event). IsRouted R stage e.what) events routed) kept.1 kept.2
            (each_past (λ (e : Event). IsSettled kept.0 all e) events settled) (c.in_ok-carried.ensures.0 t),
      ),
      λ account. c.in_ok-carried.ensures.1 account.1.commands,
    )

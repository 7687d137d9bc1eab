use Rattle.std.proofs.Common.{◌≡◌, List, length, arith, ap, refl, rules, subst, sym, ◌∙◌, false}
use Rattle.std.specs.Prelude.{reverse}
use Rattle.bm_base.specs.declared.fate.Fate.{Fate}
use Rattle.bm_core.specs.Accounts.{IsAccountOf}
use Rattle.bm_core.specs.Runs.{Run}
use Rattle.bm_fault.specs.Faults.{Gives}
use Rattle.bm_route.specs.Routes.{Answers}
use Rattle.bm_check.proofs.Answering.{events_few, stop_few}
use Rattle.bm_running.specs.FirstStop.{IsFollowed}
use Rattle.bm_check.specs.Answers.{IsBadTo, IsLeast, IsNoRunTo}
use Rattle.bm_check.specs.Inside.Taking.{IsReading}
use Rattle.bm_check.specs.Lines.{lines}
use Rattle.bm_check.specs.declared.lines.Reading.TheVariants.{Bad, Events}
use Rattle.bm_check.proofs.checking.read_run.Goals as goal

pub returns-in-Bad : goal.returns-in-Bad
returns-in-Bad g c =
    let found : IsReading c.args.trace.now (Bad c.in-Bad.number) =
    subst (λ x. IsReading c.args.trace.now x) c.in-Bad.is c.in_ok-events.ensures
    in subst (λ n. IsLeast (IsBadTo (lines c.args.trace.now)) n) (sym c.short.ensures) found.0

pub short-requires-in-Stops : goal.short-requires-in-Stops
short-requires-in-Stops g c =
    let trace = c.args.trace.now
    in let read : IsReading trace (Events c.in-Events.events) =
    subst (λ x. IsReading trace x) c.in-Events.is c.in_ok-events.ensures
    in let same : c.items.result.now ≡ c.in-Events.events = search rules
    in let least : IsLeast (IsNoRunTo c.args.stage.now c.items.result.now) c.in-Stops.number =
    subst (λ x. IsFollowed c.args.stage.now c.items.result.now x) c.in-Stops.is c.in_ok-tallies.ensures
    in let stop = stop_few c.args.stage.now c.items.result.now c.in-Stops.number least
    in let count = ap length same
    in let few = events_few c.in-Events.events trace read
    in let short = c.requires.short
    in omega (arith, stop, count, few, short)

pub returns-in-Stops : goal.returns-in-Stops
returns-in-Stops g c =
    let trace = c.args.trace.now
    in let stage = c.args.stage.now
    in let read : IsReading trace (Events c.in-Events.events) =
    subst (λ x. IsReading trace x) c.in-Events.is c.in_ok-events.ensures
    in let same : c.items.result.now ≡ c.in-Events.events = search rules
    in let least : IsLeast (IsNoRunTo stage c.items.result.now) c.in-Stops.number =
    subst (λ x. IsFollowed stage c.items.result.now x) c.in-Stops.is c.in_ok-tallies.ensures
    in (
      record { stage = stage; events = c.in-Events.events },
      refl,
      read,
      subst (λ n. IsLeast (IsNoRunTo stage c.in-Events.events) n) (sym c.short-in-Stops.ensures)
          (subst (λ events. IsLeast (IsNoRunTo stage events) c.in-Stops.number) same least),
    )

pub returns-then-not-branch : goal.returns-then-not-branch
returns-then-not-branch g c =
    let R = Answers g.R.Fn c.args.route.now.rule
    in let F = Gives g.F.Fn c.args.faults.now.rule
    in let trace = c.args.trace.now
    in let stage = c.args.stage.now
    in let read : IsReading trace (Events c.in-Events.events) =
    subst (λ x. IsReading trace x) c.in-Events.is c.in_ok-events.ensures
    in let same : c.items.result.now ≡ c.in-Events.events = search rules
    in let again : c.in-Events.events ≡ c.items-2.result.now = search rules
    in let run : Run stage (reverse c.items.result.now) = (subst (λ x. IsFollowed stage c.items.result.now x) c.in-Runs.is c.in_ok-tallies.ensures).0
    in (
      record { stage = stage; events = c.in-Events.events },
      refl,
      read,
      record {
        sound = c.requires.sound;
        run = subst (λ events. Run stage (reverse events)) same run;
      },
      λ account.
          let no : false ≡ _ =
          sym c.if-not-branch.true
          ∙ c.in_ok-is_accounted.ensures.1
          (subst (λ events. (fates : List Fate) × IsAccountOf R F stage fates (reverse events)) again account)
          in absurd (cc),
    )

pub returns : goal.returns
returns g c =
    let R = Answers g.R.Fn c.args.route.now.rule
    in let F = Gives g.F.Fn c.args.faults.now.rule
    in let trace = c.args.trace.now
    in let stage = c.args.stage.now
    in let read : IsReading trace (Events c.in-Events.events) =
    subst (λ x. IsReading trace x) c.in-Events.is c.in_ok-events.ensures
    in let same : c.items.result.now ≡ c.in-Events.events = search rules
    in let again : c.items-2.result.now ≡ c.in-Events.events = search rules
    in let run : Run stage (reverse c.items.result.now) = (subst (λ x. IsFollowed stage c.items.result.now x) c.in-Runs.is c.in_ok-tallies.ensures).0
    in (
      read,
      subst (λ events. Run stage (reverse events)) same run,
      subst (λ events. (fates : List Fate) × IsAccountOf R F stage fates (reverse events)) again
          (c.in_ok-is_accounted.ensures.0 c.if-not-branch.false),
    )

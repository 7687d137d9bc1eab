use Rattle.std.proofs.Common.{◌≡◌, refl, sym, arith}
use Rattle.bm_fault.specs.Faults.{Gives}
use Rattle.bm_route.specs.Routes.{Answers}
use Rattle.bm_replay.specs.declared.coming.Coming.TheVariants.{Arrive, Call, Over}
use Rattle.bm_replay.specs.Inside.Players.{coming_for}
use Rattle.bm_replay.proofs.Arrivals.{arrived, can_arrive}
use Rattle.bm_replay.proofs.BeginAndEnd.{ends, few_events}
use Rattle.bm_replay.proofs.ReadyEvents.{ready_copy}
use Rattle.bm_replay.proofs.Sendings.{lost, loss_low}
use Rattle.bm_replay.proofs.StepNeeds.{call_fits, copy_fits}
use Rattle.bm_replay.proofs.player.Player.step.Goals as goal

pub lose-requires : goal.lose-requires
lose-requires g c =
    let h = loss_low (Answers g.R.Fn c.args.route.now.rule) (Gives g.F.Fn c.args.faults.now.rule) c.args.self.now
    c.requires.playing in omega arith

pub returns-in-Some : goal.returns-in-Some
returns-in-Some g c =
    lost (Answers g.R.Fn c.args.route.now.rule) (Gives g.F.Fn c.args.faults.now.rule) c.args.self.now c.lose.new.self
    c.in-Some.loss c.requires.playing c.in-Some.is c.in_ok-lose.ensures

pub next_clock-clock-requires-clause-last : goal.next_clock-clock-requires-clause-last
next_clock-clock-requires-clause-last g c =
    let come : Arrive c.in-Arrive.moment ≡ coming_for c.args.self.now = c.in-Arrive.ensures
    in let h =
    copy_fits (Answers g.R.Fn c.args.route.now.rule) (Gives g.F.Fn c.args.faults.now.rule) c.args.self.now
    c.in-Arrive.moment c.requires.playing c.in_default.is (sym come)
    in omega arith

pub next_clock-clock-requires-clause-cause : goal.next_clock-clock-requires-clause-cause
next_clock-clock-requires-clause-cause g c =
    let come : Arrive c.in-Arrive.moment ≡ coming_for c.args.self.now = c.in-Arrive.ensures
    in let h =
    copy_fits (Answers g.R.Fn c.args.route.now.rule) (Gives g.F.Fn c.args.faults.now.rule) c.args.self.now
    c.in-Arrive.moment c.requires.playing c.in_default.is (sym come)
    in omega arith

pub arrive-requires-clause-can : goal.arrive-requires-clause-can
arrive-requires-clause-can g c =
    let come : Arrive c.in-Arrive.moment ≡ coming_for c.args.self.now = c.in-Arrive.ensures
    in can_arrive (Answers g.R.Fn c.args.route.now.rule) (Gives g.F.Fn c.args.faults.now.rule) c.args.self.now
    c.next_clock-clock.result
    (ready_copy (Answers g.R.Fn c.args.route.now.rule) (Gives g.F.Fn c.args.faults.now.rule) c.args.self.now
    c.next_clock-clock.result c.in-Arrive.moment
    (record {
      playing = c.requires.playing;
      none_lost = c.in_default.is;
      is_coming = sym come;
      is_clock =
          c.next_clock-clock.ensures;
    }))

pub next_clock-clock-requires-in-Call-clause-last : goal.next_clock-clock-requires-in-Call-clause-last
next_clock-clock-requires-in-Call-clause-last g c =
    let come : Call c.in-Call.due ≡ coming_for c.args.self.now = c.in-Call.ensures
    in let h =
    call_fits (Answers g.R.Fn c.args.route.now.rule) (Gives g.F.Fn c.args.faults.now.rule) c.args.self.now c.in-Call.due
    c.requires.playing c.in_default.is (sym come)
    in omega arith

pub next_clock-clock-requires-in-Call-clause-cause : goal.next_clock-clock-requires-in-Call-clause-cause
next_clock-clock-requires-in-Call-clause-cause g c =
    let come : Call c.in-Call.due ≡ coming_for c.args.self.now = c.in-Call.ensures
    in let h =
    call_fits (Answers g.R.Fn c.args.route.now.rule) (Gives g.F.Fn c.args.faults.now.rule) c.args.self.now c.in-Call.due
    c.requires.playing c.in_default.is (sym come)
    in omega arith

pub carry_out-requires-clause-coming : goal.carry_out-requires-clause-coming
carry_out-requires-clause-coming g c =
    let come : Call c.in-Call.due ≡ coming_for c.args.self.now = c.in-Call.ensures
    in record {
      playing = c.requires.playing;
      none_lost = c.in_default.is;
      is_coming = sym come;
      is_clock =
          c.next_clock-clock-in-Call.ensures;
    }

pub returns-in-Over : goal.returns-in-Over
returns-in-Over g c =
    let come : Over ≡ coming_for c.args.self.now = c.in-Over.ensures
    in (
      refl,
      refl,
      few_events (Answers g.R.Fn c.args.route.now.rule) (Gives g.F.Fn c.args.faults.now.rule) c.args.self.now
          c.requires.playing,
      ends (Answers g.R.Fn c.args.route.now.rule) (Gives g.F.Fn c.args.faults.now.rule) c.args.self.now
          c.requires.playing c.in_default.is (sym come),
    )

pub returns-in_ok-arrive-in-Arrive : goal.returns-in_ok-arrive-in-Arrive
returns-in_ok-arrive-in-Arrive g c =
    let come : Arrive c.in-Arrive.moment ≡ coming_for c.args.self.now = c.in-Arrive.ensures
    in arrived (Answers g.R.Fn c.args.route.now.rule) (Gives g.F.Fn c.args.faults.now.rule) c.args.self.now
    c.arrive.new.self c.next_clock-clock.result
    (ready_copy (Answers g.R.Fn c.args.route.now.rule) (Gives g.F.Fn c.args.faults.now.rule) c.args.self.now
    c.next_clock-clock.result c.in-Arrive.moment
    (record {
      playing = c.requires.playing;
      none_lost = c.in_default.is;
      is_coming = sym come;
      is_clock =
          c.next_clock-clock.ensures;
    })) c.in_ok-arrive-in-Arrive.ensures

pub returns-in_ok-carry_out-in-Call : goal.returns-in_ok-carry_out-in-Call
returns-in_ok-carry_out-in-Call g c =
    c.in_ok-carry_out-in-Call.ensures

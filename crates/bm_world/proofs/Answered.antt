-- The routes that were asked before a run, and the run that rests on them.
use Rattle.std.proofs.Common.{◌≡◌, ℕ, zero, suc, ◌<◌, true, List, [], ◌∷◌, length, Option, Some, None, refl}
use Rattle.std.proofs.Common.{sym, ap, ◌∙◌, subst, arith, inl, inr}
use Rattle.std.proofs.lemmas.Bool.{cases_lt}
use Rattle.std.specs.Prelude.{is_some, slice_get}
use Rattle.std.proofs.lemmas.Option.{same_Some, slice_get_past}
use Rattle.bm_rows.proofs.Places.{there}
use Rattle.bm_base.specs.declared.fate.Fate.{Fate}
use Rattle.bm_base.specs.declared.flow.Segment.{Segment}
use Rattle.bm_base.specs.declared.ids.MuxId.{MuxId}
use Rattle.bm_core.specs.declared.events.Event.{Event}
use Rattle.bm_core.specs.declared.events.History.{History}
use Rattle.bm_core.specs.declared.events.Stage.{Stage}
use Rattle.bm_core.specs.Accounts.{Routes, Rules, AreAnswered, before}
use Rattle.bm_core.specs.Past.{segment_of, steerable}
use Rattle.bm_core.specs.Threads.{IsThreadedRun}
use Rattle.bm_worker.specs.Assigned.{RoutedBy, assigned_mux, mux_in}
use Rattle.bm_world.specs.Inside.Routed.{AreGiven, AreRouted, IsGivenTo}
use Rattle.bm_world.proofs.Growing.{routed_one}

-- WHERE A PACKET HAS A MUX

given_mux : (routes : List (Option MuxId)) (i m : ℕ) → assigned_mux routes (suc i) ≡ Some m
    → (x : MuxId) × (slice_get routes i ≡ Some (Some x)) × (x.0 ≡ m)
given_mux routes i m = go (slice_get routes i) refl where
  go : (o : Option (Option MuxId)) → slice_get routes i ≡ o → mux_in o ≡ Some m
      → (x : MuxId) × (slice_get routes i ≡ Some (Some x)) × (x.0 ≡ m)
  go None here is = absurd (cc)
  go (Some None) here is = absurd (cc)
  go (Some (Some x)) here is = (x, here, same_Some _ _ is)

pub given_to : (R : Routes) (stage : Stage) (muxes : ℕ) (routes : List (Option MuxId)) → AreGiven R stage muxes routes
    → (k m : ℕ) → assigned_mux routes k ≡ Some m
    → (m < muxes) × ((s : Segment) × (segment_of stage k ≡ Some s) × R k s.flow m)
given_to R stage muxes routes given zero m is = absurd (cc)
given_to R stage muxes routes given (suc i) m is =
    let x = given_mux routes i m is
    in let one = given.each i (Some x.0) x.1
    in (
      subst (λ (n : ℕ). n < muxes) x.2 one.0,
      (one.1.0, one.1.1, subst (λ (n : ℕ). R (suc i) one.1.0.flow n) x.2 one.1.2),
    )

pub routes_given : (R : Routes) (stage : Stage) (muxes : ℕ) (routes : List (Option MuxId))
    → AreGiven R stage muxes routes → (k m : ℕ) (s : Segment) → assigned_mux routes k ≡ Some m
    → segment_of stage k ≡ Some s → R k s.flow m
routes_given R stage muxes routes given k m s is here =
    let to = given_to R stage muxes routes given k m is
    in subst (λ (x : Segment). R k x.flow m) (same_Some to.1.0 s (sym to.1.1 ∙ here)) to.1.2

none_given : (R : Routes) (stage : Stage) (muxes i : ℕ) (o : Option MuxId) → IsGivenTo R stage muxes (suc i) o
    → is_some (segment_of stage (suc i)) ≡ true → is_some (mux_in (Some o)) ≡ true
none_given R stage muxes i (Some m) given is = refl
none_given R stage muxes i None given is = absurd (let none = rw given at is in cc)

pub are_routed : (R : Routes) (stage : Stage) (routes : List (Option MuxId))
    → AreGiven R stage stage.script.setting.muxes routes → AreRouted stage routes
are_routed R stage routes given =
    let count = given.count
    in record {
      below = λ k m is. (given_to R stage stage.script.setting.muxes routes given k m is).0;
      steerable = λ k m is.
          let to = given_to R stage stage.script.setting.muxes routes given k m is
          in ap (λ (o : Option Segment). is_some o) to.1.1;
      given = all;
      count = count;
    } where
      all : (k : ℕ) → is_some (segment_of stage k) ≡ true → is_some (assigned_mux routes k) ≡ true
      all zero is = absurd (cc)
      all (suc i) is = elim (cases_lt i (length routes)) [
        | inl low ↦
            let o = there routes i low
            in subst (λ (x : Option (Option MuxId)). is_some (mux_in x) ≡ true) (sym o.1)
            (none_given R stage stage.script.setting.muxes i o.0 (given.each i o.0 o.1) is)
        | inr high ↦
            let count = given.count
            in let none : segment_of stage (suc i) ≡ None =
            ap steerable (slice_get_past stage.capture.records i (omega arith))
            in absurd (let bad = rw none at is in cc)
      ]

-- THE RUN

answered : (R : Routes) (F : Rules) (routes : List (Option MuxId)) (stage : Stage)
    → ((k m : ℕ) (s : Segment) → assigned_mux routes k ≡ Some m → segment_of stage k ≡ Some s → R k s.flow m)
    → (fates : List Fate) (all : List Event) → AreAnswered (RoutedBy routes) F stage fates all
    → AreAnswered R F stage fates all
answered R F routes stage route fates [] are = tt
answered R F routes stage route fates (e ∷ past) are = (
  (routed_one R routes stage route e.what are.0.0, are.0.1),
  answered R F routes stage route (before fates) past are.1,
)

-- a run whose packets have the muxes that were kept is one whose packets have those that the route gives
pub run_routed : (R : Routes) (F : Rules) (routes : List (Option MuxId)) (h : History)
    → ((k m : ℕ) (s : Segment) → assigned_mux routes k ≡ Some m → segment_of h.stage k ≡ Some s → R k s.flow m)
    → IsThreadedRun (RoutedBy routes) F h → IsThreadedRun R F h
run_routed R F routes h route run =
    let account = run.account
    in record {
      run = run.run;
      fates = run.fates;
      follows = run.follows;
      account = record {
        steered = account.steered;
        answered = answered R F routes h.stage route run.fates _ account.answered;
        lost = account.lost;
        sent = account.sent;
        arrived = account.arrived;
        commands = account.commands;
      };
    }

-- what two clauses of a call's answer give together

-- Where nothing is played any more, a replay is over.
use Rattle.std.proofs.Common.{◌≡◌, ℕ, suc, true, false, List, [], ◌∷◌, Option, Some, None, is_some, refl, sym, ap}
use Rattle.std.proofs.Common.{subst, arith}
use Rattle.std.specs.Prelude.{IfSome, fold}
use Rattle.std.proofs.lemmas.Bool.{both_ways}
use Rattle.bm_base.specs.declared.flow.Flow.{Flow}
use Rattle.bm_base.specs.declared.flow.Segment.{Segment}
use Rattle.bm_base.specs.declared.label.Hop.{Hop}
use Rattle.bm_base.specs.declared.fate.Fate.{Fate}
use Rattle.bm_core.specs.declared.events.What.{What}
use Rattle.bm_core.specs.declared.events.Event.{Event}
use Rattle.bm_core.specs.declared.events.Stage.{Stage}
use Rattle.bm_core.specs.declared.schedule.Call.{Call}
use Rattle.bm_core.specs.declared.schedule.Call.TheVariants.{Publishes, Switches, Closes, Retires, Syncs, Arrives}
use Rattle.bm_core.specs.declared.schedule.Call.TheVariants.{Steers, Loses}
use Rattle.bm_core.specs.declared.schedule.Due.{Due}
use Rattle.bm_core.specs.Schedule.{Underway}
use Rattle.bm_core.specs.Past.{segment_of, label_of}
use Rattle.bm_core.specs.Runs.{last_clock, next_clock, Run}
use Rattle.bm_core.specs.Schedule.{sooner, least, wire, arrival_due, can_come, due_loss, Follows, IsOver}
use Rattle.bm_core.proofs.Schedules.{least_is, each_from, IsFrom, loss_call, due_is_loss}
use Rattle.bm_core.proofs.Stepping.{new_packet}
use Rattle.bm_core.proofs.Stops.{HasStop, first_stop}
use Rattle.bm_core.proofs.Playing.{arrive, steer, answer, at_clock, from_due, coming, fates_by, next_event, IsToldBy}
use Rattle.bm_core.proofs.Playing.{IsWithinMuxes, play, play_told}
use Rattle.std.specs.Prelude.{reverse}
use Rattle.std.proofs.lemmas.List.{reverse-reverse}
use Rattle.bm_core.specs.Stages.{IsSound}
use Rattle.bm_core.specs.Rules.{RouteBy, RuleBy}
use Rattle.bm_core.specs.Accounts.{IsAccountOf}
use Rattle.bm_core.specs.Histories.{IsReplay}
use Rattle.bm_core.proofs.Accounted.{accounted}

some_sooner : (o : Option Due) (d : Due) → is_some (sooner o d) ≡ true
some_sooner None d = refl
some_sooner (Some a) d = grind arith

some_fold : (dues : List Due) (o : Option Due) → is_some o ≡ true → is_some (fold sooner o dues) ≡ true
some_fold [] o is = is
some_fold (x ∷ dues) o is = some_fold dues (sooner o x) (some_sooner o x)

least_none : (dues : List Due) → least dues ≡ None → dues ≡ []
least_none [] is = refl
least_none (d ∷ dues) is =
    let some : is_some (least (d ∷ dues)) ≡ true = some_fold dues (Some d) refl
    in let none : is_some (least (d ∷ dues)) ≡ false = ap (λ (o : Option Due). is_some o) is
    in absurd (both_ways _ none some)

-- EACH CALL THAT COMES NEXT HAS AN ANSWER

steer_some : (mux : ℕ → Flow → ℕ) (k : ℕ) (o : Option Segment) → is_some o ≡ true → is_some (steer mux k o) ≡ true
steer_some mux k None is = absurd (cc)
steer_some mux k (Some s) is = refl

arrive_some : (stage : Stage) (past : List Event) (clock k : ℕ) (hop : Hop) → HasStop stage past k hop
    → is_some (arrive stage past clock k hop (segment_of stage k) (label_of stage past k)) ≡ true
arrive_some stage past clock k hop h = rw (h.is_segment, h.is_label, h.place) refl

due_stop : (fates : List Fate) (stage : Stage) (past : List Event) (d : Due) (k : ℕ) (hop : Hop) → Run stage past
    → (w : List Underway) → wire fates past ≡ w → arrival_due w ≡ d ∷ [] → d.call ≡ Arrives k hop
    → HasStop stage past k hop
due_stop fates stage past d k hop run [] is e c = absurd (cc)
due_stop fates stage past d k hop run (u ∷ w) is e c =
    let p : u.packet ≡ k = grind arith
    in let q : u.hop ≡ hop = grind arith
    in subst (λ (h : Hop). HasStop stage past k h) q
    (subst (λ (n : ℕ). HasStop stage past n u.hop) p (first_stop fates stage past u w run is))

answer_some : (mux : ℕ → Flow → ℕ) (fates : List Fate) (stage : Stage) (past : List Event) (clock : ℕ) (d : Due)
    (c : Call) → Run stage past → Follows fates stage past → IsFrom (wire fates past) stage past d c → d.call ≡ c
    → is_some (answer mux stage past clock c) ≡ true
answer_some mux fates stage past clock d (Publishes v) run follows from is = refl
answer_some mux fates stage past clock d (Switches m v) run follows from is = refl
answer_some mux fates stage past clock d (Closes s f) run follows from is = refl
answer_some mux fates stage past clock d (Retires s h at) run follows from is = refl
answer_some mux fates stage past clock d Syncs run follows from is = refl
answer_some mux fates stage past clock d (Arrives k hop) run follows from is =
    arrive_some stage past clock k hop (due_stop fates stage past d k hop run (wire fates past) refl from is)
answer_some mux fates stage past clock d (Steers k) run follows from is =
    steer_some mux k (segment_of stage k) (new_packet fates stage past k d follows is from).1
answer_some mux fates stage past clock d (Loses k hop) run follows from is = absurd from

some_event : (clock : ℕ) (o : Option What) → is_some o ≡ true → is_some (at_clock clock o) ≡ true
some_event clock None is = absurd (cc)
some_event clock (Some what) is = refl

loss_some : (mux : ℕ → Flow → ℕ) (stage : Stage) (past : List Event) (clock : ℕ) (c : Call) → loss_call c ≡ true
    → is_some (answer mux stage past clock c) ≡ true
loss_some mux stage past clock (Loses k hop) is = refl
loss_some mux stage past clock _ is = absurd (cc)

-- OVER

none_due : (mux : ℕ → Flow → ℕ) (fates : List Fate) (stage : Stage) (past : List Event) → Run stage past
    → Follows fates stage past → (o : Option Due) → least (can_come (wire fates past) stage past) ≡ o
    → IfSome o (λ d. IsFrom (wire fates past) stage past d d.call) → from_due mux stage past o ≡ None → o ≡ None
none_due mux fates stage past run follows None l from is = refl
none_due mux fates stage past run follows (Some d) l from is =
    let some : is_some (from_due mux stage past (Some d)) ≡ true =
    some_event (next_clock (last_clock past) d.moment) _
    (answer_some mux fates stage past (next_clock (last_clock past) d.moment) d d.call run follows from refl)
    in let none : is_some (from_due mux stage past (Some d)) ≡ false = ap (λ (o : Option Event). is_some o) is
    in absurd (both_ways _ none some)

is_over : (mux : ℕ → Flow → ℕ) (fates : List Fate) (stage : Stage) (past : List Event) → Run stage past
    → Follows fates stage past → (loss : Option Call) → due_loss fates past ≡ loss
    → coming mux stage past loss (can_come (wire fates past) stage past) ≡ None → IsOver fates stage past
is_over mux fates stage past run follows (Some c) o is =
    let some : is_some (coming mux stage past (Some c) (can_come (wire fates past) stage past)) ≡ true =
    some_event (suc (last_clock past)) _
    (loss_some mux stage past (suc (last_clock past)) c (due_is_loss fates past c o))
    in let none : is_some (coming mux stage past (Some c) (can_come (wire fates past) stage past)) ≡ false =
    ap (λ (x : Option Event). is_some x) is
    in absurd (both_ways _ none some)
is_over mux fates stage past run follows None o is = record {
  none = least_none _
      (none_due mux fates stage past run follows (least (can_come (wire fates past) stage past)) refl
      (least_is (λ d. IsFrom (wire fates past) stage past d d.call) (can_come (wire fates past) stage past)
      (each_from (wire fates past) stage past)) is);
  no_loss_due = o;
}

-- where nothing comes next, the replay is over
pub ended_over : (mux : ℕ → Flow → ℕ) (fate : ℕ → Hop → Fate) (stage : Stage) (past : List Event)
    → IsToldBy mux fate stage past → next_event mux fate stage past ≡ None → IsOver (fates_by fate past) stage past
ended_over mux fate stage past t is =
    is_over mux (fates_by fate past) stage past t.run t.follows (due_loss (fates_by fate past) past) refl is

-- the events that are played to the end, in their order, are a replay
pub played_replay : (mux : ℕ → Flow → ℕ) (fate : ℕ → Hop → Fate) (stage : Stage) (n : ℕ) → IsSound stage
    → IsWithinMuxes stage mux → next_event mux fate stage (play mux fate stage n []) ≡ None
    → IsReplay (RouteBy mux) (RuleBy fate) (record { stage = stage; events = reverse (play mux fate stage n []) })
played_replay mux fate stage n sound within is =
    whole (play mux fate stage n []) (sym (reverse-reverse (play mux fate stage n [])))
    (play_told mux fate stage sound.script.plan within n [] start) is where
      start : IsToldBy mux fate stage []
      start = record { run = tt; follows = tt; answered = tt }

      whole : (past : List Event) → past ≡ reverse (reverse past) → IsToldBy mux fate stage past
          → next_event mux fate stage past ≡ None
          → IsReplay (RouteBy mux) (RuleBy fate) (record { stage = stage; events = reverse past })
      whole past back t is =
          let over : IsOver (fates_by fate past) stage past = ended_over mux fate stage past t is
          in record {
            run = record { sound = sound; run = subst (λ (p : List Event). Run stage p) back t.run };
            fates = fates_by fate past;
            follows = subst (λ (p : List Event). Follows (fates_by fate past) stage p) back t.follows;
            over = subst (λ (p : List Event). IsOver (fates_by fate past) stage p) back over;
            account =
                subst (λ (p : List Event). IsAccountOf (RouteBy mux) (RuleBy fate) stage (fates_by fate past) p) back
                (accounted (RouteBy mux) (RuleBy fate) (fates_by fate past) stage past t.run t.follows over t.answered);
          }

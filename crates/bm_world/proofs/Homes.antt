-- In whose log what a worker did stands.
use Rattle.std.proofs.Common.{◌≡◌, ℕ, suc, Bool, true, false, cond, List, [], ◌∷◌, ◌++◌, Option}
use Rattle.std.proofs.Common.{Some, None, refl, sym, ap, ◌∙◌, arith, eqb}
use Rattle.std.specs.List.{AllByRecursion}
use Rattle.std.proofs.lemmas.Bool.{eq-eqb, ne_eqb, eqb-true}
use Rattle.bm_base.specs.declared.flow.Segment.{Segment}
use Rattle.bm_core.specs.declared.events.What.{What}
use Rattle.bm_core.specs.declared.events.What.TheVariants.{Publish, Switch, Steer, Lose, Arrive, Close, Retire, Sync}
use Rattle.bm_core.specs.declared.events.Stage.{Stage}
use Rattle.bm_core.specs.Past.{segment_of, shard}
use Rattle.bm_core.specs.Runs.{Actor, is_by}
use Rattle.bm_core.specs.Runs.Actor.{Controller, MuxOf, ShardOf}
use Rattle.bm_core.specs.Threads.{is_command}
use Rattle.std.specs.Prelude.{option_map, ◌-◌}
use Rattle.bm_merge.specs.Notes.{Note}
use Rattle.bm_merge.specs.Workers.{home_of, is_home, home_part, seat_part, carries}

-- ONE SEAT

pub seat_all : (w : ℕ) (x : List Note) → AllByRecursion (λ n. n.seat ≡ w) x → seat_part w x ≡ x
seat_all w [] all = refl
seat_all w (n ∷ x) all =
    let is : eqb n.seat w ≡ true = eq-eqb _ _ all.0 in rw is (ap (λ (l : List Note). n ∷ l) (seat_all w x all.1))

pub seat_none : (v w : ℕ) (x : List Note) → AllByRecursion (λ n. n.seat ≡ w) x → (w ≡ v → ⊥) → seat_part v x ≡ []
seat_none v w [] all apart = refl
seat_none v w (n ∷ x) all apart =
    let not : eqb n.seat v ≡ false = ne_eqb _ _ (λ e. apart (sym all.0 ∙ e))
    in rw not (seat_none v w x all.1 apart)

-- ONE HOME

pub home_none : (stage : Stage) (a : Actor) (x : List Note) → AllByRecursion (λ n. is_home stage a n ≡ false) x
    → home_part stage a x ≡ []
home_none stage a [] all = refl
home_none stage a (n ∷ x) all = rw all.0 (home_none stage a x all.1)

home_is_step : (stage : Stage) (a : Actor) (n : Note) (h : List Note) (b : Bool) → is_home stage a n ≡ b
    → AllByRecursion (λ n. is_home stage a n ≡ true) h
    → AllByRecursion (λ n. is_home stage a n ≡ true) (cond b (n ∷ h) h)
home_is_step stage a n h true is old = (is, old)
home_is_step stage a n h false is old = old

pub home_is : (stage : Stage) (a : Actor) (x : List Note)
    → AllByRecursion (λ n. is_home stage a n ≡ true) (home_part stage a x)
home_is stage a [] = tt
home_is stage a (n ∷ x) = home_is_step stage a n (home_part stage a x) (is_home stage a n) refl (home_is stage a x)

each_step : (P : Note → Type 0) (n : Note) (h : List Note) (b : Bool) → P n → AllByRecursion P h
    → AllByRecursion P (cond b (n ∷ h) h)
each_step P n h true p old = (p, old)
each_step P n h false p old = old

pub home_each : (P : Note → Type 0) (stage : Stage) (a : Actor) (x : List Note) → AllByRecursion P x
    → AllByRecursion P (home_part stage a x)
home_each P stage a [] all = tt
home_each P stage a (n ∷ x) all =
    each_step P n (home_part stage a x) (is_home stage a n) all.0 (home_each P stage a x all.1)

append_step : (n : Note) (z x y : List Note) (b : Bool) → z ≡ x ++ y → cond b (n ∷ z) z ≡ cond b (n ∷ x) x ++ y
append_step n z x y true h = ap (λ (l : List Note). n ∷ l) h
append_step n z x y false h = h

pub home_append : (stage : Stage) (a : Actor) (x y : List Note)
    → home_part stage a (x ++ y) ≡ home_part stage a x ++ home_part stage a y
home_append stage a [] y = refl
home_append stage a (n ∷ x) y = append_step n _ _ _ (is_home stage a n) (home_append stage a x y)

-- WORKERS

-- a command isn't a mux's
no_mux_of_segment : (o : Option Segment) (f : Segment → Actor) (m : ℕ)
    → ((s : Segment) → is_by (Some (f s)) (MuxOf m) ≡ false)
    → is_by (option_map f o) (MuxOf m) ≡ false
no_mux_of_segment None f m not = refl
no_mux_of_segment (Some s) f m not = not s

pub command_not_mux : (stage : Stage) (m seat : ℕ) (what : What) → is_command what ≡ true
    → is_by (home_of stage seat what) (MuxOf m) ≡ false
command_not_mux stage m seat (Publish v) is = refl
command_not_mux stage m seat (Close server flow closed) is = refl
command_not_mux stage m seat (Retire server h at result) is = refl
command_not_mux stage m seat Sync is = refl
command_not_mux stage m seat (Switch x v) is = absurd (cc)
command_not_mux stage m seat (Steer k x) is = absurd (cc)
command_not_mux stage m seat (Lose k hop) is = absurd (cc)
command_not_mux stage m seat (Arrive k hop server verdict) is = absurd (cc)

-- what a mux's worker does isn't the controller's
pub carried_not_control : (stage : Stage) (m seat : ℕ) (what : What) → carries m what ≡ true
    → is_by (home_of stage seat what) Controller ≡ false
carried_not_control stage m seat (Switch x v) is = refl
carried_not_control stage m seat (Steer k x) is = refl
carried_not_control stage m seat (Lose k hop) is = refl
carried_not_control stage m seat (Arrive k hop server verdict) is = go (segment_of stage k) where
  go : (o : Option Segment)
      → is_by (option_map (λ (s : Segment). ShardOf server.0 (shard stage s.flow)) o) Controller ≡ false
  go None = refl
  go (Some s) = refl
carried_not_control stage m seat (Publish v) is = absurd (cc)
carried_not_control stage m seat (Close server flow closed) is = absurd (cc)
carried_not_control stage m seat (Retire server h at result) is = absurd (cc)
carried_not_control stage m seat Sync is = absurd (cc)

-- nor another mux's
pub carried_not_other : (stage : Stage) (m p seat : ℕ) (what : What) → carries m what ≡ true → seat ≡ suc m
    → (m ≡ p → ⊥) → is_by (home_of stage seat what) (MuxOf p) ≡ false
carried_not_other stage m p seat (Switch x v) is at apart =
    ne_eqb _ _ (λ e. apart (sym (eqb-true _ _ is) ∙ e))
carried_not_other stage m p seat (Steer k x) is at apart = ne_eqb _ _ (λ e. apart (sym (eqb-true _ _ is) ∙ e))
carried_not_other stage m p seat (Lose k hop) is at apart =
    ne_eqb _ _ (λ e. apart (let same : seat - 1 ≡ p = e in omega arith))
carried_not_other stage m p seat (Arrive k hop server verdict) is at apart = go (segment_of stage k) where
  go : (o : Option Segment)
      → is_by (option_map (λ (s : Segment). ShardOf server.0 (shard stage s.flow)) o) (MuxOf p) ≡ false
  go None = refl
  go (Some s) = refl
carried_not_other stage m p seat (Publish v) is at apart = absurd (cc)
carried_not_other stage m p seat (Close server flow closed) is at apart = absurd (cc)
carried_not_other stage m p seat (Retire server h moment result) is at apart = absurd (cc)
carried_not_other stage m p seat Sync is at apart = absurd (cc)

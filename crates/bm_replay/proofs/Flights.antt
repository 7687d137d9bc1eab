-- The copies on the wire stay those of the schedule.
use Rattle.std.proofs.Common.{◌≡◌, ℕ, zero, suc, inl, inr, List, [], ◌∷◌, Option, Some, None, refl, subst, ◌∙◌}
use Rattle.std.specs.Prelude.{nat_lt}
use Rattle.std.proofs.lemmas.Bool.{cases_Bool}
use Rattle.std.proofs.lemmas.Option.{same_Some}
use Rattle.bm_base.specs.declared.ids.ServerId.{ServerId}
use Rattle.bm_base.specs.declared.label.Hop.{Hop}
use Rattle.bm_base.specs.declared.label.Label.{Label}
use Rattle.bm_base.specs.declared.label.Tag.{Tag}
use Rattle.bm_base.specs.Labels.{arrives_at, tag_for, tag_of}
use Rattle.std.specs.Prelude.{option_map}
use Rattle.bm_fault.specs.Flying.{Flying}
use Rattle.bm_fault.specs.Wires.{first_due, first_flight, others, put_flying}
use Rattle.bm_core.specs.declared.events.Event.{Event}
use Rattle.bm_core.specs.declared.events.Stage.{Stage}
use Rattle.bm_core.specs.Schedule.{Underway}
use Rattle.bm_core.specs.Runs.{IsStep}
use Rattle.bm_core.specs.Schedule.{put, put_all, rest}
use Rattle.bm_core.proofs.Pasts.{label_stays}
use Rattle.bm_replay.specs.Inside.Flights.{AreFlying, IsFlying, copies_put}
use Rattle.bm_replay.proofs.NextEvents.{IsFirstDue}

-- a label stays, so a copy does
flying_stays : (stage : Stage) (past : List Event) (e : Event) → IsStep stage past e → (f : Flying) (u : Underway)
    → IsFlying stage past f u → IsFlying stage (e ∷ past) f u
flying_stays stage past e step f u is = record {
  due = is.due;
  packet = is.packet;
  label = is.label;
  is_label = label_stays stage past e u.packet is.label step is.is_label;
  tag = is.tag;
}

pub all_stay : (stage : Stage) (past : List Event) (e : Event) → IsStep stage past e
    → (flying : List Flying) (dues : List Underway) → AreFlying stage past flying dues
    → AreFlying stage (e ∷ past) flying dues
all_stay stage past e step [] [] are = tt
all_stay stage past e step (f ∷ flying) (u ∷ dues) are =
    (flying_stays stage past e step f u are.0, all_stay stage past e step flying dues are.1)
all_stay stage past e step [] (u ∷ dues) are = absurd are
all_stay stage past e step (f ∷ flying) [] are = absurd are

put_flies : (stage : Stage) (past : List Event) (f : Flying) (u : Underway) → IsFlying stage past f u
    → (flying : List Flying) (dues : List Underway) → AreFlying stage past flying dues
    → AreFlying stage past (put_flying f flying) (put u dues)
put_flies stage past f u is [] [] are = (is, tt)
put_flies stage past f u is (x ∷ flying) (v ∷ dues) are =
    let same : nat_lt f.due.0 x.due.0 ≡ nat_lt u.moment v.moment = λ i. nat_lt (is.due i) (are.0.due i)
    in elim (cases_Bool (nat_lt u.moment v.moment)) [
      | inl first ↦ rw (same ∙ first, first) (is, are)
      | inr later ↦ rw (same ∙ later, later) (are.0, put_flies stage past f u is flying dues are.1)
    ]
put_flies stage past f u is [] (v ∷ dues) are = absurd are
put_flies stage past f u is (x ∷ flying) [] are = absurd are

pub copies_fly : (stage : Stage) (past : List Event) (f : Flying) (u : Underway) → IsFlying stage past f u
    → (n : ℕ) (flying : List Flying) (dues : List Underway) → AreFlying stage past flying dues
    → AreFlying stage past (copies_put n f flying) (put_all n u dues)
copies_fly stage past f u is zero flying dues are = are
copies_fly stage past f u is (suc n) flying dues are =
    put_flies stage past f u is (copies_put n f flying) (put_all n u dues)
    (copies_fly stage past f u is n flying dues are)

-- the first one arrives, and the others stay
pub others_fly : (stage : Stage) (past : List Event) (flying : List Flying) (dues : List Underway)
    → AreFlying stage past flying dues → AreFlying stage past (others flying) (rest dues)
others_fly stage past [] [] are = tt
others_fly stage past (f ∷ flying) (u ∷ dues) are = are.1
others_fly stage past [] (u ∷ dues) are = absurd are
others_fly stage past (f ∷ flying) [] are = absurd are

pub first_due_is : (stage : Stage) (past : List Event) (flying : List Flying) (dues : List Underway)
    → AreFlying stage past flying dues → IsFirstDue (first_due flying) dues
first_due_is stage past [] [] are = refl
first_due_is stage past (f ∷ flying) (u ∷ dues) are = (u, dues, refl, are.0.due)
first_due_is stage past [] (u ∷ dues) are = absurd are
first_due_is stage past (f ∷ flying) [] are = absurd are

-- the flight of the copy that is due first
pub first_flies : (stage : Stage) (past : List Event) (flying : List Flying) (dues : List Underway) (u : Underway)
    (later : List Underway) → AreFlying stage past flying dues → dues ≡ u ∷ later
    → (f : Flying) × (first_flight flying ≡ Some f.flight) × IsFlying stage past f u
first_flies stage past [] [] u later are is = absurd (cc)
first_flies stage past (f ∷ flying) (v ∷ dues) u later are is =
    let same : v ≡ u = cc in (f, refl, subst (λ (x : Underway). IsFlying stage past f x) same are.0)
first_flies stage past [] (v ∷ dues) u later are is = absurd are
first_flies stage past (f ∷ flying) [] u later are is = absurd are

-- TAGS

-- the tag is one for this stop
pub record HasStopAt (l : Label) (hop : Hop) (t : Tag) : Type 0 where
  pub place : arrives_at l.entry hop ≡ Some t.dest
  pub is_tag : tag_for l hop t.dest ≡ t
  pub is_hop : t.hop ≡ hop

pub tag_stop : (l : Label) (hop : Hop) (t : Tag) → tag_of l hop ≡ Some t → HasStopAt l hop t
tag_stop l hop t is = by (arrives_at l.entry hop) refl is where
  by : (o : Option ServerId) → arrives_at l.entry hop ≡ o → option_map (tag_for l hop) o ≡ Some t → HasStopAt l hop t
  by None at e = absurd (cc)
  by (Some server) at e =
      let same : tag_for l hop server ≡ t = same_Some _ _ e
      in subst (λ (x : Tag). HasStopAt l hop x) same (record { place = at; is_tag = refl; is_hop = refl })

-- What compares as the same is the same.
use Rattle.std.proofs.Common.{◌≡◌, false, true, refl, subst, ap, rules}
use Rattle.std.specs.Bool.{Decides}
use Rattle.std.proofs.lemmas.Bool.{and_parts}
use Rattle.bm_base.specs.contracts.flow.FlowPartialEq.TheImpl as flow_eq
use Rattle.bm_base.specs.contracts.label.HopPartialEq.TheImpl as hop_eq
use Rattle.bm_base.specs.contracts.receive.TakenPartialEq.TheImpl as taken_eq
use Rattle.bm_base.specs.declared.flow.Flow.{Flow}
use Rattle.bm_base.specs.declared.label.Hop.{Hop}
use Rattle.bm_base.specs.declared.label.Hop.TheVariants.{Direct, Chained, Twice}
use Rattle.bm_base.specs.declared.receive.Taken.{Taken}
use Rattle.bm_base.specs.declared.receive.Taken.TheVariants.{Advance, Duplicate, Ahead, Outside}
use Rattle.bm_base.specs.declared.receive.Taken.TheVariants.{Challenge, Ended}
use Rattle.bm_core.specs.contracts.events.EventEq.TheImpl.Laws as event_laws
use Rattle.bm_core.specs.contracts.events.EventPartialEq.TheImpl as event_eq
use Rattle.bm_core.specs.contracts.events.VerdictEq.TheImpl.Laws as verdict_laws
use Rattle.bm_core.specs.contracts.events.VerdictPartialEq.TheImpl as verdict_eq
use Rattle.bm_core.specs.contracts.events.WhatPartialEq.TheImpl as what_eq
use Rattle.bm_core.specs.contracts.events.WhyPartialEq.TheImpl as why_eq
use Rattle.bm_core.specs.declared.events.Event.{Event}
use Rattle.bm_core.specs.declared.events.Verdict.{Verdict}
use Rattle.bm_core.specs.declared.events.Verdict.TheVariants.{Accept, Process, Forward, Reset, Drop}
use Rattle.bm_core.specs.declared.events.What.{What}
use Rattle.bm_core.specs.declared.events.What.TheVariants.{Publish, Switch, Steer, Lose, Arrive, Close, Retire, Sync}
use Rattle.bm_core.specs.declared.events.Why.{Why}
use Rattle.bm_core.specs.declared.events.Why.TheVariants.{NoPrevious, ChainExpired, ChainedUnknown, Silent, Full}
use Rattle.bm_core.specs.declared.events.Why.TheVariants.{Retired}
use Rattle.bm_table.specs.contracts.plan.RetirementEq.TheImpl.Laws as retirement_laws
use Rattle.bm_table.specs.contracts.plan.RetirementPartialEq.TheImpl as retirement_eq
use Rattle.bm_table.specs.declared.plan.Retirement.{Retirement}
use Rattle.bm_table.specs.declared.plan.Retirement.TheVariants.{Done, NotDrained, TooEarly}

-- two constructors compare as different
never : {P : Type 0} → false ≡ true → P
never h = absurd (cc)

hop_same : (a b : Hop) → (hop_eq.ghosts).eq a b ≡ true → a ≡ b
hop_same Direct Direct h = refl
hop_same Chained Chained h = refl
hop_same Twice Twice h = refl
hop_same _ _ h = never h

taken_same : (a b : Taken) → (taken_eq.ghosts).eq a b ≡ true → a ≡ b
taken_same Advance Advance h = refl
taken_same Duplicate Duplicate h = refl
taken_same Ahead Ahead h = refl
taken_same Outside Outside h = refl
taken_same Challenge Challenge h = refl
taken_same Ended Ended h = refl
taken_same _ _ h = never h

why_same : (a b : Why) → (why_eq.ghosts).eq a b ≡ true → a ≡ b
why_same NoPrevious NoPrevious h = refl
why_same ChainExpired ChainExpired h = refl
why_same ChainedUnknown ChainedUnknown h = refl
why_same Silent Silent h = refl
why_same Full Full h = refl
why_same Retired Retired h = refl
why_same _ _ h = never h

flow_same : (a b : Flow) → (flow_eq.ghosts).eq a b ≡ true → a ≡ b
flow_same a b h = search rules

retirement_same : (a b : Retirement) → (retirement_eq.ghosts).eq a b ≡ true → a ≡ b
retirement_same Done Done h = refl
retirement_same NotDrained NotDrained h = refl
retirement_same (TooEarly m) (TooEarly n) h = search rules
retirement_same _ _ h = never h

verdict_same : (a b : Verdict) → (verdict_eq.ghosts).eq a b ≡ true → a ≡ b
verdict_same Accept Accept h = refl
verdict_same (Process x) (Process y) h = ap (λ (t : Taken). Process t) (taken_same x y h)
verdict_same (Forward s) (Forward t) h = search rules
verdict_same (Reset x) (Reset y) h = ap (λ (w : Why). Reset w) (why_same x y h)
verdict_same (Drop x) (Drop y) h = ap (λ (w : Why). Drop w) (why_same x y h)
verdict_same _ _ h = never h

what_same : (a b : What) → (what_eq.ghosts).eq a b ≡ true → a ≡ b
what_same (Publish v) (Publish w) h = search rules
what_same (Switch m v) (Switch n w) h = search rules
what_same (Steer k m) (Steer l n) h = search rules
what_same (Lose k x) (Lose l y) h = search (rules, hop_same)
what_same (Arrive k x s v) (Arrive l y t w) h =
    let hop : x ≡ y = hop_same x y (search rules) in
    let verdict : v ≡ w = verdict_same v w (search rules) in
    let packet : k ≡ l = search rules in
    let server : s.0 ≡ t.0 = search rules in
    λ i. Arrive (packet i) (hop i) (record { 0 = server i }) (verdict i)
what_same (Close s f b) (Close t g c) h = search (rules, flow_same)
what_same (Retire s i m r) (Retire t j n q) h = search (rules, retirement_same)
what_same Sync Sync h = refl
what_same _ _ h = never h

event_same : (a b : Event) → (event_eq.ghosts).eq a b ≡ true → a ≡ b
event_same a b h =
    let clock : a.clock.0 ≡ b.clock.0 = search rules in
    let what : a.what ≡ b.what = what_same a.what b.what (and_parts _ _ h).1 in
    λ i. record { clock = record { 0 = clock i }; what = what i }

pub event_decides : (a b : Event) → Decides ((event_eq.ghosts).eq a b) (a ≡ b)
event_decides a b = (
  event_same a b,
  λ same. subst (λ (e : Event). (event_eq.ghosts).eq a e ≡ true) same ((event_laws.laws-law).refl a),
)

pub verdict_decides : (a b : Verdict) → Decides ((verdict_eq.ghosts).eq a b) (a ≡ b)
verdict_decides a b = (
  verdict_same a b,
  λ same. subst (λ (v : Verdict). (verdict_eq.ghosts).eq a v ≡ true) same ((verdict_laws.laws-law).refl a),
)

pub retirement_decides : (a b : Retirement) → Decides ((retirement_eq.ghosts).eq a b) (a ≡ b)
retirement_decides a b = (
  retirement_same a b,
  λ same. subst (λ (v : Retirement). (retirement_eq.ghosts).eq a v ≡ true) same ((retirement_laws.laws-law).refl a),
)

-- What comes next in a replay is determined.
use Rattle.std.proofs.Common.{◌≡◌, ℕ, ◌≤◌, true, inl, inr, List, [], ◌∷◌, length, Option, Some, None, is_some, sym, ◌∙◌}
use Rattle.std.proofs.Common.{subst, refl, ap, arith}
use Rattle.std.specs.Prelude.{IfSome}
use Rattle.std.proofs.lemmas.Bool.{both_ways, cases_order, cases_lt}
use Rattle.std.specs.Prelude.{reverse}
use Rattle.std.proofs.lemmas.List.{reverse-reverse}
use Rattle.std.proofs.lemmas.Option.{same_Some}
use Rattle.bm_core.specs.declared.events.History.{History}
use Rattle.bm_core.specs.Rules.{RouteBy, RuleBy}
use Rattle.bm_core.specs.Histories.{IsNextIn, IsReplay}
use Rattle.bm_base.specs.declared.ids.ServerId.{ServerId}
use Rattle.bm_base.specs.declared.flow.Flow.{Flow}
use Rattle.bm_base.specs.declared.flow.Segment.{Segment}
use Rattle.bm_base.specs.declared.label.Label.{Label}
use Rattle.bm_base.specs.declared.label.Hop.{Hop}
use Rattle.bm_table.specs.Planned.{Planned}
use Rattle.bm_base.specs.declared.fate.Fate.{Fate}
use Rattle.bm_table.specs.declared.plan.Retirement.{Retirement}
use Rattle.bm_table.specs.declared.plan.Retirement.TheVariants.{Done, NotDrained, TooEarly}
use Rattle.bm_core.specs.declared.events.Verdict.{Verdict}
use Rattle.bm_core.specs.declared.events.What.{What}
use Rattle.bm_core.specs.declared.events.What.TheVariants.{Publish, Switch, Steer, Lose, Arrive, Close, Retire, Sync}
use Rattle.bm_core.specs.declared.events.Event.{Event}
use Rattle.bm_core.specs.declared.events.Stage.{Stage}
use Rattle.bm_table.specs.Tables.{IsRetirement}
use Rattle.bm_core.specs.Past.{segment_of, held, timeout, newest, Sending, sending_of}
use Rattle.bm_base.specs.Labels.{arrives_at}
use Rattle.bm_core.specs.Verdicts.{verdict_at}
use Rattle.bm_core.specs.Runs.{IsArrival, MayCome, IsStep, Run}
use Rattle.bm_core.specs.Accounts.{Routes, Rules, fate_now, before, IsRouted, AreAnswered}
use Rattle.bm_core.specs.Schedule.{Underway}
use Rattle.bm_core.specs.declared.schedule.Call.{Call}
use Rattle.bm_core.specs.declared.schedule.Due.{Due}
use Rattle.bm_core.specs.Schedule.{call_of, wire, can_come, due_loss, loss_of_fate, put_sent, after_arrive, least}
use Rattle.bm_core.specs.Schedule.{IsDueCall, ComesNext, IsNextBy, Follows, IsOver}

-- the answer to a wish to retire is determined
pub same_retirement : (plan : Planned) (timeout n : ℕ) (s : ServerId) (at : ℕ) (a b : Retirement)
    → IsRetirement plan timeout n s at a → IsRetirement plan timeout n s at b → a ≡ b
same_retirement plan timeout n s at Done Done p q = refl
same_retirement plan timeout n s at NotDrained NotDrained p q = refl
same_retirement plan timeout n s at Done NotDrained p q = absurd (both_ways _ q p.0)
same_retirement plan timeout n s at NotDrained Done p q = absurd (both_ways _ p q.0)
same_retirement plan timeout n s at (TooEarly b) NotDrained p q = absurd (both_ways _ q p.0)
same_retirement plan timeout n s at NotDrained (TooEarly b) p q = absurd (both_ways _ p q.0)
same_retirement plan timeout n s at (TooEarly b) Done p q = absurd (both_ways _ (q.1 b) p.1)
same_retirement plan timeout n s at Done (TooEarly b) p q = absurd (both_ways _ (p.1 b) q.1)
same_retirement plan timeout n s at (TooEarly b) (TooEarly c) p q = elim (cases_order b c) [
  | inl same ↦ ap (λ (x : ℕ). TooEarly x) same
  | inr differ ↦ elim differ [
    | inl less ↦ absurd (both_ways _ (q.2 b less) p.1)
    | inr more ↦ absurd (both_ways _ (p.2 c more) q.1)
  ]
]

-- an arrival's server and verdict are determined
same_arrival : (stage : Stage) (past : List Event) (clock k : ℕ) (hop : Hop) (s t : ServerId) (v w : Verdict)
    → IsArrival stage past clock k hop s v → IsArrival stage past clock k hop t w → (s ≡ t) × (v ≡ w)
same_arrival stage past clock k hop s t v w a b =
    let label : a.label ≡ b.label = same_Some _ _ (sym a.is_label ∙ b.is_label)
    in let segment : a.segment ≡ b.segment = same_Some _ _ (sym a.is_segment ∙ b.is_segment)
    in let server : s ≡ t = same_Some _ _ (sym a.place ∙ (ap (λ (x : Label). arrives_at x.entry hop) label ∙ b.place))
    in (
      server,
      a.verdict_is
          ∙ ((λ i. verdict_at stage past clock (label i) hop (server i) (segment i)) ∙ sym b.verdict_is),
    )

-- two events with one call, after the same events and at one clock, are the same, where the route gives one mux
pub same_what : (R : Routes) → ((k : ℕ) (f : Flow) (m n : ℕ) → R k f m → R k f n → m ≡ n)
    → (stage : Stage) (past : List Event) (clock : ℕ) (a b : What)
    → call_of a ≡ call_of b → MayCome stage past clock a → MayCome stage past clock b → IsRouted R stage a
    → IsRouted R stage b → a ≡ b
same_what R one stage past clock (Publish v) (Publish w) e p q r t =
    let n : v.0 ≡ w.0 = cc in ap (λ (x : ℕ). Publish (record { 0 = x })) n
same_what R one stage past clock (Switch m v) (Switch n w) e p q r t =
    let a : m.0 ≡ n.0 = cc
    in let b : v.0 ≡ w.0 = cc
    in λ i. Switch (record { 0 = a i }) (record { 0 = b i })
same_what R one stage past clock (Steer k m) (Steer j n) e p q r t =
    let a : k ≡ j = cc
    in let r' : IsRouted R stage (Steer j m) = subst (λ (x : ℕ). IsRouted R stage (Steer x m)) a r
    in let b : m.0 ≡ n.0 = routed (segment_of stage j) q.2 r' t
    in λ i. Steer (a i) (record { 0 = b i }) where
      routed : (o : Option Segment) → is_some o ≡ true → IfSome o (λ s. R j s.flow m.0) → IfSome o (λ s. R j s.flow n.0)
          → m.0 ≡ n.0
      routed None is x y = absurd (cc)
      routed (Some s) is x y = one j s.flow m.0 n.0 x y
same_what R one stage past clock (Lose k hop) (Lose j came) e p q r t =
    let a : k ≡ j = cc
    in let b : hop ≡ came = cc
    in λ i. Lose (a i) (b i)
same_what R one stage past clock (Arrive k hop s v) (Arrive j came t' w) e p q r t =
    let a : k ≡ j = cc
    in let b : hop ≡ came = cc
    in let p' : IsArrival stage past clock j came s v =
    subst (λ (x : ℕ). IsArrival stage past clock x came s v) a
    (subst (λ (x : Hop). IsArrival stage past clock k x s v) b p)
    in let same = same_arrival stage past clock j came s t' v w p' q
    in λ i. Arrive (a i) (b i) (same.0 i) (same.1 i)
same_what R one stage past clock (Close s f c) (Close t' g d) e p q r t =
    let a : s ≡ t' = cc
    in let b : f ≡ g = cc
    in let c' : c ≡ d = p ∙ ((λ i. is_some (held stage past (a i) (b i))) ∙ sym q)
    in λ i. Close (a i) (b i) (c' i)
same_what R one stage past clock (Retire s h at u) (Retire t' i ta v) e p q r t =
    let a : s ≡ t' = cc
    in let b : h ≡ i = cc
    in let c : at.0 ≡ ta.0 = cc
    in let p' : IsRetirement stage.script.plan (timeout stage) (newest past) t' ta.0 u =
    subst (λ (x : ServerId). IsRetirement stage.script.plan (timeout stage) (newest past) x ta.0 u) a
    (subst (λ (x : ℕ). IsRetirement stage.script.plan (timeout stage) (newest past) s x u) c p.1)
    in let same = same_retirement stage.script.plan (timeout stage) (newest past) t' ta.0 u v p' q.1
    in λ j. Retire (a j) (b j) (record { 0 = c j }) (same j)
same_what R one stage past clock Sync Sync e p q r t = refl
same_what R one stage past clock _ _ e p q r t = absurd (cc)

next_step : (dues : List Due) (past : List Event) (a b : Event) (loss : Option Call) → ComesNext loss dues past a
    → ComesNext loss dues past b → (call_of a.what ≡ call_of b.what) × (a.clock.0 ≡ b.clock.0)
next_step dues past a b (Some l) p q = (p.0 ∙ sym q.0, p.1 ∙ sym q.1)
next_step dues past a b None p q = least_step (least dues) p q where
  least_step : (o : Option Due) → IsDueCall past a o → IsDueCall past b o → (call_of a.what ≡ call_of b.what)
      × (a.clock.0 ≡ b.clock.0)
  least_step None p q = absurd p
  least_step (Some d) p q = (p.0 ∙ sym q.0, p.1 ∙ sym q.1)

-- what comes next in a replay is one event
pub same_next : (R : Routes) → ((k : ℕ) (f : Flow) (m n : ℕ) → R k f m → R k f n → m ≡ n)
    → (fates : List Fate) (stage : Stage) (past : List Event) (a b : Event)
    → IsStep stage past a → IsStep stage past b → IsRouted R stage a.what → IsRouted R stage b.what
    → IsNextBy fates stage past a → IsNextBy fates stage past b → a ≡ b
same_next R one fates stage past a b sa sb ra rb na nb =
    let same = next_step (can_come (wire fates past) stage past) past a b (due_loss fates past) na nb
    in let sb' : MayCome stage past a.clock.0 b.what =
    subst (λ (x : ℕ). MayCome stage past x b.what) (sym same.1) sb.may
    in let what : a.what ≡ b.what = same_what R one stage past a.clock.0 a.what b.what same.0 sa.may sb' ra rb
    in λ i. record { clock = record { 0 = same.1 i }; what = what i }

-- FATES THAT ARE ALIKE AT EACH SENDING

abbrev pub IsAlike : Fate → Fate → Option Sending → Type 0
IsAlike f g None = Unit {0}
IsAlike f g (Some s) = f ≡ g

abbrev pub AreAlike : List Fate → List Fate → List Event → Type 0
AreAlike fates gates [] = Unit {0}
AreAlike fates gates (e ∷ past) =
    IsAlike (fate_now fates) (fate_now gates) (sending_of e.what) × AreAlike (before fates) (before gates) past

same_sent : (f g : Fate) (place clock : ℕ) (o : Option Sending) (dues more : List Underway) → IsAlike f g o
    → dues ≡ more → put_sent f place clock o dues ≡ put_sent g place clock o more
same_sent f g place clock None dues more alike e = e
same_sent f g place clock (Some s) dues more alike e = λ i. put_sent (alike i) place clock (Some s) (e i)

same_wire : (fates gates : List Fate) (past : List Event) → AreAlike fates gates past
    → wire fates past ≡ wire gates past
same_wire fates gates [] alike = refl
same_wire fates gates (e ∷ past) alike =
    same_sent (fate_now fates) (fate_now gates) _ _ (sending_of e.what) _ _ alike.0
    (ap (after_arrive e.what) (same_wire (before fates) (before gates) past alike.1))

same_loss_of : (f g : Fate) (o : Option Sending) → IsAlike f g o → loss_of_fate f o ≡ loss_of_fate g o
same_loss_of f g None alike = refl
same_loss_of f g (Some s) alike = ap (λ (x : Fate). loss_of_fate x (Some s)) alike

same_due_loss : (fates gates : List Fate) (past : List Event) → AreAlike fates gates past
    → due_loss fates past ≡ due_loss gates past
same_due_loss fates gates [] alike = refl
same_due_loss fates gates (e ∷ past) alike = same_loss_of (fate_now fates) (fate_now gates) (sending_of e.what) alike.0

-- what comes next by one list of fates, comes next by another that is alike
alike_next : (fates gates : List Fate) (stage : Stage) (past : List Event) (e : Event) → AreAlike fates gates past
    → IsNextBy fates stage past e → IsNextBy gates stage past e
alike_next fates gates stage past e alike next =
    subst (λ (w : List Underway). ComesNext (due_loss gates past) (can_come w stage past) past e)
    (same_wire fates gates past alike)
    (subst (λ (o : Option Call). ComesNext o (can_come (wire fates past) stage past) past e)
    (same_due_loss fates gates past alike) next)

abbrev pub IsSure : Rules → Type 0
IsSure F = (k : ℕ) (hop : Hop) (f g : Fate) → F k hop f → F k hop g → f ≡ g

alike_at : (F : Rules) → IsSure F → (f g : Fate) (o : Option Sending) → IfSome o (λ s. F s.packet s.hop f)
    → IfSome o (λ s. F s.packet s.hop g) → IsAlike f g o
alike_at F sure f g None p q = tt
alike_at F sure f g (Some s) p q = sure s.packet s.hop f g p q

are_alike : (R : Routes) (F : Rules) → IsSure F → (stage : Stage) (fates gates : List Fate) (past : List Event)
    → AreAnswered R F stage fates past → AreAnswered R F stage gates past → AreAlike fates gates past
are_alike R F sure stage fates gates [] p q = tt
are_alike R F sure stage fates gates (e ∷ past) p q = (
  alike_at F sure (fate_now fates) (fate_now gates) (sending_of e.what) p.0.1 q.0.1,
  are_alike R F sure stage
      (before fates) (before gates) past p.1 q.1,
)

-- THE WHOLE REPLAY

-- a replay so far, with its answers
pub record IsTold (R : Routes) (F : Rules) (stage : Stage) (fates : List Fate) (past : List Event) : Type 0 where
  pub run : Run stage past
  pub follows : Follows fates stage past
  pub answered : AreAnswered R F stage fates past

told_before : (R : Routes) (F : Rules) (stage : Stage) (fates : List Fate) (e : Event) (past : List Event)
    → IsTold R F stage fates (e ∷ past) → IsTold R F stage (before fates) past
told_before R F stage fates e past t = record { run = t.run.1; follows = t.follows.1; answered = t.answered.1 }

-- two that are equally long are the same
same_long : (R : Routes) → ((k : ℕ) (f : Flow) (m n : ℕ) → R k f m → R k f n → m ≡ n) → (F : Rules) → IsSure F
    → (stage : Stage) (fates gates : List Fate) (xs ys : List Event)
    → length xs ≡ length ys → IsTold R F stage fates xs → IsTold R F stage gates ys → xs ≡ ys
same_long R one F sure stage fates gates [] [] long t u = refl
same_long R one F sure stage fates gates [] (y ∷ ys) long t u = absurd (omega arith)
same_long R one F sure stage fates gates (x ∷ xs) [] long t u = absurd (omega arith)
same_long R one F sure stage fates gates (x ∷ xs) (y ∷ ys) long t u =
    let old : xs ≡ ys =
    same_long R one F sure stage (before fates) (before gates) xs ys (omega arith)
    (told_before R F stage fates x xs t) (told_before R F stage gates y ys u)
    in let t' : IsTold R F stage fates (x ∷ ys) = subst (λ (zs : List Event). IsTold R F stage fates (x ∷ zs)) old t
    in let alike : AreAlike (before gates) (before fates) ys =
    are_alike R F sure stage (before gates) (before fates) ys u.answered.1 t'.answered.1
    in let next : IsNextBy (before fates) stage ys y =
    alike_next (before gates) (before fates) stage ys y alike u.follows.0
    in let here : x ≡ y =
    same_next R one (before fates) stage ys x y t'.run.0 u.run.0 t'.answered.0.0 u.answered.0.0 t'.follows.0 next
    in λ i. here i ∷ old i

-- none goes on after one that is over
none_after : (fates : List Fate) (stage : Stage) (past : List Event) (e : Event) → IsOver fates stage past
    → IsNextBy fates stage past e → ⊥
none_after fates stage past e over next =
    subst (λ (dues : List Due). ComesNext None dues past e) over.none
    (subst (λ (o : Option Call). ComesNext o (can_come (wire fates past) stage past) past e) over.no_loss_due next)

-- none is longer than one that is over
not_longer : (R : Routes) → ((k : ℕ) (f : Flow) (m n : ℕ) → R k f m → R k f n → m ≡ n) → (F : Rules) → IsSure F
    → (stage : Stage) (fates gates : List Fate) (xs ys : List Event)
    → IsTold R F stage fates xs → IsOver fates stage xs → IsTold R F stage gates ys → length ys ≤ length xs
not_longer R one F sure stage fates gates xs [] t over u = omega arith
not_longer R one F sure stage fates gates xs (y ∷ ys) t over u =
    let u' = told_before R F stage gates y ys u
    in let old : length ys ≤ length xs = not_longer R one F sure stage fates (before gates) xs ys t over u'
    in elim (cases_lt (length ys) (length xs)) [
      | inl shorter ↦ omega arith
      | inr equal ↦
          let same : ys ≡ xs = same_long R one F sure stage (before gates) fates ys xs (omega arith) u' t
          in let v : IsTold R F stage gates (y ∷ xs) =
          subst (λ (zs : List Event). IsTold R F stage gates (y ∷ zs)) same u
          in let alike = are_alike R F sure stage (before gates) fates xs v.answered.1 t.answered
          in absurd (none_after fates stage xs y over (alike_next (before gates) fates stage xs y alike v.follows.0))
    ]

-- two that are over are the same
pub same_past : (R : Routes) → ((k : ℕ) (f : Flow) (m n : ℕ) → R k f m → R k f n → m ≡ n) → (F : Rules) → IsSure F
    → (stage : Stage) (fates gates : List Fate) (xs ys : List Event)
    → IsTold R F stage fates xs → IsOver fates stage xs → IsTold R F stage gates ys → IsOver gates stage ys → xs ≡ ys
same_past R one F sure stage fates gates xs ys t over u ended =
    let a = not_longer R one F sure stage fates gates xs ys t over u
    in let b = not_longer R one F sure stage gates fates ys xs u ended t
    in same_long R one F sure stage fates gates xs ys (omega arith) t u

-- WITH A ROUTE AND A RULE THAT ANSWER ONE THING

one_mux : (mux : ℕ → Flow → ℕ) (k : ℕ) (f : Flow) (m n : ℕ) → RouteBy mux k f m → RouteBy mux k f n → m ≡ n
one_mux mux k f m n p q = p ∙ sym q

one_fate : (fate : ℕ → Hop → Fate) → IsSure (RuleBy fate)
one_fate fate k hop f g p q = p ∙ sym q

pub next_law : (mux : ℕ → Flow → ℕ) (fates : List Fate) (stage : Stage) (past : List Event) (a b : Event)
    → IsNextIn mux fates stage past a → IsNextIn mux fates stage past b → a ≡ b
next_law mux fates stage past a b p q =
    same_next (RouteBy mux) (one_mux mux) fates stage past a b p.step q.step p.routed q.routed p.next q.next

told : (R : Routes) (F : Rules) (h : History) (r : IsReplay R F h) → IsTold R F h.stage r.fates (reverse h.events)
told R F h r = record { run = r.run.run; follows = r.follows; answered = r.account.answered }

of_one_stage : (mux : ℕ → Flow → ℕ) (fate : ℕ → Hop → Fate) (stage : Stage) (xs ys : List Event)
    → IsReplay (RouteBy mux) (RuleBy fate) (record { stage = stage; events = xs })
    → IsReplay (RouteBy mux) (RuleBy fate) (record { stage = stage; events = ys }) → xs ≡ ys
of_one_stage mux fate stage xs ys p q =
    let same : reverse xs ≡ reverse ys =
    same_past (RouteBy mux) (one_mux mux) (RuleBy fate) (one_fate fate) stage p.fates q.fates (reverse xs)
    (reverse ys) (told _ _ _ p) p.over (told _ _ _ q) q.over
    in sym (reverse-reverse xs) ∙ (ap (λ (zs : List Event). reverse zs) same ∙ reverse-reverse ys)

pub replay_law : (a b : History) → a.stage ≡ b.stage → (mux : ℕ → Flow → ℕ) (fate : ℕ → Hop → Fate)
    → IsReplay (RouteBy mux) (RuleBy fate) a → IsReplay (RouteBy mux) (RuleBy fate) b → a.events ≡ b.events
replay_law a b same mux fate p q =
    of_one_stage mux fate b.stage a.events b.events
    (subst (λ (stage : Stage). IsReplay (RouteBy mux) (RuleBy fate) (record { stage = stage; events = a.events }))
    same p) q

-- What holds of each run: versions, labels, sendings, owners, and what a retired shard holds.
use Rattle.std.proofs.Common.{◌≡◌, ℕ, suc, ◌+◌, ◌<◌, ◌≤◌, Bool, true, false, cond, ◌&&◌, ◌||◌, inl, inr, List, [], ◌∷◌}
use Rattle.std.proofs.Common.{Option, Some, None, is_some, length, refl, sym, ap, ◌∙◌, subst, arith, eqb}
use Rattle.std.proofs.lemmas.Bool.{cases_Bool, cases_eq, and_parts, or_cases, or_left, or_right, eqb-true}
use Rattle.std.proofs.lemmas.Bool.Decides.{nat_tests}
use Rattle.std.proofs.lemmas.Option.{same_Some}
use Rattle.bm_base.specs.declared.ids.ServerId.{ServerId}
use Rattle.bm_base.specs.declared.ids.MuxId.{MuxId}
use Rattle.bm_base.specs.declared.flow.Flow.{Flow}
use Rattle.bm_base.specs.declared.flow.Segment.{Segment}
use Rattle.bm_base.specs.declared.label.Entry.{Entry}
use Rattle.bm_base.specs.declared.label.Label.{Label}
use Rattle.bm_base.specs.declared.label.Hop.{Hop}
use Rattle.bm_base.specs.declared.label.Past.{Past}
use Rattle.bm_base.specs.declared.label.Hop.TheVariants.{Direct, Chained, Twice}
use Rattle.bm_table.specs.declared.plan.Retirement.{Retirement}
use Rattle.bm_table.specs.declared.plan.Retirement.TheVariants.{Done, NotDrained, TooEarly}
use Rattle.bm_core.specs.declared.events.Verdict.{Verdict}
use Rattle.bm_core.specs.declared.events.Verdict.TheVariants.{Drop}
use Rattle.bm_core.specs.declared.events.What.{What}
use Rattle.bm_core.specs.declared.events.What.TheVariants.{Publish, Switch, Steer, Lose, Arrive, Close, Retire, Sync}
use Rattle.bm_core.specs.declared.events.Why.TheVariants.{Retired}
use Rattle.bm_core.specs.declared.events.Local.{Local}
use Rattle.bm_core.specs.declared.events.Event.{Event}
use Rattle.bm_core.specs.declared.events.Stage.{Stage}
use Rattle.bm_table.specs.Tables.{same_server, table, IsRetirement}
use Rattle.bm_base.specs.Segments.{same_flow}
use Rattle.bm_core.specs.Past.{segment_of, is_of, bucket, shard, timeout, published_by, newest, switched, version_at}
use Rattle.bm_core.specs.Past.{labelled, label_after, label_of, version_of, is_forward, hop_after, is_direct, sends}
use Rattle.bm_core.specs.Past.{is_sent, Holding, after_verdict, after_arrival, is_done, retires, retired, held_after}
use Rattle.bm_core.specs.Past.{held, is_accept, Accepted, accept_after, accept_of, accept_before, owner_after, owner}
use Rattle.bm_base.specs.Labels.{arrives_at, hop_number}
use Rattle.bm_base.proofs.Hops.{next_number, same_number}
use Rattle.bm_core.specs.Verdicts.{onward, local_at, verdict_of, verdict_at}
use Rattle.bm_core.specs.Stages.{IsSound}
use Rattle.bm_core.specs.Runs.{last_clock, IsArrival, MayCome, IsStep, Run}
use Rattle.bm_table.proofs.Tables.{same_server-true, since, retirement_late}

pub same_flow-true : (a b : Flow) → same_flow a b ≡ true → a ≡ b
same_flow-true a b h = grind (arith, nat_tests, and_parts)

pub same_flow_refl : (a : Flow) → same_flow a a ≡ true
same_flow_refl a = grind (arith, nat_tests)

-- VERSIONS

-- publishing only adds
pub newest_grows : (stage : Stage) (past : List Event) (clock : ℕ) (what : What) → MayCome stage past clock what
    → newest past ≤ published_by what (newest past)
newest_grows stage past clock (Publish v) may = omega arith
newest_grows stage past clock (Switch m v) may = omega arith
newest_grows stage past clock (Steer k m) may = omega arith
newest_grows stage past clock (Lose k hop) may = omega arith
newest_grows stage past clock (Arrive k hop server verdict) may = omega arith
newest_grows stage past clock (Close server flow closed) may = omega arith
newest_grows stage past clock (Retire server h at result) may = omega arith
newest_grows stage past clock Sync may = omega arith

newest_within_step : (stage : Stage) (past : List Event) (clock : ℕ) (what : What) → MayCome stage past clock what
    → newest past ≤ length stage.script.plan.changes
    → published_by what (newest past) ≤ length stage.script.plan.changes
newest_within_step stage past clock (Publish v) may h = may.1
newest_within_step stage past clock (Switch m v) may h = h
newest_within_step stage past clock (Steer k m) may h = h
newest_within_step stage past clock (Lose k hop) may h = h
newest_within_step stage past clock (Arrive k hop server verdict) may h = h
newest_within_step stage past clock (Close server flow closed) may h = h
newest_within_step stage past clock (Retire server x at result) may h = h
newest_within_step stage past clock Sync may h = h

-- the newest published version is one of the plan
pub newest_within : (stage : Stage) (past : List Event) → Run stage past
    → newest past ≤ length stage.script.plan.changes
newest_within stage [] run = omega arith
newest_within stage (e ∷ past) run =
    newest_within_step stage past e.clock.0 e.what run.0.may (newest_within stage past run.1)

version_step : (stage : Stage) (past : List Event) (clock : ℕ) (what : What) (m : MuxId) → MayCome stage past clock what
    → (version_at past m).0 ≤ newest past → (switched what m (version_at past m)).0 ≤ published_by what (newest past)
version_step stage past clock (Publish v) m may h = omega arith
version_step stage past clock (Switch x v) m may h = grind (arith, nat_tests)
version_step stage past clock (Steer k x) m may h = h
version_step stage past clock (Lose k hop) m may h = h
version_step stage past clock (Arrive k hop server verdict) m may h = h
version_step stage past clock (Close server flow closed) m may h = h
version_step stage past clock (Retire server x at result) m may h = h
version_step stage past clock Sync m may h = h

-- each mux is at a published version
pub version_published : (stage : Stage) (past : List Event) → Run stage past → (m : MuxId)
    → (version_at past m).0 ≤ newest past
version_published stage [] run m = omega arith
version_published stage (e ∷ past) run m =
    version_step stage past e.clock.0 e.what m run.0.may (version_published stage past run.1 m)

-- LABELS

-- a label has the entry of its version, which was published
pub record IsLabel (stage : Stage) (past : List Event) (k : ℕ) (l : Label) : Type 0 where
  pub segment : Segment
  pub is_segment : segment_of stage k ≡ Some segment
  pub published : l.version.0 ≤ newest past
  pub entry : l.entry ≡ table stage.script.plan l.version.0 (bucket stage segment.flow)

new_label : (stage : Stage) (past : List Event) → Run stage past → (m : MuxId) (k : ℕ) (l : Label) (o : Option Segment)
    → segment_of stage k ≡ o → labelled stage past m o ≡ Some l → IsLabel stage past k l
new_label stage past run m k l None is e = absurd (cc)
new_label stage past run m k l (Some s) is e =
    let p : (version_at past m).0 ≤ newest past = version_published stage past run m
    in subst (λ (x : Option Label). IsLabelled x) e
    (record { segment = s; is_segment = is; published = p; entry = refl }) where
      IsLabelled : Option Label → Type 0
      IsLabelled None = Unit {0}
      IsLabelled (Some x) = IsLabel stage past k x

-- publishing more keeps a label
keep_label : (stage : Stage) (past : List Event) (e : Event) (k : ℕ) (l : Label) → newest past ≤ newest (e ∷ past)
    → IsLabel stage past k l → IsLabel stage (e ∷ past) k l
keep_label stage past e k l h i =
    record { segment = i.segment; is_segment = i.is_segment; published = omega arith; entry = i.entry }

label_step : (stage : Stage) (past : List Event) → Run stage past → (k : ℕ) (l : Label) (what : What)
    → label_after stage past what k (label_of stage past k) ≡ Some l
    → ((label_of stage past k ≡ Some l) → IsLabel stage past k l) → IsLabel stage past k l
label_step stage past run k l (Steer packet m) e old =
    elim (cases_Bool (eqb packet k)) [
      | inl same ↦ new_label stage past run m k l (segment_of stage k) refl (rw same at e)
      | inr other ↦ old (rw other at e)
    ]
label_step stage past run k l (Publish v) e old = old e
label_step stage past run k l (Switch x v) e old = old e
label_step stage past run k l (Lose packet hop) e old = old e
label_step stage past run k l (Arrive packet hop server verdict) e old = old e
label_step stage past run k l (Close server flow closed) e old = old e
label_step stage past run k l (Retire server x at result) e old = old e
label_step stage past run k l Sync e old = old e

pub label_is : (stage : Stage) (past : List Event) → Run stage past → (k : ℕ) (l : Label)
    → label_of stage past k ≡ Some l → IsLabel stage past k l
label_is stage [] run k l e = absurd (cc)
label_is stage (x ∷ past) run k l e =
    keep_label stage past x k l (newest_grows stage past x.clock.0 x.what run.0.may)
    (label_step stage past run.1 k l x.what e (label_is stage past run.1 k l))

-- SENDINGS

labelled_sent_step : (stage : Stage) (past : List Event) (k : ℕ) (l : Label) (what : What)
    → label_after stage past what k (label_of stage past k) ≡ Some l
    → (label_of stage past k ≡ Some l → is_sent past k Direct ≡ true)
    → (sends what k Direct || is_sent past k Direct) ≡ true
labelled_sent_step stage past k l (Steer packet m) e old =
    elim (cases_Bool (eqb packet k)) [
      | inl same ↦ rw same refl
      | inr other ↦ or_right _ _ (old (rw other at e))
    ]
labelled_sent_step stage past k l (Publish v) e old = old e
labelled_sent_step stage past k l (Switch x v) e old = old e
labelled_sent_step stage past k l (Lose packet hop) e old = old e
labelled_sent_step stage past k l (Arrive packet hop server verdict) e old = or_right _ _ (old e)
labelled_sent_step stage past k l (Close server flow closed) e old = old e
labelled_sent_step stage past k l (Retire server x at result) e old = old e
labelled_sent_step stage past k l Sync e old = old e

-- a packet with a label was steered
pub labelled_sent : (stage : Stage) (past : List Event) (k : ℕ) (l : Label) → label_of stage past k ≡ Some l
    → is_sent past k Direct ≡ true
labelled_sent stage [] k l e = absurd (cc)
labelled_sent stage (x ∷ past) k l e = labelled_sent_step stage past k l x.what e (labelled_sent stage past k l)

-- a packet has one Steer, so what it was labelled it stays
pub label_stays : (stage : Stage) (past : List Event) (e : Event) (k : ℕ) (l : Label) → IsStep stage past e
    → label_of stage past k ≡ Some l → label_of stage (e ∷ past) k ≡ Some l
label_stays stage past e k l step is = go e.what step.may where
  go : (what : What) → MayCome stage past e.clock.0 what
      → label_after stage past what k (label_of stage past k) ≡ Some l
  go (Steer packet m) may = elim (cases_Bool (eqb packet k)) [
    | inl same ↦
        let eq : packet ≡ k = eqb-true packet k same
        in let sent : is_sent past k Direct ≡ true = labelled_sent stage past k l is
        in let un : is_sent past k Direct ≡ false = subst (λ n. is_sent past n Direct ≡ false) eq may.1
        in absurd (cc)
    | inr other ↦ rw other is
  ]
  go (Publish v) may = is
  go (Switch x v) may = is
  go (Lose packet hop) may = is
  go (Arrive packet hop server verdict) may = is
  go (Close server flow closed) may = is
  go (Retire server x at result) may = is
  go Sync may = is

-- a copy that an arrival sends is of its packet, was forwarded, and makes the next hop
pub arrival_sends : (packet k : ℕ) (came next : Hop) (server : ServerId) (verdict : Verdict)
    → sends (Arrive packet came server verdict) k next ≡ true
    → (packet ≡ k) × (is_forward verdict ≡ true) × (hop_after came ≡ Some next)
arrival_sends packet k came next server verdict e = grind (arith, nat_tests)

pub hop_before : (hop came next : Hop) → hop_after hop ≡ Some next → hop_after came ≡ Some next → came ≡ hop
hop_before hop came next h c = grind arith

-- a Steer sends no later hop
pub steer_sends : (packet k : ℕ) (m : MuxId) (hop next : Hop) → hop_after hop ≡ Some next
    → sends (Steer packet m) k next ≡ false
steer_sends packet k m hop next h = grind (arith, nat_tests)

steer_direct : (packet k : ℕ) (m : MuxId) (hop : Hop) → sends (Steer packet m) k hop ≡ true → hop ≡ Direct
steer_direct packet k m hop e = grind (arith, nat_tests)

sent_before_step : (stage : Stage) (past : List Event) (clock k : ℕ) (earlier hop : Hop) (what : What)
    → MayCome stage past clock what → hop_number earlier ≤ hop_number hop
    → ((h : Hop) → hop_number earlier ≤ hop_number h → is_sent past k h ≡ true → is_sent past k earlier ≡ true)
    → (sends what k hop || is_sent past k hop) ≡ true → (sends what k earlier || is_sent past k earlier) ≡ true
sent_before_step stage past clock k earlier hop (Steer packet m) may order old t =
    elim (or_cases (sends (Steer packet m) k hop) _ t) [
      | inl now ↦
          let direct : hop ≡ Direct = steer_direct packet k m hop now
          in let first : hop_number hop ≡ 0 = ap hop_number direct
          in let same : earlier ≡ hop = same_number earlier hop (omega arith)
          in or_left _ _ (subst (λ (h : Hop). sends (Steer packet m) k h ≡ true) (sym same) now)
      | inr before ↦ or_right (sends (Steer packet m) k earlier) _ (old hop order before)
    ]
sent_before_step stage past clock k earlier hop (Arrive packet came server verdict) may order old t =
    elim (or_cases (sends (Arrive packet came server verdict) k hop) _ t) [
      | inl now ↦
          let parts = arrival_sends packet k came hop server verdict now
          in let next : hop_number hop ≡ suc (hop_number came) = next_number came hop parts.2
          in elim (cases_eq (hop_number earlier) (hop_number hop)) [
            | inl last ↦
                let same : earlier ≡ hop = same_number earlier hop last
                in or_left _ _
                (subst (λ (h : Hop). sends (Arrive packet came server verdict) k h ≡ true) (sym same) now)
            | inr less ↦ or_right (sends (Arrive packet came server verdict) k earlier) _
                (old came (omega arith) (subst (λ (n : ℕ). is_sent past n came ≡ true) parts.0 may.sent))
          ]
      | inr before ↦ or_right (sends (Arrive packet came server verdict) k earlier) _ (old hop order before)
    ]
sent_before_step stage past clock k earlier hop (Publish v) may order old t = old hop order t
sent_before_step stage past clock k earlier hop (Switch y v) may order old t = old hop order t
sent_before_step stage past clock k earlier hop (Lose packet came) may order old t = old hop order t
sent_before_step stage past clock k earlier hop (Close server flow closed) may order old t = old hop order t
sent_before_step stage past clock k earlier hop (Retire server y at result) may order old t = old hop order t
sent_before_step stage past clock k earlier hop Sync may order old t = old hop order t

-- a packet that was sent on a hop was sent on each hop before it
pub sent_before : (stage : Stage) (past : List Event) → Run stage past → (k : ℕ) (earlier hop : Hop)
    → hop_number earlier ≤ hop_number hop → is_sent past k hop ≡ true → is_sent past k earlier ≡ true
sent_before stage [] run k earlier hop order e = absurd (cc)
sent_before stage (x ∷ past) run k earlier hop order e =
    sent_before_step stage past x.clock.0 k earlier hop x.what run.0.may order (sent_before stage past run.1 k earlier) e

-- so it was steered
pub sent_steered : (stage : Stage) (past : List Event) → Run stage past → (k : ℕ) (hop : Hop)
    → is_sent past k hop ≡ true → is_sent past k Direct ≡ true
sent_steered stage past run k hop e = sent_before stage past run k Direct hop (omega arith) e

-- OWNERS

-- an Accept is of a direct copy
accept_direct : (hop : Hop) (entry : Entry) (server : ServerId) → is_direct hop ≡ true
    → arrives_at entry hop ≡ Some server → entry.cur ≡ server
accept_direct Direct entry server d e = cc
accept_direct Chained entry server d e = absurd (cc)
accept_direct Twice entry server d e = absurd (cc)

accepted_direct : (local : Local) (timeout clock : ℕ) (hop : Hop) (onto : Option Past) (s : Segment)
    → is_accept (verdict_of local timeout clock hop onto s) ≡ true → (is_direct hop ≡ true) × (local.retired ≡ false)
accepted_direct local timeout clock hop onto s e = grind arith

-- an Accept was made by the current server of its version's table, for which see the flow's bucket
pub record IsAccepted (stage : Stage) (past : List Event) (f : Flow) (a : Accepted) : Type 0 where
  pub place : a.place < length past
  pub published : a.version ≤ newest past
  pub server : (table stage.script.plan a.version (bucket stage f)).cur ≡ a.server

pub is_of_flow : (o : Option Segment) (s : Segment) (f : Flow) → o ≡ Some s → is_of o f ≡ true → s.flow ≡ f
is_of_flow o s f e h = let t : same_flow s.flow f ≡ true = rw e at h in same_flow-true s.flow f t

new_accept : (stage : Stage) (past : List Event) (e : Event) (k : ℕ) (hop : Hop) (server : ServerId) (verdict : Verdict)
    (f : Flow) (a : Accepted)
    → Run stage past → newest past ≤ newest (e ∷ past) → IsArrival stage past e.clock.0 k hop server verdict
    → is_accept verdict ≡ true → is_of (segment_of stage k) f ≡ true
    → Some (record { server = server; version = version_of (label_of stage past k); place = length past }) ≡ Some a
    → IsAccepted stage (e ∷ past) f a
new_accept stage past e k hop server verdict f a run grows may acc of eq =
    let l : IsLabel stage past k may.label = label_is stage past run k may.label may.is_label
    in let same : l.segment ≡ may.segment = cc (l.is_segment, may.is_segment)
    in let flow : l.segment.flow ≡ f = is_of_flow (segment_of stage k) l.segment f l.is_segment of
    in let acc' : is_accept (verdict_at stage past e.clock.0 may.label hop server may.segment) ≡ true =
    rw may.verdict_is at acc
    in let direct : is_direct hop ≡ true =
    (accepted_direct (local_at stage past server may.segment.flow) (timeout stage) e.clock.0 hop
    (onward may.label.entry hop) may.segment acc').0
    in let cur : may.label.entry.cur ≡ server = accept_direct hop may.label.entry server direct may.place
    in let version : version_of (label_of stage past k) ≡ may.label.version.0 = rw may.is_label refl
    in let here : (table stage.script.plan (version_of (label_of stage past k)) (bucket stage f)).cur ≡ server =
    rw (version, ← flow) (ap (λ (x : Entry). x.cur) (sym l.entry) ∙ cur)
    in let p : may.label.version.0 ≤ newest past = l.published
    in let q : version_of (label_of stage past k) ≤ newest (e ∷ past) = omega arith
    in let made : IsAccepted stage (e ∷ past) f
    (record { server = server; version = version_of (label_of stage past k); place = length past }) =
    record { place = omega arith; published = q; server = here }
    in subst (λ (x : Accepted). IsAccepted stage (e ∷ past) f x) (same_Some _ _ eq) made

keep_accept : (stage : Stage) (past : List Event) (e : Event) (f : Flow) (a : Accepted)
    → newest past ≤ newest (e ∷ past) → IsAccepted stage past f a → IsAccepted stage (e ∷ past) f a
keep_accept stage past e f a h i =
    let p : a.place < length past = i.place
    in let q : a.version ≤ newest past = i.published
    in record { place = omega arith; published = omega arith; server = i.server }

accept_step : (stage : Stage) (past : List Event) (e : Event) (f : Flow) (a : Accepted) (what : What) → Run stage past
    → newest past ≤ newest (e ∷ past) → MayCome stage past e.clock.0 what
    → (accept_of stage past f ≡ Some a → IsAccepted stage past f a)
    → accept_after stage past what f (accept_of stage past f) ≡ Some a → IsAccepted stage (e ∷ past) f a
accept_step stage past e f a (Arrive k hop server verdict) run grows may old eq =
    elim (cases_Bool (is_accept verdict && is_of (segment_of stage k) f)) [
      | inl now ↦
          let parts = and_parts (is_accept verdict) (is_of (segment_of stage k) f) now
          in new_accept stage past e k hop server verdict f a run grows may parts.0 parts.1 (rw now at eq)
      | inr before ↦ keep_accept stage past e f a grows (old (rw before at eq))
    ]
accept_step stage past e f a (Steer k m) run grows may old eq = keep_accept stage past e f a grows (old eq)
accept_step stage past e f a (Publish v) run grows may old eq = keep_accept stage past e f a grows (old eq)
accept_step stage past e f a (Switch y v) run grows may old eq = keep_accept stage past e f a grows (old eq)
accept_step stage past e f a (Lose packet hop) run grows may old eq = keep_accept stage past e f a grows (old eq)
accept_step stage past e f a (Close server flow closed) run grows may old eq =
    keep_accept stage past e f a grows (old eq)
accept_step stage past e f a (Retire server y at result) run grows may old eq =
    keep_accept stage past e f a grows (old eq)
accept_step stage past e f a Sync run grows may old eq = keep_accept stage past e f a grows (old eq)

pub accept_is : (stage : Stage) (past : List Event) → Run stage past → (f : Flow) (a : Accepted)
    → accept_of stage past f ≡ Some a → IsAccepted stage past f a
accept_is stage [] run f a e = absurd (cc)
accept_is stage (x ∷ past) run f a e =
    accept_step stage past x f a x.what run.1 (newest_grows stage past x.clock.0 x.what run.0.may) run.0.may
    (accept_is stage past run.1 f a) e

new_owner : (stage : Stage) (past : List Event) (o : Option Segment) (s : Segment) (a : Accepted) → Run stage past
    → o ≡ Some s → accept_before stage past o ≡ Some a → IsAccepted stage past s.flow a
new_owner stage past None s a run is e = absurd (cc)
new_owner stage past (Some t) s a run is e =
    let same : t ≡ s = same_Some _ _ is
    in let e' : accept_of stage past s.flow ≡ Some a = rw same at e
    in accept_is stage past run s.flow a e'

owner_step : (stage : Stage) (past : List Event) (e : Event) (k : ℕ) (s : Segment) (a : Accepted) (what : What)
    → Run stage past → newest past ≤ newest (e ∷ past) → segment_of stage k ≡ Some s
    → (owner stage past k ≡ Some a → IsAccepted stage past s.flow a)
    → owner_after stage past what k (owner stage past k) ≡ Some a → IsAccepted stage (e ∷ past) s.flow a
owner_step stage past e k s a (Steer packet m) run grows is old eq =
    elim (cases_Bool (eqb packet k)) [
      | inl same ↦ keep_accept stage past e s.flow a grows
          (new_owner stage past (segment_of stage k) s a run is (rw same at eq))
      | inr other ↦ keep_accept stage past e s.flow a grows (old (rw other at eq))
    ]
owner_step stage past e k s a (Arrive packet hop server verdict) run grows is old eq =
    keep_accept stage past e s.flow a grows (old eq)
owner_step stage past e k s a (Publish v) run grows is old eq = keep_accept stage past e s.flow a grows (old eq)
owner_step stage past e k s a (Switch y v) run grows is old eq = keep_accept stage past e s.flow a grows (old eq)
owner_step stage past e k s a (Lose packet hop) run grows is old eq = keep_accept stage past e s.flow a grows (old eq)
owner_step stage past e k s a (Close server flow closed) run grows is old eq =
    keep_accept stage past e s.flow a grows (old eq)
owner_step stage past e k s a (Retire server y at result) run grows is old eq =
    keep_accept stage past e s.flow a grows (old eq)
owner_step stage past e k s a Sync run grows is old eq = keep_accept stage past e s.flow a grows (old eq)

-- a packet's owner accepted its flow as the current server of an earlier table
pub owner_is : (stage : Stage) (past : List Event) → Run stage past → (k : ℕ) (s : Segment) (a : Accepted)
    → segment_of stage k ≡ Some s → owner stage past k ≡ Some a → IsAccepted stage past s.flow a
owner_is stage [] run k s a is e = absurd (cc)
owner_is stage (x ∷ past) run k s a is e =
    owner_step stage past x k s a x.what run.1 (newest_grows stage past x.clock.0 x.what run.0.may) is
    (owner_is stage past run.1 k s a is) e

-- RETIRED SHARDS

-- a packet that finds its shard retired, or its flow held, isn't forwarded, and a retired shard accepts nothing
pub retired_not_accepted : (local : Local) (timeout clock : ℕ) (hop : Hop) (onto : Option Past) (s : Segment)
    → local.retired ≡ true → verdict_of local timeout clock hop onto s ≡ Drop Retired
retired_not_accepted local timeout clock hop onto s e = rw e refl

pub held_not_forwarded : (local : Local) (timeout clock : ℕ) (hop : Hop) (onto : Option Past) (s : Segment)
    → is_some local.held ≡ true → is_forward (verdict_of local timeout clock hop onto s) ≡ false
held_not_forwarded local timeout clock hop onto s e = grind arith

none_after : (place : ℕ) (verdict : Verdict) (s : Segment) (before : Option Holding) → before ≡ None
    → is_accept verdict ≡ false → after_verdict place verdict s before ≡ None
none_after place verdict s before e stays = grind arith

pub none_stays : (place : ℕ) (here : Bool) (verdict : Verdict) (o : Option Segment) (f : Flow) (before : Option Holding)
    → before ≡ None → ((s : Segment) → o ≡ Some s → here ≡ true → s.flow ≡ f → is_accept verdict ≡ false)
    → after_arrival place here verdict o f before ≡ None
none_stays place here verdict None f before e stays = e
none_stays place here verdict (Some s) f before e stays =
    elim (cases_Bool (here && same_flow s.flow f)) [
      | inl this ↦
          let parts = and_parts here (same_flow s.flow f) this
          in rw this (none_after place verdict s before e (stays s refl parts.0 (same_flow-true s.flow f parts.1)))
      | inr other ↦ rw other e
    ]

retired_accepts_none : (stage : Stage) (past : List Event) (clock k : ℕ) (hop : Hop) (server : ServerId)
    (verdict : Verdict) (s : ServerId) (f : Flow)
    → retired past s (shard stage f) ≡ true → IsArrival stage past clock k hop server verdict
    → (t : Segment) → segment_of stage k ≡ Some t → same_server server s ≡ true → t.flow ≡ f → is_accept verdict ≡ false
retired_accepts_none stage past clock k hop server verdict s f ret may t is here flow =
    let at : server ≡ s = same_server-true server s here
    in let same : t ≡ may.segment = same_Some _ _ (sym is ∙ may.is_segment)
    in let flow' : f ≡ may.segment.flow = sym flow ∙ ap (λ (x : Segment). x.flow) same
    in let r : retired past server (shard stage may.segment.flow) ≡ true = rw (at, ← flow') ret
    in let v : verdict_at stage past clock may.label hop server may.segment ≡ Drop Retired =
    retired_not_accepted (local_at stage past server may.segment.flow) (timeout stage) clock hop
    (onward may.label.entry hop) may.segment r
    in rw (may.verdict_is, v) refl

pub none_unless : (t : Bool) (before : Option Holding) → (t ≡ false → before ≡ None) → cond t None before ≡ None
none_unless true before h = refl
none_unless false before h = h refl

retired_none_step : (stage : Stage) (past : List Event) (clock : ℕ) (what : What) (s : ServerId) (f : Flow)
    → MayCome stage past clock what
    → (retired past s (shard stage f) ≡ true → held stage past s f ≡ None)
    → (retires what s (shard stage f) || retired past s (shard stage f)) ≡ true
    → held_after stage (length past) what s f (held stage past s f) ≡ None
retired_none_step stage past clock (Arrive k hop server verdict) s f may old ret =
    none_stays (length past) (same_server server s) verdict (segment_of stage k) f (held stage past s f) (old ret)
    (retired_accepts_none stage past clock k hop server verdict s f ret may)
retired_none_step stage past clock (Close server flow closed) s f may old ret =
    none_unless (same_server server s && same_flow flow f && closed) (held stage past s f) (λ off. old ret)
retired_none_step stage past clock (Retire server h at result) s f may old ret =
    none_unless (same_server server s && eqb h (shard stage f) && is_done result) (held stage past s f)
    (λ off. old (rw off at ret))
retired_none_step stage past clock (Steer k m) s f may old ret = old ret
retired_none_step stage past clock (Publish v) s f may old ret = old ret
retired_none_step stage past clock (Switch m v) s f may old ret = old ret
retired_none_step stage past clock (Lose k hop) s f may old ret = old ret
retired_none_step stage past clock Sync s f may old ret = old ret

-- a retired shard holds nothing
pub retired_none : (stage : Stage) (past : List Event) → Run stage past → (s : ServerId) (f : Flow)
    → retired past s (shard stage f) ≡ true → held stage past s f ≡ None
retired_none stage [] run s f ret = refl
retired_none stage (e ∷ past) run s f ret =
    retired_none_step stage past e.clock.0 e.what s f run.0.may (retired_none stage past run.1 s f) ret

done_is : (result : Retirement) → is_done result ≡ true → result ≡ Done
done_is Done e = refl
done_is NotDrained e = absurd (cc)
done_is (TooEarly b) e = absurd (cc)

-- a version that has the bucket at the server is not the newest, and its stamp is long past
abbrev pub IsLong : Stage → ℕ → ServerId → ℕ → ℕ → Type 0
IsLong stage clock s newest b =
    (v : ℕ) → v ≤ length stage.script.plan.changes → (table stage.script.plan v b).cur ≡ s → (v < newest)
    × (since (table stage.script.plan v b) + timeout stage < clock)

long_later : (stage : Stage) (clock later : ℕ) (s : ServerId) (newest more b : ℕ) → clock ≤ later → newest ≤ more
    → IsLong stage clock s newest b → IsLong stage later s more b
long_later stage clock later s newest more b h k long v l here = let p = long v l here in (omega arith, omega arith)

long_step : (stage : Stage) → IsSound stage → (past : List Event) (clock : ℕ) (what : What) (s : ServerId) (h b : ℕ)
    → Run stage past → b < stage.script.plan.buckets → last_clock past ≤ clock
    → MayCome stage past clock what → (retired past s h ≡ true → IsLong stage (last_clock past) s (newest past) b)
    → (retires what s h || retired past s h) ≡ true
    → IsLong stage clock s (newest past) b
long_step stage sound past clock (Retire server x at result) s h b run inside later may old ret =
    elim (or_cases (retires (Retire server x at result) s h) _ ret) [
      | inl now ↦
          let parts = and_parts (same_server server s && eqb x h) (is_done result) now
          in let here : server ≡ s = same_server-true server s (and_parts _ _ parts.0).0
          in let done : IsRetirement stage.script.plan (timeout stage) (newest past) server at.0 Done =
          subst (λ (r : Retirement). IsRetirement stage.script.plan (timeout stage) (newest past) server at.0 r)
          (done_is result parts.1) may.1
          in let at_clock : at.0 < clock = may.0
          in λ v l cur.
          let p = retirement_late stage.script.plan sound.script.plan (timeout stage) (newest past) b v at.0 server done
          (newest_within stage past run) l inside (cur ∙ sym here)
          in (p.0, omega arith)
      | inr before ↦ long_later stage (last_clock past) clock s (newest past) (newest past) b later (omega arith)
          (old before)
    ]
long_step stage sound past clock (Arrive k hop server verdict) s h b run inside later may old ret =
    long_later stage (last_clock past) clock s (newest past) (newest past) b later (omega arith) (old ret)
long_step stage sound past clock (Close server flow closed) s h b run inside later may old ret =
    long_later stage (last_clock past) clock s (newest past) (newest past) b later (omega arith) (old ret)
long_step stage sound past clock (Steer k m) s h b run inside later may old ret =
    long_later stage (last_clock past) clock s (newest past) (newest past) b later (omega arith) (old ret)
long_step stage sound past clock (Publish v) s h b run inside later may old ret =
    long_later stage (last_clock past) clock s (newest past) (newest past) b later (omega arith) (old ret)
long_step stage sound past clock (Switch m v) s h b run inside later may old ret =
    long_later stage (last_clock past) clock s (newest past) (newest past) b later (omega arith) (old ret)
long_step stage sound past clock (Lose k hop) s h b run inside later may old ret =
    long_later stage (last_clock past) clock s (newest past) (newest past) b later (omega arith) (old ret)
long_step stage sound past clock Sync s h b run inside later may old ret =
    long_later stage (last_clock past) clock s (newest past) (newest past) b later (omega arith) (old ret)

-- where a shard of the server is retired, the time of each bucket's stay at the server is long past
pub retired_long : (stage : Stage) → IsSound stage → (past : List Event) → Run stage past → (s : ServerId) (h b : ℕ)
    → b < stage.script.plan.buckets → retired past s h ≡ true
    → IsLong stage (last_clock past) s (newest past) b
retired_long stage sound [] run s h b inside ret = absurd (cc)
retired_long stage sound (e ∷ past) run s h b inside ret =
    long_later stage e.clock.0 e.clock.0 s (newest past) (newest (e ∷ past)) b (omega arith)
    (newest_grows stage past e.clock.0 e.what run.0.may)
    (long_step stage sound past e.clock.0 e.what s h b run.1 inside run.0.clock run.0.may
    (retired_long stage sound past run.1 s h b inside) ret)

-- Each copy that was sent has a server to arrive at.
use Rattle.std.proofs.Common.{◌≡◌, ℕ, true, inl, inr, List, [], ◌∷◌, Option, Some, None, is_some, refl, sym, ◌∙◌, ap}
use Rattle.std.proofs.Common.{subst, eqb, arith}
use Rattle.std.proofs.lemmas.Bool.{or_cases, eqb-true}
use Rattle.std.proofs.lemmas.Bool.Decides.{nat_tests}
use Rattle.bm_base.specs.declared.ids.ServerId.{ServerId}
use Rattle.bm_base.specs.declared.ids.MuxId.{MuxId}
use Rattle.bm_base.specs.declared.flow.Segment.{Segment}
use Rattle.bm_base.specs.declared.label.Entry.{Entry}
use Rattle.bm_base.specs.declared.label.Label.{Label}
use Rattle.bm_base.specs.declared.label.Hop.{Hop}
use Rattle.bm_base.specs.declared.label.Past.{Past}
use Rattle.bm_base.proofs.Hops.{onward_arrives}
use Rattle.bm_base.specs.declared.label.Hop.TheVariants.{Direct}
use Rattle.bm_base.specs.Labels.{arrives_at}
use Rattle.bm_core.specs.declared.events.Verdict.{Verdict}
use Rattle.bm_core.specs.declared.events.What.{What}
use Rattle.bm_core.specs.declared.events.What.TheVariants.{Publish, Switch, Steer, Lose, Arrive, Close, Retire, Sync}
use Rattle.bm_core.specs.declared.events.Event.{Event}
use Rattle.bm_core.specs.declared.events.Stage.{Stage}
use Rattle.bm_core.specs.Past.{segment_of, timeout, labelled, label_after, label_of, sends, is_sent, is_forward}
use Rattle.bm_core.specs.Past.{hop_after}
use Rattle.bm_core.specs.Verdicts.{onward, local_at, verdict_at}
use Rattle.bm_core.specs.Runs.{MayCome, IsStep, Run}
use Rattle.bm_core.proofs.Forwards.{forward_onward}
use Rattle.bm_core.proofs.Pasts.{label_stays, arrival_sends}
use Rattle.bm_core.proofs.Stepping.{AllSent, wire_sent}
use Rattle.bm_core.specs.Schedule.{Underway}
use Rattle.bm_core.specs.Schedule.{wire}
use Rattle.bm_base.specs.declared.fate.Fate.{Fate}

-- a copy of the packet with this hop has a segment, a label, and a server to arrive at
pub record HasStop (stage : Stage) (past : List Event) (k : ℕ) (hop : Hop) : Type 0 where
  pub segment : Segment
  pub is_segment : segment_of stage k ≡ Some segment
  pub label : Label
  pub is_label : label_of stage past k ≡ Some label
  pub server : ServerId
  pub place : arrives_at label.entry hop ≡ Some server

steered_stop : (stage : Stage) (past : List Event) (e : Event) (m : MuxId) (k : ℕ) (o : Option Segment)
    → segment_of stage k ≡ o → is_some o ≡ true → label_of stage (e ∷ past) k ≡ labelled stage past m o
    → HasStop stage (e ∷ past) k Direct
steered_stop stage past e m k None is there l = absurd (cc)
steered_stop stage past e m k (Some s) is there l =
    record { segment = s; is_segment = is; label = _; is_label = l; server = _; place = refl }

next_stop : (entry : Entry) (came next : Hop) (onto : Option Past) → onward entry came ≡ onto → is_some onto ≡ true
    → hop_after came ≡ Some next → (server : ServerId) × (arrives_at entry next ≡ Some server)
next_stop entry came next None is there after = absurd (cc)
next_stop entry came next (Some p) is there after = (p.server, onward_arrives entry came next p after is)

stop_stays : (stage : Stage) (past : List Event) (e : Event) (k : ℕ) (hop : Hop) → IsStep stage past e
    → HasStop stage past k hop → HasStop stage (e ∷ past) k hop
stop_stays stage past e k hop step s = record {
  segment = s.segment;
  is_segment = s.is_segment;
  label = s.label;
  is_label = label_stays stage past e k s.label step s.is_label;
  server = s.server;
  place = s.place;
}

steer_sent : (packet k : ℕ) (m : MuxId) (hop : Hop) → sends (Steer packet m) k hop ≡ true → (eqb packet k ≡ true)
    × (hop ≡ Direct)
steer_sent packet k m hop e = grind (arith, nat_tests)

stop_sent : (stage : Stage) (past : List Event) (e : Event) (k : ℕ) (hop : Hop) → IsStep stage past e → (what : What)
    → e.what ≡ what → MayCome stage past e.clock.0 what → sends what k hop ≡ true → HasStop stage (e ∷ past) k hop
stop_sent stage past e k hop step (Steer packet m) is may sent =
    let parts = steer_sent packet k m hop sent
    in let same : packet ≡ k = eqb-true packet k parts.0
    in let there : is_some (segment_of stage k) ≡ true =
    subst (λ (n : ℕ). is_some (segment_of stage n) ≡ true) same may.2
    in let new : label_after stage past (Steer packet m) k (label_of stage past k)
    ≡ labelled stage past m (segment_of stage k) = rw parts.0 refl
    in let label : label_of stage (e ∷ past) k ≡ labelled stage past m (segment_of stage k) =
    ap (λ (w : What). label_after stage past w k (label_of stage past k)) is ∙ new
    in subst (λ (h : Hop). HasStop stage (e ∷ past) k h) (sym parts.1)
    (steered_stop stage past e m k (segment_of stage k) refl there label)
stop_sent stage past e k hop step (Arrive packet came server verdict) is may sent =
    let parts = arrival_sends packet k came hop server verdict sent
    in let goes : is_forward (verdict_at stage past e.clock.0 may.label came server may.segment) ≡ true =
    subst (λ (v : Verdict). is_forward v ≡ true) may.verdict_is parts.1
    in let onto : is_some (onward may.label.entry came) ≡ true =
    forward_onward (local_at stage past server may.segment.flow) (timeout stage) e.clock.0 came
    (onward may.label.entry came) may.segment goes
    in let there = next_stop may.label.entry came hop (onward may.label.entry came) refl onto parts.2
    in subst (λ (n : ℕ). HasStop stage (e ∷ past) n hop) parts.0 (record {
      segment = may.segment;
      is_segment = may.is_segment;
      label = may.label;
      is_label = label_stays stage past e packet may.label step may.is_label;
      server = there.0;
      place = there.1;
    })
stop_sent stage past e k hop step (Publish v) is may sent = absurd (cc)
stop_sent stage past e k hop step (Switch m v) is may sent = absurd (cc)
stop_sent stage past e k hop step (Lose packet came) is may sent = absurd (cc)
stop_sent stage past e k hop step (Close server flow closed) is may sent = absurd (cc)
stop_sent stage past e k hop step (Retire server h at result) is may sent = absurd (cc)
stop_sent stage past e k hop step Sync is may sent = absurd (cc)

-- each copy that was sent has a server to arrive at
pub sent_stop : (stage : Stage) (past : List Event) → Run stage past → (k : ℕ) (hop : Hop) → is_sent past k hop ≡ true
    → HasStop stage past k hop
sent_stop stage [] run k hop e = absurd (cc)
sent_stop stage (x ∷ past) run k hop e = elim (or_cases (sends x.what k hop) (is_sent past k hop) e) [
  | inl now ↦ stop_sent stage past x k hop run.0 x.what refl run.0.may now
  | inr old ↦ stop_stays stage past x k hop run.0 (sent_stop stage past run.1 k hop old)
]

-- the first copy under way has a server to arrive at
pub first_stop : (fates : List Fate) (stage : Stage) (past : List Event) (u : Underway) (w : List Underway)
    → Run stage past → wire fates past ≡ u ∷ w → HasStop stage past u.packet u.hop
first_stop fates stage past u w run is =
    let all : AllSent past (u ∷ w) = subst (λ (v : List Underway). AllSent past v) is (wire_sent fates past)
    in sent_stop stage past run u.packet u.hop all.0

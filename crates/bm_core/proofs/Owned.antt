-- Where a server holds a packet's Accept, and what becomes of the packet.
use Rattle.std.proofs.Common.{◌≡◌, ℕ, ◌+◌, ◌<◌, ◌≤◌, Bool, true, false, cond, not, ◌&&◌, ◌||◌, ◌⊎◌, inl, inr, List, []}
use Rattle.std.proofs.Common.{◌∷◌, Option, Some, None, is_some, length, refl, sym, ap, ◌∙◌, subst, arith, eqb, leb, ltb}
use Rattle.std.proofs.Common.{if◌then◌else◌}
use Rattle.std.proofs.lemmas.Bool.{cases_Bool, cases_eq, cases_lt, or_left, or_right, or_from, both_ways, leb-false, ltb-false}
use Rattle.std.proofs.lemmas.Bool.{eqb-true}
use Rattle.std.proofs.lemmas.Bool.Decides.{nat_tests}
use Rattle.std.proofs.lemmas.Option.{same_Some}
use Rattle.bm_base.specs.declared.ids.ServerId.{ServerId}
use Rattle.bm_base.specs.declared.flow.Flow.{Flow}
use Rattle.bm_base.specs.declared.flow.Segment.{Segment}
use Rattle.bm_base.specs.declared.label.Entry.{Entry}
use Rattle.bm_base.specs.declared.label.Label.{Label}
use Rattle.bm_base.specs.declared.label.Hop.{Hop}
use Rattle.bm_base.specs.declared.label.Hop.TheVariants.{Direct}
use Rattle.bm_base.specs.declared.label.Past.{Past}
use Rattle.bm_base.specs.Labels.{hop_number}
use Rattle.bm_base.proofs.Hops.{hop_onward, onward_there, same_number}
use Rattle.bm_core.specs.declared.events.Verdict.{Verdict}
use Rattle.bm_core.specs.declared.events.Verdict.TheVariants.{Forward}
use Rattle.bm_core.specs.declared.events.What.{What}
use Rattle.bm_core.specs.declared.events.What.TheVariants.{Publish, Switch, Steer, Lose, Arrive, Close, Retire, Sync}
use Rattle.bm_core.specs.declared.events.Local.{Local}
use Rattle.bm_core.specs.declared.events.Event.{Event}
use Rattle.bm_core.specs.declared.events.Stage.{Stage}
use Rattle.bm_table.specs.Tables.{same_server, table}
use Rattle.bm_base.specs.Segments.{same_flow}
use Rattle.bm_core.specs.Past.{segment_of, is_of, bucket, shard, timeout, newest, label_after, label_of, is_forward}
use Rattle.bm_core.specs.Past.{hop_after, sends, is_sent, Holding, after_arrival, is_done, retired, held_after, held}
use Rattle.bm_core.specs.Past.{is_accept, Accepted, owner_after, owner}
use Rattle.bm_base.specs.Labels.{arrives_at}
use Rattle.bm_core.specs.Verdicts.{onward, local_at, verdict_of, verdict_at}
use Rattle.bm_core.specs.Laws.{IsForwardedTo, IsHeldElsewhere}
use Rattle.bm_core.specs.Stages.{IsSound}
use Rattle.std.specs.Option.{option_map_or}
use Rattle.bm_core.specs.Runs.{last_clock, IsArrival, MayCome, Run}
use Rattle.bm_table.proofs.Tables.{same_server-true, eq-same_server, since, stands_back, no_older, IsVisit, visited}
use Rattle.bm_core.specs.declared.events.Cause.TheVariants.{NotHeld, StaleMux, MovedThrice, ChainLate, SynElsewhere}
use Rattle.bm_table.specs.Tables.{moves}
use Rattle.bm_base.specs.Segments.{is_opening}
use Rattle.bm_core.specs.Verdicts.{receiver_of}
use Rattle.bm_core.specs.Causes.{is_holding, accepts_elsewhere, is_elsewhere, is_late, first_broken, is_process}
use Rattle.bm_core.proofs.Pasts.{newest_within, IsLabel, label_is, sent_before, sent_steered, IsAccepted, owner_is, retired_none}
use Rattle.bm_core.proofs.Pasts.{retired_long, held_not_forwarded, arrival_sends, hop_before, steer_sends}

-- HELD ELSEWHERE

-- only an Accept of the flow there makes a server hold it
held_by : (place : ℕ) (here : Bool) (verdict : Verdict) (o : Option Segment) (f : Flow) (before : Option Holding)
    → is_some (after_arrival place here verdict o f before) ≡ true → (is_some before ≡ true)
    ⊎ ((here ≡ true) × (is_accept verdict ≡ true) × (is_of o f ≡ true))
held_by place here verdict o f before e = grind arith

some_unless : (t : Bool) (before : Option Holding) → is_some (cond t None before) ≡ true → is_some before ≡ true
some_unless true before e = absurd (cc)
some_unless false before e = e

elsewhere_step : (stage : Stage) (all past : List Event) (what : What) (s home : ServerId) (f : Flow)
    → is_some (held stage all s f) ≡ true → same_server s home ≡ false
    → (is_some (held stage past s f) ≡ true → is_elsewhere stage all past f home ≡ true)
    → is_some (held_after stage (length past) what s f (held stage past s f)) ≡ true
    → (accepts_elsewhere stage all what f home || is_elsewhere stage all past f home) ≡ true
elsewhere_step stage all past (Arrive k hop server verdict) s home f holds other old e =
    elim (held_by (length past) (same_server server s) verdict (segment_of stage k) f (held stage past s f) e) [
      | inl before ↦ or_right (accepts_elsewhere stage all (Arrive k hop server verdict) f home) _ (old before)
      | inr now ↦
          let at : server ≡ s = same_server-true server s now.0
          in let other' : same_server server home ≡ false = rw at other
          in let holds' : is_some (held stage all server f) ≡ true = rw at holds
          in let shows : accepts_elsewhere stage all (Arrive k hop server verdict) f home ≡ true =
          rw (now.1, now.2, other', holds') refl
          in or_left _ _ shows
    ]
elsewhere_step stage all past (Close server flow closed) s home f holds other old e =
    old (some_unless (same_server server s && same_flow flow f && closed) (held stage past s f) e)
elsewhere_step stage all past (Retire server h at result) s home f holds other old e =
    old (some_unless (same_server server s && eqb h (shard stage f) && is_done result) (held stage past s f) e)
elsewhere_step stage all past (Steer k m) s home f holds other old e = old e
elsewhere_step stage all past (Publish v) s home f holds other old e = old e
elsewhere_step stage all past (Switch m v) s home f holds other old e = old e
elsewhere_step stage all past (Lose k hop) s home f holds other old e = old e
elsewhere_step stage all past Sync s home f holds other old e = old e

-- a server other than the owner that holds the flow shows
pub elsewhere_shows : (stage : Stage) (all past : List Event) (s home : ServerId) (f : Flow)
    → is_some (held stage all s f) ≡ true → same_server s home ≡ false
    → is_some (held stage past s f) ≡ true → is_elsewhere stage all past f home ≡ true
elsewhere_shows stage all [] s home f holds other e = absurd (cc)
elsewhere_shows stage all (x ∷ past) s home f holds other e =
    elsewhere_step stage all past x.what s home f holds other (elsewhere_shows stage all past s home f holds other) e

shown_accept : (accept of same holds : Bool) → (accept && of && not same && holds) ≡ true → (same ≡ false) × (holds ≡ true)
shown_accept accept of same holds e = grind arith

one_shows : (x y : Bool) → (x || y) ≡ true → (x ≡ true) ⊎ (y ≡ true)
one_shows true y e = inl refl
one_shows false y e = inr e

-- whatever shows is at another server that holds the flow
pub shown_elsewhere : (stage : Stage) (all past : List Event) (home : ServerId) (f : Flow)
    → is_elsewhere stage all past f home ≡ true → IsHeldElsewhere stage all f home
shown_elsewhere stage all [] home f e = absurd (cc)
shown_elsewhere stage all (x ∷ past) home f e = elim (one_shows (accepts_elsewhere stage all x.what f home) _ e) [
  | inl now ↦ accept_elsewhere stage all x.what home f now
  | inr old ↦ shown_elsewhere stage all past home f old
] where
  accept_elsewhere : (stage : Stage) (all : List Event) (what : What) (home : ServerId) (f : Flow)
      → accepts_elsewhere stage all what f home ≡ true → IsHeldElsewhere stage all f home
  accept_elsewhere stage all (Arrive k hop server verdict) home f e =
      let both = shown_accept (is_accept verdict) (is_of (segment_of stage k) f) (same_server server home) _ e
      in (server, both.0, both.1)
  accept_elsewhere stage all (Publish v) home f e = absurd (cc)
  accept_elsewhere stage all (Switch m v) home f e = absurd (cc)
  accept_elsewhere stage all (Steer k m) home f e = absurd (cc)
  accept_elsewhere stage all (Lose k hop) home f e = absurd (cc)
  accept_elsewhere stage all (Close server flow closed) home f e = absurd (cc)
  accept_elsewhere stage all (Retire server h at result) home f e = absurd (cc)
  accept_elsewhere stage all Sync home f e = absurd (cc)

-- HELD SO FAR

-- what holds an older Accept held it before
holding_before : (place old : ℕ) (here : Bool) (verdict : Verdict) (o : Option Segment) (f : Flow)
    (before : Option Holding)
    → old < place → is_holding (after_arrival place here verdict o f before) old ≡ true → is_holding before old ≡ true
holding_before place old here verdict o f before lt e = grind (arith, nat_tests)

holding_unless : (t : Bool) (before : Option Holding) (old : ℕ) → is_holding (cond t None before) old ≡ true
    → is_holding before old ≡ true
holding_unless true before old e = absurd (cc)
holding_unless false before old e = e

holding_some : (o : Option Holding) (place : ℕ) → is_holding o place ≡ true → is_some (receiver_of o) ≡ true
holding_some None place e = absurd (cc)
holding_some (Some h) place e = refl

-- packet k of this segment and label has this owner, whose server holds its Accept
pub record IsHome (stage : Stage) (past : List Event) (k : ℕ) (s : Segment) (l : Label) (a : Accepted) : Type 0 where
  pub label : label_of stage past k ≡ Some l
  pub owner : owner stage past k ≡ Some a
  pub holding : is_holding (held stage past a.server s.flow) a.place ≡ true

-- a copy that arrives at the server that holds its flow is not sent on
not_sent_on : (stage : Stage) (past : List Event) (clock packet k : ℕ) (hop came next : Hop) (server : ServerId)
    (verdict : Verdict) (s : Segment) (l : Label) (a : Accepted)
    → segment_of stage k ≡ Some s → arrives_at l.entry hop ≡ Some a.server → hop_after hop ≡ Some next
    → IsHome stage past k s l a → IsArrival stage past clock packet came server verdict
    → sends (Arrive packet came server verdict) k next ≡ true → ⊥
not_sent_on stage past clock packet k hop came next server verdict s l a is stops onto home may e =
    let parts = arrival_sends packet k came next server verdict e
    in let eq : packet ≡ k = parts.0
    in let same : came ≡ hop = hop_before hop came next onto parts.2
    in let seg : may.segment ≡ s = same_Some _ _ (sym may.is_segment ∙ ap (λ (n : ℕ). segment_of stage n) eq ∙ is)
    in let lab : may.label ≡ l =
    same_Some _ _ (sym may.is_label ∙ ap (λ (n : ℕ). label_of stage past n) eq ∙ home.label)
    in let at : server ≡ a.server =
    same_Some _ _
    (sym may.place
    ∙ (ap (λ (x : Label). arrives_at x.entry came) lab ∙ (ap (λ (x : Hop). arrives_at l.entry x) same ∙ stops)))
    in let holds : is_some (receiver_of (held stage past a.server s.flow)) ≡ true =
    holding_some (held stage past a.server s.flow) a.place home.holding
    in let holds' : is_some (receiver_of (held stage past server may.segment.flow)) ≡ true = rw (at, seg) holds
    in let stays : is_forward (verdict_at stage past clock may.label came server may.segment) ≡ false =
    held_not_forwarded (local_at stage past server may.segment.flow) (timeout stage) clock came
    (onward may.label.entry came) may.segment holds'
    in let goes : is_forward (verdict_at stage past clock may.label came server may.segment) ≡ true =
    rw may.verdict_is at parts.1
    in cc

pub false_from_not : (t : Bool) → (t ≡ true → ⊥) → t ≡ false
false_from_not true no_way = absurd (no_way refl)
false_from_not false no_way = refl

unsent_step : (stage : Stage) (past : List Event) (e : Event) (k : ℕ) (hop next : Hop) (s : Segment) (l : Label)
    (a : Accepted) (what : What)
    → Run stage past → MayCome stage past e.clock.0 what → segment_of stage k ≡ Some s
    → arrives_at l.entry hop ≡ Some a.server → hop_after hop ≡ Some next
    → label_after stage past what k (label_of stage past k) ≡ Some l
    → owner_after stage past what k (owner stage past k) ≡ Some a
    → is_holding (held_after stage (length past) what a.server s.flow (held stage past a.server s.flow)) a.place ≡ true
    → (IsHome stage past k s l a → is_sent past k next ≡ false)
    → (sends what k next || is_sent past k next) ≡ false
unsent_step stage past e k hop next s l a (Steer packet m) run may is stops onto lab own holds old =
    or_from _ _ (steer_sends packet k m hop next onto) (elim (cases_Bool (eqb packet k)) [
      | inl same ↦
          let eq : packet ≡ k = eqb-true packet k same
          in let un : is_sent past k Direct ≡ false = subst (λ (n : ℕ). is_sent past n Direct ≡ false) eq may.1
          in false_from_not (is_sent past k next) (λ sent. both_ways _ un (sent_steered stage past run k next sent))
      | inr other ↦ old (record { label = rw other at lab; owner = rw other at own; holding = holds })
    ])
unsent_step stage past e k hop next s l a (Arrive packet came server verdict) run may is stops onto lab own holds old =
    let acc : IsAccepted stage past s.flow a = owner_is stage past run k s a is own
    in let before : is_holding (held stage past a.server s.flow) a.place ≡ true =
    holding_before (length past) a.place (same_server server a.server) verdict (segment_of stage packet) s.flow
    (held stage past a.server s.flow) acc.place holds
    in let home : IsHome stage past k s l a = record { label = lab; owner = own; holding = before }
    in or_from _ _
    (false_from_not (sends (Arrive packet came server verdict) k next)
    (not_sent_on stage past e.clock.0 packet k hop came next server verdict s l a is stops onto home may))
    (old home)
unsent_step stage past e k hop next s l a (Close server flow closed) run may is stops onto lab own holds old =
    old (record {
      label =
          lab;
      owner = own;
      holding =
          holding_unless (same_server server a.server && same_flow flow s.flow && closed)
          (held stage past a.server s.flow) a.place holds;
    })
unsent_step stage past e k hop next s l a (Retire server h at result) run may is stops onto lab own holds old =
    old (record {
      label =
          lab;
      owner = own;
      holding =
          holding_unless (same_server server a.server && eqb h (shard stage s.flow) && is_done result)
          (held stage past a.server s.flow) a.place holds;
    })
unsent_step stage past e k hop next s l a (Publish v) run may is stops onto lab own holds old =
    old (record { label = lab; owner = own; holding = holds })
unsent_step stage past e k hop next s l a (Switch m v) run may is stops onto lab own holds old =
    old (record { label = lab; owner = own; holding = holds })
unsent_step stage past e k hop next s l a (Lose packet came) run may is stops onto lab own holds old =
    old (record { label = lab; owner = own; holding = holds })
unsent_step stage past e k hop next s l a Sync run may is stops onto lab own holds old =
    old (record { label = lab; owner = own; holding = holds })

-- while the server where it arrives by this hop holds its owner's Accept, a packet is not sent on from there
pub unsent : (stage : Stage) (past : List Event) → Run stage past
    → (k : ℕ) (hop next : Hop) (s : Segment) (l : Label) (a : Accepted)
    → segment_of stage k ≡ Some s → arrives_at l.entry hop ≡ Some a.server → hop_after hop ≡ Some next
    → IsHome stage past k s l a → is_sent past k next ≡ false
unsent stage [] run k hop next s l a is stops onto home = refl
unsent stage (e ∷ past) run k hop next s l a is stops onto home =
    unsent_step stage past e k hop next s l a e.what run.1 run.0.may is stops onto home.label home.owner home.holding
    (unsent stage past run.1 k hop next s l a is stops onto)

-- SAFETY

-- the copy comes no later than the timeout after its bucket left the server to which it may be passed on
abbrev pub IsInTime : Stage → ℕ → Entry → Hop → Type 0
IsInTime stage clock entry hop = (p : Past) → onward entry hop ≡ Some p → clock ≤ p.stamp.0 + timeout stage

-- no premise is broken
pub record IsUnbroken (stage : Stage) (past : List Event) (clock : ℕ) (l : Label) (hop : Hop) (f : Flow)
    (server : ServerId) (a : Accepted) : Type 0 where
  pub holding : is_holding (held stage past a.server f) a.place ≡ true
  pub fresh : a.version ≤ l.version.0
  pub few : moves stage.script.plan (bucket stage f) a.version l.version.0 ≤ 2
  pub in_time : (same_server server a.server ≡ true) ⊎ IsInTime stage clock l.entry hop
  pub alone : is_elsewhere stage past past f a.server ≡ false

none_of_them : (holds stale thrice late elsewhere : Bool)
    → (if not holds then Some NotHeld else if stale then Some StaleMux else if thrice then Some MovedThrice
    else if late then Some ChainLate else if elsewhere then Some SynElsewhere else None) ≡ None
    → (holds ≡ true) × (stale ≡ false) × (thrice ≡ false) × (late ≡ false) × (elsewhere ≡ false)
none_of_them holds stale thrice late elsewhere e = grind arith

in_time_is : (timeout clock : ℕ) (same : Bool) (onto : Option Past)
    → (not same && option_map_or (λ p. ltb (p.stamp.0 + timeout) clock) onto false) ≡ false
    → (same ≡ true) ⊎ ((p : Past) → onto ≡ Some p → clock ≤ p.stamp.0 + timeout)
in_time_is timeout clock true onto e = inl refl
in_time_is timeout clock false None e = inr (λ p is. absurd (cc))
in_time_is timeout clock false (Some q) e =
    inr (λ p is. let same : q ≡ p = same_Some _ _ is
    in subst (λ (x : Past). clock ≤ x.stamp.0 + timeout) same (ltb-false _ _ e))

unbroken_is : (stage : Stage) (past : List Event) (clock : ℕ) (l : Label) (hop : Hop) (f : Flow) (server : ServerId)
    (a : Accepted)
    → first_broken stage past clock l hop f server (Some a) ≡ None → IsUnbroken stage past clock l hop f server a
unbroken_is stage past clock l hop f server a e =
    let all = none_of_them (is_holding (held stage past a.server f) a.place)
    (ltb l.version.0 a.version)
    (leb 3 (moves stage.script.plan (bucket stage f) a.version l.version.0))
    (not (same_server server a.server) && is_late stage l hop clock)
    (is_elsewhere stage past past f a.server) e
    in record {
      holding = all.0;
      fresh = ltb-false _ _ all.1;
      few = let t : moves stage.script.plan (bucket stage f) a.version l.version.0 < 3 =
          leb-false _ _ all.2 in omega arith;
      in_time = in_time_is (timeout stage) clock (same_server server a.server) (onward l.entry hop) all.3;
      alone = all.4;
    }

pub data_held : (local : Local) (timeout clock : ℕ) (hop : Hop) (onto : Option Past) (s : Segment)
    → local.retired ≡ false → is_some local.held ≡ true → is_opening s ≡ false
    → is_process (verdict_of local timeout clock hop onto s) ≡ true
data_held local timeout clock hop onto s r h o = grind arith

data_unknown : (local : Local) (timeout clock : ℕ) (hop : Hop) (p : Past) (s : Segment) → local.retired ≡ false
    → local.held ≡ None → is_opening s ≡ false → clock ≤ p.stamp.0 + timeout
    → verdict_of local timeout clock hop (Some p) s ≡ Forward p.server
data_unknown local timeout clock hop p s r h op c = grind (arith, nat_tests)

since_is : (e : Entry) (p : Past) → e.prev ≡ Some p → since e ≡ p.stamp.0
since_is e p is = rw is refl

-- where no premise is broken, a copy is processed by its owner's server, or forwarded one step nearer to it
abbrev pub IsServedBy : Accepted → Entry → Hop → ServerId → Verdict → Type 0
IsServedBy a entry hop server verdict =
    ((is_process verdict ≡ true) × (server ≡ a.server))
    ⊎ ((server ≡ a.server → ⊥) × IsForwardedTo entry hop verdict a.server)

module _ (stage : Stage) (sound : IsSound stage) (past : List Event) (run : Run stage past) (clock k : ℕ)
    (server : ServerId) (later : last_clock past ≤ clock) where
  at_home : (a : Accepted) (hop : Hop) (verdict : Verdict) (may : IsArrival stage past clock k hop server verdict)
      → is_opening may.segment ≡ false
      → is_holding (held stage past a.server may.segment.flow) a.place ≡ true → server ≡ a.server
      → is_process verdict ≡ true
  at_home a hop verdict may plain holding at =
      let holds : is_some (receiver_of (held stage past server may.segment.flow)) ≡ true =
      rw at (holding_some (held stage past a.server may.segment.flow) a.place holding)
      in let un : retired past server (shard stage may.segment.flow) ≡ false =
      false_from_not _
      (λ ret. let none : held stage past server may.segment.flow ≡ None =
      retired_none stage past run server may.segment.flow ret in let bad : false ≡ true = rw none at holds in cc)
      in rw may.verdict_is
      (data_held (local_at stage past server may.segment.flow) (timeout stage) clock hop
      (onward may.label.entry hop)
      may.segment un holds plain)

  -- its bucket is one of the plan's
  inside : (f : Flow) → bucket stage f < stage.script.plan.buckets
  inside f =
      let some : 0 < stage.script.setting.buckets = sound.script.setting.buckets.0
      in rw sound.script.buckets (omega arith)

  -- elsewhere the flow isn't held
  not_held : (a : Accepted) (f : Flow) → same_server server a.server ≡ false
      → is_elsewhere stage past past f a.server ≡ false → held stage past server f ≡ None
  not_held a f other alone = none_is (held stage past server f)
      (false_from_not _
      (λ holds. both_ways _ alone (elsewhere_shows stage past past server a.server f holds other holds))) where
        none_is : (o : Option Holding) → is_some o ≡ false → o ≡ None
        none_is None e = refl
        none_is (Some h) e = absurd (cc)

  -- its entry is that of its version
  entry_is : (hop : Hop) (verdict : Verdict) (may : IsArrival stage past clock k hop server verdict)
      → (may.label.version.0 ≤ newest past)
      × (may.label.entry ≡ table stage.script.plan may.label.version.0 (bucket stage may.segment.flow))
  entry_is hop verdict may =
      let l : IsLabel stage past k may.label = label_is stage past run k may.label may.is_label
      in let same : l.segment ≡ may.segment = same_Some _ _ (sym l.is_segment ∙ may.is_segment)
      in (
        l.published,
        l.entry
            ∙ ap (λ (x : Segment). table stage.script.plan may.label.version.0 (bucket stage x.flow)) same,
      )

  -- once the server had the bucket
  visit : (hop : Hop) (verdict : Verdict) (may : IsArrival stage past clock k hop server verdict)
      → IsVisit stage.script.plan (bucket stage may.segment.flow) may.label.version.0 may.label.entry hop server
  visit hop verdict may =
      let e = (entry_is hop verdict may).1
      in subst
      (λ (x : Entry). IsVisit stage.script.plan (bucket stage may.segment.flow) may.label.version.0 x hop server)
      (sym e)
      (visited stage.script.plan (bucket stage may.segment.flow) may.label.version.0 hop server
      (ap (λ (x : Entry). arrives_at x hop) (sym e) ∙ may.place))

  -- where its shard is retired, what might go on comes late
  pub late : (hop : Hop) (verdict : Verdict) (may : IsArrival stage past clock k hop server verdict)
      → retired past server (shard stage may.segment.flow) ≡ true
      → (p : Past) → onward may.label.entry hop ≡ Some p → p.stamp.0 + timeout stage < clock
  late hop verdict may ret p onto =
      let v = visit hop verdict may
      in let top : newest past ≤ length stage.script.plan.changes = newest_within stage past run
      in let old : may.label.version.0 ≤ newest past = (entry_is hop verdict may).0
      in let earlier : v.version ≤ may.label.version.0 = v.earlier
      in let long =
      retired_long stage sound past run server (shard stage may.segment.flow) (bucket stage may.segment.flow)
      (inside may.segment.flow) ret v.version (omega arith) v.cur
      in let past_it : since (table stage.script.plan v.version (bucket stage may.segment.flow)) + timeout stage
      < last_clock past = long.1
      in let stamp : since (table stage.script.plan v.version (bucket stage may.segment.flow)) ≡ p.stamp.0 =
      since_is (table stage.script.plan v.version (bucket stage may.segment.flow)) p (v.onto p onto)
      in omega arith

  -- and a direct copy is labelled by an older version than the newest
  pub outdated : (verdict : Verdict) (may : IsArrival stage past clock k Direct server verdict)
      → retired past server (shard stage may.segment.flow) ≡ true → may.label.version.0 < newest past
  outdated verdict may ret =
      let e = entry_is Direct verdict may
      in let top : newest past ≤ length stage.script.plan.changes = newest_within stage past run
      in let old : may.label.version.0 ≤ newest past = e.0
      in let cur : (table stage.script.plan may.label.version.0 (bucket stage may.segment.flow)).cur ≡ server =
      sym (ap (λ (x : Entry). x.cur) e.1) ∙ same_Some _ _ may.place
      in (retired_long stage sound past run server (shard stage may.segment.flow) (bucket stage may.segment.flow)
      (inside may.segment.flow) ret may.label.version.0 (omega arith) cur).0

  -- what isn't held, and comes in time, goes on
  pub goes_on : (hop : Hop) (verdict : Verdict) (may : IsArrival stage past clock k hop server verdict)
      → is_opening may.segment ≡ false → held stage past server may.segment.flow ≡ None
      → IsInTime stage clock may.label.entry hop
      → (p : Past) → onward may.label.entry hop ≡ Some p → verdict ≡ Forward p.server
  goes_on hop verdict may plain none in_time p onto =
      let time : clock ≤ p.stamp.0 + timeout stage = in_time p onto
      in let ret : retired past server (shard stage may.segment.flow) ≡ false =
      false_from_not _
      (λ r. let l : p.stamp.0 + timeout stage < clock = late hop verdict may r p onto in absurd (omega arith))
      in let none' : receiver_of (held stage past server may.segment.flow) ≡ None = rw none refl
      in may.verdict_is
      ∙ rw onto
      (data_unknown (local_at stage past server may.segment.flow) (timeout stage) clock hop p may.segment ret none'
      plain time)

  -- its owner's server is where a copy of the hop arrives that goes back as often as the bucket moved
  pub home_is : (a : Accepted) (hop : Hop) (verdict : Verdict)
      (may : IsArrival stage past clock k hop server verdict)
      → (table stage.script.plan a.version (bucket stage may.segment.flow)).cur ≡ a.server
      → a.version ≤ may.label.version.0
      → moves stage.script.plan (bucket stage may.segment.flow) a.version may.label.version.0 ≤ 2
      → (home : Hop)
      × (hop_number home ≡ moves stage.script.plan (bucket stage may.segment.flow) a.version may.label.version.0)
      × (arrives_at may.label.entry home ≡ Some a.server)
  home_is a hop verdict may home fresh few =
      let e = (entry_is hop verdict may).1
      in let back = stands_back stage.script.plan (bucket stage may.segment.flow) a.version may.label.version.0 fresh few
      in (
        back.0,
        back.1,
        ap (λ (x : Entry). arrives_at x back.0) e ∙ (back.2 ∙ ap (λ (x : ServerId). Some x) home),
      )

  -- a copy of a hop before that one may go on
  pub has_onward : (a : Accepted) (hop home : Hop) (verdict : Verdict)
      (may : IsArrival stage past clock k hop server verdict)
      → arrives_at may.label.entry home ≡ Some a.server → hop_number hop < hop_number home
      → (p : Past) × (onward may.label.entry hop ≡ Some p)
  has_onward a hop home verdict may at less =
      let e = (entry_is hop verdict may).1
      in onward_there may.label.entry hop home a.server
      (subst (λ (x : Entry). x.prev ≡ None → x.older ≡ None) (sym e)
      (no_older stage.script.plan (bucket stage may.segment.flow) may.label.version.0)) less at

  pub not_same : (a : Accepted) → same_server server a.server ≡ false → server ≡ a.server → ⊥
  not_same a other at = both_ways _ other (eq-same_server server a.server at)

  -- away from it, no copy of that hop arrives, and none of a later hop, where it isn't sent on from there
  pub is_before : (a : Accepted) (hop home : Hop) (verdict : Verdict)
      (may : IsArrival stage past clock k hop server verdict)
      → arrives_at may.label.entry home ≡ Some a.server → (server ≡ a.server → ⊥)
      → ((next : Hop) → hop_after home ≡ Some next → is_sent past k next ≡ false)
      → hop_number hop < hop_number home
  is_before a hop home verdict may at other unsent = elim (cases_lt (hop_number hop) (hop_number home)) [
    | inl less ↦ less
    | inr behind ↦ elim (cases_eq (hop_number home) (hop_number hop)) [
      | inl same ↦
          let one : home ≡ hop = same_number home hop same
          in absurd (other
          (same_Some _ _ (sym may.place ∙ (ap (λ (h : Hop). arrives_at may.label.entry h) (sym one) ∙ at))))
      | inr apart ↦
          let next = hop_onward home hop (omega arith)
          in absurd (both_ways _ (unsent next.0 next.1) (sent_before stage past run k next.0 hop next.2 may.sent))
    ]
  ]

  -- where no premise is broken, a copy is processed by its owner's server, or forwarded one step nearer to it
  pub safe : (a : Accepted) (hop : Hop) (verdict : Verdict) (may : IsArrival stage past clock k hop server verdict)
      → is_opening may.segment ≡ false → owner stage past k ≡ Some a
      → first_broken stage past clock may.label hop may.segment.flow server (Some a) ≡ None
      → IsServedBy a may.label.entry hop server verdict
  safe a hop verdict may plain own e =
      let un = unbroken_is stage past clock may.label hop may.segment.flow server a e
      in let acc = owner_is stage past run k may.segment a may.is_segment own
      in elim (cases_Bool (same_server server a.server)) [
        | inl same ↦
            let at = same_server-true server a.server same in inl (at_home a hop verdict may plain un.holding at, at)
        | inr other ↦ elim un.in_time [
          | inl same ↦ absurd (both_ways _ other same)
          | inr in_time ↦ inr (not_same a other, away un acc other in_time)
        ]
      ] where
        away : IsUnbroken stage past clock may.label hop may.segment.flow server a
            → IsAccepted stage past may.segment.flow a → same_server server a.server ≡ false
            → IsInTime stage clock may.label.entry hop → IsForwardedTo may.label.entry hop verdict a.server
        away un acc other in_time =
            let home = home_is a hop verdict may acc.server un.fresh un.few
            in let less =
            is_before a hop home.0 verdict may home.2 (not_same a other)
            (λ next after. unsent stage past run k home.0 next may.segment may.label a may.is_segment home.2 after
            (record { label = may.is_label; owner = own; holding = un.holding }))
            in let p = has_onward a hop home.0 verdict may home.2 less
            in (
              rw p.1
                  (goes_on hop verdict may plain (not_held a may.segment.flow other un.alone) in_time p.0 p.1),
              (home.0, less, home.2),
            )

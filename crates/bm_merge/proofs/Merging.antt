-- Logs that agree merge to a run.
use Rattle.std.proofs.Common.{◌≡◌, ℕ, suc, ◌+◌, ◌<◌, ◌≤◌, Bool, true, false, cond, ◌&&◌, ◌||◌, inl, inr, List, []}
use Rattle.std.proofs.Common.{◌∷◌, ◌++◌, Option, Some, None, refl, sym, ap, ◌∙◌, subst, arith, leb, ltb, eqb}
use Rattle.std.specs.Prelude.{IfSome, is_some}
use Rattle.std.specs.List.{AllByRecursion}
use Rattle.std.proofs.lemmas.Bool.{cases_Bool, and_parts, or_cases, or_left, or_right, eqb-true, eq-eqb, le-leb}
use Rattle.std.proofs.lemmas.Bool.{ltb-true, lt-ltb}
use Rattle.std.proofs.lemmas.Bool.Decides.{nat_tests}
use Rattle.std.proofs.lemmas.List.{reverse-reverse}
use Rattle.std.specs.Prelude.{reverse}
use Rattle.std.proofs.lemmas.Option.{same_Some}
use Rattle.bm_base.specs.Labels.{arrives_at}
use Rattle.bm_base.specs.declared.ids.ServerId.{ServerId}
use Rattle.bm_base.specs.declared.ids.MuxId.{MuxId}
use Rattle.bm_base.specs.declared.flow.Segment.{Segment}
use Rattle.bm_seq.specs.declared.receiver.Receiver.{Receiver}
use Rattle.bm_base.specs.declared.label.Label.{Label}
use Rattle.bm_base.specs.declared.label.Hop.{Hop}
use Rattle.bm_base.specs.declared.label.Hop.TheVariants.{Direct, Chained, Twice}
use Rattle.bm_core.specs.declared.events.Verdict.{Verdict}
use Rattle.bm_core.specs.declared.events.Verdict.TheVariants.{Accept, Process, Forward, Reset, Drop}
use Rattle.bm_core.specs.declared.events.Local.{Local}
use Rattle.bm_core.specs.declared.events.What.{What}
use Rattle.bm_core.specs.declared.events.What.TheVariants.{Publish, Switch, Steer, Lose, Arrive, Close, Retire, Sync}
use Rattle.bm_core.specs.declared.events.Event.{Event}
use Rattle.bm_core.specs.declared.events.Stage.{Stage}
use Rattle.bm_core.specs.declared.events.History.{History}
use Rattle.bm_table.specs.Tables.{IsRetirement}
use Rattle.bm_core.specs.Past.{segment_of, timeout, published_by, newest, version_at, labelled, label_after}
use Rattle.bm_core.specs.Past.{label_of, sends, is_sent, is_sent_at, Holding, held}
use Rattle.bm_core.specs.Verdicts.{onward, verdict_of, receiver_of}
use Rattle.bm_core.specs.Runs.{Actor, actor_of, is_by, own_clock, last_clock, IsArrival, MayCome, IsStep, Run, IsRun}
use Rattle.bm_core.specs.Runs.Actor.{Controller, MuxOf}
use Rattle.bm_core.specs.Logs.{log_of}
use Rattle.bm_merge.specs.Merges.{Log, gathered, merged, AtEach, some_event, named, stands_in, newest_until}
use Rattle.bm_merge.specs.Merges.{IsNextVersion, IsOfMux, IsPublishedBefore, IsOfRecord}
use Rattle.bm_merge.specs.Merges.{IsSentBefore, IsInPlace, IsReplayed, IsJudged, IsEntry, Agree}
use Rattle.bm_core.specs.Accounts.{steers_packet}
use Rattle.bm_core.specs.Threads.{is_publish_of}
use Rattle.bm_core.proofs.Pasts.{newest_grows, sent_steered, labelled_sent}
use Rattle.bm_core.proofs.Logs.{version_in_log, label_in_log}
use Rattle.bm_core.proofs.Books.{held_in_book, local_in_book}
use Rattle.bm_merge.proofs.Placed.{some_by_clock, many_by_clock, all_by_clock, IsFalling, rank_by, rank, key}
use Rattle.bm_merge.proofs.Placed.{key_clock, by_clock_falls, all_so, part_by_clock, Rises, how_many, agree_once}
use Rattle.bm_merge.proofs.Agreeing.{same_actor-true, newest_in_log, same_in_log, entry_same, part_append}
use Rattle.bm_merge.proofs.Agreeing.{named_part, named_entries, gathered_entries, whole_part, gathered_falls, Stands}
use Rattle.bm_merge.proofs.Agreeing.{all_stand}

-- WHAT THE MERGED EVENTS ARE

pub record IsWhole (stage : Stage) (logs : List Log) (whole : List Event) : Type 0 where
  pub falls : IsFalling (key stage) whole
  pub part : (a : Actor) → log_of stage whole a ≡ log_of stage (named logs a) a
  pub entries : (a : Actor) → AtEach (IsEntry stage logs a) (log_of stage whole a)
  pub stand : AllByRecursion (λ e. Stands stage logs e) whole
  pub some : (test : Event → Bool) → some_event test whole ≡ some_event test (gathered logs)
  pub once : (k : ℕ) → how_many (λ e. steers_packet e.what k) whole ≤ 1
  pub posts : log_of stage (named logs Controller) Controller ≡ named logs Controller

pub by_other : (o : Option Actor) (a : Actor) (own : Actor → Type 0) → is_by o a ≡ true → IfSome o own → own a
by_other None a own mine i = absurd (cc)
by_other (Some b) a own mine i = subst (λ (c : Actor). own c) (same_actor-true b a mine) i

-- clocks of a part rise
rises_step : (stage : Stage) (logs : List Log) (a : Actor) (e : Event) (part : List Event) (mine : Bool)
    → is_by (actor_of stage e.what) a ≡ mine
    → (Rises stage a part) → AtEach (IsEntry stage logs a) (cond mine (e ∷ part) part)
    → Rises stage a (cond mine (e ∷ part) part)
rises_step stage logs a e part true is old each = (
  by_other (actor_of stage e.what) a (λ b. IfSome (own_clock stage part b) (λ c. c < e.clock.0)) is each.0.own,
  old,
)
rises_step stage logs a e part false is old each = old

below_step : (stage : Stage) (logs : List Log) (a : Actor) (e : Event) (part : List Event) (mine : Bool)
    → AtEach (IsEntry stage logs a) (cond mine (e ∷ part) part) → AtEach (IsEntry stage logs a) part
below_step stage logs a e part true each = each.1
below_step stage logs a e part false each = each

pub part_rises : (stage : Stage) (logs : List Log) (a : Actor) (events : List Event)
    → AtEach (IsEntry stage logs a) (log_of stage events a) → Rises stage a (log_of stage events a)
part_rises stage logs a [] each = tt
part_rises stage logs a (e ∷ rest) each =
    rises_step stage logs a e (log_of stage rest a) (is_by (actor_of stage e.what) a) refl
    (part_rises stage logs a rest
    (below_step stage logs a e (log_of stage rest a) (is_by (actor_of stage e.what) a) each)) each

-- the projection of the merged events onto one actor is that actor's log
pub merged_part : (stage : Stage) (logs : List Log) (a : Actor) → Agree stage logs
    → log_of stage (merged logs) a ≡ log_of stage (gathered logs) a
merged_part stage logs a agree =
    part_by_clock stage a (gathered logs) (gathered_falls stage logs agree)
    (part_rises stage logs a (gathered logs) (gathered_entries stage logs a agree))

pub is_whole : (stage : Stage) (logs : List Log) → Agree stage logs → IsWhole stage logs (merged logs)
is_whole stage logs agree = record {
  falls = by_clock_falls stage (gathered logs) (gathered_falls stage logs agree);
  part = λ a. merged_part stage logs a agree ∙ named_part stage logs logs a agree.entries agree.actors;
  entries =
      λ a. subst (λ (x : List Event). AtEach (IsEntry stage logs a) x) (sym (merged_part stage logs a agree))
      (gathered_entries stage logs a agree);
  stand = all_by_clock (λ e. Stands stage logs e) (gathered logs) (all_stand stage logs logs agree.entries);
  some = λ test. some_by_clock test (gathered logs);
  once =
      λ k. rw (many_by_clock (λ (e : Event). steers_packet e.what k) (gathered logs))
      (agree_once logs k (agree.once k));
  posts = whole_part stage logs (named logs Controller) (named_entries stage logs logs Controller agree.entries);
}

-- BEFORE AND AFTER AN EVENT

pub at_each_split : (P : List Event → Event → Type 0) (x past : List Event) (e : Event) → AtEach P (x ++ e ∷ past)
    → P past e
at_each_split P [] past e each = each.0
at_each_split P (y ∷ x) past e each = at_each_split P x past e each.1

pub all_middle : (P : Event → Type 0) (x past : List Event) (e : Event) → AllByRecursion P (x ++ e ∷ past) → P e
all_middle P [] past e all = all.0
all_middle P (y ∷ x) past e all = all_middle P x past e all.1

pub falls_below : (k : Event → ℕ) (x past : List Event) → IsFalling k (x ++ past) → IsFalling k past
falls_below k [] past falls = falls
falls_below k (y ∷ x) past falls = falls_below k x past falls.1

-- what is newer has no smaller key
pub newer : (k : Event → ℕ) (x past : List Event) (e : Event) → IsFalling k (x ++ e ∷ past)
    → AllByRecursion (λ y. k e ≤ k y) x
newer k [] past e falls = tt
newer k (y ∷ x) past e falls = (all_middle (λ z. k z ≤ k y) x past e falls.0, newer k x past e falls.1)

pub some_weaker : (f g : Event → Bool) (x : List Event) → ((e : Event) → f e ≡ true → g e ≡ true)
    → some_event f x ≡ true → some_event g x ≡ true
some_weaker f g [] so h = absurd (cc)
some_weaker f g (e ∷ x) so h =
    elim (or_cases (f e) (some_event f x) h)
    [ inl a ↦ or_left _ _ (so e a) | inr b ↦ or_right _ _ (some_weaker f g x so b) ]

not_below : (t : Bool) (c k : ℕ) → c ≤ k → (t && ltb k c) ≡ true → ⊥
not_below t c k h e = let under : k < c = ltb-true _ _ ((and_parts t (ltb k c) e).1) in omega arith

-- an event with a lower clock stands before
pub lower_before : (test : Event → Bool) (x past : List Event) (e : Event)
    → AllByRecursion (λ y. e.clock.0 ≤ y.clock.0) x
    → some_event (λ y. test y && ltb y.clock.0 e.clock.0) (x ++ e ∷ past) ≡ true → some_event test past ≡ true
lower_before test [] past e over h =
    elim (or_cases (test e && ltb e.clock.0 e.clock.0) (some_event (λ y. test y && ltb y.clock.0 e.clock.0) past) h) [
      | inl a ↦ absurd (not_below (test e) e.clock.0 e.clock.0 (omega arith) a)
      | inr b ↦ some_weaker (λ y. test y && ltb y.clock.0 e.clock.0) test past
          (λ y t. (and_parts (test y) (ltb y.clock.0 e.clock.0) t).0) b
    ]
lower_before test (z ∷ x) past e over h =
    elim (or_cases (test z && ltb z.clock.0 e.clock.0)
    (some_event (λ y. test y && ltb y.clock.0 e.clock.0) (x ++ e ∷ past)) h) [
      | inl a ↦ absurd (not_below (test z) e.clock.0 z.clock.0 over.0 a)
      | inr b ↦ lower_before test x past e over.1 b
    ]

more_step : (t : Bool) (m n : ℕ) → m ≤ n → m ≤ cond t (suc n) n
more_step true m n h = omega arith
more_step false m n h = h

pub many_more : (test : Event → Bool) (x past : List Event) → how_many test past ≤ how_many test (x ++ past)
many_more test [] past = omega arith
many_more test (y ∷ x) past = more_step (test y) _ _ (many_more test x past)

-- STEERS

direct_steers : (what : What) (k : ℕ) → sends what k Direct ≡ true → steers_packet what k ≡ true
direct_steers (Steer packet m) k h = (and_parts (eqb packet k) true h).0
direct_steers (Publish v) k h = absurd (cc)
direct_steers (Switch m v) k h = absurd (cc)
direct_steers (Lose packet hop) k h = absurd (cc)
direct_steers (Close server flow closed) k h = absurd (cc)
direct_steers (Retire server x at result) k h = absurd (cc)
direct_steers Sync k h = absurd (cc)
direct_steers (Arrive packet Direct server (Forward to)) k h =
    let bad = (and_parts (eqb packet k) false h).1 in absurd (cc)
direct_steers (Arrive packet Chained server (Forward to)) k h =
    let bad = (and_parts (eqb packet k) false h).1 in absurd (cc)
direct_steers (Arrive packet Twice server (Forward to)) k h = absurd (cc)
direct_steers (Arrive packet hop server Accept) k h = absurd (cc)
direct_steers (Arrive packet hop server (Process t)) k h = absurd (cc)
direct_steers (Arrive packet hop server (Reset why)) k h = absurd (cc)
direct_steers (Arrive packet hop server (Drop why)) k h = absurd (cc)

one_step : (t : Bool) (n : ℕ) → t ≡ true → 1 ≤ cond t (suc n) n
one_step true n h = omega arith
one_step false n h = absurd (cc)

pub sent_counts : (past : List Event) (k : ℕ) → is_sent past k Direct ≡ true
    → 1 ≤ how_many (λ e. steers_packet e.what k) past
sent_counts [] k h = absurd (cc)
sent_counts (e ∷ past) k h = elim (or_cases (sends e.what k Direct) (is_sent past k Direct) h) [
  | inl a ↦ one_step (steers_packet e.what k) _ (direct_steers e.what k a)
  | inr b ↦ more_step (steers_packet e.what k) 1 _ (sent_counts past k b)
]

not_steered : (t : Bool) (n : ℕ) → cond t (suc n) n ≤ 1 → 1 ≤ n → t ≡ false
not_steered true n h one = absurd (omega arith)
not_steered false n h one = refl

fewer_step : (t : Bool) (n : ℕ) → cond t (suc n) n ≤ 1 → n ≤ 1
fewer_step true n h = omega arith
fewer_step false n h = h

-- LABELS

pub label_stays : (stage : Stage) (past : List Event) (what : What) (k : ℕ) (before : Option Label)
    → steers_packet what k ≡ false → label_after stage past what k before ≡ before
label_stays stage past (Steer packet m) k before h = rw h refl
label_stays stage past (Publish v) k before h = refl
label_stays stage past (Switch m v) k before h = refl
label_stays stage past (Lose packet hop) k before h = refl
label_stays stage past (Arrive packet hop server verdict) k before h = refl
label_stays stage past (Close server flow closed) k before h = refl
label_stays stage past (Retire server x at result) k before h = refl
label_stays stage past Sync k before h = refl

-- after its one Steer a packet's label stays
pub label_down : (stage : Stage) (x past : List Event) (k : ℕ) → is_sent past k Direct ≡ true
    → how_many (λ e. steers_packet e.what k) (x ++ past) ≤ 1 → label_of stage (x ++ past) k ≡ label_of stage past k
label_down stage [] past k sent few = refl
label_down stage (e ∷ x) past k sent few =
    let one : 1 ≤ how_many (λ e. steers_packet e.what k) past = sent_counts past k sent
    in let more : how_many (λ e. steers_packet e.what k) past ≤ how_many (λ e. steers_packet e.what k) (x ++ past) =
    many_more (λ e. steers_packet e.what k) x past
    in label_stays stage (x ++ past) e.what k _ (not_steered (steers_packet e.what k) _ few (omega arith))
    ∙ label_down stage x past k sent (fewer_step (steers_packet e.what k) _ few)

part_fewer_step : (test : Event → Bool) (e : Event) (part past : List Event) (mine : Bool)
    → how_many test part ≤ how_many test past → how_many test (cond mine (e ∷ part) part) ≤ how_many test (e ∷ past)
part_fewer_step test e part past true h = both (test e) where
  both : (t : Bool)
      → cond t (suc (how_many test part)) (how_many test part)
      ≤ cond t (suc (how_many test past)) (how_many test past)
  both true = omega arith
  both false = h
part_fewer_step test e part past false h = more_step (test e) _ _ h

pub part_fewer : (test : Event → Bool) (stage : Stage) (a : Actor) (past : List Event)
    → how_many test (log_of stage past a) ≤ how_many test past
part_fewer test stage a [] = omega arith
part_fewer test stage a (e ∷ past) =
    part_fewer_step test e (log_of stage past a) past (is_by (actor_of stage e.what) a) (part_fewer test stage a past)

-- the mux's own log labels as the history does
labelled_same : (stage : Stage) (past : List Event) (m x : MuxId) (o : Option Segment) → x.0 ≡ m.0
    → labelled stage (log_of stage past (MuxOf m.0)) x o ≡ labelled stage past x o
labelled_same stage past m x None same = refl
labelled_same stage past m x (Some s) same =
    let v : version_at (log_of stage past (MuxOf m.0)) x ≡ version_at past x =
    subst (λ (n : ℕ). version_at (log_of stage past (MuxOf n)) x ≡ version_at past x) same
    (version_in_log stage past x)
    in rw v refl

from_log_steer : (stage : Stage) (past : List Event) (e : Event) (m : MuxId) (k : ℕ) (l : Label) (packet : ℕ)
    (x : MuxId) (same mine : Bool) → eqb packet k ≡ same → eqb x.0 m.0 ≡ mine
    → e.what ≡ Steer packet x
    → cond same (suc (how_many (λ e. steers_packet e.what k) past)) (how_many (λ e. steers_packet e.what k) past)
    ≤ 1
    → (label_of stage (log_of stage past (MuxOf m.0)) k ≡ Some l → label_of stage past k ≡ Some l)
    → label_of stage (cond mine (e ∷ log_of stage past (MuxOf m.0)) (log_of stage past (MuxOf m.0))) k ≡ Some l
    → cond same (labelled stage past x (segment_of stage k)) (label_of stage past k) ≡ Some l
from_log_steer stage past e m k l packet x true true is own what few old h =
    let new = rw (what, is) at h
    in sym (labelled_same stage past m x (segment_of stage k) (eqb-true _ _ own)) ∙ new
from_log_steer stage past e m k l packet x true false is own what few old h =
    let one : 1 ≤ how_many (λ e. steers_packet e.what k) (log_of stage past (MuxOf m.0)) =
    sent_counts (log_of stage past (MuxOf m.0)) k (labelled_sent stage (log_of stage past (MuxOf m.0)) k l h)
    in let most : how_many (λ e. steers_packet e.what k) (log_of stage past (MuxOf m.0))
    ≤ how_many (λ e. steers_packet e.what k) past =
    part_fewer (λ e. steers_packet e.what k) stage (MuxOf m.0) past
    in absurd (omega arith)
from_log_steer stage past e m k l packet x false true is own what few old h = old (rw (what, is) at h)
from_log_steer stage past e m k l packet x false false is own what few old h = old h

from_log_other : (stage : Stage) (past : List Event) (e : Event) (a : Actor) (k : ℕ) (l : Label) (mine : Bool)
    → steers_packet e.what k ≡ false
    → (label_of stage (log_of stage past a) k ≡ Some l → label_of stage past k ≡ Some l)
    → label_of stage (cond mine (e ∷ log_of stage past a) (log_of stage past a)) k ≡ Some l
    → label_of stage past k ≡ Some l
from_log_other stage past e a k l true not old h =
    old (sym (label_stays stage (log_of stage past a) e.what k _ not) ∙ h)
from_log_other stage past e a k l false not old h = old h

from_log_step : (stage : Stage) (past : List Event) (e : Event) (m : MuxId) (k : ℕ) (l : Label) (what : What)
    → e.what ≡ what
    → cond (steers_packet what k) (suc (how_many (λ e. steers_packet e.what k) past))
    (how_many (λ e. steers_packet e.what k) past) ≤ 1
    → (label_of stage (log_of stage past (MuxOf m.0)) k ≡ Some l → label_of stage past k ≡ Some l)
    → label_of stage
    (cond (is_by (actor_of stage what) (MuxOf m.0)) (e ∷ log_of stage past (MuxOf m.0))
    (log_of stage past (MuxOf m.0))) k ≡ Some l
    → label_after stage past what k (label_of stage past k) ≡ Some l
from_log_step stage past e m k l (Steer packet x) is few old h =
    from_log_steer stage past e m k l packet x (eqb packet k) (eqb x.0 m.0) refl refl is few old h
from_log_step stage past e m k l (Publish v) is few old h =
    from_log_other stage past e (MuxOf m.0) k l false (rw is refl) old h
from_log_step stage past e m k l (Switch x v) is few old h =
    from_log_other stage past e (MuxOf m.0) k l (eqb x.0 m.0) (rw is refl) old h
from_log_step stage past e m k l (Lose packet hop) is few old h =
    from_log_other stage past e (MuxOf m.0) k l false (rw is refl) old h
from_log_step stage past e m k l (Arrive packet hop server verdict) is few old h =
    from_log_other stage past e (MuxOf m.0) k l
    (is_by (actor_of stage (Arrive packet hop server verdict)) (MuxOf m.0)) (rw is refl) old h
from_log_step stage past e m k l (Close server flow closed) is few old h =
    from_log_other stage past e (MuxOf m.0) k l false (rw is refl) old h
from_log_step stage past e m k l (Retire server x at result) is few old h =
    from_log_other stage past e (MuxOf m.0) k l false (rw is refl) old h
from_log_step stage past e m k l Sync is few old h =
    from_log_other stage past e (MuxOf m.0) k l false (rw is refl) old h

-- where a packet has one Steer, a label in a mux's log is that of the history
pub label_from_log : (stage : Stage) (past : List Event) (m : MuxId) (k : ℕ) (l : Label)
    → how_many (λ e. steers_packet e.what k) past ≤ 1
    → label_of stage (log_of stage past (MuxOf m.0)) k ≡ Some l → label_of stage past k ≡ Some l
label_from_log stage [] m k l few h = h
label_from_log stage (e ∷ past) m k l few h =
    from_log_step stage past e m k l e.what refl few
    (label_from_log stage past m k l (fewer_step (steers_packet e.what k) _ few)) h

-- THE STEP

publish_step : (what : What) (v before : ℕ) → is_publish_of what v ≡ true → published_by what before ≡ v
publish_step (Publish x) v before h = eqb-true _ _ h
publish_step (Switch m x) v before h = absurd (cc)
publish_step (Steer k m) v before h = absurd (cc)
publish_step (Lose k hop) v before h = absurd (cc)
publish_step (Arrive k hop server verdict) v before h = absurd (cc)
publish_step (Close server flow closed) v before h = absurd (cc)
publish_step (Retire server x at result) v before h = absurd (cc)
publish_step Sync v before h = absurd (cc)

-- the newest version is no lower than any that was published
published_before : (stage : Stage) (past : List Event) (v : ℕ) → Run stage past
    → some_event (λ e. is_publish_of e.what v) past ≡ true → v ≤ newest past
published_before stage [] v run h = absurd (cc)
published_before stage (e ∷ past) v run h =
    elim (or_cases (is_publish_of e.what v) (some_event (λ e. is_publish_of e.what v) past) h) [
      | inl a ↦ let is : published_by e.what (newest past) ≡ v = publish_step e.what v (newest past) a in omega arith
      | inr b ↦
          let old : v ≤ newest past = published_before stage past v run.1 b
          in let grows : newest past ≤ published_by e.what (newest past) =
          newest_grows stage past e.clock.0 e.what run.0.may
          in omega arith
    ]

-- what was sent
pub sent_is : (past : List Event) (k : ℕ) (hop : Hop) → some_event (λ e. sends e.what k hop) past ≡ is_sent past k hop
sent_is [] k hop = refl
sent_is (e ∷ past) k hop = ap (λ (b : Bool). sends e.what k hop || b) (sent_is past k hop)

sent_at_is : (past : List Event) (k : ℕ) (hop : Hop) (clock : ℕ)
    → some_event (λ e. sends e.what k hop && eqb e.clock.0 clock) past ≡ is_sent_at past k hop clock
sent_at_is [] k hop clock = refl
sent_at_is (e ∷ past) k hop clock =
    ap (λ (b : Bool). sends e.what k hop && eqb e.clock.0 clock || b) (sent_at_is past k hop clock)

and_also : (a b c : Bool) → (a && b) ≡ true → c ≡ true → ((a && b) && c) ≡ true
and_also true true c h k = k
and_also true false c h k = absurd (cc)
and_also false b c h k = absurd (cc)

-- a Lose needs nothing of the rest of its log
lose_own : (stage : Stage) (a : Actor) (x y : List Event) (clock : ℕ) (what : What) → stands_in stage what a ≡ true
    → is_by (actor_of stage what) a ≡ false
    → IfSome (actor_of stage what) (λ b. IfSome (own_clock stage y b) (λ c. c < clock))
lose_own stage a x y clock (Lose k hop) stands not = tt
lose_own stage a x y clock (Publish v) stands not = absurd (cc)
lose_own stage a x y clock (Switch m v) stands not = absurd (cc)
lose_own stage a x y clock (Steer k m) stands not = absurd (cc)
lose_own stage a x y clock (Arrive k hop server verdict) stands not = absurd (cc)
lose_own stage a x y clock (Close server flow closed) stands not = absurd (cc)
lose_own stage a x y clock (Retire server h at result) stands not = absurd (cc)
lose_own stage a x y clock Sync stands not = absurd (cc)

lose_version : (stage : Stage) (a : Actor) (y : List Event) (what : What) → stands_in stage what a ≡ true
    → is_by (actor_of stage what) a ≡ false → IsNextVersion stage y what
lose_version stage a y (Lose k hop) stands not = tt
lose_version stage a y (Publish v) stands not = absurd (cc)
lose_version stage a y (Switch m v) stands not = absurd (cc)
lose_version stage a y (Steer k m) stands not = absurd (cc)
lose_version stage a y (Arrive k hop server verdict) stands not = absurd (cc)
lose_version stage a y (Close server flow closed) stands not = absurd (cc)
lose_version stage a y (Retire server h at result) stands not = absurd (cc)
lose_version stage a y Sync stands not = absurd (cc)

lose_replayed : (stage : Stage) (logs : List Log) (a : Actor) (y : List Event) (clock : ℕ) (what : What)
    → stands_in stage what a ≡ true → is_by (actor_of stage what) a ≡ false → IsReplayed stage logs y clock what
lose_replayed stage logs a y clock (Lose k hop) stands not = tt
lose_replayed stage logs a y clock (Publish v) stands not = absurd (cc)
lose_replayed stage logs a y clock (Switch m v) stands not = absurd (cc)
lose_replayed stage logs a y clock (Steer k m) stands not = absurd (cc)
lose_replayed stage logs a y clock (Arrive k hop server verdict) stands not = absurd (cc)
lose_replayed stage logs a y clock (Close server flow closed) stands not = absurd (cc)
lose_replayed stage logs a y clock (Retire server h at result) stands not = absurd (cc)
lose_replayed stage logs a y clock Sync stands not = absurd (cc)

mine_split : (stage : Stage) (logs : List Log) (a : Actor) (x past : List Event) (e : Event)
    → is_by (actor_of stage e.what) a ≡ true
    → AtEach (IsEntry stage logs a) (log_of stage (x ++ e ∷ past) a) → IsEntry stage logs a (log_of stage past a) e
mine_split stage logs a x past e mine each =
    let is : log_of stage (x ++ e ∷ past) a ≡ log_of stage x a ++ e ∷ log_of stage past a =
    part_append stage a x (e ∷ past) ∙ (rw mine refl)
    in at_each_split (IsEntry stage logs a) (log_of stage x a) (log_of stage past a) e
    (subst (λ (y : List Event). AtEach (IsEntry stage logs a) y) is each)

-- an event of the merged events is an entry after those before it
entry_here : (stage : Stage) (logs : List Log) (x past : List Event) (e : Event) → IsWhole stage logs (x ++ e ∷ past)
    → (a : Actor) (rest : List Event) → IsEntry stage logs a rest e → IsEntry stage logs a past e
entry_here stage logs x past e whole a rest entry =
    elim (cases_Bool (is_by (actor_of stage e.what) a)) [
      | inl mine ↦ entry_same stage logs a (log_of stage past a) past e mine (same_in_log stage a past)
          (mine_split stage logs a x past e mine (whole.entries a))
      | inr not ↦
          record {
            stands = entry.stands;
            own = lose_own stage a rest past e.clock.0 e.what entry.stands not;
            version = lose_version stage a past e.what entry.stands not;
            mux = entry.mux;
            published = entry.published;
            record_of = entry.record_of;
            sent = entry.sent;
            place = entry.place;
            replayed = lose_replayed stage logs a past e.clock.0 e.what entry.stands not;
            judged = entry.judged;
          }
    ]

-- THE NEWEST VERSION AT A CLOCK

until_past_step : (stage : Stage) (clock : ℕ) (y : Event) (past : List Event) (mine : Bool) → y.clock.0 ≤ clock
    → newest_until clock (log_of stage past Controller) ≡ newest (log_of stage past Controller)
    → newest_until clock (cond mine (y ∷ log_of stage past Controller) (log_of stage past Controller))
    ≡ newest (cond mine (y ∷ log_of stage past Controller) (log_of stage past Controller))
until_past_step stage clock y past true under old =
    let is : leb y.clock.0 clock ≡ true = le-leb _ _ under in rw is refl
until_past_step stage clock y past false under old = old

until_past : (stage : Stage) (clock : ℕ) (past : List Event) → AllByRecursion (λ y. y.clock.0 ≤ clock) past
    → newest_until clock (log_of stage past Controller) ≡ newest (log_of stage past Controller)
until_past stage clock [] under = refl
until_past stage clock (y ∷ past) under =
    until_past_step stage clock y past (is_by (actor_of stage y.what) Controller) under.0
    (until_past stage clock past under.1)

pub leb_not : (a b : ℕ) → b < a → leb a b ≡ false
leb_not a b h = grind (arith, nat_tests)

until_newer_step : (stage : Stage) (e y : Event) (part : List Event) (mine : Bool)
    → is_by (actor_of stage y.what) Controller ≡ mine → is_by (actor_of stage e.what) Controller ≡ false
    → key stage e ≤ key stage y
    → newest_until e.clock.0 (cond mine (y ∷ part) part) ≡ newest_until e.clock.0 part
until_newer_step stage e y part true is not over =
    let r : rank stage y ≡ 0 = ap (λ (b : Bool). rank_by b) is
    in let s : rank stage e ≡ 1 = ap (λ (b : Bool). rank_by b) not
    in let above : e.clock.0 < y.clock.0 = omega arith
    in let test : leb y.clock.0 e.clock.0 ≡ false = leb_not _ _ above
    in rw test refl
until_newer_step stage e y part false is not over = refl

-- the controller's events of that clock and before are those before the event
until_here : (stage : Stage) (x past : List Event) (e : Event) → is_by (actor_of stage e.what) Controller ≡ false
    → AllByRecursion (λ y. key stage e ≤ key stage y) x
    → newest_until e.clock.0 (log_of stage (x ++ e ∷ past) Controller)
    ≡ newest_until e.clock.0 (log_of stage past Controller)
until_here stage [] past e not over = rw not refl
until_here stage (y ∷ x) past e not over =
    until_newer_step stage e y (log_of stage (x ++ e ∷ past) Controller) (is_by (actor_of stage y.what) Controller)
    refl not over.0 ∙ until_here stage x past e not over.1

newest_here : (stage : Stage) (logs : List Log) (x past : List Event) (e : Event) → IsWhole stage logs (x ++ e ∷ past)
    → is_by (actor_of stage e.what) Controller ≡ false
    → newest_until e.clock.0 (named logs Controller) ≡ newest past
newest_here stage logs x past e whole not =
    let falls : IsFalling (key stage) (e ∷ past) = falls_below (key stage) x (e ∷ past) whole.falls
    in ap (λ (y : List Event). newest_until e.clock.0 y) (sym (whole.part Controller ∙ whole.posts))
    ∙ until_here stage x past e not (newer (key stage) x past e whole.falls)
    ∙ until_past stage e.clock.0 past
    (all_so (λ y. key stage y ≤ key stage e) (λ y. y.clock.0 ≤ e.clock.0) past (λ y h. key_clock stage y e h)
    falls.0)
    ∙ newest_in_log stage past

-- EACH EVENT MAY COME

below : (stage : Stage) (logs : List Log) (x past : List Event) (e : Event) (test : Event → Bool)
    → IsWhole stage logs (x ++ e ∷ past)
    → some_event (λ y. test y && ltb y.clock.0 e.clock.0) (gathered logs) ≡ true → some_event test past ≡ true
below stage logs x past e test whole h =
    lower_before test x past e
    (all_so (λ y. key stage e ≤ key stage y) (λ y. e.clock.0 ≤ y.clock.0) x (λ y k. key_clock stage e y k)
    (newer (key stage) x past e whole.falls))
    (whole.some (λ y. test y && ltb y.clock.0 e.clock.0) ∙ h)

pub not_yet : (stage : Stage) (logs : List Log) (x past : List Event) (e : Event) (k : ℕ)
    → IsWhole stage logs (x ++ e ∷ past) → steers_packet e.what k ≡ true → is_sent past k Direct ≡ false
not_yet stage logs x past e k whole is = elim (cases_Bool (is_sent past k Direct)) [
  | inl sent ↦
      let one : 1 ≤ how_many (λ y. steers_packet y.what k) past = sent_counts past k sent
      in let most : how_many (λ y. steers_packet y.what k) (x ++ e ∷ past) ≤ 1 = whole.once k
      in let more : how_many (λ y. steers_packet y.what k) (e ∷ past)
      ≤ how_many (λ y. steers_packet y.what k) (x ++ e ∷ past) =
      many_more (λ y. steers_packet y.what k) x (e ∷ past)
      in let few : how_many (λ y. steers_packet y.what k) (e ∷ past) ≤ 1 = omega arith
      in let bad : steers_packet e.what k ≡ false = not_steered (steers_packet e.what k) _ few one
      in absurd (cc)
  | inr not ↦ not
]

pub label_here : (stage : Stage) (logs : List Log) (x past : List Event) (e : Event) (k : ℕ) (l : Label)
    → IsWhole stage logs (x ++ e ∷ past) → steers_packet e.what k ≡ false → is_sent past k Direct ≡ true
    → label_of stage (named logs (MuxOf l.mux.0)) k ≡ Some l → label_of stage past k ≡ Some l
label_here stage logs x past e k l whole not steered h =
    let logged : label_of stage (log_of stage (named logs (MuxOf l.mux.0)) (MuxOf l.mux.0)) k ≡ Some l =
    label_in_log stage (named logs (MuxOf l.mux.0)) k l h
    in let part : label_of stage (log_of stage (x ++ e ∷ past) (MuxOf l.mux.0)) k ≡ Some l =
    ap (λ (y : List Event). label_of stage y k) (whole.part (MuxOf l.mux.0)) ∙ logged
    in let all : label_of stage (x ++ e ∷ past) k ≡ Some l =
    label_from_log stage (x ++ e ∷ past) l.mux k l (whole.once k) part
    in sym (label_stays stage past e.what k (label_of stage past k) not)
    ∙ sym (label_down stage x (e ∷ past) k (or_right (sends e.what k Direct) _ steered) (whole.once k)) ∙ all

some_receiver : (o : Option Holding) → is_some o ≡ is_some (receiver_of o)
some_receiver None = refl
some_receiver (Some h) = refl

arrives : (stage : Stage) (logs : List Log) (x past : List Event) (e : Event) (k : ℕ) (hop : Hop) (server : ServerId)
    (verdict : Verdict) → IsWhole stage logs (x ++ e ∷ past) → Run stage past → e.what ≡ Arrive k hop server verdict
    → IsSentBefore logs e.clock.0 (Arrive k hop server verdict) → IsInPlace stage logs (Arrive k hop server verdict)
    → IsReplayed stage logs past e.clock.0 (Arrive k hop server verdict)
    → IsArrival stage past e.clock.0 k hop server verdict
arrives stage logs x past e k hop server verdict whole run is low place replayed =
    let sent : is_sent past k hop ≡ true =
    sym (sent_is past k hop) ∙ below stage logs x past e (λ y. sends y.what k hop) whole low
    in let steered = sent_steered stage past run k hop sent
    in let here : label_of stage past k ≡ Some replayed.2 =
    label_here stage logs x past e k replayed.2 whole (rw is refl) steered replayed.3
    in let there : label_of stage past k ≡ Some place.0 =
    label_here stage logs x past e k place.0 whole (rw is refl) steered place.1
    in let same : place.0 ≡ replayed.2 = same_Some _ _ (sym there ∙ here)
    in record {
      segment = replayed.0;
      is_segment = replayed.1;
      label = replayed.2;
      is_label = here;
      sent = sent;
      place = subst (λ (l : Label). arrives_at l.entry hop ≡ Some server) same place.2;
      verdict_is =
          replayed.4
          ∙ sym (ap
          (λ (l : Local). verdict_of l (timeout stage) e.clock.0 hop (onward replayed.2.entry hop) replayed.0)
          (local_in_book stage past server replayed.0.flow));
    }

-- what an entry says of its kind of event
abbrev Entered : Stage → List Log → List Event → ℕ → What → Type 0
Entered stage logs past clock what =
    IsNextVersion stage past what
    × IsOfMux stage what
    × IsPublishedBefore logs clock what
    × IsOfRecord stage what
    × IsSentBefore logs clock what
    × IsInPlace stage logs what
    × IsReplayed stage logs past clock what
    × IsJudged stage logs clock what

lose_sent : (stage : Stage) (logs : List Log) (x past : List Event) (e : Event) (k : ℕ) (hop : Hop)
    → IsWhole stage logs (x ++ e ∷ past) → (sending : ℕ) → e.clock.0 ≡ sending + 1
    → some_event (λ y. sends y.what k hop && eqb y.clock.0 sending) (gathered logs) ≡ true
    → is_sent_at past k hop sending ≡ true
lose_sent stage logs x past e k hop whole sending after sent =
    let low : some_event (λ y. (sends y.what k hop && eqb y.clock.0 sending) && ltb y.clock.0 e.clock.0)
    (gathered logs) ≡ true =
    some_weaker (λ y. sends y.what k hop && eqb y.clock.0 sending)
    (λ y. (sends y.what k hop && eqb y.clock.0 sending) && ltb y.clock.0 e.clock.0) (gathered logs)
    (λ y h.
    let at : y.clock.0 ≡ sending = eqb-true _ _ ((and_parts (sends y.what k hop) (eqb y.clock.0 sending) h).1)
    in and_also (sends y.what k hop) (eqb y.clock.0 sending) (ltb y.clock.0 e.clock.0) h (lt-ltb _ _ (omega arith)))
    sent
    in sym (sent_at_is past k hop sending)
    ∙ below stage logs x past e (λ y. sends y.what k hop && eqb y.clock.0 sending) whole low

may_come : (stage : Stage) (logs : List Log) (x past : List Event) (e : Event) → IsWhole stage logs (x ++ e ∷ past)
    → Run stage past → (what : What) → e.what ≡ what → Entered stage logs past e.clock.0 what
    → MayCome stage past e.clock.0 what
may_come stage logs x past e whole run (Publish v) is entry = entry.0
may_come stage logs x past e whole run (Switch m v) is entry = (
  entry.1,
  elim entry.2 [
    | inl zero ↦ omega arith
    | inr posted ↦ published_before stage past v.0 run
        (below stage logs x past e (λ y. is_publish_of y.what v.0) whole posted)
  ],
)
may_come stage logs x past e whole run (Steer k m) is entry =
    (entry.1, not_yet stage logs x past e k whole (rw is (eq-eqb k k refl)), entry.3)
may_come stage logs x past e whole run (Lose k hop) is entry =
    let sent = entry.4 in (sent.0, sent.1, lose_sent stage logs x past e k hop whole sent.0 sent.1 sent.2)
may_come stage logs x past e whole run (Arrive k hop server verdict) is entry =
    arrives stage logs x past e k hop server verdict whole run is entry.4 entry.5 entry.6
may_come stage logs x past e whole run (Close server flow closed) is entry =
    entry.6
    ∙ sym (some_receiver (held stage past server flow)
    ∙ ap (λ (o : Option Receiver). is_some o) (held_in_book stage past server flow))
may_come stage logs x past e whole run (Retire server h at result) is entry =
    let judged = entry.7
    in (
      judged.0,
      subst (λ (n : ℕ). IsRetirement stage.script.plan (timeout stage) n server at.0 result)
          (newest_here stage logs x past e whole (rw is refl)) judged.1,
    )
may_come stage logs x past e whole run Sync is entry = tt

last_below : (past : List Event) (clock : ℕ) → AllByRecursion (λ y. y.clock.0 ≤ clock) past → last_clock past ≤ clock
last_below [] clock under = omega arith
last_below (y ∷ past) clock under = under.0

step_here : (stage : Stage) (logs : List Log) (x past : List Event) (e : Event) → IsWhole stage logs (x ++ e ∷ past)
    → Run stage past → IsStep stage past e
step_here stage logs x past e whole run =
    let stand : Stands stage logs e = all_middle (λ y. Stands stage logs y) x past e whole.stand
    in let entry : IsEntry stage logs stand.0 past e = entry_here stage logs x past e whole stand.0 stand.1 stand.2
    in let falls : IsFalling (key stage) (e ∷ past) = falls_below (key stage) x (e ∷ past) whole.falls
    in record {
      clock =
          last_below past e.clock.0
          (all_so (λ y. key stage y ≤ key stage e) (λ y. y.clock.0 ≤ e.clock.0) past (λ y h. key_clock stage y e h)
          falls.0);
      own = entry.own;
      may = may_come stage logs x past e whole run e.what refl (
        entry.version,
        entry.mux,
        entry.published,
        entry.record_of,
        entry.sent,
        entry.place,
        entry.replayed,
        entry.judged,
      );
    }

pub moved_over : (x past : List Event) (e : Event) → (x ++ e ∷ []) ++ past ≡ x ++ e ∷ past
moved_over [] past e = refl
moved_over (y ∷ x) past e = ap (λ (l : List Event). y ∷ l) (moved_over x past e)

run_below : (stage : Stage) (logs : List Log) (x past : List Event) → IsWhole stage logs (x ++ past) → Run stage past
run_below stage logs x [] whole = tt
run_below stage logs x (e ∷ past) whole =
    let run : Run stage past =
    run_below stage logs (x ++ e ∷ []) past
    (subst (λ (y : List Event). IsWhole stage logs y) (sym (moved_over x past e)) whole)
    in (step_here stage logs x past e whole run, run)

-- the logs that agree merge to a run
pub merge_runs : (stage : Stage) (logs : List Log) → Agree stage logs → Run stage (merged logs)
merge_runs stage logs agree = run_below stage logs [] (merged logs) (is_whole stage logs agree)

-- so what they merge to is a history that is a run
pub merge_law : (h : History) (logs : List Log) → Agree h.stage logs → h.events ≡ reverse (merged logs) → IsRun h
merge_law h logs agree is = record {
  sound = agree.sound;
  run =
      subst (λ (y : List Event). Run h.stage y)
      (sym (ap (λ (y : List Event). reverse y) is ∙ reverse-reverse (merged logs))) (merge_runs h.stage logs agree);
}

-- Logs that agree: what each actor's part of the merged events says.
use Rattle.std.proofs.Common.{◌≡◌, ℕ, suc, ◌<◌, ◌≤◌, Bool, true, false, cond, List, [], ◌∷◌, ◌++◌, Option, Some}
use Rattle.std.proofs.Common.{None, refl, sym, ap, ◌∙◌, subst, arith, eqb}
use Rattle.std.specs.Prelude.{IfSome, option_map, is_some}
use Rattle.std.specs.List.{AllByRecursion}
use Rattle.std.proofs.lemmas.Bool.{and_parts, or_parts, eqb-true}
use Rattle.bm_base.specs.declared.ids.ServerId.{ServerId}
use Rattle.bm_base.specs.declared.flow.Segment.{Segment}
use Rattle.bm_core.specs.declared.events.What.{What}
use Rattle.bm_core.specs.declared.events.What.TheVariants.{Publish, Switch, Steer, Lose, Arrive, Close, Retire, Sync}
use Rattle.bm_core.specs.declared.events.Event.{Event}
use Rattle.bm_core.specs.declared.events.Stage.{Stage}
use Rattle.bm_table.specs.Tables.{same_server}
use Rattle.bm_core.specs.Past.{segment_of, shard, timeout, published_by, newest}
use Rattle.bm_core.specs.Verdicts.{onward, verdict_of}
use Rattle.bm_core.specs.Books.{Turn, took, turn_of, add_turn, book_of, book_held, book_local}
use Rattle.bm_core.specs.Runs.{Actor, same_actor, actor_of, is_by, own_clock}
use Rattle.bm_core.specs.Runs.Actor.{Controller, MuxOf, ShardOf}
use Rattle.bm_core.specs.Logs.{log_of}
use Rattle.bm_merge.specs.Merges.{Log, gathered, AtEach, named, has_actor, HaveOwnLogs, BeginWithController}
use Rattle.bm_merge.specs.Merges.{stands_in, IsNextVersion, IsReplayed, IsEntry, Agree}
use Rattle.bm_merge.proofs.Placed.{IsFalling, rank_by, rank, rank_most, all_so, own_in_log}

-- ACTORS

pub same_actor-true : (a b : Actor) → same_actor a b ≡ true → a ≡ b
same_actor-true Controller Controller h = refl
same_actor-true (MuxOf m) (MuxOf n) h = ap (λ (x : ℕ). MuxOf x) (eqb-true _ _ h)
same_actor-true (ShardOf s h) (ShardOf t i) e =
    let parts = and_parts (eqb s t) (eqb h i) e
    in ap (λ (x : ℕ). ShardOf x h) (eqb-true _ _ parts.0) ∙ ap (λ (x : ℕ). ShardOf t x) (eqb-true _ _ parts.1)
same_actor-true Controller (MuxOf n) h = absurd (cc)
same_actor-true Controller (ShardOf t i) h = absurd (cc)
same_actor-true (MuxOf m) Controller h = absurd (cc)
same_actor-true (MuxOf m) (ShardOf t i) h = absurd (cc)
same_actor-true (ShardOf s h) Controller e = absurd (cc)
same_actor-true (ShardOf s h) (MuxOf n) e = absurd (cc)

pub by_one : (o : Option Actor) (a b : Actor) → is_by o b ≡ true → same_actor b a ≡ false → is_by o a ≡ false
by_one None a b h other = refl
by_one (Some c) a b h other = subst (λ (x : Actor). same_actor x a ≡ false) (sym (same_actor-true c b h)) other

pub not_by : (stage : Stage) (what : What) (a b : Actor) → stands_in stage what b ≡ true → same_actor b a ≡ false
    → is_by (actor_of stage what) a ≡ false
not_by stage (Lose k hop) a b h other = refl
not_by stage (Publish v) a b h other = by_one (actor_of stage (Publish v)) a b h other
not_by stage (Switch m v) a b h other = by_one (actor_of stage (Switch m v)) a b h other
not_by stage (Steer k m) a b h other = by_one (actor_of stage (Steer k m)) a b h other
not_by stage (Arrive k hop server verdict) a b h other =
    by_one (actor_of stage (Arrive k hop server verdict)) a b h other
not_by stage (Close server flow closed) a b h other = by_one (actor_of stage (Close server flow closed)) a b h other
not_by stage (Retire server x at result) a b h other = by_one (actor_of stage (Retire server x at result)) a b h other
not_by stage Sync a b h other = by_one (actor_of stage Sync) a b h other

-- WHAT A PART SAYS OF ITS ACTOR

in_log_step : {A : Type 0} (stage : Stage) (a : Actor) (f : List Event → A) (e : Event) (past : List Event)
    (mine : Bool) → is_by (actor_of stage e.what) a ≡ mine
    → (is_by (actor_of stage e.what) a ≡ false → f (e ∷ past) ≡ f past)
    → ((x y : List Event) → f x ≡ f y → f (e ∷ x) ≡ f (e ∷ y))
    → f (log_of stage past a) ≡ f past → f (cond mine (e ∷ log_of stage past a) (log_of stage past a)) ≡ f (e ∷ past)
in_log_step stage a f e past true is skip same old = same _ _ old
in_log_step stage a f e past false is skip same old = old ∙ sym (skip is)

-- what others' events don't change, the actor's part says
pub in_log : {A : Type 0} (stage : Stage) (a : Actor) (f : List Event → A)
    → ((e : Event) (past : List Event) → is_by (actor_of stage e.what) a ≡ false → f (e ∷ past) ≡ f past)
    → ((e : Event) (x y : List Event) → f x ≡ f y → f (e ∷ x) ≡ f (e ∷ y))
    → (past : List Event) → f (log_of stage past a) ≡ f past
in_log stage a f skip same [] = refl
in_log stage a f skip same (e ∷ past) =
    in_log_step stage a f e past (is_by (actor_of stage e.what) a) refl (skip e past) (same e)
    (in_log stage a f skip same past)

not_published : (stage : Stage) (what : What) (n : ℕ) → is_by (actor_of stage what) Controller ≡ false
    → published_by what n ≡ n
not_published stage (Publish v) n h = absurd (cc)
not_published stage (Switch m v) n h = refl
not_published stage (Steer k m) n h = refl
not_published stage (Lose k hop) n h = refl
not_published stage (Arrive k hop server verdict) n h = refl
not_published stage (Close server flow closed) n h = refl
not_published stage (Retire server x at result) n h = refl
not_published stage Sync n h = refl

pub newest_in_log : (stage : Stage) (past : List Event) → newest (log_of stage past Controller) ≡ newest past
newest_in_log stage past =
    in_log stage Controller newest (λ e rest h. not_published stage e.what (newest rest) h)
    (λ e x y h. ap (λ (n : ℕ). published_by e.what n) h) past

no_turn : (stage : Stage) (what : What) (s : ServerId) (h : ℕ) → is_by (actor_of stage what) (ShardOf s.0 h) ≡ false
    → turn_of stage what s h ≡ None
no_turn stage (Arrive k hop server verdict) s h other = go (segment_of stage k) other where
  go : (o : Option Segment)
      → is_by (option_map (λ (t : Segment). ShardOf server.0 (shard stage t.flow)) o) (ShardOf s.0 h) ≡ false
      → took stage (same_server server s) h verdict o ≡ None
  go None e = refl
  go (Some t) e = rw e refl
no_turn stage (Close server flow closed) s h other = rw other refl
no_turn stage (Retire server x at result) s h other = rw other refl
no_turn stage (Publish v) s h other = refl
no_turn stage (Switch m v) s h other = refl
no_turn stage (Steer k m) s h other = refl
no_turn stage (Lose k hop) s h other = refl
no_turn stage Sync s h other = refl

pub book_in_log : (stage : Stage) (s : ServerId) (h : ℕ) (past : List Event)
    → book_of stage (log_of stage past (ShardOf s.0 h)) s h ≡ book_of stage past s h
book_in_log stage s h past =
    in_log stage (ShardOf s.0 h) (λ (x : List Event). book_of stage x s h)
    (λ e rest other. ap (λ (t : Option Turn). add_turn t (book_of stage rest s h)) (no_turn stage e.what s h other))
    (λ e x y same. ap (λ (b : List Turn). add_turn (turn_of stage e.what s h) b) same) past

-- both say the same of the actor
pub record IsSame (stage : Stage) (a : Actor) (x y : List Event) : Type 0 where
  pub own : own_clock stage x a ≡ own_clock stage y a
  pub newest_is : a ≡ Controller → newest x ≡ newest y
  pub book_is : (s : ServerId) (h : ℕ) → a ≡ ShardOf s.0 h → book_of stage x s h ≡ book_of stage y s h

pub same_in_log : (stage : Stage) (a : Actor) (past : List Event) → IsSame stage a (log_of stage past a) past
same_in_log stage a past = record {
  own = own_in_log stage a past;
  newest_is =
      λ c. subst (λ (b : Actor). newest (log_of stage past b) ≡ newest past) (sym c) (newest_in_log stage past);
  book_is =
      λ s h c. subst (λ (b : Actor). book_of stage (log_of stage past b) s h ≡ book_of stage past s h) (sym c)
      (book_in_log stage s h past);
}

pub same_back : (stage : Stage) (a : Actor) (x y : List Event) → IsSame stage a x y → IsSame stage a y x
same_back stage a x y same =
    record {
      own = sym same.own;
      newest_is = λ c. sym (same.newest_is c);
      book_is = λ s h c. sym (same.book_is s h c);
    }

version_same : (stage : Stage) (a : Actor) (x y : List Event) (what : What) → is_by (actor_of stage what) a ≡ true
    → IsSame stage a x y → IsNextVersion stage x what → IsNextVersion stage y what
version_same stage a x y (Publish v) mine same version =
    (subst (λ (n : ℕ). v.0 ≡ suc n) (same.newest_is (sym (same_actor-true Controller a mine))) version.0, version.1)
version_same stage a x y (Switch m v) mine same version = tt
version_same stage a x y (Steer k m) mine same version = tt
version_same stage a x y (Lose k hop) mine same version = tt
version_same stage a x y (Arrive k hop server verdict) mine same version = tt
version_same stage a x y (Close server flow closed) mine same version = tt
version_same stage a x y (Retire server h at result) mine same version = tt
version_same stage a x y Sync mine same version = tt

replayed_same : (stage : Stage) (logs : List Log) (a : Actor) (x y : List Event) (clock : ℕ) (what : What)
    → is_by (actor_of stage what) a ≡ true → IsSame stage a x y → IsReplayed stage logs x clock what
    → IsReplayed stage logs y clock what
replayed_same stage logs a x y clock (Arrive k hop server verdict) mine same replayed =
    let by : is_by (option_map (λ (t : Segment). ShardOf server.0 (shard stage t.flow)) (Some replayed.0)) a ≡ true =
    subst (λ (o : Option Segment). is_by (option_map (λ (t : Segment). ShardOf server.0 (shard stage t.flow)) o) a
    ≡ true)
    replayed.1 mine
    in let actor : a ≡ ShardOf server.0 (shard stage replayed.0.flow) = sym (same_actor-true _ a by)
    in (
      replayed.0,
      replayed.1,
      replayed.2,
      replayed.3,
      subst (λ (b : List Turn). verdict
          ≡ verdict_of (book_local stage.script.setting.capacity b replayed.0.flow) (timeout stage) clock hop
          (onward replayed.2.entry hop) replayed.0)
          (same.book_is server (shard stage replayed.0.flow) actor) replayed.4,
    )
replayed_same stage logs a x y clock (Close server flow closed) mine same replayed =
    subst (λ (b : List Turn). closed ≡ is_some (book_held b flow))
    (same.book_is server (shard stage flow) (sym (same_actor-true _ a mine))) replayed
replayed_same stage logs a x y clock (Publish v) mine same replayed = tt
replayed_same stage logs a x y clock (Switch m v) mine same replayed = tt
replayed_same stage logs a x y clock (Steer k m) mine same replayed = tt
replayed_same stage logs a x y clock (Lose k hop) mine same replayed = tt
replayed_same stage logs a x y clock (Retire server h at result) mine same replayed = tt
replayed_same stage logs a x y clock Sync mine same replayed = tt

own_same : (stage : Stage) (o : Option Actor) (a : Actor) (x y : List Event) (clock : ℕ) → is_by o a ≡ true
    → own_clock stage x a ≡ own_clock stage y a
    → IfSome o (λ b. IfSome (own_clock stage x b) (λ c. c < clock))
    → IfSome o (λ b. IfSome (own_clock stage y b) (λ c. c < clock))
own_same stage None a x y clock mine same own = tt
own_same stage (Some b) a x y clock mine same own =
    let is : b ≡ a = same_actor-true b a mine
    in subst (λ (z : Actor). IfSome (own_clock stage y z) (λ c. c < clock)) (sym is)
    (subst (λ (o : Option ℕ). IfSome o (λ c. c < clock)) same
    (subst (λ (z : Actor). IfSome (own_clock stage x z) (λ c. c < clock)) is own))

pub entry_same : (stage : Stage) (logs : List Log) (a : Actor) (x y : List Event) (e : Event)
    → is_by (actor_of stage e.what) a ≡ true → IsSame stage a x y → IsEntry stage logs a x e
    → IsEntry stage logs a y e
entry_same stage logs a x y e mine same entry = record {
  stands = entry.stands;
  own = own_same stage (actor_of stage e.what) a x y e.clock.0 mine same.own entry.own;
  version = version_same stage a x y e.what mine same entry.version;
  mux = entry.mux;
  published = entry.published;
  record_of = entry.record_of;
  sent = entry.sent;
  place = entry.place;
  replayed = replayed_same stage logs a x y e.clock.0 e.what mine same entry.replayed;
  judged = entry.judged;
}

-- PARTS OF LOGS

part_entries_step : (stage : Stage) (logs : List Log) (a : Actor) (e : Event) (rest : List Event) (mine : Bool)
    → is_by (actor_of stage e.what) a ≡ mine → IsEntry stage logs a rest e
    → AtEach (IsEntry stage logs a) (log_of stage rest a)
    → AtEach (IsEntry stage logs a) (cond mine (e ∷ log_of stage rest a) (log_of stage rest a))
part_entries_step stage logs a e rest true mine entry old = (
  entry_same stage logs a rest (log_of stage rest a) e mine (same_back _ _ _ _ (same_in_log stage a rest)) entry,
  old,
)
part_entries_step stage logs a e rest false mine entry old = old

part_entries : (stage : Stage) (logs : List Log) (a : Actor) (events : List Event)
    → AtEach (IsEntry stage logs a) events → AtEach (IsEntry stage logs a) (log_of stage events a)
part_entries stage logs a [] each = tt
part_entries stage logs a (e ∷ rest) each =
    part_entries_step stage logs a e rest (is_by (actor_of stage e.what) a) refl each.0
    (part_entries stage logs a rest each.1)

no_part : (stage : Stage) (logs : List Log) (a b : Actor) (events : List Event) → AtEach (IsEntry stage logs b) events
    → same_actor b a ≡ false → log_of stage events a ≡ []
no_part stage logs a b [] each other = refl
no_part stage logs a b (e ∷ rest) each other =
    let out = not_by stage e.what a b each.0.stands other in rw out (no_part stage logs a b rest each.1 other)

append_step : (mine : Bool) (e : Event) (z x y : List Event) → z ≡ x ++ y
    → cond mine (e ∷ z) z ≡ cond mine (e ∷ x) x ++ y
append_step true e z x y h = ap (λ (l : List Event). e ∷ l) h
append_step false e z x y h = h

pub part_append : (stage : Stage) (a : Actor) (x y : List Event)
    → log_of stage (x ++ y) a ≡ log_of stage x a ++ log_of stage y a
part_append stage a [] y = refl
part_append stage a (e ∷ x) y = append_step (is_by (actor_of stage e.what) a) e _ _ _ (part_append stage a x y)

append_none : (x : List Event) → x ++ [] ≡ x
append_none [] = refl
append_none (e ∷ x) = ap (λ (l : List Event). e ∷ l) (append_none x)

abbrev pub Entered : Stage → List Log → List Log → Type 0
Entered stage logs some = AllByRecursion (λ l. AtEach (λ rest e. IsEntry stage logs l.actor rest e) l.events) some

no_parts : (stage : Stage) (logs some : List Log) (a : Actor) → Entered stage logs some → has_actor some a ≡ false
    → log_of stage (gathered some) a ≡ []
no_parts stage logs [] a all other = refl
no_parts stage logs (l ∷ some) a all other =
    let parts = or_parts (same_actor l.actor a) (has_actor some a) other
    in part_append stage a (gathered some) l.events
    ∙ (rw (no_parts stage logs some a all.1 parts.1, no_part stage logs a l.actor l.events all.0 parts.0) refl)

named_step : (stage : Stage) (logs some : List Log) (a : Actor) (l : Log) (mine : Bool) → same_actor l.actor a ≡ mine
    → Entered stage logs (l ∷ some) → has_actor some l.actor ≡ false
    → log_of stage (gathered some) a ≡ log_of stage (named some a) a
    → log_of stage (gathered some) a ++ log_of stage l.events a
    ≡ log_of stage (cond mine l.events (named some a)) a
named_step stage logs some a l true is all alone old =
    let none : log_of stage (gathered some) a ≡ [] =
    no_parts stage logs some a all.1
    (subst (λ (b : Actor). has_actor some b ≡ false) (same_actor-true _ _ is) alone)
    in rw none refl
named_step stage logs some a l false is all alone old =
    let none : log_of stage l.events a ≡ [] = no_part stage logs a l.actor l.events all.0 is
    in rw none (append_none _ ∙ old)

-- an actor's part of all events is that of its log
pub named_part : (stage : Stage) (logs some : List Log) (a : Actor) → Entered stage logs some → HaveOwnLogs some
    → log_of stage (gathered some) a ≡ log_of stage (named some a) a
named_part stage logs [] a all alone = refl
named_part stage logs (l ∷ some) a all alone =
    part_append stage a (gathered some) l.events
    ∙ named_step stage logs some a l (same_actor l.actor a) refl all alone.0
    (named_part stage logs some a all.1 alone.1)

named_entries_step : (stage : Stage) (logs some : List Log) (a : Actor) (l : Log) (mine : Bool)
    → same_actor l.actor a ≡ mine → AtEach (IsEntry stage logs l.actor) l.events
    → AtEach (IsEntry stage logs a) (named some a) → AtEach (IsEntry stage logs a) (cond mine l.events (named some a))
named_entries_step stage logs some a l true is each old =
    subst (λ (b : Actor). AtEach (IsEntry stage logs b) l.events) (same_actor-true _ _ is) each
named_entries_step stage logs some a l false is each old = old

pub named_entries : (stage : Stage) (logs some : List Log) (a : Actor) → Entered stage logs some
    → AtEach (IsEntry stage logs a) (named some a)
named_entries stage logs [] a all = tt
named_entries stage logs (l ∷ some) a all =
    named_entries_step stage logs some a l (same_actor l.actor a) refl all.0 (named_entries stage logs some a all.1)

-- all entries of one actor, after its earlier ones
pub gathered_entries : (stage : Stage) (logs : List Log) (a : Actor) → Agree stage logs
    → AtEach (IsEntry stage logs a) (log_of stage (gathered logs) a)
gathered_entries stage logs a agree =
    subst (λ (x : List Event). AtEach (IsEntry stage logs a) x)
    (sym (named_part stage logs logs a agree.entries agree.actors))
    (part_entries stage logs a (named logs a) (named_entries stage logs logs a agree.entries))

-- RANKS

controls : (stage : Stage) (what : What) → stands_in stage what Controller ≡ true
    → is_by (actor_of stage what) Controller ≡ true
controls stage (Lose k hop) h = absurd (cc)
controls stage (Publish v) h = h
controls stage (Switch m v) h = h
controls stage (Steer k m) h = h
controls stage (Arrive k hop server verdict) h = h
controls stage (Close server flow closed) h = h
controls stage (Retire server x at result) h = h
controls stage Sync h = h

low : (stage : Stage) (logs : List Log) (events : List Event) → AtEach (IsEntry stage logs Controller) events
    → AllByRecursion (λ e. rank stage e ≡ 0) events
low stage logs [] each = tt
low stage logs (e ∷ rest) each =
    (ap (λ (b : Bool). rank_by b) (controls stage e.what each.0.stands), low stage logs rest each.1)

-- the controller's log is its own part
pub whole_part : (stage : Stage) (logs : List Log) (events : List Event)
    → AtEach (IsEntry stage logs Controller) events → log_of stage events Controller ≡ events
whole_part stage logs [] each = refl
whole_part stage logs (e ∷ rest) each =
    let is =
    controls stage e.what each.0.stands
    in rw is (ap (λ (l : List Event). e ∷ l) (whole_part stage logs rest each.1))

high_step : (stage : Stage) (e : Event) (rest : List Event) (mine : Bool)
    → is_by (actor_of stage e.what) Controller ≡ mine
    → cond mine (e ∷ log_of stage rest Controller) (log_of stage rest Controller) ≡ []
    → (log_of stage rest Controller ≡ [] → AllByRecursion (λ x. rank stage x ≡ 1) rest)
    → AllByRecursion (λ x. rank stage x ≡ 1) (e ∷ rest)
high_step stage e rest true is h old = absurd (cc)
high_step stage e rest false is h old = (ap (λ (b : Bool). rank_by b) is, old h)

high : (stage : Stage) (events : List Event) → log_of stage events Controller ≡ []
    → AllByRecursion (λ e. rank stage e ≡ 1) events
high stage [] none = tt
high stage (e ∷ rest) none =
    high_step stage e rest (is_by (actor_of stage e.what) Controller) refl none (high stage rest)

all_append : (P : Event → Type 0) (x y : List Event) → AllByRecursion P x → AllByRecursion P y
    → AllByRecursion P (x ++ y)
all_append P [] y a b = b
all_append P (e ∷ x) y a b = (a.0, all_append P x y a.1 b)

always : (P : Event → Type 0) → ((e : Event) → P e) → (x : List Event) → AllByRecursion P x
always P f [] = tt
always P f (e ∷ x) = (f e, always P f x)

rank_falls : (stage : Stage) (x y : List Event) → AllByRecursion (λ e. rank stage e ≡ 1) x
    → AllByRecursion (λ e. rank stage e ≡ 0) y → IsFalling (rank stage) (x ++ y)
rank_falls stage [] [] a b = tt
rank_falls stage [] (e ∷ y) a b = (
  all_so (λ z. rank stage z ≡ 0) (λ z. rank stage z ≤ rank stage e) y (λ z h. omega arith) b.1,
  rank_falls stage
      [] y a b.1,
)
rank_falls stage (e ∷ x) y a b = (
  always (λ z. rank stage z ≤ rank stage e)
      (λ z. let most : rank stage z ≤ 1 = rank_most _ in let one : rank stage e ≡ 1 = a.0 in omega arith) (x ++ y),
  rank_falls stage x y a.1 b,
)

gathered_falls_at : (stage : Stage) (logs some : List Log) → Entered stage logs some → BeginWithController some
    → HaveOwnLogs some → IsFalling (rank stage) (gathered some)
gathered_falls_at stage logs [] all first alone = tt
gathered_falls_at stage logs (l ∷ some) all first alone =
    let none : log_of stage (gathered some) Controller ≡ [] =
    no_parts stage logs some Controller all.1 (subst (λ (b : Actor). has_actor some b ≡ false) first alone.0)
    in rank_falls stage (gathered some) l.events (high stage (gathered some) none)
    (low stage logs l.events (subst (λ (b : Actor). AtEach (IsEntry stage logs b) l.events) first all.0))

pub gathered_falls : (stage : Stage) (logs : List Log) → Agree stage logs → IsFalling (rank stage) (gathered logs)
gathered_falls stage logs agree = gathered_falls_at stage logs logs agree.entries agree.first agree.actors

-- each event stands in a log
abbrev pub Stands : Stage → List Log → Event → Type 0
Stands stage logs e = (a : Actor) × (rest : List Event) × IsEntry stage logs a rest e

each_stands : (stage : Stage) (logs : List Log) (a : Actor) (events : List Event)
    → AtEach (IsEntry stage logs a) events → AllByRecursion (λ e. Stands stage logs e) events
each_stands stage logs a [] each = tt
each_stands stage logs a (e ∷ rest) each = ((a, rest, each.0), each_stands stage logs a rest each.1)

pub all_stand : (stage : Stage) (logs some : List Log) → Entered stage logs some
    → AllByRecursion (λ e. Stands stage logs e) (gathered some)
all_stand stage logs [] all = tt
all_stand stage logs (l ∷ some) all =
    all_append (λ e. Stands stage logs e) (gathered some) l.events (all_stand stage logs some all.1)
    (each_stands stage logs l.actor l.events all.0)

-- What is promised of a note after the rest of its log holds after the merged notes before it.
use Rattle.std.proofs.Common.{◌≡◌, ℕ, ◌+◌, ◌<◌, ◌≤◌, Bool, true, false, cond, ◌&&◌, ◌||◌, List, [], ◌∷◌, ◌++◌}
use Rattle.std.proofs.Common.{Option, Some, None, refl, sym, ap, ◌∙◌, subst, arith, leb, ltb}
use Rattle.std.specs.Prelude.{IfSome, option_map, slice_get}
use Rattle.std.specs.List.{AllByRecursion}
use Rattle.bm_base.specs.declared.ids.ServerId.{ServerId}
use Rattle.bm_base.specs.declared.ids.MuxId.{MuxId}
use Rattle.bm_base.specs.declared.flow.Segment.{Segment}
use Rattle.bm_core.specs.declared.events.What.{What}
use Rattle.bm_core.specs.declared.events.What.TheVariants.{Publish, Switch, Steer, Lose, Arrive, Close, Retire, Sync}
use Rattle.bm_core.specs.declared.events.Event.{Event}
use Rattle.bm_core.specs.declared.events.Stage.{Stage}
use Rattle.bm_table.specs.Tables.{next_change, change_moment, same_server}
use Rattle.bm_core.specs.Past.{segment_of, shard, newest, version_at, is_switch_of}
use Rattle.bm_core.specs.Runs.{Actor, actor_of, is_by, own_clock, next_clock}
use Rattle.bm_core.specs.Runs.Actor.{Controller, MuxOf, ShardOf}
use Rattle.bm_core.specs.Accounts.{Routes, Rules, counts, is_sync}
use Rattle.bm_core.specs.Threads.{last_own, moment_at, sync_clock, steers_later, is_in, arrives_later}
use Rattle.bm_core.specs.Logs.{log_of}
use Rattle.bm_core.proofs.Logs.{version_in_log}
use Rattle.bm_merge.specs.Merges.{Log, named}
use Rattle.bm_merge.specs.Notes.{Note, is_earlier, top_clock, many, switched_since, controlled}
use Rattle.bm_merge.proofs.Promised.{IsPromised, IsTold}
use Rattle.bm_merge.proofs.Placed.{Rises, all_so, own_in_log}
use Rattle.bm_merge.proofs.Agreeing.{same_actor-true, in_log, newest_in_log, part_append}
use Rattle.bm_merge.proofs.Merging.{all_middle, IsWhole, part_rises}

-- ONE SPLITTING

-- each event has a lower clock than every newer one
abbrev pub Strict : List Event → Type 0
Strict [] = Unit {0}
Strict (e ∷ past) = AllByRecursion (λ y. y.clock.0 < e.clock.0) past × Strict past

abbrev IsBounded : Stage → Actor → List Event → Type 0
IsBounded stage a part =
    Strict part × ((c : ℕ) → IfSome (own_clock stage part a) (λ k. k < c) → AllByRecursion (λ y. y.clock.0 < c) part)

bounded_step : (stage : Stage) (a : Actor) (e : Event) (part : List Event) (mine : Bool)
    → is_by (actor_of stage e.what) a ≡ mine → Rises stage a (cond mine (e ∷ part) part)
    → (Rises stage a part → IsBounded stage a part) → IsBounded stage a (cond mine (e ∷ part) part)
bounded_step stage a e part true is rises old =
    let below = old rises.1
    in (
      (below.1 e.clock.0 rises.0, below.0),
      λ c under. let top : e.clock.0
          < c =
          (rw is at under)
          in (
            top,
            all_so (λ y. y.clock.0 < e.clock.0) (λ y. y.clock.0 < c) part (λ y h. omega arith)
                (below.1 e.clock.0 rises.0),
          ),
    )
bounded_step stage a e part false is rises old = old rises

bounded : (stage : Stage) (a : Actor) (past : List Event) → Rises stage a (log_of stage past a)
    → IsBounded stage a (log_of stage past a)
bounded stage a [] rises = (tt, λ c under. tt)
bounded stage a (e ∷ past) rises =
    bounded_step stage a e (log_of stage past a) (is_by (actor_of stage e.what) a) refl rises (bounded stage a past)

abbrev tail : List Event → List Event
tail [] = []
tail (e ∷ past) = past

abbrev head_or : Event → List Event → Event
head_or d [] = d
head_or d (e ∷ past) = e

pub split_same : (u w v z : List Event) (e : Event) → Strict (u ++ e ∷ v) → u ++ e ∷ v ≡ w ++ e ∷ z → v ≡ z
split_same [] [] v z e strict is = ap (λ (l : List Event). tail l) is
split_same [] (y ∷ w) v z e strict is =
    let low : e.clock.0 < e.clock.0 =
    all_middle (λ y. y.clock.0 < e.clock.0) w z e
    (subst (λ (l : List Event). AllByRecursion (λ y. y.clock.0 < e.clock.0) l)
    (ap (λ (l : List Event). tail l) is) strict.0)
    in absurd (omega arith)
split_same (y ∷ u) [] v z e strict is =
    let same : y ≡ e = ap (λ (l : List Event). head_or e l) is
    in let low : e.clock.0 < y.clock.0 = all_middle (λ x. x.clock.0 < y.clock.0) u v e strict.0
    in let at : y.clock.0 ≡ e.clock.0 = ap (λ (x : Event). x.clock.0) same
    in absurd (omega arith)
split_same (y ∷ u) (x ∷ w) v z e strict is = split_same u w v z e strict.1 (ap (λ (l : List Event). tail l) is)

-- the merged events before an event of an actor have the same part of the actor as the rest of its log
pub same_rest : (stage : Stage) (logs : List Log) (a : Actor) (x past more rest : List Event) (e : Event)
    → IsWhole stage logs (x ++ e ∷ past) → is_by (actor_of stage e.what) a ≡ true
    → named logs a ≡ more ++ e ∷ rest → log_of stage past a ≡ log_of stage rest a
same_rest stage logs a x past more rest e whole mine is =
    let here : log_of stage (x ++ e ∷ past) a ≡ log_of stage x a ++ e ∷ log_of stage past a =
    part_append stage a x (e ∷ past) ∙ (rw mine refl)
    in let there : log_of stage (more ++ e ∷ rest) a ≡ log_of stage more a ++ e ∷ log_of stage rest a =
    part_append stage a more (e ∷ rest) ∙ (rw mine refl)
    in let strict : Strict (log_of stage (x ++ e ∷ past) a) =
    (bounded stage a (x ++ e ∷ past) (part_rises stage logs a (x ++ e ∷ past) (whole.entries a))).0
    in split_same (log_of stage x a) (log_of stage more a) (log_of stage past a) (log_of stage rest a) e
    (subst (λ (l : List Event). Strict l) here strict)
    (sym here ∙ whole.part a ∙ ap (λ (l : List Event). log_of stage l a) is ∙ there)

-- WHAT A PART TELLS

by_part : {A : Type 0} (stage : Stage) (a : Actor) (f : List Event → A)
    → ((e : Event) (past : List Event) → is_by (actor_of stage e.what) a ≡ false → f (e ∷ past) ≡ f past)
    → ((e : Event) (x y : List Event) → f x ≡ f y → f (e ∷ x) ≡ f (e ∷ y))
    → (x y : List Event) → log_of stage x a ≡ log_of stage y a → f x ≡ f y
by_part stage a f skip same x y is = sym (in_log stage a f skip same x) ∙ ap f is ∙ in_log stage a f skip same y

pub no_sync : (stage : Stage) (what : What) → is_by (actor_of stage what) Controller ≡ false → is_sync what ≡ false
no_sync stage Sync h = absurd (cc)
no_sync stage (Publish v) h = refl
no_sync stage (Switch m v) h = refl
no_sync stage (Steer k m) h = refl
no_sync stage (Lose k hop) h = refl
no_sync stage (Arrive k hop server verdict) h = refl
no_sync stage (Close server flow closed) h = refl
no_sync stage (Retire server x at result) h = refl

pub sync_by_part : (stage : Stage) (x y : List Event) → log_of stage x Controller ≡ log_of stage y Controller
    → sync_clock x ≡ sync_clock y
sync_by_part stage x y is =
    by_part stage Controller sync_clock (λ e past h. let not = no_sync stage e.what h in rw not refl)
    (λ e u w h. ap (λ (n : ℕ). cond (is_sync e.what) e.clock.0 n) h) x y is

no_switch : (stage : Stage) (what : What) (m : ℕ) → is_by (actor_of stage what) (MuxOf m) ≡ false
    → is_switch_of what m ≡ false
no_switch stage (Switch m v) n h = h
no_switch stage Sync n h = refl
no_switch stage (Publish v) n h = refl
no_switch stage (Steer k m) n h = refl
no_switch stage (Lose k hop) n h = refl
no_switch stage (Arrive k hop server verdict) n h = refl
no_switch stage (Close server flow closed) n h = refl
no_switch stage (Retire server x at result) n h = refl

pub switched_by_part : (stage : Stage) (since m : ℕ) (x y : List Event)
    → log_of stage x (MuxOf m) ≡ log_of stage y (MuxOf m) → switched_since since m x ≡ switched_since since m y
switched_by_part stage since m x y is =
    by_part stage (MuxOf m) (switched_since since m) (λ e past h. let not = no_switch stage e.what m h in rw not refl)
    (λ e u w h. ap (λ (b : Bool). (is_switch_of e.what m && leb since e.clock.0) || b) h) x y is

counts_by_part : (stage : Stage) (a : Actor) (test : What → Bool)
    → ((what : What) → is_by (actor_of stage what) a ≡ false → test what ≡ false) → (x y : List Event)
    → log_of stage x a ≡ log_of stage y a → counts x test ≡ counts y test
counts_by_part stage a test none x y is =
    by_part stage a (λ (l : List Event). counts l test) (λ e past h. let not = none e.what h in rw not (omega arith))
    (λ e u w h. ap (λ (n : ℕ). cond (test e.what) 1 0 + n) h) x y is

no_later : (stage : Stage) (m : MuxId) (k : ℕ) (what : What) → is_by (actor_of stage what) (MuxOf m.0) ≡ false
    → steers_later what m k ≡ false
no_later stage m k (Steer packet x) h = rw h refl
no_later stage m k (Switch x v) h = refl
no_later stage m k Sync h = refl
no_later stage m k (Publish v) h = refl
no_later stage m k (Lose packet hop) h = refl
no_later stage m k (Arrive packet hop server verdict) h = refl
no_later stage m k (Close server flow closed) h = refl
no_later stage m k (Retire server x at result) h = refl

-- what is no arrival at the shard comes not later there
not_at_shard : (stage : Stage) (server s : ServerId) (h : ℕ) (o : Option Segment) (c d : Bool)
    → is_by (option_map (λ (t : Segment). ShardOf server.0 (shard stage t.flow)) o) (ShardOf s.0 h) ≡ false
    → (((same_server server s && is_in o stage h) && c) && d) ≡ false
not_at_shard stage server s h None c d not = both (same_server server s) where
  both : (b : Bool) → (((b && false) && c) && d) ≡ false
  both true = refl
  both false = refl
not_at_shard stage server s h (Some t) c d not = rw not refl

no_arrival : (stage : Stage) (log : List Event) (s : ServerId) (h m k : ℕ) (what : What)
    → is_by (actor_of stage what) (ShardOf s.0 h) ≡ false → arrives_later stage log what s h m k ≡ false
no_arrival stage log s h m k (Arrive packet hop server verdict) not =
    not_at_shard stage server s h (segment_of stage packet) _ _ not
no_arrival stage log s h m k (Steer packet x) not = refl
no_arrival stage log s h m k (Switch x v) not = refl
no_arrival stage log s h m k Sync not = refl
no_arrival stage log s h m k (Publish v) not = refl
no_arrival stage log s h m k (Lose packet hop) not = refl
no_arrival stage log s h m k (Close server flow closed) not = refl
no_arrival stage log s h m k (Retire server x at result) not = refl

-- TOLD AFTER OTHERS

own_by_part : (stage : Stage) (a : Actor) (o : Option Actor) (x y : List Event) → is_by o a ≡ true
    → log_of stage x a ≡ log_of stage y a → last_own stage x o ≡ last_own stage y o
own_by_part stage a None x y mine is = refl
own_by_part stage a (Some b) x y mine is =
    let same : a ≡ b = sym (same_actor-true b a mine)
    in let part : log_of stage x b ≡ log_of stage y b =
    subst (λ (c : Actor). log_of stage x c ≡ log_of stage y c) same is
    in let own : own_clock stage x b ≡ own_clock stage y b =
    sym (own_in_log stage b x) ∙ ap (λ (l : List Event). own_clock stage l b) part ∙ own_in_log stage b y
    in rw own refl

newest_by_part : (stage : Stage) (x y : List Event) → log_of stage x Controller ≡ log_of stage y Controller
    → newest x ≡ newest y
newest_by_part stage x y is = sym (newest_in_log stage x) ∙ ap newest is ∙ newest_in_log stage y

version_by_part : (stage : Stage) (m : MuxId) (x y : List Event)
    → log_of stage x (MuxOf m.0) ≡ log_of stage y (MuxOf m.0) → version_at x m ≡ version_at y m
version_by_part stage m x y is =
    sym (version_in_log stage x m) ∙ ap (λ (l : List Event). version_at l m) is ∙ version_in_log stage y m

order_same : (stage : Stage) (logs : List Log) (a : Actor) (x y : List Event) (k : ℕ) (server : ServerId)
    (o : Option Segment)
    → is_by (option_map (λ (t : Segment). ShardOf server.0 (shard stage t.flow)) o) a ≡ true
    → log_of stage x a ≡ log_of stage y a → (m : MuxId)
    → IfSome o
    (λ s. counts x (λ what. arrives_later stage (named logs (MuxOf m.0)) what server (shard stage s.flow) m.0 k)
    ≡ 0)
    → IfSome o
    (λ s. counts y (λ what. arrives_later stage (named logs (MuxOf m.0)) what server (shard stage s.flow) m.0 k)
    ≡ 0)
order_same stage logs a x y k server None mine is m h = tt
order_same stage logs a x y k server (Some s) mine is m h =
    let same : a ≡ ShardOf server.0 (shard stage s.flow) = sym (same_actor-true _ a mine)
    in let part : log_of stage x (ShardOf server.0 (shard stage s.flow))
    ≡ log_of stage y (ShardOf server.0 (shard stage s.flow)) =
    subst (λ (c : Actor). log_of stage x c ≡ log_of stage y c) same is
    in sym (counts_by_part stage (ShardOf server.0 (shard stage s.flow))
    (λ what. arrives_later stage (named logs (MuxOf m.0)) what server (shard stage s.flow) m.0 k)
    (λ what not. no_arrival stage (named logs (MuxOf m.0)) server (shard stage s.flow) m.0 k what not) x y part) ∙ h

promised_same : (stage : Stage) (logs : List Log) (all : List Note) (a : Actor) (x y : List Event) (i own clock : ℕ)
    (what : What) → is_by (actor_of stage what) a ≡ true
    → log_of stage x a ≡ log_of stage y a → IsPromised stage logs all x i own clock what
    → IsPromised stage logs all y i own clock what
promised_same stage logs all a x y i own clock (Publish v) mine is p =
    let part : log_of stage x Controller ≡ log_of stage y Controller =
    subst (λ (c : Actor). log_of stage x c ≡ log_of stage y c) (sym (same_actor-true Controller a mine)) is
    in subst (λ (n : ℕ). clock
    ≡ next_clock (top_clock (is_earlier i) all) (change_moment (next_change stage.script.plan n)))
    (newest_by_part stage x y part) p
promised_same stage logs all a x y i own clock Sync mine is p =
    let part : log_of stage x Controller ≡ log_of stage y Controller =
    subst (λ (c : Actor). log_of stage x c ≡ log_of stage y c) (sym (same_actor-true Controller a mine)) is
    in subst (λ (c : ℕ).
    ((m : ℕ) → m < stage.script.setting.muxes
    → 1 ≤ many (λ n. is_switch_of n.event.what m && (leb c n.event.clock.0 && ltb n.event.clock.0 clock)) all)
    × (clock ≡ next_clock (top_clock (λ n. ltb n.event.clock.0 clock) all)
    (moment_at (slice_get stage.script.commands i)))) (sync_by_part stage x y part) p
promised_same stage logs all a x y i own clock (Close server flow closed) mine is p = p
promised_same stage logs all a x y i own clock (Retire server h at result) mine is p = p
promised_same stage logs all a x y i own clock (Switch m v) mine is p =
    let part : log_of stage x (MuxOf m.0) ≡ log_of stage y (MuxOf m.0) =
    subst (λ (c : Actor). log_of stage x c ≡ log_of stage y c) (sym (same_actor-true (MuxOf m.0) a mine)) is
    in let control = controlled logs clock
    in (
      rw (sym (switched_by_part stage (sync_clock control) m.0 x y part), sym (version_by_part stage m x y part))
          p.0,
      p.1,
    )
promised_same stage logs all a x y i own clock (Steer k m) mine is p =
    let part : log_of stage x (MuxOf m.0) ≡ log_of stage y (MuxOf m.0) =
    subst (λ (c : Actor). log_of stage x c ≡ log_of stage y c) (sym (same_actor-true (MuxOf m.0) a mine)) is
    in let control = controlled logs clock
    in (
      sym (switched_by_part stage (sync_clock control) m.0 x y part) ∙ p.0,
      sym (counts_by_part stage (MuxOf m.0) (λ what. steers_later what m k) (λ what not. no_later stage m k what not)
          x y part) ∙ p.1,
      p.2,
    )
promised_same stage logs all a x y i own clock (Arrive k hop server verdict) mine is p =
    ((λ m labelled. order_same stage logs a x y k server (segment_of stage k) mine is m (p.0 m labelled)), p.1)
promised_same stage logs all a x y i own clock (Lose k hop) mine is p = p

pub told_same : (R : Routes) (F : Rules) (stage : Stage) (logs : List Log) (all : List Note) (a : Actor)
    (x y : List Event) (n : Note) → is_by (actor_of stage n.event.what) a ≡ true
    → log_of stage x a ≡ log_of stage y a → IsTold R F stage logs all x n → IsTold R F stage logs all y n
told_same R F stage logs all a x y n mine is told = record {
  command = told.command;
  order = told.order;
  phase = told.phase;
  timed =
      subst (λ (own : ℕ). IsPromised stage logs all y n.command own n.event.clock.0 n.event.what)
      (own_by_part stage a (actor_of stage n.event.what) x y mine is)
      (promised_same stage logs all a x y n.command _ n.event.clock.0 n.event.what mine is told.timed);
  routed = told.routed;
  fate = told.fate;
}

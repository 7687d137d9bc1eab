-- What comes next in a replay is due no later than what else can come; what is due for a packet, and for a Switch.
use Rattle.std.proofs.Common.{◌≡◌, ℕ, zero, suc, ◌+◌, ◌*◌, ◌<◌, ◌≤◌, true, false, inl, inr, List, [], ◌∷◌, ◌++◌, Option}
use Rattle.std.proofs.Common.{Some, None, is_some, length, refl, sym, ap, ◌∙◌, subst, arith}
use Rattle.std.specs.Prelude.{IfSome, map, nat_lt, slice_get, slice_index_or}
use Rattle.std.proofs.lemmas.Bool.{cases_Bool, cases_lt, ltb-false}
use Rattle.std.proofs.lemmas.Bool.Decides.{nat_tests}
use Rattle.bm_base.specs.declared.capture.Record.{Record}
use Rattle.bm_base.specs.declared.fate.Fate.{Fate}
use Rattle.bm_base.specs.declared.ids.ServerId.{ServerId}
use Rattle.bm_base.specs.Captures.{AreRising}
use Rattle.bm_table.specs.declared.plan.Change.{Change}
use Rattle.bm_table.specs.declared.script.Command.{Command}
use Rattle.bm_table.specs.declared.script.Command.TheVariants.{Change as ChangeCommand, Close as CloseCommand}
use Rattle.bm_table.specs.declared.script.Command.TheVariants.{Retire as RetireCommand, Sync as SyncCommand}
use Rattle.bm_table.specs.Tables.{change_moment, next_change}
use Rattle.bm_core.specs.Accounts.{before, counts, fate_now}
use Rattle.bm_core.specs.declared.events.Event.{Event}
use Rattle.bm_core.specs.declared.events.Stage.{Stage}
use Rattle.bm_core.specs.declared.events.What.{What}
use Rattle.bm_core.specs.declared.events.What.TheVariants.{Publish, Switch, Steer, Lose, Arrive, Close, Retire, Sync}
use Rattle.bm_core.specs.declared.schedule.Call.{Call}
use Rattle.bm_core.specs.declared.schedule.Call.TheVariants.{Arrives, Steers, Switches}
use Rattle.bm_core.specs.declared.schedule.Due.{Due}
use Rattle.bm_core.specs.Past.{Sending, is_switch_of, newest, sending_of, steerable}
use Rattle.bm_core.specs.Schedule.{Underway, after_arrive, arrival_due, call_of, can_come, close_commands, closes}
use Rattle.bm_core.specs.Schedule.{comes_first, due_at, dropped, first_of, least, left, packets_from, publish_due, put, put_all}
use Rattle.bm_core.specs.Schedule.{put_sent, rank_of, rest, retire_commands, retire_dues, retires, steers, switch_due}
use Rattle.bm_core.specs.Schedule.{switches_due, sync_commands, syncs, wire}
use Rattle.bm_core.specs.Threads.{record_moment}
use Rattle.bm_core.proofs.Schedules.{Each, each_append, each_dropped, least_is}
use Rattle.bm_core.proofs.Switching.{least_first}

-- EACH OF A LIST

each_left : (P : Due → Type 0) (xs ys : List Due) → Each P (xs ++ ys) → Each P xs
each_left P [] ys all = tt
each_left P (x ∷ xs) ys all = (all.0, each_left P xs ys all.1)

each_right : (P : Due → Type 0) (xs ys : List Due) → Each P (xs ++ ys) → Each P ys
each_right P [] ys all = all
each_right P (x ∷ xs) ys all = each_right P xs ys all.1

pub each_so : (P Q R : Due → Type 0) → ((d : Due) → P d → Q d → R d) → (xs : List Due) → Each P xs → Each Q xs
    → Each R xs
each_so P Q R so [] p q = tt
each_so P Q R so (x ∷ xs) p q = (so x p.0 q.0, each_so P Q R so xs p.1 q.1)

each_first : (P : Due → Type 0) (xs : List Due) → Each P xs → Each P (first_of xs)
each_first P [] p = tt
each_first P (x ∷ xs) p = (p.0, tt)

drop_more : (P : Due → Type 0) (n : ℕ) (xs : List Due) → Each P (dropped n xs) → Each P (dropped (suc n) xs)
drop_more P zero [] p = tt
drop_more P zero (x ∷ xs) p = p.1
drop_more P (suc n) [] p = tt
drop_more P (suc n) (x ∷ xs) p = drop_more P n xs p

-- the first of a list that has it
pub each_head : (P : Due → Type 0) (xs : List Due) (d : Due) → first_of xs ≡ d ∷ [] → Each P xs → P d
each_head P [] d e p = absurd (cc)
each_head P (x ∷ xs) d e p = let same : x ≡ d = cc in subst P same p.0

-- the second of seven lists
second_list : (P : Due → Type 0) (a b c d e f g : List Due) → Each P (a ++ b ++ c ++ d ++ e ++ f ++ g) → Each P b
second_list P a b c d e f g all =
    each_right P a b
    (each_left P (a ++ b) c
    (each_left P (a ++ b ++ c) d
    (each_left P (a ++ b ++ c ++ d) e
    (each_left P (a ++ b ++ c ++ d ++ e) f (each_left P (a ++ b ++ c ++ d ++ e ++ f) g all)))))

-- the sixth
sixth_list : (P : Due → Type 0) (a b c d e f g : List Due) → Each P (a ++ b ++ c ++ d ++ e ++ f ++ g) → Each P f
sixth_list P a b c d e f g all =
    each_right P (a ++ b ++ c ++ d ++ e) f (each_left P (a ++ b ++ c ++ d ++ e ++ f) g all)

-- THE PACKETS THAT ARE LEFT

abbrev pub packets_left : Stage → List Event → List Due
packets_left stage past = left (packets_from 1 stage.capture.records) past steers

-- what is left after one event more was left before
pub left_more : (P : Due → Type 0) (stage : Stage) (past : List Event) (e : Event) → Each P (packets_left stage past)
    → Each P (packets_left stage (e ∷ past))
left_more P stage past e each = elim (cases_Bool (steers (call_of e.what))) [
  | inl is ↦
      let n : counts (e ∷ past) (λ what. steers (call_of what)) ≡ suc (counts past (λ what. steers (call_of what))) =
      rw is (omega arith)
      in rw n
      (drop_more P (counts past (λ what. steers (call_of what))) (packets_from 1 stage.capture.records) each)
  | inr not ↦
      let n : counts (e ∷ past) (λ what. steers (call_of what)) ≡ counts past (λ what. steers (call_of what)) =
      rw not (omega arith)
      in rw n each
]

-- these are due no earlier than this, in order
abbrev pub AreFrom : ℕ → List Due → Type 0
AreFrom low [] = Unit {0}
AreFrom low (d ∷ dues) = (low ≤ d.moment) × AreFrom d.moment dues

from_lower : (low high : ℕ) → low ≤ high → (dues : List Due) → AreFrom high dues → AreFrom low dues
from_lower low high le [] from = tt
from_lower low high le (d ∷ dues) from = ((let h = from.0 in omega arith), from.1)

packets_rise : (low top k : ℕ) (records : List Record) → AreRising low top (map (λ r. r.moment.0) records)
    → AreFrom low (packets_from k records)
packets_rise low top k [] rise = tt
packets_rise low top k (r ∷ records) rise = elim (cases_Bool (is_some (steerable (Some r)))) [
  | inl is ↦ rw is (rise.0, packets_rise r.moment.0 top (suc k) records rise.2)
  | inr not ↦ rw not
      (from_lower low r.moment.0 rise.0 (packets_from (suc k) records)
      (packets_rise r.moment.0 top (suc k) records rise.2))
]

from_dropped : (low n : ℕ) (dues : List Due) → AreFrom low dues → AreFrom low (dropped n dues)
from_dropped low zero dues from = from
from_dropped low (suc n) [] from = tt
from_dropped low (suc n) (d ∷ dues) from =
    from_lower low d.moment from.0 (dropped n dues) (from_dropped d.moment n dues from.1)

each_from : (low : ℕ) (dues : List Due) → AreFrom low dues → Each (λ x. low ≤ x.moment) dues
each_from low [] from = tt
each_from low (d ∷ dues) from = (from.0, each_from low dues (from_lower low d.moment from.0 dues from.1))

no_later : (x d : Due) → comes_first x d ≡ false → d.moment ≤ x.moment
no_later x d f = grind (arith, nat_tests)

-- what is due no later than the first is due no later than each
after_first : (d : Due) (low : ℕ) (dues : List Due) → Each (λ x. comes_first x d ≡ false) (first_of dues)
    → AreFrom low dues → Each (λ x. d.moment ≤ x.moment) dues
after_first d low [] first from = tt
after_first d low (x ∷ dues) first from =
    let here = no_later x d first.0
    in (here, each_from d.moment dues (from_lower d.moment x.moment here dues from.1))

-- a Steer is due at the moment of its packet's record
abbrev pub IsSteerOf : Stage → Due → Type 0
IsSteerOf stage d = (j : ℕ) × (d.call ≡ Steers j) × (d.moment ≡ record_moment stage j)

packets_are : (stage : Stage) (skip : ℕ) (records : List Record)
    → ((i : ℕ) → slice_get records i ≡ slice_get stage.capture.records (skip + i))
    → Each (IsSteerOf stage) (packets_from (suc skip) records)
packets_are stage skip [] same = tt
packets_are stage skip (r ∷ records) same =
    let none : skip + 0 ≡ skip = omega arith
    in let here : slice_get stage.capture.records skip ≡ Some r =
    ap (λ (n : ℕ). slice_get stage.capture.records n) (sym none) ∙ sym (same 0)
    in let moment : r.moment.0 ≡ record_moment stage (suc skip) = rw here refl
    in let later : (i : ℕ) → slice_get records i ≡ slice_get stage.capture.records (suc skip + i) =
    λ i. let shift : skip + suc i ≡ suc skip + i = omega arith
    in same (suc i) ∙ ap (λ (n : ℕ). slice_get stage.capture.records n) shift
    in elim (cases_Bool (is_some (steerable (Some r)))) [
      | inl is ↦ rw is ((suc skip, refl, moment), packets_are stage (suc skip) records later)
      | inr not ↦ rw not (packets_are stage (suc skip) records later)
    ]

pub left_are : (stage : Stage) (past : List Event) → Each (IsSteerOf stage) (packets_left stage past)
left_are stage past =
    each_dropped (IsSteerOf stage) (counts past (λ what. steers (call_of what))) (packets_from 1 stage.capture.records)
    (packets_are stage 0 stage.capture.records (λ i. ap (λ (n : ℕ). slice_get stage.capture.records n) (zero_more i)))
  where
    zero_more : (i : ℕ) → i ≡ 0 + i
    zero_more i = omega arith

-- THE COPIES UNDER WAY

abbrev pub AllU : (Underway → Type 0) → List Underway → Type 0
AllU P [] = Unit {0}
AllU P (u ∷ w) = P u × AllU P w

pub all_so : (P Q R : Underway → Type 0) → ((u : Underway) → P u → Q u → R u) → (w : List Underway) → AllU P w
    → AllU Q w → AllU R w
all_so P Q R so [] p q = tt
all_so P Q R so (u ∷ w) p q = (so u p.0 q.0, all_so P Q R so w p.1 q.1)

put_one : (P : Underway → Type 0) (u : Underway) (w : List Underway) → P u → AllU P w → AllU P (put u w)
put_one P u [] p all = (p, tt)
put_one P u (x ∷ w) p all = elim (cases_Bool (nat_lt u.moment x.moment)) [
  | inl is ↦ rw is (p, all)
  | inr other ↦ rw other (all.0, put_one P u w p all.1)
]

put_many : (P : Underway → Type 0) (n : ℕ) (u : Underway) (w : List Underway) → P u → AllU P w
    → AllU P (put_all n u w)
put_many P zero u w p all = all
put_many P (suc n) u w p all = put_one P u (put_all n u w) p (put_many P n u w p all)

pub all_sent : (P : Underway → Type 0) (f : Fate) (place clock : ℕ) (o : Option Sending) (w : List Underway)
    → ((s : Sending) → o ≡ Some s
    → P (record { moment = clock + f.delay; place = place; packet = s.packet; hop = s.hop }))
    → AllU P w → AllU P (put_sent f place clock o w)
all_sent P f place clock None w new all = all
all_sent P f place clock (Some s) w new all =
    put_many P f.copies (record { moment = clock + f.delay; place = place; packet = s.packet; hop = s.hop }) w
    (new s refl) all

all_rest : (P : Underway → Type 0) (w : List Underway) → AllU P w → AllU P (rest w)
all_rest P [] all = tt
all_rest P (u ∷ w) all = all.1

pub all_after : (P : Underway → Type 0) (what : What) (w : List Underway) → AllU P w → AllU P (after_arrive what w)
all_after P (Arrive k hop server verdict) w all = all_rest P w all
all_after P (Publish v) w all = all
all_after P (Switch m v) w all = all
all_after P (Steer k m) w all = all
all_after P (Lose k hop) w all = all
all_after P (Close server flow closed) w all = all
all_after P (Retire server h at result) w all = all
all_after P Sync w all = all

-- these are due no earlier than this, in order
abbrev pub InOrder : ℕ → List Underway → Type 0
InOrder low [] = Unit {0}
InOrder low (u ∷ w) = (low ≤ u.moment) × InOrder u.moment w

order_lower : (low high : ℕ) → low ≤ high → (w : List Underway) → InOrder high w → InOrder low w
order_lower low high le [] order = tt
order_lower low high le (u ∷ w) order = ((let h = order.0 in omega arith), order.1)

put_ordered : (low : ℕ) (u : Underway) (w : List Underway) → low ≤ u.moment → InOrder low w → InOrder low (put u w)
put_ordered low u [] le order = (le, tt)
put_ordered low u (x ∷ w) le order = elim (cases_Bool (nat_lt u.moment x.moment)) [
  | inl is ↦ rw is (le, ((let h : u.moment ≤ x.moment = before_it u.moment x.moment is in h), order.1))
  | inr other ↦ rw other (order.0, put_ordered x.moment u w (ltb-false _ _ other) order.1)
] where
  before_it : (a b : ℕ) → nat_lt a b ≡ true → a ≤ b
  before_it a b e = grind (arith, nat_tests)

put_all_ordered : (n : ℕ) (u : Underway) (w : List Underway) → InOrder 0 w → InOrder 0 (put_all n u w)
put_all_ordered zero u w order = order
put_all_ordered (suc n) u w order = put_ordered 0 u (put_all n u w) (omega arith) (put_all_ordered n u w order)

sent_ordered : (f : Fate) (place clock : ℕ) (o : Option Sending) (w : List Underway) → InOrder 0 w
    → InOrder 0 (put_sent f place clock o w)
sent_ordered f place clock None w order = order
sent_ordered f place clock (Some s) w order =
    put_all_ordered f.copies (record { moment = clock + f.delay; place = place; packet = s.packet; hop = s.hop }) w order

rest_ordered : (w : List Underway) → InOrder 0 w → InOrder 0 (rest w)
rest_ordered [] order = tt
rest_ordered (u ∷ w) order = order_lower 0 u.moment (omega arith) w order.1

after_ordered : (what : What) (w : List Underway) → InOrder 0 w → InOrder 0 (after_arrive what w)
after_ordered (Arrive k hop server verdict) w order = rest_ordered w order
after_ordered (Publish v) w order = order
after_ordered (Switch m v) w order = order
after_ordered (Steer k m) w order = order
after_ordered (Lose k hop) w order = order
after_ordered (Close server flow closed) w order = order
after_ordered (Retire server h at result) w order = order
after_ordered Sync w order = order

wire_ordered : (fates : List Fate) (past : List Event) → InOrder 0 (wire fates past)
wire_ordered fates [] = tt
wire_ordered fates (e ∷ past) =
    sent_ordered (fate_now fates) (length past) e.clock.0 (sending_of e.what) _
    (after_ordered e.what _ (wire_ordered (before fates) past))

all_from : (low : ℕ) (w : List Underway) → InOrder low w → AllU (λ u. low ≤ u.moment) w
all_from low [] order = tt
all_from low (u ∷ w) order = (order.0, all_from low w (order_lower low u.moment order.0 w order.1))

copies_after : (d : Due) (w : List Underway) → Each (λ x. comes_first x d ≡ false) (arrival_due w) → InOrder 0 w
    → AllU (λ u. d.moment ≤ u.moment) w
copies_after d [] first order = tt
copies_after d (u ∷ w) first order =
    let here : d.moment ≤ u.moment = no_later (due_at u.moment u.place (Arrives u.packet u.hop)) d first.0
    in (here, all_from d.moment w (order_lower d.moment u.moment here w order.1))

-- THE SOONEST

-- what is due is due no later than any packet that is left, and any copy under way
pub record IsSoonest (fates : List Fate) (stage : Stage) (past : List Event) (d : Due) : Type 0 where
  pub steers : Each (λ x. d.moment ≤ x.moment) (packets_left stage past)
  pub copies : AllU (λ u. d.moment ≤ u.moment) (wire fates past)

pub soonest : (fates : List Fate) (stage : Stage) (past : List Event) (d : Due) (top : ℕ)
    → AreRising 0 top (map (λ r. r.moment.0) stage.capture.records)
    → least (can_come (wire fates past) stage past) ≡ Some d → IsSoonest fates stage past d
soonest fates stage past d top rise is =
    let all = least_first (can_come (wire fates past) stage past) d is
    in record {
      steers =
          after_first d 0 (packets_left stage past) (each_right (λ x. comes_first x d ≡ false) _ _ all)
          (from_dropped 0 (counts past (λ what. steers (call_of what))) (packets_from 1 stage.capture.records)
          (packets_rise 0 top 1 stage.capture.records rise));
      copies =
          copies_after d (wire fates past)
          (sixth_list (λ x. comes_first x d ≡ false)
          (publish_due (newest past) (next_change stage.script.plan (newest past)))
          (switches_due stage past stage.script.setting.muxes)
          (first_of (left (close_commands stage.script.commands) past closes))
          (first_of (left (retire_commands stage.script.setting.shards stage.script.commands) past retires))
          (first_of (left (sync_commands stage.script.commands) past syncs)) (arrival_due (wire fates past))
          (first_of (left (packets_from 1 stage.capture.records) past steers)) all)
          (wire_ordered fates past);
    }

-- SWITCHES

-- a mux's lag
abbrev pub lag_of : Stage → ℕ → ℕ
lag_of stage n = slice_index_or stage.script.setting.lags n 0

-- how often the mux has switched
abbrev pub switched_by : List Event → ℕ → ℕ
switched_by past n = counts past (λ what. is_switch_of what n)

-- a Switch is due its mux's lag after the change
abbrev pub IsSwitchAt : Stage → List Event → Due → Call → Type 0
IsSwitchAt stage past d (Switches n v) =
    (v ≡ suc (switched_by past n))
    × (d.moment ≡ change_moment (next_change stage.script.plan (switched_by past n)) + lag_of stage n)
IsSwitchAt stage past d _ = Unit {0}

module _ (stage : Stage) (past : List Event) where
  abbrev Is : Due → Type 0
  Is d = IsSwitchAt stage past d d.call

  publish_at : (v : ℕ) (o : Option Change) → Each Is (publish_due v o)
  publish_at v None = tt
  publish_at v (Some c) = (tt, tt)

  switch_at : (n : ℕ) (o : Option Change) → next_change stage.script.plan (switched_by past n) ≡ o
      → Each Is (switch_due stage.script.setting.muxes (lag_of stage n) n (switched_by past n) o)
  switch_at n None is = tt
  switch_at n (Some c) is = ((refl, rw is refl), tt)

  switches_at : (n : ℕ) → Each Is (switches_due stage past n)
  switches_at zero = tt
  switches_at (suc n) =
      each_append Is (switches_due stage past n) _ (switches_at n)
      (switch_at n (next_change stage.script.plan (switched_by past n)) refl)

  closes_at : (commands : List Command) → Each Is (close_commands commands)
  closes_at [] = tt
  closes_at (CloseCommand at s f ∷ commands) = (tt, closes_at commands)
  closes_at (ChangeCommand v ∷ commands) = closes_at commands
  closes_at (RetireCommand at s ∷ commands) = closes_at commands
  closes_at (SyncCommand at ∷ commands) = closes_at commands

  syncs_at : (commands : List Command) → Each Is (sync_commands commands)
  syncs_at [] = tt
  syncs_at (CloseCommand at s f ∷ commands) = syncs_at commands
  syncs_at (ChangeCommand v ∷ commands) = syncs_at commands
  syncs_at (RetireCommand at s ∷ commands) = syncs_at commands
  syncs_at (SyncCommand at ∷ commands) = (tt, syncs_at commands)

  retire_at : (s : ServerId) (at n : ℕ) → Each Is (retire_dues s at n)
  retire_at s at zero = tt
  retire_at s at (suc n) = each_append Is (retire_dues s at n) _ (retire_at s at n) (tt, tt)

  retires_at : (shards : ℕ) (commands : List Command) → Each Is (retire_commands shards commands)
  retires_at shards [] = tt
  retires_at shards (CloseCommand at s f ∷ commands) = retires_at shards commands
  retires_at shards (ChangeCommand v ∷ commands) = retires_at shards commands
  retires_at shards (RetireCommand at s ∷ commands) =
      each_append Is (retire_dues s at.0 shards) _ (retire_at s at.0 shards) (retires_at shards commands)
  retires_at shards (SyncCommand at ∷ commands) = retires_at shards commands

  arrivals_at : (w : List Underway) → Each Is (arrival_due w)
  arrivals_at [] = tt
  arrivals_at (u ∷ w) = (tt, tt)

  packets_at : (k : ℕ) (records : List Record) → Each Is (packets_from k records)
  packets_at k [] = tt
  packets_at k (r ∷ records) = elim (cases_Bool (is_some (steerable (Some r)))) [
    | inl is ↦ rw is (tt, packets_at (suc k) records)
    | inr not ↦ rw not (packets_at (suc k) records)
  ]

  all_at : (w : List Underway) → Each Is (can_come w stage past)
  all_at w =
      both _ _ (both _ _
      (both _ _
      (both _ _
      (both _ _
      (both _ _ (publish_at (newest past) (next_change stage.script.plan (newest past)))
      (switches_at stage.script.setting.muxes))
      (first (counts past (λ what. closes (call_of what))) _ (closes_at stage.script.commands)))
      (first (counts past (λ what. retires (call_of what))) _
      (retires_at stage.script.setting.shards stage.script.commands)))
      (first (counts past (λ what. syncs (call_of what))) _ (syncs_at stage.script.commands)))
      (arrivals_at w))
      (first (counts past (λ what. steers (call_of what))) _ (packets_at 1 stage.capture.records)) where
        both : (xs ys : List Due) → Each Is xs → Each Is ys → Each Is (xs ++ ys)
        both xs ys a b = each_append Is xs ys a b

        first : (n : ℕ) (xs : List Due) → Each Is xs → Each Is (first_of (dropped n xs))
        first n xs each = each_first Is (dropped n xs) (each_dropped Is n xs each)

-- the Switch that comes next
pub switch_is : (w : List Underway) (stage : Stage) (past : List Event) (d : Due) (n v : ℕ)
    → least (can_come w stage past) ≡ Some d → d.call ≡ Switches n v → IsSwitchAt stage past d (Switches n v)
switch_is w stage past d n v is call =
    let got : IfSome (least (can_come w stage past)) (λ x. IsSwitchAt stage past x x.call) =
    least_is (λ x. IsSwitchAt stage past x x.call) (can_come w stage past) (all_at stage past w)
    in let here : IsSwitchAt stage past d d.call =
    subst (λ (o : Option Due). IfSome o (λ x. IsSwitchAt stage past x x.call)) is got
    in subst (λ (c : Call). IsSwitchAt stage past d c) call here

switch_among : (P : Due → Type 0) (stage : Stage) (past : List Event) (n top : ℕ) → n < top
    → Each P (switches_due stage past top)
    → Each P
    (switch_due stage.script.setting.muxes (lag_of stage n) n (switched_by past n)
    (next_change stage.script.plan (switched_by past n)))
switch_among P stage past n zero below each = absurd (omega arith)
switch_among P stage past n (suc top) below each = elim (cases_lt n top) [
  | inl under ↦ switch_among P stage past n top under (each_left P (switches_due stage past top) _ each)
  | inr over ↦
      let same : top ≡ n = omega arith
      in subst (λ (m : ℕ). Each P
      (switch_due stage.script.setting.muxes (lag_of stage m) m (switched_by past m)
      (next_change stage.script.plan (switched_by past m)))) same (each_right P (switches_due stage past top) _ each)
]

-- where a Steer comes next, the mux's next Switch is due later
pub steered_before : (w : List Underway) (stage : Stage) (past : List Event) (d : Due) (n : ℕ) (c : Change)
    → least (can_come w stage past) ≡ Some d → rank_of d.call ≡ 6 → n < stage.script.setting.muxes
    → next_change stage.script.plan (switched_by past n) ≡ Some c → d.moment < c.moment.0 + lag_of stage n
steered_before w stage past d n c is rank below change =
    let P : Due → Type 0 = λ x. comes_first x d ≡ false
    in let all = least_first (can_come w stage past) d is
    in let switches : Each P (switches_due stage past stage.script.setting.muxes) =
    second_list P (publish_due (newest past) (next_change stage.script.plan (newest past)))
    (switches_due stage past stage.script.setting.muxes)
    (first_of (left (close_commands stage.script.commands) past closes))
    (first_of (left (retire_commands stage.script.setting.shards stage.script.commands) past retires))
    (first_of (left (sync_commands stage.script.commands) past syncs)) (arrival_due w)
    (first_of (left (packets_from 1 stage.capture.records) past steers)) all
    in let mine = switch_among P stage past n stage.script.setting.muxes below switches
    in let first : Each P
    (switch_due stage.script.setting.muxes (lag_of stage n) n (switched_by past n) (Some c)) = rw change at mine
    in sooner_ranked
    (due_at (c.moment.0 + lag_of stage n) (switched_by past n * stage.script.setting.muxes + n)
    (Switches n (suc (switched_by past n)))) d (c.moment.0 + lag_of stage n) refl refl rank first.0 where
      sooner_ranked : (x d : Due) (m : ℕ) → x.moment ≡ m → rank_of x.call ≡ 1 → rank_of d.call ≡ 6
          → comes_first x d ≡ false → d.moment < m
      sooner_ranked x d m moment one six first = grind (arith, nat_tests)

-- What follows the script is accounted for.
use Rattle.std.proofs.Common.{◌≡◌, ℕ, zero, suc, ◌+◌, ◌<◌, ◌≤◌, Bool, true, false, cond, ◌&&◌, inl, inr, List, [], ◌∷◌}
use Rattle.std.proofs.Common.{◌++◌, Option, Some, None, is_some, length, refl, sym, ap, ◌∙◌, subst, arith, eqb}
use Rattle.std.specs.Prelude.{IfSome, ◌⊎◌, fold, nat_lt, ◌==◌}
use Rattle.std.proofs.lemmas.Bool.{cases_Bool, both_ways}
use Rattle.std.proofs.lemmas.Bool.Decides.{nat_tests}
use Rattle.std.proofs.lemmas.Option.{same_Some, slice_get_within}
use Rattle.bm_base.specs.declared.ids.ServerId.{ServerId}
use Rattle.bm_base.specs.declared.label.Hop.{Hop}
use Rattle.bm_base.specs.declared.fate.Fate.{Fate}
use Rattle.bm_table.specs.declared.plan.Change.{Change}
use Rattle.bm_table.specs.declared.script.Command.{Command}
use Rattle.bm_table.specs.declared.script.Command.TheVariants.{Change as ChangeCommand, Close as CloseCommand}
use Rattle.bm_table.specs.declared.script.Command.TheVariants.{Retire as RetireCommand, Sync as SyncCommand}
use Rattle.bm_base.specs.declared.capture.Record.{Record}
use Rattle.bm_core.specs.Schedule.{Underway}
use Rattle.bm_core.specs.declared.events.What.{What}
use Rattle.bm_core.specs.declared.events.What.TheVariants.{Publish, Switch, Steer, Lose, Arrive, Close, Retire, Sync}
use Rattle.bm_core.specs.declared.events.Event.{Event}
use Rattle.bm_core.specs.declared.events.Stage.{Stage}
use Rattle.bm_table.specs.Tables.{next_change, change_moment}
use Rattle.bm_core.specs.Past.{is_switch_of, newest, Sending, sending_of, is_sending, sends, same_hop, steerable}
use Rattle.bm_core.specs.Runs.{last_clock, next_clock}
use Rattle.bm_core.specs.Accounts.{count_of, counts, arrives, loses, lost_at}
use Rattle.bm_core.specs.declared.schedule.Call.{Call}
use Rattle.bm_core.specs.declared.schedule.Call.TheVariants.{Publishes, Switches, Closes, Retires, Syncs, Arrives}
use Rattle.bm_core.specs.declared.schedule.Call.TheVariants.{Steers, Loses}
use Rattle.bm_core.specs.declared.schedule.Due.{Due}
use Rattle.bm_core.specs.Schedule.{call_of, sooner, least, publish_due, switch_due, switches_due, close_commands}
use Rattle.bm_core.specs.Schedule.{retire_dues, retire_commands, sync_commands, packets_from, IsDueCall}
use Rattle.bm_core.specs.Accounts.{fate_now, before, sent_copies, copyless_at, AreSent}
use Rattle.bm_core.specs.Schedule.{put, put_all, put_sent, rest, after_arrive, wire, dropped, first_of, arrival_due}
use Rattle.bm_core.specs.Schedule.{left, closes, retires, syncs, steers, can_come, loss_of_fate, due_loss, ComesNext}
use Rattle.bm_core.specs.Schedule.{IsNextBy, Follows, rank_of}

-- EACH OF A LIST

abbrev pub Each : (Due → Type 0) → List Due → Type 0
Each P [] = Unit {0}
Each P (d ∷ dues) = P d × Each P dues

pub each_append : (P : Due → Type 0) (xs ys : List Due) → Each P xs → Each P ys → Each P (xs ++ ys)
each_append P [] ys p q = q
each_append P (x ∷ xs) ys p q = (p.0, each_append P xs ys p.1 q)

pub each_dropped : (P : Due → Type 0) (n : ℕ) (xs : List Due) → Each P xs → Each P (dropped n xs)
each_dropped P zero xs p = p
each_dropped P (suc n) [] p = tt
each_dropped P (suc n) (x ∷ xs) p = each_dropped P n xs p.1

sooner_keeps : (P : Due → Type 0) (o : Option Due) (b : Due) → IfSome o P → P b → IfSome (sooner o b) P
sooner_keeps P None b p q = q
sooner_keeps P (Some a) b p q = grind arith

fold_keeps : (P : Due → Type 0) (dues : List Due) (o : Option Due) → IfSome o P → Each P dues
    → IfSome (fold sooner o dues) P
fold_keeps P [] o p each = p
fold_keeps P (d ∷ dues) o p each = fold_keeps P dues (sooner o d) (sooner_keeps P o d p each.0) each.1

-- the least of a list is one of it
pub least_is : (P : Due → Type 0) (dues : List Due) → Each P dues → IfSome (least dues) P
least_is P dues each = fold_keeps P dues None tt each

-- WHERE A CALL COMES FROM

-- a switch to a version is due no earlier than its change
abbrev pub IsAfterChange : Stage → Due → ℕ → Type 0
IsAfterChange stage d v =
    (n : ℕ) × (v ≡ suc n) × (n < length stage.script.plan.changes)
    × (change_moment (next_change stage.script.plan n) ≤ d.moment) × (rank_of d.call ≡ 1)

abbrev pub IsFrom : List Underway → Stage → List Event → Due → Call → Type 0
IsFrom w stage past d (Publishes v) =
    (is_some (next_change stage.script.plan (newest past)) ≡ true) × (v ≡ suc (newest past))
IsFrom w stage past d (Switches m v) =
    (m < stage.script.setting.muxes) × IsAfterChange stage d v × (v ≡ suc (counts past (λ what. is_switch_of what m)))
IsFrom w stage past d (Closes s f) = first_of (left (close_commands stage.script.commands) past closes) ≡ d ∷ []
IsFrom w stage past d (Retires s h at) =
    first_of (left (retire_commands stage.script.setting.shards stage.script.commands) past retires) ≡ d ∷ []
IsFrom w stage past d Syncs = first_of (left (sync_commands stage.script.commands) past syncs) ≡ d ∷ []
IsFrom w stage past d (Arrives k hop) = arrival_due w ≡ d ∷ []
IsFrom w stage past d (Steers k) = first_of (left (packets_from 1 stage.capture.records) past steers) ≡ d ∷ []
IsFrom w stage past d (Loses k hop) = ⊥

all_close : (commands : List Command) → Each (λ d. closes d.call ≡ true) (close_commands commands)
all_close [] = tt
all_close (CloseCommand at s f ∷ commands) = (refl, all_close commands)
all_close (ChangeCommand v ∷ commands) = all_close commands
all_close (RetireCommand at s ∷ commands) = all_close commands
all_close (SyncCommand at ∷ commands) = all_close commands

all_sync : (commands : List Command) → Each (λ d. syncs d.call ≡ true) (sync_commands commands)
all_sync [] = tt
all_sync (CloseCommand at s f ∷ commands) = all_sync commands
all_sync (ChangeCommand v ∷ commands) = all_sync commands
all_sync (RetireCommand at s ∷ commands) = all_sync commands
all_sync (SyncCommand at ∷ commands) = (refl, all_sync commands)

all_retire_dues : (s : ServerId) (at n : ℕ) → Each (λ d. retires d.call ≡ true) (retire_dues s at n)
all_retire_dues s at zero = tt
all_retire_dues s at (suc n) =
    each_append (λ d. retires d.call ≡ true) (retire_dues s at n) _ (all_retire_dues s at n) (refl, tt)

all_retire : (shards : ℕ) (commands : List Command)
    → Each (λ d. retires d.call ≡ true) (retire_commands shards commands)
all_retire shards [] = tt
all_retire shards (CloseCommand at s f ∷ commands) = all_retire shards commands
all_retire shards (ChangeCommand v ∷ commands) = all_retire shards commands
all_retire shards (RetireCommand at s ∷ commands) =
    each_append (λ d. retires d.call ≡ true) (retire_dues s at.0 shards) _ (all_retire_dues s at.0 shards)
    (all_retire shards commands)
all_retire shards (SyncCommand at ∷ commands) = all_retire shards commands

all_steer : (k : ℕ) (records : List Record) → Each (λ d. steers d.call ≡ true) (packets_from k records)
all_steer k [] = tt
all_steer k (r ∷ records) = elim (cases_Bool (is_some (steerable (Some r)))) [
  | inl is ↦ rw is (refl, all_steer (suc k) records)
  | inr not_it ↦ rw not_it (all_steer (suc k) records)
]

-- the first of those of a class is of the class, and is the first
first_part : (K : Call → Bool) (Q : Due → Type 0) (xs : List Due) → Each (λ d. K d.call ≡ true) xs
    → ((d : Due) → K d.call ≡ true → first_of xs ≡ d ∷ [] → Q d) → Each Q (first_of xs)
first_part K Q [] each q = tt
first_part K Q (x ∷ xs) each q = (q x each.0 refl, tt)

close_from : (w : List Underway) (stage : Stage) (past : List Event) (d : Due) (c : Call) → closes c ≡ true
    → first_of (left (close_commands stage.script.commands) past closes) ≡ d ∷ [] → IsFrom w stage past d c
close_from w stage past d (Closes s f) is e = e
close_from w stage past d _ is e = absurd (cc)

retire_from : (w : List Underway) (stage : Stage) (past : List Event) (d : Due) (c : Call) → retires c ≡ true
    → first_of (left (retire_commands stage.script.setting.shards stage.script.commands) past retires) ≡ d ∷ []
    → IsFrom w stage past d c
retire_from w stage past d (Retires s h at) is e = e
retire_from w stage past d _ is e = absurd (cc)

sync_from : (w : List Underway) (stage : Stage) (past : List Event) (d : Due) (c : Call) → syncs c ≡ true
    → first_of (left (sync_commands stage.script.commands) past syncs) ≡ d ∷ [] → IsFrom w stage past d c
sync_from w stage past d Syncs is e = e
sync_from w stage past d _ is e = absurd (cc)

steer_from : (w : List Underway) (stage : Stage) (past : List Event) (d : Due) (c : Call) → steers c ≡ true
    → first_of (left (packets_from 1 stage.capture.records) past steers) ≡ d ∷ [] → IsFrom w stage past d c
steer_from w stage past d (Steers k) is e = e
steer_from w stage past d _ is e = absurd (cc)

arrival_from : (w : List Underway) (stage : Stage) (past : List Event)
    → Each (λ d. IsFrom w stage past d d.call) (arrival_due w)
arrival_from [] stage past = tt
arrival_from (u ∷ w) stage past = (refl, tt)

publish_from : (w : List Underway) (stage : Stage) (past : List Event) (o : Option Change)
    → next_change stage.script.plan (newest past) ≡ o
    → Each (λ d. IsFrom w stage past d d.call) (publish_due (newest past) o)
publish_from w stage past None e = tt
publish_from w stage past (Some c) e = ((rw e refl, refl), tt)

switch_from : (w : List Underway) (stage : Stage) (past : List Event) (lag m v : ℕ) → m < stage.script.setting.muxes
    → v ≡ counts past (λ what. is_switch_of what m) → (o : Option Change) → next_change stage.script.plan v ≡ o
    → Each (λ d. IsFrom w stage past d d.call) (switch_due stage.script.setting.muxes lag m v o)
switch_from w stage past lag m v below is None e = tt
switch_from w stage past lag m v below is (Some c) e = (
  (
    below,
    (v, refl, slice_get_within stage.script.plan.changes v c e, rw e (omega arith), refl),
    ap
        (λ (n : ℕ). suc n) is,
  ),
  tt,
)

switches_from : (w : List Underway) (stage : Stage) (past : List Event) (n : ℕ) → n ≤ stage.script.setting.muxes
    → Each (λ d. IsFrom w stage past d d.call) (switches_due stage past n)
switches_from w stage past zero below = tt
switches_from w stage past (suc m) below =
    each_append (λ d. IsFrom w stage past d d.call) (switches_due stage past m) _
    (switches_from w stage past m (omega arith))
    (switch_from w stage past _ m (counts past (λ what. is_switch_of what m)) (omega arith) refl
    (next_change stage.script.plan (counts past (λ what. is_switch_of what m))) refl)

-- each that can come is the next of its kind
pub each_from : (w : List Underway) (stage : Stage) (past : List Event)
    → Each (λ d. IsFrom w stage past d d.call) (can_come w stage past)
each_from w stage past =
    let P : Due → Type 0 = λ d. IsFrom w stage past d d.call
    in both _ _ (both _ _ (both _ _ (both _ _ (both _ _ (both _ _ (publish_from w stage past _ refl)
    (switches_from w stage past stage.script.setting.muxes (omega arith)))
    (first_part closes P _ (each_dropped _ _ _ (all_close stage.script.commands))
    (λ d is e. close_from w stage past d d.call is e)))
    (first_part retires P _ (each_dropped _ _ _ (all_retire stage.script.setting.shards stage.script.commands))
    (λ d is e. retire_from w stage past d d.call is e)))
    (first_part syncs P _ (each_dropped _ _ _ (all_sync stage.script.commands))
    (λ d is e. sync_from w stage past d d.call is e)))
    (arrival_from w stage past))
    (first_part steers P _ (each_dropped _ _ _ (all_steer 1 stage.capture.records))
    (λ d is e. steer_from w stage past d d.call is e)) where
      both : (xs ys : List Due) → Each (λ d. IsFrom w stage past d d.call) xs
          → Each (λ d. IsFrom w stage past d d.call) ys → Each (λ d. IsFrom w stage past d d.call) (xs ++ ys)
      both xs ys a b = each_append (λ d. IsFrom w stage past d d.call) xs ys a b

-- the event's call is the next of its kind, or a Lose that was due
pub record IsTaken (w : List Underway) (stage : Stage) (past : List Event) (clock : ℕ) (c : Call) : Type 0 where
  pub due : Due
  pub is_least : least (can_come w stage past) ≡ Some due
  pub call : due.call ≡ c
  pub from : IsFrom w stage past due c
  pub later : last_clock past < clock
  pub after : due.moment < clock
  pub clock_is : clock ≡ next_clock (last_clock past) due.moment

taken_least : (w : List Underway) (stage : Stage) (past : List Event) (e : Event) (o : Option Due)
    → least (can_come w stage past) ≡ o → IfSome o (λ d. IsFrom w stage past d d.call) → IsDueCall past e o
    → IsTaken w stage past e.clock.0 (call_of e.what)
taken_least w stage past e None l from is = absurd is
taken_least w stage past e (Some d) l from is = record {
  due = d;
  is_least = l;
  call = sym is.0;
  from = subst (λ (c : Call). IsFrom w stage past d c) (sym is.0) from;
  later = rw is.1 (omega arith);
  after = rw is.1 (omega arith);
  clock_is = is.1;
}

pub taken : (w : List Underway) (stage : Stage) (past : List Event) (e : Event) (loss : Option Call)
    → ComesNext loss (can_come w stage past) past e
    → ((loss ≡ Some (call_of e.what)) × (e.clock.0 ≡ suc (last_clock past)))
    ⊎ ((loss ≡ None) × IsTaken w stage past e.clock.0 (call_of e.what))
taken w stage past e (Some l) next = inl (ap (λ (c : Call). Some c) (sym next.0), next.1)
taken w stage past e None next =
    inr (
      refl,
      taken_least w stage past e (least (can_come w stage past)) refl
          (least_is (λ d. IsFrom w stage past d d.call) (can_come w stage past) (each_from w stage past)) next,
    )

-- COUNTS

abbrev pub loss_call : Call → Bool
loss_call (Loses k hop) = true
loss_call _ = false

pub due_is_loss : (fates : List Fate) (past : List Event) (c : Call) → due_loss fates past ≡ Some c → loss_call c ≡ true
due_is_loss fates [] c e = absurd (cc)
due_is_loss fates (x ∷ past) c e = fate_is_loss (fate_now fates) (sending_of x.what) c e where
  fate_is_loss : (f : Fate) (o : Option Sending) (c : Call) → loss_of_fate f o ≡ Some c → loss_call c ≡ true
  fate_is_loss f None c e = absurd (cc)
  fate_is_loss f (Some s) c e = elim (cases_Bool (eqb f.copies 0)) [
    | inl is ↦ let h : Loses s.packet s.hop ≡ c = same_Some _ _ (rw is at e) in rw (← h) refl
    | inr other ↦ absurd (let h : ◌≡◌ {A = Option Call} None (Some c) = rw other at e in cc)
  ]

-- an event that is no Lose is the next of its kind
pub taken_kind : (fates : List Fate) (stage : Stage) (past : List Event) (e : Event)
    → loss_call (call_of e.what) ≡ false → IsNextBy fates stage past e
    → (due_loss fates past ≡ None) × IsTaken (wire fates past) stage past e.clock.0 (call_of e.what)
taken_kind fates stage past e kind next = elim (taken (wire fates past) stage past e (due_loss fates past) next) [
  | inl l ↦ absurd (both_ways _ kind (due_is_loss fates past (call_of e.what) l.0))
  | inr t ↦ t
]

abbrev pub counted : (Call → Bool) → List Due → ℕ
counted t dues = count_of (λ d. t d.call) dues

counted_more : (t : Call → Bool) (d : Due) (dues : List Due)
    → counted t (d ∷ dues) ≡ cond (t d.call) 1 0 + counted t dues
counted_more t d dues = refl

counts_more : (t : What → Bool) (e : Event) (past : List Event)
    → counts (e ∷ past) t ≡ cond (t e.what) 1 0 + counts past t
counts_more t e past = refl

-- the next one of a list is counted among those that are left
shift : (t : Call → Bool) (n : ℕ) (dues : List Due) (d : Due) → first_of (dropped n dues) ≡ d ∷ []
    → counted t (dropped n dues) ≡ cond (t d.call) 1 0 + counted t (dropped (suc n) dues)
shift t zero [] d e = absurd (cc)
shift t zero (x ∷ dues) d e = let h : x ≡ d = grind arith in rw h (counted_more t d dues)
shift t (suc n) [] d e = absurd (cc)
shift t (suc n) (x ∷ dues) d e = shift t n dues d e

-- the calls of a class come as its list says
pub record IsClass (K : Call → Bool) (dues : List Due) (stage : Stage) : Type 0 where
  pub no_loss : (c : Call) → K c ≡ true → loss_call c ≡ false
  pub from : (w : List Underway) (past : List Event) (d : Due) (c : Call) → K c ≡ true → IsFrom w stage past d c
      → first_of (left dues past K) ≡ d ∷ []

balance_step : (t K : Call → Bool) (dues : List Due) (past : List Event) (e : Event)
    → ((c : Call) → K c ≡ false → t c ≡ false)
    → (K (call_of e.what) ≡ true → (d : Due) × (d.call ≡ call_of e.what) × (first_of (left dues past K) ≡ d ∷ []))
    → counts past (λ what. t (call_of what)) + counted t (left dues past K) ≡ counted t dues
    → counts (e ∷ past) (λ what. t (call_of what)) + counted t (left dues (e ∷ past) K) ≡ counted t dues
balance_step t K dues past e within next old = elim (cases_Bool (K (call_of e.what))) [
  | inl is ↦
      let n = next is
      in let s : counted t (left dues past K)
      ≡ cond (t (call_of e.what)) 1 0 + counted t (dropped (suc (counts past (λ what. K (call_of what)))) dues) =
      subst (λ (c : Call). counted t (left dues past K)
      ≡ cond (t c) 1 0 + counted t (dropped (suc (counts past (λ what. K (call_of what)))) dues)) n.1
      (shift t _ dues n.0 n.2)
      in let k : counts (e ∷ past) (λ what. K (call_of what)) ≡ suc (counts past (λ what. K (call_of what))) =
      counts_more (λ what. K (call_of what)) e past ∙ rw is (omega arith)
      in rw (k, counts_more (λ what. t (call_of what)) e past) (omega arith)
  | inr other ↦
      let k : counts (e ∷ past) (λ what. K (call_of what)) ≡ counts past (λ what. K (call_of what)) =
      counts_more (λ what. K (call_of what)) e past ∙ rw other (omega arith)
      in let c : counts (e ∷ past) (λ what. t (call_of what)) ≡ counts past (λ what. t (call_of what)) =
      counts_more (λ what. t (call_of what)) e past ∙ rw (within _ other) (omega arith)
      in rw (k, c) old
]

-- those that came and those that are left are the list
pub balance : (t K : Call → Bool) (dues : List Due) (stage : Stage) → ((c : Call) → K c ≡ false → t c ≡ false)
    → IsClass K dues stage → (fates : List Fate) (past : List Event) → Follows fates stage past
    → counts past (λ what. t (call_of what)) + counted t (left dues past K) ≡ counted t dues
balance t K dues stage within class fates [] follows = omega arith
balance t K dues stage within class fates (e ∷ past) follows =
    balance_step t K dues past e within next (balance t K dues stage within class (before fates) past follows.1) where
      next : K (call_of e.what) ≡ true → (d : Due) × (d.call ≡ call_of e.what) × (first_of (left dues past K) ≡ d ∷ [])
      next is =
          let got = (taken_kind (before fates) stage past e (class.no_loss _ is) follows.0).1
          in (got.due, got.call, class.from (wire (before fates) past) past got.due (call_of e.what) is got.from)

pub class_of_closes : (stage : Stage) → IsClass closes (close_commands stage.script.commands) stage
class_of_closes stage = record { no_loss = none; from = from } where
  none : (c : Call) → closes c ≡ true → loss_call c ≡ false
  none (Closes s f) e = refl
  none _ e = absurd (cc)

  from : (w : List Underway) (past : List Event) (d : Due) (c : Call) → closes c ≡ true → IsFrom w stage past d c
      → first_of (left (close_commands stage.script.commands) past closes) ≡ d ∷ []
  from w past d (Closes s f) e h = h
  from w past d _ e h = absurd (cc)

pub class_of_retires : (stage : Stage)
    → IsClass retires (retire_commands stage.script.setting.shards stage.script.commands) stage
class_of_retires stage = record { no_loss = none; from = from } where
  none : (c : Call) → retires c ≡ true → loss_call c ≡ false
  none (Retires s h at) e = refl
  none _ e = absurd (cc)

  from : (w : List Underway) (past : List Event) (d : Due) (c : Call) → retires c ≡ true → IsFrom w stage past d c
      → first_of (left (retire_commands stage.script.setting.shards stage.script.commands) past retires) ≡ d ∷ []
  from w past d (Retires s h at) e x = x
  from w past d _ e x = absurd (cc)

pub class_of_syncs : (stage : Stage) → IsClass syncs (sync_commands stage.script.commands) stage
class_of_syncs stage = record { no_loss = none; from = from } where
  none : (c : Call) → syncs c ≡ true → loss_call c ≡ false
  none Syncs e = refl
  none _ e = absurd (cc)

  from : (w : List Underway) (past : List Event) (d : Due) (c : Call) → syncs c ≡ true → IsFrom w stage past d c
      → first_of (left (sync_commands stage.script.commands) past syncs) ≡ d ∷ []
  from w past d Syncs e x = x
  from w past d _ e x = absurd (cc)

pub class_of_steers : (stage : Stage) → IsClass steers (packets_from 1 stage.capture.records) stage
class_of_steers stage = record { no_loss = none; from = from } where
  none : (c : Call) → steers c ≡ true → loss_call c ≡ false
  none (Steers k) e = refl
  none _ e = absurd (cc)

  from : (w : List Underway) (past : List Event) (d : Due) (c : Call) → steers c ≡ true → IsFrom w stage past d c
      → first_of (left (packets_from 1 stage.capture.records) past steers) ≡ d ∷ []
  from w past d (Steers k) e x = x
  from w past d _ e x = absurd (cc)

-- COPIES

abbrev pub is_copy : ℕ → Hop → Underway → Bool
is_copy k hop u = u.packet == k && same_hop u.hop hop

abbrev pub waiting : ℕ → Hop → List Underway → ℕ
waiting k hop w = count_of (is_copy k hop) w

waiting_put : (k : ℕ) (hop : Hop) (u : Underway) (w : List Underway)
    → waiting k hop (put u w) ≡ cond (is_copy k hop u) 1 0 + waiting k hop w
waiting_put k hop u [] = refl
waiting_put k hop u (x ∷ w) = elim (cases_Bool (nat_lt u.moment x.moment)) [
  | inl is ↦ rw is refl
  | inr other ↦ rw (other, waiting_put k hop u w) (omega arith)
]

waiting_all : (k : ℕ) (hop : Hop) (n : ℕ) (u : Underway) (w : List Underway)
    → waiting k hop (put_all n u w) ≡ cond (is_copy k hop u) n 0 + waiting k hop w
waiting_all k hop zero u w =
    elim (cases_Bool (is_copy k hop u)) [ inl is ↦ rw is (omega arith) | inr other ↦ rw other (omega arith) ]
waiting_all k hop (suc n) u w = elim (cases_Bool (is_copy k hop u)) [
  | inl is ↦ rw (waiting_put k hop u (put_all n u w), waiting_all k hop n u w, is) (omega arith)
  | inr other ↦ rw (waiting_put k hop u (put_all n u w), waiting_all k hop n u w, other) (omega arith)
]

waiting_sent : (k : ℕ) (hop : Hop) (f : Fate) (place clock : ℕ) (what : What) (w : List Underway)
    → waiting k hop (put_sent f place clock (sending_of what) w) ≡ cond (sends what k hop) f.copies 0 + waiting k hop w
waiting_sent k hop f place clock what w = by (sending_of what) where
  by : (o : Option Sending)
      → waiting k hop (put_sent f place clock o w) ≡ cond (is_sending o k hop) f.copies 0 + waiting k hop w
  by None = omega arith
  by (Some s) =
      waiting_all k hop f.copies (record { moment = clock + f.delay; place = place; packet = s.packet; hop = s.hop }) w

-- what arrives is the first of the wire
waiting_first : (k : ℕ) (hop : Hop) (j : ℕ) (h : Hop) (w : List Underway) (d : Due) → arrival_due w ≡ d ∷ []
    → d.call ≡ Arrives j h → waiting k hop w ≡ cond (j == k && same_hop h hop) 1 0 + waiting k hop (rest w)
waiting_first k hop j h [] d e c = absurd (cc)
waiting_first k hop j h (u ∷ w) d e c =
    let p : u.packet ≡ j = grind arith
    in let q : u.hop ≡ h = grind arith
    in rw (p, q) refl

waiting_after : (k : ℕ) (hop : Hop) (w : List Underway) (stage : Stage) (past : List Event) (clock : ℕ) (what : What)
    → (loss_call (call_of what) ≡ false → IsTaken w stage past clock (call_of what))
    → waiting k hop w ≡ cond (arrives what k hop) 1 0 + waiting k hop (after_arrive what w)
waiting_after k hop w stage past clock (Arrive j h server verdict) t =
    let x = t refl in waiting_first k hop j h w x.due x.from x.call
waiting_after k hop w stage past clock (Publish v) t = omega arith
waiting_after k hop w stage past clock (Switch m v) t = omega arith
waiting_after k hop w stage past clock (Steer j m) t = omega arith
waiting_after k hop w stage past clock (Lose j h) t = omega arith
waiting_after k hop w stage past clock (Close server flow closed) t = omega arith
waiting_after k hop w stage past clock (Retire server h at result) t = omega arith
waiting_after k hop w stage past clock Sync t = omega arith

-- the copies that came and those under way are those that were sent
pub copies_balance : (fates : List Fate) (stage : Stage) (past : List Event) → Follows fates stage past
    → (k : ℕ) (hop : Hop)
    → counts past (λ what. arrives what k hop) + waiting k hop (wire fates past) ≡ sent_copies fates past k hop
copies_balance fates stage [] follows k hop = refl
copies_balance fates stage (e ∷ past) follows k hop =
    let a = waiting_sent k hop (fate_now fates) (length past) e.clock.0 e.what
    (after_arrive e.what (wire (before fates) past))
    in let b =
    waiting_after k hop (wire (before fates) past) stage past e.clock.0 e.what
    (λ kind. (taken_kind (before fates) stage past e kind follows.0).1)
    in let old = copies_balance (before fates) stage past follows.1 k hop
    in omega arith

-- up to each place
pub copies_sent : (fates : List Fate) (stage : Stage) (past : List Event) → Follows fates stage past
    → AreSent fates past
copies_sent fates stage [] follows = tt
copies_sent fates stage (e ∷ past) follows = (
  λ k hop.
      let b = waiting_after k hop (wire (before fates) past) stage past e.clock.0 e.what
      (λ kind. (taken_kind (before fates) stage past e kind follows.0).1)
      in let old = copies_balance (before fates) stage past follows.1 k hop
      in omega arith,
  copies_sent (before fates) stage past follows.1,
)

-- LOSSES

-- the Lose of the packet and hop that is due at the clock after this one
abbrev pub is_loss_due : Option Call → ℕ → Hop → Bool
is_loss_due (Some (Loses j h)) k hop = j == k && same_hop h hop
is_loss_due _ k hop = false

abbrev pub is_loss_due_at : List Fate → List Event → ℕ → Hop → ℕ → Bool
is_loss_due_at fates past k hop clock = is_loss_due (due_loss fates past) k hop && last_clock past == clock

loses_not : (what : What) (k : ℕ) (hop : Hop) → loss_call (call_of what) ≡ false → loses what k hop ≡ false
loses_not (Publish v) k hop e = refl
loses_not (Switch m v) k hop e = refl
loses_not (Steer j m) k hop e = refl
loses_not (Lose j h) k hop e = absurd (cc)
loses_not (Arrive j h server verdict) k hop e = refl
loses_not (Close server flow closed) k hop e = refl
loses_not (Retire server h at result) k hop e = refl
loses_not Sync k hop e = refl

-- a sending that has no copies is due a Lose
owes : (f : Fate) (o : Option Sending) (k : ℕ) (hop : Hop)
    → is_loss_due (loss_of_fate f o) k hop ≡ (is_sending o k hop && f.copies == 0)
owes f None k hop = refl
owes f (Some s) k hop =
    elim (cases_Bool (eqb f.copies 0))
    [ inl is ↦ rw is (sym (and_true _)) | inr other ↦ rw other (sym (and_false _)) ] where
      and_true : (b : Bool) → (b && true) ≡ b
      and_true true = refl
      and_true false = refl

      and_false : (b : Bool) → (b && false) ≡ false
      and_false true = refl
      and_false false = refl

lose_sends_not : (f : Fate) (what : What) → loss_call (call_of what) ≡ true → loss_of_fate f (sending_of what) ≡ None
lose_sends_not f (Publish v) e = absurd (cc)
lose_sends_not f (Switch m v) e = absurd (cc)
lose_sends_not f (Steer j m) e = absurd (cc)
lose_sends_not f (Lose j h) e = refl
lose_sends_not f (Arrive j h server verdict) e = absurd (cc)
lose_sends_not f (Close server flow closed) e = absurd (cc)
lose_sends_not f (Retire server h at result) e = absurd (cc)
lose_sends_not f Sync e = absurd (cc)

loses_due : (what : What) (k : ℕ) (hop : Hop) (o : Option Call) → o ≡ Some (call_of what)
    → loss_call (call_of what) ≡ true → is_loss_due o k hop ≡ loses what k hop
loses_due (Lose j h) k hop o e is = rw e refl
loses_due (Publish v) k hop o e is = absurd (cc)
loses_due (Switch m v) k hop o e is = absurd (cc)
loses_due (Steer j m) k hop o e is = absurd (cc)
loses_due (Arrive j h server verdict) k hop o e is = absurd (cc)
loses_due (Close server flow closed) k hop o e is = absurd (cc)
loses_due (Retire server h at result) k hop o e is = absurd (cc)
loses_due Sync k hop o e is = absurd (cc)

pub no_loss_taken : (w : List Underway) (stage : Stage) (past : List Event) (d : Due) (c : Call)
    → IsFrom w stage past d c → loss_call c ≡ false
no_loss_taken w stage past d (Publishes v) from = refl
no_loss_taken w stage past d (Switches m v) from = refl
no_loss_taken w stage past d (Closes s f) from = refl
no_loss_taken w stage past d (Retires s h at) from = refl
no_loss_taken w stage past d Syncs from = refl
no_loss_taken w stage past d (Arrives k hop) from = refl
no_loss_taken w stage past d (Steers k) from = refl
no_loss_taken w stage past d (Loses k hop) from = absurd from

same_suc : (a b : ℕ) → eqb (suc a) (suc b) ≡ eqb a b
same_suc a b = grind (arith, nat_tests)

and_three : (a b c : Bool) → ((a && b) && c) ≡ (a && (b && c))
and_three true b c = refl
and_three false b c = refl

-- a Lose comes directly after its sending
lost_step : (fates : List Fate) (past : List Event) (e : Event) (k : ℕ) (hop : Hop) (clock : ℕ)
    → ((due_loss (before fates) past ≡ Some (call_of e.what)) × (e.clock.0 ≡ suc (last_clock past)))
    ⊎ ((due_loss (before fates) past ≡ None) × (loss_call (call_of e.what) ≡ false))
    → lost_at past k hop (suc clock) + cond (is_loss_due_at (before fates) past k hop clock) 1 0
    ≡ copyless_at (before fates) past k hop clock
    → lost_at (e ∷ past) k hop (suc clock) + cond (is_loss_due_at fates (e ∷ past) k hop clock) 1 0
    ≡ copyless_at fates (e ∷ past) k hop clock
lost_step fates past e k hop clock (inl l) old =
    let is : loss_call (call_of e.what) ≡ true = due_is_loss (before fates) past (call_of e.what) l.0
    in let none : due_loss fates (e ∷ past) ≡ None = lose_sends_not (fate_now fates) e.what is
    in let quiet : (sends e.what k hop && eqb (fate_now fates).copies 0) ≡ false =
    sym (owes (fate_now fates) (sending_of e.what) k hop) ∙ rw none refl
    in let same : is_loss_due (due_loss (before fates) past) k hop ≡ loses e.what k hop =
    loses_due e.what k hop (due_loss (before fates) past) l.0 is
    in let q : (sends e.what k hop && (eqb (fate_now fates).copies 0 && eqb e.clock.0 clock)) ≡ false =
    sym (and_three (sends e.what k hop) (eqb (fate_now fates).copies 0) (eqb e.clock.0 clock)) ∙ rw quiet refl
    in let t : is_loss_due_at (before fates) past k hop clock ≡ (loses e.what k hop && eqb e.clock.0 (suc clock)) =
    rw (same, l.1, same_suc (last_clock past) clock) refl
    in let old' : lost_at past k hop (suc clock) + cond (loses e.what k hop && eqb e.clock.0 (suc clock)) 1 0
    ≡ copyless_at (before fates) past k hop clock = rw t at old
    in rw (none, q) (omega arith)
lost_step fates past e k hop clock (inr t) old =
    let no : loses e.what k hop ≡ false = loses_not e.what k hop t.1
    in let before_none : is_loss_due_at (before fates) past k hop clock ≡ false = rw t.0 refl
    in let o : is_loss_due_at fates (e ∷ past) k hop clock
    ≡ (sends e.what k hop && (eqb (fate_now fates).copies 0 && eqb e.clock.0 clock)) =
    ap (λ (b : Bool). b && eqb e.clock.0 clock) (owes (fate_now fates) (sending_of e.what) k hop)
    ∙ and_three (sends e.what k hop) _ _
    in let old' : lost_at past k hop (suc clock) + 0 ≡ copyless_at (before fates) past k hop clock =
    rw before_none at old
    in rw (no, o) (omega arith)

pub lost_balance : (fates : List Fate) (stage : Stage) (past : List Event) → Follows fates stage past
    → (k : ℕ) (hop : Hop) (clock : ℕ)
    → lost_at past k hop (suc clock) + cond (is_loss_due_at fates past k hop clock) 1 0
    ≡ copyless_at fates past k hop clock
lost_balance fates stage [] follows k hop clock = refl
lost_balance fates stage (e ∷ past) follows k hop clock =
    lost_step fates past e k hop clock how (lost_balance (before fates) stage past follows.1 k hop clock) where
      how : ((due_loss (before fates) past ≡ Some (call_of e.what)) × (e.clock.0 ≡ suc (last_clock past)))
          ⊎ ((due_loss (before fates) past ≡ None) × (loss_call (call_of e.what) ≡ false))
      how = elim (taken (wire (before fates) past) stage past e (due_loss (before fates) past) follows.0) [
        | inl l ↦ inl l
        | inr t ↦ inr (t.0, no_loss_taken (wire (before fates) past) stage past t.1.due (call_of e.what) t.1.from)
      ]

-- Each event of a replay takes at least one from its weight.
use Rattle.std.proofs.Common.{◌≡◌, ℕ, zero, suc, ◌+◌, ◌-◌, ◌*◌, ◌<◌, ◌≤◌, false, inl, inr, List, [], ◌∷◌, Option, Some}
use Rattle.std.proofs.Common.{None, is_some, length, refl, ◌∙◌, ap, subst, eqb, arith}
use Rattle.std.specs.Prelude.{IfSome, nat_lt}
use Rattle.std.proofs.lemmas.Bool.{cases_Bool, ne_eqb, eqb-true}
use Rattle.std.proofs.lemmas.Bool.Decides.{nat_tests}
use Rattle.bm_base.specs.declared.ids.MuxId.{MuxId}
use Rattle.bm_base.specs.declared.ids.Moment.{Moment}
use Rattle.bm_base.specs.declared.ids.ServerId.{ServerId}
use Rattle.bm_base.specs.declared.ids.Version.{Version}
use Rattle.bm_base.specs.declared.label.Hop.{Hop}
use Rattle.bm_base.specs.declared.label.Hop.TheVariants.{Direct, Chained, Twice}
use Rattle.bm_base.specs.declared.fate.Fate.{Fate}
use Rattle.bm_core.specs.declared.events.Verdict.{Verdict}
use Rattle.bm_core.specs.declared.events.Verdict.TheVariants.{Accept, Process, Forward, Reset, Drop}
use Rattle.bm_core.specs.declared.events.What.{What}
use Rattle.bm_core.specs.declared.events.What.TheVariants.{Publish, Switch, Steer, Lose, Arrive, Close, Retire, Sync}
use Rattle.bm_core.specs.declared.events.Event.{Event}
use Rattle.bm_core.specs.declared.events.Stage.{Stage}
use Rattle.bm_core.specs.declared.schedule.Call.{Call}
use Rattle.bm_core.specs.declared.schedule.Call.TheVariants.{Arrives}
use Rattle.bm_core.specs.declared.schedule.Due.{Due}
use Rattle.bm_core.specs.Schedule.{Underway}
use Rattle.bm_core.specs.Past.{is_switch_of, newest, Sending, sending_of}
use Rattle.bm_core.specs.Accounts.{counts, fate_now, before}
use Rattle.bm_core.specs.Schedule.{call_of, put, put_all, put_sent, rest, wire, due_loss, loss_of_fate, left, dropped}
use Rattle.bm_core.specs.Schedule.{first_of, arrival_due, close_commands, retire_commands, sync_commands, packets_from}
use Rattle.bm_core.specs.Schedule.{closes, retires, syncs, steers, IsNextBy, Follows}
use Rattle.std.proofs.Common.{length-append}
use Rattle.bm_base.specs.declared.capture.Record.{Record}
use Rattle.bm_table.specs.declared.script.Command.{Command}
use Rattle.bm_table.specs.declared.script.Command.TheVariants.{Change as ChangeCommand, Close as CloseCommand}
use Rattle.bm_table.specs.declared.script.Command.TheVariants.{Retire as RetireCommand, Sync as SyncCommand}
use Rattle.bm_core.specs.Past.{steerable}
use Rattle.bm_core.specs.Schedule.{retire_dues}
use Rattle.bm_core.specs.Stages.{NamesVersions, IsSound}
use Rattle.bm_core.specs.Soon.{IsSoon, AreSoon}
use Rattle.bm_core.specs.Inside.Weights.{hop_weight, wire_weight, loss_weight, packets_weight}
use Rattle.bm_core.specs.Inside.Weights.{switches_weight, commands_weight, changes_weight, weight}
use Rattle.bm_core.proofs.Schedules.{taken, taken_kind}
use Rattle.bm_core.proofs.Stepping.{may_publish}

-- WHAT IS LEFT OF A LIST

same_left : {X : Type 0} (xs : List X) (n : ℕ) → length (dropped (0 + n) xs) ≡ length (dropped n xs)
same_left xs n = let e : 0 + n ≡ n = omega arith in ap (λ (i : ℕ). length (dropped i xs)) e

fewer : (dues : List Due) (n : ℕ) (d : Due) → first_of (dropped n dues) ≡ d ∷ []
    → suc (length (dropped (suc n) dues)) ≡ length (dropped n dues)
fewer [] zero d e = absurd (cc)
fewer [] (suc n) d e = absurd (cc)
fewer (x ∷ dues) zero d e = refl
fewer (x ∷ dues) (suc n) d e = fewer dues n d e

fewer_left : (dues : List Due) (n : ℕ) (d : Due) → first_of (dropped n dues) ≡ d ∷ []
    → suc (length (dropped (1 + n) dues)) ≡ length (dropped n dues)
fewer_left dues n d e =
    let one : 1 + n ≡ suc n = omega arith in ap (λ (i : ℕ). suc (length (dropped i dues))) one ∙ fewer dues n d e

-- COPIES

put_weight : (u : Underway) (w : List Underway) → wire_weight (put u w) ≡ hop_weight u.hop + wire_weight w
put_weight u [] = refl
put_weight u (x ∷ w) = elim (cases_Bool (nat_lt u.moment x.moment)) [
  | inl is ↦ rw is refl
  | inr other ↦ rw (other, put_weight u w) (omega arith)
]

put_all_weight : (n : ℕ) (u : Underway) (w : List Underway)
    → wire_weight (put_all n u w) ≡ n * hop_weight u.hop + wire_weight w
put_all_weight zero u w = omega arith
put_all_weight (suc n) u w = rw (put_weight u (put_all n u w), put_all_weight n u w) (omega arith)

-- what a sending may add
abbrev sent_weight : Option Sending → ℕ
sent_weight None = 0
sent_weight (Some s) = 3 * hop_weight s.hop

hop_some : (h : Hop) → 1 ≤ hop_weight h
hop_some Direct = omega arith
hop_some Chained = omega arith
hop_some Twice = omega arith

three : (n : ℕ) (h : Hop) → n ≤ 3 → n * hop_weight h ≤ 3 * hop_weight h
three n Direct le = omega arith
three n Chained le = omega arith
three n Twice le = omega arith

sent_adds : (f : Fate) (place clock : ℕ) (o : Option Sending) (w : List Underway) → IfSome o (λ s. IsSoon f)
    → wire_weight (put_sent f place clock o w) + loss_weight (loss_of_fate f o) ≤ wire_weight w + sent_weight o
sent_adds f place clock None w soon = omega arith
sent_adds f place clock (Some s) w soon = elim (cases_Bool (eqb f.copies 0)) [
  | inl no_copy ↦
      let zero_copies : f.copies ≡ 0 = eqb-true _ _ no_copy
      in let some = hop_some s.hop
      in rw (
        no_copy,
        put_all_weight f.copies
            (record { moment = clock + f.delay; place = place; packet = s.packet; hop = s.hop }) w,
        zero_copies,
      ) (omega arith)
  | inr copies ↦
      let few = three f.copies s.hop soon.0
      in rw (
        copies,
        put_all_weight f.copies
            (record { moment = clock + f.delay; place = place; packet = s.packet; hop = s.hop }) w,
      ) (omega arith)
]

-- an arrival adds less than it takes
arrival_adds : (k : ℕ) (hop : Hop) (server : ServerId) (verdict : Verdict)
    → sent_weight (sending_of (Arrive k hop server verdict)) < hop_weight hop
arrival_adds k Direct server Accept = omega arith
arrival_adds k Direct server (Process t) = omega arith
arrival_adds k Direct server (Forward to) = omega arith
arrival_adds k Direct server (Reset why) = omega arith
arrival_adds k Direct server (Drop why) = omega arith
arrival_adds k Chained server Accept = omega arith
arrival_adds k Chained server (Process t) = omega arith
arrival_adds k Chained server (Forward to) = omega arith
arrival_adds k Chained server (Reset why) = omega arith
arrival_adds k Chained server (Drop why) = omega arith
arrival_adds k Twice server Accept = omega arith
arrival_adds k Twice server (Process t) = omega arith
arrival_adds k Twice server (Forward to) = omega arith
arrival_adds k Twice server (Reset why) = omega arith
arrival_adds k Twice server (Drop why) = omega arith

first_weight : (w : List Underway) (d : Due) (k : ℕ) (hop : Hop) → arrival_due w ≡ d ∷ [] → d.call ≡ Arrives k hop
    → wire_weight w ≡ hop_weight hop + wire_weight (rest w)
first_weight [] d k hop e c = absurd (cc)
first_weight (u ∷ w) d k hop e c = let q : u.hop ≡ hop = grind arith in ap (λ (h : Hop). hop_weight h + wire_weight w) q

-- SWITCHES

switches_same : (changes : ℕ) (e : Event) (past : List Event) (n : ℕ) → ((m : ℕ) → is_switch_of e.what m ≡ false)
    → switches_weight changes (e ∷ past) n ≡ switches_weight changes past n
switches_same changes e past zero none = refl
switches_same changes e past (suc m) none = rw (none m, switches_same changes e past m none) (omega arith)

-- a mux that lies above takes nothing
switches_above : (changes : ℕ) (clock : Moment) (m : MuxId) (v : Version) (past : List Event) (n : ℕ) → n ≤ m.0
    → switches_weight changes (record { clock = clock; what = Switch m v } ∷ past) n ≡ switches_weight changes past n
switches_above changes clock m v past zero le = refl
switches_above changes clock m v past (suc n) le =
    let other : eqb m.0 n ≡ false = ne_eqb m.0 n (λ e. absurd (omega arith))
    in rw (other, switches_above changes clock m v past n (omega arith)) (omega arith)

switches_less : (changes : ℕ) (clock : Moment) (m : MuxId) (v : Version) (past : List Event) (n : ℕ) → m.0 < n
    → counts past (λ what. is_switch_of what m.0) < changes
    → suc (switches_weight changes (record { clock = clock; what = Switch m v } ∷ past) n)
    ≡ switches_weight changes past n
switches_less changes clock m v past zero lt more = absurd (omega arith)
switches_less changes clock m v past (suc n) lt more = elim (cases_Bool (eqb m.0 n)) [
  | inl same ↦
      let e : m.0 ≡ n = eqb-true _ _ same
      in let more' : counts past (λ what. is_switch_of what n) < changes =
      subst (λ (i : ℕ). counts past (λ what. is_switch_of what i) < changes) e more
      in rw (same, switches_above changes clock m v past n (omega arith)) (omega arith)
  | inr other ↦
      let lt' : m.0 < n = ne_below m.0 n lt other
      in let old = switches_less changes clock m v past n lt' more
      in rw other (omega arith)
] where
  ne_below : (a b : ℕ) → a < suc b → eqb a b ≡ false → a < b
  ne_below a b lt ne = grind (arith, nat_tests)

-- THE STEP

sum_first : (x y z x' y' z' : ℕ) → suc x' ≤ x → y' ≤ y → z' ≤ z → suc (x' + (y' + z')) ≤ x + (y + z)
sum_first x y z x' y' z' p q r = omega arith

sum_second : (x y z x' y' z' : ℕ) → x' ≤ x → suc y' ≤ y → z' ≤ z → suc (x' + (y' + z')) ≤ x + (y + z)
sum_second x y z x' y' z' p q r = omega arith

sum_third : (x y z x' y' z' : ℕ) → x' ≤ x → y' ≤ y → suc z' ≤ z → suc (x' + (y' + z')) ≤ x + (y + z)
sum_third x y z x' y' z' p q r = omega arith

abbrev n_steers : List Event → ℕ
n_steers past = counts past (λ what. steers (call_of what))

abbrev n_closes : List Event → ℕ
n_closes past = counts past (λ what. closes (call_of what))

abbrev n_retires : List Event → ℕ
n_retires past = counts past (λ what. retires (call_of what))

abbrev n_syncs : List Event → ℕ
n_syncs past = counts past (λ what. syncs (call_of what))

packets_keep : (a' a : ℕ) (w : List Underway) (o : Option Call) → a' ≡ a
    → packets_weight a' w None ≤ packets_weight a w o
packets_keep a' a w o e = rw e (omega arith)

packets_still : (stage : Stage) (past : List Event) (w : List Underway) (o : Option Call)
    → packets_weight (length (dropped (0 + n_steers past) (packets_from 1 stage.capture.records))) w
    None ≤ packets_weight (length (left (packets_from 1 stage.capture.records) past steers)) w o
packets_still stage past w o = packets_keep _ _ w o (same_left (packets_from 1 stage.capture.records) (n_steers past))

-- how many closes, retires and syncs are left after this many of each
abbrev commands_left : Stage → ℕ → ℕ → ℕ → ℕ
commands_left stage a b c =
    length (dropped a (close_commands stage.script.commands))
    + (length (dropped b (retire_commands stage.script.setting.shards stage.script.commands)) + length
    (dropped c (sync_commands stage.script.commands)))

commands_keep : (stage : Stage) (a b c : ℕ) → commands_left stage (0 + a) (0 + b) (0 + c) ≤ commands_left stage a b c
commands_keep stage a b c =
    rw (
      same_left (close_commands stage.script.commands) a,
      same_left
          (retire_commands stage.script.setting.shards stage.script.commands) b,
      same_left
          (sync_commands stage.script.commands) c,
    ) (omega arith)

close_less : (stage : Stage) (a b c : ℕ) (d : Due)
    → first_of (dropped a (close_commands stage.script.commands)) ≡ d ∷ []
    → suc (commands_left stage (1 + a) (0 + b) (0 + c)) ≤ commands_left stage a b c
close_less stage a b c d e =
    let less = fewer_left (close_commands stage.script.commands) a d e
    in rw (
      same_left (retire_commands stage.script.setting.shards stage.script.commands) b,
      same_left
          (sync_commands stage.script.commands) c,
    ) (omega arith)

retire_less : (stage : Stage) (a b c : ℕ) (d : Due)
    → first_of (dropped b (retire_commands stage.script.setting.shards stage.script.commands)) ≡ d ∷ []
    → suc (commands_left stage (0 + a) (1 + b) (0 + c)) ≤ commands_left stage a b c
retire_less stage a b c d e =
    let less = fewer_left (retire_commands stage.script.setting.shards stage.script.commands) b d e
    in rw (same_left (close_commands stage.script.commands) a, same_left (sync_commands stage.script.commands) c)
    (omega arith)

sync_less : (stage : Stage) (a b c : ℕ) (d : Due) → first_of (dropped c (sync_commands stage.script.commands)) ≡ d ∷ []
    → suc (commands_left stage (0 + a) (0 + b) (1 + c)) ≤ commands_left stage a b c
sync_less stage a b c d e =
    let less = fewer_left (sync_commands stage.script.commands) c d e
    in rw (
      same_left (close_commands stage.script.commands) a,
      same_left
          (retire_commands stage.script.setting.shards stage.script.commands) b,
    ) (omega arith)

changes_keep : (stage : Stage) (e : Event) (past : List Event) → ((m : ℕ) → is_switch_of e.what m ≡ false)
    → newest (e ∷ past) ≡ newest past → changes_weight stage (e ∷ past) ≤ changes_weight stage past
changes_keep stage e past none same =
    rw (switches_same (length stage.script.plan.changes) e past stage.script.setting.muxes none, same) (omega arith)

publish_less : (top n v s' s : ℕ) → v ≡ suc n → suc n ≤ top → s' ≡ s → suc ((top - v) + s') ≤ (top - n) + s
publish_less top n v s' s e le same = omega arith

switch_sum : (c s' s : ℕ) → suc s' ≡ s → suc (c + s') ≤ c + s
switch_sum c s' s e = omega arith

abbrev at : Moment → What → Event
at clock what = record { clock = clock; what = what }

weight_step : (fates : List Fate) (stage : Stage) (past : List Event) (clock : Moment) (what : What)
    → IfSome (sending_of what) (λ s. IsSoon (fate_now fates)) → IsNextBy (before fates) stage past (at clock what)
    → suc (weight fates stage (at clock what ∷ past)) ≤ weight (before fates) stage past
weight_step fates stage past clock (Publish v) soon next =
    let t = taken_kind (before fates) stage past (at clock (Publish v)) refl next
    in let e : v.0 ≡ suc (newest past) = t.1.from.1
    in let le : suc (newest past) ≤ length stage.script.plan.changes = may_publish stage (newest past) t.1.from.0
    in let s =
    switches_same (length stage.script.plan.changes) (at clock (Publish v)) past stage.script.setting.muxes (λ m. refl)
    in sum_third _ _ _ _ _ _ (packets_still stage past (wire (before fates) past) (due_loss (before fates) past))
    (commands_keep stage (n_closes past) (n_retires past) (n_syncs past))
    (publish_less (length stage.script.plan.changes) (newest past) v.0 _ _ e le s)
weight_step fates stage past clock (Switch m v) soon next =
    let t = taken_kind (before fates) stage past (at clock (Switch m v)) refl next
    in let a : v.0 ≡ suc t.1.from.1.0 = t.1.from.1.1
    in let b : v.0 ≡ suc (counts past (λ what. is_switch_of what m.0)) = t.1.from.2
    in let c : t.1.from.1.0 < length stage.script.plan.changes = t.1.from.1.2
    in let more : counts past (λ what. is_switch_of what m.0) < length stage.script.plan.changes = omega arith
    in let s =
    switches_less (length stage.script.plan.changes) clock m v past stage.script.setting.muxes t.1.from.0 more
    in sum_third _ _ _ _ _ _ (packets_still stage past (wire (before fates) past) (due_loss (before fates) past))
    (commands_keep stage (n_closes past) (n_retires past) (n_syncs past)) (switch_sum _ _ _ s)
weight_step fates stage past clock (Close server flow closed) soon next =
    let t = taken_kind (before fates) stage past (at clock (Close server flow closed)) refl next
    in sum_second _ _ _ _ _ _ (packets_still stage past (wire (before fates) past) (due_loss (before fates) past))
    (close_less stage (n_closes past) (n_retires past) (n_syncs past) t.1.due t.1.from)
    (changes_keep stage (at clock (Close server flow closed)) past (λ m. refl) refl)
weight_step fates stage past clock (Retire server h moment result) soon next =
    let t = taken_kind (before fates) stage past (at clock (Retire server h moment result)) refl next
    in sum_second _ _ _ _ _ _ (packets_still stage past (wire (before fates) past) (due_loss (before fates) past))
    (retire_less stage (n_closes past) (n_retires past) (n_syncs past) t.1.due t.1.from)
    (changes_keep stage (at clock (Retire server h moment result)) past (λ m. refl) refl)
weight_step fates stage past clock Sync soon next =
    let t = taken_kind (before fates) stage past (at clock Sync) refl next
    in sum_second _ _ _ _ _ _ (packets_still stage past (wire (before fates) past) (due_loss (before fates) past))
    (sync_less stage (n_closes past) (n_retires past) (n_syncs past) t.1.due t.1.from)
    (changes_keep stage (at clock Sync) past (λ m. refl) refl)
weight_step fates stage past clock (Steer k m) soon next =
    let t = taken_kind (before fates) stage past (at clock (Steer k m)) refl next
    in let fewer_packets =
    fewer_left (packets_from 1 stage.capture.records) (counts past (λ what. steers (call_of what))) t.1.due t.1.from
    in let adds =
    sent_adds (fate_now fates) (length past) clock.0 (sending_of (Steer k m)) (wire (before fates) past) soon
    in sum_first _ _ _ _ _ _ (steer_sum _ _ _ _ _ _ fewer_packets adds)
    (commands_keep stage (n_closes past) (n_retires past) (n_syncs past))
    (changes_keep stage (at clock (Steer k m)) past (λ i. refl) refl) where
      steer_sum : (a' a w' o' w o : ℕ) → suc a' ≡ a → w' + o' ≤ w + 39 → suc (40 * a' + (w' + o')) ≤ 40 * a + (w + o)
      steer_sum a' a w' o' w o p q = omega arith
weight_step fates stage past clock (Arrive k hop server verdict) soon next =
    let t = taken_kind (before fates) stage past (at clock (Arrive k hop server verdict)) refl next
    in let first = first_weight (wire (before fates) past) t.1.due k hop t.1.from t.1.call
    in let adds =
    sent_adds (fate_now fates) (length past) clock.0 (sending_of (Arrive k hop server verdict))
    (rest (wire (before fates) past)) soon
    in let less = arrival_adds k hop server verdict
    in sum_first _ _ _ _ _ _
    (arrive_sum _ _ _ _ _ _ _ _ _
    (same_left (packets_from 1 stage.capture.records) (counts past (λ what. steers (call_of what)))) first adds less)
    (commands_keep stage (n_closes past) (n_retires past) (n_syncs past))
    (changes_keep stage (at clock (Arrive k hop server verdict)) past (λ i. refl) refl) where
      arrive_sum : (a' a w' o' w r c h o : ℕ) → a' ≡ a → w ≡ h + r → w' + o' ≤ r + c → c < h
          → suc (40 * a' + (w' + o')) ≤ 40 * a + (w + o)
      arrive_sum a' a w' o' w r c h o p q s t = omega arith
weight_step fates stage past clock (Lose k hop) soon next =
    elim (taken (wire (before fates) past) stage past (at clock (Lose k hop)) (due_loss (before fates) past) next) [
      | inl l ↦
          let one : loss_weight (due_loss (before fates) past) ≡ 1 = ap loss_weight l.0
          in sum_first _ _ _ _ _ _
          (lose_sum _ _ _ _
          (same_left (packets_from 1 stage.capture.records) (counts past (λ what. steers (call_of what))))
          one) (commands_keep stage (n_closes past) (n_retires past) (n_syncs past))
          (changes_keep stage (at clock (Lose k hop)) past (λ i. refl) refl)
      | inr t ↦ absurd t.1.from
    ] where
      lose_sum : (a' a w o : ℕ) → a' ≡ a → o ≡ 1 → suc (40 * a' + (w + 0)) ≤ 40 * a + (w + o)
      lose_sum a' a w o p q = omega arith

-- the events so far and what is left are at most what was to come
pub weight_within : (fates : List Fate) (stage : Stage) (past : List Event) → Follows fates stage past
    → AreSoon fates past → length past + weight fates stage past ≤ weight [] stage []
weight_within fates stage [] follows soon =
    let same : weight fates stage [] ≡ weight [] stage [] = refl in rw same (omega arith)
weight_within fates stage (e ∷ past) follows soon =
    let old = weight_within (before fates) stage past follows.1 soon.1
    in let step = weight_step fates stage past e.clock e.what soon.0 follows.0
    in omega arith

-- WHAT IS TO COME OF A SOUND STAGE

few_packets : (k : ℕ) (records : List Record) → length (packets_from k records) ≤ length records
few_packets k [] = omega arith
few_packets k (r ∷ records) =
    let old = few_packets (suc k) records in elim (cases_Bool (is_some (steerable (Some r)))) [
      | inl is ↦ rw is (omega arith)
      | inr other ↦ rw other (omega arith)
    ]

all_switches : (changes n : ℕ) → switches_weight changes [] n ≡ n * changes
all_switches changes zero = omega arith
all_switches changes (suc n) = rw (all_switches changes n) (omega arith)

length_retires : (s : ServerId) (at n : ℕ) → length (retire_dues s at n) ≡ n
length_retires s at zero = refl
length_retires s at (suc n) = length-append (retire_dues s at n) _ ∙ (let old = length_retires s at n in omega arith)

names_within : (next top : ℕ) (commands : List Command) → NamesVersions next top commands → next ≤ suc top
names_within next top [] names = omega arith
names_within next top (ChangeCommand v ∷ rest) names = let old = names_within (next + 1) top rest names.1 in omega arith
names_within next top (CloseCommand at server flow ∷ rest) names = names_within next top rest names
names_within next top (RetireCommand at server ∷ rest) names = names_within next top rest names
names_within next top (SyncCommand at ∷ rest) names = names_within next top rest names

change_sum : (a k muxes n : ℕ) → muxes ≤ 64 → a + (k + muxes * k) ≤ 65 * n → a + (suc k + muxes * suc k) ≤ 65 * suc n
change_sum a k muxes n m le = omega arith

retire_sum : (shards c r' r y z n : ℕ) → shards ≤ 64 → r' ≡ shards + r → (c + (r + y)) + z ≤ 65 * n
    → (c + (r' + y)) + z ≤ 65 * suc n
retire_sum shards c r' r y z n s e le = omega arith

-- the events of these commands, with those of the changes that they name
few_commands : (shards muxes next top : ℕ) (commands : List Command) → shards ≤ 64 → muxes ≤ 64
    → NamesVersions next top commands
    → (length (close_commands commands) + (length (retire_commands shards commands) + length (sync_commands commands)))
    + ((suc top - next) + muxes * (suc top - next)) ≤ 65 * length commands
few_commands shards muxes next top [] s m names = let none : suc top - next ≡ 0 = omega arith in rw none (omega arith)
few_commands shards muxes next top (ChangeCommand v ∷ rest) s m names =
    let old = few_commands shards muxes (next + 1) top rest s m names.1
    in let within : next + 1 ≤ suc top = names_within (next + 1) top rest names.1
    in let more : suc top - next ≡ suc (suc top - (next + 1)) = omega arith
    in rw more (change_sum _ (suc top - (next + 1)) muxes (length rest) m old)
few_commands shards muxes next top (CloseCommand at server flow ∷ rest) s m names =
    let old = few_commands shards muxes next top rest s m names in omega arith
few_commands shards muxes next top (RetireCommand at server ∷ rest) s m names =
    let old = few_commands shards muxes next top rest s m names
    in let e : length (retire_commands shards (RetireCommand at server ∷ rest))
    ≡ shards + length (retire_commands shards rest) =
    length-append (retire_dues server at.0 shards) _
    ∙ ap (λ (n : ℕ). n + length (retire_commands shards rest)) (length_retires server at.0 shards)
    in retire_sum shards _ _ (length (retire_commands shards rest)) _ _ (length rest) s e old
few_commands shards muxes next top (SyncCommand at ∷ rest) s m names =
    let old = few_commands shards muxes next top rest s m names in omega arith

sound_sum : (p n c top x k w : ℕ) → p ≤ n → n ≤ 200000 → c + (top + x) ≤ 65 * k → k ≤ 65536 → w ≡ x
    → (40 * p + (0 + 0)) + (c + ((top - 0) + w)) ≤ 12259840
sound_sum p n c top x k w a b d e f = omega arith

-- a bound on the number of events of a sound stage's replay
pub sound_weight : (stage : Stage) → IsSound stage → weight [] stage [] ≤ 12259840
sound_weight stage sound =
    let packets : length (packets_from 1 stage.capture.records) ≤ length stage.capture.records =
    few_packets 1 stage.capture.records
    in let all : suc (length stage.script.plan.changes) - 1 ≡ length stage.script.plan.changes = omega arith
    in let commands =
    rw all at
    (few_commands stage.script.setting.shards stage.script.setting.muxes 1 (length stage.script.plan.changes)
    stage.script.commands sound.script.setting.shards.1 sound.script.setting.muxes.1 sound.script.versions)
    in sound_sum (length (packets_from 1 stage.capture.records)) (length stage.capture.records)
    (commands_weight stage []) (length stage.script.plan.changes)
    (stage.script.setting.muxes * length stage.script.plan.changes)
    (length stage.script.commands) (switches_weight (length stage.script.plan.changes) [] stage.script.setting.muxes)
    packets sound.capture.few commands sound.script.few_commands
    (all_switches (length stage.script.plan.changes) stage.script.setting.muxes)

-- so a replay's history is short
pub few_events : (fates : List Fate) (stage : Stage) (past : List Event) → IsSound stage → Follows fates stage past
    → AreSoon fates past → length past + weight fates stage past ≤ 12259840
few_events fates stage past sound follows soon =
    let a = weight_within fates stage past follows soon in let b = sound_weight stage sound in omega arith

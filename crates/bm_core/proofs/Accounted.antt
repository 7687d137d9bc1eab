-- A replay that is over is accounted for.
use Rattle.std.proofs.Common.{◌≡◌, ℕ, zero, suc, ◌+◌, ◌<◌, ◌≤◌, Bool, true, false, cond, ◌&&◌, inl, inr, List, [], ◌∷◌}
use Rattle.std.proofs.Common.{◌++◌, Option, Some, None, is_some, length, slice_get, refl, sym, ap, ◌∙◌, arith, eqb}
use Rattle.std.proofs.lemmas.Bool.{cases_Bool}
use Rattle.std.proofs.lemmas.Bool.Decides.{nat_tests}
use Rattle.std.proofs.lemmas.Option.{slice_get_cases}
use Rattle.bm_base.specs.declared.ids.ServerId.{ServerId}
use Rattle.bm_base.specs.declared.flow.Flow.{Flow}
use Rattle.bm_base.specs.declared.label.Hop.{Hop}
use Rattle.bm_base.specs.declared.capture.Record.{Record}
use Rattle.bm_base.specs.declared.fate.Fate.{Fate}
use Rattle.bm_table.specs.declared.plan.Change.{Change}
use Rattle.bm_table.specs.declared.script.Command.{Command}
use Rattle.bm_table.specs.declared.script.Command.TheVariants.{Change as ChangeCommand, Close as CloseCommand}
use Rattle.bm_table.specs.declared.script.Command.TheVariants.{Retire as RetireCommand, Sync as SyncCommand}
use Rattle.bm_core.specs.Schedule.{Underway}
use Rattle.bm_core.specs.declared.events.What.{What}
use Rattle.bm_core.specs.declared.events.What.TheVariants.{Steer, Close, Retire, Sync}
use Rattle.bm_core.specs.declared.events.Event.{Event}
use Rattle.bm_core.specs.declared.events.Stage.{Stage}
use Rattle.bm_table.specs.Tables.{same_server, next_change}
use Rattle.bm_base.specs.Segments.{same_flow}
use Rattle.bm_core.specs.Past.{newest, segment_of, steerable}
use Rattle.bm_core.specs.Runs.{Run}
use Rattle.bm_core.specs.Accounts as acc
use Rattle.bm_core.specs.Accounts.{Routes, Rules, count_of, counts, arrives, lost_at, retires_shard, is_sync}
use Rattle.bm_core.specs.Accounts.{wants_close, wants_retire, wants_sync, AreCarriedOut}
use Rattle.bm_core.specs.Accounts.{sent_copies, copyless_at, AreAnswered, IsAccountOf}
use Rattle.bm_core.specs.declared.schedule.Call.{Call}
use Rattle.bm_core.specs.declared.schedule.Call.TheVariants.{Closes, Retires, Steers}
use Rattle.bm_core.specs.declared.schedule.Due.{Due}
use Rattle.bm_core.specs.Schedule.{call_of, publish_due, close_commands, retire_dues, retire_commands, sync_commands}
use Rattle.bm_core.specs.Schedule.{packets_from}
use Rattle.bm_core.specs.Schedule.{wire, first_of, arrival_due, left, closes, retires, syncs, steers, can_come, Follows}
use Rattle.bm_core.specs.Schedule.{IsOver}
use Rattle.bm_core.proofs.Pasts.{newest_within}
use Rattle.bm_core.proofs.Schedules.{counted, balance, class_of_closes, class_of_retires, class_of_syncs}
use Rattle.bm_core.proofs.Schedules.{class_of_steers, copies_balance, copies_sent, lost_balance, is_loss_due_at}
use Rattle.bm_core.proofs.Schedules.{waiting}

-- LISTS

no_parts : (xs ys : List Due) → (xs ++ ys) ≡ [] → (xs ≡ []) × (ys ≡ [])
no_parts [] ys e = (refl, e)
no_parts (x ∷ xs) ys e = absurd (cc)

no_first : (xs : List Due) → first_of xs ≡ [] → xs ≡ []
no_first [] e = refl
no_first (x ∷ xs) e = absurd (cc)

no_arrival : (w : List Underway) → arrival_due w ≡ [] → w ≡ []
no_arrival [] e = refl
no_arrival (u ∷ w) e = absurd (cc)

no_publish : (v : ℕ) (o : Option Change) → publish_due v o ≡ [] → o ≡ None
no_publish v None e = refl
no_publish v (Some c) e = absurd (cc)

same_count : {X : Type 0} (p q : X → Bool) → ((x : X) → p x ≡ q x) → (xs : List X) → count_of p xs ≡ count_of q xs
same_count p q same [] = refl
same_count p q same (x ∷ xs) = rw (same x, same_count p q same xs) refl

counted_append : (t : Call → Bool) (xs ys : List Due) → counted t (xs ++ ys) ≡ counted t xs + counted t ys
counted_append t [] ys = omega arith
counted_append t (x ∷ xs) ys = rw (counted_append t xs ys) (omega arith)

-- WHAT IS OVER

pub record IsDone (fates : List Fate) (stage : Stage) (all : List Event) : Type 0 where
  pub changes : next_change stage.script.plan (newest all) ≡ None
  pub closes_left : left (close_commands stage.script.commands) all closes ≡ []
  pub retires_left : left (retire_commands stage.script.setting.shards stage.script.commands) all retires ≡ []
  pub syncs_left : left (sync_commands stage.script.commands) all syncs ≡ []
  pub wire_left : wire fates all ≡ []
  pub steers_left : left (packets_from 1 stage.capture.records) all steers ≡ []

pub done : (fates : List Fate) (stage : Stage) (all : List Event) → can_come (wire fates all) stage all ≡ []
    → IsDone fates stage all
done fates stage all none =
    let a = no_parts _ _ none
    in let b = no_parts _ _ a.0
    in let c = no_parts _ _ b.0
    in let d = no_parts _ _ c.0
    in let e = no_parts _ _ d.0
    in let f = no_parts _ _ e.0
    in record {
      changes = no_publish _ _ f.0;
      closes_left = no_first _ e.1;
      retires_left = no_first _ d.1;
      syncs_left = no_first _ c.1;
      wire_left = no_arrival _ b.1;
      steers_left = no_first _ a.1;
    }

-- CLOSES

abbrev pub close_at : ServerId → Flow → Call → Bool
close_at s f (Closes server flow) = same_server server s && same_flow flow f
close_at s f _ = false

close_within : (s : ServerId) (f : Flow) (c : Call) → closes c ≡ false → close_at s f c ≡ false
close_within s f (Closes server flow) e = absurd (cc)
close_within s f _ e = refl

close_what : (s : ServerId) (f : Flow) (what : What) → close_at s f (call_of what) ≡ acc.closes_flow what s f
close_what s f (Close server flow closed) = refl
close_what s f _ = refl

close_list : (s : ServerId) (f : Flow) (commands : List Command)
    → counted (close_at s f) (close_commands commands) ≡ count_of (λ c. wants_close c s f) commands
close_list s f [] = refl
close_list s f (CloseCommand at server flow ∷ commands) =
    ap (λ (n : ℕ). cond (same_server server s && same_flow flow f) 1 0 + n) (close_list s f commands)
close_list s f (ChangeCommand v ∷ commands) = rw (close_list s f commands) (omega arith)
close_list s f (RetireCommand at server ∷ commands) = rw (close_list s f commands) (omega arith)
close_list s f (SyncCommand at ∷ commands) = rw (close_list s f commands) (omega arith)

-- SYNCS

sync_what : (what : What) → syncs (call_of what) ≡ is_sync what
sync_what Sync = refl
sync_what _ = refl

sync_list : (commands : List Command) → counted syncs (sync_commands commands) ≡ count_of wants_sync commands
sync_list [] = refl
sync_list (CloseCommand at server flow ∷ commands) = rw (sync_list commands) (omega arith)
sync_list (ChangeCommand v ∷ commands) = rw (sync_list commands) (omega arith)
sync_list (RetireCommand at server ∷ commands) = rw (sync_list commands) (omega arith)
sync_list (SyncCommand at ∷ commands) = ap (λ (n : ℕ). 1 + n) (sync_list commands)

-- RETIREMENTS

abbrev pub retire_at : ServerId → ℕ → Call → Bool
retire_at s h (Retires server x at) = same_server server s && eqb x h
retire_at s h _ = false

retire_within : (s : ServerId) (h : ℕ) (c : Call) → retires c ≡ false → retire_at s h c ≡ false
retire_within s h (Retires server x at) e = absurd (cc)
retire_within s h _ e = refl

retire_what : (s : ServerId) (h : ℕ) (what : What) → retire_at s h (call_of what) ≡ retires_shard what s h
retire_what s h (Retire server x at result) = refl
retire_what s h _ = refl

retire_none : (s : ServerId) (h : ℕ) (server : ServerId) (at n : ℕ) → n ≤ h
    → counted (retire_at s h) (retire_dues server at n) ≡ 0
retire_none s h server at zero below = refl
retire_none s h server at (suc n) below =
    let ne : eqb n h ≡ false = grind (arith, nat_tests)
    in rw (counted_append (retire_at s h) (retire_dues server at n) _, retire_none s h server at n (omega arith))
    (none (same_server server s) (eqb n h) ne) where
      none : (a b : Bool) → b ≡ false → 0 + (cond (a && b) 1 0 + 0) ≡ 0
      none true true e = absurd (cc)
      none true false e = refl
      none false b e = refl

retire_one : (s : ServerId) (h : ℕ) (server : ServerId) (at n : ℕ) → h < n
    → counted (retire_at s h) (retire_dues server at n) ≡ cond (same_server server s) 1 0
retire_one s h server at zero below = absurd (omega arith)
retire_one s h server at (suc n) below = elim (cases_Bool (eqb n h)) [
  | inl is ↦
      let e : n ≡ h = grind (arith, nat_tests)
      in rw (counted_append (retire_at s h) (retire_dues server at n) _, retire_none s h server at n (omega arith), is)
      (one (same_server server s))
  | inr other ↦
      let e : h < n = grind (arith, nat_tests)
      in rw (counted_append (retire_at s h) (retire_dues server at n) _, retire_one s h server at n e, other)
      (same (same_server server s))
] where
  one : (a : Bool) → 0 + (cond (a && true) 1 0 + 0) ≡ cond a 1 0
  one true = refl
  one false = refl

  same : (a : Bool) → cond a 1 0 + (cond (a && false) 1 0 + 0) ≡ cond a 1 0
  same true = refl
  same false = refl

retire_list : (s : ServerId) (h shards : ℕ) → h < shards → (commands : List Command)
    → counted (retire_at s h) (retire_commands shards commands) ≡ count_of (λ c. wants_retire c s) commands
retire_list s h shards below [] = refl
retire_list s h shards below (CloseCommand at server flow ∷ commands) =
    rw (retire_list s h shards below commands) (omega arith)
retire_list s h shards below (ChangeCommand v ∷ commands) = rw (retire_list s h shards below commands) (omega arith)
retire_list s h shards below (RetireCommand at server ∷ commands) =
    rw (
      counted_append (retire_at s h) (retire_dues server at.0 shards) (retire_commands shards commands),
      retire_one s
          h server at.0 shards below,
      retire_list s h shards below commands,
    ) refl
retire_list s h shards below (SyncCommand at ∷ commands) = rw (retire_list s h shards below commands) (omega arith)

retire_no_list : (s : ServerId) (h shards : ℕ) → shards ≤ h → (commands : List Command)
    → counted (retire_at s h) (retire_commands shards commands) ≡ 0
retire_no_list s h shards above [] = refl
retire_no_list s h shards above (CloseCommand at server flow ∷ commands) = retire_no_list s h shards above commands
retire_no_list s h shards above (ChangeCommand v ∷ commands) = retire_no_list s h shards above commands
retire_no_list s h shards above (RetireCommand at server ∷ commands) =
    rw (
      counted_append (retire_at s h) (retire_dues server at.0 shards) (retire_commands shards commands),
      retire_none s
          h server at.0 shards above,
      retire_no_list s h shards above commands,
    ) refl
retire_no_list s h shards above (SyncCommand at ∷ commands) = retire_no_list s h shards above commands

-- PACKETS

abbrev pub steer_at : ℕ → Call → Bool
steer_at k (Steers j) = eqb j k
steer_at k _ = false

pub steer_within : (k : ℕ) (c : Call) → steers c ≡ false → steer_at k c ≡ false
steer_within k (Steers j) e = absurd (cc)
steer_within k _ e = refl

steer_what : (k : ℕ) (what : What) → steer_at k (call_of what) ≡ acc.steers_packet what k
steer_what k (Steer j m) = refl
steer_what k _ = refl

steer_none : (k n : ℕ) (records : List Record) → k < n → counted (steer_at k) (packets_from n records) ≡ 0
steer_none k n [] below = refl
steer_none k n (r ∷ records) below = elim (cases_Bool (is_some (steerable (Some r)))) [
  | inl is ↦ let ne : eqb n k ≡ false =
      grind (arith, nat_tests) in rw (is, ne, steer_none k (suc n) records (omega arith)) refl
  | inr other ↦ rw (other, steer_none k (suc n) records (omega arith)) refl
]

steer_list : (n i : ℕ) (records : List Record) (k : ℕ) → k ≡ n + i
    → counted (steer_at k) (packets_from n records) ≡ cond (is_some (steerable (slice_get records i))) 1 0
steer_list n i [] k e = refl
steer_list n zero (r ∷ records) k e = elim (cases_Bool (is_some (steerable (Some r)))) [
  | inl is ↦ let same : eqb n k ≡ true =
      grind (arith, nat_tests) in rw (is, same, steer_none k (suc n) records (omega arith)) refl
  | inr other ↦ rw (other, steer_none k (suc n) records (omega arith)) refl
]
steer_list n (suc i) (r ∷ records) k e = elim (cases_Bool (is_some (steerable (Some r)))) [
  | inl is ↦ let ne : eqb n k ≡ false =
      grind (arith, nat_tests) in rw (is, ne, steer_list (suc n) i records k (omega arith)) (omega arith)
  | inr other ↦ rw (other, steer_list (suc n) i records k (omega arith)) refl
]

pub steer_records : (stage : Stage) (k : ℕ)
    → counted (steer_at k) (packets_from 1 stage.capture.records) ≡ cond (is_some (segment_of stage k)) 1 0
steer_records stage zero = steer_none 0 1 stage.capture.records (omega arith)
steer_records stage (suc i) = steer_list 1 i stage.capture.records (suc i) (omega arith)

-- THE ACCOUNT

all_came : (t : Call → Bool) (dues : List Due) (n rest : ℕ) → n + rest ≡ counted t dues → rest ≡ 0 → n ≡ counted t dues
all_came t dues n rest e z = omega arith

pub accounted : (R : Routes) (F : Rules) (fates : List Fate) (stage : Stage) (all : List Event) → Run stage all
    → Follows fates stage all → IsOver fates stage all → AreAnswered R F stage fates all
    → IsAccountOf R F stage fates all
accounted R F fates stage all run follows over answered =
    let d = done fates stage all over.none
    in record {
      steered = λ k. sym (same_count _ _ (λ e. steer_what k e.what) all)
          ∙ (all_came (steer_at k) (packets_from 1 stage.capture.records) _ _
          (balance (steer_at k) steers (packets_from 1 stage.capture.records) stage (steer_within k)
          (class_of_steers stage) fates all follows) (rw d.steers_left refl)
          ∙ steer_records stage k);
      answered = answered;
      lost = λ k hop clock. lost_all k hop clock;
      sent = copies_sent fates stage all follows;
      arrived = λ k hop. arrived_all k hop d;
      commands = record {
        changes = changes_all d;
        closes = λ s f. sym (same_count _ _ (λ e. close_what s f e.what) all)
            ∙ (all_came (close_at s f) (close_commands stage.script.commands) _ _
            (balance (close_at s f) closes (close_commands stage.script.commands) stage (close_within s f)
            (class_of_closes stage) fates all follows) (rw d.closes_left refl)
            ∙ close_list s f stage.script.commands);
        retires =
            λ s h below. retired_all s h d ∙ retire_list s h stage.script.setting.shards below stage.script.commands;
        no_other =
            λ s h above. retired_all s h d ∙ retire_no_list s h stage.script.setting.shards above stage.script.commands;
        syncs = sym (same_count _ _ (λ e. sync_what e.what) all)
            ∙ (all_came syncs (sync_commands stage.script.commands) _ _
            (balance syncs syncs (sync_commands stage.script.commands) stage (λ c e. e) (class_of_syncs stage) fates all
            follows) (rw d.syncs_left refl)
            ∙ sync_list stage.script.commands);
      };
    } where
      lost_all : (k : ℕ) (hop : Hop) (clock : ℕ) → lost_at all k hop (suc clock) ≡ copyless_at fates all k hop clock
      lost_all k hop clock =
          let none : ◌≡◌ {A = ℕ} (cond (is_loss_due_at fates all k hop clock) 1 0) 0 = rw over.no_loss_due refl
          in let b = lost_balance fates stage all follows k hop clock
          in omega arith

      arrived_all : (k : ℕ) (hop : Hop) → IsDone fates stage all
          → counts all (λ what. arrives what k hop) ≡ sent_copies fates all k hop
      arrived_all k hop d =
          let none : waiting k hop (wire fates all) ≡ 0 = rw d.wire_left refl
          in let b = copies_balance fates stage all follows k hop
          in omega arith

      retired_all : (s : ServerId) (h : ℕ) → IsDone fates stage all
          → counts all (λ what. retires_shard what s h)
          ≡ counted (retire_at s h) (retire_commands stage.script.setting.shards stage.script.commands)
      retired_all s h d =
          sym (same_count _ _ (λ e. retire_what s h e.what) all)
          ∙ all_came (retire_at s h) (retire_commands stage.script.setting.shards stage.script.commands) _ _
          (balance (retire_at s h) retires (retire_commands stage.script.setting.shards stage.script.commands) stage
          (retire_within s h) (class_of_retires stage) fates all follows) (rw d.retires_left refl)

      changes_all : IsDone fates stage all → newest all ≡ length stage.script.plan.changes
      changes_all d = elim (slice_get_cases stage.script.plan.changes (newest all)).1 [
        | inl is ↦ absurd (let h : ◌≡◌ {A = Option Change} None (Some is.0) = sym d.changes ∙ is.2 in cc)
        | inr past_end ↦ let a = newest_within stage all run in let b = past_end.0 in omega arith
      ]

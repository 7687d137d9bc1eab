-- What an event leaves alone in the state.
use Rattle.std.proofs.Common.{◌≡◌, ◌≢◌, ℕ, zero, suc, ◌+◌, ◌*◌, ◌<◌, ◌≤◌, Bool, true, false, cond, ◌&&◌, inl, inr, List}
use Rattle.std.proofs.Common.{[], ◌∷◌, ◌++◌, Option, Some, None, length, slice_get, length-set, eqb, refl, sym, ap}
use Rattle.std.proofs.Common.{subst, ◌∙◌, arith}
use Rattle.std.specs.Prelude.{slice_index_or, slice_set}
use Rattle.std.proofs.lemmas.Bool.{cases_lt, and_parts, both_ways, eq-eqb, eqb-true}
use Rattle.std.proofs.lemmas.List.{get_or-set_same, get_or-set_other}
use Rattle.std.proofs.Math.Nat.{mul-le-mul_right}
use Rattle.bm_base.specs.declared.ids.MuxId.{MuxId}
use Rattle.bm_base.specs.declared.ids.ServerId.{ServerId}
use Rattle.bm_table.specs.Tables.{next_change, same_server}
use Rattle.bm_table.proofs.Tables.{same_server-true}
use Rattle.bm_core.specs.declared.events.What.{What}
use Rattle.bm_core.specs.declared.events.Event.{Event}
use Rattle.bm_core.specs.declared.events.Stage.{Stage}
use Rattle.bm_core.specs.declared.schedule.Call.{Call}
use Rattle.bm_core.specs.declared.schedule.Due.{Due}
use Rattle.bm_core.specs.Accounts.{counts}
use Rattle.bm_core.specs.Books.{Turn, add_turn, book_of, turn_of}
use Rattle.bm_core.specs.Past.{is_switch_of, version_at}
use Rattle.bm_core.specs.Schedule.{call_of, closes, dropped, first_of, least, left, retires, steers, switch_due}
use Rattle.bm_core.specs.Schedule.{switches_due, syncs}
use Rattle.bm_replay.specs.declared.mux.Mux.{Mux}
use Rattle.bm_replay.specs.declared.queue.Queue.{Queue}
use Rattle.bm_replay.specs.Inside.Muxes.{HasTable, switches_of, version_in}
use Rattle.bm_replay.specs.Inside.Playing.{KeepsMuxes, KeepsQueues}
use Rattle.bm_replay.specs.Inside.Queues.{IsHead}
use Rattle.bm_replay.specs.Inside.Shards.{IsCalled, IsShardOf, KeepsShards, no_state, place_of, state_at}
use Rattle.bm_shard.specs.States.{State}
use Rattle.bm_shard.specs.Inside.States.{IsLeft}
use Rattle.bm_shard.specs.Turns.{call_moment}
use Rattle.bm_shard.specs.declared.calls.ShardCall.{ShardCall}
use Rattle.bm_shard.proofs.Keeping.{turn_at}
use Rattle.bm_core.specs.Runs.{last_clock}
use Rattle.bm_replay.proofs.ShardStates.{after_call, place_inside}
use Rattle.bm_replay.proofs.NextEvents.{head_first}

-- COUNTS

pub count_stays : (test : What → Bool) (e : Event) (past : List Event) → test e.what ≡ false
    → counts (e ∷ past) test ≡ counts past test
count_stays test e past other = rw other (omega arith)

pub count_grows : (test : What → Bool) (e : Event) (past : List Event) → test e.what ≡ true
    → counts (e ∷ past) test ≡ suc (counts past test)
count_grows test e past is = rw is (omega arith)

-- QUEUES

dropped_more : {X : Type 0} (n : ℕ) (xs : List X) → dropped (suc n) xs ≡ dropped 1 (dropped n xs)
dropped_more zero xs = refl
dropped_more (suc n) [] = refl
dropped_more (suc n) (x ∷ xs) = dropped_more n xs

-- what is left of another kind is left
pub part_stays : (dues others : List Due) (h : Option Due) (past : List Event) (e : Event) (K : Call → Bool)
    → K (call_of e.what) ≡ false → IsHead (left dues past K) others h → IsHead (left dues (e ∷ past) K) others h
part_stays dues others h past e K other is =
    subst (λ (n : ℕ). IsHead (dropped n dues) others h) (sym (count_stays (λ what. K (call_of what)) e past other)) is

-- the first of its kind came
pub part_next : (dues others later : List Due) (h next : Option Due) (d : Due) (past : List Event) (e : Event)
    (K : Call → Bool) → K (call_of e.what) ≡ true → first_of (left dues past K) ≡ d ∷ []
    → IsHead (left dues past K) others h → IsHead others later next → IsHead (left dues (e ∷ past) K) later next
part_next dues others later h next d past e K is first old new =
    let rest : left dues (e ∷ past) K ≡ others =
    ap (λ (n : ℕ). dropped n dues) (count_grows (λ what. K (call_of what)) e past is)
    ∙ (dropped_more (counts past (λ what. K (call_of what))) dues
    ∙ (head_first (left dues past K) others h d old first).1)
    in subst (λ (l : List Due). IsHead l later next) (sym rest) new

pub queues_stay : (stage : Stage) (past : List Event) (e : Event) (a b c d : Queue) → closes (call_of e.what) ≡ false
    → retires (call_of e.what) ≡ false → syncs (call_of e.what) ≡ false → steers (call_of e.what) ≡ false
    → KeepsQueues stage past a b c d → KeepsQueues stage (e ∷ past) a b c d
queues_stay stage past e a b c d w x y z keeps = record {
  due_closes = part_stays _ _ _ past e closes w keeps.due_closes;
  due_retires = part_stays _ _ _ past e retires x keeps.due_retires;
  due_syncs = part_stays _ _ _ past e syncs y keeps.due_syncs;
  due_packets = part_stays _ _ _ past e steers z keeps.due_packets;
}

-- MUXES

same_switches : (stage : Stage) (past : List Event) (e : Event) → ((m : ℕ) → is_switch_of e.what m ≡ false) → (n : ℕ)
    → switches_due stage (e ∷ past) n ≡ switches_due stage past n
same_switches stage past e none zero = refl
same_switches stage past e none (suc m) =
    let same : counts (e ∷ past) (λ what. is_switch_of what m) ≡ counts past (λ what. is_switch_of what m) =
    count_stays (λ what. is_switch_of what m) e past (none m)
    in λ i. same_switches stage past e none m i
    ++ switch_due stage.script.setting.muxes (slice_index_or stage.script.setting.lags m 0) m (same i)
    (next_change stage.script.plan (same i))

pub muxes_stay : (stage : Stage) (past : List Event) (e : Event) (muxes : List Mux) (switch : Option Due)
    → ((m : ℕ) → is_switch_of e.what m ≡ false) → ((m : MuxId) → version_at (e ∷ past) m ≡ version_at past m)
    → KeepsMuxes stage past muxes switch → KeepsMuxes stage (e ∷ past) muxes switch
muxes_stay stage past e muxes switch none same keeps = record {
  count = keeps.count;
  tables = λ m below. subst (λ (n : ℕ). HasTable stage.script.plan n (slice_get muxes m))
      (sym (count_stays (λ what. is_switch_of what m) e past (none m))) (keeps.tables m below);
  versions =
      λ m. ap (λ (v : _). v.0) (same (record { 0 = m }))
      ∙ (keeps.versions m ∙ sym (count_stays (λ what. is_switch_of what m) e past (none m)));
  soonest =
      keeps.soonest ∙ ap (λ (l : List Due). least l) (sym (same_switches stage past e none stage.script.setting.muxes));
}

version_here : (muxes : List Mux) (m : ℕ) (x : Mux) → slice_get muxes m ≡ Some x → version_in muxes m ≡ x.version
version_here [] m x is = absurd (cc)
version_here (y ∷ muxes) zero x is = let same : y ≡ x = cc in ap (λ (z : Mux). z.version) same
version_here (y ∷ muxes) (suc m) x is = version_here muxes m x is

-- the switches of muxes at these versions
pub switches_are : (stage : Stage) (past : List Event) (muxes : List Mux)
    → ((m : ℕ) → m < stage.script.setting.muxes
    → HasTable stage.script.plan (counts past (λ what. is_switch_of what m)) (slice_get muxes m))
    → (n : ℕ) → n ≤ stage.script.setting.muxes
    → switches_of stage.script.plan stage.script.setting.lags stage.script.setting.muxes muxes n
    ≡ switches_due stage past n
switches_are stage past muxes tables zero below = refl
switches_are stage past muxes tables (suc m) below =
    let t = tables m (omega arith)
    in let same : version_in muxes m ≡ counts past (λ what. is_switch_of what m) =
    version_here muxes m t.mux t.is_mux ∙ t.version
    in λ i. switches_are stage past muxes tables m (omega arith) i
    ++ switch_due stage.script.setting.muxes (slice_index_or stage.script.setting.lags m 0) m (same i)
    (next_change stage.script.plan (same i))

-- SHARDS

shard_stays : (stage : Stage) (past : List Event) (e : Event) (s : ServerId) (h : ℕ) (state : State)
    → turn_of stage e.what s h ≡ None → last_clock past ≤ e.clock.0 → IsShardOf stage past s h state
    → IsShardOf stage (e ∷ past) s h state
shard_stays stage past e s h state none later is = record {
  shard = is.shard;
  turns = subst (λ (o : Option Turn). IsLeft (add_turn o (book_of stage past s h)) state) (sym none) is.turns;
  clock = let c = is.clock in omega arith;
}

pub shards_stay : (stage : Stage) (past : List Event) (e : Event) (states : List State)
    → ((s : ServerId) (h : ℕ) → turn_of stage e.what s h ≡ None) → last_clock past ≤ e.clock.0
    → KeepsShards stage past states → KeepsShards stage (e ∷ past) states
shards_stay stage past e states none later keeps = record {
  lie = keeps.lie;
  each = λ s h few in_it. shard_stays stage past e s h (state_at states (place_of stage s h)) (none s h) later
      (keeps.each s h few in_it);
}

place_unique : (a b shards x y : ℕ) → x < shards → y < shards → a * shards + x ≡ b * shards + y → (a ≡ b) × (x ≡ y)
place_unique a b shards x y lx ly same = elim (cases_lt a b) [
  | inl below ↦ let h : suc a * shards ≤ b * shards = mul-le-mul_right shards below in absurd (omega arith)
  | inr up ↦ elim (cases_lt b a) [
    | inl above ↦ let h : suc b * shards ≤ a * shards = mul-le-mul_right shards above in absurd (omega arith)
    | inr down ↦ let e : a ≡ b =
        omega arith in (e, (let f : a * shards ≡ b * shards = ap (λ (n : ℕ). n * shards) e in omega arith))
  ]
]

-- a shard was asked, with the turn that the event is
pub shards_more : (stage : Stage) (past : List Event) (e : Event) (old new : List State) (call : ShardCall) (t : Turn)
    (server : ServerId) (shard : ℕ) → server.0 ≤ 1024 → shard < stage.script.setting.shards
    → ((s : ServerId) (h : ℕ) → turn_of stage e.what s h ≡ cond (same_server server s && eqb shard h) (Some t) None)
    → turn_at (state_at old (place_of stage server shard)) call ≡ t
    → last_clock past < e.clock.0 → (call_moment call).0 < e.clock.0 → KeepsShards stage past old
    → IsCalled (place_of stage server shard) call old new
    → KeepsShards stage (e ∷ past) new
shards_more stage past e old new call t server shard number in_range turn by later early keeps called =
    subst (λ (states : List State). KeepsShards stage (e ∷ past) states) (sym called.is) (record {
      lie = rw (length-set old (place_of stage server shard) called.after) keeps.lie;
      each = λ s h few in_it. at s h few in_it (same_server server s && eqb shard h) refl;
    }) where
      at : (s : ServerId) (h : ℕ) → s.0 ≤ 1024 → h < stage.script.setting.shards → (b : Bool)
          → (same_server server s && eqb shard h) ≡ b
          → IsShardOf stage (e ∷ past) s h
          (state_at (slice_set old (place_of stage server shard) called.after) (place_of stage s h))
      at s h few in_it true is =
          let parts = and_parts (same_server server s) (eqb shard h) is
          in let a : server ≡ s = same_server-true server s parts.0
          in let b : shard ≡ h = eqb-true shard h parts.1
          in let inside : place_of stage server shard < length old =
          place_inside server.0 stage.script.setting.shards shard (length old) number in_range keeps.lie
          in let p : same_server server server ≡ true = eq-eqb _ _ refl
          in let q : eqb shard shard ≡ true = eq-eqb _ _ refl
          in let own : turn_of stage e.what server shard ≡ Some t = turn server shard ∙ rw (p, q) refl
          in let there : IsShardOf stage (e ∷ past) server shard
          (state_at (slice_set old (place_of stage server shard) called.after) (place_of stage server shard)) =
          subst (λ (x : State). IsShardOf stage (e ∷ past) server shard x)
          (sym (get_or-set_same old (place_of stage server shard) _ no_state inside))
          (after_call stage past e server shard (state_at old (place_of stage server shard)) called.after call t own by
          later early (keeps.each server shard number in_range) called.made)
          in subst (λ (n : ℕ). IsShardOf stage (e ∷ past) s n
          (state_at (slice_set old (place_of stage server shard) called.after) (place_of stage s n))) b
          (subst (λ (r : ServerId). IsShardOf stage (e ∷ past) r shard
          (state_at (slice_set old (place_of stage server shard) called.after) (place_of stage r shard))) a there)
      at s h few in_it false is =
          let other : place_of stage s h ≢ place_of stage server shard = λ same.
          (let both = place_unique s.0 server.0 stage.script.setting.shards h shard in_it in_range same
          in let a : same_server server s ≡ true = eq-eqb _ _ (sym both.0)
          in let b : eqb shard h ≡ true = eq-eqb _ _ (sym both.1)
          in let bad : same_server server s && eqb shard h ≡ true = rw (a, b) refl
          in both_ways _ is bad)
          in let none : turn_of stage e.what s h ≡ None = turn s h ∙ rw is refl
          in subst (λ (x : State). IsShardOf stage (e ∷ past) s h x)
          (sym (get_or-set_other old (place_of stage server shard) (place_of stage s h) _ no_state other))
          (shard_stays stage past e s h (state_at old (place_of stage s h)) none (omega arith)
          (keeps.each s h few in_it))

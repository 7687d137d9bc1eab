-- The shards: at the beginning, and after a call.
use Rattle.std.proofs.Common.{◌≡◌, ℕ, zero, suc, ◌+◌, ◌-◌, ◌*◌, ◌^◌, ◌<◌, ◌≤◌, List, [], ◌∷◌, ◌++◌, length, Option}
use Rattle.std.proofs.Common.{Some, is_some, max, refl, sym, ap, subst, ◌∙◌, inl, inr, get_or, mul-le-mul_left}
use Rattle.std.proofs.Common.{mul-le-mul_right, arith}
use Rattle.std.proofs.lemmas.Bool.{cases_lt}
use Rattle.std.proofs.lemmas.List.{length-append, get_or-append-add}
use Rattle.std.proofs.Math.ListN.{get_or-append}
use Rattle.std.proofs.Math.Seq.{get_or-append_seam}
use Rattle.bm_base.specs.declared.ids.ServerId.{ServerId}
use Rattle.bm_table.specs.declared.setting.Setting.{Setting}
use Rattle.bm_core.specs.declared.events.Event.{Event}
use Rattle.bm_core.specs.declared.events.Local.{Local}
use Rattle.bm_core.specs.declared.events.Stage.{Stage}
use Rattle.bm_core.specs.Books.{Turn, add_turn, book_of, turn_of}
use Rattle.bm_core.specs.Runs.{last_clock}
use Rattle.bm_shard.specs.Replies.{is_held_by, verdict_by, what_of}
use Rattle.bm_shard.specs.States.{IsAfter, State, clock_at, known_in}
use Rattle.bm_shard.specs.Inside.States.{IsLeft}
use Rattle.bm_shard.specs.Turns.{call_moment}
use Rattle.bm_shard.specs.declared.calls.ShardCall.{ShardCall}
use Rattle.bm_shard.proofs.Keeping.{knows_same, left_after, turn_at}
use Rattle.bm_base.specs.declared.flow.Flow.{Flow}
use Rattle.bm_base.specs.declared.flow.Segment.{Segment}
use Rattle.bm_base.specs.declared.ids.Moment.{Moment}
use Rattle.bm_base.specs.declared.label.Label.{Label}
use Rattle.bm_base.specs.Labels.{tag_of}
use Rattle.bm_fault.specs.declared.wire.Flight.{Flight}
use Rattle.bm_core.specs.Past.{held, shard}
use Rattle.bm_core.specs.Verdicts.{verdict_at}
use Rattle.bm_shard.specs.declared.book.Shard.{Shard}
use Rattle.bm_shard.proofs.Meaning.{held_same, verdict_same}
use Rattle.bm_core.specs.Accounts.{Routes, Rules}
use Rattle.bm_core.proofs.Existing.{clock_law}
use Rattle.bm_base.specs.declared.fate.Fate.{Fate}
use Rattle.bm_replay.specs.declared.player.Player.{Player}
use Rattle.bm_replay.specs.Inside.Players.{HasPlaces, what_for}
use Rattle.bm_replay.specs.Inside.Playing.{IsPlayed, KeepsState}
use Rattle.bm_replay.specs.Inside.Shards.{IsReady, IsShardOf, all_shards, arrival, first_shard, holds, no_state}
use Rattle.bm_replay.specs.Inside.Shards.{place_of}
use Rattle.bm_replay.specs.Inside.Shards.{server_shards, state_at, verdict_in, what_in}

-- AT THE BEGINNING

length_server : (setting : Setting) (s : ServerId) (n : ℕ) → length (server_shards setting s n) ≡ n
length_server setting s zero = refl
length_server setting s (suc n) =
    let e = length_server setting s n
    in let l : length (server_shards setting s (suc n)) ≡ length (server_shards setting s n) + 1 =
    length-append (server_shards setting s n) (first_shard setting s n ∷ [])
    in omega arith

shard_of_server : (setting : Setting) (s : ServerId) (n h : ℕ) → h < n
    → get_or (server_shards setting s n) h no_state ≡ first_shard setting s h
shard_of_server setting s zero h below = absurd (omega arith)
shard_of_server setting s (suc n) h below = elim (cases_lt h n) [
  | inl earlier ↦ get_or-append (server_shards setting s n) (first_shard setting s n ∷ []) no_state h (let e =
      length_server setting s n in omega arith) ∙ shard_of_server setting s n h earlier
  | inr last ↦
      let same : n ≡ h = omega arith
      in let seam : get_or (server_shards setting s n ++ first_shard setting s n ∷ []) n no_state
      ≡ first_shard setting s n =
      subst (λ (m : ℕ). get_or (server_shards setting s n ++ first_shard setting s n ∷ []) m no_state
      ≡ first_shard setting s n) (length_server setting s n)
      (get_or-append_seam (server_shards setting s n) (first_shard setting s n) [] no_state)
      in subst (λ (m : ℕ). get_or (server_shards setting s n ++ first_shard setting s n ∷ []) m no_state
      ≡ first_shard setting s m) same seam
]

pub length_all : (setting : Setting) (n : ℕ) → length (all_shards setting n) ≡ n * setting.shards
unfolding all_shards
length_all setting zero = omega arith
length_all setting (suc n) =
    let e = length_all setting n
    in let s = length_server setting (record { 0 = n }) setting.shards
    in let l : length (all_shards setting (suc n))
    ≡ length (all_shards setting n) + length (server_shards setting (record { 0 = n }) setting.shards) =
    length-append (all_shards setting n) (server_shards setting (record { 0 = n }) setting.shards)
    in omega arith

pub first_at : (setting : Setting) (n : ℕ) (s : ServerId) (h : ℕ) → s.0 < n → h < setting.shards
    → state_at (all_shards setting n) (s.0 * setting.shards + h) ≡ first_shard setting s h
unfolding all_shards
first_at setting zero s h few below = absurd (omega arith)
first_at setting (suc n) s h few below = elim (cases_lt s.0 n) [
  | inl earlier ↦
      let room : suc s.0 * setting.shards ≤ n * setting.shards = mul-le-mul_right setting.shards earlier
      in get_or-append (all_shards setting n) (server_shards setting (record { 0 = n }) setting.shards) no_state
      (s.0 * setting.shards + h) (let e = length_all setting n in omega arith)
      ∙ first_at setting n s h earlier below
  | inr last ↦
      let same : n ≡ s.0 = omega arith
      in subst (λ (m : ℕ). get_or (all_shards setting n ++ server_shards setting (record { 0 = n }) setting.shards)
      (m * setting.shards + h) no_state ≡ first_shard setting (record { 0 = m }) h) same here
] where
  here : get_or (all_shards setting n ++ server_shards setting (record { 0 = n }) setting.shards)
      (n * setting.shards + h) no_state ≡ first_shard setting (record { 0 = n }) h
  here =
      subst (λ (m : ℕ). get_or (all_shards setting n ++ server_shards setting (record { 0 = n }) setting.shards) (m + h)
      no_state ≡ get_or (server_shards setting (record { 0 = n }) setting.shards) h no_state) (length_all setting n)
      (get_or-append-add (all_shards setting n) (server_shards setting (record { 0 = n }) setting.shards) h no_state)
      ∙ shard_of_server setting (record { 0 = n }) setting.shards h below

-- AFTER A CALL

-- a call whose turn is the event's
pub after_call : (stage : Stage) (past : List Event) (e : Event) (s : ServerId) (h : ℕ) (old new : State)
    (call : ShardCall) (t : Turn) → turn_of stage e.what s h ≡ Some t → turn_at old call ≡ t
    → last_clock past < e.clock.0 → (call_moment call).0 < e.clock.0 → IsShardOf stage past s h old
    → IsAfter call old new
    → IsShardOf stage (e ∷ past) s h new
after_call stage past e s h old new call t turn by later early is made = record {
  shard = made.shard ∙ is.shard;
  turns = subst (λ (o : Option Turn). IsLeft (add_turn o (book_of stage past s h)) new) (sym turn)
      (subst (λ (x : Turn). IsLeft (x ∷ book_of stage past s h) new) by
      (left_after (book_of stage past s h) call old new is.turns made));
  clock = subst (λ (m : Moment). m.0 ≤ e.clock.0) (sym made.clock) (let c = is.clock in omega arith);
}

-- WHAT THEY SAY

-- its turns, by its own numbers
turns_of : (stage : Stage) (past : List Event) (s : ServerId) (h : ℕ) (state : State)
    → IsShardOf stage past s h state
    → book_of stage past s h ≡ book_of stage past state.shard.server state.shard.number
turns_of stage past s h state is = sym (ap (λ (x : Shard). book_of stage past x.server x.number) is.shard)

-- a shard holds the flows that the history says
pub holds_same : (stage : Stage) (past : List Event) (s : ServerId) (h : ℕ) (state : State) (f : Flow)
    → IsShardOf stage past s h state → shard stage f ≡ h → holds state f ≡ is_some (held stage past s f)
holds_same stage past s h state f is here =
    ap (λ (knows : Flow → Local). is_held_by knows f) (knows_same (book_of stage past s h) state is.turns)
    ∙ (held_same stage past state.shard (book_of stage past s h) (ap (λ (x : Shard). x.capacity) is.shard)
    (turns_of stage past s h state is) f (here ∙ sym (ap (λ (x : Shard). x.number) is.shard))
    ∙ ap (λ (x : Shard). is_some (held stage past x.server f)) is.shard)

-- its clock after an arrival is that of the event
clock_same : (state : State) (flight : Flight) (s : Segment) (at : Moment) → state.clock.0 < at.0
    → clock_at state (arrival flight s at) ≡ at
clock_same state flight s at later = (λ i. record { 0 = e i }) where
  e : suc (max state.clock.0 (at.0 - 1)) ≡ at.0
  e = omega arith

-- its verdict on a copy is that of the history
pub verdict_as : (stage : Stage) (past : List Event) (h : ℕ) (state : State) (at : Moment) (label : Label)
    (flight : Flight) (s : Segment) → IsShardOf stage past flight.tag.dest h state → shard stage s.flow ≡ h
    → tag_of label flight.tag.hop ≡ Some flight.tag → last_clock past < at.0
    → verdict_in state flight s at ≡ verdict_at stage past at.0 label flight.tag.hop flight.tag.dest s
verdict_as stage past h state at label flight s is here tagged later =
    ap (λ (m : Moment). verdict_by state.shard (known_in state) m flight.tag s)
    (clock_same state flight s at (let c = is.clock in omega arith))
    ∙ (ap (λ (knows : Flow → Local). verdict_by state.shard knows at flight.tag s)
    (knows_same (book_of stage past flight.tag.dest h) state is.turns)
    ∙ (verdict_same stage past state.shard (book_of stage past flight.tag.dest h)
    (ap (λ (x : Shard). x.capacity) is.shard) (ap (λ (x : Shard). x.timeout) is.shard)
    (turns_of stage past flight.tag.dest h state is)
    label flight.tag.hop flight.tag s at tagged (here ∙ sym (ap (λ (x : Shard). x.number) is.shard))
    ∙ ap (λ (x : Shard). verdict_at stage past at.0 label flight.tag.hop x.server s) is.shard))

-- WHAT THEY NEED

pub shard_below : (stage : Stage) (f : Flow) → 1 ≤ stage.script.setting.shards
    → shard stage f < stage.script.setting.shards
shard_below stage f some = omega arith

-- the shard of a flow takes a call
pub ready_at : (p : Player) (s : ServerId) (h place : ℕ) → HasPlaces p → s.0 ≤ 1024
    → h < p.stage.script.setting.shards → place ≡ place_of p.stage s h → IsReady place p.shards
ready_at p s h place places number below is =
    subst (λ (n : ℕ). IsReady n p.shards) (sym is) (places.ready s h number below)

-- the place is within 1025 times the number of shards
pub place_inside : (s shards h n : ℕ) → s ≤ 1024 → h < shards → 1025 * shards ≤ n → s * shards + h < n
place_inside s shards h n few in_it lie = omega (arith, mul-le-mul_left shards few)

-- each server's shards are there, and their clocks are low
pub places_of : (R : Routes) (F : Rules) (p : Player) (fates : List Fate) (past : List Event)
    → IsPlayed R F p.stage fates past → KeepsState fates past p → HasPlaces p
places_of R F p fates past played state = record {
  shards = played.sound.script.setting.shards;
  about = λ s h few below.
      (let shard =
      (state.shards.each s h few below).shard in
      record { server = ap (λ (x : Shard). x.server) shard; number = ap (λ (x : Shard). x.number) shard });
  ready = λ s h few below. record {
    inside = place_inside s.0 p.stage.script.setting.shards h (length p.shards) few below state.shards.lie;
    clock = (let low : last_clock past ≤ 6 * 10 ^ 18 =
        clock_law fates p.stage past played.sound played.follows played.soon
        in let own = (state.shards.each s h few below).clock
        in omega arith);
  };
}

-- what happens at a call, at the shard whose state it is
pub what_is : (p : Player) (s : ServerId) (h : ℕ) (call : ShardCall) → HasPlaces p → s.0 ≤ 1024
    → h < p.stage.script.setting.shards
    → what_in (state_at p.shards (place_of p.stage s h)) call ≡ what_for p s h call
what_is p s h call places number below =
    let about = places.about s h number below
    in let state = state_at p.shards (place_of p.stage s h)
    in (λ i. what_of (record state.shard { server = about.server i; number = about.number i }) (known_in state)
    (clock_at state call) call)

-- What a shard's book says is what the history says.
use Rattle.std.proofs.Common.{◌≡◌, ℕ, Bool, true, false, cond, length, sym, ◌∙◌, ◌==◌, ◌&&◌, ◌||◌, List, [], ◌∷◌}
use Rattle.std.proofs.Common.{Option, Some, None, refl, ap, arith, eqb}
use Rattle.std.proofs.lemmas.Bool.{and_parts, eq-eqb}
use Rattle.bm_base.specs.declared.ids.ServerId.{ServerId}
use Rattle.bm_base.specs.declared.flow.Flow.{Flow}
use Rattle.bm_base.specs.declared.flow.Segment.{Segment}
use Rattle.bm_seq.specs.declared.receiver.Receiver.{Receiver}
use Rattle.bm_table.specs.declared.plan.Retirement.{Retirement}
use Rattle.bm_core.specs.declared.events.Verdict.{Verdict}
use Rattle.bm_core.specs.declared.events.What.{What}
use Rattle.bm_core.specs.declared.events.What.TheVariants.{Publish, Switch, Steer, Lose, Arrive, Close, Retire, Sync}
use Rattle.bm_core.specs.declared.events.Event.{Event}
use Rattle.bm_core.specs.declared.events.Stage.{Stage}
use Rattle.bm_table.specs.Tables.{same_server}
use Rattle.bm_base.specs.Segments.{same_flow}
use Rattle.bm_core.specs.Past.{without, segment_of, shard, Holding, after_verdict, after_arrival, is_done, retires}
use Rattle.bm_core.specs.Past.{retired, held_after, held, flows_arrived, flows_after, flows_held}
use Rattle.bm_core.specs.Verdicts.{receiver_of, local_at}
use Rattle.bm_core.specs.Books.{Turn, Took, Closed, RetiredAs, held_by_verdict, turn_held, book_held, book_retired}
use Rattle.bm_core.specs.Books.{turn_flows, book_flows, took, turn_of, add_turn, book_of, book_local}
use Rattle.bm_core.proofs.Pasts.{same_flow-true}

verdict_same : (place : ℕ) (verdict : Verdict) (s : Segment) (before : Option Holding)
    → receiver_of (after_verdict place verdict s before) ≡ held_by_verdict verdict s (receiver_of before)
verdict_same place verdict s before = grind arith

-- both take the turn, or what one leaves alone the other does too
pick : (here same near : Bool) (now before : Option Holding) (t : Turn) (book : List Turn) (f : Flow)
    → (same ≡ true → near ≡ true) → receiver_of before ≡ book_held book f
    → (same ≡ true → receiver_of now ≡ turn_held t f (book_held book f))
    → (same ≡ false → turn_held t f (book_held book f) ≡ book_held book f)
    → receiver_of (cond (here && same) now before) ≡ book_held (add_turn (cond (here && near) (Some t) None) book) f
pick false same near now before t book f n e y u = e
pick true true true now before t book f n e y u = y refl
pick true true false now before t book f n e y u = absurd (let bad : false ≡ true = n refl in cc)
pick true false true now before t book f n e y u = e ∙ sym (u refl)
pick true false false now before t book f n e y u = e

near_flow : (stage : Stage) (a b : Flow) → same_flow a b ≡ true → eqb (shard stage a) (shard stage b) ≡ true
near_flow stage a b e = eq-eqb _ _ (ap (λ (x : Flow). shard stage x) (same_flow-true a b e))

arrival_same : (stage : Stage) (place : ℕ) (here : Bool) (verdict : Verdict) (o : Option Segment) (f : Flow)
    (before : Option Holding) (book : List Turn) → receiver_of before ≡ book_held book f
    → receiver_of (after_arrival place here verdict o f before)
    ≡ book_held (add_turn (took stage here (shard stage f) verdict o) book) f
arrival_same stage place here verdict None f before book e = e
arrival_same stage place here verdict (Some s) f before book e =
    pick here (same_flow s.flow f) (eqb (shard stage s.flow) (shard stage f)) (after_verdict place verdict s before)
    before (Took s verdict) book f
    (near_flow stage s.flow f) e
    (λ same. rw same
    (verdict_same place verdict s before ∙ ap (λ (x : Option Receiver). held_by_verdict verdict s x) e))
    (λ other. rw other refl)

and_assoc : (a b c : Bool) → ((a && b) && c) ≡ (a && (b && c))
and_assoc true b c = refl
and_assoc false b c = refl

retire_same : (here done : Bool) (before : Option Holding) (book : List Turn) (f : Flow) (result : Retirement)
    → is_done result ≡ done → receiver_of before ≡ book_held book f
    → receiver_of (cond (here && done) None before)
    ≡ book_held (add_turn (cond here (Some (RetiredAs result)) None) book) f
retire_same false done before book f result d e = e
retire_same true true before book f result d e = rw d refl
retire_same true false before book f result d e = rw d e

held_step : (stage : Stage) (place : ℕ) (what : What) (s : ServerId) (f : Flow) (before : Option Holding)
    (book : List Turn) → receiver_of before ≡ book_held book f
    → receiver_of (held_after stage place what s f before)
    ≡ book_held (add_turn (turn_of stage what s (shard stage f)) book) f
held_step stage place (Arrive k hop server verdict) s f before book e =
    arrival_same stage place (same_server server s) verdict (segment_of stage k) f before book e
held_step stage place (Close server flow closed) s f before book e =
    rw (and_assoc (same_server server s) (same_flow flow f) closed)
    (pick (same_server server s) (same_flow flow f && closed) (eqb (shard stage flow) (shard stage f)) None before
    (Closed flow closed) book f
    (λ t. near_flow stage flow f (and_parts _ _ t).0) e (λ t. rw t refl) (λ t. rw t refl))
held_step stage place (Retire server x at result) s f before book e =
    retire_same (same_server server s && eqb x (shard stage f)) (is_done result) before book f result refl e
held_step stage place (Publish v) s f before book e = e
held_step stage place (Switch m v) s f before book e = e
held_step stage place (Steer k m) s f before book e = e
held_step stage place (Lose k hop) s f before book e = e
held_step stage place Sync s f before book e = e

-- what a history says of a flow at a server is what the book of its shard says
pub held_in_book : (stage : Stage) (past : List Event) (s : ServerId) (f : Flow)
    → receiver_of (held stage past s f) ≡ book_held (book_of stage past s (shard stage f)) f
held_in_book stage [] s f = refl
held_in_book stage (e ∷ past) s f =
    held_step stage (length past) e.what s f (held stage past s f) (book_of stage past s (shard stage f))
    (held_in_book stage past s f)

retired_step : (stage : Stage) (what : What) (s : ServerId) (h : ℕ) (before : Bool) (book : List Turn)
    → before ≡ book_retired book → (retires what s h || before) ≡ book_retired (add_turn (turn_of stage what s h) book)
retired_step stage (Arrive k hop server verdict) s h before book e = took_not (segment_of stage k) where
  took_not : (o : Option Segment)
      → before ≡ book_retired (add_turn (took stage (same_server server s) h verdict o) book)
  took_not None = e
  took_not (Some t) = unchanged (same_server server s && eqb (shard stage t.flow) h) where
    unchanged : (b : Bool) → before ≡ book_retired (add_turn (cond b (Some (Took t verdict)) None) book)
    unchanged true = e
    unchanged false = e
retired_step stage (Close server flow closed) s h before book e =
    unchanged (same_server server s && eqb (shard stage flow) h) where
      unchanged : (b : Bool) → before ≡ book_retired (add_turn (cond b (Some (Closed flow closed)) None) book)
      unchanged true = e
      unchanged false = e
retired_step stage (Retire server x at result) s h before book e = changed (same_server server s && eqb x h) where
  changed : (b : Bool)
      → ((b && is_done result) || before) ≡ book_retired (add_turn (cond b (Some (RetiredAs result)) None) book)
  changed true = ap (λ (x : Bool). is_done result || x) e
  changed false = e
retired_step stage (Publish v) s h before book e = e
retired_step stage (Switch m v) s h before book e = e
retired_step stage (Steer k m) s h before book e = e
retired_step stage (Lose k hop) s h before book e = e
retired_step stage Sync s h before book e = e

pub retired_in_book : (stage : Stage) (past : List Event) (s : ServerId) (h : ℕ)
    → retired past s h ≡ book_retired (book_of stage past s h)
retired_in_book stage [] s h = refl
retired_in_book stage (e ∷ past) s h =
    retired_step stage e.what s h (retired past s h) (book_of stage past s h) (retired_in_book stage past s h)

flows_step : (stage : Stage) (what : What) (s : ServerId) (h : ℕ) (flows : List Flow) (book : List Turn)
    → flows ≡ book_flows book → flows_after stage what s h flows ≡ book_flows (add_turn (turn_of stage what s h) book)
flows_step stage (Arrive k hop server verdict) s h flows book e = arrived (segment_of stage k) where
  arrived : (o : Option Segment)
      → flows_arrived stage h (same_server server s) verdict o flows
      ≡ book_flows (add_turn (took stage (same_server server s) h verdict o) book)
  arrived None = e
  arrived (Some t) = changed (same_server server s && eqb (shard stage t.flow) h) where
    changed : (b : Bool)
        → cond b (turn_flows (Took t verdict) flows) flows
        ≡ book_flows (add_turn (cond b (Some (Took t verdict)) None) book)
    changed true = ap (λ (x : List Flow). turn_flows (Took t verdict) x) e
    changed false = e
flows_step stage (Close server flow closed) s h flows book e =
    changed (same_server server s && eqb (shard stage flow) h) where
      changed : (b : Bool)
          → cond (b && closed) (without flow flows) flows
          ≡ book_flows (add_turn (cond b (Some (Closed flow closed)) None) book)
      changed true = ap (λ (x : List Flow). turn_flows (Closed flow closed) x) e
      changed false = e
flows_step stage (Retire server x at result) s h flows book e = changed (same_server server s && eqb x h) where
  changed : (b : Bool)
      → cond (b && is_done result) [] flows ≡ book_flows (add_turn (cond b (Some (RetiredAs result)) None) book)
  changed true = ap (λ (x : List Flow). turn_flows (RetiredAs result) x) e
  changed false = e
flows_step stage (Publish v) s h flows book e = e
flows_step stage (Switch m v) s h flows book e = e
flows_step stage (Steer k m) s h flows book e = e
flows_step stage (Lose k hop) s h flows book e = e
flows_step stage Sync s h flows book e = e

pub flows_in_book : (stage : Stage) (past : List Event) (s : ServerId) (h : ℕ)
    → flows_held stage past s h ≡ book_flows (book_of stage past s h)
flows_in_book stage [] s h = refl
flows_in_book stage (e ∷ past) s h =
    flows_step stage e.what s h (flows_held stage past s h) (book_of stage past s h) (flows_in_book stage past s h)

-- so a shard that knows its book alone decides as the history says
pub local_in_book : (stage : Stage) (past : List Event) (s : ServerId) (f : Flow)
    → local_at stage past s f ≡ book_local stage.script.setting.capacity (book_of stage past s (shard stage f)) f
local_in_book stage past s f =
    λ i. record {
      retired = retired_in_book stage past s (shard stage f) i;
      held = held_in_book stage past s f i;
      full = length (flows_in_book stage past s (shard stage f) i) == stage.script.setting.capacity;
    }

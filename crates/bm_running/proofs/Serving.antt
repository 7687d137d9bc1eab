-- The states of the shards are what their turns left, and say what the history says.
use Rattle.std.proofs.Common.{◌≡◌, ℕ, Bool, true, false, ◌==◌, List, ◌∷◌, Some, None, is_some, refl, ap, sym}
use Rattle.std.proofs.Common.{◌∙◌, inl, inr, subst}
use Rattle.std.specs.Prelude.{if◌then◌else◌}
use Rattle.std.proofs.lemmas.Bool.{and_parts, cases_Bool, eqb-true}
use Rattle.bm_base.specs.declared.flow.Flow.{Flow}
use Rattle.bm_base.specs.declared.flow.Segment.{Segment}
use Rattle.bm_base.specs.declared.ids.Moment.{Moment}
use Rattle.bm_base.specs.declared.ids.ServerId.{ServerId}
use Rattle.bm_base.specs.declared.label.Hop.{Hop}
use Rattle.bm_base.specs.declared.label.Label.{Label}
use Rattle.bm_base.specs.declared.label.Tag.{Tag}
use Rattle.bm_base.specs.Labels.{tag_of}
use Rattle.bm_core.specs.declared.events.Event.{Event}
use Rattle.bm_core.specs.declared.events.Local.{Local}
use Rattle.bm_core.specs.declared.events.Stage.{Stage}
use Rattle.bm_core.specs.declared.events.Verdict.{Verdict}
use Rattle.bm_core.specs.declared.events.Verdict.TheVariants.{Accept}
use Rattle.bm_core.specs.declared.events.What.{What}
use Rattle.bm_core.specs.declared.events.What.TheVariants.{Arrive, Close, Retire, Publish, Switch, Steer, Lose, Sync}
use Rattle.bm_core.specs.Books.{book_of, turn_of}
use Rattle.bm_core.specs.Past.{held, shard}
use Rattle.bm_core.specs.Verdicts.{verdict_at}
use Rattle.bm_shard.proofs.Keeping.{knows_same, left_served}
use Rattle.bm_shard.proofs.Meaning.{held_same, verdict_same}
use Rattle.bm_shard.specs.Replies.{is_held_by, verdict_by}
use Rattle.bm_shard.specs.Replies as replies
use Rattle.bm_shard.specs.States.{State, known_in}
use Rattle.bm_shard.specs.declared.book.Shard.{Shard}
use Rattle.bm_shard.specs.declared.calls.ShardCall.{ShardCall}
use Rattle.bm_state.specs.declared.shard_key.ShardKey.{ShardKey}
use Rattle.bm_state.specs.Inside.Retirements.{same_key}
use Rattle.bm_running.specs.declared.shards.Shards.{Shards}
use Rattle.bm_running.specs.Inside.Shards.{IsServedAt, IsShardOf, KeepsShards, server_of, state_in}

same_key-true : (a b : ShardKey) → same_key a b ≡ true → a ≡ b
same_key-true a b e =
    let p = and_parts (a.server == b.server) (a.shard == b.shard) e
    in let server : a.server ≡ b.server = eqb-true a.server b.server p.0
    in let number : a.shard ≡ b.shard = eqb-true a.shard b.shard p.1
    in λ i. record { server = server i; shard = number i }

-- WHAT A SHARD SAYS

-- its turns, by its own numbers
turns_of : (stage : Stage) (past : List Event) (s : ServerId) (h : ℕ) (state : State)
    → IsShardOf stage past s h state
    → book_of stage past s h ≡ book_of stage past state.shard.server state.shard.number
turns_of stage past s h state is = sym (ap (λ (x : Shard). book_of stage past x.server x.number) is.shard)

-- its verdict on a copy is that of the history
pub verdict_says : (stage : Stage) (past : List Event) (server : ServerId) (h : ℕ) (state : State) (clock : Moment)
    (label : Label) (hop : Hop) (tag : Tag) (s : Segment) → IsShardOf stage past server h state
    → shard stage s.flow ≡ h → tag_of label hop ≡ Some tag
    → verdict_by state.shard (known_in state) clock tag s ≡ verdict_at stage past clock.0 label hop server s
verdict_says stage past server h state clock label hop tag s is here tagged =
    ap (λ (knows : Flow → Local). verdict_by state.shard knows clock tag s)
    (knows_same (book_of stage past server h) state is.turns)
    ∙ (verdict_same stage past state.shard (book_of stage past server h) (ap (λ (x : Shard). x.capacity) is.shard)
    (ap (λ (x : Shard). x.timeout) is.shard) (turns_of stage past server h state is) label hop tag s clock tagged
    (here ∙ sym (ap (λ (x : Shard). x.number) is.shard))
    ∙ ap (λ (x : Shard). verdict_at stage past clock.0 label hop x.server s) is.shard)

-- it holds the flows that the history says
pub held_says : (stage : Stage) (past : List Event) (s : ServerId) (h : ℕ) (state : State) (f : Flow)
    → IsShardOf stage past s h state → shard stage f ≡ h
    → is_held_by (known_in state) f ≡ is_some (held stage past s f)
held_says stage past s h state f is here =
    ap (λ (knows : Flow → Local). is_held_by knows f) (knows_same (book_of stage past s h) state is.turns)
    ∙ (held_same stage past state.shard (book_of stage past s h) (ap (λ (x : Shard). x.capacity) is.shard)
    (turns_of stage past s h state is) f (here ∙ sym (ap (λ (x : Shard). x.number) is.shard))
    ∙ ap (λ (x : Shard). is_some (held stage past x.server f)) is.shard)

-- the verdict of an arrival
abbrev pub verdict_in : What → Verdict
verdict_in (Arrive k hop server verdict) = verdict
verdict_in _ = Accept

-- a close's answer
abbrev pub closed_in : What → Bool
closed_in (Close server flow closed) = closed
closed_in _ = false

-- AFTER A CALL

-- the turn of the event is the call's, and no other shard has one
pub served_more : (stage : Stage) (past : List Event) (e : Event) (key : ShardKey) (clock : Moment) (call : ShardCall)
    (old new : Shards)
    → ((q : ShardKey) → turn_of stage e.what (server_of q) q.shard
    ≡ (if same_key key q then Some (replies.turn_of (state_in stage.script.setting old key).shard
    (known_in (state_in stage.script.setting old key)) clock call) else None))
    → IsServedAt stage.script.setting key clock call old new
    → KeepsShards stage past old → KeepsShards stage (e ∷ past) new
served_more stage past e key clock call old new turn made keeps q = elim (cases_Bool (same_key key q)) [
  | inl same ↦
      let there : key ≡ q = same_key-true key q same
      in let was : IsShardOf stage past (server_of q) q.shard (state_in stage.script.setting old key) =
      subst (λ (x : ShardKey). IsShardOf stage past (server_of x) x.shard (state_in stage.script.setting old key))
      there (keeps key)
      in let now : turn_of stage e.what (server_of q) q.shard
      ≡ Some (replies.turn_of (state_in stage.script.setting old key).shard
      (known_in (state_in stage.script.setting old key)) clock call) = turn q ∙ rw same refl
      in let is : state_in stage.script.setting new q ≡ made.after = made.is q ∙ rw same refl
      in rw is (record {
        shard = made.served.shard ∙ was.shard;
        turns =
            rw now
            (left_served (book_of stage past (server_of q) q.shard) clock call (state_in stage.script.setting old key)
            made.after was.turns made.served);
      })
  | inr other ↦
      let now : turn_of stage e.what (server_of q) q.shard ≡ None = turn q ∙ rw other refl
      in let is : state_in stage.script.setting new q ≡ state_in stage.script.setting old q = made.is q ∙ rw other refl
      in rw is (record { shard = (keeps q).shard; turns = rw now (keeps q).turns })
]

-- an event without a turn
pub served_none : (stage : Stage) (past : List Event) (e : Event) (shards : Shards)
    → ((q : ShardKey) → turn_of stage e.what (server_of q) q.shard ≡ None)
    → KeepsShards stage past shards → KeepsShards stage (e ∷ past) shards
served_none stage past e shards none keeps q =
    record { shard = (keeps q).shard; turns = rw (none q) (keeps q).turns }

-- what happens at no shard
abbrev pub has_no_turn : What → Bool
has_no_turn (Arrive k hop server verdict) = false
has_no_turn (Close server flow closed) = false
has_no_turn (Retire server h at result) = false
has_no_turn _ = true

no_turn : (stage : Stage) (what : What) (s : ServerId) (h : ℕ) → has_no_turn what ≡ true
    → turn_of stage what s h ≡ None
no_turn stage (Arrive k hop server verdict) s h e = absurd (cc)
no_turn stage (Close server flow closed) s h e = absurd (cc)
no_turn stage (Retire server x at result) s h e = absurd (cc)
no_turn stage (Publish v) s h e = refl
no_turn stage (Switch m v) s h e = refl
no_turn stage (Steer k m) s h e = refl
no_turn stage (Lose k hop) s h e = refl
no_turn stage Sync s h e = refl

pub still_keeps : (stage : Stage) (past : List Event) (e : Event) (what : What) (shards : Shards)
    → e.what ≡ what → has_no_turn what ≡ true → KeepsShards stage past shards → KeepsShards stage (e ∷ past) shards
still_keeps stage past e what shards is still keeps =
    served_none stage past e shards
    (λ q. ap (λ (x : What). turn_of stage x (server_of q) q.shard) is ∙ no_turn stage what (server_of q) q.shard still)
    keeps

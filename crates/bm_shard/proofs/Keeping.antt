-- A call leaves what its turn leaves.
use Rattle.std.proofs.Common.{◌≡◌, ℕ, ◌==◌, ◌||◌, Bool, List, ◌∷◌, length, Option, Some, refl, sym, ap, subst, ◌∙◌}
use Rattle.bm_base.specs.declared.flow.Flow.{Flow}
use Rattle.bm_base.specs.declared.ids.Moment.{Moment}
use Rattle.bm_seq.specs.declared.receiver.Receiver.{Receiver}
use Rattle.bm_core.specs.declared.events.Event.{Event}
use Rattle.bm_core.specs.declared.events.Local.{Local}
use Rattle.bm_core.specs.Books.{Turn, add_turn, turn_held, turn_retires, book_flows, book_local}
use Rattle.bm_core.specs.Runs.{next_clock}
use Rattle.bm_shard.specs.declared.book.Shard.{Shard}
use Rattle.bm_shard.specs.declared.calls.ShardCall.{ShardCall}
use Rattle.bm_shard.specs.declared.calls.ShardCall.TheVariants.{Arrive, Close, Retire}
use Rattle.bm_shard.specs.declared.calls.ShardEntry.{ShardEntry}
use Rattle.bm_shard.specs.declared.holding.Holding.{Holding}
use Rattle.bm_shard.specs.Books.{clock_of, clock_after, event_after, reply_after}
use Rattle.bm_shard.specs.Holdings.{TakesTurn}
use Rattle.bm_shard.specs.Inside.Holdings.{IsLeftBy}
use Rattle.bm_shard.specs.Replies.{what_of, reply_of, turn_of}
use Rattle.bm_shard.specs.States.{IsAfter, IsServed, State, clock_at, event_at, holding_in, known_in, reply_at}
use Rattle.bm_shard.specs.Inside.States.{IsLeft}
use Rattle.bm_shard.specs.Turns.{call_moment, turn_kept, turns}
use Rattle.bm_shard.proofs.Counting.{held_count}

-- the turn of a call
abbrev pub turn_at : State → ShardCall → Turn
turn_at state call = turn_of state.shard (known_in state) (clock_at state call) call

-- a shard that turns left knows of each flow what they say
pub knows_same : (turns : List Turn) (state : State) → IsLeft turns state
    → known_in state ≡ book_local state.shard.capacity turns
knows_same turns state is =
    let count : length state.connections ≡ length (book_flows turns) =
    held_count turns state.connections is.once is.left.held
    in λ i f. record { retired = is.left.retired i; held = is.left.held f i; full = count i == state.shard.capacity }

pub left_by_turn : (turn : Turn) (book : List Turn) (old new : Holding) → IsLeftBy book old → TakesTurn turn old new
    → IsLeftBy (turn ∷ book) new
left_by_turn turn book old new left takes = record {
  held = λ f. takes.held f ∙ ap (λ (o : Option Receiver). turn_held turn f o) (left.held f);
  retired = takes.retired ∙ ap (λ (b : Bool). turn_retires turn || b) left.retired;
}

-- after a call these turns and the call's left the state
pub left_served : (turns : List Turn) (at : Moment) (call : ShardCall) (old new : State) → IsLeft turns old
    → IsServed at call old new → IsLeft (turn_of old.shard (known_in old) at call ∷ turns) new
left_served turns at call old new is after = record {
  left =
      left_by_turn (turn_of old.shard (known_in old) at call) turns (holding_in old) (holding_in new) is.left
      after.takes;
  once = after.once;
}

pub left_after : (turns : List Turn) (call : ShardCall) (old new : State) → IsLeft turns old → IsAfter call old new
    → IsLeft (turn_at old call ∷ turns) new
left_after turns call old new is after = left_served turns (clock_at old call) call old new is after

-- what happened says the turn
pub turn_is_kept : (shard : Shard) (knows : Flow → Local) (clock : Moment) (call : ShardCall)
    → turn_kept call (what_of shard knows clock call) ≡ Some (turn_of shard knows clock call)
turn_is_kept shard knows clock (Arrive packet tag segment due) = refl
turn_is_kept shard knows clock (Close flow at) = refl
turn_is_kept shard knows clock (Retire at result) = refl

-- the call's entry leaves what the call left
pub left_by_entry : (past : List ShardEntry) (seat : ℕ) (call : ShardCall) (event : Event) (old new : State)
    → IsLeft (turns past) old → event ≡ event_at old call → IsAfter call old new
    → IsLeft (turns (record { seat = seat; call = call; event = event } ∷ past)) new
left_by_entry past seat call event old new is made after =
    let kept : turn_kept call event.what ≡ Some (turn_at old call) =
    ap (λ (e : Event). turn_kept call e.what) made ∙ turn_is_kept old.shard (known_in old) (clock_at old call) call
    in subst (λ (o : Option Turn). IsLeft (add_turn o (turns past)) new) (sym kept)
    (left_after (turns past) call old new is after)

-- THE BOOK'S WORDS

pub clock_is : (past : List ShardEntry) (call : ShardCall) (state : State) → state.clock ≡ clock_of past
    → clock_at state call ≡ clock_after past call
clock_is past call state is = ap (λ (m : Moment). record { 0 = next_clock m.0 (call_moment call).0 }) is

pub event_is : (past : List ShardEntry) (call : ShardCall) (state : State) → IsLeft (turns past) state
    → state.clock ≡ clock_of past → event_at state call ≡ event_after state.shard past call
event_is past call state left clock =
    λ i. record {
      clock = clock_is past call state clock i;
      what = what_of state.shard (knows_same (turns past) state left i) (clock_is past call state clock i) call;
    }

pub reply_is : (past : List ShardEntry) (call : ShardCall) (state : State) → IsLeft (turns past) state
    → state.clock ≡ clock_of past → reply_at state call ≡ reply_after state.shard past call
reply_is past call state left clock =
    λ i. reply_of state.shard (knows_same (turns past) state left i) (clock_is past call state clock i) call

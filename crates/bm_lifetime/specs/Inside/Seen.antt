-- What the changes of a plan, from the last one back, say of each bucket.
use Rattle.std.specs.Prelude.{◌≡◌, ℕ, zero, suc, ◌+◌, ◌-◌, ◌<◌, if◌then◌else◌, ◌==◌, nat_lt}
use Rattle.std.specs.Prelude.{List, [], ◌∷◌, length, Option, Some, None, is_some, slice_get}
use Rattle.std.specs.Option.{option_and_then, option_map, option_map_or}
use Rattle.bm_table.specs.declared.plan.Change.{Change}
use Rattle.bm_table.specs.declared.plan.Move.{Move}
use Rattle.bm_lifetime.specs.declared.explained.Lifetime.{Lifetime}
use Rattle.bm_lifetime.specs.declared.explained.NearMoves.{NearMoves}
use Rattle.bm_lifetime.specs.declared.seen.Moved.{Moved}
use Rattle.bm_lifetime.specs.declared.seen.Seen.{Seen}
use Rattle.bm_lifetime.specs.declared.seen.Shortest.{Shortest}
use Rattle.bm_lifetime.specs.declared.seen.Span.{Span}
use Rattle.bm_lifetime.specs.Lifetime.{lesser, moves_from, spans}

-- no span yet
abbrev pub no_span : Shortest
no_span = record { span = None; next = None }

-- nothing yet
abbrev pub unseen : Seen
unseen = record { first = None; second = None; shortest = no_span }

-- with a span before the others, of which this is the shortest
abbrev pub with_first : Span → Shortest → Option Span → Shortest
with_first s old None = record { span = Some s; next = None }
with_first s old (Some l) =
    if nat_lt l.time s.time then record { span = Some l; next = lesser (Some s.time) old.next }
    else (if nat_lt s.time l.time then record { span = Some s; next = Some l.time }
    else record { span = Some s; next = old.next })

abbrev pub with_span : Span → Shortest → Shortest
with_span s old = with_first s old old.span

-- the shortest of these spans
abbrev pub shortest_of : List Span → Shortest
shortest_of [] = no_span
shortest_of (s ∷ spans) = with_span s (shortest_of spans)

-- what these moves say
abbrev pub seen_of : List Moved → Seen
seen_of moves = record {
  first = slice_get moves 0;
  second = slice_get moves 1;
  shortest = shortest_of (spans moves);
}

-- from one move to another
abbrev pub between : Moved → Moved → Span
between x z = record { first = x.change; third = z.change; time = z.moment - x.moment }

-- with a move before the others
abbrev pub with_move : Moved → Seen → Seen
with_move x old = record {
  first = Some x;
  second = old.first;
  shortest = option_map_or (λ z. with_span (between x z) old.shortest) old.second old.shortest;
}

-- what is seen of bucket b after these moves of one change, in their order
abbrev pub after_moves : Moved → List Move → ℕ → Seen → Seen
after_moves at [] b s = s
after_moves at (m ∷ moves) b s =
    after_moves at moves b (if m.bucket == b then with_move at s else s)

-- this is what is seen of each bucket from these changes on, of which the first has number n
pub record IsSeen (lag buckets n : ℕ) (changes : List Change) (seen : List Seen) : Type 0 where
  pub count : length seen ≡ buckets
  pub each : (b : ℕ) → b < buckets → slice_get seen b ≡ Some (seen_of (moves_from lag b n changes))

-- the least bound of a bucket
abbrev pub bound_seen : ℕ → Seen → Option ℕ
bound_seen most s =
    if is_some s.first then lesser (Some most) (option_map (λ x. x.time) s.shortest.span) else None

-- the least bound of the first n
abbrev pub least_seen : ℕ → List Seen → ℕ → Option ℕ
least_seen most seen zero = None
least_seen most seen (suc n) =
    lesser (least_seen most seen n) (option_and_then (bound_seen most) (slice_get seen n))

-- this, if it is above the time
abbrev pub above : ℕ → ℕ → Option ℕ
above time x = if nat_lt time x then Some x else None

-- the time of the shortest span above this time, where none is below
abbrev pub next_of : ℕ → Shortest → Option ℕ
next_of time s =
    option_map_or (λ x. if nat_lt time x.time then Some x.time else s.next) s.span None

-- the least bound of a bucket above this time, where it has none below
abbrev pub next_seen : ℕ → ℕ → Seen → Option ℕ
next_seen most time s =
    if is_some s.first then lesser (above time most) (next_of time s.shortest) else None

-- the same of the first n
abbrev pub least_next : ℕ → ℕ → List Seen → ℕ → Option ℕ
least_next most time seen zero = None
least_next most time seen (suc n) =
    lesser (least_next most time seen n) (option_and_then (next_seen most time) (slice_get seen n))

-- the shortest span, if it takes this time
abbrev pub near_of : ℕ → Shortest → Option Span
near_of time s = option_and_then (λ x. if x.time == time then Some x else None) s.span

-- with a bucket more
abbrev pub with_bucket : ℕ → Span → Option NearMoves → NearMoves
with_bucket b s None = record { first = s.first; third = s.third; buckets = 1; lowest = b }
with_bucket b s (Some near) = record near { buckets = near.buckets + 1 }

-- with a bucket more, if it has such a span
abbrev pub with_near : ℕ → Option Span → Option NearMoves → Option NearMoves
with_near b None near = near
with_near b (Some s) near = Some (with_bucket b s near)

-- what the first n buckets say
abbrev pub near_seen : ℕ → List Seen → ℕ → Option NearMoves
near_seen time seen zero = None
near_seen time seen (suc n) =
    with_near n (option_and_then (λ s. near_of time s.shortest) (slice_get seen n))
    (near_seen time seen n)

-- the lifetime by what was seen of each bucket, where the timeout leaves this time at most
abbrev pub explain_seen : List Seen → ℕ → ℕ → Option Lifetime
explain_seen seen most slack = option_map (λ time. record {
  time = time;
  by_timeout = time == most;
  by_moves = near_seen time seen (length seen);
  next = least_next most time seen (length seen);
  slack = slack;
}) (least_seen most seen (length seen))

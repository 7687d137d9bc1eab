-- The seats of a server, and their calls to its shards, each with its reply (docs/DEFINITIONS.md).
use Rattle.std.specs.Prelude.{◌≡◌, ◌≢◌, ℕ, suc, ◌+◌, ◌==◌, cond, max, List, [], ◌∷◌, ◌++◌, map, reverse}
use Rattle.std.specs.Prelude.{slice_get, Option, Some, None, Result, Ok, Err}
use Rattle.atomic_table.specs.Seated.{TableId}
use Rattle.bm_shard.specs.Books.{reply_after}
use Rattle.bm_shard.specs.declared.book.Shard.{Shard}
use Rattle.bm_shard.specs.declared.calls.ShardCall.{ShardCall}
use Rattle.bm_shard.specs.declared.calls.ShardEntry.{ShardEntry}
use Rattle.bm_shard.specs.declared.calls.ShardReply.{ShardReply}
use Rattle.bm_turnstile.specs.Seen.{SeesMore, Turned}
use Rattle.bm_turnstile.specs.Sittings.{Sitting, Who, post, who}
use Rattle.bm_turnstile.specs.Replies.{replies}
use Rattle.bm_server.specs.Servings.{Serving, shard_at}

-- a seat at one shard. A seat of a server is the list of its seats at the shards
abbrev pub Seated : Type 0
Seated = Sitting Shard ShardEntry

-- WHOSE SEAT IT IS

-- the seat i of n at each of these shards, whose numbers begin with h
abbrev pub row_from : (ℕ → Shard) → ℕ → ℕ → ℕ → List TableId → List (Who Shard)
row_from shard n i h [] = []
row_from shard n i h (t ∷ ts) = post t (Some (shard h)) n i ∷ row_from shard n i (suc h) ts

-- the seat i of a server
abbrev pub row : Serving → ℕ → List (Who Shard)
row server i = row_from (shard_at server) server.seats i 0 server.tables

-- the most turns that were made at any one shard
abbrev pub most_turns : List Seated → ℕ
most_turns [] = 0
most_turns (s ∷ ss) = max s.turns (most_turns ss)

-- ITS CALLS, EACH WITH ITS REPLY

abbrev pub seat_of : ShardEntry → ℕ
seat_of e = e.seat

abbrev pub call_of : ShardEntry → ShardCall
call_of e = e.call

-- a shard's reply to a call after these entries, whoever makes it
abbrev pub reply_of : Shard → List ShardEntry → ℕ → ShardCall → ShardReply
reply_of shard entries n call = reply_after shard (reverse entries) call

-- a call with its reply
abbrev pub Answered : Type 0
Answered = ShardCall × ShardReply

-- the calls under the number n among these entries of a shard's book, each with its reply
abbrev pub replies_in : Option Shard → ℕ → List ShardEntry → List Answered
replies_in = replies seat_of call_of reply_of

abbrev pub replies_of : Option Seated → List Answered
replies_of None = []
replies_of (Some s) = replies_in s.fixed s.number s.seen

-- the seat's calls to the shard h, each with its reply
abbrev pub replies_at : List Seated → ℕ → List Answered
replies_at seat h = replies_of (slice_get seat h)

abbrev pub added : {M : Type 0} → ShardCall → Result ShardReply M → List Answered
added call (Ok reply) = (call, reply) ∷ []
added call (Err e) = []

-- what a call to the shard h adds to the seat's calls to the shard k
abbrev pub added_at : {M : Type 0} → ℕ → ShardCall → Result ShardReply M → ℕ → List Answered
added_at h call result k = cond (k == h) (added call result) []

-- a seat after a call to the shard h
abbrev pub GetsReply : {M : Type 0} → ℕ → ShardCall → Result ShardReply M → List Seated → List Seated
    → Type 0
GetsReply h call result old new = (k : ℕ) → replies_at new k ≡ replies_at old k ++ added_at h call result k

-- WHAT IT HAS SEEN

abbrev pub seen_of : Option Seated → List ShardEntry
seen_of None = []
seen_of (Some s) = s.seen

-- the entries of the shard h that the seat has seen
abbrev pub seen_at : List Seated → ℕ → List ShardEntry
seen_at seat h = seen_of (slice_get seat h)

-- after Ok the seat has seen what it had seen before, then calls of others, and then its own, with
-- this reply; after Memory it may have seen more calls of others
abbrev pub Sees : {M : Type 0} → ShardCall → Result ShardReply M → Seated → Seated → Type 0
Sees call (Ok reply) old new = Turned seat_of call_of reply_of old new call reply
Sees call (Err e) old new = SeesMore seat_of old new

-- a seat after one turn at the shard h, and none at the others
pub record TakesTurn {M : Type 0} (h : ℕ) (call : ShardCall) (result : Result ShardReply M)
    (old new : List Seated) : Type 0 where
  pub turns : (s t : Seated) → slice_get old h ≡ Some s → slice_get new h ≡ Some t
      → t.turns ≡ s.turns + 1
  pub sees : (s t : Seated) → slice_get old h ≡ Some s → slice_get new h ≡ Some t
      → Sees call result s t
  pub others : (k : ℕ) → k ≢ h → slice_get new k ≡ slice_get old k

-- a reply is one that a shard's book gives after some entries
abbrev pub IsReply : {M : Type 0} → ShardCall → Result ShardReply M → Type 0
IsReply call (Ok reply) = (shard : Shard) × (past : List ShardEntry)
    × (reply ≡ reply_after shard past call)
IsReply call (Err e) = Unit {0}

-- the seat i of a server, which has made no turn, seen nothing, and got no reply
pub record IsNewSeat (server : Serving) (i : ℕ) (seat : List Seated) : Type 0 where
  pub «is» : map who seat ≡ row server i
  pub turns : most_turns seat ≡ 0
  pub seen : (h : ℕ) → seen_at seat h ≡ []
  pub replies : (h : ℕ) → replies_at seat h ≡ []

-- The books of a server's shards, once all its seats are given back.
use Rattle.std.specs.Prelude.{◌≡◌, ℕ, List, reverse, slice_get, Some}
use Rattle.bm_shard.specs.Books.{Book, Replays}
use Rattle.bm_turnstile.specs.Seen.{AllBelow, Covers, own}
use Rattle.bm_server.specs.Servings.{Serving, shard_at}
use Rattle.bm_server.specs.Seats.{Seated, replies_at, replies_in, seat_of, seen_at}

-- the book of the shard h, once these are all seats of the server
pub record IsBookOf (server : Serving) (seats : List (List Seated)) (h : ℕ)
    (book : Book) : Type 0 where
  pub shard : book.shard ≡ shard_at server h
  pub replays : Replays book.shard (reverse book.entries)
  -- each entry is under the number of a seat
  pub below : AllBelow seat_of server.seats book.entries
  -- what a seat had seen is a prefix of the entries, and has all that are its own
  pub seen : (i : ℕ) (seat : List Seated) → slice_get seats i ≡ Some seat
      → Covers seat_of i (seen_at seat h) book.entries
  pub mine : (i : ℕ) (seat : List Seated) → slice_get seats i ≡ Some seat
      → own seat_of i book.entries ≡ own seat_of i (seen_at seat h)
  -- for each seat, the book has exactly that seat's calls and replies
  pub replies : (i : ℕ) (seat : List Seated) → slice_get seats i ≡ Some seat
      → replies_in (Some (shard_at server h)) i book.entries ≡ replies_at seat h

-- The books of a run's servers, and the seats of its workers. Only the proofs of bodies use this.
use Rattle.std.specs.Prelude.{◌≡◌, ℕ, List, [], length, map, reverse, slice_get, Some}
use Rattle.bm_base.specs.declared.ids.ServerId.{ServerId}
use Rattle.bm_table.specs.declared.setting.Setting.{Setting}
use Rattle.bm_turnstile.specs.Sittings.{who}
use Rattle.bm_shard.specs.Books.{Book, Replays}
use Rattle.bm_server.specs.Seats.{Seated, most_turns, replies_in, row, seat_of}
use Rattle.bm_server.specs.Servings.{Serving, shard_at}
use Rattle.bm_turnstile.specs.Seen.{AllBelow}
use Rattle.bm_worker.specs.SeatCalls.{calls_there}

-- the book of the shard h of the server at the place s, if these are the seats of all workers
pub record IsBookThere (server : Serving) (rows : List (List (List Seated))) (s h : ℕ)
    (book : Book) : Type 0 where
  pub shard : book.shard ≡ shard_at server h
  pub replays : Replays book.shard (reverse book.entries)
  pub below : AllBelow seat_of server.seats book.entries
  pub replies : (i : ℕ) (seats : List (List Seated)) → slice_get rows i ≡ Some seats
      → replies_in (Some (shard_at server h)) i book.entries ≡ calls_there seats s h

-- the books of the server at the place s
pub record AreBooksThere (servers : List Serving) (rows : List (List (List Seated))) (s : ℕ)
    (books : List Book)
    : Type 0 where
  pub server : Serving
  pub server_at : slice_get servers s ≡ Some server
  pub count : length books ≡ length server.tables
  pub each : (h : ℕ) (book : Book) → slice_get books h ≡ Some book
      → IsBookThere server rows s h book

-- the server at a place of this list
pub record IsServerOf (setting : Setting) (ids : List ServerId) (workers s : ℕ) (server : Serving) :
    Type 0 where
  pub id : slice_get ids s ≡ Some server.id
  pub capacity : server.capacity ≡ setting.capacity
  pub timeout : server.timeout ≡ setting.timeout
  pub seats : server.seats ≡ workers
  pub shards : length server.tables ≡ setting.shards

-- the seats of worker w, before any call
pub record IsNewRow (servers : List Serving) (w : ℕ) (seats : List (List Seated)) : Type 0 where
  pub «is» : map (map who) seats ≡ map (λ server. row server w) servers
  pub turns : (s : ℕ) (seat : List Seated) → slice_get seats s ≡ Some seat → most_turns seat ≡ 0
  pub replies : (s h : ℕ) → calls_there seats s h ≡ []

-- The last column of the seats, and the book of its shard.
use Rattle.std.proofs.Common.{◌≡◌, ℕ, zero, suc, ◌+◌, ◌<◌, List, [], ◌∷◌, ◌++◌, length, map, take, reverse, slice_get}
use Rattle.std.proofs.Common.{Option, Some, refl, sym, ap, ◌∙◌, subst, add-one, length-append, arith}
use Rattle.std.proofs.lemmas.Option.{same_Some, slice_get_within}
use Rattle.std.proofs.lemmas.List.{length-map}
use Rattle.atomic_table.specs.Seated.{TableId}
use Rattle.bm_shard.specs.Books.{Book, Replays}
use Rattle.bm_shard.specs.declared.book.Shard.{Shard}
use Rattle.bm_turnstile.specs.Seen.{AllBelow, Covers}
use Rattle.bm_turnstile.specs.Sittings.{Who, IsPost, who, post}
use Rattle.bm_turnstile.proofs.Entries.{own_covered}
use Rattle.bm_turnstile.proofs.Places.{is_post}
use Rattle.bm_rows.specs.Rows.{glued}
use Rattle.bm_rows.proofs.Places.{there}
use Rattle.bm_rows.proofs.Lasts.{IsLast, rows_left, heads, tails, lasts, take_one}
use Rattle.bm_server.specs.Servings.{Serving, shard_at}
use Rattle.bm_server.specs.Seats.{Seated, row, row_from, seat_of, replies_in, replies_of, seen_at, seen_of}
use Rattle.bm_server.specs.Books.{IsBookOf}

-- ROWS

long_row : (f : ℕ → Shard) (n i h : ℕ) (ts : List TableId) → length (row_from f n i h ts) ≡ length ts
long_row f n i h [] = refl
long_row f n i h (t ∷ ts) = ap suc (long_row f n i (suc h) ts)

pub long_seat : (server : Serving) (seats : List (List Seated))
    → ((i : ℕ) (seat : List Seated) → slice_get seats i ≡ Some seat → map who seat ≡ row server i)
    → (i : ℕ) (seat : List Seated) → slice_get seats i ≡ Some seat → length seat ≡ length server.tables
long_seat server seats each i seat at =
    let a = ap (λ (l : List (Who Shard)). length l) (each i seat at) in
    omega (arith, a, length-map seat who, long_row (shard_at server) server.seats i 0 server.tables)

who_at : (f : ℕ → Shard) (n i h : ℕ) (ts : List TableId) (seat : List Seated) (m : ℕ) (s : Seated) (t : TableId)
    → map who seat ≡ row_from f n i h ts → slice_get seat m ≡ Some s → slice_get ts m ≡ Some t
    → who s ≡ post t (Some (f (h + m))) n i
who_at f n i h ts [] m s t e at there = absurd (cc)
who_at f n i h [] (x ∷ seat) m s t e at there = absurd (cc)
who_at f n i h (y ∷ ts) (x ∷ seat) zero s t e at there =
    let z : h ≡ h + 0 = omega arith in
    ap who (sym (same_Some x s at))
    ∙ (heads (who x) (post y (Some (f h)) n i) (map who seat) (row_from f n i (suc h) ts) e
    ∙ (λ j. post (same_Some y t there j) (Some (f (z j))) n i))
who_at f n i h (y ∷ ts) (x ∷ seat) (suc m) s t e at there =
    let z : suc h + m ≡ h + suc m = omega arith in
    let rest = tails (who x) (post y (Some (f h)) n i) (map who seat) (row_from f n i (suc h) ts) e in
    who_at f n i (suc h) ts seat m s t rest at there ∙ ap (λ (k : ℕ). post t (Some (f k)) n i) z

-- THE LAST SHARD

-- the seats at the shard m, whose turnstile is t
pub record IsColumn (server : Serving) (seats : List (List Seated)) (m : ℕ) (t : TableId)
    (column : List Seated) : Type 0 where
  pub long : length column ≡ server.seats
  pub last : (i : ℕ) (s : Seated) → slice_get column i ≡ Some s → IsLast seats m i s
  pub who_is : (i : ℕ) (s : Seated) → slice_get column i ≡ Some s
      → who s ≡ post t (Some (shard_at server m)) server.seats i

column_of : (server : Serving) (seats : List (List Seated)) (m : ℕ) (t : TableId) (rows : List (List Seated))
    (column : List Seated) → length seats ≡ server.seats
    → ((i : ℕ) (seat : List Seated) → slice_get seats i ≡ Some seat → map who seat ≡ row server i)
    → slice_get server.tables m ≡ Some t → length rows ≡ length seats → length column ≡ length seats
    → glued rows column ≡ map (take (suc m)) seats
    → (rows ≡ map (take m) seats) × IsColumn server seats m t column
column_of server seats m t rows column count each here a b e =
    let within : m < length server.tables = slice_get_within server.tables m t here in
    let deep : (i : ℕ) (x : List Seated) → slice_get seats i ≡ Some x → m < length x =
    λ i x at. let l = long_seat server seats each i x at in omega arith in
    let parts = rows_left rows column seats m a b deep e in (
      parts.0,
      record {
        long = b ∙ count;
        last = parts.1;
        who_is = λ i s at.
            let l = parts.1 i s at in
            let z : 0 + m ≡ m = omega arith in
            let seat = each i l.row l.row_at in
            who_at (shard_at server) server.seats i 0 server.tables l.row m s t seat l.item_at here
            ∙ ap (λ (k : ℕ). post t (Some (shard_at server k)) server.seats i) z;
      },
    )

pub posts : (server : Serving) (seats : List (List Seated)) (m : ℕ) (t : TableId) (column : List Seated)
    → IsColumn server seats m t column
    → (k : ℕ) (s : Seated) → slice_get column k ≡ Some s → IsPost t (length column) k (who s)
posts server seats m t column c k s at =
    subst (λ (n : ℕ). IsPost t n k (who s)) (sym c.long)
    (is_post t (Some (shard_at server m)) server.seats k (who s) (c.who_is k s at))

-- the seat i at the shard m, and what the server's seat i has there
record IsAt (server : Serving) (m i : ℕ) (seat : List Seated) (s : Seated) : Type 0 where
  fixed : s.fixed ≡ Some (shard_at server m)
  number : s.number ≡ i
  there : slice_get seat m ≡ Some s

at_shard : (server : Serving) (seats : List (List Seated)) (m : ℕ) (t : TableId) (column : List Seated)
    → IsColumn server seats m t column → length seats ≡ server.seats
    → (i : ℕ) (seat : List Seated) → slice_get seats i ≡ Some seat
    → (s : Seated) × (slice_get column i ≡ Some s) × IsAt server m i seat s
at_shard server seats m t column c count i seat at =
    let lt = slice_get_within seats i seat at in
    let long = c.long in
    let s = there column i (omega arith) in
    let l = c.last i s.0 s.1 in
    let w = c.who_is i s.0 s.1 in
    let same : l.row ≡ seat = same_Some l.row seat (sym l.row_at ∙ at) in (
      s.0,
      s.1,
      record {
        fixed = ap (λ (w : Who Shard). w.fixed) w;
        number = ap (λ (w : Who Shard). w.number) w;
        there = ap (λ (x : List Seated). slice_get x m) (sym same) ∙ l.item_at;
      },
    )

pub book_from : (server : Serving) (seats : List (List Seated)) (m : ℕ) (t : TableId) (column : List Seated)
    (book : Book) → IsColumn server seats m t column → 0 < server.seats → length seats ≡ server.seats
    → ((s : Seated) → slice_get column 0 ≡ Some s → s.fixed ≡ Some book.shard)
    → Replays book.shard (reverse book.entries) → AllBelow seat_of (length column) book.entries
    → ((k : ℕ) (s : Seated) → slice_get column k ≡ Some s → Covers seat_of k s.seen book.entries)
    → ((k : ℕ) (s : Seated) → slice_get column k ≡ Some s
    → replies_in s.fixed k book.entries ≡ replies_of (Some s))
    → IsBookOf server seats m book
book_from server seats m t column book c some count fixed replays below seen replies =
    let long = c.long in
    let first = there column 0 (omega arith) in
    let kind : Some (shard_at server m) ≡ Some book.shard =
    sym (ap (λ (w : Who Shard). w.fixed) (c.who_is 0 first.0 first.1)) ∙ fixed first.0 first.1 in
    let covers : (i : ℕ) (seat : List Seated) → slice_get seats i ≡ Some seat
    → Covers seat_of i (seen_at seat m) book.entries =
    λ i seat at.
    let a = at_shard server seats m t column c count i seat at in
    subst (λ (o : Option Seated). Covers seat_of i (seen_of o) book.entries) (sym a.2.there) (seen i a.0 a.1) in
    record {
      shard = sym (same_Some (shard_at server m) book.shard kind);
      replays = replays;
      below = subst (λ (n : ℕ). AllBelow seat_of n book.entries) c.long below;
      seen = covers;
      mine = λ i seat at. own_covered seat_of i (seen_at seat m) book.entries (covers i seat at);
      replies = λ i seat at.
          let a = at_shard server seats m t column c count i seat at in
          ap (λ (o : Option Shard). replies_in o i book.entries) (sym a.2.fixed)
          ∙ (replies i a.0 a.1 ∙ ap replies_of (sym a.2.there));
    }

-- what is left without the last shard
pub record IsPopped (server : Serving) (seats : List (List Seated)) (left : List TableId) (t : TableId)
    (others : List (List Seated)) (column : List Seated) : Type 0 where
  pub left_is : left ≡ take (length left) server.tables
  pub within : length left < length server.tables
  pub others_are : others ≡ map (take (length left)) seats
  pub column_is : IsColumn server seats (length left) t column

pub popped : (server : Serving) (seats : List (List Seated)) (left left' : List TableId) (t : TableId) (books : ℕ)
    (rows others : List (List Seated)) (column : List Seated) → length seats ≡ server.seats
    → ((i : ℕ) (seat : List Seated) → slice_get seats i ≡ Some seat → map who seat ≡ row server i)
    → left ≡ take (length left) server.tables → left ≡ left' ++ t ∷ []
    → length left + books ≡ length server.tables → rows ≡ map (take (length left)) seats
    → rows ≡ glued others column → length others ≡ length rows → length column ≡ length rows
    → IsPopped server seats left' t others column
popped server seats left left' t books rows others column count each is split long are glue a b =
    let m : ℕ = length left' in
    let one : length left ≡ suc m =
    ap (λ (l : List TableId). length l) split ∙ (length-append left' (t ∷ []) ∙ add-one m) in
    let y = there server.tables m (omega arith) in
    let cut : take (length left) server.tables ≡ take m server.tables ++ y.0 ∷ [] =
    ap (λ (k : ℕ). take k server.tables) one ∙ take_one server.tables m y.0 y.1 in
    let p = lasts left' (take m server.tables) t y.0 (sym split ∙ (is ∙ cut)) in
    let here : slice_get server.tables m ≡ Some t = y.1 ∙ ap Some (sym p.1) in
    let lines : length rows ≡ length seats =
    ap (λ (l : List (List Seated)). length l) are ∙ length-map seats (take (length left)) in
    let whole : glued others column ≡ map (take (suc m)) seats =
    sym glue ∙ (are ∙ ap (λ (k : ℕ). map (take k) seats) one) in
    let c = column_of server seats m t others column count each here (a ∙ lines) (b ∙ lines) whole in
    record {
      left_is = p.0;
      within = slice_get_within server.tables m t here;
      others_are = c.0;
      column_is = c.1;
    }

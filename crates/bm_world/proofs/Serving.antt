-- Rows that grow by one server, and shrink by one.
use Rattle.std.proofs.Common.{◌≡◌, ℕ, zero, suc, ◌+◌, ⊎_elim, List, [], ◌∷◌, ◌++◌, length, map, take}
use Rattle.std.proofs.Common.{slice_get, Option, Some, refl, sym, ap, ◌∙◌, subst, length-append, add-one, arith}
use Rattle.std.proofs.lemmas.Option.{same_Some, slice_get_within}
use Rattle.std.proofs.lemmas.List.{length-map}
use mathlib.Core.List.{map-append}
use Rattle.bm_rows.specs.Rows.{glued}
use Rattle.bm_rows.proofs.Lasts.{heads, tails, lasts, take_one, IsLast, rows_left}
use Rattle.bm_rows.proofs.Places.{there, last_cases}
use Rattle.bm_shard.specs.Books.{Book}
use Rattle.bm_turnstile.specs.Sittings.{who}
use Rattle.bm_server.specs.Books.{IsBookOf}
use Rattle.bm_server.specs.Seats.{Seated, IsNewSeat, row, replies_at, most_turns}
use Rattle.bm_server.specs.Servings.{Serving}
use Rattle.bm_worker.specs.SeatCalls.{calls_in, calls_there}
use Rattle.bm_world.specs.Inside.Served.{IsBookThere, IsNewRow}

-- A SERVER MORE

row_replies : (seats : List (List Seated)) (seat : List Seated) → ((h : ℕ) → replies_at seat h ≡ [])
    → ((s h : ℕ) → calls_there seats s h ≡ []) → (s h : ℕ) → calls_there (seats ++ seat ∷ []) s h ≡ []
row_replies [] seat new none zero h = new h
row_replies [] seat new none (suc s) h = refl
row_replies (x ∷ seats) seat new none zero h = none 0 h
row_replies (x ∷ seats) seat new none (suc s) h = row_replies seats seat new (λ k j. none (suc k) j) s h

pub new_row_more : (servers : List Serving) (server : Serving) (w : ℕ) (seats : List (List Seated)) (seat : List Seated)
    → IsNewRow servers w seats → IsNewSeat server w seat → IsNewRow (servers ++ server ∷ []) w (seats ++ seat ∷ [])
new_row_more servers server w seats seat old new = record {
  «is» = map-append (map who) seats (seat ∷ []) ∙ ((λ j. old.«is» j ++ new.«is» j ∷ [])
      ∙ sym (map-append (λ (z : Serving). row z w) servers (server ∷ [])));
  turns = λ s x at. ⊎_elim (λ a. old.turns s x a) (λ p. ap most_turns (sym p.1) ∙ new.turns)
      (last_cases seats seat x s at);
  replies = row_replies seats seat new.replies old.replies;
}

pub empty_row : (w : ℕ) (seats : List (List Seated)) → seats ≡ [] → IsNewRow [] w seats
empty_row w seats e =
    let P : List (List Seated) → Type 0 = λ x. IsNewRow [] w x
    in subst P (sym e) (record { «is» = refl; turns = λ s seat at. absurd (cc); replies = λ s h. refl })

-- THE LAST SERVER

-- as many seats as servers
pub as_many : (servers : List Serving) (seats : List (List Seated)) (w : ℕ)
    → map (map who) seats ≡ map (λ server. row server w) servers → length seats ≡ length servers
as_many servers seats w has_seats =
    sym (length-map seats (map who)) ∙ ap (λ l. length l) has_seats ∙ length-map servers (λ server. row server w)

row_at : (servers : List Serving) (seats : List (List Seated)) (w s : ℕ) (seat : List Seated) (server : Serving)
    → map (map who) seats ≡ map (λ server. row server w) servers → slice_get seats s ≡ Some seat
    → slice_get servers s ≡ Some server → map who seat ≡ row server w
row_at [] [] w s seat server has_seats a b = absurd (cc)
row_at [] (x ∷ seats) w s seat server has_seats a b = absurd (cc)
row_at (t ∷ servers) [] w s seat server has_seats a b = absurd (cc)
row_at (t ∷ servers) (x ∷ seats) w zero seat server has_seats a b =
    ap (map who) (sym (same_Some x seat a)) ∙ heads _ _ _ _ has_seats ∙ ap (λ (z : Serving). row z w) (same_Some t server b)
row_at (t ∷ servers) (x ∷ seats) w (suc s) seat server has_seats a b =
    row_at servers seats w s seat server (tails _ _ _ _ has_seats) a b

pub record IsLastServer (servers : List Serving) (rows : List (List (List Seated))) (left : List Serving) (t : Serving)
    (others : List (List (List Seated))) (column : List (List Seated)) : Type 0 where
  pub left_is : left ≡ take (length left) servers
  pub here : slice_get servers (length left) ≡ Some t
  pub others_are : others ≡ map (take (length left)) rows
  pub long : length column ≡ length rows
  pub last : (w : ℕ) (s : List Seated) → slice_get column w ≡ Some s → IsLast rows (length left) w s

pub last_server : (servers : List Serving) (rows : List (List (List Seated))) (left left' : List Serving) (t : Serving)
    (done : ℕ) (rest others : List (List (List Seated))) (column : List (List Seated))
    → ((w : ℕ) (seats : List (List Seated)) → slice_get rows w ≡ Some seats
    → map (map who) seats ≡ map (λ server. row server w) servers)
    → left ≡ take (length left) servers → left ≡ left' ++ t ∷ [] → length left + done ≡ length servers
    → rest ≡ map (take (length left)) rows → rest ≡ glued others column → length others ≡ length rest
    → length column ≡ length rest → IsLastServer servers rows left' t others column
last_server servers rows left left' t done rest others column each is split long are glue a b =
    let m : ℕ = length left'
    in let one : length left ≡ suc m = ap (λ (l : List Serving). length l) split
    ∙ (length-append left' (t ∷ []) ∙ add-one m)
    in let y = there servers m (omega arith)
    in let both : left' ++ t ∷ [] ≡ take m servers ++ y.0 ∷ [] = sym split
    ∙ (is ∙ (ap (λ (k : ℕ). take k servers) one ∙ take_one servers m y.0 y.1))
    in let p = lasts left' (take m servers) t y.0 both
    in let lines : length rest ≡ length rows = ap (λ (l : List (List (List Seated))). length l) are
    ∙ length-map rows (take (length left))
    in let whole : glued others column ≡ map (take (suc m)) rows = sym glue
    ∙ (are ∙ ap (λ (k : ℕ). map (take k) rows) one)
    in let parts = rows_left others column rows m (a ∙ lines) (b ∙ lines)
    (λ w x at. let l = as_many servers x w (each w x at) in omega arith) whole
    in record { left_is = p.0; here = y.1 ∙ ap Some (sym p.1); others_are = parts.0; long = b ∙ lines; last = parts.1 }

pub seat_there : (servers : List Serving) (rows : List (List (List Seated))) (left : List Serving) (t : Serving)
    (others : List (List (List Seated))) (column : List (List Seated))
    → ((w : ℕ) (seats : List (List Seated)) → slice_get rows w ≡ Some seats
    → map (map who) seats ≡ map (λ server. row server w) servers)
    → IsLastServer servers rows left t others column → (w : ℕ) (seat : List Seated) → slice_get column w ≡ Some seat
    → map who seat ≡ row t w
seat_there servers rows left t others column each last w seat at =
    let l = last.last w seat at
    in row_at servers l.row w (length left) seat t (each w l.row l.row_at) l.item_at last.here

pub book_there : (servers : List Serving) (rows : List (List (List Seated))) (left : List Serving) (t : Serving)
    (others : List (List (List Seated))) (column : List (List Seated)) → IsLastServer servers rows left t others column
    → (h : ℕ) (book : Book) → IsBookOf t column h book → IsBookThere t rows (length left) h book
book_there servers rows left t others column last h book of = record {
  shard = of.shard;
  replays = of.replays;
  below = of.below;
  replies = λ w seats at.
      let lt = slice_get_within rows w seats at
      in let long = last.long
      in let s = there column w (omega arith)
      in let l = last.last w s.0 s.1
      in let same : l.row ≡ seats = same_Some l.row seats (sym l.row_at ∙ at)
      in let seat : slice_get seats (length left) ≡ Some s.0 =
      ap (λ (x : List (List Seated)). slice_get x (length left)) (sym same) ∙ l.item_at
      in of.replies w s.0 s.1 ∙ sym (ap (λ (o : Option (List Seated)). calls_in o h) seat);
}

use Rattle.std.proofs.Common.{◌≡◌, ℕ, suc, ◌+◌, ◌<◌, List, [], ◌∷◌, ◌++◌, length, map, take, reverse, slice_get, Some, None}
use Rattle.std.proofs.Common.{sym, ap, ◌∙◌, subst, arith, length-append, add-one, rules}
use Rattle.std.proofs.lemmas.List.{length-map, reverse-append}
use Rattle.atomic_table.specs.Seated.{TableId}
use Rattle.bm_rows.proofs.Places.{front_more}
use Rattle.bm_rows.proofs.Lasts.{take_all, take_rows, full_rows}
use Rattle.bm_shard.specs.Books.{Book}
use Rattle.bm_turnstile.specs.Sittings.{who}
use Rattle.bm_server.specs.Books.{IsBookOf}
use Rattle.bm_server.specs.Seats.{Seated, row}
use Rattle.bm_server.specs.Servings.{Serving}
use Rattle.bm_server.proofs.Finishes.{long_seat, popped, posts, book_from}
use Rattle.bm_server.proofs.server.Server.finish.Goals as goal

same_lines : {R : Type 0} (f : R → List Seated) (xs ys : List R) → length xs ≡ length ys
    → length (map f xs) ≡ length (map f ys)
same_lines f xs ys e = length-map xs f ∙ (e ∙ sym (length-map ys f))

pub loop-turnstile-init : goal.loop-turnstile-init
loop-turnstile-init c =
    let server = c.args.self in
    let seats = c.args.seats.items in
    let shards : List TableId = c.self.inside.shards.items in
    let tables : shards ≡ server.tables = ap (λ (s : Serving). s.tables) c.self.view_is in
    let n : length shards ≡ length server.tables = ap (λ (l : List TableId). length l) tables in
    let none : c.new-books.result.items ≡ [] = c.new-books.ensures.items in
    record {
      left = tables ∙ (sym (take_all server.tables) ∙ ap (λ (k : ℕ). take k server.tables) (sym n));
      rows = c.in_ok-rows.ensures ∙ sym (take_rows (length shards) seats
          (λ i x at. long_seat server seats c.requires.each i x at ∙ sym n));
      count = let no = ap (λ (l : List Book). length l) none in omega (arith, n, no);
      books = λ k book at.
          let bad : None ≡ Some book = ap (λ (l : List Book). slice_get (reverse l) k) (sym none) ∙ at in
          absurd (cc);
    }

one : (left left' : List TableId) (t : TableId) → left ≡ left' ++ t ∷ [] → length left ≡ suc (length left')
one left left' t split =
    ap (λ (l : List TableId). length l) split ∙ (length-append left' (t ∷ []) ∙ add-one (length left'))

deep : (server : Serving) (seats : List (List Seated)) (left left' : List TableId) (t : TableId) (books : ℕ)
    → ((i : ℕ) (seat : List Seated) → slice_get seats i ≡ Some seat → map who seat ≡ row server i)
    → left ≡ left' ++ t ∷ [] → length left + books ≡ length server.tables
    → (i : ℕ) (x : List Seated) → slice_get seats i ≡ Some x → length left' < length x
deep server seats left left' t books each split long i x at =
    let a = long_seat server seats each i x at in
    let b = one left left' t split in
    omega arith

pub last_column-requires : goal.last_column-requires
last_column-requires c =
    let i = c.loop-turnstile.invariant in
    let seats = c.args.seats.items in
    let left : List TableId = c.loop-turnstile.left.items in
    let left' : List TableId = c.pop.new.self.items in
    let t : TableId = c.in-Some.turnstile in
    let split : left ≡ left' ++ t ∷ [] = search rules in
    let rows = i.rows ∙ ap (λ (k : ℕ). map (take k) seats) (one left left' t split) in
    full_rows _ c.loop-turnstile.rows.items seats (length left') rows
    (deep c.args.self seats left left' t (length c.loop-turnstile.books.items) c.requires.each split i.count)

pub close-requires-clause-each : goal.close-requires-clause-each
close-requires-clause-each c =
    let i = c.loop-turnstile.invariant in
    let seats = c.args.seats.items in
    let left : List TableId = c.loop-turnstile.left.items in
    let left' : List TableId = c.pop.new.self.items in
    let t : TableId = c.in-Some.turnstile in
    let split : left ≡ left' ++ t ∷ [] = search rules in
    let cut = c.in_ok-column.ensures in
    let rows = c.loop-turnstile.rows.items in
    let column = c.in_ok-column.column.items in
    let p = popped c.args.self seats left left' t (length c.loop-turnstile.books.items) (map _ rows)
    (map _ c.last_column.new.rows.items) column c.requires.count c.requires.each i.left split i.count i.rows cut.rows
    (same_lines _ c.last_column.new.rows.items rows c.last_column.ensures.count) (cut.long ∙ sym (length-map rows _)) in
    posts c.args.self seats (length left') t column p.column_is

pub loop-turnstile-preserved : goal.loop-turnstile-preserved
loop-turnstile-preserved c =
    let i = c.loop-turnstile.invariant in
    let server : Serving = c.args.self in
    let seats : List (List Seated) = c.args.seats.items in
    let left : List TableId = c.loop-turnstile.left.items in
    let left' : List TableId = c.pop.new.self.items in
    let t : TableId = c.in-Some.turnstile in
    let split : left ≡ left' ++ t ∷ [] = search rules in
    let cut = c.in_ok-column.ensures in
    let rows = c.loop-turnstile.rows.items in
    let column : List Seated = c.in_ok-column.column.items in
    let books : List Book = c.loop-turnstile.books.items in
    let p = popped server seats left left' t (length books) (map _ rows)
    (map _ c.last_column.new.rows.items) column c.requires.count c.requires.each i.left split i.count i.rows cut.rows
    (same_lines _ c.last_column.new.rows.items rows c.last_column.ensures.count) (cut.long ∙ sym (length-map rows _)) in
    let m : ℕ = length left' in
    let l = one left left' t split in
    let book : Book = c.close.result in
    let closed = c.close.ensures in
    let more : c.push.new.self.items ≡ books ++ book ∷ [] = c.in_ok-push.ensures.items in
    let front : reverse c.push.new.self.items ≡ book ∷ reverse books =
    ap (λ (l : List Book). reverse l) more ∙ reverse-append books (book ∷ []) in
    let n = ap (λ (l : List Book). length l) more ∙ length-append books (book ∷ []) in
    let count = i.count in
    let some : 0 < server.seats = subst (λ (s : Serving). 0 < s.seats) c.self.view_is c.self.invariant.seated in
    record {
      left = p.left_is;
      rows = p.others_are;
      count = omega (arith, l, n, count);
      books = front_more (IsBookOf server seats) m book (reverse books) (reverse c.push.new.self.items) front
          (book_from server seats m t column book p.column_is some c.requires.count closed.fixed closed.replays
          closed.below closed.seen closed.replies)
          (λ k b at. subst (λ (h : ℕ). IsBookOf server seats h b) (ap (λ (j : ℕ). j + k) l) (i.books k b at));
    }

pub returns-clause-books : goal.returns-clause-books
returns-clause-books c = λ h book at.
    let none : length c.loop-turnstile.left.items ≡ 0 = search rules in
    let z : length c.loop-turnstile.left.items + h ≡ h = omega (arith, none) in
    let here : slice_get (reverse c.loop-turnstile.books.items) h ≡ Some book =
    ap (λ (l : List Book). slice_get l h) (sym (c.of.ensures ∙ c.reverse.ensures.items)) ∙ at in
    subst (λ (k : ℕ). IsBookOf c.args.self c.args.seats.items k book) z (c.loop-turnstile.invariant.books h book here)

use Rattle.std.proofs.Common.{◌≡◌, ℕ, suc, ◌+◌, List, [], ◌∷◌, ◌++◌, length, map, take, reverse, slice_get, Some}
use Rattle.std.proofs.Common.{sym, ap, ◌∙◌, subst, arith, length-append, add-one, rules, Vec, Global}
use Rattle.std.proofs.lemmas.List.{length-map, reverse-append}
use Rattle.bm_rows.proofs.Lasts.{take_all, take_rows, full_rows}
use Rattle.bm_rows.proofs.Places.{front_more}
use Rattle.bm_rows.specs.Rows.{items_of}
use Rattle.bm_server.specs.Seats.{Seated}
use Rattle.bm_server.specs.Servings.{Serving}
use Rattle.bm_server.specs.declared.seat.ServerSeat.{ServerSeat}
use Rattle.bm_shard.specs.Books.{Book}
use Rattle.bm_world.specs.Inside.Served.{AreBooksThere}
use Rattle.bm_world.proofs.Serving.{as_many, last_server, seat_there, book_there}
use Rattle.bm_world.proofs.servers.finish_all.Goals as goal

same_lines : {R S : Type 0} (f : R → S) (xs ys : List R) → length xs ≡ length ys → length (map f xs) ≡ length (map f ys)
same_lines f xs ys e = length-map xs f ∙ (e ∙ sym (length-map ys f))

no_item : {A : Type 0} (l : List A) (k : ℕ) (x : A) → l ≡ [] → slice_get l k ≡ Some x → ⊥
no_item [] k x e at = absurd (cc)
no_item (y ∷ l) k x e at = absurd (cc)

abbrev seats_of : List (Vec ServerSeat Global) → List (List (List Seated))
seats_of rows = items_of rows

one : (left left' : List Serving) (t : Serving) → left ≡ left' ++ t ∷ [] → length left ≡ suc (length left')
one left left' t split =
    ap (λ (l : List Serving). length l) split ∙ (length-append left' (t ∷ []) ∙ add-one (length left'))

pub loop-server-init : goal.loop-server-init
loop-server-init c = record {
  left = sym (take_all c.args.servers.items);
  rest = sym (take_rows (length c.args.servers.items) _
      (λ w x at. as_many c.args.servers.items x w (c.requires.each w x at)));
  count = let none = ap (λ l. length l) c.new-all.ensures.items in omega (arith, none);
  books = λ k books at. absurd (no_item (reverse c.new-all.result.items) k books
      (ap (λ (l : List (List Book)). reverse l) c.new-all.ensures.items) at);
}

pub last_column-requires : goal.last_column-requires
last_column-requires c =
    let split : c.loop-server.left.items ≡ c.pop.new.self.items ++ c.in-Some.server ∷ [] = search rules
    in let i = c.loop-server.invariant
    in let l = one c.loop-server.left.items c.pop.new.self.items c.in-Some.server split
    in let count = i.count
    in full_rows _ c.loop-server.rest.items (seats_of c.args.rows.items) (length c.pop.new.self.items)
    (i.rest ∙ ap (λ (k : ℕ). map (take k) (seats_of c.args.rows.items)) l)
    (λ k x at. let a = as_many c.args.servers.items x k (c.requires.each k x at) in omega (arith, a, l, count))

pub finish-requires-clause-count : goal.finish-requires-clause-count
finish-requires-clause-count c =
    let split : c.loop-server.left.items ≡ c.pop.new.self.items ++ c.in-Some.server ∷ [] = search rules
    in let i = c.loop-server.invariant
    in let cut = c.in_ok-column.ensures
    in let p = last_server c.args.servers.items _ c.loop-server.left.items c.pop.new.self.items c.in-Some.server
    (length c.loop-server.all.items) _ _ c.in_ok-column.column.items c.requires.each i.left split i.count i.rest
    cut.rows
    (same_lines _ c.last_column.new.rows.items c.loop-server.rest.items c.last_column.ensures.count)
    (cut.long ∙ sym (length-map c.loop-server.rest.items _))
    in p.long
    ∙ (length-map c.args.rows.items _ ∙ c.requires.count (length c.pop.new.self.items) c.in-Some.server p.here)

pub finish-requires-clause-each : goal.finish-requires-clause-each
finish-requires-clause-each c =
    let split : c.loop-server.left.items ≡ c.pop.new.self.items ++ c.in-Some.server ∷ [] = search rules
    in let i = c.loop-server.invariant
    in let cut = c.in_ok-column.ensures
    in let p = last_server c.args.servers.items _ c.loop-server.left.items c.pop.new.self.items c.in-Some.server
    (length c.loop-server.all.items) _ _ c.in_ok-column.column.items c.requires.each i.left split i.count i.rest
    cut.rows
    (same_lines _ c.last_column.new.rows.items c.loop-server.rest.items c.last_column.ensures.count)
    (cut.long ∙ sym (length-map c.loop-server.rest.items _))
    in seat_there c.args.servers.items _ c.pop.new.self.items c.in-Some.server _ c.in_ok-column.column.items
    c.requires.each p

pub loop-server-preserved : goal.loop-server-preserved
loop-server-preserved c =
    let split : c.loop-server.left.items ≡ c.pop.new.self.items ++ c.in-Some.server ∷ [] = search rules
    in let i = c.loop-server.invariant
    in let cut = c.in_ok-column.ensures
    in let p = last_server c.args.servers.items _ c.loop-server.left.items c.pop.new.self.items c.in-Some.server
    (length c.loop-server.all.items) _ _ c.in_ok-column.column.items c.requires.each i.left split i.count i.rest
    cut.rows
    (same_lines _ c.last_column.new.rows.items c.loop-server.rest.items c.last_column.ensures.count)
    (cut.long ∙ sym (length-map c.loop-server.rest.items _))
    in let m : ℕ = length c.pop.new.self.items
    in let l = one c.loop-server.left.items c.pop.new.self.items c.in-Some.server split
    in let books : List (List Book) = c.loop-server.all.items
    in let more : c.push.new.self.items ≡ books ++ c.in_ok-finish.field-0 ∷ [] = c.in_ok-push.ensures.items
    in let front : reverse c.push.new.self.items ≡ c.in_ok-finish.field-0 ∷ reverse books =
    ap (λ (l : List (List Book)). reverse l) more ∙ reverse-append books (c.in_ok-finish.field-0 ∷ [])
    in let n = ap (λ (l : List (List Book)). length l) more ∙ length-append books (c.in_ok-finish.field-0 ∷ [])
    in let count = i.count
    in record {
      left = p.left_is;
      rest = p.others_are;
      count = omega (arith, l, n, count);
      books = front_more
          (λ (k : ℕ) (books : List Book). AreBooksThere c.args.servers.items (seats_of c.args.rows.items) k books)
          m c.in_ok-finish.field-0 (reverse books) (reverse c.push.new.self.items) front
          (record {
            server = c.in-Some.server;
            server_at = p.here;
            count = c.in_ok-finish.ensures.count;
            each = λ h book at. book_there c.args.servers.items _ c.pop.new.self.items c.in-Some.server _
                c.in_ok-column.column.items p h book (c.in_ok-finish.ensures.books h book at);
          })
          (λ k b at. subst (λ (h : ℕ). AreBooksThere c.args.servers.items (seats_of c.args.rows.items) h b)
          (ap (λ (j : ℕ). j + k) l) (i.books k b at));
    }

pub returns-clause-books : goal.returns-clause-books
returns-clause-books c = λ s books at.
    let none : length c.loop-server.left.items ≡ 0 = search rules
    in let z : length c.loop-server.left.items + s ≡ s = omega (arith, none)
    in subst (λ (k : ℕ). AreBooksThere c.args.servers.items (seats_of c.args.rows.items) k books) z
    (c.loop-server.invariant.books s books (ap (λ (l : List (List Book)). slice_get l s) (sym c.reverse.ensures.items) ∙ at))

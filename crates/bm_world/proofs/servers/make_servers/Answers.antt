use Rattle.std.proofs.Common.{◌≡◌, ℕ, ◌∷◌, ◌++◌, [], List, length, map, slice_get, Some, None, sym, ap, ◌∙◌, subst}
use Rattle.std.proofs.Common.{length-append, arith}
use Rattle.std.proofs.lemmas.Option.{slice_get-get_or}
use Rattle.bm_rows.proofs.Glued.{glued_at, length_rows}
use Rattle.bm_rows.proofs.Places.{all_empty, each_more, subst_two}
use Rattle.bm_server.specs.Servings.{Serving}
use Rattle.bm_server.specs.Seats.{Seated}
use Rattle.bm_world.specs.Inside.Served.{IsNewRow, IsServerOf}
use Rattle.bm_world.proofs.Serving.{empty_row, new_row_more}
use Rattle.bm_world.proofs.servers.make_servers.Goals as goal

pub loop-id-init : goal.loop-id-init
loop-id-init c = record {
  made = ap (λ (l : List Serving). length l) c.new-servers.ensures.items;
  count = c.in_ok-rows.ensures.count;
  each = λ w seats at. subst (λ (s : List Serving). IsNewRow s w seats) (sym c.new-servers.ensures.items)
      (empty_row w seats (all_empty _ c.in_ok-rows.rows.items c.in_ok-rows.ensures.empty w seats at));
  servers = λ s server at.
      let none : None ≡ Some server = ap (λ (l : List Serving). slice_get l s) (sym c.new-servers.ensures.items) ∙ at
      in absurd (cc);
}

pub add_column-requires : goal.add_column-requires
add_column-requires c = c.loop-id.invariant.count ∙ sym c.in_ok-server.ensures.count

pub loop-id-preserved : goal.loop-id-preserved
loop-id-preserved c =
    let i = c.loop-id.invariant
    in let server = c.in_ok-server.server
    in let items : c.push.new.self.items ≡ c.loop-id.servers.items ++ server ∷ [] = c.in_ok-push.ensures.items
    in let a = ap (λ (l : List Serving). length l) items
    in let made = i.made
    in let kind = c.in_ok-server.ensures.server
    in record {
      made = omega (arith, a, length-append c.loop-id.servers.items (server ∷ []), made);
      count = length_rows _ c.add_column.new.rows.items c.loop-id.rows.items c.in_ok-server.column.items
          c.in_ok-add_column.ensures i.count c.in_ok-server.ensures.count;
      each = λ w seats at.
          let e = glued_at (map _ c.loop-id.rows.items) c.in_ok-server.column.items w seats
          (ap (λ (l : List (List (List Seated))). slice_get l w) (sym c.in_ok-add_column.ensures) ∙ at)
          in subst_two (λ (s : List Serving) (x : List (List Seated)). IsNewRow s w x) (sym items) (sym e.whole)
          (new_row_more c.loop-id.servers.items server w e.row e.item (i.each w e.row e.row_at)
          (c.in_ok-server.ensures.each w e.item e.item_at));
      servers = each_more (λ (s : ℕ) (z : Serving). IsServerOf c.args.setting.now c.args.ids.now c.args.workers s z)
          c.loop-id.servers.items c.push.new.self.items server items i.servers
          (record {
            id = ap (λ (i : ℕ). slice_get c.args.ids.now i) made
                ∙ slice_get-get_or c.args.ids.now c.loop-id.id-index (record { 0 = 0 }) c.loop-id-test.true
                ∙ ap (λ (z : Serving). Some z.id) (sym kind);
            capacity = ap (λ (z : Serving). z.capacity) kind;
            timeout = ap (λ (z : Serving). z.timeout) kind;
            seats = ap (λ (z : Serving). z.seats) kind;
            shards = c.in_ok-server.ensures.shards;
          });
    }

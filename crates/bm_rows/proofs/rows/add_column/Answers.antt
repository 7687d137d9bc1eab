use Rattle.std.proofs.Common.{◌≡◌, ◌∷◌, drop, sym, ap, ◌∙◌, rules, arith}
use Rattle.std.proofs.lemmas.List.{length-map}
use Rattle.std.specs.Vec.Iter.{into_iter_items}
use Rattle.bm_rows.specs.Rows.{items_of}
use Rattle.bm_rows.proofs.Glued.{drop_one, lent, part_all, rows_more}
use Rattle.bm_rows.proofs.rows.add_column.Goals as goal

pub unreachable-requires : goal.unreachable-requires
unreachable-requires g c = search rules

pub loop-row-preserved : goal.loop-row-preserved
loop-row-preserved g c =
    let i = c.loop-row.row-index in
    let count = length-map c.args.rows.now.items (λ r. r.items) in
    let next : drop i c.args.column.items ≡ c.in-Some.item ∷ into_iter_items c.next.new.self =
    sym c.loop-row.invariant.left ∙ search rules in
    record {
      count = search rules;
      left = sym (drop_one i c.args.column.items (into_iter_items c.next.new.self) c.in-Some.item next);
      rows = rows_more (λ r. r.items) i c.loop-row.row-items (items_of c.args.rows.now.items) c.args.column.items
          (into_iter_items c.next.new.self) c.in-Some.item c.push.new.self c.row-item.result (omega arith) next
          (search rules) c.loop-row.invariant.rows;
    }

pub returns : goal.returns
returns g c =
    let count = length-map c.args.rows.now.items (λ r. r.items) in
    ap items_of (lent c.args.rows.now.len c.loop-row.row-items c.args.rows.now.items (search rules) (search rules))
    ∙ (c.loop-row.invariant.rows
    ∙ part_all c.loop-row.row-index (items_of c.args.rows.now.items) c.args.column.items (omega arith))

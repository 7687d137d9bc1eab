use Rattle.std.proofs.Common.{◌<◌, ◌≢◌, [], ◌∷◌, length, length-append, length-set, get_or-set_other}
use Rattle.std.proofs.Common.{sym, ap, ◌∙◌, rules, arith}
use Rattle.std.proofs.lemmas.List.{length-map}
use Rattle.bm_rows.specs.Rows.{glued, items_of}
use Rattle.bm_rows.proofs.Glued.{lent, part_all, rows_less}
use Rattle.bm_rows.proofs.rows.last_column.Goals as goal

pub unreachable-requires : goal.unreachable-requires
unreachable-requires g c =
    let some = c.loop-row.invariant.full c.loop-row.row-index c.row-item.result (omega arith) (search rules) in
    search rules

pub loop-row-preserved : goal.loop-row-preserved
loop-row-preserved g c =
    let i = c.loop-row.row-index in
    let invariant = c.loop-row.invariant in
    let now = c.loop-row.row-items in
    let more = c.in_ok-push.ensures.items in
    record {
      long = omega (arith, ap length more, length-append c.loop-row.column.items (c.in-Some.item ∷ []), invariant.long);
      full = λ k d low high.
          let other : k ≢ i = omega arith in
          let within : k < length now = (let n = length-set now i c.pop.new.self in omega arith) in
          let old = invariant.full k d (omega arith) within in
          rw get_or-set_other old;
      rows = rows_less (λ r. r.items) i now c.loop-row.column.items c.push.new.self.items c.in-Some.item
          c.pop.new.self c.row-item.result (search rules) invariant.long (search rules) more ∙ invariant.rows;
    }

pub returns : goal.returns
returns g c =
    let now = c.loop-row.row-items in
    let old = c.args.rows.now.items in
    let all = lent c.args.rows.now.len now old (search rules) (search rules) in
    let index = c.loop-row.row-index in
    let count = length-map now (λ r. r.items) in
    record {
      rows = sym c.loop-row.invariant.rows
          ∙ (part_all index (items_of now) c.loop-row.column.items (omega arith)
          ∙ ap (λ l. glued (items_of l) c.loop-row.column.items) (sym all));
      count = ap length all ∙ search rules;
      long = search rules;
    }

use Rattle.std.proofs.Common.{◌≡◌, ℕ, arith}
use Rattle.std.specs.List.{slice_get}
use Rattle.std.specs.Option.{option_map}
use Rattle.bm_table.proofs.EntryLemmas.{next_table}
use Rattle.bm_table.proofs.Gets.{given_back, length_from_gets}
use Rattle.bm_table.proofs.table.Table.apply.Goals as goal
use Rattle.bm_table.specs.Entries.{after_moves}

pub returns : goal.returns
returns c =
    let whole =
    given_back c.self.inside.entries.items c.carry_out.new.entries c.self.inside.entries.len (omega arith)
    (omega arith)
    in let each : (b : ℕ)
    → slice_get c.carry_out.new.entries b
    ≡ option_map (after_moves c.args.change.now.moment.0 c.args.change.now.moves b) (slice_get c.args.self.now b)
    = rw (← c.self.view_is, ← c.items.ensures, ← c.as_mut_slice.ensures.value) c.carry_out.ensures
    in rw whole
    (record {
      count =
          length_from_gets (λ b. after_moves c.args.change.now.moment.0 c.args.change.now.moves b) c.args.self.now
          c.carry_out.new.entries each;
      entries = each;
      next =
          λ plan v kept is table. next_table plan kept v c.args.change.now is c.args.self.now c.carry_out.new.entries
          each
          table;
    })

use Rattle.std.proofs.Common.{◌≡◌, drop, length}
use Rattle.toml.specs.View.{members_view}
use Rattle.bm_script.specs.Keys.{first_unknown}
use Rattle.bm_script.proofs.key.first_unknown.Given as goal

abbrev pub invariant-loop-name : goal.invariant-loop-name
invariant-loop-name l = record {
  can : (goal.iterator-loop-name).can_next l.name-iterator;
  ends : (goal.iterator-loop-name).is_finite l.name-iterator;
  rest : first_unknown l.fn.version l.keys (members_view (drop (length l.yielded) l.table.entries))
      ≡ first_unknown l.fn.version l.keys (members_view l.table.entries);
}

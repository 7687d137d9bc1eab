use Rattle.std.proofs.Common.{List, reverse, subst}
use Rattle.bm_base.specs.declared.capture.Record.{Record}
use Rattle.bm_connections.specs.Inside.Needs.{KnowsLast}
use Rattle.bm_connections.proofs.followed.Followed.new.Goals as goal

pub returns : goal.returns
returns c = record {
  stamps = c.in_ok-new.ensures;
  owners = c.in_ok-new-2.ensures;
  unretired = c.new-3.ensures c.args.stage.now;
  last =
      subst (λ (xs : List Record). KnowsLast (reverse xs) c.in_ok-new-3.field-0) c.items.ensures
      c.in_ok-new-3.ensures;
}

-- What the code keeps of records to find copies.
use Rattle.std.specs.Prelude.{◌≡◌, List}
use Rattle.std.specs.BTreeMap as tree
use Rattle.bm_base.specs.contracts.flow.FlowOrd.TheImpl as flow_order
use Rattle.bm_base.specs.declared.capture.Record.{Record}
use Rattle.bm_base.specs.declared.flow.Flow.{Flow}
use Rattle.bm_connections.specs.declared.copies.Copies.{Copies}
use Rattle.bm_connections.specs.Copies.{copies_after, last_record}

-- what is kept after these records
pub record KnowsCopies (records : List Record) (c : Copies) : Type 0 where
  pub last : (f : Flow) → tree.get (flow_order.ghosts).cmp c.flows f ≡ last_record records f
  pub count : c.count ≡ copies_after records

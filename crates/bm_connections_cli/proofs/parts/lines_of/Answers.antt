use Rattle.std.proofs.Common.{◌≡◌, ◌∙◌, List, subst}
use Rattle.std.specs.Prelude.{IfOk}
use Rattle.bm_connections.specs.declared.connection.Connection.{Connection}
use Rattle.bm_connections.specs.Base.{compared_with}
use Rattle.bm_connections_cli.specs.Text.{parts}
use Rattle.bm_connections_cli.proofs.parts.lines_of.Goals as goal

pub returns : goal.returns
returns c =
    subst
    (λ (t : List Connection). IfOk c.parts_of.result
    (λ list. list.items ≡ parts c.args.clock.0 c.args.verbs.now c.args.h.now (compared_with t c.args.wholes.now)))
    (c.items-2.ensures ∙ c.in_ok-table.ensures) c.parts_of.ensures

use Rattle.bm_words.specs.Form.{named}
use Rattle.bm_connections_cli.specs.Dues.{IsShownBy}
use Rattle.bm_connections_words.specs.Options.{said}
use Rattle.bm_connections_words.specs.Words.{Connections}
use Rattle.bm_connections_cli.proofs.Ending.{played_ends, refused_ends}
use Rattle.bm_connections_cli.proofs.Outcomes.{played_decides, refused_decides}
use Rattle.bm_connections_cli.proofs.top.report.Goals as goal

pub returns-in-Ok-clause-ends : goal.returns-in-Ok-clause-ends
returns-in-Ok-clause-ends g c =
    let options = said c.args.options in
    played_ends (Connections (named c.args.names) options) (IsShownBy options) c.args.options.clock
    (named c.args.names) _ _ _ _ _ c.in-Ok.named.stage c.in-Ok.named.began c.clock_of-clock.result.0 c.in-Ok.named.verbs
    c.show.result.status c.clock_of-clock.ensures c.in-Ok.ensures.stage c.show.ensures.tells

pub returns-in-Ok-clause-fails : goal.returns-in-Ok-clause-fails
returns-in-Ok-clause-fails g c =
    played_decides (named c.args.names) (said c.args.options) _ _ c.in-Ok.named.stage _ c.show.result
    c.in-Ok.ensures.stage c.show.ensures.fails

pub returns-in-Err-clause-ends : goal.returns-in-Err-clause-ends
returns-in-Err-clause-ends g c =
    rw c.of.ensures.status
    (refused_ends (Connections (named c.args.names) (said c.args.options)) (IsShownBy (said c.args.options)) c.args.options.clock (named c.args.names) _ _ _ _ _ c.in-Err.fault
    c.file_with-name.result.now c.refuse.result c.file_with-name.ensures c.in-Err.ensures.stage c.refuse.ensures)

pub returns-in-Err-clause-fails : goal.returns-in-Err-clause-fails
returns-in-Err-clause-fails g c =
    refused_decides (named c.args.names) (said c.args.options) _ c.file_with-name.result.now c.in-Err.fault _
    c.of.result c.refuse.result c.of.ensures.status c.of.ensures.fails c.refuse.ensures

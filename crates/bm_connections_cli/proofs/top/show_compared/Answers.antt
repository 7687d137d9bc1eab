use Rattle.std.proofs.Common.{List, subst}
use Rattle.bm_cli.specs.declared.status.Status.TheVariants.{Done}
use Rattle.bm_cli.specs.Dues.{Shown}
use Rattle.bm_cli.specs.Statuses.{Writes, did}
use Rattle.bm_cli.proofs.Telling.{tells_nothing}
use Rattle.bm_connections.specs.Base.{compared_with}
use Rattle.bm_connections.specs.Connections.{connections}
use Rattle.bm_script.specs.declared.verbs.ChangeVerb.{ChangeVerb}
use Rattle.bm_connections_words.specs.Options.{format_in, said}
use Rattle.bm_connections_cli.specs.Dues.{IsShownBy}
use Rattle.bm_connections_cli.specs.Inside.Ends.{no_lines}
use Rattle.bm_connections_cli.specs.Inside.Outcomes.{told_by}
use Rattle.bm_connections_cli.proofs.Outcomes.{decides, decides_nothing, tells_compared}
use Rattle.bm_connections_cli.proofs.top.show_compared.Goals as goal

pub returns-in-Ok-clause-tells : goal.returns-in-Ok-clause-tells
returns-in-Ok-clause-tells g c =
    let h = c.in-Ok.both.history in
    let options = said c.args.options in
    let told = told_by (format_in options.format) options.chosen c.args.clock.0 in
    tells_compared options c.args.clock.0 c.args.named.verbs c.args.named.stage h c.in-Ok.both.wholes.items _ _ c.in-Ok.ensures.replays
    (subst (λ (vs : List ChangeVerb). Writes Done (told vs h (compared_with (connections h) c.in-Ok.both.wholes.items))
    (did g.K.Sink.written g.K.Sink.faults c.args.out.now c.tell_by-status.new.out) c.tell_by-status.result)
    c.items.ensures
    (subst (λ ws. Writes Done (told c.items.result.now h (compared_with (connections h) ws))
    (did g.K.Sink.written g.K.Sink.faults c.args.out.now c.tell_by-status.new.out) c.tell_by-status.result)
    c.as_slice.ensures.value c.tell_by-status.ensures))

pub returns-in-Ok-clause-fails : goal.returns-in-Ok-clause-fails
returns-in-Ok-clause-fails g c = decides (said c.args.options).fail c.args.named.stage _ c.in-Ok.ensures.fails

pub returns-clause-tells : goal.returns-clause-tells
returns-clause-tells g c =
    rw c.of.ensures.status
    (tells_nothing no_lines (Shown (IsShownBy (said c.args.options) c.args.clock.0 c.args.named.verbs c.args.named.stage)) _ _)

pub returns-clause-fails : goal.returns-clause-fails
returns-clause-fails g c =
    decides_nothing (said c.args.options).fail c.args.named.stage c.of.result c.of.ensures.status c.of.ensures.fails

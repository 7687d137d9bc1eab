use Rattle.std.proofs.Common.{◌∙◌}
use Rattle.bm_cli.proofs.Telling.{tells_nothing}
use Rattle.bm_connections_cli.proofs.Ending.{lifetime_told}
use Rattle.bm_connections_cli.proofs.lifetime.tell_lifetime.Goals as goal

pub returns-in_default : goal.returns-in_default
returns-in_default g c = tells_nothing _ _ _ _

pub returns-in_default-explained_text : goal.returns-in_default-explained_text
returns-in_default-explained_text g c = tells_nothing _ _ _ _

pub returns : goal.returns
returns g c =
    lifetime_told c.args.seconds c.args.script.now c.in-Ok.life _ _ _ _ c.in-Ok.ensures
    (c.as_bytes.ensures.value ∙ c.as_str.ensures ∙ c.in-Ok-explained_text.ensures) c.status_for.ensures.status
    c.say.ensures

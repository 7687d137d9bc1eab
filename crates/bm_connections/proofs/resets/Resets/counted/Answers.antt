use Rattle.std.proofs.Common.{◌∙◌, None, true, false, refl, sym}
use Rattle.bm_connections.proofs.Resetting.{counted_is}
use Rattle.bm_connections.proofs.resets.Resets.counted.Goals as goal

pub returns-then-discount : goal.returns-then-discount
returns-then-discount c = λ past k by broke.
    counted_is c.args.stage.now past c.args.event.now c.args.cause None true by broke
    (sym c.if-discount.true ∙ c.discount.ensures past k broke) refl

pub returns-else-discount : goal.returns-else-discount
returns-else-discount c = λ past k by broke.
    counted_is c.args.stage.now past c.args.event.now c.args.cause c.args.cause false by broke
    (sym c.if-discount.false ∙ c.discount.ensures past k broke) refl

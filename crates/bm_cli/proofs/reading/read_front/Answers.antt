use Rattle.std.proofs.Common.{◌∙◌, sym}
use Rattle.bm_cli.proofs.Began.{classic_front_began, ok_any, pcapng_front_began}
use Rattle.bm_cli.proofs.Readings.{front_classic, front_pcapng}
use Rattle.bm_cli.proofs.reading.read_front.Goals as goal

pub returns-then-is_pcapng-clause-capture : goal.returns-then-is_pcapng-clause-capture
returns-then-is_pcapng-clause-capture g c = λ octets told first.
    front_pcapng c.args.vips.now _ c.magic.result.now _ (sym c.is_pcapng.ensures ∙ c.if-is_pcapng.true)
    c.read_pcapng-front.ensures.capture octets told (c.magic.ensures ∙ first)

pub returns-else-is_pcapng-clause-capture : goal.returns-else-is_pcapng-clause-capture
returns-else-is_pcapng-clause-capture g c = λ octets told first.
    front_classic c.args.vips.now _ c.magic.result.now _ (sym c.is_pcapng.ensures ∙ c.if-is_pcapng.false)
    c.read_classic-front.ensures.capture octets told (c.magic.ensures ∙ first)

pub returns-then-is_pcapng-clause-began : goal.returns-then-is_pcapng-clause-began
returns-then-is_pcapng-clause-began g c =
    pcapng_front_began c.read_pcapng-front.result.1 _ c.magic.result.now _ c.read_pcapng-front.result.2
    c.magic.ensures (sym c.is_pcapng.ensures ∙ c.if-is_pcapng.true) c.read_pcapng-front.ensures.began

pub returns-else-is_pcapng-clause-began : goal.returns-else-is_pcapng-clause-began
returns-else-is_pcapng-clause-began g c =
    classic_front_began c.read_classic-front.result.1 _ c.magic.result.now _ c.read_classic-front.result.2
    c.magic.ensures (sym c.is_pcapng.ensures ∙ c.if-is_pcapng.false) c.read_classic-front.ensures.began

pub returns-then-is_pcapng-clause-early : goal.returns-then-is_pcapng-clause-early
returns-then-is_pcapng-clause-early g c = ok_any c.read_pcapng-front.result.1 _ c.read_pcapng-front.ensures.early

use Rattle.std.proofs.Common.{ap}
use Rattle.bm_pcap.proofs.Steps.{open_body, record_step}
use Rattle.bm_pcap.proofs.step.read_step.Goals as goal

pub returns-in_err-count-in-States-clause-open : goal.returns-in_err-count-in-States-clause-open
returns-in_err-count-in-States-clause-open g c why =
    open_body c.args.form.now c.args.place.now c.in-States.time c.in-States.len _ _ _ c.in_ok-read_head.field-0
    c.in-States.is c.in_ok-read_head.ensures.buffered c.in_ok-read_head.ensures.fits c.in_err-count-in-States.ensures.grows
    c.min.ensures c.in_err-count-in-States.ensures.short

pub returns-else-count-whole-clause-gives : goal.returns-else-count-whole-clause-gives
returns-else-count-whole-clause-gives g c =
    record_step _ _ (g.S.Source.left c.want.new.self.src) _ c.args.form.now c.args.place.now c.in-States.time
    c.in-States.len _ _ _ _ _ _ c.in_ok-read_head.field-0 c.in-States.is c.in_ok-read_head.ensures.gives
    c.in_ok-read_head.ensures.fits c.in_ok-read_head.ensures.keeps c.in_ok-count-in-States.ensures.ahead
    c.in_ok-count-in-States.ensures.keeps c.min.ensures c.in_ok-count-in-States.ensures.bound.1
    c.if-count-room.false c.if-count-whole.false c.skip.ensures.buffered c.skip.ensures.passed
    (ap g.S.Source.left c.skip.ensures.source)

use Rattle.std.proofs.Common.{refl, reverse, subst, sym, take}
use Rattle.bm_trace.specs.Inside.Known.{Knows}
use Rattle.bm_trace.proofs.Sweeping.{swept_more, length_before}
use Rattle.bm_trace.proofs.swept.Sweeper.pass.Goals as goal

pub returns-clause-swept : goal.returns-clause-swept
returns-clause-swept c =
    let h = c.args.h.now
    in let shown = c.items-events.result.now
    in let past = reverse (take c.args.place shown)
    in let knows : Knows h.stage past c.args.self.now.known =
    subst (λ es. Knows h.stage (reverse (take c.args.place es)) c.args.self.now.known) (sym c.items-events.ensures)
    c.requires.swept.known
    in swept_more h shown c.args.place _ c.args.self.now _ c.cause-cause.result
    c.is_stray.result c.items-events.ensures c.requires.place (c.cause-cause.ensures past knows)
    (c.in_ok-observe.ensures past _ refl (length_before h shown c.args.place c.items-events.ensures c.requires.place) knows)
    c.is_stray.ensures c.counted-self.ensures c.requires.swept

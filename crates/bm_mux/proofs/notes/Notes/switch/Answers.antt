use Rattle.bm_mux.proofs.Kept.{kept_switch}
use Rattle.bm_mux.proofs.notes.Notes.switch.Goals as goal

pub returns-clause-kept : goal.returns-clause-kept
returns-clause-kept c =
    let me = c.args.self.now in
    rw (c.in_ok-push.ensures.items, c.next_clock-clock.ensures)
    (kept_switch me.id me.buckets me.version.0 me.clock.0 me.log.items c.args.guard.now c.requires.kept
    c.version-version.result c.args.cause.0
    c.version-version.ensures.version c.requires.cause.1 c.requires.cause.0)

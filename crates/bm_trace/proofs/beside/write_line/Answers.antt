use Rattle.std.proofs.Common.{◌+◌, refl, rules, subst, sym, take}
use Rattle.std.specs.Prelude.{reverse}
use Rattle.bm_state.specs.Versions.{KeepsVersions}
use Rattle.bm_trace.proofs.Pieces.{lines_more}
use Rattle.bm_trace.proofs.Sweeping.{cause_at, versions_next}
use Rattle.bm_trace.proofs.beside.write_line.Goals as goal

pub returns-clause-line : goal.returns-clause-line
returns-clause-line c from lines =
    let h = c.args.h.now
    in let shown = c.items-events.result.now
    in let known = subst (λ es. KeepsVersions (reverse (take c.args.place es)) c.args.versions.now)
    (sym c.items-events.ensures) c.requires.known
    in lines_more h shown from c.args.place _ _ _ c.items-events.ensures c.requires.place
    (c.in_ok-write_event.ensures _ known
    (cause_at h shown c.args.place _ c.args.cause c.items-events.ensures c.requires.place c.requires.cause)) lines

pub returns-clause-known : goal.returns-clause-known
returns-clause-known c =
    subst (λ es. KeepsVersions (reverse (take (c.args.place + 1) es)) c.observe.new.self) c.items-events.ensures
    (versions_next c.items-events.result.now c.args.place _ c.observe.new.self (search rules)
    (c.in_ok-observe.ensures _ _ refl
    (subst (λ es. KeepsVersions (reverse (take c.args.place es)) c.args.versions.now) (sym c.items-events.ensures)
    c.requires.known)))

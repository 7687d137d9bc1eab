use Rattle.std.proofs.Common.{sym, ap, subst, ◌∙◌, ℕ, List, drop, ◌+◌}
use Rattle.bm_pcapng.specs.Options.{padded, resolution_by}
use Rattle.bm_pcapng.proofs.Opts.{Left, all_left, first_octet, left_found, left_next, left_over}
use Rattle.bm_pcapng.proofs.interface.resolution_in.Goals as goal

pub loop-rest-init : goal.loop-rest-init
loop-rest-init c = all_left c.args.order c.args.options.now

pub loop-rest-preserved : goal.loop-rest-preserved
loop-rest-preserved c =
    let P : List ℕ → Type 0 = λ r. Left c.args.order r (resolution_by c.args.order c.args.options.now) in
    subst P
    (ap (λ (n : ℕ). drop (4 + padded n) c.loop-rest.rest.now) (sym c.read_u16.ensures) ∙ sym c.after_option-rest.ensures)
    (left_next c.args.order c.loop-rest.rest.now _ c.loop-rest.invariant (sym c.is_over.ensures ∙ c.loop-rest-test.true)
    (sym c.if-is_resolution.ensures))

pub returns-then-is_resolution : goal.returns-then-is_resolution
returns-then-is_resolution c =
    c.of.ensures
    ∙ left_found c.args.order c.loop-rest.rest.now _ _ c.loop-rest.invariant (sym c.loop-rest-test.ensures)
    (sym c.if-is_resolution.ensures)
    (first_octet c.args.order c.loop-rest.rest.now (sym c.loop-rest-test.ensures) (sym c.if-is_resolution.ensures))

pub returns : goal.returns
returns c =
    left_over c.args.order c.loop-rest.rest.now _ c.loop-rest.invariant (sym c.loop-rest-test.ensures)

use Rattle.std.proofs.Common.{◌≡◌, ◌+◌, ap, ◌∙◌, ◌≤◌, ℕ, length, false, sym, subst, arith}
use Rattle.bm_base.specs.Segments.{same_flow}
use Rattle.bm_conn.specs.declared.slot.Slot.{Slot}
use Rattle.bm_conn.specs.declared.slot.Slot.TheVariants.{Used}
use Rattle.bm_conn.proofs.Flows.{same_as}
use Rattle.bm_conn.specs.Slots.{slot_at, is_free, is_of}
use Rattle.bm_conn.specs.Inside.Slots.{IsWalked}
use Rattle.bm_conn.proofs.Walks.{walked_none, walked_more, walked_all}
use Rattle.bm_conn.proofs.slot.seek.Goals as goal

pub loop-init : goal.loop-init
loop-init c =
    let some : 1 ≤ length c.args.places.now = omega (arith, c.requires.free.1)
    in subst (λ (place : ℕ). IsWalked c.args.places.now c.args.flow.now place 0) (sym c.home-place.ensures.home)
    (walked_none c.args.places.now c.args.flow.now some)

pub loop-preserved : goal.loop-preserved
loop-preserved c =
    let is : slot_at c.args.places.now c.loop.place ≡ Used c.in-Used.other c.in-Used.field-1 = c.in-Used.is
    in let used : is_free (slot_at c.args.places.now c.loop.place) ≡ false = ap (λ (x : Slot). is_free x) is
    in let apart : same_flow c.in-Used.other c.args.flow.now ≡ false =
    sym (same_as c.in-Used.other c.args.flow.now) ∙ (sym c.eq.ensures ∙ c.if-eq.false)
    in let other : is_of c.args.flow.now (slot_at c.args.places.now c.loop.place) ≡ false =
    ap (λ (x : Slot). is_of c.args.flow.now x) is ∙ apart
    in subst (λ (place : ℕ). IsWalked c.args.places.now c.args.flow.now place (c.loop.counter + 1))
    (sym c.after-place.ensures)
    (walked_more c.args.places.now c.args.flow.now c.loop.place c.loop.counter c.loop.invariant c.loop-test.true used
    other)

pub returns : goal.returns
returns c =
    absurd (walked_all c.args.places.now c.args.flow.now c.loop.place c.loop.counter c.requires.free.0 c.loop.invariant
    (omega arith) c.requires.free.1 c.requires.free.2)

use Rattle.std.proofs.Common.{◌≡◌, ℕ, length, refl, subst}
use Rattle.bm_conn.specs.declared.slot.Slot.TheVariants.{Free}
use Rattle.bm_conn.specs.Slots.{slot_at}
use Rattle.bm_conn.specs.Inside.Slots.{after}
use Rattle.bm_conn.proofs.Holes.{shifting_none, shifting_stop, shifting_all, shifted}
use Rattle.bm_conn.proofs.slot.close_up.Goals as goal

pub loop-init : goal.loop-init
loop-init c = record {
  state = shifting_none c.args.places.now (length c.args.places.now) c.args.start refl c.requires.spare c.requires.hole;
  same = record { size = refl; count = refl; once = c.requires.once; each = λ f. refl };
}

pub returns-in-Free-clause-reached : goal.returns-in-Free-clause-reached
returns-in-Free-clause-reached c =
    let free : slot_at c.loop.places (after (length c.args.places.now) c.loop.place) ≡ Free =
    subst (λ (m : ℕ). slot_at c.loop.places m ≡ Free) c.after-place.ensures c.in-Free.is
    in shifting_stop c.loop.places (length c.args.places.now) c.args.start c.loop.hole c.loop.place c.loop.counter
    c.loop.invariant.state c.loop-test.true free

pub loop-preserved : goal.loop-preserved
loop-preserved c =
    let both =
    shifted c.args.places.now c.loop.places c.shift-hole.new.places (length c.args.places.now) c.args.start
    c.loop.hole c.loop.place c.loop.counter c.in-Used.flow c.in-Used.field-1 c.after-place.result
    c.shift-hole.result
    c.loop.invariant.state c.loop-test.true c.after-place.ensures c.in-Used.is c.loop.invariant.same
    c.shift-hole.ensures
    in record { state = both.0; same = both.1 }

pub returns-clause-reached : goal.returns-clause-reached
returns-clause-reached c =
    absurd (shifting_all c.loop.places (length c.args.places.now) c.args.start c.loop.hole c.loop.place c.loop.counter
    c.loop.invariant.state c.loop-test.false)

use Rattle.std.proofs.Common.{◌≡◌, ◌+◌, true, length, set, None, refl, ap, ◌∙◌, arith, length-set}
use Rattle.bm_conn.specs.declared.slot.Slot.{Slot}
use Rattle.bm_conn.specs.declared.slot.Slot.TheVariants.{Free, Used}
use Rattle.bm_conn.specs.Connections.{receiver_in}
use Rattle.bm_conn.specs.Slots.{slot_at, is_free}
use Rattle.bm_conn.specs.Inside.Slots.{used}
use Rattle.bm_conn.proofs.Filled.{length_freed, once_freed, receiver_at}
use Rattle.bm_conn.proofs.Reached.{found_none}
use Rattle.bm_conn.proofs.Changes.{stop_used, absent_puts, taken_puts}
use Rattle.bm_conn.proofs.slot.take.Goals as goal

pub close_up-requires-clause-spare : goal.close_up-requires-clause-spare
close_up-requires-clause-spare c =
    let fewer : length (used (set c.args.places.now c.args.found.place Free)) + 1 ≡ length (used c.args.places.now) =
    length_freed c.args.places.now c.args.found.place c.in-Used.field-0 c.in-Used.field-1
    c.requires.found.place.within c.in-Used.is
    in let size : length (set c.args.places.now c.args.found.place Free) ≡ length c.args.places.now =
    length-set c.args.places.now c.args.found.place Free
    in omega arith

pub close_up-requires-clause-once : goal.close_up-requires-clause-once
close_up-requires-clause-once c = once_freed c.args.places.now c.args.found.place c.requires.placed.once

-- where the walk ends at a free slot, the flow isn't there
none : (c : goal.In-Free) → receiver_in (used c.args.places.now) c.args.found.flow ≡ None
none c =
    let free : is_free (slot_at c.args.places.now c.args.found.place) ≡ true =
    ap (λ (x : Slot). is_free x) c.in-Free.is
    in found_none c.args.places.now c.args.found.flow c.args.found.place c.requires.placed.reached
    c.requires.found.place.within free c.requires.found.place.passed

pub returns-in-Free-clause-there : goal.returns-in-Free-clause-there
returns-in-Free-clause-there c = rw (c.requires.found.receiver ∙ none c) refl

pub returns-in-Free-clause-puts : goal.returns-in-Free-clause-puts
returns-in-Free-clause-puts c = absent_puts c.args.places.now c.args.found.flow c.requires.placed (none c)

pub returns-in-Used-clause-there : goal.returns-in-Used-clause-there
returns-in-Used-clause-there c =
    let at : slot_at c.args.places.now c.args.found.place ≡ Used c.args.found.flow c.in-Used.field-1 =
    stop_used c.args.places.now c.args.found.flow c.args.found.place c.in-Used.field-0 c.in-Used.field-1
    c.requires.found.place.stops c.in-Used.is
    in rw (c.requires.found.receiver
    ∙ receiver_at c.args.places.now c.args.found.place c.args.found.flow c.in-Used.field-1
    c.requires.found.place.within at c.requires.placed.once) refl

pub returns-in-Used-clause-puts : goal.returns-in-Used-clause-puts
returns-in-Used-clause-puts c =
    let at : slot_at c.args.places.now c.args.found.place ≡ Used c.args.found.flow c.in-Used.field-1 =
    stop_used c.args.places.now c.args.found.flow c.args.found.place c.in-Used.field-0 c.in-Used.field-1
    c.requires.found.place.stops c.in-Used.is
    in (taken_puts c.args.places.now c.close_up.new.places c.args.found.place c.args.found.flow c.in-Used.field-1
    c.requires.found.place.within at c.requires.placed c.close_up.ensures.reached c.close_up.ensures.same).0

pub returns-in-Used-clause-count : goal.returns-in-Used-clause-count
returns-in-Used-clause-count c =
    let at : slot_at c.args.places.now c.args.found.place ≡ Used c.args.found.flow c.in-Used.field-1 =
    stop_used c.args.places.now c.args.found.flow c.args.found.place c.in-Used.field-0 c.in-Used.field-1
    c.requires.found.place.stops c.in-Used.is
    in (taken_puts c.args.places.now c.close_up.new.places c.args.found.place c.args.found.flow c.in-Used.field-1
    c.requires.found.place.within at c.requires.placed c.close_up.ensures.reached c.close_up.ensures.same).1

use Rattle.std.proofs.Common.{◌≡◌, ◌++◌, ◌∙◌, List, Bor, ap, arith, length, map, sym}
use Rattle.bm_core.specs.declared.events.Event.{Event}
use Rattle.bm_merge.specs.Merges.{joined}
use Rattle.bm_merge.specs.Rising.{in_order}
use Rattle.bm_merge.proofs.Halving.{on_ok_both, order_of_parts, parts_of}
use Rattle.bm_merge.proofs.beside.+halves.Goals as goal

abbrev now : Bor (List Event) → List Event
now log = log.now

pub fill_beside-split_at_mut-front-requires : goal.fill_beside-split_at_mut-front-requires
fill_beside-split_at_mut-front-requires g t c =
    let halves = c.in_ok-halves.halves in
    let parts = parts_of _ (map now c.args.logs.now) (map now halves.low.items) (map now halves.high.items)
    c.in_ok-halves.ensures c.requires.rising in
    let size = parts.size in
    let is = ap (λ l. length (joined (map now l))) c.as_slice-low.ensures.value in
    let room = c.room_of.ensures in
    let count = c.requires.count in
    omega arith

pub fill_beside-fill_halves-requires-clause-low_rises :
    goal.fill_beside-fill_halves-requires-clause-low_rises
fill_beside-fill_halves-requires-clause-low_rises g t c κs within =
    let halves = c.in_ok-halves.halves in
    let parts = parts_of _ (map now c.args.logs.now) (map now halves.low.items) (map now halves.high.items)
    c.in_ok-halves.ensures c.requires.rising in
    rw c.as_slice-low.ensures.value parts.low_rises

pub fill_beside-fill_halves-requires-clause-high_rises :
    goal.fill_beside-fill_halves-requires-clause-high_rises
fill_beside-fill_halves-requires-clause-high_rises g t c κs within =
    let halves = c.in_ok-halves.halves in
    let parts = parts_of _ (map now c.args.logs.now) (map now halves.low.items) (map now halves.high.items)
    c.in_ok-halves.ensures c.requires.rising in
    rw c.as_slice-high.ensures.value parts.high_rises

pub fill_beside-fill_halves-requires-clause-high_count :
    goal.fill_beside-fill_halves-requires-clause-high_count
fill_beside-fill_halves-requires-clause-high_count g t c κs within =
    let halves = c.in_ok-halves.halves in
    let parts = parts_of _ (map now c.args.logs.now) (map now halves.low.items) (map now halves.high.items)
    c.in_ok-halves.ensures c.requires.rising in
    let size = parts.size in
    let is = ap (λ l. length (joined (map now l))) c.as_slice-low.ensures.value in
    let room = c.room_of.ensures in
    let count = c.requires.count in
    let back = c.split_at_mut-front.ensures.back_len in
    rw c.as_slice-high.ensures.value (omega arith)

pub fill_beside-returns : goal.fill_beside-returns
fill_beside-returns g t c =
    let halves = c.in_ok-halves.halves in
    let logs = map now c.args.logs.now in
    let parts = parts_of _ logs (map now halves.low.items) (map now halves.high.items)
    c.in_ok-halves.ensures c.requires.rising in
    on_ok_both c.fill_halves.result _ _
    (c.fill_halves.new.front ++ c.fill_halves.new.back ≡ in_order (joined logs))
    (λ front back.
    ap (λ (l : List Event). l ++ c.fill_halves.new.back)
    (front ∙ ap (λ l. in_order (joined (map now l))) c.as_slice-low.ensures.value)
    ∙ ap (λ (l : List Event). in_order (joined (map now halves.low.items)) ++ l)
    (back ∙ ap (λ l. in_order (joined (map now l))) c.as_slice-high.ensures.value)
    ∙ sym (order_of_parts _ logs (map now halves.low.items) (map now halves.high.items) parts))
    c.fill_halves.ensures.front c.fill_halves.ensures.back

use Rattle.std.proofs.Common.{◌≡◌, ℕ, ◌*◌, ◌/◌, ◌<◌, ◌≤◌, List, length, sym, subst, ◌∙◌, ap, arith}
use Rattle.std.specs.Vec.{with_items}
use Rattle.std.proofs.lemmas.List.{length-replicate, with_items_is}
use Rattle.bm_conn.specs.declared.slot.Slot.{Slot}
use Rattle.bm_conn.specs.declared.slot.Slot.TheVariants.{Free}
use Rattle.bm_conn.specs.Connections.{Connections, IsSame, HasRoom}
use Rattle.bm_conn.specs.Inside.Slots.{used, AreMoved}
use Rattle.bm_conn.specs.Views.{table_of}
use Rattle.bm_conn.proofs.Tables.{grown, grown_same, some_slots}
use Rattle.bm_conn.proofs.table.ConnTable.ready.Goals as goal

-- how many slots there are now
new_size : (c : goal.After-deref_mut) → length c.deref_mut.result.now ≡ 2 * length c.self.inside.slots.items
new_size c =
    let count : c.len-count.result ≡ length c.self.inside.slots.items = c.len-count.ensures ∙ c.self.inside.slots.ok.0
    in ap (λ (l : List Slot). length l) c.deref_mut.ensures.value
    ∙ (ap (λ (l : List Slot). length l) (c.in_ok-slots.ensures)
    ∙ (length-replicate (2 * c.len-count.result) Free ∙ ap (λ (n : ℕ). 2 * n) count))

pub move_all-requires-clause-spare : goal.move_all-requires-clause-spare
move_all-requires-clause-spare c =
    let size : length c.deref_mut.result.now ≡ 2 * length c.self.inside.slots.items = new_size c
    in let some : 8 ≤ length c.self.inside.slots.items =
    some_slots c.self.inside.slots.items c.self.inside.len c.self.inside.capacity c.self.invariant
    in let spare : length (used c.self.inside.slots.items) ≤ length c.self.inside.slots.items * 3 / 4 =
    c.self.invariant.spare
    in let less : length (used c.self.inside.slots.items) < length c.deref_mut.result.now = omega arith
    in subst (λ (l : List Slot). length (used l) < length c.deref_mut.result.now) (sym c.deref.ensures.value) less

-- the flows are in the new slots
moved : (c : goal.After-drop-self-inside)
    → AreMoved c.self.inside.slots.items (with_items c.in_ok-slots.slots c.move_all.new.places).items
    (2 * length c.self.inside.slots.items)
moved c =
    let size : length c.deref_mut.result.now ≡ 2 * length c.self.inside.slots.items =
    let count : c.len-count.result ≡ length c.self.inside.slots.items = c.len-count.ensures ∙ c.self.inside.slots.ok.0
    in ap (λ (l : List Slot). length l) c.deref_mut.ensures.value
    ∙ (ap (λ (l : List Slot). length l) (c.in_ok-slots.ensures)
    ∙ (length-replicate (2 * c.len-count.result) Free ∙ ap (λ (n : ℕ). 2 * n) count))
    in let all : AreMoved c.self.inside.slots.items c.move_all.new.places (length c.deref_mut.result.now) =
    subst (λ (l : List Slot). AreMoved l c.move_all.new.places (length c.deref_mut.result.now)) c.deref.ensures.value
    c.move_all.ensures
    in let long : length c.move_all.new.places ≡ c.in_ok-slots.slots.len =
    all.size ∙ (ap (λ (l : List Slot). length l) c.deref_mut.ensures.value ∙ sym c.in_ok-slots.slots.ok.0)
    in let is : (with_items c.in_ok-slots.slots c.move_all.new.places).items ≡ c.move_all.new.places =
    with_items_is c.in_ok-slots.slots c.move_all.new.places long
    in subst (λ (l : List Slot). AreMoved c.self.inside.slots.items l (2 * length c.self.inside.slots.items)) (sym is)
    (subst (λ (n : ℕ). AreMoved c.self.inside.slots.items c.move_all.new.places n) size all)

-- no more slots may be used
full : (c : goal.After-drop-self-inside) → length c.self.inside.slots.items * 3 / 4 ≤ c.self.inside.len
full c =
    let count : c.len-count.result ≡ length c.self.inside.slots.items = c.len-count.ensures ∙ c.self.inside.slots.ok.0
    in let most : c.len-count.result * 3 / 4 ≤ c.self.inside.len = c.if-self-most.false
    in subst (λ (n : ℕ). n * 3 / 4 ≤ c.self.inside.len) count most

pub invariant_of-self : goal.invariant_of-self
invariant_of-self c =
    grown c.self.inside.slots.items (with_items c.in_ok-slots.slots c.move_all.new.places).items c.self.inside.len
    c.self.inside.capacity c.self.invariant (full c) c.if-self.false (moved c)

pub returns-clause-room : goal.returns-clause-room
returns-clause-room c =
    subst (λ (old : Connections). IsSame old
    (table_of (with_items c.in_ok-slots.slots c.move_all.new.places).items c.self.inside.capacity)
    × HasRoom (table_of (with_items c.in_ok-slots.slots c.move_all.new.places).items c.self.inside.capacity))
    c.self.view_is
    (grown_same c.self.inside.slots.items (with_items c.in_ok-slots.slots c.move_all.new.places).items c.self.inside.len
    c.self.inside.capacity c.self.invariant (full c) (moved c))

use Rattle.std.proofs.Common.{◌≡◌, ◌+◌, ◌-◌, ◌*◌, ◌/◌, ◌≤◌, List, length, sym, subst, ◌∙◌, ap, arith}
use Rattle.std.specs.Vec.{with_items}
use Rattle.std.proofs.lemmas.List.{length-replicate}
use Rattle.bm_conn.specs.declared.table.Connection.{Connection}
use Rattle.bm_conn.specs.declared.slot.Slot.{Slot}
use Rattle.bm_conn.specs.declared.slot.Slot.TheVariants.{Free}
use Rattle.bm_conn.specs.Connections.{Connections}
use Rattle.bm_conn.specs.Inside.Slots.{used}
use Rattle.bm_conn.specs.Views.{IsTable}
use Rattle.bm_conn.proofs.Changes.{free_used}
use Rattle.bm_conn.proofs.Tables.{wiped, wiped_items}
use Rattle.bm_conn.proofs.table.ConnTable.clear.Goals as goal

pub invariant_of-self : goal.invariant_of-self
invariant_of-self c =
    subst (λ (l : List Slot). IsTable l 0 c.self.inside.capacity)
    (sym (wiped_items c.self.inside.slots c.deref_mut.result.now c.wipe.new.places c.deref_mut.ensures.value
    c.wipe.ensures)) (wiped c.self.inside.slots.items c.self.inside.len c.self.inside.capacity c.self.invariant)

pub returns-clause-empty : goal.returns-clause-empty
returns-clause-empty c =
    ap (λ (l : List Slot). used l)
    (wiped_items c.self.inside.slots c.deref_mut.result.now c.wipe.new.places c.deref_mut.ensures.value c.wipe.ensures)
    ∙ free_used (length c.self.inside.slots.items)

pub returns-clause-room : goal.returns-clause-room
returns-clause-room c =
    let size : length (with_items c.self.inside.slots c.wipe.new.places).items ≡ length c.self.inside.slots.items =
    ap (λ (l : List Slot). length l)
    (wiped_items c.self.inside.slots c.deref_mut.result.now c.wipe.new.places c.deref_mut.ensures.value
    c.wipe.ensures) ∙ length-replicate (length c.self.inside.slots.items) Free
    in let none : length (used (with_items c.self.inside.slots c.wipe.new.places).items) ≡ 0 =
    ap (λ (l : List Slot). length (used l))
    (wiped_items c.self.inside.slots c.deref_mut.result.now c.wipe.new.places c.deref_mut.ensures.value c.wipe.ensures)
    ∙ ap (λ (l : List Connection). length l) (free_used (length c.self.inside.slots.items))
    in let spare : length (used c.self.inside.slots.items) ≤ length c.self.inside.slots.items * 3 / 4 =
    c.self.invariant.spare
    in subst (λ (old : Connections). length (with_items c.self.inside.slots c.wipe.new.places).items * 3 / 4 - length
    (used (with_items c.self.inside.slots c.wipe.new.places).items) ≡ old.room + length old.connections) c.self.view_is
    (omega arith)

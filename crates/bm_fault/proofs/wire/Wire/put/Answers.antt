use Rattle.std.proofs.Common.{List, leb, rules, ap, ◌∙◌}
use Rattle.std.proofs.lemmas.List.Sorted.{IsPartitionPoint-from_clause, IsPartitionedBy-leb}
use Rattle.bm_fault.specs.declared.wire.Queued.{Queued}
use Rattle.bm_fault.specs.Flying.{Flying}
use Rattle.bm_fault.specs.Views.{flying_of}
use Rattle.bm_fault.specs.Wires.{put_flying}
use Rattle.bm_fault.proofs.WireLemmas.{non_decreasing, put_at, rising_put}
use Rattle.bm_fault.proofs.wire.Wire.put.Goals as goal

pub invariant_of-self-2 : goal.invariant_of-self-2
invariant_of-self-2 c =
    let qs = c.self.inside.flights.items in
    let x : Queued = record { due = c.args.due; flight = c.args.flight } in
    let parted = IsPartitionedBy-leb (λ (q : Queued). q.due.0) qs x.due.0 (non_decreasing 0 qs c.self.invariant) in
    let point = IsPartitionPoint-from_clause (λ (q : Queued). leb q.due.0 x.due.0) _ _
    c.partition_point-place.ensures.partitioned parted (λ a r q k. search rules) in
    rising_put (flying_of x) _ _ (put_at x qs _ _ c.in_ok-put_at.ensures.items point) c.self.invariant

pub returns : goal.returns
returns c =
    let qs = c.self.inside.flights.items in
    let x : Queued = record { due = c.args.due; flight = c.args.flight } in
    let parted = IsPartitionedBy-leb (λ (q : Queued). q.due.0) qs x.due.0 (non_decreasing 0 qs c.self.invariant) in
    let point = IsPartitionPoint-from_clause (λ (q : Queued). leb q.due.0 x.due.0) _ _
    c.partition_point-place.ensures.partitioned parted (λ a r q k. search rules) in
    put_at x qs _ _ c.in_ok-put_at.ensures.items point
    ∙ ap (λ (fs : List Flying). put_flying (flying_of x) fs) c.self.view_is

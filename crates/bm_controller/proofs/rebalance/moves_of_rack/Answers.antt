use Rattle.std.proofs.Common.{◌<◌, length, sum, get_or, ap, sym, ◌∙◌, subst, arith}
use Rattle.std.proofs.lemmas.List.{length-map}
use Rattle.std.specs.List.{All}
use Rattle.bm_controller.proofs.MemberFacts.{all_weights, length-weights_of}
use Rattle.bm_controller.proofs.RackParts.{length-owners_of_part, length-servers_of, moves-same, part_size-le}
use Rattle.bm_controller.proofs.RackParts.{numbers-rack, rising-rack, weights-rack}
use Rattle.bm_controller.proofs.rebalance.moves_of_rack.Goals as goal
use Rattle.bm_controller.specs.Controlled as controlled
use Rattle.bm_quota.specs.Parts.{part_size}
use Rattle.bm_quota.specs.Rebalancing.{quota, quota_of}
use Rattle.bm_table.specs.Settings.{IsWithin, RiseFrom}

pub quotas-requires-clause-rising : goal.quotas-requires-clause-rising
quotas-requires-clause-rising c =
    let servers = c.as_slice-3.ensures.value ∙ c.in_ok-servers.ensures
    ∙ ap controlled.servers_of (c.as_slice.ensures.value ∙ c.in_ok-mates.ensures)
    in subst (RiseFrom 0) (sym servers) (rising-rack c.args.rack c.args.members.now c.requires.rising)

pub quotas-requires-clause-some : goal.quotas-requires-clause-some
quotas-requires-clause-some c =
    let servers = c.as_slice-3.ensures.value ∙ c.in_ok-servers.ensures
    ∙ ap controlled.servers_of (c.as_slice.ensures.value ∙ c.in_ok-mates.ensures)
    in omega (
      arith,
      ap length servers,
      length-servers_of (controlled.in_rack c.args.rack c.args.members.now),
      c.requires.some,
    )

pub quotas-requires-clause-count : goal.quotas-requires-clause-count
quotas-requires-clause-count c =
    let servers = c.as_slice-3.ensures.value ∙ c.in_ok-servers.ensures
    ∙ ap controlled.servers_of (c.as_slice.ensures.value ∙ c.in_ok-mates.ensures)
    in let weights = c.as_slice-4.ensures.value ∙ c.in_ok-weights.ensures
    ∙ ap controlled.weights_of (c.as_slice-2.ensures.value ∙ c.in_ok-mates.ensures)
    in ap length weights ∙ length-weights_of (controlled.in_rack c.args.rack c.args.members.now)
    ∙ sym (ap length servers)

pub quotas-requires-clause-range : goal.quotas-requires-clause-range
quotas-requires-clause-range c =
    let weights = c.as_slice-4.ensures.value ∙ c.in_ok-weights.ensures
    ∙ ap controlled.weights_of (c.as_slice-2.ensures.value ∙ c.in_ok-mates.ensures)
    in subst (All (IsWithin 1 1000)) (sym weights)
    (all_weights (controlled.in_rack c.args.rack c.args.members.now)
    (weights-rack c.args.rack c.args.members.now c.requires.weights))

pub overflow_cast-buckets : goal.overflow_cast-buckets
overflow_cast-buckets c =
    let owned = c.as_slice-owned.ensures.value ∙ c.in_ok-made.ensures
    in omega (
      arith,
      ap length owned,
      length-owners_of_part (λ b. get_or c.args.owners.now b (record { 0 = 0 })) c.args.racks c.args.rack
          (part_size (length c.args.owners.now) c.args.racks c.args.rack),
      part_size-le (length c.args.owners.now) c.args.racks c.args.rack c.requires.rack,
      c.requires.buckets,
    )

pub moves_in-requires-clause-numbers : goal.moves_in-requires-clause-numbers
moves_in-requires-clause-numbers c =
    let servers = c.as_slice-5.ensures.value ∙ c.in_ok-servers.ensures
    ∙ ap controlled.servers_of (c.as_slice.ensures.value ∙ c.in_ok-mates.ensures)
    in subst (All (λ s. s.0 < length c.args.rooms.now)) (sym servers)
    (numbers-rack c.args.rack c.args.members.now (length c.args.rooms.now) c.requires.numbers)

pub moves_in-requires-clause-rising : goal.moves_in-requires-clause-rising
moves_in-requires-clause-rising c =
    let servers = c.as_slice-5.ensures.value ∙ c.in_ok-servers.ensures
    ∙ ap controlled.servers_of (c.as_slice.ensures.value ∙ c.in_ok-mates.ensures)
    in subst (RiseFrom 0) (sym servers) (rising-rack c.args.rack c.args.members.now c.requires.rising)

pub moves_in-requires-clause-count : goal.moves_in-requires-clause-count
moves_in-requires-clause-count c =
    ap length (c.as_slice-6.ensures.value ∙ c.in_ok-quotas.ensures.parts)
    ∙ length-map c.as_slice-3.result.now (quota _ (quota_of c.as_slice-3.result.now c.as_slice-4.result.now)
    c.as_slice-3.result.now)
    ∙ ap length (c.as_slice-3.ensures.value ∙ sym c.as_slice-5.ensures.value)

pub moves_in-requires-clause-buckets : goal.moves_in-requires-clause-buckets
moves_in-requires-clause-buckets c =
    let owned = c.as_slice-owned.ensures.value ∙ c.in_ok-made.ensures
    in omega (
      arith,
      ap length owned,
      length-owners_of_part (λ b. get_or c.args.owners.now b (record { 0 = 0 })) c.args.racks c.args.rack
          (part_size (length c.args.owners.now) c.args.racks c.args.rack),
      part_size-le (length c.args.owners.now) c.args.racks c.args.rack c.requires.rack,
      c.requires.buckets,
    )

pub moves_in-requires-clause-total : goal.moves_in-requires-clause-total
moves_in-requires-clause-total c =
    let total = ap sum c.as_slice-6.ensures.value ∙ c.in_ok-quotas.ensures.total
    in omega (arith, total, moves_in-requires-clause-buckets c)

pub returns-clause-moves : goal.returns-clause-moves
returns-clause-moves c =
    let mates = c.as_slice.ensures.value ∙ c.in_ok-mates.ensures
    in let owned = c.as_slice-owned.ensures.value ∙ c.in_ok-made.ensures
    in let size =
    length-owners_of_part (λ b. get_or c.args.owners.now b (record { 0 = 0 })) c.args.racks c.args.rack
    (part_size (length c.args.owners.now) c.args.racks c.args.rack)
    in let few =
    part_size-le (length c.args.owners.now) c.args.racks c.args.rack c.requires.rack
    in moves-same c.in_ok-moves.ensures.chosen owned
    (c.as_slice-5.ensures.value ∙ c.in_ok-servers.ensures ∙ ap controlled.servers_of mates)
    (c.as_slice-6.ensures.value ∙ c.in_ok-quotas.ensures.parts)
    (omega (arith, ap length owned, size, few, c.requires.buckets))
    (c.as_slice-3.ensures.value ∙ c.in_ok-servers.ensures ∙ ap controlled.servers_of mates)
    (c.as_slice-4.ensures.value ∙ c.in_ok-weights.ensures
    ∙ ap controlled.weights_of (c.as_slice-2.ensures.value ∙ c.in_ok-mates.ensures))

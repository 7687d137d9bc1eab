use Rattle.std.proofs.Common.{◌≡◌, ℕ, ◌+◌, ◌≤◌, List, slice_get, Some}
use Rattle.bm_merge.specs.Notes.{Note}
use Rattle.bm_server.specs.Servings.{Serving}
use Rattle.bm_worker.specs.WorkerNotes.{IsSameCaller}
use Rattle.bm_lead.specs.Inside.Steps.{AreRetirings, HasCalled}
use Rattle.bm_lead.proofs.command.retire_shards.Given as goal

abbrev pub invariant-loop-shard : goal.invariant-loop-shard
invariant-loop-shard g l =
    IsSameCaller l.fn.caller l.caller × (l.caller.tries ≤ l.fn.caller.tries + l.shard)
    × ((i : ℕ) (server : Serving) → slice_get l.shared.servers l.place ≡ Some server
    → (notes : List Note) × AreRetirings i server.id l.at l.outcome l.shard notes
    × HasCalled l.shared.stage l.shared.servers l.shard l.fn.caller l.caller notes)

-- What the contracts of private calls and the proofs of bodies use in addition to Entries.
use Rattle.std.specs.Prelude.{ℕ, List, None}
use Rattle.std.specs.Prelude.{slice_index_or}
use Rattle.bm_base.specs.declared.ids.ServerId.{ServerId}
use Rattle.bm_base.specs.declared.label.Entry.{Entry}

-- the server of bucket b
abbrev pub server_in : List Entry → ℕ → ServerId
server_in entries b =
    (slice_index_or entries b (record { cur = record { 0 = 0 }; prev = None; older = None })).cur

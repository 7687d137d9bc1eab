-- What the code keeps of the servers of buckets.
use Rattle.std.specs.Prelude.{◌≡◌, ℕ, ◌<◌, ◌≤◌, List, [], ◌∷◌, length, slice_index_or, slice_set}
use Rattle.bm_base.specs.declared.ids.ServerId.{ServerId}
use Rattle.bm_table.specs.declared.plan.Move.{Move}
use Rattle.bm_connections.specs.declared.owned.Owners.TheInside.{Inside}
use Rattle.bm_connections.specs.Owned.{owned_by}
use Rattle.bm_connections.specs.Owning.{Owning}

abbrev pub owning : Inside → Owning
owning o = record { owners = o.owners.items; servers = length o.counts.items }

-- each server's number of buckets is kept
abbrev pub AreCounted : List ServerId → List ℕ → Type 0
AreCounted owners counts =
    (n : ℕ) → n < length counts → slice_index_or counts n 0 ≡ owned_by owners n

pub record IsOwning (o : Inside) : Type 0 where
  pub few : length o.counts.items ≤ 65535
  pub counted : AreCounted o.owners.items o.counts.items

-- after the move of a bucket
abbrev pub gone : Move → List ServerId → List ServerId
gone m owners = slice_set owners m.bucket m.to

-- after these moves, in their order
abbrev pub all_gone : List Move → List ServerId → List ServerId
all_gone [] owners = owners
all_gone (m ∷ moves) owners = all_gone moves (gone m owners)

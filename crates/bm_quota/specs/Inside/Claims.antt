-- How much servers lack to one more bucket, and which claim comes next.
use Rattle.std.specs.Prelude.{◌≡◌, ℕ, ◌-◌, ◌*◌, ◌/◌, ◌%◌, Bool, ◌&&◌, ◌||◌, ◌==◌, nat_lt, List, ◌∷◌, ◌++◌, length}
use Rattle.std.specs.List.Sorted.{IsPermutation, IsSplitAroundBy}
use Rattle.bm_base.specs.declared.ids.ServerId.{ServerId}
use Rattle.bm_quota.specs.declared.share.Claim.{Claim}
use Rattle.bm_quota.specs.declared.share.Part.{Part}

-- a server's whole buckets and its claim, where the weights together are `total`
abbrev pub part_of : ℕ → ℕ → ServerId → ℕ → Part
part_of buckets total server weight = record {
  share = buckets * weight / total;
  claim = record { lacks = total - buckets * weight % total; server = server };
}

abbrev pub is_met_before : Claim → Claim → Bool
is_met_before a b = nat_lt a.lacks b.lacks || a.lacks == b.lacks && nat_lt a.server.0 b.server.0

-- in the order of the claims this one has that many before it
pub record StandsAt (claims : List Claim) (place : ℕ) (claim : Claim) : Type 0 where
  pub front : List Claim
  pub back : List Claim
  pub all : IsPermutation claims (front ++ claim ∷ back)
  pub count : length front ≡ place
  pub split : IsSplitAroundBy is_met_before front claim back

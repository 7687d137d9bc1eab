-- Which buckets leave a server, and the least of them. Only the proofs of bodies use this.
use Rattle.std.specs.Prelude.{◌≡◌, ℕ, ◌<◌, min, Bool, true, false, ◌==◌, nat_le, if◌then◌else◌}
use Rattle.std.specs.Prelude.{List, [], ◌∷◌, Option, Some, None}
use Rattle.std.specs.BTreeMap.{get}
use Rattle.std.specs.List.{list_any}
use Rattle.std.specs.Ordering.{nat_cmp}
use Rattle.bm_base.specs.declared.ids.ServerId.{ServerId}
use Rattle.bm_table.specs.declared.plan.Move.{Move}
use Rattle.bm_table.specs.declared.plan.Step.{Step}
use Rattle.bm_table.specs.Tables.{is_drain}

-- b is the least number that passes the test, or no number passes
abbrev pub IsLeast : (ℕ → Bool) → Option ℕ → Type 0
IsLeast test None = (b : ℕ) → test b ≡ false
IsLeast test (Some b) = (test b ≡ true) × ((other : ℕ) → other < b → test other ≡ false)

-- the lesser of the numbers that are there
abbrev pub lesser_of : Option ℕ → Option ℕ → Option ℕ
lesser_of None y = y
lesser_of (Some x) None = Some x
lesser_of (Some x) (Some y) = Some (min x y)

-- the first bucket that leaves the server of this number, given the server of each bucket
abbrev pub first_left : (ℕ → ServerId) → List Move → ℕ → Option ℕ
first_left server [] s = None
first_left server (m ∷ moves) s =
    if (server m.bucket).0 == s then Some m.bucket else first_left server moves s

-- the least bucket that left the server by a step that isn't before a moment
abbrev pub step_left : Step → ServerId → ℕ → Option ℕ
step_left step s since =
    if nat_le since step.change.moment.0 then get nat_cmp step.left s.0 else None

abbrev pub least_since : List Step → ServerId → ℕ → Option ℕ
least_since [] s since = None
least_since (step ∷ steps) s since = lesser_of (step_left step s since) (least_since steps s since)

abbrev pub has_drain : List Step → ServerId → Bool
has_drain steps s = list_any (λ step. is_drain step.change.kind s) steps

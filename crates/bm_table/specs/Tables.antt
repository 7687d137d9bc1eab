-- The table of a version, computed from the plan's changes, and when a server may retire.
use Rattle.std.specs.Prelude.{◌≡◌, ◌≢◌, ℕ, zero, suc, ◌+◌, ◌%◌, ◌<◌, ◌≤◌, Bool, true, false, ◌&&◌}
use Rattle.std.specs.Prelude.{◌||◌, ◌==◌, nat_le, if◌then◌else◌, List, [], ◌∷◌, length, Option}
use Rattle.std.specs.Prelude.{Some, None, slice_get, slice_index_or, IfSome, is_some}
use Rattle.bm_base.specs.declared.ids.ServerId.{ServerId}
use Rattle.bm_base.specs.declared.label.Entry.{Entry}
use Rattle.bm_table.specs.declared.plan.Move.{Move}
use Rattle.bm_table.specs.declared.plan.Change.{Change}
use Rattle.bm_table.specs.Planned.{Planned}
use Rattle.bm_table.specs.declared.plan.Kind.{Kind}
use Rattle.bm_table.specs.declared.plan.Kind.TheVariants.{Add, Drain}
use Rattle.bm_table.specs.declared.plan.Retirement.{Retirement}
use Rattle.bm_table.specs.declared.plan.Retirement.TheVariants.{Done, NotDrained, TooEarly}

-- the servers are the same
abbrev pub same_server : ServerId → ServerId → Bool
same_server a b = a.0 == b.0

-- the server to which these moves bring the bucket
abbrev pub target : List Move → ℕ → Option ServerId
target [] b = None
target (m ∷ moves) b = if m.bucket == b then Some m.to else target moves b

-- the server to which the change brings the bucket
abbrev pub brings : Option Change → ℕ → Option ServerId
brings None b = None
brings (Some c) b = target c.moves b

-- the change that leads from version v to the next
abbrev pub next_change : Planned → ℕ → Option Change
next_change plan v = slice_get plan.changes v

-- the change after version v moves the bucket
abbrev pub moves_next : Planned → ℕ → ℕ → Bool
moves_next plan v b = is_some (brings (next_change plan v) b)

-- the moment of the change, or 0 if there is none
abbrev pub change_moment : Option Change → ℕ
change_moment None = 0
change_moment (Some c) = c.moment.0

-- an entry after its bucket was brought to a server, or not
abbrev pub moved : Entry → ℕ → Option ServerId → Entry
moved old at None = old
moved old at (Some to) = record {
  cur = to;
  prev = Some (record { server = old.cur; stamp = record { 0 = at } });
  older = old.prev;
}

-- bucket b opens on server number `b mod n` of the list
abbrev pub opening : Planned → ℕ → Entry
opening plan b = record {
  cur = slice_index_or plan.servers (b % length plan.servers) (record { 0 = 0 });
  prev = None;
  older = None;
}

-- the entry of a bucket after the first v changes
abbrev pub table : Planned → ℕ → ℕ → Entry
table plan zero b = opening plan b
table plan (suc v) b =
    moved (table plan v b) (change_moment (next_change plan v)) (brings (next_change plan v) b)

-- how many of the changes w + 1 to v move the bucket
abbrev pub moves : Planned → ℕ → ℕ → ℕ → ℕ
moves plan b w zero = 0
moves plan b w (suc v) =
    if nat_le w v && moves_next plan v b then suc (moves plan b w v) else moves plan b w v

-- a change of this kind drains the server
abbrev pub is_drain : Kind → ServerId → Bool
is_drain (Drain t) s = same_server t s
is_drain _ s = false

-- there is a change, and it drains the server
abbrev pub drains : Option Change → ServerId → Bool
drains None s = false
drains (Some c) s = is_drain c.kind s

-- one of the first n changes drains the server
abbrev pub is_drained : Planned → ℕ → ServerId → Bool
is_drained plan zero s = false
is_drained plan (suc n) s = drains (next_change plan n) s || is_drained plan n s

-- one of the first n changes moved the bucket away from the server too late for it to retire at
-- this moment
abbrev pub leaves_late : Planned → ℕ → ℕ → ServerId → ℕ → ℕ → Bool
leaves_late plan timeout zero s at b = false
leaves_late plan timeout (suc n) s at b =
    (moves_next plan n b && same_server (table plan n b).cur s
    && nat_le at (change_moment (next_change plan n) + timeout))
    || leaves_late plan timeout n s at b

-- the answer to a request to retire the server at this moment, when n changes are published.
-- `TooEarly` names the lowest bucket that left the server too late.
abbrev pub IsRetirement : Planned → ℕ → ℕ → ServerId → ℕ → Retirement → Type 0
IsRetirement plan timeout n s at NotDrained = is_drained plan n s ≡ false
IsRetirement plan timeout n s at (TooEarly b) =
    (is_drained plan n s ≡ true)
    × (leaves_late plan timeout n s at b ≡ true)
    × ((other : ℕ) → other < b → leaves_late plan timeout n s at other ≡ false)
IsRetirement plan timeout n s at Done =
    (is_drained plan n s ≡ true) × ((b : ℕ) → leaves_late plan timeout n s at b ≡ false)

-- a change of this kind adds the server
abbrev pub is_add : Kind → ServerId → Bool
is_add (Add t) s = same_server t s
is_add _ s = false

-- there is a change, and it adds the server
abbrev pub adds : Option Change → ServerId → Bool
adds None s = false
adds (Some c) s = is_add c.kind s

-- the server is one of these
abbrev pub is_among : List ServerId → ServerId → Bool
is_among [] s = false
is_among (t ∷ servers) s = same_server t s || is_among servers s

-- an opening server, or one that the first n changes add
abbrev pub is_known : Planned → ℕ → ServerId → Bool
is_known plan zero s = is_among plan.servers s
is_known plan (suc n) s = adds (next_change plan n) s || is_known plan n s

-- what holds of a plan that was made by commands, one change after another
pub record IsOrderly (plan : Planned) : Type 0 where
  -- each move's target is known
  pub known : (v b : ℕ)
      → IfSome (brings (next_change plan v) b) (λ to. is_known plan (suc v) to ≡ true)
  -- stamps never decrease
  pub stamps : (v w : ℕ) → v ≤ w → w < length plan.changes
      → change_moment (next_change plan v) ≤ change_moment (next_change plan w)
  -- each move changes its bucket's server
  pub changes : (v b : ℕ) → IfSome (brings (next_change plan v) b) (λ to. to ≢ (table plan v b).cur)
  -- after the change that drains a server no bucket is at it
  pub drained : (n v b : ℕ) (s : ServerId) → is_drained plan n s ≡ true → n ≤ v
      → v ≤ length plan.changes → b < plan.buckets → (table plan v b).cur ≢ s

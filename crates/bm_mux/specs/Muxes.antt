-- A mux, and what its calls do (docs/DEFINITIONS.md). A log has its oldest event first.
use Rattle.std.specs.Prelude.{◌≡◌, ℕ, zero, suc, ◌*◌, ◌^◌, ◌<◌, ◌≤◌, max, List, [], ◌∷◌, ◌++◌}
use Rattle.std.specs.Prelude.{length, reverse, slice_get, Option, Some}
use Rattle.std.specs.List.{AllByRecursion}
use Rattle.bm_base.specs.declared.ids.MuxId.{MuxId}
use Rattle.bm_base.specs.Tags.{IsServer}
use Rattle.bm_table.specs.Planned.{Planned}
use Rattle.bm_table.specs.Tables.{table}
use Rattle.bm_core.specs.declared.events.Event.{Event}
use Rattle.bm_core.specs.declared.events.What.{What}
use Rattle.bm_core.specs.declared.events.What.TheVariants.{Switch, Steer, Lose}
use Rattle.bm_core.specs.Past.{version_at}
use Rattle.bm_publish.specs.Posts.{Continues, IsPosted, Posted, last_post, last_version}
use Rattle.bm_mux.specs.declared.item.MuxItem.{MuxItem}
use Rattle.bm_mux.specs.declared.item.Steered.{Steered}
use Rattle.bm_mux.specs.Steers.{clock_under, sent, steers, switch_to, switches}

-- a mux, as contracts see it
pub record MuxState : Type 0 where
  pub id : MuxId
  -- the posts that its look has seen or learned of
  pub seen : Posted
  pub log : List Event

-- in each version the server of each bucket has a valid number
abbrev pub HasServers : Planned → Type 0
HasServers plan =
    (v b : ℕ) → v ≤ length plan.changes → b < plan.buckets → IsServer (table plan v b).cur

-- the item's moment and octets are within their limits
abbrev pub IsItem : MuxItem → Type 0
IsItem i = (i.moment.0 ≤ 44 * 10 ^ 17) × (length i.inner.now ≤ 65479)

-- THE LOG

-- an event in the log of this mux
abbrev pub IsOwn : MuxId → What → Type 0
IsOwn m (Switch x v) = x ≡ m
IsOwn m (Steer k x) = x ≡ m
IsOwn m (Lose k hop) = Unit {0}
IsOwn m _ = ⊥

-- the clock of the post of this version; 0 for version 0
abbrev pub post_clock : List ℕ → ℕ → Option ℕ
post_clock clocks zero = Some 0
post_clock clocks (suc v) = slice_get clocks v

-- a Switch is to version 0 or to that of one of these posts, which has a lower clock
abbrev pub IsShown : List ℕ → ℕ → What → Type 0
IsShown clocks clock (Switch m v) =
    (post : ℕ) × (post_clock clocks v.0 ≡ Some post) × (post < clock)
IsShown clocks clock _ = Unit {0}

-- the events may be in the log of a mux that was shown these posts
abbrev pub AreShown : MuxId → List ℕ → List Event → Type 0
AreShown m clocks log = AllByRecursion (λ e. IsOwn m e.what × IsShown clocks e.clock.0 e.what) log

-- the log of a mux that was shown a beginning of these posts
pub record IsLogOf (mux : MuxState) (posted : Posted) (log : List Event) : Type 0 where
  pub log_is : log ≡ mux.log
  pub posted_is : Continues mux.seen posted
  pub shown : AreShown mux.id posted.clocks log

-- CALLS

-- the mux with one more event in its log
abbrev pub with_event : MuxState → Event → MuxState
with_event mux e = record mux { log = mux.log ++ e ∷ [] }

-- the same mux, which has seen or learned of the same posts and maybe more
pub record IsSameMux (old new : MuxState) : Type 0 where
  pub id : new.id ≡ old.id
  pub later : Continues old.seen new.seen

-- the mux looked at these posts and is at their version, which isn't older than the one before
pub record HasLooked (old new : MuxState) : Type 0 where
  pub same : IsSameMux old new
  pub posted : IsPosted new.seen
  pub newer : (version_at (reverse old.log) old.id).0 ≤ last_version new.seen
  pub version : (version_at (reverse new.log) old.id).0 ≡ last_version new.seen

-- the mux learned these posts, and then looked and switched
pub record HasBegun (old : MuxState) (snapshot : Posted) (after : ℕ) (new : MuxState) : Type 0 where
  pub looked : HasLooked old new
  pub learned : Continues snapshot new.seen
  pub log : new.log
      ≡ old.log ++ switch_to old.id new.seen (reverse old.log) (max after (last_post new.seen)) ∷ []

-- what was logged and sent: a Switch if the version is newer, and then each item, in order
pub record IsBatch (m : MuxId) (seen : Posted) (items : List MuxItem)
    (log log' : List Event) (out out' : List Steered) : Type 0 where
  pub log_is : log'
      ≡ log ++ switches m seen (reverse log) ++ steers m (clock_under m seen (reverse log)) items
  pub out_is : out' ≡ out ++ sent m seen (clock_under m seen (reverse log)) items

-- the mux looked, and steered these items
pub record HasSteered (old : MuxState) (items : List MuxItem) (new : MuxState)
    (out out' : List Steered) : Type 0 where
  pub looked : HasLooked old new
  pub batch : IsBatch old.id new.seen items old.log new.log out out'

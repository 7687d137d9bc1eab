-- What is kept of the servers that hold flows.
use Rattle.std.specs.Prelude.{◌≡◌, ℕ, ◌<◌, Bool, true, nat_lt, if◌then◌else◌, IfSome}
use Rattle.std.specs.Prelude.{List, [], ◌∷◌, length, Option, Some, None, option_map}
use Rattle.std.specs.BTreeMap as tree
use Rattle.std.specs.HashMap as table
use Rattle.smallvec.specs.SmallVec.{SmallVec}
use Rattle.bm_base.specs.declared.flow.Flow.{Flow}
use Rattle.bm_base.specs.declared.ids.ServerId.{ServerId}
use Rattle.bm_core.specs.declared.events.Event.{Event}
use Rattle.bm_core.specs.declared.events.Stage.{Stage}
use Rattle.bm_core.specs.Past.{held, shard}
use Rattle.bm_table.specs.Tables.{same_server}
use Rattle.bm_state.specs.contracts.flow_key.FlowKeyPartialEq.TheImpl as flow_eq
use Rattle.bm_state.specs.contracts.shard_key.ShardKeyOrd.TheImpl as key_order
use Rattle.bm_state.specs.declared.holder_lists.Holder.{Holder}
use Rattle.bm_state.specs.declared.holder_lists.HolderLists.{HolderLists}
use Rattle.bm_state.specs.declared.holders.FlowHolders.{FlowHolders}
use Rattle.bm_state.specs.declared.holders.Holders.{Holders}
use Rattle.bm_state.specs.declared.retirements.Retirements.{Retirements}
use Rattle.bm_state.specs.declared.shard_key.ShardKey.{ShardKey}
use Rattle.bm_state.specs.FlowKeys.{key_of}
use Rattle.bm_state.specs.ShardKeys.{key_at}

-- the items of the list, or none
abbrev pub listed : Option (SmallVec Holder) → List Holder
listed None = []
listed (Some v) = v.items

-- the flow's list of holders
abbrev pub holders_in : HolderLists → Flow → List Holder
holders_in lists f = listed (table.get (flow_eq.ghosts).eq lists.lists (key_of f))

-- the place of the shard's last retirement
abbrev pub retired_in : Retirements → ShardKey → Option ℕ
retired_in r key = tree.get (key_order.ghosts).cmp r.places key

-- the place of the Accept that the list has of the server
abbrev pub place_in : List Holder → ServerId → Option ℕ
place_in [] s = None
place_in (h ∷ hs) s = if same_server h.server s then Some h.place else place_in hs s

-- each server is there once
abbrev pub AreOnce : List Holder → Type 0
AreOnce [] = Unit {0}
AreOnce (h ∷ hs) = (place_in hs h.server ≡ None) × AreOnce hs

-- an Accept at this place came after the retirement
abbrev pub is_alive : Option ℕ → ℕ → Bool
is_alive None place = true
is_alive (Some r) place = nat_lt r place

-- the place, if it came after the retirement
abbrev pub alive_place : Option ℕ → Option ℕ → Option ℕ
alive_place r None = None
alive_place r (Some place) = if is_alive r place then Some place else None

-- the place, if there is one, is below this number
abbrev pub IsBelow : Option ℕ → ℕ → Type 0
IsBelow place n = IfSome place (λ p. p < n)

-- by this list and the last retirements of the flow's shards, a server holds what it holds after
-- these events
pub record AreHolders (stage : Stage) (past : List Event) (f : Flow) (list : List Holder)
    (retired : ServerId → Option ℕ) : Type 0 where
  pub held_of_each : (s : ServerId)
      → alive_place (retired s) (place_in list s)
      ≡ option_map (λ h. h.place) (held stage past s f)
  pub once : AreOnce list

-- the same for each flow, where no place is past the events
pub record AreHoldersOfAll (stage : Stage) (past : List Event) (lists : Flow → List Holder)
    (retired : ShardKey → Option ℕ) : Type 0 where
  pub of_each : (f : Flow)
      → AreHolders stage past f (lists f) (λ s. retired (key_at s (shard stage f)))
  pub accepts : (f : Flow) (s : ServerId) → IsBelow (place_in (lists f) s) (length past)
  pub retirements : (key : ShardKey) → IsBelow (retired key) (length past)

-- this is kept after these events
abbrev pub KeepsHolders : Stage → List Event → Holders → Type 0
KeepsHolders stage past h =
    AreHoldersOfAll stage past (holders_in h.lists) (retired_in h.retired)

-- this is kept of the flow after these events
abbrev pub KeepsHoldersOf : Stage → List Event → Flow → FlowHolders → Type 0
KeepsHoldersOf stage past f h =
    AreHolders stage past f h.holders.now (λ s. retired_in h.retired.now (key_at s h.shard))

-- A plan that opens on servers with numbers of servers, and whose moves lead to such, has them in each version.
use Rattle.std.proofs.Common.{ℕ, zero, suc, ◌%◌, ◌<◌, eqb, List, [], ◌∷◌, Option, Some, None, inl, inr}
use Rattle.std.proofs.Common.{length, get_or, slice_get, arith}
use Rattle.std.specs.Prelude.{IfSome}
use Rattle.std.specs.List.{AllByRecursion}
use Rattle.std.proofs.lemmas.Bool.{cases_Bool}
use Rattle.std.proofs.lemmas.Nat.{mod_below}
use Rattle.bm_base.specs.declared.ids.ServerId.{ServerId}
use Rattle.bm_base.specs.declared.label.Entry.{Entry}
use Rattle.bm_base.specs.Tags.{IsServer}
use Rattle.bm_table.specs.declared.plan.Change.{Change}
use Rattle.bm_table.specs.declared.plan.Move.{Move}
use Rattle.bm_table.specs.Planned.{Planned}
use Rattle.bm_table.specs.Tables.{brings, change_moment, moved, next_change, table, target}
use Rattle.bm_mux.specs.Muxes.{HasServers}

server_at : (servers : List ServerId) → AllByRecursion IsServer servers → (i : ℕ) (default : ServerId)
    → i < length servers → IsServer (get_or servers i default)
server_at [] all i default inside = absurd (omega arith)
server_at (s ∷ servers) all zero default inside = all.0
server_at (s ∷ servers) all (suc i) default inside = server_at servers all.1 i default (omega arith)

abbrev pub ToServers : Change → Type 0
ToServers c = AllByRecursion (λ m. IsServer m.to) c.moves

target_server : (moves : List Move) → AllByRecursion (λ m. IsServer m.to) moves → (b : ℕ)
    → IfSome (target moves b) IsServer
target_server [] all b = tt
target_server (m ∷ moves) all b = elim (cases_Bool (eqb m.bucket b)) [
  | inl here ↦ rw here all.0
  | inr else ↦ rw else (target_server moves all.1 b)
]

brings_server : (changes : List Change) → AllByRecursion ToServers changes → (v b : ℕ)
    → IfSome (brings (slice_get changes v) b) IsServer
brings_server [] all v b = tt
brings_server (c ∷ changes) all zero b = target_server c.moves all.0 b
brings_server (c ∷ changes) all (suc v) b = brings_server changes all.1 v b

moved_server : (e : Entry) (at : ℕ) (o : Option ServerId) → IsServer e.cur → IfSome o IsServer
    → IsServer (moved e at o).cur
moved_server e at None is to = is
moved_server e at (Some s) is to = to

table_server : (plan : Planned) → 0 < length plan.servers → AllByRecursion IsServer plan.servers
    → AllByRecursion ToServers plan.changes → (v b : ℕ) → IsServer (table plan v b).cur
table_server plan some servers changes zero b =
    server_at plan.servers servers (b % length plan.servers) (record { 0 = 0 }) (mod_below b (length plan.servers) some)
table_server plan some servers changes (suc v) b =
    moved_server (table plan v b) (change_moment (next_change plan v)) (brings (next_change plan v) b)
    (table_server plan some servers changes v b) (brings_server plan.changes changes v b)

-- the servers on which it opens, and those to which its changes lead
pub named_servers : (plan : Planned) → 0 < length plan.servers → AllByRecursion IsServer plan.servers
    → AllByRecursion ToServers plan.changes → HasServers plan
named_servers plan some servers changes v b early inside = table_server plan some servers changes v b

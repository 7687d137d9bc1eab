-- The servers that a sound script knows, and those of its entries, have the numbers of servers.
use Rattle.std.proofs.Common.{◌≡◌, ℕ, zero, suc, ◌+◌, ◌%◌, ◌<◌, ◌≤◌, true, inl, inr, List, [], ◌∷◌, Option, Some}
use Rattle.std.proofs.Common.{None, length, slice_get, get_or, subst, arith}
use Rattle.std.specs.Prelude.{IfSome, All}
use Rattle.std.specs.List.{AllByRecursion}
use Rattle.std.proofs.lemmas.Bool.{or_cases}
use Rattle.std.proofs.lemmas.Nat.{mod_below}
use Rattle.bm_base.specs.declared.ids.ServerId.{ServerId}
use Rattle.bm_base.specs.Tags.{IsServer}
use Rattle.bm_table.specs.declared.plan.Change.{Change}
use Rattle.bm_table.specs.declared.plan.Kind.{Kind}
use Rattle.bm_table.specs.declared.plan.Kind.TheVariants.{Add, Drain, Shift}
use Rattle.bm_table.specs.declared.script.Script.{Script}
use Rattle.bm_table.specs.Scripts.{IsSoundScript, NamesServer}
use Rattle.bm_table.specs.Settings.{RiseFrom}
use Rattle.bm_table.specs.Tables.{adds, brings, is_add, is_among, is_known, change_moment, next_change, opening}
use Rattle.bm_table.specs.Tables.{same_server, table}
use Rattle.bm_base.proofs.Entries.{IsEntry}
use Rattle.bm_table.proofs.Tables.{moved_entry, same_server-true}

-- SERVERS

are_servers : (low : ℕ) (servers : List ServerId) → 1 ≤ low → RiseFrom low servers
    → All (λ (s : ServerId). s.0 ≤ 1024) servers → AllByRecursion IsServer servers
are_servers low [] some rise all = tt
are_servers low (s ∷ servers) some rise all = (
  (let h = rise.0 in omega arith, all zero s (omega arith)),
  are_servers (s.0 + 1) servers (omega arith) rise.1
      (λ i d below. all (suc i) d (omega arith)),
)

-- the servers that a sound setting names
setting_servers : (script : Script) → IsSoundScript script → AllByRecursion IsServer script.setting.servers
setting_servers script sound =
    are_servers 1 script.setting.servers (omega arith) sound.setting.rising sound.setting.numbers

server_among : (servers : List ServerId) → AllByRecursion IsServer servers → (s : ServerId) → is_among servers s ≡ true
    → IsServer s
server_among [] all s is = absurd (cc)
server_among (t ∷ servers) all s is = elim (or_cases (same_server t s) (is_among servers s) is) [
  | inl here ↦ subst IsServer (same_server-true t s here) all.0
  | inr there ↦ server_among servers all.1 s there
]

server_at : (servers : List ServerId) → AllByRecursion IsServer servers → (i : ℕ) (default : ServerId)
    → i < length servers → IsServer (get_or servers i default)
server_at [] all i default inside = absurd (omega arith)
server_at (s ∷ servers) all zero default inside = all.0
server_at (s ∷ servers) all (suc i) default inside = server_at servers all.1 i default (omega arith)

server_of_kind : (k : Kind) (s : ServerId) → NamesServer k → is_add k s ≡ true → IsServer s
server_of_kind (Add t) s names is = subst IsServer (same_server-true t s is) names
server_of_kind (Drain t) s names is = absurd (cc)
server_of_kind Shift s names is = absurd (cc)

server_of_change : (changes : List Change) → AllByRecursion (λ c. NamesServer c.kind) changes → (v : ℕ) (s : ServerId)
    → adds (slice_get changes v) s ≡ true → IsServer s
server_of_change [] all v s is = absurd (cc)
server_of_change (c ∷ changes) all zero s is = server_of_kind c.kind s all.0 is
server_of_change (c ∷ changes) all (suc v) s is = server_of_change changes all.1 v s is

-- a server that a sound script knows has the number of a server
pub known_server : (script : Script) → IsSoundScript script → (n : ℕ) (s : ServerId) → is_known script.plan n s ≡ true
    → IsServer s
known_server script sound zero s is =
    server_among script.setting.servers (setting_servers script sound) s (rw sound.servers at is)
known_server script sound (suc n) s is =
    elim (or_cases (adds (next_change script.plan n) s) (is_known script.plan n s) is) [
      | inl now ↦ server_of_change script.plan.changes sound.adds n s now
      | inr old ↦ known_server script sound n s old
    ]

opening_server : (script : Script) → IsSoundScript script → (b : ℕ) → IsServer (opening script.plan b).cur
opening_server script sound b =
    rw sound.servers
    (server_at script.setting.servers (setting_servers script sound) (b % length script.setting.servers)
    (record { 0 = 0 }) (mod_below b (length script.setting.servers) sound.setting.servers.0))

-- ENTRIES

known_target : (script : Script) → IsSoundScript script → (n : ℕ) (o : Option ServerId)
    → IfSome o (λ to. is_known script.plan n to ≡ true) → IfSome o IsServer
known_target script sound n None is = tt
known_target script sound n (Some s) is = known_server script sound n s is

pub table_entry : (script : Script) → IsSoundScript script → (v b : ℕ) → IsEntry (table script.plan v b)
table_entry script sound zero b = record {
  cur = opening_server script sound b;
  prev = tt;
  apart = λ same. absurd (cc);
  older = tt;
}
table_entry script sound (suc v) b =
    moved_entry (table script.plan v b) (change_moment (next_change script.plan v))
    (brings (next_change script.plan v) b) (table_entry script sound v b)
    (known_target script sound (suc v) (brings (next_change script.plan v) b) (sound.plan.known v b))
    (sound.plan.changes v b)

-- The servers that a sound script knows, and those of its entries.
use Rattle.std.proofs.Common.{◌≡◌, ℕ, zero, suc, ◌+◌, ◌-◌, ◌%◌, ◌<◌, ◌≤◌, true, false, Bool, inl, inr}
use Rattle.std.proofs.Common.{List, [], ◌∷◌, Option}
use Rattle.std.proofs.Common.{Some, None, length, slice_get, get_or, refl, sym, subst, arith, ◌||◌}
use Rattle.std.specs.Prelude.{IfSome, All}
use Rattle.std.specs.List.{AllByRecursion}
use Rattle.std.proofs.lemmas.Bool.{or_cases, eq-eqb}
use Rattle.std.proofs.lemmas.Nat.{mod_below}
use Rattle.std.proofs.lemmas.Option.{same_Some}
use Rattle.bm_base.specs.declared.ids.ServerId.{ServerId}
use Rattle.bm_base.specs.declared.label.Entry.{Entry}
use Rattle.bm_base.specs.Tags.{IsServer}
use Rattle.bm_table.specs.Planned.{Planned}
use Rattle.bm_table.specs.declared.plan.Change.{Change}
use Rattle.bm_table.specs.declared.plan.Kind.{Kind}
use Rattle.bm_table.specs.declared.plan.Kind.TheVariants.{Add, Drain, Shift}
use Rattle.bm_table.specs.declared.script.Script.{Script}
use Rattle.bm_table.specs.Scripts.{IsSoundScript, NamesServer}
use Rattle.bm_table.specs.Settings.{RiseFrom}
use Rattle.bm_table.specs.Tables.{adds, brings, is_add, is_among, is_known, change_moment, moved, next_change, opening}
use Rattle.bm_table.specs.Tables.{same_server, table}
use Rattle.bm_table.proofs.Tables.{moved_entry, same_server-true}
use Rattle.bm_base.proofs.Entries.{IsEntry}
use Rattle.bm_base.specs.Labels.{arrives_at}
use Rattle.bm_base.specs.declared.label.Hop.{Hop}
use Rattle.bm_base.specs.declared.label.Hop.TheVariants.{Direct, Chained, Twice}

-- SERVERS HAVE NUMBERS OF SERVERS

are_servers : (low : ℕ) (servers : List ServerId) → 1 ≤ low → RiseFrom low servers
    → All (λ (s : ServerId). s.0 ≤ 1024) servers
    → AllByRecursion IsServer servers
are_servers low [] some rise all = tt
are_servers low (s ∷ servers) some rise all = (
  (let h = rise.0 in omega arith, all zero s (omega arith)),
  are_servers (s.0 + 1) servers (omega arith) rise.1 (λ i d below. all (suc i) d (omega arith)),
)

setting_servers : (script : Script) → IsSoundScript script → AllByRecursion IsServer script.setting.servers
setting_servers script sound =
    are_servers 1 script.setting.servers (omega arith) sound.setting.rising sound.setting.numbers

server_among : (servers : List ServerId) → AllByRecursion IsServer servers → (s : ServerId) → is_among servers s ≡ true
    → IsServer s
server_among [] all s is = absurd (cc)
server_among (t ∷ servers) all s is = elim (or_cases (same_server t s) (is_among servers s) is) [
  | inl here ↦ subst IsServer (same_server-true t s here) all.0
  | inr there ↦ server_among servers all.1 s there
]

server_of_kind : (k : Kind) (s : ServerId) → NamesServer k → is_add k s ≡ true → IsServer s
server_of_kind (Add t) s names is = subst IsServer (same_server-true t s is) names
server_of_kind (Drain t) s names is = absurd (cc)
server_of_kind Shift s names is = absurd (cc)

server_of_change : (changes : List Change) → AllByRecursion (λ c. NamesServer c.kind) changes → (v : ℕ) (s : ServerId)
    → adds (slice_get changes v) s ≡ true → IsServer s
server_of_change [] all v s is = absurd (cc)
server_of_change (c ∷ changes) all zero s is = server_of_kind c.kind s all.0 is
server_of_change (c ∷ changes) all (suc v) s is = server_of_change changes all.1 v s is

-- a server that a sound script knows has the number of a server
pub known_server : (script : Script) → IsSoundScript script → (n : ℕ) (s : ServerId) → is_known script.plan n s ≡ true
    → IsServer s
known_server script sound zero s is =
    server_among script.setting.servers (setting_servers script sound) s (rw sound.servers at is)
known_server script sound (suc n) s is =
    elim (or_cases (adds (next_change script.plan n) s) (is_known script.plan n s) is) [
      | inl now ↦ server_of_change script.plan.changes sound.adds n s now
      | inr old ↦ known_server script sound n s old
    ]

-- KNOWN IN THE END

or_right : (a b : Bool) → b ≡ true → a || b ≡ true
or_right true b is = refl
or_right false b is = is

known_more : (plan : Planned) (s : ServerId) (n d : ℕ) → is_known plan n s ≡ true → is_known plan (d + n) s ≡ true
known_more plan s n zero is =
    let e : zero + n ≡ n = omega arith in subst (λ (k : ℕ). is_known plan k s ≡ true) (sym e) is
known_more plan s n (suc d) is =
    let e : suc d + n ≡ suc (d + n) = omega arith in
    subst (λ (k : ℕ). is_known plan k s ≡ true) (sym e)
    (or_right (adds (next_change plan (d + n)) s) (is_known plan (d + n) s) (known_more plan s n d is))

adds_inside : (changes : List Change) (v : ℕ) (s : ServerId) → adds (slice_get changes v) s ≡ true → v < length changes
adds_inside [] v s is = absurd (cc)
adds_inside (c ∷ changes) zero s is = omega arith
adds_inside (c ∷ changes) (suc v) s is = let old = adds_inside changes v s is in omega arith

-- what is known after some changes is known in the end
pub known_in_the_end : (plan : Planned) (s : ServerId) (n : ℕ) → is_known plan n s ≡ true
    → is_known plan (length plan.changes) s ≡ true
known_in_the_end plan s zero is =
    let e : length plan.changes + 0 ≡ length plan.changes = omega arith in
    subst (λ (k : ℕ). is_known plan k s ≡ true) e (known_more plan s 0 (length plan.changes) is)
known_in_the_end plan s (suc n) is = elim (or_cases (adds (next_change plan n) s) (is_known plan n s) is) [
  | inl now ↦
      let low = adds_inside plan.changes n s now in
      let e : (length plan.changes - suc n) + suc n ≡ length plan.changes = omega (arith, low) in
      subst (λ (k : ℕ). is_known plan k s ≡ true) e (known_more plan s (suc n) (length plan.changes - suc n) is)
  | inr old ↦ known_in_the_end plan s n old
]

-- ENTRIES

among_at : (servers : List ServerId) (i : ℕ) (default : ServerId) → i < length servers
    → is_among servers (get_or servers i default) ≡ true
among_at [] i default inside = absurd (omega arith)
among_at (s ∷ servers) zero default inside = rw (eq-eqb s.0 s.0 refl) refl
among_at (s ∷ servers) (suc i) default inside =
    or_right (same_server s (get_or servers i default)) (is_among servers (get_or servers i default))
    (among_at servers i default (omega arith))

-- the servers at which copies by an entry arrive are known
abbrev pub AreKnown : Planned → Entry → Type 0
AreKnown plan e =
    (hop : Hop) (s : ServerId) → arrives_at e hop ≡ Some s → is_known plan (length plan.changes) s ≡ true

moved_known : (plan : Planned) (e : Entry) (at : ℕ) (to : Option ServerId) → AreKnown plan e
    → IfSome to (λ s. is_known plan (length plan.changes) s ≡ true) → AreKnown plan (moved e at to)
moved_known plan e at None are known hop s here = are hop s here
moved_known plan e at (Some t) are known Direct s here =
    subst (λ (x : ServerId). is_known plan (length plan.changes) x ≡ true) (same_Some _ _ here) known
moved_known plan e at (Some t) are known Chained s here = are Direct s here
moved_known plan e at (Some t) are known Twice s here = are Chained s here

known_target : (plan : Planned) (n : ℕ) (o : Option ServerId) → IfSome o (λ to. is_known plan n to ≡ true)
    → IfSome o (λ to. is_known plan (length plan.changes) to ≡ true)
known_target plan n None is = tt
known_target plan n (Some s) is = known_in_the_end plan s n is

pub known_stop : (script : Script) → IsSoundScript script → (v b : ℕ) → AreKnown script.plan (table script.plan v b)
known_stop script sound zero b Direct s here =
    subst (λ (x : ServerId). is_known script.plan (length script.plan.changes) x ≡ true) (same_Some _ _ here)
    (known_in_the_end script.plan (opening script.plan b).cur 0
    (among_at script.plan.servers (b % length script.plan.servers) (record { 0 = 0 })
    (mod_below b (length script.plan.servers)
    (subst (λ (l : List ServerId). 0 < length l) (sym sound.servers) sound.setting.servers.0))))
known_stop script sound zero b Chained s here = absurd (cc)
known_stop script sound zero b Twice s here = absurd (cc)
known_stop script sound (suc v) b hop s here =
    moved_known script.plan (table script.plan v b) (change_moment (next_change script.plan v))
    (brings (next_change script.plan v) b) (known_stop script sound v b)
    (known_target script.plan (suc v) (brings (next_change script.plan v) b) (sound.plan.known v b)) hop s here

-- the bucket's server is
pub known_cur : (script : Script) → IsSoundScript script → (v b : ℕ)
    → is_known script.plan (length script.plan.changes) (table script.plan v b).cur ≡ true
known_cur script sound v b = known_stop script sound v b Direct (table script.plan v b).cur refl

-- and they have the numbers of servers
pub numbered_entry : (script : Script) → IsSoundScript script → (v b : ℕ) → IsEntry (table script.plan v b)
numbered_entry script sound zero b = record {
  cur = known_server script sound _ _ (known_cur script sound zero b);
  prev = tt;
  apart = λ same. absurd (cc);
  older = tt;
}
numbered_entry script sound (suc v) b =
    moved_entry (table script.plan v b) (change_moment (next_change script.plan v))
    (brings (next_change script.plan v) b) (numbered_entry script sound v b)
    (known_number (brings (next_change script.plan v) b)
    (known_target script.plan (suc v) (brings (next_change script.plan v) b) (sound.plan.known v b)))
    (sound.plan.changes v b) where
      known_number : (to : Option ServerId)
          → IfSome to (λ s. is_known script.plan (length script.plan.changes) s ≡ true) → IfSome to IsServer
      known_number None is = tt
      known_number (Some s) is = known_server script sound _ s is

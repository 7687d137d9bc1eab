-- What holds at each event of a list, shown from the oldest on or from the newest back; and how many pass a test.
use Rattle.std.proofs.Common.{◌≡◌, suc, ◌≤◌, Bool, true, false, List, [], ◌∷◌, inl, inr, arith}
use Rattle.std.proofs.lemmas.Bool.{cases_Bool}
use Rattle.bm_core.specs.Accounts.{counts}
use Rattle.bm_core.specs.declared.events.Event.{Event}
use Rattle.bm_core.specs.declared.events.What.{What}
use Rattle.bm_core.specs.Runs.{AtEach}

-- EACH EVENT

pub each_so : (P Q : List Event → Event → Type 0) → ((past : List Event) (e : Event) → P past e → Q past e)
    → (all : List Event) → AtEach P all → AtEach Q all
each_so P Q so [] p = tt
each_so P Q so (e ∷ past) p = (so past e p.0, each_so P Q so past p.1)

pub each_both : (P Q R : List Event → Event → Type 0)
    → ((past : List Event) (e : Event) → P past e → Q past e → R past e)
    → (all : List Event) → AtEach P all → AtEach Q all → AtEach R all
each_both P Q R so [] p q = tt
each_both P Q R so (e ∷ past) p q = (so past e p.0 q.0, each_both P Q R so past p.1 q.1)

-- the events before it have it too
pub each_along : (P Q : List Event → Event → Type 0)
    → ((past : List Event) (e : Event) → AtEach P past → P past e → Q past e)
    → (all : List Event) → AtEach P all → AtEach Q all
each_along P Q so [] p = tt
each_along P Q so (e ∷ past) p = (so past e p.1 p.0, each_along P Q so past p.1)

pub each_for : {X : Type 0} (P : X → List Event → Event → Type 0) (all : List Event)
    → ((x : X) → AtEach (P x) all) → AtEach (λ past e. (x : X) → P x past e) all
each_for P [] p = tt
each_for P (e ∷ past) p = (λ x. (p x).0, each_for P past (λ x. (p x).1))

-- from the oldest on
pub upward : (P : List Event → Event → Type 0) (U : List Event → Type 0) → U []
    → ((past : List Event) (e : Event) → AtEach P past → P past e → U past → U (e ∷ past))
    → (all : List Event) → AtEach P all → U all
upward P U none more [] p = none
upward P U none more (e ∷ past) p = more past e p.1 p.0 (upward P U none more past p.1)

-- from the newest back
pub downward : (P : List Event → Event → Type 0) (U : List Event → Type 0)
    → ((past : List Event) (e : Event) → AtEach P past → P past e → U (e ∷ past) → U past)
    → (all : List Event) → AtEach P all → U all → AtEach (λ past e. U (e ∷ past) × U past) all
downward P U less [] p u = tt
downward P U less (e ∷ past) p u =
    let old : U past = less past e p.1 p.0 u in ((u, old), downward P U less past p.1 old)

-- COUNTS

pub counts_here : (past : List Event) (e : Event) (test : What → Bool) → test e.what ≡ true
    → counts (e ∷ past) test ≡ suc (counts past test)
counts_here past e test is = rw is (omega arith)

pub counts_not : (past : List Event) (e : Event) (test : What → Bool) → test e.what ≡ false
    → counts (e ∷ past) test ≡ counts past test
counts_not past e test is = rw is (omega arith)

pub counts_more : (past : List Event) (e : Event) (test : What → Bool) → counts past test ≤ counts (e ∷ past) test
counts_more past e test = omega arith

-- what isn't counted isn't there
pub none_here : (past : List Event) (e : Event) (test : What → Bool) → counts (e ∷ past) test ≡ 0 → test e.what ≡ false
none_here past e test none = elim (cases_Bool (test e.what)) [
  | inl is ↦ absurd (let more = counts_here past e test is in omega arith)
  | inr not ↦ not
]

pub counts_within : (some many : What → Bool) → ((what : What) → some what ≡ true → many what ≡ true)
    → (past : List Event) → counts past some ≤ counts past many
counts_within some many so [] = omega arith
counts_within some many so (e ∷ past) =
    let old : counts past some ≤ counts past many = counts_within some many so past
    in elim (cases_Bool (some e.what)) [
      | inl is ↦
          let a = counts_here past e some is
          in let b = counts_here past e many (so e.what is)
          in omega arith
      | inr not ↦
          let a = counts_not past e some not
          in let b = counts_more past e many
          in omega arith
    ]

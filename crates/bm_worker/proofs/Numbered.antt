-- Servers whose numbers rise: no two have one number, and a binary search finds each.
use Rattle.std.proofs.Common.{◌≡◌, ◌≢◌, ℕ, ◌<◌, ◌≤◌, List, length, Option, Some, None, slice_get, get_or, Result, Ok, Err}
use Rattle.std.proofs.Common.{inl, inr, zero, suc, [], ◌∷◌, refl, sym, ap, ◌∙◌, arith}
use Rattle.std.specs.List.Sorted.{IsBinarySearchResult, IsNonDecreasingBy, IsSearchInRange}
use Rattle.std.specs.Ordering.{nat_cmp, ordering_index}
use Rattle.std.specs.Result.{result_ok}
use Rattle.std.proofs.lemmas.Bool.{cases_lt}
use Rattle.std.proofs.lemmas.Bool.Decides.{nat_tests}
use Rattle.std.proofs.lemmas.Cmp.{ranked}
use Rattle.std.proofs.lemmas.Option.{same_Some, slice_get_within, slice_get-get_or, get_or_from_slice_get}
use Rattle.bm_base.specs.declared.ids.ServerId.{ServerId}
use Rattle.bm_server.specs.Servings.{Serving}
use Rattle.bm_worker.specs.WorkerNotes.{NumbersRise}

pub differ : (servers : List Serving) → NumbersRise servers → (s t : ℕ) (a b : Serving) → slice_get servers s ≡ Some a
    → slice_get servers t ≡ Some b → a.id ≡ b.id → s ≡ t
differ servers rise s t a b at_s at_t same =
    let number : a.id.0 ≡ b.id.0 = ap (λ (x : ServerId). x.0) same in
    elim (cases_lt s t) [
      | inl below ↦ absurd (let lower = rise s t a b at_s at_t below in omega (arith, number, lower))
      | inr le ↦ elim (cases_lt t s) [
        | inl above ↦ absurd (let lower = rise t s b a at_t at_s above in omega (arith, number, lower))
        | inr ge ↦ omega (arith, le, ge)
      ]
    ]

-- A BINARY SEARCH

compared : (a b n : ℕ) → a ≤ b → ordering_index (nat_cmp a n) ≤ ordering_index (nat_cmp b n)
compared a b n le = grind (arith, nat_tests)

-- the comparisons of the servers' numbers with n rise
all_compared : (servers : List Serving) (n : ℕ) → NumbersRise servers
    → IsNonDecreasingBy (λ (y : Serving). ordering_index (nat_cmp y.id.0 n)) servers
all_compared servers n rise i j d le low =
    let a = get_or servers i d in
    let b = get_or servers j d in
    compared a.id.0 b.id.0 n (elim (cases_lt i j) [
      | inl below ↦
          let lower = rise i j a b (slice_get-get_or servers i d (omega (arith, le, low))) (slice_get-get_or servers j d low)
          below in
          omega (arith, lower)
      | inr ge ↦
          let same : i ≡ j = omega (arith, le, ge) in
          let number = ap (λ (k : ℕ). (get_or servers k d).id.0) same in omega (arith, number)
    ])

element : (servers : List Serving) (i : ℕ) → i < length servers → (x : Serving) × (slice_get servers i ≡ Some x)
element [] i low = absurd (omega arith)
element (x ∷ servers) zero low = (x, refl)
element (x ∷ servers) (suc i) low = element servers i (omega arith)

pub finds : (servers : List Serving) (id : ServerId) (r : Result ℕ ℕ) → IsSearchInRange r (length servers)
    → IsBinarySearchResult (λ (y : Serving). nat_cmp y.id.0 id.0) servers r → (place : ℕ) → result_ok r ≡ Some place
    → (server : Serving) × (slice_get servers place ≡ Some server) × (server.id ≡ id)
finds servers id (Ok i) within equal place is =
    let here : i ≡ place = same_Some i place is in
    let x = element servers i within in
    let read = get_or_from_slice_get servers i x.0 x.0 x.1 in
    let number : x.0.id.0 ≡ id.0 =
    ap (λ (y : Serving). y.id.0) (sym read) ∙ ranked _ id.0 _ (sym (equal x.0)) in
    (x.0, ap (slice_get servers) (sym here) ∙ x.1, λ j. record { 0 = number j })
finds servers id (Err i) within parted place is = absurd (cc)

pub finds_none : (servers : List Serving) (id : ServerId) (r : Result ℕ ℕ) → NumbersRise servers
    → IsBinarySearchResult (λ (y : Serving). nat_cmp y.id.0 id.0) servers r → result_ok r ≡ None → (s : ℕ)
    (server : Serving)
    → slice_get servers s ≡ Some server → server.id ≢ id
finds_none servers id (Ok i) rise equal is s server at same = absurd (cc)
finds_none servers id (Err i) rise parted is s server at same =
    let number : server.id.0 ≡ id.0 = ap (λ (x : ServerId). x.0) same in
    let here : (get_or servers s server).id.0 ≡ id.0 =
    ap (λ (x : Serving). x.id.0) (get_or_from_slice_get servers s server server at) ∙ number in
    let split = parted (all_compared servers id.0 rise) in
    elim (cases_lt s i) [
      | inl below ↦ let lower = ranked _ id.0 _ (sym (split.0 s server (omega arith) below)) in omega (arith, here, lower)
      | inr above ↦ let higher = ranked _ id.0 _ (sym (split.1 s server above (slice_get_within servers s server at))) in omega (arith, here, higher)
    ]

-- What a list of holders has of each server, and what changes it.
use Rattle.std.proofs.Common.{◌≡◌, ℕ, Bool, true, false, inl, inr, List, [], ◌∷◌, ◌++◌}
use Rattle.std.proofs.Common.{Option, Some, None, option_map, refl, ap, ◌∙◌, arith}
use Rattle.std.specs.Prelude.{if◌then◌else◌, find}
use Rattle.std.proofs.lemmas.Bool.{cases_Bool}
use Rattle.std.proofs.lemmas.Bool.Decides.{nat_tests}
use Rattle.bm_base.specs.declared.ids.ServerId.{ServerId}
use Rattle.bm_table.specs.Tables.{same_server}
use Rattle.bm_table.proofs.Tables.{same_server-true, eq-same_server}
use Rattle.bm_state.specs.declared.holder_lists.HoldChange.{HoldChange}
use Rattle.bm_state.specs.declared.holder_lists.HoldChange.TheVariants.{Holds, Releases}
use Rattle.bm_state.specs.declared.holder_lists.Holder.{Holder}
use Rattle.bm_state.specs.Holders.{AreOnce, place_in}
use Rattle.bm_state.specs.Inside.HolderLists.{changed_by, put_holder, without_server}

pub cond_same : {X : Type 0} (b : Bool) (x : X) → x ≡ (if b then x else x)
cond_same true x = refl
cond_same false x = refl

pub place_find : (hs : List Holder) (s : ServerId)
    → place_in hs s ≡ option_map (λ h. h.place) (find (λ h. same_server h.server s) hs)
place_find [] s = refl
place_find (h ∷ hs) s =
    elim (cases_Bool (same_server h.server s)) [
      | inl here ↦ rw here refl
      | inr elsewhere ↦ rw elsewhere (place_find hs s)
    ]

-- PLACES

pub place_without : (t s : ServerId) (hs : List Holder)
    → place_in (without_server t hs) s ≡ (if same_server t s then None else place_in hs s)
place_without t s [] = cond_same (same_server t s) None
place_without t s (h ∷ hs) =
    let i : place_in (without_server t hs) s ≡ (if same_server t s then None else place_in hs s) = place_without t s hs
    in elim (cases_Bool (same_server h.server t)) [
      | inl gone ↦
          let at : h.server ≡ t = same_server-true h.server t gone
          in elim (cases_Bool (same_server t s)) [
            | inl same ↦ rw (gone, same) (rw same at i)
            | inr other ↦ let o : same_server h.server s ≡ false = rw at other in rw (gone, other, o) (rw other at i)
          ]
      | inr stays ↦ elim (cases_Bool (same_server h.server s)) [
        | inl here ↦
            let at : h.server ≡ s = same_server-true h.server s here
            in let o : same_server t s ≡ false = grind (arith, nat_tests)
            in rw (stays, here, o) refl
        | inr other ↦ rw (stays, other) (i)
      ]
    ]

place_last : (hs : List Holder) (x : Holder) (s : ServerId) → place_in hs s ≡ None
    → place_in (hs ++ x ∷ []) s ≡ (if same_server x.server s then Some x.place else None)
place_last [] x s e = refl
place_last (h ∷ hs) x s e =
    elim (cases_Bool (same_server h.server s)) [
      | inl here ↦ let bad : Some h.place ≡ None = rw here at e in absurd (cc)
      | inr other ↦ let e' : place_in hs s ≡ None = rw other at e in rw other (place_last hs x s e')
    ]

place_before_last : (hs : List Holder) (x : Holder) (s : ServerId) → same_server x.server s ≡ false
    → place_in (hs ++ x ∷ []) s ≡ place_in hs s
place_before_last [] x s e = rw e refl
place_before_last (h ∷ hs) x s e =
    ap (λ o. if same_server h.server s then Some h.place else o) (place_before_last hs x s e)

place_put : (t s : ServerId) (p : ℕ) (hs : List Holder)
    → place_in (put_holder t p hs) s ≡ (if same_server t s then Some p else place_in hs s)
place_put t s p hs =
    elim (cases_Bool (same_server t s)) [
      | inl same ↦
          let gone : place_in (without_server t hs) s ≡ None =
          place_without t s hs ∙ ap (λ b. if b then None else place_in hs s) same
          in place_last (without_server t hs) (record { server = t; place = p }) s gone ∙ rw same refl
      | inr other ↦
          place_before_last (without_server t hs) (record { server = t; place = p }) s other ∙ place_without t s hs
          ∙ rw other refl
    ]

-- the place that a list has of a server after a change, here or elsewhere
abbrev pub after_change : Bool → Option HoldChange → Option ℕ → Option ℕ
after_change here None before = before
after_change here (Some (Holds place)) before = if here then Some place else before
after_change here (Some Releases) before = if here then None else before

pub place_changed : (t s : ServerId) (change : Option HoldChange) (hs : List Holder)
    → place_in (changed_by t change hs) s ≡ after_change (same_server t s) change (place_in hs s)
place_changed t s None hs = refl
place_changed t s (Some (Holds place)) hs = place_put t s place hs
place_changed t s (Some Releases) hs = place_without t s hs

pub place_either : (b : Bool) (a c : List Holder) (s : ServerId)
    → place_in (if b then a else c) s ≡ (if b then place_in a s else place_in c s)
place_either true a c s = refl
place_either false a c s = refl

-- EACH SERVER ONCE

place_there : (h : Holder) (hs : List Holder) (s : ServerId) → place_in (h ∷ hs) s ≡ None
    → (same_server h.server s ≡ false) × (place_in hs s ≡ None)
place_there h hs s e =
    elim (cases_Bool (same_server h.server s)) [
      | inl here ↦ let bad : Some h.place ≡ None = rw here at e in absurd (cc)
      | inr other ↦ let e' : place_in hs s ≡ None = rw other at e in (other, e')
    ]

same_server_sym : (a b : ServerId) → same_server a b ≡ false → same_server b a ≡ false
same_server_sym a b h = grind (arith, nat_tests)

pub once_without : (t : ServerId) (hs : List Holder) → AreOnce hs → AreOnce (without_server t hs)
once_without t [] o = tt
once_without t (h ∷ hs) o =
    elim (cases_Bool (same_server h.server t)) [
      | inl gone ↦ rw gone (once_without t hs o.1)
      | inr stays ↦
          let none : place_in (without_server t hs) h.server ≡ None =
          place_without t h.server hs
          ∙ ap (λ b. if b then None else place_in hs h.server) (same_server_sym h.server t stays) ∙ o.0
          in rw stays (none, once_without t hs o.1)
    ]

once_last : (hs : List Holder) (x : Holder) → AreOnce hs → place_in hs x.server ≡ None → AreOnce (hs ++ x ∷ [])
once_last [] x o e = (refl, tt)
once_last (h ∷ hs) x o e =
    let parts = place_there h hs x.server e
    in (place_before_last hs x h.server (same_server_sym h.server x.server parts.0) ∙ o.0, once_last hs x o.1 parts.1)

once_put : (t : ServerId) (p : ℕ) (hs : List Holder) → AreOnce hs → AreOnce (put_holder t p hs)
once_put t p hs o =
    let same : same_server t t ≡ true = eq-same_server t t refl
    in once_last (without_server t hs) (record { server = t; place = p }) (once_without t hs o)
    (place_without t t hs ∙ rw same refl)

pub once_changed : (t : ServerId) (change : Option HoldChange) (hs : List Holder) → AreOnce hs
    → AreOnce (changed_by t change hs)
once_changed t None hs o = o
once_changed t (Some (Holds place)) hs o = once_put t place hs o
once_changed t (Some Releases) hs o = once_without t hs o

pub once_either : (b : Bool) (a c : List Holder) → AreOnce a → AreOnce c → AreOnce (if b then a else c)
once_either true a c x y = x
once_either false a c x y = y

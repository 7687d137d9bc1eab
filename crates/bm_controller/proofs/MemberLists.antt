-- Lists of servers with one more, and without one.
use Rattle.std.proofs.Common.{◌≡◌, ℕ, suc, ◌+◌, ◌<◌, ◌≤◌, Bool, true, false, ◌&&◌, ◌||◌, not, ltb, List, [], ◌∷◌, ◌++◌}
use Rattle.std.proofs.Common.{filter, length, inl, inr, refl, ap, sym, ◌∙◌, subst, arith}
use Rattle.std.proofs.lemmas.Bool.{cases_Bool, cases_order, eq-eqb, eqb-true, ne_eqb, lt-ltb, le-ltb, or_parts}
use Rattle.std.proofs.lemmas.Bool.{both_ways}
use Rattle.bm_base.specs.declared.ids.ServerId.{ServerId}
use Rattle.bm_controller.specs.Membership.{with_server, without_server}
use Rattle.bm_quota.proofs.RoomLemmas.{cases_server}
use Rattle.bm_quota.proofs.QuotaLemmas.{first_not_among}
use Rattle.bm_table.specs.Settings.{RiseFrom}
use Rattle.bm_table.specs.Tables.{is_among, same_server}

or_assoc : (x y z : Bool) → ((x || y) || z) ≡ (x || (y || z))
or_assoc true y z = refl
or_assoc false y z = refl

is_among-append : (xs ys : List ServerId) (s : ServerId) → is_among (xs ++ ys) s ≡ (is_among xs s || is_among ys s)
is_among-append [] ys s = refl
is_among-append (x ∷ xs) ys s =
    ap (λ t. same_server x s || t) (is_among-append xs ys s)
    ∙ sym (or_assoc (same_server x s) (is_among xs s) (is_among ys s))

pub filter-yes : (p : ServerId → Bool) (x : ServerId) (xs : List ServerId) → p x ≡ true
    → filter p (x ∷ xs) ≡ x ∷ filter p xs
filter-yes p x xs e = rw e refl

pub filter-no : (p : ServerId → Bool) (x : ServerId) (xs : List ServerId) → p x ≡ false → filter p (x ∷ xs) ≡ filter p xs
filter-no p x xs e = rw e refl

-- a server that passes is among those that pass where it is among them
among-filter_yes : (p : ServerId → Bool) (xs : List ServerId) (s : ServerId) → p s ≡ true
    → is_among (filter p xs) s ≡ is_among xs s
among-filter_yes p [] s e = refl
among-filter_yes p (x ∷ xs) s e =
    let old : is_among (filter p xs) s ≡ is_among xs s = among-filter_yes p xs s e
    in elim (cases_Bool (p x)) [
      | inl passes ↦ ap (λ (ys : List ServerId). is_among ys s) (filter-yes p x xs passes)
          ∙ ap (λ t. same_server x s || t) old
      | inr fails ↦ elim (cases_server x s) [
        | inl same ↦ absurd (both_ways (p s) (rw same.1 at fails) e)
        | inr other ↦ ap (λ (ys : List ServerId). is_among ys s) (filter-no p x xs fails) ∙ old
            ∙ sym (ap (λ t. t || is_among xs s) other.0)
      ]
    ]

among-filter_no : (p : ServerId → Bool) (xs : List ServerId) (s : ServerId) → p s ≡ false
    → is_among (filter p xs) s ≡ false
among-filter_no p [] s e = refl
among-filter_no p (x ∷ xs) s e =
    let old : is_among (filter p xs) s ≡ false = among-filter_no p xs s e
    in elim (cases_Bool (p x)) [
      | inl passes ↦ elim (cases_server x s) [
        | inl same ↦ absurd (both_ways (p s) e (rw same.1 at passes))
        | inr other ↦ ap (λ (ys : List ServerId). is_among ys s) (filter-yes p x xs passes)
            ∙ ap (λ t. t || is_among (filter p xs) s) other.0 ∙ old
      ]
      | inr fails ↦ ap (λ (ys : List ServerId). is_among ys s) (filter-no p x xs fails) ∙ old
    ]

-- who is among the servers with one more
pub among-with : (s : ServerId) (servers : List ServerId) (x : ServerId)
    → is_among (with_server s servers) x ≡ (same_server s x || is_among servers x)
among-with s servers x =
    is_among-append (filter (λ t. ltb t.0 s.0) servers) (s ∷ filter (λ t. ltb s.0 t.0) servers) x
    ∙ elim (cases_order x.0 s.0) [
      | inl same ↦
          let here : same_server s x ≡ true = eq-eqb _ _ (sym same)
          in rw here (or_true (is_among (filter (λ t. ltb t.0 s.0) servers) x))
      | inr apart ↦ elim apart [
        | inl below ↦
            let here : same_server s x ≡ false = ne_eqb _ _ (λ e. omega arith)
            in let low : is_among (filter (λ t. ltb t.0 s.0) servers) x ≡ is_among servers x =
            among-filter_yes (λ t. ltb t.0 s.0) servers x (lt-ltb _ _ below)
            in let high : is_among (filter (λ t. ltb s.0 t.0) servers) x ≡ false =
            among-filter_no (λ t. ltb s.0 t.0) servers x (le-ltb _ _ (omega arith))
            in rw (here, low, high) (or_false (is_among servers x))
        | inr above ↦
            let here : same_server s x ≡ false = ne_eqb _ _ (λ e. omega arith)
            in let low : is_among (filter (λ t. ltb t.0 s.0) servers) x ≡ false =
            among-filter_no (λ t. ltb t.0 s.0) servers x (le-ltb _ _ (omega arith))
            in let high : is_among (filter (λ t. ltb s.0 t.0) servers) x ≡ is_among servers x =
            among-filter_yes (λ t. ltb s.0 t.0) servers x (lt-ltb _ _ above)
            in rw (here, low, high) refl
      ]
    ]
  where
    or_true : (t : Bool) → (t || (true || is_among (filter (λ y. ltb s.0 y.0) servers) x)) ≡ true
    or_true true = refl
    or_true false = refl

    or_false : (t : Bool) → (t || (false || false)) ≡ t
    or_false true = refl
    or_false false = refl

-- and without one
pub among-without : (s : ServerId) (servers : List ServerId) (x : ServerId)
    → is_among (without_server s servers) x ≡ (is_among servers x && not (same_server s x))
among-without s servers x =
    elim (cases_server x s) [
      | inl same ↦
          let other_way : same_server s x ≡ true = eq-eqb _ _ (sym (eqb-true _ _ same.0))
          in among-filter_no (λ t. not (same_server t s)) servers x (ap not same.0)
          ∙ sym (ap (λ t. is_among servers x && not t) other_way ∙ and_false (is_among servers x))
      | inr apart ↦
          let other_way : same_server s x ≡ false = ne_eqb _ _ (λ e. apart.1 (λ i. record { 0 = sym e i }))
          in among-filter_yes (λ t. not (same_server t s)) servers x (ap not apart.0)
          ∙ sym (ap (λ t. is_among servers x && not t) other_way ∙ and_true (is_among servers x))
    ]
  where
    and_false : (t : Bool) → (t && false) ≡ false
    and_false true = refl
    and_false false = refl

    and_true : (t : Bool) → (t && true) ≡ t
    and_true true = refl
    and_true false = refl

pub RiseFrom-lower : (low high : ℕ) (servers : List ServerId) → low ≤ high → RiseFrom high servers → RiseFrom low servers
RiseFrom-lower low high [] h rise = tt
RiseFrom-lower low high (x ∷ servers) h rise = (omega (arith, rise.0), rise.1)

RiseFrom-filter : (p : ServerId → Bool) (low : ℕ) (servers : List ServerId) → RiseFrom low servers
    → RiseFrom low (filter p servers)
RiseFrom-filter p low [] rise = tt
RiseFrom-filter p low (x ∷ servers) rise =
    let old : RiseFrom (x.0 + 1) (filter p servers) = RiseFrom-filter p (x.0 + 1) servers rise.1
    in elim (cases_Bool (p x)) [
      | inl passes ↦ subst (RiseFrom low) (sym (filter-yes p x servers passes)) (rise.0, old)
      | inr fails ↦ subst (RiseFrom low) (sym (filter-no p x servers fails))
          (RiseFrom-lower low (x.0 + 1) (filter p servers) (omega (arith, rise.0)) old)
    ]

pub RiseFrom-without : (s : ServerId) (low : ℕ) (servers : List ServerId) → RiseFrom low servers
    → RiseFrom low (without_server s servers)
RiseFrom-without s low servers rise = RiseFrom-filter (λ t. not (same_server t s)) low servers rise

pub none_below : (s : ServerId) (low : ℕ) (servers : List ServerId) → RiseFrom low servers → s.0 < low
    → filter (λ t. ltb t.0 s.0) servers ≡ []
none_below s low [] rise h = refl
none_below s low (x ∷ servers) rise h =
    filter-no (λ t. ltb t.0 s.0) x servers (le-ltb _ _ (omega (arith, rise.0)))
    ∙ none_below s (x.0 + 1) servers rise.1 (omega (arith, rise.0))

pub RiseFrom-with : (s : ServerId) (low : ℕ) (servers : List ServerId) → low ≤ s.0 → RiseFrom low servers
    → RiseFrom low (with_server s servers)
RiseFrom-with s low [] h rise = (h, tt)
RiseFrom-with s low (x ∷ servers) h rise =
    elim (cases_order x.0 s.0) [
      | inl same ↦
          let a = filter-no (λ t. ltb t.0 s.0) x servers (le-ltb _ _ (omega arith))
          in let b = filter-no (λ t. ltb s.0 t.0) x servers (le-ltb _ _ (omega arith))
          in subst (RiseFrom low)
          (sym (ap (λ (xs : List ServerId). xs ++ s ∷ filter (λ t. ltb s.0 t.0) (x ∷ servers)) a
          ∙ ap (λ (ys : List ServerId). filter (λ t. ltb t.0 s.0) servers ++ s ∷ ys) b))
          (RiseFrom-with s low servers h (RiseFrom-lower low (x.0 + 1) servers (omega (arith, rise.0)) rise.1))
      | inr apart ↦ elim apart [
        | inl below ↦
            let a = filter-yes (λ t. ltb t.0 s.0) x servers (lt-ltb _ _ below)
            in let b = filter-no (λ t. ltb s.0 t.0) x servers (le-ltb _ _ (omega arith))
            in subst (RiseFrom low)
            (sym (ap (λ (xs : List ServerId). xs ++ s ∷ filter (λ t. ltb s.0 t.0) (x ∷ servers)) a
            ∙ ap (λ (ys : List ServerId). x ∷ (filter (λ t. ltb t.0 s.0) servers ++ s ∷ ys)) b))
            (rise.0, RiseFrom-with s (x.0 + 1) servers (omega arith) rise.1)
        | inr above ↦
            let a = filter-no (λ t. ltb t.0 s.0) x servers (le-ltb _ _ (omega arith))
            ∙ none_below s (x.0 + 1) servers rise.1 (omega arith)
            in let b = filter-yes (λ t. ltb s.0 t.0) x servers (lt-ltb _ _ above)
            in subst (RiseFrom low)
            (sym (ap (λ (xs : List ServerId). xs ++ s ∷ filter (λ t. ltb s.0 t.0) (x ∷ servers)) a
            ∙ ap (λ (ys : List ServerId). s ∷ ys) b))
            (h, (omega arith, RiseFrom-filter (λ t. ltb s.0 t.0) (x.0 + 1) servers rise.1))
      ]
    ]

without-absent : (s : ServerId) (servers : List ServerId) → is_among servers s ≡ false
    → without_server s servers ≡ servers
without-absent s [] h = refl
without-absent s (x ∷ servers) h =
    let parts = or_parts (same_server x s) (is_among servers s) h
    in filter-yes (λ t. not (same_server t s)) x servers (ap not parts.0)
    ∙ ap (λ (xs : List ServerId). x ∷ xs) (without-absent s servers parts.1)

-- without one of them they are one fewer
pub length-without : (s : ServerId) (low : ℕ) (servers : List ServerId) → RiseFrom low servers
    → is_among servers s ≡ true → suc (length (without_server s servers)) ≡ length servers
length-without s low [] rise h = absurd (cc)
length-without s low (x ∷ servers) rise h =
    elim (cases_server x s) [
      | inl same ↦
          let gone = filter-no (λ t. not (same_server t s)) x servers (ap not same.0)
          in let rest = without-absent s servers (first_not_among low x servers s rise same.1)
          in ap (λ (xs : List ServerId). suc (length xs)) (gone ∙ rest)
      | inr other ↦
          let here = filter-yes (λ t. not (same_server t s)) x servers (ap not other.0)
          in let among : is_among servers s ≡ true = sym (ap (λ t. t || is_among servers s) other.0) ∙ h
          in ap (λ (xs : List ServerId). suc (length xs)) here
          ∙ ap suc (length-without s (x.0 + 1) servers rise.1 among)
    ]

pub length-with : (s : ServerId) (servers : List ServerId) → 0 < length (with_server s servers)
length-with s servers = longer (filter (λ t. ltb t.0 s.0) servers)
  where
    longer : (xs : List ServerId) → 0 < length (xs ++ s ∷ filter (λ t. ltb s.0 t.0) servers)
    longer [] = omega arith
    longer (x ∷ xs) = omega arith

-- Seats by their places.
use Rattle.std.proofs.Common.{◌≡◌, ℕ, zero, suc, ◌+◌, ◌<◌, ◌==◌, cond, Bool, false, List, [], ◌∷◌, length}
use Rattle.std.proofs.Common.{Option, Some, slice_get, Result, Ok, Err, IfOk, refl, sym, ap, ◌∙◌, subst}
use Rattle.std.proofs.Common.{ne_eqb, zero-add, arith}
use Rattle.std.proofs.lemmas.Option.{same_Some}
use Rattle.atomic_table.specs.Seated.{TableId}
use Rattle.bm_turnstile.specs.Seen.{Covers}
use Rattle.bm_turnstile.specs.Sittings.{Sitting, Who, IsPost, IsFresh, who, post}
use Rattle.bm_turnstile.specs.declared.view.View.{View}
use Rattle.bm_turnstile.specs.Views.{SeatsFrom, NewFrom, SeatsCover, AllIn, IsSameSeat, given_of, fixed_of, sitting}

pub is_post : {X : Type 0} (table : TableId) (fixed : Option X) (n k : ℕ) (w : Who X) → w ≡ post table fixed n k
    → IsPost table n k w
is_post {X = X} table fixed n k w e = record {
  «at» = ap (λ (w : Who X). w.table) e;
  «as» = ap (λ (w : Who X). w.number) e;
  of = ap (λ (w : Who X). w.given) e;
}

module _ {X E : Type 0} where
  pub same_who : (table table' : TableId) (v w : View X E) → table' ≡ table → IsSameSeat v w
      → who (sitting table' w) ≡ who (sitting table v)
  same_who table table' v w own same = λ i. record {
    table = own i;
    number = same.number i;
    fixed = same.fixed i;
    given = cond (same.number i == 0) (same.given i) 0;
  }

  -- GIVEN BACK

  pub seats_from : (table : TableId) (m : ℕ) (l : List (Sitting X E))
      → ((k : ℕ) (s : Sitting X E) → slice_get l k ≡ Some s → (s.table ≡ table) × (s.number ≡ m + k))
      → AllIn (λ (s : Sitting X E). s.table ≡ table) l × SeatsFrom m l
  seats_from table m [] each = (tt, tt)
  seats_from table m (s ∷ l) each =
      let here = each 0 s refl in
      let rest = seats_from table (suc m) l (λ k t at.
      let e = each (suc k) t at in let p = e.1 in (e.0, omega arith)) in
      let p = here.1 in
      ((here.0, rest.0), (omega arith, rest.1))

  pub given_at : (n : ℕ) (table : TableId) (s : Sitting X E) → IsPost table n 0 (who s) → s.given ≡ n
  given_at n table s p =
      let f : ℕ → ℕ = λ k. cond (k == 0) s.given 0 in
      sym (ap f p.«as») ∙ p.of

  pub given_first : (table : TableId) (n : ℕ) (l : List (Sitting X E)) → 0 < length l
      → ((k : ℕ) (s : Sitting X E) → slice_get l k ≡ Some s → IsPost table n k (who s)) → given_of l ≡ n
  given_first table n [] some each = absurd (omega arith)
  given_first table n (s ∷ l) some each = given_at n table s (each 0 s refl)

  pub all_posts : (table : TableId) (n : ℕ) (l : List (Sitting X E))
      → ((k : ℕ) (s : Sitting X E) → slice_get l k ≡ Some s → IsPost table n k (who s))
      → AllIn (λ (s : Sitting X E). s.table ≡ table) l × SeatsFrom 0 l
  all_posts table n l each =
      seats_from table 0 l (λ k s at. let p = each k s at in (p.«at», p.«as» ∙ sym (zero-add k)))

  covers_from : (seat_of : E → ℕ) (log : List E) (m : ℕ) (l : List (Sitting X E)) → SeatsFrom m l
      → SeatsCover seat_of log l → (k : ℕ) (s : Sitting X E) → slice_get l k ≡ Some s
      → Covers seat_of (m + k) s.seen log
  covers_from seat_of log m [] from cover k s at = absurd (cc)
  covers_from seat_of log m (t ∷ l) from cover zero s at =
      let n : t.number ≡ m + 0 = let f = from.0 in omega arith in
      subst (λ (s : Sitting X E). Covers seat_of (m + 0) s.seen log) (same_Some t s at)
      (subst (λ (n : ℕ). Covers seat_of n t.seen log) n cover.0)
  covers_from seat_of log m (t ∷ l) from cover (suc k) s at =
      let n : suc m + k ≡ m + suc k = omega arith in
      subst (λ (n : ℕ). Covers seat_of n s.seen log) n (covers_from seat_of log (suc m) l from.1 cover.1 k s at)

  pub covers_at : (seat_of : E → ℕ) (log : List E) (l : List (Sitting X E)) → SeatsFrom 0 l → SeatsCover seat_of log l
      → (k : ℕ) (s : Sitting X E) → slice_get l k ≡ Some s → Covers seat_of k s.seen log
  covers_at seat_of log l from cover k s at =
      subst (λ (n : ℕ). Covers seat_of n s.seen log) (zero-add k) (covers_from seat_of log 0 l from cover k s at)

  pub fixed_at : (about : X) (l : List (Sitting X E)) → fixed_of l ≡ Some about
      → (s : Sitting X E) → slice_get l 0 ≡ Some s → s.fixed ≡ Some about
  fixed_at about [] h s at = absurd (cc)
  fixed_at about (t ∷ l) h s at = ap (λ (s : Sitting X E). s.fixed) (sym (same_Some t s at)) ∙ h

  -- NEW

  new_at : (about : X) (table : TableId) (m : ℕ) (l : List (Sitting X E)) → NewFrom about m l
      → AllIn (λ (s : Sitting X E). s.table ≡ table) l → (k : ℕ) (s : Sitting X E) → slice_get l k ≡ Some s
      → (s.table ≡ table) × (s.number ≡ m + k) × (s.fixed ≡ Some about) × IsFresh s
  new_at about table m [] new all k s at = absurd (cc)
  new_at about table m (t ∷ l) new all zero s at =
      let P : Sitting X E → Type 0 = λ s.
      (s.table ≡ table) × (s.number ≡ m + 0) × (s.fixed ≡ Some about) × IsFresh s in
      let n = new.0 in
      subst P (same_Some t s at) (all.0, omega arith, new.1, record { turns = new.2; seen = new.3 })
  new_at about table m (t ∷ l) new all (suc k) s at =
      let a = new_at about table (suc m) l new.4 all.1 k s at in
      let n = a.1 in
      (a.0, omega arith, a.2, a.3)

  pub post_at : (about : X) (table : TableId) (n k : ℕ) (s : Sitting X E) → s.table ≡ table → s.number ≡ k
      → s.fixed ≡ Some about → (k ≡ 0 → s.given ≡ n) → who s ≡ post table (Some about) n k
  post_at about table n zero s t number fixed given =
      let a : cond (s.number == 0) s.given 0 ≡ n =
      ap (λ (k : ℕ). cond (k == 0) s.given 0) number ∙ given refl in
      λ i. record { table = t i; number = number i; fixed = fixed i; given = a i }
  post_at about table n (suc k) s t number fixed given =
      let later : (suc k == 0) ≡ false = ne_eqb (suc k) 0 (λ e. absurd (omega arith)) in
      let a : cond (s.number == 0) s.given 0 ≡ cond (suc k == 0) n 0 =
      ap (λ (j : ℕ). cond (j == 0) s.given 0) number
      ∙ (ap (λ (b : Bool). cond b s.given 0) later ∙ ap (λ (b : Bool). cond b n 0) (sym later)) in
      λ i. record { table = t i; number = number i; fixed = fixed i; given = a i }

  given_of_first : (n : ℕ) (l : List (Sitting X E)) → given_of l ≡ n
      → (k : ℕ) (s : Sitting X E) → slice_get l k ≡ Some s → k ≡ 0 → s.given ≡ n
  given_of_first n [] h k s at first = absurd (cc)
  given_of_first n (t ∷ l) h zero s at first = ap (λ (s : Sitting X E). s.given) (sym (same_Some t s at)) ∙ h
  given_of_first n (t ∷ l) h (suc k) s at first = absurd (omega arith)

  pub seated_at : {R M : Type 0} (about : X) (n : ℕ) (table : R → TableId) (seats : R → List (Sitting X E))
      (r : Result R M) → IfOk r (λ t. given_of (seats t) ≡ n)
      → IfOk r (λ t. NewFrom about 0 (seats t))
      → IfOk r (λ t. AllIn (λ (s : Sitting X E). s.table ≡ table t) (seats t))
      → IfOk r (λ t. (k : ℕ) (s : Sitting X E) → slice_get (seats t) k ≡ Some s
      → IsFresh s × (who s ≡ post (table t) (Some about) n k))
  seated_at about n table seats (Ok t) given new own = λ k s at.
      let a = new_at about (table t) 0 (seats t) new own k s at in
      let first = given_of_first n (seats t) given k s at in
      (a.3, post_at about (table t) n k s a.0 (a.1 ∙ zero-add k) a.2 first)
  seated_at about n table seats (Err e) given new own = tt

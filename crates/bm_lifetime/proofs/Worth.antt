-- What lengthens a lifetime.
use Rattle.std.proofs.Common.{◌≡◌, ℕ, zero, suc, ◌+◌, ◌-◌, ◌<◌, ◌≤◌, true, inl, inr, List, [], ◌∷◌, ◌++◌}
use Rattle.std.proofs.Common.{Option, Some, None, take, drop, length, map, is_some, refl, sym, arith, eqb}
use Rattle.std.specs.Prelude.{All, flat_map}
use Rattle.std.proofs.lemmas.Bool.{cases_Bool, eq-eqb, eqb-true, lt-ltb}
use Rattle.std.proofs.lemmas.List.Elements.{All-head, All-tail}
use Rattle.bm_table.specs.declared.plan.Change.{Change}
use Rattle.bm_table.specs.declared.script.Script.{Script}
use Rattle.bm_table.specs.Tables.{target}
use Rattle.bm_lifetime.specs.declared.seen.Moved.{Moved}
use Rattle.bm_lifetime.specs.Lifetime.{are_all, bounds_by, bounds_of, buckets, is_by_port, is_steady, least, lesser}
use Rattle.bm_lifetime.specs.Lifetime.{lifetime, longest_lag, moves_from, moves_of, timeout_bound}
use Rattle.bm_lifetime.specs.Worth.{IsNoLonger, later, with_changes, with_first, with_timeout, with_wait}
use Rattle.bm_lifetime.proofs.Bounds.{least-append, moves_it, times}

-- LONGER BOUNDS

lesser_longer : (a b c d : Option ℕ) → IsNoLonger a b → IsNoLonger c d → IsNoLonger (lesser a c) (lesser b d)
lesser_longer a None c None ab cd = tt
lesser_longer None None None (Some d) ab cd = absurd cd
lesser_longer None None (Some c) (Some d) ab cd = cd
lesser_longer (Some a) None None (Some d) ab cd = absurd cd
lesser_longer (Some a) None (Some c) (Some d) ab cd = omega (arith, cd)
lesser_longer None (Some b) c d ab cd = absurd ab
lesser_longer (Some a) (Some b) None None ab cd = ab
lesser_longer (Some a) (Some b) (Some c) None ab cd = omega (arith, ab)
lesser_longer (Some a) (Some b) None (Some d) ab cd = absurd cd
lesser_longer (Some a) (Some b) (Some c) (Some d) ab cd = omega (arith, ab, cd)

zero_longer : (a : Option ℕ) → IsNoLonger (Some 0) a
zero_longer None = tt
zero_longer (Some a) = omega arith

-- what holds of each bucket holds of all
all_longer : (f g : ℕ → List ℕ) → ((b : ℕ) → IsNoLonger (least (f b)) (least (g b))) → (bs : List ℕ)
    → IsNoLonger (least (flat_map f bs)) (least (flat_map g bs))
all_longer f g each [] = tt
all_longer f g each (b ∷ bs) =
    rw (least-append (f b) (flat_map f bs), least-append (g b) (flat_map g bs))
    (lesser_longer (least (f b)) (least (g b)) (least (flat_map f bs)) (least (flat_map g bs)) (each b)
    (all_longer f g each bs))

-- FEWER MOVES, OR FURTHER APART

-- the second moves are the first of the first ones, each later than these by a wait that doesn't fall from one to the
-- next, from this wait on
abbrev AreLooser : ℕ → List Moved → List Moved → Type 0
AreLooser wait xs [] = Unit {0}
AreLooser wait [] (y ∷ ys) = ⊥
AreLooser wait (x ∷ xs) (y ∷ ys) =
    (more : ℕ) × (wait ≤ more) × (y.moment ≡ x.moment + more) × AreLooser more xs ys

looser_times : (wait : ℕ) (xs ys : List Moved) → AreLooser wait xs ys
    → IsNoLonger (least (times xs)) (least (times ys))
looser_times wait xs [] loose = tt
looser_times wait xs (y ∷ []) loose = tt
looser_times wait xs (y ∷ v ∷ []) loose = tt
looser_times wait [] (y ∷ v ∷ w ∷ ys) loose = absurd loose
looser_times wait (x ∷ []) (y ∷ v ∷ w ∷ ys) loose = absurd loose.3
looser_times wait (x ∷ s ∷ []) (y ∷ v ∷ w ∷ ys) loose = absurd loose.3.3
looser_times wait (x ∷ s ∷ t ∷ xs) (y ∷ v ∷ w ∷ ys) loose =
    let here = loose.2
    in let order = loose.3.1
    in let further = loose.3.3.1
    in let there = loose.3.3.2
    in lesser_longer (Some (t.moment - x.moment)) (Some (w.moment - y.moment)) (least (times (s ∷ t ∷ xs)))
    (least (times (v ∷ w ∷ ys))) (omega arith) (looser_times loose.0 (s ∷ t ∷ xs) (v ∷ w ∷ ys) loose.3)

looser_bounds : (most more wait : ℕ) (xs ys : List Moved) → most ≤ more → AreLooser wait xs ys
    → IsNoLonger (least (bounds_by most xs)) (least (bounds_by more ys))
looser_bounds most more wait xs [] order loose = tt
looser_bounds most more wait [] (y ∷ ys) order loose = absurd loose
looser_bounds most more wait (x ∷ xs) (y ∷ ys) order loose =
    lesser_longer (Some most) (Some more) (least (times (x ∷ xs))) (least (times (y ∷ ys))) order
    (looser_times wait (x ∷ xs) (y ∷ ys) loose)

-- a script with a timeout as long, and with such moves of each bucket
looser_script : (old new : Script) → (is_steady old ≡ true → is_steady new ≡ true)
    → old.setting.buckets ≡ new.setting.buckets → timeout_bound old ≤ timeout_bound new
    → ((b : ℕ) → AreLooser 0 (moves_of old b) (moves_of new b)) → IsNoLonger (lifetime old) (lifetime new)
looser_script old new steady count order loose =
    rw (sym count) (all_longer (bounds_of old) (bounds_of new) each (buckets old)) where
      each : (b : ℕ) → IsNoLonger (least (bounds_of old b)) (least (bounds_of new b))
      each b = elim (cases_Bool (is_steady old)) [
        | inl is ↦ rw (is, steady is)
            (looser_bounds (timeout_bound old) (timeout_bound new) 0 (moves_of old b) (moves_of new b) order (loose b))
        | inr not_it ↦ rw not_it (zero_longer (least (bounds_of new b)))
      ]

same_moves : (xs : List Moved) → AreLooser 0 xs xs
same_moves [] = tt
same_moves (x ∷ xs) = (0, omega arith, omega arith, same_moves xs)

-- THE THREE LAWS

pub timeout_law : (script : Script) (timeout : ℕ) → script.setting.timeout ≤ timeout
    → IsNoLonger (lifetime script) (lifetime (with_timeout script timeout))
timeout_law script timeout order =
    looser_script script (with_timeout script timeout) (λ steady. steady) refl (omega arith)
    (λ b. same_moves (moves_of script b))

-- fewer changes leave a script steady
still_steady : (script : Script) (changes : List Change)
    → (length script.plan.changes ≡ 0 → length changes ≡ 0) → is_steady script ≡ true
    → is_steady (with_changes script changes) ≡ true
still_steady script changes none steady = elim (cases_Bool (is_by_port script.setting.route)) [
  | inl port ↦ rw port refl
  | inr turn ↦ elim (cases_Bool (are_all (longest_lag script.setting) script.setting.lags)) [
    | inl all ↦ rw (turn, all) refl
    | inr other ↦
        let empty : eqb (length script.plan.changes) 0 ≡ true = rw (turn, other) at steady
        in rw (turn, other) (eq-eqb _ _ (none (eqb-true _ _ empty)))
  ]
]

first_looser : (lag b n count : ℕ) (changes : List Change)
    → AreLooser 0 (moves_from lag b n changes) (moves_from lag b n (take count changes))
first_looser lag b n zero changes = tt
first_looser lag b n (suc count) [] = tt
first_looser lag b n (suc count) (c ∷ changes) = elim (cases_Bool (moves_it lag b c)) [
  | inl moves ↦ rw moves (0, omega arith, omega arith, first_looser lag b (suc n) count changes)
  | inr stays ↦ rw stays (first_looser lag b (suc n) count changes)
]

none_first : (count : ℕ) (changes : List Change) → length changes ≡ 0 → length (take count changes) ≡ 0
none_first zero changes none = refl
none_first (suc count) [] none = refl
none_first (suc count) (c ∷ changes) none = absurd (omega arith)

pub first_law : (script : Script) (count : ℕ) → IsNoLonger (lifetime script) (lifetime (with_first script count))
first_law script count =
    looser_script script (with_first script count)
    (still_steady script (take count script.plan.changes) (none_first count script.plan.changes)) refl (omega arith)
    (λ b. first_looser (longest_lag script.setting) b 1 count script.plan.changes)

-- packets may come before the change
abbrev pub Counts : ℕ → Change → Type 0
Counts lag c = 0 < c.moment.0 + lag

later_looser : (lag b n wait from : ℕ) (changes : List Change) → from ≤ wait → All (Counts lag) changes
    → AreLooser from (moves_from lag b n changes) (moves_from lag b n (map (later wait) changes))
later_looser lag b n wait from [] order all = tt
later_looser lag b n wait from (c ∷ changes) order all =
    let head = All-head (Counts lag) c changes all
    in let tail = All-tail (Counts lag) c changes all
    in elim (cases_Bool (is_some (target c.moves b))) [
      | inl moves ↦ rw (moves, lt-ltb 0 (c.moment.0 + lag) head, lt-ltb 0 (c.moment.0 + wait + lag) (omega arith))
          (wait, order, refl, later_looser lag b (suc n) wait wait changes (omega arith) tail)
      | inr stays ↦ rw stays (later_looser lag b (suc n) wait from changes order tail)
    ]

wait_looser : (lag b n before wait : ℕ) (changes : List Change) → All (Counts lag) (drop before changes)
    → AreLooser 0 (moves_from lag b n changes)
    (moves_from lag b n (take before changes ++ map (later wait) (drop before changes)))
wait_looser lag b n zero wait changes all = later_looser lag b n wait 0 changes (omega arith) all
wait_looser lag b n (suc before) wait [] all = tt
wait_looser lag b n (suc before) wait (c ∷ changes) all = elim (cases_Bool (moves_it lag b c)) [
  | inl moves ↦ rw moves (0, omega arith, omega arith, wait_looser lag b (suc n) before wait changes all)
  | inr stays ↦ rw stays (wait_looser lag b (suc n) before wait changes all)
]

none_later : (before wait : ℕ) (changes : List Change) → length changes ≡ 0
    → length (take before changes ++ map (later wait) (drop before changes)) ≡ 0
none_later zero wait [] none = refl
none_later (suc before) wait [] none = refl
none_later before wait (c ∷ changes) none = absurd (omega arith)

pub wait_law : (script : Script) (before wait : ℕ)
    → All (Counts (longest_lag script.setting)) (drop before script.plan.changes)
    → IsNoLonger (lifetime script) (lifetime (with_wait script before wait))
wait_law script before wait all =
    looser_script script (with_wait script before wait)
    (still_steady script (with_wait script before wait).plan.changes (none_later before wait script.plan.changes)) refl
    (omega arith) (λ b. wait_looser (longest_lag script.setting) b 1 before wait script.plan.changes all)

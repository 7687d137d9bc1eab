-- What is kept of each bucket says what bounds a lifetime.
use Rattle.std.proofs.Common.{◌≡◌, ℕ, zero, suc, ◌+◌, ◌<◌, ◌≤◌, true, false, cond, inl, inr, List, [], ◌∷◌, ◌++◌}
use Rattle.std.proofs.Common.{Option, Some, None, length, map, filter, refl, sym, ap, ◌∙◌, append-nil, arith, eqb, ltb}
use Rattle.std.proofs.Common.{length-append, if◌then◌else◌, ◌==◌}
use Rattle.std.specs.Prelude.{IfSome, find, filter_map, flat_map, slice_get}
use Rattle.std.specs.List.{cons_option, range_with_len}
use Rattle.std.specs.Option.{option_and_then, option_map, option_map_or}
use Rattle.std.proofs.lemmas.Bool.{cases_eq, cases_lt, eq-eqb, ne_eqb, lt-ltb, le-ltb}
use Rattle.std.proofs.lemmas.List.Elements.{filter-append, filter_map-append}
use Rattle.bm_table.specs.declared.script.Script.{Script}
use Rattle.bm_lifetime.specs.declared.explained.Lifetime.{Lifetime}
use Rattle.bm_lifetime.specs.declared.seen.Moved.{Moved}
use Rattle.bm_lifetime.specs.declared.seen.Seen.{Seen}
use Rattle.bm_lifetime.specs.declared.seen.Shortest.{Shortest}
use Rattle.bm_lifetime.specs.declared.seen.Span.{Span}
use Rattle.bm_lifetime.specs.Inside.Seen.{IsSeen, above, bound_seen, explain_seen, least_next, least_seen, near_of}
use Rattle.bm_lifetime.specs.Inside.Seen.{near_seen, next_of, next_seen, seen_of, shortest_of, with_first}
use Rattle.bm_lifetime.specs.Inside.Seen.{with_near}
use Rattle.bm_lifetime.specs.Lifetime.{bounds_by, bounds_of, explain, explained, is_steady, least, lesser, lifetime, longest_lag}
use Rattle.bm_lifetime.specs.Lifetime.{moves_of, near_in, near_moves, slack, spans}
use Rattle.bm_lifetime.specs.Lifetime.{spans_of, timeout_bound}
use Rattle.bm_lifetime.proofs.Bounds.{flat_more, least-append, one_more}

-- THE SHORTEST OF SOME SPANS

abbrev pub taken : List Span → List ℕ
taken spans = map (λ s. s.time) spans

-- none of these takes less
abbrev pub NoneLess : ℕ → List ℕ → Type 0
NoneLess time [] = Unit {0}
NoneLess time (x ∷ xs) = (time ≤ x) × NoneLess time xs

first_least : (s : Span) (old : Shortest) (o : Option Span) (t : Option ℕ) → option_map (λ x. x.time) o ≡ t
    → option_map (λ x. x.time) (with_first s old o).span ≡ lesser (Some s.time) t
first_least s old None t is = rw (sym is) refl
first_least s old (Some l) t is = elim (cases_lt l.time s.time) [
  | inl less ↦ rw (lt-ltb _ _ less, sym is) (ap (λ (n : ℕ). Some n) (omega arith))
  | inr more ↦ elim (cases_lt s.time l.time) [
    | inl less ↦ rw (le-ltb _ _ more, lt-ltb _ _ less, sym is) (ap (λ (n : ℕ). Some n) (omega arith))
    | inr same ↦ rw (le-ltb _ _ more, le-ltb _ _ same, sym is) (ap (λ (n : ℕ). Some n) (omega arith))
  ]
]

-- the shortest takes the least time
shortest_least : (spans : List Span) → option_map (λ s. s.time) (shortest_of spans).span ≡ least (taken spans)
shortest_least [] = refl
shortest_least (s ∷ spans) =
    first_least s (shortest_of spans) (shortest_of spans).span (least (taken spans)) (shortest_least spans)

-- the first that takes a time which none is below is the shortest, if it takes it
first_found : (time : ℕ) (s : Span) (old : Shortest) (o : Option Span) (f : Option Span) → time ≤ s.time
    → IfSome o (λ l. time ≤ l.time)
    → option_and_then (λ l. if l.time == time then Some l else None) o ≡ f
    → option_and_then (λ l. if l.time == time then Some l else None) (with_first s old o).span
    ≡ cond (eqb s.time time) (Some s) f
first_found time s old None f from all is = rw (sym is) refl
first_found time s old (Some l) f from all is = elim (cases_lt l.time s.time) [
  | inl less ↦
      let t : eqb s.time time ≡ false = ne_eqb _ _ (λ e. omega (arith, all))
      in rw (lt-ltb _ _ less, t) is
  | inr more ↦ elim (cases_lt s.time l.time) [
    | inl less ↦
        let t : eqb l.time time ≡ false = ne_eqb _ _ (λ e. omega arith)
        in let none : None ≡ f = rw t at is
        in rw (le-ltb _ _ more, lt-ltb _ _ less, sym none) refl
    | inr same ↦
        let e : l.time ≡ s.time = omega arith
        in rw (le-ltb _ _ more, le-ltb _ _ same) (elim (cases_eq s.time time) [
          | inl hit ↦ let t : eqb s.time time ≡ true = eq-eqb _ _ hit in rw t refl
          | inr miss ↦
              let t : eqb s.time time ≡ false = ne_eqb _ _ miss
              in let none : None ≡ f = rw (e, t) at is
              in rw (t, sym none) refl
        ])
  ]
]

-- what takes a time which none is below
shortest_from : (time : ℕ) (spans : List Span) → NoneLess time (taken spans)
    → IfSome (shortest_of spans).span (λ l. time ≤ l.time)
shortest_from time [] none = tt
shortest_from time (s ∷ spans) none =
    go (shortest_of spans) (shortest_of spans).span (shortest_from time spans none.1) where
      go : (old : Shortest) (o : Option Span) → IfSome o (λ l. time ≤ l.time)
          → IfSome (with_first s old o).span (λ l. time ≤ l.time)
      go old None all = none.0
      go old (Some l) all = elim (cases_lt l.time s.time) [
        | inl less ↦ rw (lt-ltb _ _ less) all
        | inr more ↦ elim (cases_lt s.time l.time) [
          | inl less ↦ rw (le-ltb _ _ more, lt-ltb _ _ less) none.0
          | inr same ↦ rw (le-ltb _ _ more, le-ltb _ _ same) none.0
        ]
      ]

pub shortest_found : (time : ℕ) (spans : List Span) → NoneLess time (taken spans)
    → near_of time (shortest_of spans) ≡ find (λ s. s.time == time) spans
shortest_found time [] none = refl
shortest_found time (s ∷ spans) none =
    first_found time s (shortest_of spans) (shortest_of spans).span (find (λ x. x.time == time) spans) none.0
    (shortest_from time spans none.1) (shortest_found time spans none.1)

-- the least of these above the time
abbrev pub over : ℕ → List ℕ → Option ℕ
over time xs = least (filter (λ x. ltb time x) xs)

-- one more that may be above
abbrev pub over_more : ℕ → ℕ → Option ℕ → Option ℕ
over_more time x rest = cond (ltb time x) (lesser (Some x) rest) rest

pub over_first : (time x : ℕ) (xs : List ℕ) → over time (x ∷ xs) ≡ over_more time x (over time xs)
over_first time x xs = elim (cases_lt time x) [
  | inl above ↦ rw (lt-ltb _ _ above) refl
  | inr below ↦ rw (le-ltb _ _ below) refl
]

-- the time of the shortest above one which none is below
first_next : (time : ℕ) (s : Span) (old : Shortest) (o : Option Span) (f : Option ℕ) → time ≤ s.time
    → IfSome o (λ l. time ≤ l.time)
    → option_map_or (λ l. cond (ltb time l.time) (Some l.time) old.next) o None ≡ f
    → next_of time (with_first s old o) ≡ over_more time s.time f
first_next time s old None f from all is = rw (sym is) refl
first_next time s old (Some l) f from all is = elim (cases_lt l.time s.time) [
  | inl less ↦
      rw (lt-ltb _ _ less, lt-ltb time s.time (omega (arith, all))) (elim (cases_lt time l.time) [
        | inl up ↦
            let hit : Some l.time ≡ f = rw (lt-ltb _ _ up) at is
            in rw (lt-ltb _ _ up, sym hit) (ap (λ (n : ℕ). Some n) (omega arith))
        | inr down ↦
            let miss : old.next ≡ f = rw (le-ltb _ _ down) at is
            in rw (le-ltb _ _ down, miss) refl
      ])
  | inr more ↦ elim (cases_lt s.time l.time) [
    | inl less ↦
        let hit : Some l.time ≡ f = rw (lt-ltb time l.time (omega arith)) at is
        in rw (le-ltb _ _ more, lt-ltb _ _ less, sym hit) (elim (cases_lt time s.time) [
          | inl up ↦ rw (lt-ltb _ _ up) (ap (λ (n : ℕ). Some n) (omega arith))
          | inr down ↦ rw (le-ltb _ _ down) refl
        ])
    | inr same ↦
        let e : l.time ≡ s.time = omega arith
        in rw (le-ltb _ _ more, le-ltb _ _ same) (elim (cases_lt time s.time) [
          | inl up ↦
              let hit : Some s.time ≡ f = rw (e, lt-ltb _ _ up) at is
              in rw (lt-ltb _ _ up, sym hit) (ap (λ (n : ℕ). Some n) (omega arith))
          | inr down ↦
              let miss : old.next ≡ f = rw (e, le-ltb _ _ down) at is
              in rw (le-ltb _ _ down, miss) refl
        ])
  ]
]

shortest_next : (time : ℕ) (spans : List Span) → NoneLess time (taken spans)
    → next_of time (shortest_of spans) ≡ over time (taken spans)
shortest_next time [] none = refl
shortest_next time (s ∷ spans) none =
    first_next time s (shortest_of spans) (shortest_of spans).span (over time (taken spans)) none.0
    (shortest_from time spans none.1) (shortest_next time spans none.1)
    ∙ sym (over_first time s.time (taken spans))

-- ONE BUCKET

own_least : (most : ℕ) (moves : List Moved) → bound_seen most (seen_of moves) ≡ least (bounds_by most moves)
own_least most [] = refl
own_least most (x ∷ moves) = ap (lesser (Some most)) (shortest_least (spans (x ∷ moves)))

own_next : (most time : ℕ) (moves : List Moved) → NoneLess time (bounds_by most moves)
    → next_seen most time (seen_of moves) ≡ over time (bounds_by most moves)
own_next most time [] none = refl
own_next most time (x ∷ moves) none =
    ap (lesser (above time most)) (shortest_next time (spans (x ∷ moves)) none.1)
    ∙ (elim (cases_lt time most) [
      | inl up ↦ rw (lt-ltb _ _ up) refl
      | inr down ↦ rw (le-ltb _ _ down) refl
    ])

own_near : (most time : ℕ) (moves : List Moved) → NoneLess time (bounds_by most moves)
    → near_of time (seen_of moves).shortest ≡ find (λ s. s.time == time) (spans moves)
own_near most time [] none = refl
own_near most time (x ∷ moves) none = shortest_found time (spans (x ∷ moves)) none.1

-- ALL BUCKETS

least_from : (time x : ℕ) (o : Option ℕ) → IfSome (lesser (Some x) o) (λ l. time ≤ l)
    → (time ≤ x) × IfSome o (λ l. time ≤ l)
least_from time x None all = (all, tt)
least_from time x (Some y) all = (omega (arith, all), omega (arith, all))

-- the least is below none
none_less : (time : ℕ) (xs : List ℕ) → IfSome (least xs) (λ l. time ≤ l) → NoneLess time xs
none_less time [] all = tt
none_less time (x ∷ xs) all =
    let parts = least_from time x (least xs) all
    in (parts.0, none_less time xs parts.1)

none_parts : (time : ℕ) (xs ys : List ℕ) → NoneLess time (xs ++ ys) → NoneLess time xs × NoneLess time ys
none_parts time [] ys none = (tt, none)
none_parts time (x ∷ xs) ys none =
    let parts = none_parts time xs ys none.1
    in ((none.0, parts.0), parts.1)

over-append : (time : ℕ) (xs ys : List ℕ) → over time (xs ++ ys) ≡ lesser (over time xs) (over time ys)
over-append time xs ys =
    ap least (filter-append (λ x. ltb time x) xs ys)
    ∙ least-append (filter (λ x. ltb time x) xs) (filter (λ x. ltb time x) ys)

-- the buckets with a span of the time, with one more
joined : (xs : List (ℕ × Span)) (b : ℕ) (o : Option Span)
    → near_moves (xs ++ cons_option (option_map (λ s. (b, s)) o) []) ≡ with_near b o (near_moves xs)
joined xs b None = ap near_moves (append-nil xs)
joined [] b (Some s) = refl
joined ((a, t) ∷ xs) b (Some s) =
    let e : suc (length (xs ++ (b, s) ∷ [])) ≡ suc (length xs) + 1 = omega (arith, length-append xs ((b, s) ∷ []))
    in ap (λ (n : ℕ). Some (record { first = t.first; third = t.third; buckets = n; lowest = a })) e

module _ (script : Script) (seen : List Seen) (steady : is_steady script ≡ true)
    (noted : IsSeen (longest_lag script.setting) script.setting.buckets 1 script.plan.changes seen) where
  abbrev flat : ℕ → List ℕ
  flat n = flat_map (bounds_of script) (range_with_len 0 n)

  all_least : (n : ℕ) → n ≤ script.setting.buckets → least_seen (timeout_bound script) seen n ≡ least (flat n)
  all_least zero few = refl
  all_least (suc n) few =
      let old = all_least n (omega arith)
      in let own : option_and_then (bound_seen (timeout_bound script)) (slice_get seen n) ≡ least (bounds_of script n) =
      rw (noted.each n (omega arith), steady) (own_least (timeout_bound script) (moves_of script n))
      in rw (flat_more (bounds_of script) n, least-append (flat n) (bounds_of script n)) (λ i. lesser (old i) (own i))

  all_next : (time n : ℕ) → n ≤ script.setting.buckets → NoneLess time (flat n)
      → least_next (timeout_bound script) time seen n ≡ over time (flat n)
  all_next time zero few none = refl
  all_next time (suc n) few none =
      let parts = none_parts time (flat n) (bounds_of script n) (rw (flat_more (bounds_of script) n) at none)
      in let old = all_next time n (omega arith) parts.0
      in let here : NoneLess time (bounds_by (timeout_bound script) (moves_of script n)) = rw steady at parts.1
      in let own : option_and_then (next_seen (timeout_bound script) time) (slice_get seen n)
      ≡ over time (bounds_of script n) =
      rw (noted.each n (omega arith), steady) (own_next (timeout_bound script) time (moves_of script n) here)
      in rw (flat_more (bounds_of script) n, over-append time (flat n) (bounds_of script n)) (λ i. lesser (old i) (own i))

  all_near : (time n : ℕ) → n ≤ script.setting.buckets → NoneLess time (flat n)
      → near_seen time seen n ≡ near_moves (filter_map (near_in script time) (range_with_len 0 n))
  all_near time zero few none = refl
  all_near time (suc n) few none =
      let parts = none_parts time (flat n) (bounds_of script n) (rw (flat_more (bounds_of script) n) at none)
      in let old = all_near time n (omega arith) parts.0
      in let here : NoneLess time (bounds_by (timeout_bound script) (moves_of script n)) = rw steady at parts.1
      in let own : option_and_then (λ s. near_of time s.shortest) (slice_get seen n)
      ≡ find (λ s. s.time == time) (spans_of script n) =
      rw (noted.each n (omega arith), steady) (own_near (timeout_bound script) time (moves_of script n) here)
      in let more : filter_map (near_in script time) (range_with_len 0 (suc n))
      ≡ filter_map (near_in script time) (range_with_len 0 n) ++ cons_option (near_in script time n) [] =
      ap (filter_map (near_in script time)) (one_more n)
      ∙ filter_map-append (near_in script time) (range_with_len 0 n) (n ∷ [])
      in (λ i. with_near n (own i) (old i))
      ∙ (sym (joined (filter_map (near_in script time) (range_with_len 0 n)) n
      (find (λ s. s.time == time) (spans_of script n)))
      ∙ ap near_moves (sym more))

  abbrev said : ℕ → ℕ → Lifetime
  said n time = record {
    time = time;
    by_timeout = time == timeout_bound script;
    by_moves = near_seen time seen n;
    next = least_next (timeout_bound script) time seen n;
    slack = slack script.setting;
  }

  said_so : (o : Option ℕ) → lifetime script ≡ o
      → option_map (said script.setting.buckets) o ≡ option_map (explain script) o
  said_so None is = refl
  said_so (Some time) is =
      let least_is : IfSome (lifetime script) (λ l. time ≤ l) = rw is (omega arith)
      in let none : NoneLess time (flat script.setting.buckets) =
      none_less time (flat script.setting.buckets) least_is
      in rw (
        steady,
        all_near time script.setting.buckets (omega arith) none,
        all_next time script.setting.buckets (omega arith) none,
      ) refl

  -- what is seen of all buckets explains the lifetime
  pub told : explain_seen seen (timeout_bound script) (slack script.setting) ≡ explained script
  told =
      ap (λ (n : ℕ). option_map (said n) (least_seen (timeout_bound script) seen n)) noted.count
      ∙ (ap (option_map (said script.setting.buckets)) (all_least script.setting.buckets (omega arith))
      ∙ said_so (lifetime script) refl)

-- A SCRIPT THAT ISN'T STEADY

module _ (script : Script) (not_it : is_steady script ≡ false) where
  zero_least : (o : Option ℕ) → lesser (Some 0) o ≡ Some 0
  zero_least None = refl
  zero_least (Some x) = ap (λ (n : ℕ). Some n) (omega arith)

  none_over : (bs : List ℕ) → over 0 (flat_map (bounds_of script) bs) ≡ None
  none_over [] = refl
  none_over (b ∷ bs) = rw not_it (none_over bs)

  none_near : (bs : List ℕ) → filter_map (near_in script 0) bs ≡ []
  none_near [] = refl
  none_near (b ∷ bs) = rw not_it (none_near bs)

  no_life : (bs : List ℕ) → 0 < length bs → least (flat_map (bounds_of script) bs) ≡ Some 0
  no_life [] some = absurd (omega arith)
  no_life (b ∷ bs) some = rw not_it (zero_least (least (flat_map (bounds_of script) bs)))

  some_buckets : (n : ℕ) → 1 ≤ n → 0 < length (range_with_len 0 n)
  some_buckets zero some = absurd (omega arith)
  some_buckets (suc n) some = omega arith

  pub unsteady : 1 ≤ script.setting.buckets
      → explained script ≡ Some (record { time = 0; by_timeout = false; by_moves = None; next = None; slack = slack script.setting })
  unsteady some =
      rw (
        no_life (range_with_len 0 script.setting.buckets) (some_buckets script.setting.buckets some),
        not_it,
        none_near (range_with_len 0 script.setting.buckets),
        none_over (range_with_len 0 script.setting.buckets),
      ) refl

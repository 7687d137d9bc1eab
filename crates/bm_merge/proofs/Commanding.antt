-- What worker 0 did, in the script's order.
use Rattle.std.proofs.Common.{◌≡◌, ℕ, ◌+◌, ◌<◌, ◌≤◌, max, Bool, true, false, cond, ◌&&◌, List, [], ◌∷◌, ◌++◌, refl}
use Rattle.std.proofs.Common.{sym, ap, ◌∙◌, subst, arith, leb, eqb}
use Rattle.std.specs.Prelude.{slice_get}
use Rattle.std.specs.List.{AllByRecursion}
use Rattle.std.proofs.lemmas.Bool.{lt-leb, le-ltb, eqb-true, and_parts, and_right}
use Rattle.bm_table.specs.Tables.{next_change, change_moment}
use Rattle.bm_core.specs.declared.events.What.{What}
use Rattle.bm_core.specs.declared.events.What.TheVariants.{Publish, Switch, Steer, Lose, Arrive, Close, Retire, Sync}
use Rattle.bm_core.specs.declared.events.Stage.{Stage}
use Rattle.bm_core.specs.Runs.{next_clock, AtEach}
use Rattle.bm_core.specs.Threads.{IsOf, is_command}
use Rattle.bm_merge.specs.Notes.{Note, total, many, greatest, top_clock, is_earlier, mark_of}
use Rattle.bm_merge.proofs.Promised.{is_part}
use Rattle.bm_merge.specs.Workers.{IsMeant, IsCommanded}
use Rattle.bm_merge.proofs.Noting.{total_append, total_none, greatest_append, greatest_none, each_so, each_append}
use Rattle.bm_merge.proofs.Noting.{moved_note}
use Rattle.bm_merge.proofs.Reaching.{one_if}

-- the note's clock, if it is so
abbrev pub clock_if : Note → Bool → ℕ
clock_if y b = cond b y.event.clock.0 0

-- what is meant of a command's event, among all that worker 0 did
pub record IsMeantIn (stage : Stage) (notes : List Note) (n : Note) : Type 0 where
  pub order : many (λ y. is_earlier n.command y && leb n.event.clock.0 y.event.clock.0) notes ≡ 0
  pub meant : IsMeant stage notes n n.event.what
  pub kind : is_command n.event.what ≡ true
  pub command : IsOf (slice_get stage.script.commands n.command) [] n.event.what

not_earlier : (n y : Note) → n.command ≤ y.command → is_earlier n.command y ≡ false
not_earlier n y h = and_right (is_command y.event.what) _ (le-ltb _ _ h)

-- the greatest clock of earlier commands is that of before
same_top : (x rest : List Note) (n : Note) → AllByRecursion (λ y. n.command ≤ y.command) x
    → top_clock (is_earlier n.command) (x ++ n ∷ rest) ≡ top_clock (is_earlier n.command) rest
same_top x rest n late =
    let f : Note → ℕ = λ y. clock_if y (is_earlier n.command y)
    in let none : greatest f x ≡ 0 =
    greatest_none f x
    (each_so (λ y. n.command ≤ y.command) (λ y. f y ≡ 0) x (λ y h. let no = not_earlier n y h in rw no refl) late)
    in let own : is_earlier n.command n ≡ false = not_earlier n n (omega arith)
    in let here : f n ≡ 0 = rw own refl
    in let split : greatest f (x ++ n ∷ rest) ≡ max (greatest f x) (max (f n) (greatest f rest)) =
    greatest_append f x (n ∷ rest)
    in omega arith

meant_same : (stage : Stage) (x rest : List Note) (n : Note) (what : What)
    → top_clock (is_earlier n.command) (x ++ n ∷ rest) ≡ top_clock (is_earlier n.command) rest
    → IsMeant stage rest n what → IsMeant stage (x ++ n ∷ rest) n what
meant_same stage x rest n (Publish v) same m =
    (m.0, m.1, m.2 ∙ ap (λ (c : ℕ). next_clock c (change_moment (next_change stage.script.plan m.0))) (sym same))
meant_same stage x rest n (Close server flow closed) same m = rw same m
meant_same stage x rest n (Retire server h at result) same m = rw same m
meant_same stage x rest n Sync same m = rw same m
meant_same stage x rest n (Switch k v) same m = absurd m
meant_same stage x rest n (Steer k v) same m = absurd m
meant_same stage x rest n (Lose k hop) same m = absurd m
meant_same stage x rest n (Arrive k hop server verdict) same m = absurd m

-- its clock is above those of earlier commands
above : (stage : Stage) (rest : List Note) (n : Note) (what : What) → n.event.what ≡ what → IsMeant stage rest n what
    → top_clock (is_earlier n.command) rest < n.event.clock.0
above stage rest n (Publish v) is m = omega (arith, m.2)
above stage rest n (Close server flow closed) is m = omega (arith, m.0, m.1)
above stage rest n (Retire server h at result) is m = omega (arith, m.0, m.1)
above stage rest n Sync is m = m
above stage rest n (Switch k v) is m = absurd m
above stage rest n (Steer k v) is m = absurd m
above stage rest n (Lose k hop) is m = absurd m
above stage rest n (Arrive k hop server verdict) is m = absurd m

at_most_top : (f : Note → Bool) (x : List Note) (c : ℕ) → top_clock f x < c
    → AllByRecursion (λ y. one_if (f y && leb c y.event.clock.0) ≡ 0) x
at_most_top f [] c low = tt
at_most_top f (y ∷ x) c low = (go (f y) refl, at_most_top f x c (omega arith)) where
  go : (b : Bool) → f y ≡ b → one_if (b && leb c y.event.clock.0) ≡ 0
  go true is =
      let here : clock_if y (f y) < c = omega arith
      in let at : y.event.clock.0 < c = (rw is at here)
      in let no : leb c y.event.clock.0 ≡ false = lt-leb _ _ at
      in rw no refl
  go false is = refl

no_earlier : (n y : Note) (b : Bool) → n.command ≤ y.command → one_if (is_earlier n.command y && b) ≡ 0
no_earlier n y b h = let no = not_earlier n y h in rw no refl

meant_here : (stage : Stage) (x rest : List Note) (n : Note) → AllByRecursion (λ y. n.command ≤ y.command) x
    → IsCommanded stage rest n → IsMeantIn stage (x ++ n ∷ rest) n
meant_here stage x rest n late c =
    let f : Note → ℕ = λ y. one_if (is_earlier n.command y && leb n.event.clock.0 y.event.clock.0)
    in let top : top_clock (is_earlier n.command) rest < n.event.clock.0 =
    above stage rest n n.event.what refl c.meant
    in let newer : total f x ≡ 0 =
    total_none f x (each_so (λ y. n.command ≤ y.command) (λ y. f y ≡ 0) x (λ y h. no_earlier n y _ h) late)
    in let own : f n ≡ 0 = no_earlier n n _ (omega arith)
    in let older : total f rest ≡ 0 = total_none f rest (at_most_top (is_earlier n.command) rest n.event.clock.0 top)
    in let split : total f (x ++ n ∷ rest) ≡ total f x + (f n + total f rest) = total_append f x (n ∷ rest)
    in record {
      order = omega arith;
      meant = meant_same stage x rest n n.event.what (same_top x rest n late) c.meant;
      kind = c.kind;
      command = c.command;
    }

meant_below : (stage : Stage) (x rest : List Note) → AtEach (IsCommanded stage) rest
    → AllByRecursion (λ y. AllByRecursion (λ z. z.command ≤ y.command) rest) x
    → AllByRecursion (IsMeantIn stage (x ++ rest)) rest
meant_below stage x [] each late = tt
meant_below stage x (n ∷ rest) each late =
    let first : AllByRecursion (λ y. n.command ≤ y.command) x =
    each_so (λ y. AllByRecursion (λ z. z.command ≤ y.command) (n ∷ rest)) (λ y. n.command ≤ y.command) x
    (λ y h. h.0) late
    in let others : AllByRecursion (λ y. AllByRecursion (λ z. z.command ≤ y.command) rest) (x ++ n ∷ []) =
    each_append (λ y. AllByRecursion (λ z. z.command ≤ y.command) rest) x (n ∷ [])
    (each_so (λ y. AllByRecursion (λ z. z.command ≤ y.command) (n ∷ rest))
    (λ y. AllByRecursion (λ z. z.command ≤ y.command) rest) x (λ y h. h.1) late) (each.0.order, tt)
    in (
      meant_here stage x rest n first each.0,
      subst (λ (l : List Note). AllByRecursion (IsMeantIn stage l) rest) (moved_note x rest n)
          (meant_below stage (x ++ n ∷ []) rest each.1 others),
    )

-- all that worker 0 did is meant so
pub all_meant : (stage : Stage) (notes : List Note) → AtEach (IsCommanded stage) notes
    → AllByRecursion (IsMeantIn stage notes) notes
all_meant stage notes each = meant_below stage [] notes each tt

pub all_kinds : (stage : Stage) (notes : List Note) → AtEach (IsCommanded stage) notes
    → AllByRecursion (λ n. is_command n.event.what ≡ true) notes
all_kinds stage [] each = tt
all_kinds stage (n ∷ notes) each = (each.0.kind, all_kinds stage notes each.1)

-- each shard of a command comes once
pub once_each : (stage : Stage) (i h : ℕ) (notes : List Note) → AtEach (IsCommanded stage) notes
    → many (λ y. is_part i y && eqb (mark_of y.event.what) h) notes ≤ 1
once_each stage i h [] each = omega arith
once_each stage i h (n ∷ notes) each =
    go (is_part i n && eqb (mark_of n.event.what) h) refl (once_each stage i h notes each.1) where
      fewer : (a b c : Bool) → one_if ((a && b) && c) ≤ one_if (b && c)
      fewer true b c = omega arith
      fewer false true true = omega arith
      fewer false true false = omega arith
      fewer false false c = omega arith

      most : (x : List Note)
          → many (λ y. is_part i y && eqb (mark_of y.event.what) h) x
          ≤ many (λ y. eqb y.command i && eqb (mark_of y.event.what) h) x
      most [] = omega arith
      most (y ∷ x) =
          let old =
          most x in let here =
          fewer (is_command y.event.what) (eqb y.command i) (eqb (mark_of y.event.what) h) in omega arith

      go : (b : Bool) → (is_part i n && eqb (mark_of n.event.what) h) ≡ b
          → many (λ y. is_part i y && eqb (mark_of y.event.what) h) notes ≤ 1
          → one_if b + many (λ y. is_part i y && eqb (mark_of y.event.what) h) notes ≤ 1
      go false is old = omega arith
      go true is old =
          let parts = and_parts (is_part i n) _ is
          in let command : n.command ≡ i = eqb-true _ _ ((and_parts (is_command n.event.what) _ parts.0).1)
          in let mark : mark_of n.event.what ≡ h = eqb-true _ _ parts.1
          in let none : many (λ y. eqb y.command i && eqb (mark_of y.event.what) h) notes ≡ 0 =
          subst (λ (j : ℕ). many (λ y. eqb y.command j && eqb (mark_of y.event.what) h) notes ≡ 0) command
          (subst (λ (j : ℕ). many (λ y. eqb y.command n.command && eqb (mark_of y.event.what) j) notes ≡ 0) mark
          each.0.once)
          in let under = most notes
          in omega arith

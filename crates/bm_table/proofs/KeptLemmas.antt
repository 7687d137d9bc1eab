-- A plan's fields: the table after all changes, the moves so far, and what each change leaves.
use Rattle.std.proofs.Common.{◌≡◌, ℕ, zero, suc, ◌+◌, ◌-◌, ◌<◌, ◌≤◌, Bool, true, false, ◌&&◌, ◌||◌, leb, List, [], ◌∷◌}
use Rattle.std.proofs.Common.{◌++◌, Option, Some, None, is_some, length, inl, inr, refl, ap, sym, ◌∙◌, subst, arith}
use Rattle.std.proofs.Common.{take}
use Rattle.std.proofs.lemmas.Bool.{cases_Bool, cases_eq, cases_lt, le-leb, lt-leb}
use Rattle.std.proofs.lemmas.List.{map_push, length-map, length_push}
use Rattle.std.proofs.lemmas.List.Folds.{list_any-append}
use Rattle.std.proofs.lemmas.List.Sums.{sum_by-append}
use Rattle.std.proofs.lemmas.Option.{slice_get-map, slice_get_past}
use Rattle.std.specs.List.{slice_get, All}
use Rattle.std.specs.Option.{option_map, IfSome}
use Rattle.bm_base.specs.declared.ids.ServerId.{ServerId}
use Rattle.bm_base.specs.declared.label.Entry.{Entry}
use Rattle.bm_table.proofs.EntryLemmas.{change_rises, next_table, server_in-table}
use Rattle.bm_table.proofs.Gets.{slice_get-append_left, slice_get-push}
use Rattle.bm_table.proofs.LeafLemmas.{IsLeast-first_left, IsLeast-or, IsLeast-same, first_left-agree, first_left-same}
use Rattle.bm_table.proofs.LeafLemmas.{least_since-push, leaves}
use Rattle.bm_table.proofs.PlanLemmas.{next_change-last, table-before, IsAdmitted, IsPlan-with_change}
use Rattle.bm_table.proofs.PlanLemmas.{MovesRise-from_none, MovesRise-range, bucket_already_there-agree}
use Rattle.bm_table.specs.Entries.{after_moves, IsTable}
use Rattle.bm_table.specs.Inside.Entries.{server_in}
use Rattle.std.specs.BTreeMap.{get}
use Rattle.std.specs.Ordering.{nat_cmp}
use Rattle.bm_table.specs.Inside.Leaves.{first_left, has_drain, least_since, step_left, IsLeast}
use Rattle.bm_table.specs.Planned.{Planned}
use Rattle.bm_table.specs.Plans.{bad_bucket, bucket_already_there, server_now, total_moves, with_change, MovesRise}
use Rattle.bm_table.specs.Plans.{IsPlan}
use Rattle.bm_table.specs.Tables.{drains, is_drain, is_drained, leaves_late, next_change, same_server, table, target}
use Rattle.bm_table.specs.Views.{changes_of, planned, IsKept}
use Rattle.bm_table.specs.declared.plan.Change.{Change}
use Rattle.bm_table.specs.declared.plan.Move.{Move}
use Rattle.bm_table.specs.declared.plan.Plan.TheInside.{Inside}
use Rattle.bm_table.specs.declared.plan.Step.{Step}

-- the step at a place, and the steps up to it
record At (steps : List Step) (n : ℕ) : Type 0 where
  step : Step
  here : slice_get steps n ≡ Some step
  more : take (suc n) steps ≡ take n steps ++ step ∷ []

at : (steps : List Step) (n : ℕ) → n < length steps → At steps n
at [] n h = absurd (omega arith)
at (x ∷ steps) zero h = record { step = x; here = refl; more = refl }
at (x ∷ steps) (suc n) h =
    let rest : At steps n = at steps n (omega arith)
    in record { step = rest.step; here = rest.here; more = ap (λ (xs : List Step). x ∷ xs) rest.more }

change_at : (steps : List Step) (n : ℕ) (step : Step) → slice_get steps n ≡ Some step
    → slice_get (changes_of steps) n ≡ Some step.change
change_at steps n step h = slice_get-map (λ (x : Step). x.change) steps n ∙ ap (option_map (λ (x : Step). x.change)) h

pub length-changes_of : (p : Inside) → length (changes_of p.steps.items) ≡ length p.steps.items
length-changes_of p = length-map p.steps.items (λ (x : Step). x.change)

or_comm : (x y : Bool) → (x || y) ≡ (y || x)
or_comm true true = refl
or_comm true false = refl
or_comm false true = refl
or_comm false false = refl

or_false : (x : Bool) → (x || false) ≡ x
or_false true = refl
or_false false = refl

-- the first n steps drain what the first n changes drain
pub has_drain-take : (p : Inside) (s : ServerId) (n : ℕ) → n ≤ length p.steps.items
    → has_drain (take n p.steps.items) s ≡ is_drained (planned p) n s
has_drain-take p s zero h = refl
has_drain-take p s (suc n) h =
    let here : At p.steps.items n = at p.steps.items n (omega arith)
    in let change : next_change (planned p) n ≡ Some here.step.change = change_at p.steps.items n here.step here.here
    in ap (λ (xs : List Step). has_drain xs s) here.more
    ∙ list_any-append (λ (x : Step). is_drain x.change.kind s) (take n p.steps.items) (here.step ∷ [])
    ∙ ap (λ t. has_drain (take n p.steps.items) s || t) (or_false (is_drain here.step.change.kind s))
    ∙ or_comm (has_drain (take n p.steps.items) s) (is_drain here.step.change.kind s)
    ∙ ap (λ t. is_drain here.step.change.kind s || t) (has_drain-take p s n (omega arith))
    ∙ ap (λ c. drains c s || is_drained (planned p) n s) (sym change)

-- a moment isn't before another less a timeout where, the timeout added, it isn't before that one
since_is : (at timeout moment : ℕ) → leb (at - timeout) moment ≡ leb at (moment + timeout)
since_is at timeout moment =
    elim (cases_lt (moment + timeout) at) [
      | inl late ↦
          let t : leb at (moment + timeout) ≡ false = lt-leb _ _ late
          in lt-leb _ _ (omega arith) ∙ sym t
      | inr early ↦
          let t : leb at (moment + timeout) ≡ true = le-leb _ _ early
          in le-leb _ _ (omega arith) ∙ sym t
    ]

and_last : (x y z : Bool) → (x && (y && z)) ≡ (y && z && x)
and_last true true true = refl
and_last true true false = refl
and_last true false z = refl
and_last false true true = refl
and_last false true false = refl
and_last false false z = refl

-- the least bucket that leaves by a step that isn't before a moment
step_least : (p : Inside) → IsKept p → (s : ServerId) (since n : ℕ) (here : At p.steps.items n)
    → IsLeast
    (λ b. leb since here.step.change.moment.0 && leaves (λ x. (table (planned p) n x).cur) here.step.change.moves s b)
    (step_left here.step s since)
step_least p kept s since n here =
    let change : next_change (planned p) n ≡ Some here.step.change = change_at p.steps.items n here.step here.here
    in let left : get nat_cmp here.step.left s.0 ≡ first_left (λ x. (table (planned p) n x).cur) here.step.change.moves
    s.0
    = rw here.here at (kept.left n s.0)
    in elim (cases_Bool (leb since here.step.change.moment.0)) [
      | inl late ↦ rw (late, left)
          (IsLeast-first_left (λ x. (table (planned p) n x).cur) s p.buckets 0 here.step.change.moves
          (change_rises (planned p) kept.plan n here.step.change change))
      | inr early ↦ rw early (λ b. refl)
    ]

-- the first n steps give the least of the late leaves of the first n changes
pub least_since-take : (p : Inside) → IsKept p → (s : ServerId) (at timeout n : ℕ) → n ≤ length p.steps.items
    → IsLeast (λ b. leaves_late (planned p) timeout n s at b) (least_since (take n p.steps.items) s (at - timeout))
least_since-take p kept s when timeout zero h = λ b. refl
least_since-take p kept s when timeout (suc n) h =
    let here : At p.steps.items n = at p.steps.items n (omega arith)
    in let change : next_change (planned p) n ≡ Some here.step.change = change_at p.steps.items n here.step here.here
    in let before = least_since-take p kept s when timeout n (omega arith)
    in let now = step_least p kept s (when - timeout) n here
    in let both = IsLeast-or (λ b. leaves_late (planned p) timeout n s when b)
    (λ b. leb (when - timeout) here.step.change.moment.0
    && leaves (λ x. (table (planned p) n x).cur) here.step.change.moves s b) _ _ before now
    in let same : (b : ℕ) → leaves_late (planned p) timeout (suc n) s when b
    ≡ (leaves_late (planned p) timeout n s when b
    || (leb (when - timeout) here.step.change.moment.0
    && leaves (λ x. (table (planned p) n x).cur) here.step.change.moves s b))
    = λ b. rw (change, since_is when timeout here.step.change.moment.0) (
    or_comm _ (leaves_late (planned p) timeout n s when b)
    ∙ ap (λ t. leaves_late (planned p) timeout n s when b || t)
    (sym (and_last (leb when (here.step.change.moment.0 + timeout)) (is_some (target here.step.change.moves b))
    (same_server (table (planned p) n b).cur s))))
    in rw (ap (λ (xs : List Step). least_since xs s (when - timeout)) here.more
    ∙ least_since-push (take n p.steps.items) here.step s (when - timeout))
    (IsLeast-same _ (λ b. leaves_late (planned p) timeout (suc n) s when b) same _ both)

-- fields that get one more step
pub record IsPush (p q : Inside) (step : Step) : Type 0 where
  pub buckets : q.buckets ≡ p.buckets
  pub servers : q.servers.items ≡ p.servers.items
  pub steps : q.steps.items ≡ p.steps.items ++ step ∷ []
  pub moves : q.moves ≡ p.moves + length step.change.moves
  pub latest : (b : ℕ)
      → slice_get q.latest b ≡ option_map (after_moves step.change.moment.0 step.change.moves b) (slice_get p.latest b)
  pub left : (s : ℕ) → get nat_cmp step.left s ≡ first_left (server_in p.latest) step.change.moves s

pub planned-push : (p q : Inside) (step : Step) → IsPush p q step → planned q ≡ with_change (planned p) step.change
planned-push p q step h =
    let changes : changes_of q.steps.items ≡ changes_of p.steps.items ++ step.change ∷ []
    = ap changes_of h.steps ∙ map_push (λ (x : Step). x.change) p.steps.items step
    in λ i. record { buckets = h.buckets i; servers = h.servers i; changes = changes i }

left_over : (f g : ℕ → ServerId) → ((b : ℕ) → f b ≡ g b) → (s : ℕ) (o : Option Step)
    → IfSome o (λ step. get nat_cmp step.left s ≡ first_left f step.change.moves s)
    → IfSome o (λ step. get nat_cmp step.left s ≡ first_left g step.change.moves s)
left_over f g e s None h = tt
left_over f g e s (Some step) h = h ∙ first_left-same f g e step.change.moves s

-- they are a plan's fields again
pub IsKept-push : (p q : Inside) (step : Step) → IsKept p → IsAdmitted (planned p) step.change → IsPush p q step
    → IsKept q
IsKept-push p q step kept a h = record {
  plan = rw is plan;
  latest = subst (λ (x : Planned). IsTable x (length x.changes) q.latest) (sym is) latest;
  moves = total ∙ ap (λ (x : Planned). total_moves x.changes) (sym is);
  left = left;
}
  where
    is : planned q ≡ with_change (planned p) step.change
    is = planned-push p q step h

    plan : IsPlan (with_change (planned p) step.change)
    plan = IsPlan-with_change (planned p) kept.plan step.change a

    rise : MovesRise p.buckets 0 step.change.moves
    rise = MovesRise-from_none p.buckets 0 step.change.moves a.buckets

    before : (v b : ℕ) → v ≤ length (changes_of p.steps.items)
        → (table (planned p) v b).cur ≡ (table (planned q) v b).cur
    before v b l =
        ap (λ (e : Entry). e.cur) (sym (table-before (planned p) step.change v b l))
        ∙ ap (λ (x : Planned). (table x v b).cur) (sym is)

    table_before : IsTable (with_change (planned p) step.change) (length (changes_of p.steps.items)) p.latest
    table_before = record {
      count = kept.latest.count;
      each = λ b l. kept.latest.each b l
          ∙ ap Some (sym (table-before (planned p) step.change (length (changes_of p.steps.items)) b (omega arith)));
    }

    latest : IsTable (with_change (planned p) step.change) (length (changes_of p.steps.items ++ step.change ∷ []))
        q.latest
    latest = rw (length_push (changes_of p.steps.items) step.change)
        (next_table (with_change (planned p) step.change) plan (length (changes_of p.steps.items)) step.change
        (next_change-last (planned p) step.change) p.latest q.latest h.latest table_before)

    total : q.moves ≡ total_moves (changes_of p.steps.items ++ step.change ∷ [])
    total = omega (
      arith,
      kept.moves,
      h.moves,
      sum_by-append (λ (c : Change). length c.moves) (changes_of p.steps.items)
          (step.change ∷ []),
    )

    left : (v s : ℕ)
        → IfSome (slice_get q.steps.items v)
        (λ step'. get nat_cmp step'.left s ≡ first_left (λ b. (table (planned q) v b).cur) step'.change.moves s)
    left v s =
        elim (cases_lt v (length p.steps.items)) [
          | inl below ↦
              let same : slice_get q.steps.items v ≡ slice_get p.steps.items v
              = ap (λ (xs : List Step). slice_get xs v) h.steps
              ∙ slice_get-append_left p.steps.items (step ∷ []) v below
              in rw same (left_over (λ b. (table (planned p) v b).cur) (λ b. (table (planned q) v b).cur)
              (λ b. before v b (omega (arith, length-changes_of p))) s (slice_get p.steps.items v) (kept.left v s))
          | inr after ↦ elim (cases_eq v (length p.steps.items)) [
            | inl last ↦
                let same : slice_get q.steps.items v ≡ Some step
                = ap (λ (xs : List Step). slice_get xs v) h.steps ∙ ap (slice_get (p.steps.items ++ step ∷ [])) last
                ∙ slice_get-push p.steps.items step
                in let n_is : length (changes_of p.steps.items) ≡ v = length-changes_of p ∙ sym last
                in rw same (
                h.left s
                ∙ first_left-agree p.buckets 0 (server_in p.latest)
                (λ b. (table (planned p) (length (changes_of p.steps.items)) b).cur)
                (λ b l. server_in-table (planned p) (length (changes_of p.steps.items)) p.latest kept.latest b l)
                step.change.moves rise s
                ∙ first_left-same (λ b. (table (planned p) (length (changes_of p.steps.items)) b).cur)
                (λ b. (table (planned q) v b).cur)
                (λ b. before (length (changes_of p.steps.items)) b (omega arith)
                ∙ ap (λ n. (table (planned q) n b).cur) n_is) step.change.moves s
                )
            | inr past ↦
                let none : slice_get q.steps.items v ≡ None
                = slice_get_past q.steps.items v (omega (arith, ap length h.steps, length_push p.steps.items step))
                in rw none tt
          ]
        ]

-- what a plan's fields say of retirement
pub NotDrained-kept : (p : Inside) (n : ℕ) (s : ServerId) → n ≤ length (changes_of p.steps.items)
    → has_drain (take n p.steps.items) s ≡ false → is_drained (planned p) n s ≡ false
NotDrained-kept p n s h e = sym (has_drain-take p s n (omega (arith, length-changes_of p))) ∙ e

pub drained-kept : (p : Inside) (n : ℕ) (s : ServerId) → n ≤ length (changes_of p.steps.items)
    → has_drain (take n p.steps.items) s ≡ true → is_drained (planned p) n s ≡ true
drained-kept p n s h e = sym (has_drain-take p s n (omega (arith, length-changes_of p))) ∙ e

pub least-kept : (p : Inside) → IsKept p → (timeout n at : ℕ) (s : ServerId) → n ≤ length (changes_of p.steps.items)
    → (least : Option ℕ)
    → least ≡ least_since (take n p.steps.items) s (at - timeout)
    → IsLeast (λ b. leaves_late (planned p) timeout n s at b) least
least-kept p kept timeout n when s h least is =
    rw is (least_since-take p kept s when timeout n (omega (arith, length-changes_of p)))

-- if none of the moves is bad, their buckets are in the table
pub in_table : (p : Inside) → IsKept p → (moves : List Move) → bad_bucket p.buckets 0 moves ≡ None
    → All (λ m. m.bucket < length p.latest) moves
in_table p kept moves e =
    rw kept.latest.count (MovesRise-range p.buckets 0 moves (MovesRise-from_none p.buckets 0 moves e))

-- and the table's servers are the plan's
pub at_home : (p : Inside) → IsKept p → (moves : List Move) → bad_bucket p.buckets 0 moves ≡ None
    → bucket_already_there (server_in p.latest) moves ≡ bucket_already_there (server_now (planned p)) moves
at_home p kept moves e =
    bucket_already_there-agree p.buckets 0 (server_in p.latest) (server_now (planned p))
    (λ b h. server_in-table (planned p) (length (changes_of p.steps.items)) p.latest kept.latest b h)
    moves (MovesRise-from_none p.buckets 0 moves e)

-- steps that lie elsewhere
pub IsKept-same : (p q : Inside) → IsKept p → q.buckets ≡ p.buckets → q.servers.items ≡ p.servers.items
    → q.steps.items ≡ p.steps.items
    → q.latest ≡ p.latest → q.moves ≡ p.moves → IsKept q
IsKept-same p q kept buckets servers steps latest moves = record {
  plan = rw is kept.plan;
  latest = subst (λ (x : Planned). IsTable x (length x.changes) q.latest) (sym is)
      (subst (IsTable (planned p) (length (changes_of p.steps.items))) (sym latest) kept.latest);
  moves = moves ∙ kept.moves ∙ ap (λ (x : Planned). total_moves x.changes) (sym is);
  left = λ v s. subst
      (λ (x : Planned). IfSome (slice_get q.steps.items v)
      (λ step. get nat_cmp step.left s ≡ first_left (λ b. (table x v b).cur) step.change.moves s)) (sym is)
      (subst (λ (xs : List Step). IfSome (slice_get xs v)
      (λ step. get nat_cmp step.left s ≡ first_left (λ b. (table (planned p) v b).cur) step.change.moves s))
      (sym steps) (kept.left v s));
}
  where
    is : planned q ≡ planned p
    is = λ i. record { buckets = buckets i; servers = servers i; changes = changes_of (steps i) }

-- A controller's plan with one more change.
use Rattle.std.proofs.Common.{◌≡◌, ◌≢◌, ℕ, zero, suc, ◌+◌, ◌<◌, ◌≤◌, Bool, true, false, ◌&&◌, ◌||◌, not, eqb, ltb, leb}
use Rattle.std.proofs.Common.{List, [], ◌∷◌, ◌++◌, map, Option, Some, None, unwrap_or, length, inl, inr, refl, ap, sym}
use Rattle.std.proofs.Common.{◌∙◌, subst, arith, add-one}
use Rattle.std.proofs.lemmas.Bool.{cases_Bool, cases_eq, cases_lt, and_from, and_left, and_parts, and_right, not-true}
use Rattle.std.proofs.lemmas.Bool.{or_cases, or_from, or_left, or_right, le-leb, le-ltb, lt-leb, lt-ltb, both_ways}
use Rattle.std.proofs.lemmas.List.{length_push}
use Rattle.std.proofs.lemmas.List.FromFn.{length-map-range_with_len}
use Rattle.std.proofs.lemmas.Option.{slice_get_past}
use Rattle.std.specs.List.{range_with_len, AllByRecursion}
use Rattle.std.specs.Option.{IfSome, option_map}
use Rattle.bm_base.specs.declared.ids.Moment.{Moment}
use Rattle.bm_base.specs.declared.ids.ServerId.{ServerId}
use Rattle.bm_base.specs.declared.label.Entry.{Entry}
use Rattle.bm_controller.proofs.MemberLists.{among-with, among-without, length-with, length-without, RiseFrom-with}
use Rattle.bm_controller.proofs.MemberLists.{RiseFrom-without}
use Rattle.bm_controller.specs.Commands.{first_refusal, limits, when}
use Rattle.bm_controller.specs.declared.refusal.RackRefusal.{RackRefusal}
use Rattle.bm_controller.specs.declared.refusal.RackRefusal.TheVariants.{Base}
use Rattle.bm_controller.specs.Inside.Kinds.{MayCome}
use Rattle.bm_controller.specs.Membership.{active, active_after, active_next, active_now, has_drained, is_active, knows}
use Rattle.bm_controller.specs.Membership.{with_server, without_server, KeepsMembership}
use Rattle.bm_quota.specs.Rebalancing.{owned, owners_after}
use Rattle.bm_quota.specs.declared.refusal.Refusal.TheVariants.{StampFell, TooMany}
use Rattle.bm_quota.specs.Refusals.{refusal_of}
use Rattle.bm_table.specs.declared.plan.Limit.TheVariants.{Changes, Moves}
use Rattle.bm_quota.proofs.Rebalanced.{Serves}
use Rattle.bm_quota.proofs.RoomLemmas.{cases_server, owned-cons, same_server-refl}
use Rattle.bm_table.proofs.PlanLemmas.{next_change-before, next_change-last, table-before, IsAdmitted-from_none}
use Rattle.bm_table.proofs.PlanLemmas.{IsPlan-with_change}
use Rattle.bm_table.proofs.Tables.{same_server-true}
use Rattle.bm_table.specs.declared.plan.Change.{Change}
use Rattle.bm_table.specs.declared.plan.Kind.{Kind}
use Rattle.bm_table.specs.declared.plan.Kind.TheVariants.{Add, Drain, Shift}
use Rattle.bm_table.specs.declared.plan.Move.{Move}
use Rattle.bm_table.specs.declared.plan.PlanFault.{PlanFault}
use Rattle.bm_table.specs.Planned.{Planned}
use Rattle.bm_table.specs.Plans.{bad_bucket, bucket_already_there, last_moment, limit_refusal, owners_now, refusal}
use Rattle.bm_table.specs.Plans.{server_now, total_moves, with_change, MovesRise, IsPlan}
use Rattle.bm_table.specs.Settings.{IsWithin, RiseFrom}
use Rattle.bm_table.specs.Scripts.{NamesServer}
use Rattle.bm_table.specs.Tables.{adds, brings, drains, is_add, is_among, is_drain, is_drained, is_known, change_moment}
use Rattle.bm_table.specs.Tables.{moved, next_change, same_server, table, target, IsOrderly}

-- what was so after the changes before stays
active-before : (plan : Planned) (c : Change) (v : ℕ) → v ≤ length plan.changes
    → active (with_change plan c) v ≡ active plan v
active-before plan c zero h = refl
active-before plan c (suc v) h =
    let e : next_change (with_change plan c) v ≡ next_change plan v = next_change-before plan c v (omega arith)
    in let old : active (with_change plan c) v ≡ active plan v = active-before plan c v (omega arith)
    in ap (λ x. active_next x (active (with_change plan c) v)) e ∙ ap (active_next (next_change plan v)) old

known-before : (plan : Planned) (c : Change) (v : ℕ) (s : ServerId) → v ≤ length plan.changes
    → is_known (with_change plan c) v s ≡ is_known plan v s
known-before plan c zero s h = refl
known-before plan c (suc v) s h =
    let e : next_change (with_change plan c) v ≡ next_change plan v = next_change-before plan c v (omega arith)
    in let old : is_known (with_change plan c) v s ≡ is_known plan v s = known-before plan c v s (omega arith)
    in ap (λ x. adds x s || is_known (with_change plan c) v s) e ∙ ap (λ t. adds (next_change plan v) s || t) old

drained-before : (plan : Planned) (c : Change) (v : ℕ) (s : ServerId) → v ≤ length plan.changes
    → is_drained (with_change plan c) v s ≡ is_drained plan v s
drained-before plan c zero s h = refl
drained-before plan c (suc v) s h =
    let e : next_change (with_change plan c) v ≡ next_change plan v = next_change-before plan c v (omega arith)
    in let old : is_drained (with_change plan c) v s ≡ is_drained plan v s = drained-before plan c v s (omega arith)
    in ap (λ x. drains x s || is_drained (with_change plan c) v s) e ∙ ap (λ t. drains (next_change plan v) s || t) old

longer : (plan : Planned) (c : Change) → length (plan.changes ++ c ∷ []) ≡ suc (length plan.changes)
longer plan c = length_push plan.changes c ∙ add-one (length plan.changes)

pub active_now-push : (plan : Planned) (c : Change)
    → active_now (with_change plan c) ≡ active_after c.kind (active_now plan)
active_now-push plan c =
    ap (active (with_change plan c)) (longer plan c)
    ∙ ap (λ x. active_next x (active (with_change plan c) (length plan.changes))) (next_change-last plan c)
    ∙ ap (active_after c.kind) (active-before plan c (length plan.changes) (omega arith))

known-next : (plan : Planned) (c : Change) (s : ServerId)
    → is_known (with_change plan c) (suc (length plan.changes)) s ≡ (is_add c.kind s || knows plan s)
known-next plan c s =
    ap (λ x. adds x s || is_known (with_change plan c) (length plan.changes) s) (next_change-last plan c)
    ∙ ap (λ t. is_add c.kind s || t) (known-before plan c (length plan.changes) s (omega arith))

pub knows-push : (plan : Planned) (c : Change) (s : ServerId)
    → knows (with_change plan c) s ≡ (is_add c.kind s || knows plan s)
knows-push plan c s = ap (λ n. is_known (with_change plan c) n s) (longer plan c) ∙ known-next plan c s

drained-next : (plan : Planned) (c : Change) (s : ServerId)
    → is_drained (with_change plan c) (suc (length plan.changes)) s ≡ (is_drain c.kind s || has_drained plan s)
drained-next plan c s =
    ap (λ x. drains x s || is_drained (with_change plan c) (length plan.changes) s) (next_change-last plan c)
    ∙ ap (λ t. is_drain c.kind s || t) (drained-before plan c (length plan.changes) s (omega arith))

pub has_drained-push : (plan : Planned) (c : Change) (s : ServerId)
    → has_drained (with_change plan c) s ≡ (is_drain c.kind s || has_drained plan s)
has_drained-push plan c s = ap (λ n. is_drained (with_change plan c) n s) (longer plan c) ∙ drained-next plan c s

-- who is drained stays so
drained-later : (plan : Planned) (m n : ℕ) (s : ServerId) → m ≤ n → is_drained plan m s ≡ true
    → is_drained plan n s ≡ true
drained-later plan m zero s h d = let z : m ≡ 0 = omega arith in sym (ap (λ k. is_drained plan k s) z) ∙ d
drained-later plan m (suc n) s h d =
    elim (cases_lt m (suc n)) [
      | inl below ↦ or_right (drains (next_change plan n) s) (is_drained plan n s)
          (drained-later plan m n s (omega arith) d)
      | inr same ↦ let e : m ≡ suc n = omega arith in sym (ap (λ k. is_drained plan k s) e) ∙ d
    ]

-- the server of a bucket after the change
cur-moved : (old : Entry) (when' : ℕ) (to : Option ServerId) → (moved old when' to).cur ≡ unwrap_or to old.cur
cur-moved old when' None = refl
cur-moved old when' (Some s) = refl

cur-next : (plan : Planned) (c : Change) (b : ℕ)
    → (table (with_change plan c) (suc (length plan.changes)) b).cur ≡ unwrap_or (target c.moves b) (server_now plan b)
cur-next plan c b =
    ap (λ x. (moved (table (with_change plan c) (length plan.changes) b) (change_moment x) (brings x b)).cur)
    (next_change-last plan c)
    ∙ cur-moved (table (with_change plan c) (length plan.changes) b) c.moment.0 (target c.moves b)
    ∙ ap (λ (e : Entry). unwrap_or (target c.moves b) e.cur) (table-before plan c (length plan.changes) b (omega arith))

-- what a change must be, so that an orderly plan with it is orderly
pub record IsOrderlyChange (plan : Planned) (c : Change) : Type 0 where
  pub known : (b : ℕ) → IfSome (target c.moves b) (λ to. (is_add c.kind to || knows plan to) ≡ true)
  pub drained : (s : ServerId) → (is_drain c.kind s || has_drained plan s) ≡ true → (b : ℕ) → b < plan.buckets
      → unwrap_or (target c.moves b) (server_now plan b) ≢ s

known_to : (f g : ServerId → Bool) → ((s : ServerId) → f s ≡ g s) → (o : Option ServerId) → IfSome o (λ to. f to ≡ true)
    → IfSome o (λ to. g to ≡ true)
known_to f g e None h = tt
known_to f g e (Some s) h = sym (e s) ∙ h

pub IsOrderly-push : (plan : Planned) (c : Change) → IsOrderly plan → IsPlan (with_change plan c)
    → IsOrderlyChange plan c → IsOrderly (with_change plan c)
IsOrderly-push plan c o kept change = record {
  known = known;
  stamps = kept.stamps;
  changes = kept.changes;
  drained = drained;
}
  where
    known : (v b : ℕ)
        → IfSome (brings (next_change (with_change plan c) v) b) (λ to. is_known (with_change plan c) (suc v) to ≡ true)
    known v b =
        elim (cases_lt v (length plan.changes)) [
          | inl before ↦
              let e : next_change (with_change plan c) v ≡ next_change plan v = next_change-before plan c v before
              in subst (λ x. IfSome (brings x b) (λ to. is_known (with_change plan c) (suc v) to ≡ true)) (sym e)
              (known_to (is_known plan (suc v)) (is_known (with_change plan c) (suc v))
              (λ s. sym (known-before plan c (suc v) s (omega arith))) (brings (next_change plan v) b)
              (o.known v b))
          | inr after ↦ elim (cases_eq v (length plan.changes)) [
            | inl same ↦
                subst (λ n. IfSome (brings (next_change (with_change plan c) n) b)
                (λ to. is_known (with_change plan c) (suc n) to ≡ true)) (sym same)
                (subst (λ x. IfSome (brings x b)
                (λ to. is_known (with_change plan c) (suc (length plan.changes)) to ≡ true))
                (sym (next_change-last plan c))
                (known_to (λ s. is_add c.kind s || knows plan s)
                (is_known (with_change plan c) (suc (length plan.changes))) (λ s. sym (known-next plan c s))
                (target c.moves b) (change.known b)))
            | inr past ↦
                let e : next_change (with_change plan c) v ≡ None =
                slice_get_past (plan.changes ++ c ∷ []) v (omega (arith, longer plan c))
                in subst (λ x. IfSome (brings x b) (λ to. is_known (with_change plan c) (suc v) to ≡ true)) (sym e) tt
          ]
        ]

    drained : (n v b : ℕ) (s : ServerId) → is_drained (with_change plan c) n s ≡ true → n ≤ v
        → v ≤ length (plan.changes ++ c ∷ []) → b < plan.buckets → (table (with_change plan c) v b).cur ≢ s
    drained n v b s d l m r =
        elim (cases_lt (length plan.changes) v) [
          | inl last ↦
              let e : v ≡ suc (length plan.changes) = omega (arith, m, longer plan c)
              in let d' : is_drained (with_change plan c) (suc (length plan.changes)) s ≡ true =
              drained-later (with_change plan c) n (suc (length plan.changes)) s (omega arith) d
              in λ here. change.drained s (sym (drained-next plan c s) ∙ d') b r
              (sym (cur-next plan c b) ∙ ap (λ k. (table (with_change plan c) k b).cur) (sym e) ∙ here)
          | inr before ↦
              λ here. o.drained n v b s (sym (drained-before plan c n s (omega arith)) ∙ d) l before r
              (ap (λ (x : Entry). x.cur) (sym (table-before plan c v b before)) ∙ here)
        ]

-- the owners of a plan's buckets
pub length-owners_now : (plan : Planned) → length (owners_now plan) ≡ plan.buckets
length-owners_now plan = length-map-range_with_len (server_now plan) 0 plan.buckets

pub Serves-range : (server : ℕ → ServerId) (b n : ℕ) → Serves server b (map server (range_with_len b n))
Serves-range server b zero = tt
Serves-range server b (suc n) = (refl, Serves-range server (b + 1) n)

pub owners_after-range : (moves : List Move) (server : ℕ → ServerId) (b n : ℕ)
    → owners_after moves b (map server (range_with_len b n)) ≡ map (λ x. unwrap_or (target moves x) (server x))
    (range_with_len b n)
owners_after-range moves server b zero = refl
owners_after-range moves server b (suc n) =
    ap (λ (xs : List ServerId). unwrap_or (target moves b) (server b) ∷ xs) (owners_after-range moves server (b + 1) n)

pub owned-none : (server : ℕ → ServerId) (b n : ℕ) (s : ServerId) → owned (map server (range_with_len b n)) s ≡ 0 → (x : ℕ)
    → b ≤ x → x < b + n → server x ≢ s
owned-none server b zero s none x low high = absurd (omega arith)
owned-none server b (suc n) s none x low high =
    let parts : owned (server b ∷ map server (range_with_len (b + 1) n)) s
    ≡ owned (server b ∷ []) s + owned (map server (range_with_len (b + 1) n)) s
    = owned-cons (server b) (map server (range_with_len (b + 1) n)) s
    in let both : owned (server b ∷ []) s + owned (map server (range_with_len (b + 1) n)) s ≡ 0 = sym parts ∙ none
    in elim (cases_eq x b) [
      | inl here ↦ λ is.
          let e : server b ≡ s = sym (ap server here) ∙ is
          in let t : same_server (server b) s ≡ true = same e
          in let one : owned (server b ∷ []) s ≡ 1 = rw t refl
          in absurd (omega arith)
      | inr later ↦ owned-none server (b + 1) n s (omega arith) x (omega arith) (omega arith)
    ]
  where
    same : {p : ServerId} → p ≡ s → same_server p s ≡ true
    same e = subst (λ q. same_server q s ≡ true) (sym e) (same_server-refl s)

pub bad_bucket-none : (buckets low : ℕ) (moves : List Move) → MovesRise buckets low moves
    → bad_bucket buckets low moves ≡ None
bad_bucket-none buckets low [] rise = refl
bad_bucket-none buckets low (m ∷ moves) rise =
    let t : (leb low m.bucket && ltb m.bucket buckets) ≡ true = and_from _ _ (le-leb _ _ rise.0) (lt-ltb _ _ rise.1)
    in rw t (bad_bucket-none buckets (m.bucket + 1) moves rise.2)

-- the server of a bucket after one more change
pub server_now-push : (plan : Planned) (c : Change) (b : ℕ)
    → server_now (with_change plan c) b ≡ unwrap_or (target c.moves b) (server_now plan b)
server_now-push plan c b = ap (λ n. (table (with_change plan c) n b).cur) (longer plan c) ∙ cur-next plan c b

-- each move is to one of these servers, and after the moves each bucket is at one of them
pub record BringsTo (plan : Planned) (moves : List Move) (servers : List ServerId) : Type 0 where
  pub targets : (b : ℕ) → IfSome (target moves b) (λ to. is_among servers to ≡ true)
  pub leaves : (s : ServerId) → is_among servers s ≡ false → (b : ℕ) → b < plan.buckets
      → unwrap_or (target moves b) (server_now plan b) ≢ s

pub some_to : (f g : ServerId → Bool) → ((s : ServerId) → f s ≡ true → g s ≡ true) → (o : Option ServerId)
    → IfSome o (λ to. f to ≡ true) → IfSome o (λ to. g to ≡ true)
some_to f g e None h = tt
some_to f g e (Some s) h = e s h

IsOrderlyChange-brings : (plan : Planned) (c : Change) (servers : List ServerId) → BringsTo plan c.moves servers
    → ((s : ServerId) → is_among servers s ≡ true → (is_add c.kind s || knows plan s) ≡ true)
    → ((s : ServerId) → (is_drain c.kind s || has_drained plan s) ≡ true → is_among servers s ≡ false)
    → IsOrderlyChange plan c
IsOrderlyChange-brings plan c servers brings' known drained = record {
  known = λ b. some_to (is_among servers) (λ s. is_add c.kind s || knows plan s) known (target c.moves b)
      (brings'.targets b);
  drained = λ s d b h. brings'.leaves s (drained s d) b h;
}

-- a plan's fault as a refusal
abbrev pub base_of : PlanFault → RackRefusal
base_of fault = Base (refusal_of fault)

-- the limits of a command are those of the plan
pub limits-fault : (plan : Planned) (at : Moment) (count : ℕ)
    → first_refusal (limits plan at count) ≡ option_map base_of (limit_refusal plan at count)
limits-fault plan at count =
    elim (cases_Bool (ltb at.0 (last_moment plan))) [
      | inl fell ↦ rw fell refl
      | inr on ↦ elim (cases_lt (length plan.changes) 4096) [
        | inr full ↦
            let t : leb 4096 (length plan.changes) ≡ true = le-leb _ _ full
            in let u : ltb (length plan.changes) 4096 ≡ false = le-ltb _ _ full
            in rw (on, t, u) refl
        | inl room ↦
            let t : leb 4096 (length plan.changes) ≡ false = lt-leb _ _ room
            in let u : ltb (length plan.changes) 4096 ≡ true = lt-ltb _ _ room
            in elim (cases_lt 1000000 (total_moves plan.changes + count)) [
              | inl many ↦
                  let v : ltb 1000000 (total_moves plan.changes + count) ≡ true = lt-ltb _ _ many
                  in let w : leb (total_moves plan.changes + count) 1000000 ≡ false = lt-leb _ _ many
                  in rw (on, t, u, v, w) refl
              | inr few ↦
                  let v : ltb 1000000 (total_moves plan.changes + count) ≡ false = le-ltb _ _ few
                  in let w : leb (total_moves plan.changes + count) 1000000 ≡ true = le-leb _ _ few
                  in rw (on, t, u, v, w) refl
            ]
      ]
    ]

-- what a plan refuses of a change whose moves are right
pub limits-refusal : (plan : Planned) (c : Change) → bad_bucket plan.buckets 0 c.moves ≡ None
    → bucket_already_there (server_now plan) c.moves ≡ None
    → first_refusal (limits plan c.moment (length c.moves)) ≡ option_map base_of (refusal plan c)
limits-refusal plan c bad home =
    limits-fault plan c.moment (length c.moves)
    ∙ ap (option_map base_of) (elim (cases_Bool (ltb c.moment.0 (last_moment plan))) [
      | inl fell ↦ rw fell refl
      | inr on ↦ rw (on, bad, home) refl
    ])

-- what is refused of a command without moves is refused of one with moves
pub limits-more : (plan : Planned) → IsPlan plan → (at : Moment) (count : ℕ) (r : RackRefusal)
    → first_refusal (limits plan at 0) ≡ Some r → first_refusal (limits plan at count) ≡ Some r
limits-more plan kept at count r h =
    more (ltb at.0 (last_moment plan)) (leb 4096 (length plan.changes)) (ltb 1000000 (total_moves plan.changes + 0))
    (ltb 1000000 (total_moves plan.changes + count))
    (le-ltb _ _ (omega (arith, kept.moves))) h
  where
    more : (fell full some many : Bool) → some ≡ false
        → first_refusal (when fell (Base StampFell) ∷ when full (Base (TooMany Changes)) ∷ when some (Base (TooMany Moves)) ∷ []) ≡ Some r
        → first_refusal (when fell (Base StampFell) ∷ when full (Base (TooMany Changes)) ∷ when many (Base (TooMany Moves)) ∷ []) ≡ Some r
    more true full some many none e = e
    more false true some many none e = e
    more false false true many none e = absurd (cc)
    more false false false many none e = absurd (cc)

AllByRecursion-push : {X : Type 0} (P : X → Type 0) (xs : List X) (x : X) → AllByRecursion P xs → P x
    → AllByRecursion P (xs ++ x ∷ [])
AllByRecursion-push P [] x all here = (here, tt)
AllByRecursion-push P (y ∷ xs) x all here = (all.0, AllByRecursion-push P xs x all.1 here)

-- a controller's plan with a change that it doesn't refuse
pub KeepsMembership-push : (plan : Planned) → KeepsMembership plan → (c : Change) → refusal plan c ≡ None
    → IsOrderlyChange plan c → NamesServer c.kind
    → RiseFrom 0 (active_after c.kind (active_now plan)) → 0 < length (active_after c.kind (active_now plan))
    → ((s : ServerId)
    → is_among (active_after c.kind (active_now plan)) s
    ≡ ((is_add c.kind s || knows plan s) && not (is_drain c.kind s || has_drained plan s)))
    → ((s : ServerId) → (is_drain c.kind s || has_drained plan s) ≡ true → (is_add c.kind s || knows plan s) ≡ true)
    → KeepsMembership (with_change plan c)
KeepsMembership-push plan membership c none change names rising some members left = record {
  kept = kept;
  orderly = IsOrderly-push plan c membership.orderly kept change;
  adds = AllByRecursion-push (λ (x : Change). NamesServer x.kind) plan.changes c membership.adds names;
  rising = subst (RiseFrom 0) (sym (active_now-push plan c)) rising;
  some = subst (λ (xs : List ServerId). 0 < length xs) (sym (active_now-push plan c)) some;
  members = λ s.
      ap (λ (xs : List ServerId). is_among xs s) (active_now-push plan c)
      ∙ members s
      ∙ sym (ap (λ t. t && not (has_drained (with_change plan c) s)) (knows-push plan c s)
      ∙ ap (λ t. (is_add c.kind s || knows plan s) && not t) (has_drained-push plan c s));
  left = λ s d. knows-push plan c s ∙ left s (sym (has_drained-push plan c s) ∙ d);
}
  where
    kept : IsPlan (with_change plan c)
    kept = IsPlan-with_change plan membership.kept c (IsAdmitted-from_none plan c none)

-- an add, a drain and a shift
active_is_known : (plan : Planned) → KeepsMembership plan → (s : ServerId) → is_active plan s ≡ true
    → (knows plan s ≡ true) × (has_drained plan s ≡ false)
active_is_known plan membership s a =
    let e : (knows plan s && not (has_drained plan s)) ≡ true = sym (membership.members s) ∙ a
    in let parts = and_parts (knows plan s) (not (has_drained plan s)) e
    in (parts.0, not-true (has_drained plan s) parts.1)

drained_not_active : (plan : Planned) → KeepsMembership plan → (s : ServerId) → has_drained plan s ≡ true
    → is_active plan s ≡ false
drained_not_active plan membership s d =
    membership.members s ∙ ap (λ t. knows plan s && not t) d ∙ and_false (knows plan s)
  where
    and_false : (t : Bool) → (t && false) ≡ false
    and_false true = refl
    and_false false = refl

unknown_not_drained : (plan : Planned) → KeepsMembership plan → (s : ServerId) → knows plan s ≡ false
    → has_drained plan s ≡ false
unknown_not_drained plan membership s k =
    elim (cases_Bool (has_drained plan s)) [
      | inl d ↦ absurd (both_ways (knows plan s) k (membership.left s d))
      | inr f ↦ f
    ]

regrouped : (k p d : Bool) → ((k && not d) && not p) ≡ (k && not (p || d))
regrouped true true true = refl
regrouped true true false = refl
regrouped true false true = refl
regrouped true false false = refl
regrouped false p d = refl

-- the change of this kind that makes these moves
abbrev pub change_by : Moment → Kind → List Move → Change
change_by at kind moves = record { moment = at; kind = kind; moves = moves }

pub KeepsMembership-add : (plan : Planned) → KeepsMembership plan → (at : Moment) (moves : List Move)
    (s : ServerId) → IsWithin 1 1024 s.0 → knows plan s ≡ false → BringsTo plan moves (with_server s (active_now plan))
    → refusal plan (change_by at (Add s) moves) ≡ None
    → KeepsMembership (with_change plan (change_by at (Add s) moves))
KeepsMembership-add plan membership at moves s number unknown brings' none =
    KeepsMembership-push plan membership (change_by at (Add s) moves) none
    (IsOrderlyChange-brings plan (change_by at (Add s) moves) (with_server s (active_now plan)) brings' known drained)
    number rise (length-with s (active_now plan)) members left
  where
    rise : RiseFrom 0 (with_server s (active_now plan))
    rise = RiseFrom-with s 0 (active_now plan) (omega arith) membership.rising

    known : (x : ServerId) → is_among (with_server s (active_now plan)) x ≡ true
        → (same_server s x || knows plan x) ≡ true
    known x a =
        elim (or_cases (same_server s x) (is_active plan x) (sym (among-with s (active_now plan) x) ∙ a)) [
          | inl same ↦ or_left (same_server s x) (knows plan x) same
          | inr was ↦ or_right (same_server s x) (knows plan x) (active_is_known plan membership x was).0
        ]

    apart : (x : ServerId) → has_drained plan x ≡ true → same_server s x ≡ false
    apart x d =
        elim (cases_server s x) [
          | inl same ↦ absurd
              (both_ways (has_drained plan x)
              (unknown_not_drained plan membership x (subst (λ y. knows plan y ≡ false) same.1 unknown)) d)
          | inr other ↦ other.0
        ]

    drained : (x : ServerId) → has_drained plan x ≡ true → is_among (with_server s (active_now plan)) x ≡ false
    drained x d =
        among-with s (active_now plan) x
        ∙ or_from (same_server s x) (is_active plan x) (apart x d) (drained_not_active plan membership x d)

    members : (x : ServerId)
        → is_among (with_server s (active_now plan)) x ≡ ((same_server s x || knows plan x) && not (has_drained plan x))
    members x =
        among-with s (active_now plan) x ∙ elim (cases_server s x) [
          | inl same ↦
              let fresh : has_drained plan x ≡ false =
              unknown_not_drained plan membership x (subst (λ y. knows plan y ≡ false) same.1 unknown)
              in rw (same.0, fresh) refl
          | inr other ↦ rw other.0 (membership.members x)
        ]

    left : (x : ServerId) → has_drained plan x ≡ true → (same_server s x || knows plan x) ≡ true
    left x d = or_right (same_server s x) (knows plan x) (membership.left x d)

pub KeepsMembership-drain : (plan : Planned) → KeepsMembership plan → (at : Moment) (moves : List Move)
    (s : ServerId) → is_active plan s ≡ true → 1 < length (active_now plan)
    → BringsTo plan moves (without_server s (active_now plan))
    → refusal plan (change_by at (Drain s) moves) ≡ None
    → KeepsMembership (with_change plan (change_by at (Drain s) moves))
KeepsMembership-drain plan membership at moves s is many brings' none =
    KeepsMembership-push plan membership (change_by at (Drain s) moves) none
    (IsOrderlyChange-brings plan (change_by at (Drain s) moves) (without_server s (active_now plan)) brings' known
    drained)
    tt rise some members left
  where
    rise : RiseFrom 0 (without_server s (active_now plan))
    rise = RiseFrom-without s 0 (active_now plan) membership.rising

    some : 0 < length (without_server s (active_now plan))
    some = omega (arith, length-without s 0 (active_now plan) membership.rising is)

    known : (x : ServerId) → is_among (without_server s (active_now plan)) x ≡ true → knows plan x ≡ true
    known x a =
        let was = and_parts (is_active plan x) (not (same_server s x)) (sym (among-without s (active_now plan) x) ∙ a)
        in (active_is_known plan membership x was.0).0

    drained : (x : ServerId) → (same_server s x || has_drained plan x) ≡ true
        → is_among (without_server s (active_now plan)) x ≡ false
    drained x d =
        among-without s (active_now plan) x ∙ elim (or_cases (same_server s x) (has_drained plan x) d) [
          | inl same ↦ and_right (is_active plan x) (not (same_server s x)) (ap not same)
          | inr was ↦ and_left (is_active plan x) (not (same_server s x)) (drained_not_active plan membership x was)
        ]

    members : (x : ServerId)
        → is_among (without_server s (active_now plan)) x
        ≡ (knows plan x && not (same_server s x || has_drained plan x))
    members x =
        among-without s (active_now plan) x ∙ ap (λ t. t && not (same_server s x)) (membership.members x)
        ∙ regrouped (knows plan x) (same_server s x) (has_drained plan x)

    left : (x : ServerId) → (same_server s x || has_drained plan x) ≡ true → knows plan x ≡ true
    left x d =
        elim (or_cases (same_server s x) (has_drained plan x) d) [
          | inl same ↦
              (active_is_known plan membership x
              (subst (λ y. is_active plan y ≡ true) (same_server-true s x same) is)).0
          | inr was ↦ membership.left x was
        ]

pub KeepsMembership-weigh : (plan : Planned) → KeepsMembership plan → (at : Moment) (moves : List Move)
    → BringsTo plan moves (active_now plan) → refusal plan (change_by at Shift moves) ≡ None
    → KeepsMembership (with_change plan (change_by at Shift moves))
KeepsMembership-weigh plan membership at moves brings' none =
    KeepsMembership-push plan membership (change_by at Shift moves) none
    (IsOrderlyChange-brings plan (change_by at Shift moves) (active_now plan) brings'
    (λ x a. (active_is_known plan membership x a).0) (λ x d. drained_not_active plan membership x d))
    tt membership.rising membership.some (λ x. membership.members x) (λ x d. membership.left x d)

-- the change that moves one bucket
abbrev pub shift_of : Moment → ℕ → ServerId → Change
shift_of at bucket s = record { moment = at; kind = Shift; moves = record { bucket = bucket; to = s } ∷ [] }

pub KeepsMembership-shift : (plan : Planned) → KeepsMembership plan → (at : Moment) (bucket : ℕ) (s : ServerId)
    → is_active plan s ≡ true → refusal plan (shift_of at bucket s) ≡ None
    → KeepsMembership (with_change plan (shift_of at bucket s))
KeepsMembership-shift plan membership at bucket s is none =
    KeepsMembership-push plan membership (shift_of at bucket s) none (record { known = known; drained = drained }) tt
    membership.rising membership.some (λ x. membership.members x) (λ x d. membership.left x d)
  where
    known : (b : ℕ) → IfSome (target (record { bucket = bucket; to = s } ∷ []) b) (λ to. knows plan to ≡ true)
    known b =
        elim (cases_Bool (eqb bucket b)) [
          | inl here ↦ rw here (active_is_known plan membership s is).0
          | inr elsewhere ↦ rw elsewhere tt
        ]

    drained : (x : ServerId) → has_drained plan x ≡ true → (b : ℕ) → b < plan.buckets
        → unwrap_or (target (record { bucket = bucket; to = s } ∷ []) b) (server_now plan b) ≢ x
    drained x d b h =
        elim (cases_Bool (eqb bucket b)) [
          | inl here ↦ rw here
              (λ (e : s ≡ x). both_ways (has_drained plan x)
              (subst (λ y. has_drained plan y ≡ false) e (active_is_known plan membership s is).1) d)
          | inr elsewhere ↦ rw elsewhere
              (membership.orderly.drained (length plan.changes) (length plan.changes) b x d (omega arith) (omega arith)
              h)
        ]

-- the servers that are active after a rebalancing
pub RiseFrom-after : (plan : Planned) → KeepsMembership plan → (kind : Kind)
    → RiseFrom 0 (active_after kind (active_now plan))
RiseFrom-after plan membership (Add s) = RiseFrom-with s 0 (active_now plan) (omega arith) membership.rising
RiseFrom-after plan membership (Drain s) = RiseFrom-without s 0 (active_now plan) membership.rising
RiseFrom-after plan membership Shift = membership.rising

pub some-after : (plan : Planned) → KeepsMembership plan → (kind : Kind) → MayCome plan kind
    → 0 < length (active_after kind (active_now plan))
some-after plan membership (Add s) may = length-with s (active_now plan)
some-after plan membership (Drain s) may =
    omega (arith, length-without s 0 (active_now plan) membership.rising may.0, may.1)
some-after plan membership Shift may = membership.some

pub KeepsMembership-after : (plan : Planned) → KeepsMembership plan → (at : Moment) (kind : Kind) (moves : List Move)
    → MayCome plan kind → BringsTo plan moves (active_after kind (active_now plan))
    → refusal plan (change_by at kind moves) ≡ None
    → KeepsMembership (with_change plan (change_by at kind moves))
KeepsMembership-after plan membership at (Add s) moves may brings' none =
    KeepsMembership-add plan membership at moves s may.0 may.1 brings' none
KeepsMembership-after plan membership at (Drain s) moves may brings' none =
    KeepsMembership-drain plan membership at moves s may.0 may.1 brings' none
KeepsMembership-after plan membership at Shift moves may brings' none =
    KeepsMembership-weigh plan membership at moves brings' none

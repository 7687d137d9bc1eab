-- A plan with one more change.
use Rattle.std.proofs.Common.{◌≡◌, ◌≢◌, ℕ, zero, suc, ◌+◌, ◌-◌, ◌<◌, ◌≤◌, Bool, true, false, ◌&&◌, cond, eqb, ltb, leb}
use Rattle.std.proofs.Common.{List, [], ◌∷◌, Option, Some, None, length, inl, inr, refl, ap, sym, ◌∙◌, arith}
use Rattle.std.proofs.lemmas.Bool.{cases_Bool, cases_eq, cases_lt, le-ltb, lt-ltb, le-leb, lt-leb, eqb-true, both_ways}
use Rattle.std.proofs.lemmas.Bool.{ltb-false, ltb-true, leb-true, and_parts}
use Rattle.std.proofs.lemmas.List.{length_push}
use Rattle.std.proofs.lemmas.List.Elements.{All-cons, All-nil, All-push}
use Rattle.std.proofs.lemmas.List.Sums.{sum_by-append}
use Rattle.std.proofs.lemmas.Option.{slice_get_past}
use Rattle.std.specs.List.{All}
use Rattle.std.specs.Option.{option_map, IfSome}
use Rattle.bm_base.specs.declared.ids.ServerId.{ServerId}
use Rattle.bm_table.proofs.Gets.{slice_get-append_left, slice_get-push}
use Rattle.bm_table.proofs.Tables.{eq-same_server}
use Rattle.bm_table.specs.Planned.{Planned}
use Rattle.bm_table.specs.Plans.{bad_bucket, bucket_already_there, first_fault, last_moment, late_fault, limit_faults}
use Rattle.bm_table.specs.Plans.{refusal, server_now, total_moves, with_change, MovesRise, IsPlan}
use Rattle.bm_table.specs.Tables.{brings, change_moment, next_change, same_server, table, target}
use Rattle.bm_table.specs.declared.plan.Change.{Change}
use Rattle.bm_table.specs.declared.plan.Limit.TheVariants.{Changes, Moves}
use Rattle.bm_table.specs.declared.plan.Move.{Move}
use Rattle.bm_table.specs.declared.plan.PlanFault.{PlanFault}
use Rattle.bm_table.specs.declared.plan.PlanFault.TheVariants.{StampFell, BadBucket, SameServer, TooMany}

-- the changes before it stay
pub next_change-before : (plan : Planned) (c : Change) (v : ℕ) → v < length plan.changes
    → next_change (with_change plan c) v ≡ next_change plan v
next_change-before plan c v h = slice_get-append_left plan.changes (c ∷ []) v h

pub next_change-last : (plan : Planned) (c : Change) → next_change (with_change plan c) (length plan.changes) ≡ Some c
next_change-last plan c = slice_get-push plan.changes c

next_change-past : (plan : Planned) (v : ℕ) → length plan.changes ≤ v → next_change plan v ≡ None
next_change-past plan v h = slice_get_past plan.changes v h

-- and so do the tables
pub table-before : (plan : Planned) (c : Change) (v b : ℕ) → v ≤ length plan.changes
    → table (with_change plan c) v b ≡ table plan v b
table-before plan c zero b h = refl
table-before plan c (suc v) b h =
    let e : next_change (with_change plan c) v ≡ next_change plan v = next_change-before plan c v (omega arith)
    in let t : table (with_change plan c) v b ≡ table plan v b = table-before plan c v b (omega arith)
    in rw (e, t) refl

-- no bucket is bad, so they rise
pub MovesRise-from_none : (buckets low : ℕ) (moves : List Move) → bad_bucket buckets low moves ≡ None
    → MovesRise buckets low moves
MovesRise-from_none buckets low [] h = tt
MovesRise-from_none buckets low (m ∷ moves) h =
    elim (cases_Bool (leb low m.bucket && ltb m.bucket buckets)) [
      | inl t ↦
          let parts = and_parts _ _ t
          in let rest : bad_bucket buckets (m.bucket + 1) moves ≡ None = rw t at h
          in (leb-true _ _ parts.0, ltb-true _ _ parts.1, MovesRise-from_none buckets (m.bucket + 1) moves rest)
      | inr f ↦
          let bad : Some m.bucket ≡ None = rw f at h
          in absurd (cc)
    ]

-- no bucket is at its move's target, so each move changes its bucket's server
target_is_new : (server : ℕ → ServerId) (moves : List Move) → bucket_already_there server moves ≡ None → (b : ℕ)
    → IfSome (target moves b) (λ to. to ≢ server b)
target_is_new server [] h b = tt
target_is_new server (m ∷ moves) h b =
    elim (cases_Bool (same_server (server m.bucket) m.to)) [
      | inl t ↦ let home : Some m.bucket ≡ None = rw t at h in absurd (cc)
      | inr f ↦
          let rest : bucket_already_there server moves ≡ None = rw f at h
          in elim (cases_Bool (eqb m.bucket b)) [
            | inl here ↦ rw here
                (λ (e : m.to ≡ server b). both_ways _ f (eq-same_server _ _ (ap server (eqb-true _ _ here) ∙ sym e)))
            | inr other ↦ rw other (target_is_new server moves rest b)
          ]
    ]

-- what the plan doesn't refuse
pub record IsAdmitted (plan : Planned) (c : Change) : Type 0 where
  pub stamp : last_moment plan ≤ c.moment.0
  pub buckets : bad_bucket plan.buckets 0 c.moves ≡ None
  pub servers : bucket_already_there (server_now plan) c.moves ≡ None
  pub changes : length plan.changes < 4096
  pub moves : total_moves plan.changes + length c.moves ≤ 1000000

first_fault-none : (fault : Option PlanFault) (faults : List (Option PlanFault)) → first_fault (fault ∷ faults) ≡ None
    → (fault ≡ None) × (first_fault faults ≡ None)
first_fault-none None faults h = (refl, h)
first_fault-none (Some x) faults h = absurd (cc)

map_none : {X Y : Type 0} (f : X → Y) (o : Option X) → option_map f o ≡ None → o ≡ None
map_none f None h = refl
map_none f (Some x) h = absurd (cc)

unless : {X : Type 0} (t : Bool) (x : X) → cond t None (Some x) ≡ None → t ≡ true
unless true x h = refl
unless false x h = absurd (cc)

pub IsAdmitted-from_none : (plan : Planned) (c : Change) → refusal plan c ≡ None → IsAdmitted plan c
IsAdmitted-from_none plan c h =
    let first = first_fault-none (cond (ltb c.moment.0 (last_moment plan)) (Some StampFell) None) _ h
    in let second = first_fault-none (option_map BadBucket (bad_bucket plan.buckets 0 c.moves)) _ first.1
    in let third = first_fault-none (option_map SameServer (bucket_already_there (server_now plan) c.moves)) _ second.1
    in let fourth = first_fault-none (cond (ltb (length plan.changes) 4096) None (Some (TooMany Changes))) _ third.1
    in let fifth =
    first_fault-none (cond (leb (total_moves plan.changes + length c.moves) 1000000) None (Some (TooMany Moves))) _
    fourth.1
    in record {
      stamp = ltb-false _ _ (when_not (ltb c.moment.0 (last_moment plan)) StampFell first.0);
      buckets = map_none BadBucket _ second.0;
      servers = map_none SameServer _ third.0;
      changes = ltb-true _ _ (unless (ltb (length plan.changes) 4096) (TooMany Changes) fourth.0);
      moves = leb-true _ _ (unless (leb (total_moves plan.changes + length c.moves) 1000000) (TooMany Moves) fifth.0);
    }
  where
    when_not : {X : Type 0} (t : Bool) (x : X) → cond t (Some x) None ≡ None → t ≡ false
    when_not false x e = refl
    when_not true x e = absurd (cc)

-- the last change is the latest
latest : (plan : Planned) → IsPlan plan → (v : ℕ) → v < length plan.changes
    → change_moment (next_change plan v) ≤ last_moment plan
latest plan kept v h = kept.stamps v (length plan.changes - 1) (omega arith) (omega arith)

-- a plan stays one when it gets a change that it doesn't refuse
pub IsPlan-with_change : (plan : Planned) → IsPlan plan → (c : Change) → IsAdmitted plan c → IsPlan (with_change plan c)
IsPlan-with_change plan kept c a = record {
  buckets = kept.buckets;
  servers = kept.servers;
  rising = kept.rising;
  stamps = λ v w l r. stamps v w l (omega (arith, r, length_push plan.changes c));
  changes = changes;
  places = All-push (λ (x : Change). MovesRise plan.buckets 0 x.moves) plan.changes c kept.places
      (MovesRise-from_none plan.buckets 0 c.moves a.buckets);
  count = omega (arith, length_push plan.changes c, a.changes);
  moves = omega (arith, sum_by-append (λ (x : Change). length x.moves) plan.changes (c ∷ []), a.moves);
}
  where
    longer : Planned
    longer = with_change plan c

    stamps : (v w : ℕ) → v ≤ w → w < length plan.changes + 1
        → change_moment (next_change (with_change plan c) v) ≤ change_moment (next_change (with_change plan c) w)
    stamps v w l r =
        elim (cases_lt w (length plan.changes)) [
          | inl before ↦
              let e : next_change (with_change plan c) v ≡ next_change plan v =
              next_change-before plan c v (omega arith)
              in let e' : next_change (with_change plan c) w ≡ next_change plan w = next_change-before plan c w before
              in rw (e, e') (kept.stamps v w l before)
          | inr last ↦
              let w_is : w ≡ length plan.changes = omega arith
              in rw (w_is, next_change-last plan c) (
              elim (cases_lt v (length plan.changes)) [
                | inl before ↦
                    let e : next_change (with_change plan c) v ≡ next_change plan v = next_change-before plan c v before
                    in let late : change_moment (next_change plan v) ≤ last_moment plan = latest plan kept v before
                    in rw e (omega (arith, late, a.stamp))
                | inr also ↦
                    let v_is : v ≡ length plan.changes = omega arith
                    in rw (v_is, next_change-last plan c) (omega arith)
              ])
        ]

    changes : (v b : ℕ)
        → IfSome (brings (next_change (with_change plan c) v) b) (λ to. to ≢ (table (with_change plan c) v b).cur)
    changes v b =
        elim (cases_lt v (length plan.changes)) [
          | inl before ↦
              let e : next_change (with_change plan c) v ≡ next_change plan v = next_change-before plan c v before
              in let t : table (with_change plan c) v b ≡ table plan v b = table-before plan c v b (omega arith)
              in rw (e, t) (kept.changes v b)
          | inr after ↦ elim (cases_eq v (length plan.changes)) [
            | inl same ↦
                let t : table (with_change plan c) (length plan.changes) b ≡ table plan (length plan.changes) b =
                table-before plan c (length plan.changes) b (omega arith)
                in rw (same, next_change-last plan c, t) (target_is_new (server_now plan) c.moves a.servers b)
            | inr past ↦
                let e : next_change (with_change plan c) v ≡ None =
                next_change-past (with_change plan c) v (omega (arith, length_push plan.changes c))
                in rw e tt
          ]
        ]

-- the answers of a plan to a change, in their order
pub refusal-stamp : (plan : Planned) (c : Change) → c.moment.0 < last_moment plan → refusal plan c ≡ Some StampFell
refusal-stamp plan c h =
    let t : ltb c.moment.0 (last_moment plan) ≡ true = lt-ltb _ _ h
    in rw t refl

pub refusal-bucket : (plan : Planned) (c : Change) (b : ℕ) → last_moment plan ≤ c.moment.0
    → bad_bucket plan.buckets 0 c.moves ≡ Some b → refusal plan c ≡ Some (BadBucket b)
refusal-bucket plan c b h e =
    let t : ltb c.moment.0 (last_moment plan) ≡ false = le-ltb _ _ h
    in rw (t, e) refl

pub refusal-server : (plan : Planned) (c : Change) (b : ℕ) → last_moment plan ≤ c.moment.0
    → bad_bucket plan.buckets 0 c.moves ≡ None
    → bucket_already_there (server_now plan) c.moves ≡ Some b → refusal plan c ≡ Some (SameServer b)
refusal-server plan c b h e home =
    let t : ltb c.moment.0 (last_moment plan) ≡ false = le-ltb _ _ h
    in rw (t, e, home) refl

pub refusal-changes : (plan : Planned) (c : Change) → last_moment plan ≤ c.moment.0
    → bad_bucket plan.buckets 0 c.moves ≡ None
    → bucket_already_there (server_now plan) c.moves ≡ None → 4096 ≤ length plan.changes
    → refusal plan c ≡ Some (TooMany Changes)
refusal-changes plan c h e home full =
    let t : ltb c.moment.0 (last_moment plan) ≡ false = le-ltb _ _ h
    in let u : ltb (length plan.changes) 4096 ≡ false = le-ltb _ _ full
    in rw (t, e, home, u) refl

pub refusal-moves : (plan : Planned) (c : Change) → last_moment plan ≤ c.moment.0
    → bad_bucket plan.buckets 0 c.moves ≡ None
    → bucket_already_there (server_now plan) c.moves ≡ None → length plan.changes < 4096
    → 1000000 < total_moves plan.changes + length c.moves
    → refusal plan c ≡ Some (TooMany Moves)
refusal-moves plan c h e home room full =
    let t : ltb c.moment.0 (last_moment plan) ≡ false = le-ltb _ _ h
    in let u : ltb (length plan.changes) 4096 ≡ true = lt-ltb _ _ room
    in let v : leb (total_moves plan.changes + length c.moves) 1000000 ≡ false = lt-leb _ _ full
    in rw (t, e, home, u, v) refl

pub refusal-none : (plan : Planned) (c : Change) → IsAdmitted plan c → refusal plan c ≡ None
refusal-none plan c a =
    let t : ltb c.moment.0 (last_moment plan) ≡ false = le-ltb _ _ a.stamp
    in let u : ltb (length plan.changes) 4096 ≡ true = lt-ltb _ _ a.changes
    in let v : leb (total_moves plan.changes + length c.moves) 1000000 ≡ true = le-leb _ _ a.moves
    in rw (t, a.buckets, a.servers, u, v) refl

-- where neither the moment nor the moves are wrong, the limits decide
pub refusal-limits : (plan : Planned) (c : Change) → late_fault plan c.moment ≡ None
    → bad_bucket plan.buckets 0 c.moves ≡ None
    → bucket_already_there (server_now plan) c.moves ≡ None
    → refusal plan c ≡ first_fault (limit_faults plan (length c.moves))
refusal-limits plan c late e home = rw (late, e, home) refl

pub refusal-home : (plan : Planned) (c : Change) (b : ℕ) → late_fault plan c.moment ≡ None
    → bad_bucket plan.buckets 0 c.moves ≡ None
    → bucket_already_there (server_now plan) c.moves ≡ Some b → refusal plan c ≡ Some (SameServer b)
refusal-home plan c b late e home = rw (late, e, home) refl

-- moves whose buckets rise are of buckets in range
pub MovesRise-range : (buckets low : ℕ) (moves : List Move) → MovesRise buckets low moves
    → All (λ m. m.bucket < buckets) moves
MovesRise-range buckets low [] h = All-nil (λ (m : Move). m.bucket < buckets)
MovesRise-range buckets low (m ∷ moves) h =
    All-cons (λ (x : Move). x.bucket < buckets) m moves h.1 (MovesRise-range buckets (m.bucket + 1) moves h.2)

-- functions that agree at each bucket find the same one that is already there
pub bucket_already_there-agree : (buckets low : ℕ) (f g : ℕ → ServerId) → ((b : ℕ) → b < buckets → f b ≡ g b)
    → (moves : List Move) → MovesRise buckets low moves
    → bucket_already_there f moves ≡ bucket_already_there g moves
bucket_already_there-agree buckets low f g e [] h = refl
bucket_already_there-agree buckets low f g e (m ∷ moves) h =
    let rest : bucket_already_there f moves ≡ bucket_already_there g moves =
    bucket_already_there-agree buckets (m.bucket + 1) f g e moves h.2
    in let here : f m.bucket ≡ g m.bucket = e m.bucket h.1
    in rw (here, rest) refl

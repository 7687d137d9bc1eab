-- The servers and the muxes' workers of a run, as they are made.
use Rattle.std.proofs.Common.{◌≡◌, ℕ, zero, suc, ◌+◌, ◌<◌, ◌≤◌, Bool, true, false, List, [], ◌∷◌, All, length, get_or}
use Rattle.std.proofs.Common.{Some, refl, sym, ap, ◌∙◌, subst, arith, ◌||◌}
use Rattle.std.specs.Prelude.{slice_get}
use Rattle.std.proofs.lemmas.Bool.{eqb-true}
use Rattle.std.proofs.lemmas.Option.{same_Some, slice_get_within, slice_get-get_or}
use Rattle.bm_rows.proofs.Places.{there}
use Rattle.bm_base.specs.declared.ids.ServerId.{ServerId}
use Rattle.bm_table.specs.Planned.{Planned}
use Rattle.bm_table.specs.Settings.{IsWithin, RiseFrom}
use Rattle.bm_table.specs.Tables.{is_among, is_known, same_server, table}
use Rattle.bm_core.specs.declared.events.Stage.{Stage}
use Rattle.bm_core.specs.Stages.{IsSound}
use Rattle.bm_mux.specs.Muxes.{HasServers}
use Rattle.bm_publish.specs.Posts.{Posted}
use Rattle.bm_server.specs.Seats.{Seated}
use Rattle.bm_server.specs.Servings.{Serving}
use Rattle.bm_worker.specs.WorkerNotes.{AreServersOf}
use Rattle.bm_worker.proofs.Known.{known_cur}
use Rattle.bm_world.specs.Inside.RunStates.{HaveNoTurns}
use Rattle.bm_world.specs.Inside.Served.{IsNewRow, IsServerOf}
use Rattle.bm_world.proofs.KnownServers.{known_server}

-- NUMBERS THAT RISE

low_first : (low : ℕ) (ids : List ServerId) (i : ℕ) (x : ServerId) → RiseFrom low ids → slice_get ids i ≡ Some x
    → low ≤ x.0
low_first low [] i x rise here = absurd (cc)
low_first low (y ∷ ids) zero x rise here = subst (λ (s : ServerId). low ≤ s.0) (same_Some y x here) rise.0
low_first low (y ∷ ids) (suc i) x rise here =
    let more = low_first (y.0 + 1) ids i x rise.1 here in omega (arith, rise.0, more)

rising : (low : ℕ) (ids : List ServerId) (i j : ℕ) (x y : ServerId) → RiseFrom low ids → slice_get ids i ≡ Some x
    → slice_get ids j ≡ Some y → i < j → x.0 < y.0
rising low [] i j x y rise a b below = absurd (cc)
rising low (z ∷ ids) i zero x y rise a b below = absurd (omega arith)
rising low (z ∷ ids) zero (suc j) x y rise a b below =
    let more = low_first (z.0 + 1) ids j y rise.1 b
    in let is : z.0 ≡ x.0 = ap (λ (s : ServerId). s.0) (same_Some z x a) in omega (arith, more, is)
rising low (z ∷ ids) (suc i) (suc j) x y rise a b below = rising (z.0 + 1) ids i j x y rise.1 a b (omega arith)

among_there : (ids : List ServerId) (s : ServerId) → is_among ids s ≡ true
    → (i : ℕ) × (x : ServerId) × (slice_get ids i ≡ Some x) × (x ≡ s)
among_there [] s is = absurd (cc)
among_there (x ∷ ids) s is = go (same_server x s) refl is (λ h. among_there ids s h) where
  go : (b : Bool) → same_server x s ≡ b → (b || is_among ids s) ≡ true
      → (is_among ids s ≡ true → (i : ℕ) × (y : ServerId) × (slice_get ids i ≡ Some y) × (y ≡ s))
      → (i : ℕ) × (y : ServerId) × (slice_get (x ∷ ids) i ≡ Some y) × (y ≡ s)
  go true here is old = let same = eqb-true _ _ here in (0, x, refl, λ k. record { 0 = same k })
  go false here is old = let rest = old is in (suc rest.0, rest.1, rest.2, rest.3)

-- THE SERVERS

pub servers_made : (stage : Stage) (servers : List Serving) (ids : List ServerId) (workers : ℕ) → IsSound stage
    → RiseFrom 1 ids
    → ((id : ServerId) → IsWithin 1 1024 id.0
    → is_known stage.script.plan (length stage.script.plan.changes) id ≡ true → is_among ids id ≡ true)
    → length servers ≡ length ids
    → ((s : ℕ) (server : Serving) → slice_get servers s ≡ Some server
    → IsServerOf stage.script.setting ids workers s server)
    → AreServersOf stage servers
servers_made stage servers ids workers sound rise known count each = record {
  rise = λ s t a b p q below. rising 1 ids s t a.id b.id rise (each s a p).id (each t b q).id below;
  shards = λ s server here. (each s server here).shards;
  capacity = λ s server here. (each s server here).capacity;
  timeout = λ s server here. (each s server here).timeout;
  known = λ id is.
      let at = among_there ids id
      (known id (known_server stage.script sound.script (length stage.script.plan.changes) id is) is)
      in let low = slice_get_within ids at.0 at.1 at.2
      in let server = there servers at.0 (omega arith)
      in (
        at.0,
        server.0,
        server.1,
        same_Some server.0.id at.1 (sym (each at.0 server.0 server.1).id ∙ at.2) ∙ at.3,
      );
}

-- THE LOOKS AND THE SEATS

pub has_servers : (stage : Stage) → IsSound stage → HasServers stage.script.plan
has_servers stage sound v b low here =
    known_server stage.script sound.script (length stage.script.plan.changes) (table stage.script.plan v b).cur
    (known_cur stage.script sound.script v b)

pub looks_may : (stage : Stage) (posted : Posted) (looks : List Posted) → IsSound stage
    → posted.plan ≡ stage.script.plan → All (λ (look : Posted). look ≡ posted) looks
    → All (λ (look : Posted). (stage.script.setting.buckets ≡ look.plan.buckets) × HasServers look.plan) looks
looks_may stage posted looks sound plan all k d low =
    subst (λ (look : Posted). (stage.script.setting.buckets ≡ look.plan.buckets) × HasServers look.plan)
    (sym (all k d low))
    (subst (λ (p : Planned). (stage.script.setting.buckets ≡ p.buckets) × HasServers p) (sym plan)
    (sym sound.script.buckets, has_servers stage sound))

-- the first row, and the others
pub row_after : (servers : List Serving) (first : List (List Seated)) (others rows : List (List (List Seated)))
    → rows ≡ first ∷ others
    → ((w : ℕ) (seats : List (List Seated)) → slice_get rows w ≡ Some seats → IsNewRow servers w seats)
    → IsNewRow servers 0 first
    × ((m : ℕ) (seats : List (List Seated)) → slice_get others m ≡ Some seats → IsNewRow servers (m + 1) seats)
row_after servers first others rows is each = (
  each 0 first (ap (λ (l : List (List (List Seated))). slice_get l 0) is),
  λ m seats here.
      let one : suc m ≡ m + 1 = omega arith
      in subst (λ (k : ℕ). IsNewRow servers k seats) one
      (each (suc m) seats (ap (λ (l : List (List (List Seated))). slice_get l (suc m)) is ∙ here)),
)

pub no_turns : (servers : List Serving) (others : List (List (List Seated)))
    → ((m : ℕ) (seats : List (List Seated)) → slice_get others m ≡ Some seats → IsNewRow servers (m + 1) seats)
    → All HaveNoTurns others
no_turns servers others each k d low = (each k (get_or others k d) (slice_get-get_or others k d low)).turns

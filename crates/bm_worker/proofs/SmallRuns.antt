-- A run of one server and two muxes, with one packet each.
use Rattle.std.proofs.Common.{◌≡◌, ℕ, zero, suc, ◌+◌, Bool, true, false, List, [], ◌∷◌, ◌++◌}
use Rattle.std.proofs.Common.{length, slice_get, Some, None, refl, sym, ap, ◌∙◌, subst, arith}
use Rattle.std.proofs.lemmas.Bool.{eqb-true}
use Rattle.std.proofs.lemmas.List.{length-append}
use Rattle.std.proofs.lemmas.Option.{same_Some}
use Rattle.bm_base.specs.declared.ids.ServerId.{ServerId}
use Rattle.bm_table.specs.Planned.{Planned}
use Rattle.bm_table.specs.Tables.{is_known}
use Rattle.bm_core.specs.declared.events.Stage.{Stage}
use Rattle.bm_core.specs.Stages.{IsSound}
use Rattle.bm_mux.specs.Muxes.{HasServers}
use Rattle.bm_server.specs.Servings.{Serving, serving}
use Rattle.bm_worker.specs.WorkerNotes.{AreServersOf}
use Rattle.bm_worker.proofs.Known.{known_cur, known_server}

abbrev small_plan : Planned
small_plan = record { buckets = 8; servers = record { 0 = 1 } ∷ []; changes = [] }

-- THE SERVER

pub one_server_made : (stage : Stage) (server : Serving) (capacity timeout seats : ℕ) → stage.script.plan ≡ small_plan
    → server ≡ serving (record { 0 = 1 }) capacity timeout seats server.tables → length server.tables ≡ 1
    → (stage.script.setting.shards ≡ 1) × (stage.script.setting.capacity ≡ capacity)
    × (stage.script.setting.timeout ≡ timeout) → AreServersOf stage (server ∷ [])
one_server_made stage server capacity timeout seats plan made shards setting = record {
  rise = λ s t a b one two below. absurd (let same = both s t a b one two in omega arith);
  shards = λ s x at. of_one (λ (y : Serving). length y.tables ≡ stage.script.setting.shards) (shards ∙ sym setting.0)
      s x at;
  capacity = λ s x at. of_one (λ (y : Serving). y.capacity ≡ stage.script.setting.capacity)
      (ap (λ (y : Serving). y.capacity) made ∙ sym setting.1) s x at;
  timeout = λ s x at. of_one (λ (y : Serving). y.timeout ≡ stage.script.setting.timeout)
      (ap (λ (y : Serving). y.timeout) made ∙ sym setting.2) s x at;
  known = λ x is. (
    zero,
    server,
    refl,
    ap (λ (y : Serving). y.id) made
        ∙ known_one x (subst (λ (p : Planned). is_known p (length p.changes) x ≡ true) plan is),
  );
} where
  both : (s t : ℕ) (a b : Serving) → slice_get (server ∷ []) s ≡ Some a → slice_get (server ∷ []) t ≡ Some b → s ≡ t
  both zero zero a b one two = refl
  both zero (suc t) a b one two = absurd (let bad : None ≡ Some b = two in cc)
  both (suc s) t a b one two = absurd (let bad : None ≡ Some a = one in cc)

  of_one : (P : Serving → Type 0) → P server → (s : ℕ) (x : Serving) → slice_get (server ∷ []) s ≡ Some x → P x
  of_one P is zero x at = subst P (same_Some server x at) is
  of_one P is (suc s) x at = absurd (let bad : None ≡ Some x = at in cc)

  or_false : (b : Bool) → (Rattle.std.specs.Prelude.◌||◌ b false) ≡ true → b ≡ true
  or_false true is = refl
  or_false false is = is

  known_one : (x : ServerId) → is_known small_plan 0 x ≡ true → ◌≡◌ {A = ServerId} (record { 0 = 1 }) x
  known_one x is = λ i. record { 0 = eqb-true 1 x.0 (or_false _ is) i }

pub sound_servers : (stage : Stage) (plan : Planned) → IsSound stage → plan ≡ stage.script.plan → HasServers plan
sound_servers stage plan sound is =
    subst (λ (p : Planned). HasServers p) (sym is)
    (λ v b versions buckets. known_server stage.script sound.script _ _ (known_cur stage.script sound.script v b))

-- SEATS

pub last_got : {X : Type 0} (xs rest : List X) (x : X) (n : ℕ) → xs ≡ rest ++ x ∷ [] → length xs ≡ n + 1
    → slice_get xs n ≡ Some x
last_got xs rest x n is long =
    let e : length (rest ++ x ∷ []) ≡ length xs = ap (λ l. length l) (sym is) in
    let f = length-append rest (x ∷ []) in
    let here : length rest ≡ n = omega (arith, e, f, long) in
    ap (λ l. slice_get l n) is ∙ subst (λ (k : ℕ). slice_get (rest ++ x ∷ []) k ≡ Some x) here (at_end rest) where
      at_end : (ys : List _) → slice_get (ys ++ x ∷ []) (length ys) ≡ Some x
      at_end [] = refl
      at_end (y ∷ ys) = at_end ys

pub got_before : {X : Type 0} (xs rest : List X) (x y : X) (i : ℕ) → xs ≡ rest ++ x ∷ [] → slice_get rest i ≡ Some y
    → slice_get xs i ≡ Some y
got_before xs rest x y i is at = ap (λ l. slice_get l i) is ∙ more rest i at where
  more : (ys : List _) (j : ℕ) → slice_get ys j ≡ Some y → slice_get (ys ++ x ∷ []) j ≡ Some y
  more [] j here = absurd (let bad : None ≡ Some y = here in cc)
  more (z ∷ ys) zero here = here
  more (z ∷ ys) (suc j) here = more ys j here

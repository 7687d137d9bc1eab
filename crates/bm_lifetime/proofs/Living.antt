-- What the script's lifetime says of the versions of two packets of one flow.
use Rattle.std.proofs.Common.{◌≡◌, ℕ, zero, suc, ◌+◌, ◌-◌, ◌*◌, ◌<◌, ◌≤◌, Bool, true, false, ◌&&◌, inl}
use Rattle.std.proofs.Common.{inr, List, [], ◌∷◌, Option, Some, None, length, refl, sym, ap, subst, arith, eqb}
use Rattle.std.proofs.Common.{if◌then◌else◌}
use Rattle.std.specs.Prelude.{IfSome, flat_map, map, slice_get, slice_index_or}
use Rattle.std.specs.List.{range_with_len}
use Rattle.std.proofs.lemmas.Bool.{and_from, and_parts, cases_lt, eqb-true, lt-ltb}
use Rattle.std.proofs.lemmas.Option.{slice_get_cases}
use Rattle.bm_base.specs.declared.fate.Fate.{Fate}
use Rattle.bm_base.specs.declared.label.Hop.{Hop}
use Rattle.bm_table.specs.declared.script.Script.{Script}
use Rattle.bm_table.specs.declared.setting.FaultRow.{FaultRow}
use Rattle.bm_table.specs.declared.setting.Setting.{Setting}
use Rattle.bm_table.specs.Scripts.{IsSoundScript}
use Rattle.bm_table.specs.Tables.{change_moment, moves, next_change}
use Rattle.bm_core.specs.Accounts.{AreAnswered, Routes, before, fate_now}
use Rattle.bm_core.specs.declared.events.Event.{Event}
use Rattle.bm_core.specs.declared.events.Stage.{Stage}
use Rattle.bm_core.specs.Past.{Sending, same_hop, sending_of}
use Rattle.bm_core.specs.Rules.{RuleBy, fate_in, setting_fate}
use Rattle.bm_lifetime.proofs.Bounds.{IsBy, IsMoveAt, bounded, least_by, moved_by, thrice_by}
use Rattle.bm_lifetime.proofs.Moved.{IsMove, last_move}
use Rattle.bm_lifetime.proofs.Timed.{AreWithin}
use Rattle.bm_lifetime.specs.Lifetime.{are_all, bounds_by, bounds_of, greatest, is_steady, least, lifetime_of}
use Rattle.bm_lifetime.specs.Lifetime.{longest_delay, longest_lag, most_events, moves_of, slack, timeout_bound}

-- LAGS AND DELAYS

pub lag_most : (lags : List ℕ) (i : ℕ) → slice_index_or lags i 0 ≤ greatest lags
lag_most [] i = omega arith
lag_most (x ∷ lags) zero = omega arith
lag_most (x ∷ lags) (suc i) = let h = lag_most lags i in omega arith

pub lag_same : (n : ℕ) (lags : List ℕ) (i : ℕ) → are_all n lags ≡ true → i < length lags → slice_index_or lags i 0 ≡ n
lag_same n [] i all below = absurd (omega arith)
lag_same n (x ∷ lags) zero all below = eqb-true x n (and_parts (eqb x n) (are_all n lags) all).0
lag_same n (x ∷ lags) (suc i) all below =
    lag_same n lags i (and_parts (eqb x n) (are_all n lags) all).1 (omega arith)

same_delay : (b : Bool) (f g : Fate) (most : ℕ) → f.delay ≤ most → g.delay ≤ most
    → (if b then f else g).delay ≤ most
same_delay true f g most p q = p
same_delay false f g most p q = q

delay_most : (rows : List FaultRow) (k : ℕ) (hop : Hop)
    → (fate_in rows k hop).delay ≤ greatest (map (λ row. row.fate.delay) rows)
delay_most [] k hop = omega arith
delay_most (row ∷ rows) k hop =
    let old = delay_most rows k hop
    in same_delay (eqb row.packet k && same_hop row.hop hop) row.fate (fate_in rows k hop)
    (greatest (map (λ r. r.fate.delay) (row ∷ rows))) (omega arith) (omega arith)

sending_within : (setting : Setting) (f : Fate) (o : Option Sending)
    → IfSome o (λ s. RuleBy (setting_fate setting) s.packet s.hop f) → IfSome o (λ s. f.delay ≤ longest_delay setting)
sending_within setting f None is = tt
sending_within setting f (Some s) is =
    subst (λ (x : Fate). x.delay ≤ longest_delay setting) (sym is) (delay_most setting.faults s.packet s.hop)

-- the fates of a setting have no longer delays
pub answered_within : (R : Routes) (stage : Stage) (fates : List Fate) (past : List Event)
    → AreAnswered R (RuleBy (setting_fate stage.script.setting)) stage fates past
    → AreWithin (longest_delay stage.script.setting) fates past
answered_within R stage fates [] answered = tt
answered_within R stage fates (e ∷ past) answered = (
  sending_within stage.script.setting (fate_now fates) (sending_of e.what) answered.0.1,
  answered_within R stage (before fates) past answered.1,
)

-- what comes within the script's lifetime comes within that of each bucket
pub in_bucket : (script : Script) (b n from to : ℕ) → b < n
    → IfSome (least (flat_map (bounds_of script) (range_with_len 0 n))) (λ most. to ≤ from + most)
    → IfSome (lifetime_of script b) (λ most. to ≤ from + most)
in_bucket script b n from to below life = go (lifetime_of script b) refl where
  go : (o : Option ℕ) → lifetime_of script b ≡ o → IfSome o (λ most. to ≤ from + most)
  go None is = tt
  go (Some most) is =
      let own : IsBy (lifetime_of script b) most = rw is (omega arith)
      in bounded (least (flat_map (bounds_of script) (range_with_len 0 n))) most to from (least_by script b n most below own) life

-- TWO PACKETS

-- A packet at moment `from` was steered with version w, and a later one of its flow at moment `to` with version v, by
-- muxes with this lag; the second comes within the lifetime of their bucket.
pub record IsLiving (script : Script) (b w v lag from to : ℕ) : Type 0 where
  pub steady : is_steady script ≡ true
  pub known_first : w ≤ length script.plan.changes
  pub known_last : v ≤ length script.plan.changes
  pub lag_is : lag ≤ longest_lag script.setting
  pub order : from < to
  pub first_after : (n : ℕ) → w ≡ suc n → change_moment (next_change script.plan n) + lag ≤ from
  pub first_before : w < length script.plan.changes → from < change_moment (next_change script.plan w) + lag
  pub last_after : (n : ℕ) → v ≡ suc n → change_moment (next_change script.plan n) + lag ≤ to
  pub last_before : v < length script.plan.changes → to < change_moment (next_change script.plan v) + lag
  pub life : IfSome (lifetime_of script b) (λ most. to ≤ from + most)

suc_less : (n : ℕ) → 0 < n → (m : ℕ) × (n ≡ suc m)
suc_less zero some = absurd (omega arith)
suc_less (suc m) some = (m, refl)

-- the later packet's version is no older
pub no_older : (script : Script) (b w v lag from to : ℕ) → IsSoundScript script → IsLiving script b w v lag from to
    → w ≤ v
no_older script b w v lag from to sound l = elim (cases_lt v w) [
  | inr fresh ↦ fresh
  | inl stale ↦
      let n = suc_less w (omega arith)
      in let known = l.known_first
      in let after = l.first_after n.0 n.1
      in let early = l.last_before (omega arith)
      in let one = n.1
      in let order = l.order
      in let stamps = sound.plan.stamps v n.0 (omega arith) (omega arith)
      in absurd (omega arith)
]

-- a change that moves the bucket after the first packet's version
move_at : (script : Script) (b w v lag from to top : ℕ) → IsSoundScript script → IsLiving script b w v lag from to
    → (m : IsMove script.plan b w top) → top ≤ length script.plan.changes
    → IsMoveAt (longest_lag script.setting) b m.change script.plan.changes
move_at script b w v lag from to top sound l m within_it =
    let below = m.below
    in let since = m.from
    in let early = l.first_before (omega arith)
    in let stamps = sound.plan.stamps w m.change since (omega arith)
    in let lag_is = l.lag_is
    in elim (slice_get_cases script.plan.changes m.change).1 [
      | inr beyond ↦ absurd (let h = beyond.0 in omega arith)
      | inl there ↦
          let is : next_change script.plan m.change ≡ Some there.0 = there.2
          in let moment : change_moment (next_change script.plan m.change) ≡ there.0.moment.0 = ap change_moment is
          in record {
            below = omega arith;
            change = there.0;
            is_change = is;
            moves = and_from _ _ (rw is at m.moves) (lt-ltb _ _ (omega arith));
          }
    ]

module _ (script : Script) (b w v lag from to : ℕ) (sound : IsSoundScript script)
    (l : IsLiving script b w v lag from to) where
  stamped : (x y : ℕ) → x ≤ y → y < length script.plan.changes
      → change_moment (slice_get script.plan.changes x) ≤ change_moment (slice_get script.plan.changes y)
  stamped x y order below = sound.plan.stamps x y order below

  steady_by : (most : ℕ)
      → IsBy (least (bounds_by (timeout_bound script) (moves_of script b))) most → to ≤ from + most
  steady_by most by =
      let own : IsBy (lifetime_of script b) most = rw l.steady by
      in bounded (lifetime_of script b) most to from own l.life

  -- the later packet comes in time for such a change
  pub timely : (m : IsMove script.plan b w (length script.plan.changes))
      → to + most_events + 3 * longest_delay script.setting
      ≤ change_moment (next_change script.plan m.change) + script.setting.timeout
  timely m =
      let at = move_at script b w v lag from to (length script.plan.changes) sound l m (omega arith)
      in let old : to ≤ from + (script.setting.timeout - slack script.setting) =
      steady_by (script.setting.timeout - slack script.setting)
      (moved_by (longest_lag script.setting) b 1 m.change (script.setting.timeout - slack script.setting)
      script.plan.changes stamped at)
      in let below = m.below
      in let since = m.from
      in let early = l.first_before (omega arith)
      in let stamps = sound.plan.stamps w m.change since (omega arith)
      in let lag_is = l.lag_is
      in let order = l.order
      in omega arith

  -- between the two at most two changes moved the bucket
  pub few_moves : moves script.plan b w v ≤ 2
  few_moves = elim (cases_lt 2 (moves script.plan b w v)) [
    | inr few ↦ few
    | inl many ↦
        let known = l.known_last
        in let z = last_move script.plan b w v (omega arith)
        in let count_z = z.1
        in let y = last_move script.plan b w z.0.change (omega arith)
        in let count_y = y.1
        in let x = last_move script.plan b w y.0.change (omega arith)
        in let z_below = z.0.below
        in let y_below = y.0.below
        in let x_below = x.0.below
        in let x_from = x.0.from
        in let at_z = move_at script b w v lag from to v sound l z.0 known
        in let at_y = move_at script b w v lag from to z.0.change sound l y.0 (omega arith)
        in let at_x = move_at script b w v lag from to y.0.change sound l x.0 (omega arith)
        in let old =
        steady_by _
        (thrice_by (longest_lag script.setting) b 1 x.0.change y.0.change z.0.change
        (script.setting.timeout - slack script.setting) script.plan.changes x_below y_below stamped at_x at_y at_z)
        in let n = suc_less v (omega arith)
        in let one = n.1
        in let last = l.last_after n.0 n.1
        in let early = l.first_before (omega arith)
        in let stamps_first = sound.plan.stamps w x.0.change x_from (omega arith)
        in let stamps_last = sound.plan.stamps z.0.change n.0 (omega arith) (omega arith)
        in let stamps_all = sound.plan.stamps x.0.change z.0.change (omega arith) (omega arith)
        in let order = l.order
        in absurd (omega arith)
  ]

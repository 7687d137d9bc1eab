-- A change moves a bucket at most once.
use Rattle.std.proofs.Common.{◌≡◌, ℕ, zero, suc, ◌-◌, ◌<◌, ◌≤◌, true, false, inl, inr, arith, leb}
use Rattle.std.specs.Prelude.{nat_le}
use Rattle.std.proofs.lemmas.Bool.{cases_Bool, cases_lt, le-leb}
use Rattle.std.proofs.lemmas.Bool.Decides.{nat_tests}
use Rattle.bm_table.specs.Planned.{Planned}
use Rattle.bm_table.specs.Tables.{moves, moves_next}
use Rattle.bm_table.proofs.Tables.{moves_before}

few_moves : (plan : Planned) (b w v : ℕ) → moves plan b w v ≤ v - w
few_moves plan b w zero = omega arith
few_moves plan b w (suc v) =
    let i = few_moves plan b w v
    in elim (cases_lt v w) [
      | inl last ↦ let z : moves plan b w (suc v) ≡ 0 = moves_before plan b w (suc v) (omega arith) in omega (arith, z)
      | inr since ↦
          let l : leb w v ≡ true = le-leb w v since
          in elim (cases_Bool (moves_next plan v b)) [
            | inl goes ↦ rw (l, goes) (omega (arith, i, since))
            | inr stays ↦ rw (l, stays) (omega (arith, i, since))
          ]
    ]

-- a bucket that moved three times did so by three changes
pub not_thrice : (plan : Planned) (b w v : ℕ) → v - w < 3 → nat_le 3 (moves plan b w v) ≡ false
not_thrice plan b w v h =
    let f = few_moves plan b w v
    in let below : moves plan b w v < 3 = omega (arith, f, h)
    in grind (arith, nat_tests)

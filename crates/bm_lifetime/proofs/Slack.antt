-- The slack of a setting in its ranges fits.
use Rattle.std.proofs.Common.{ℕ, ◌≤◌, List, [], ◌∷◌, map, arith}
use Rattle.std.specs.Prelude.{All}
use Rattle.std.proofs.lemmas.List.Elements.{All-head, All-tail}
use Rattle.bm_table.specs.declared.setting.FaultRow.{FaultRow}
use Rattle.bm_table.specs.Settings.{IsFaultRow, seconds}
use Rattle.bm_lifetime.specs.Lifetime.{greatest}

pub greatest_within : (most : ℕ) (xs : List ℕ) → All (λ x. x ≤ most) xs → greatest xs ≤ most
greatest_within most [] all = omega arith
greatest_within most (x ∷ xs) all =
    let head = All-head (λ x. x ≤ most) x xs all
    in let rest = greatest_within most xs (All-tail (λ x. x ≤ most) x xs all)
    in omega arith

pub delay_within : (rows : List FaultRow) → All IsFaultRow rows
    → greatest (map (λ row. row.fate.delay) rows) ≤ seconds 60
delay_within [] all = omega arith
delay_within (row ∷ rows) all =
    let head = (All-head IsFaultRow row rows all).delay
    in let rest = delay_within rows (All-tail IsFaultRow row rows all)
    in omega arith

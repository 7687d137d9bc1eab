use Rattle.std.proofs.Common.{◌≡◌, ◌∷◌, [], ◌++◌, List, ℕ}
use Rattle.std.specs.Prelude.{◌≢◌}
use Rattle.std.proofs.lemmas.Bool.{eq-eqb, eqb-true}
use Rattle.std.proofs.lemmas.Slice.Eq.{strip_prefix_is}
use Rattle.bm_check.proofs.Lining.{begins_if}
use Rattle.bm_check.proofs.lines.begins.Goals as goal

pub returns-in-Some : goal.returns-in-Some
returns-in-Some c =
    let stripped =
    strip_prefix_is (λ a b. (eqb-true a b, eq-eqb a b)) c.args.line.now c.args.text.now _ c.strip_prefix.ensures.cases
    in let is : c.args.line.now ≡ c.args.text.now ++ c.in-Some.rest.now = rw c.in-Some.is at stripped
    in begins_if c.args.line.now c.args.text.now c.in-Some.rest.now c.ends_line.result is c.ends_line.ensures

pub returns-in-None : goal.returns-in-None
returns-in-None c =
    let stripped =
    strip_prefix_is (λ a b. (eqb-true a b, eq-eqb a b)) c.args.line.now c.args.text.now _ c.strip_prefix.ensures.cases
    in let none : (rest : List ℕ) → c.args.line.now ≢ c.args.text.now ++ rest = rw c.in-None.is at stripped
    in (λ t. absurd (cc), λ p. absurd (none (p.0 ++ 10 ∷ []) p.1))

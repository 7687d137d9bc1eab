use Rattle.std.proofs.Common.{◌≡◌, ◌+◌, ◌++◌, ℕ, List, arith, length, subst, suc, sym, ap, ◌∙◌}
use Rattle.std.specs.Prelude.{◌≢◌, take}
use Rattle.std.proofs.lemmas.Bool.{eq-eqb, eqb-true}
use Rattle.std.proofs.lemmas.Slice.Eq.{strip_prefix_is}
use Rattle.bm_check.proofs.Differing.{differ_after, differ_within, same_whole}
use Rattle.bm_check.specs.Answers.{DifferAt, IsLeast}
use Rattle.bm_check.specs.Inside.Comparing.{feeds}
use Rattle.bm_check.proofs.compare.first_difference.Goals as goal
use Rattle.bm_check.proofs.compare.first_difference.Goals.{in-Some+else-more-rest, else-more-rest-via-then-more-rest+else-more-second, else-more-rest-via-else-more-rest, in-None}

pub returns-then-more-second-clause-least : goal.returns-then-more-second-clause-least
returns-then-more-second-clause-least c =
    let text = c.args.text.now
    in let first = c.args.first.now
    in let stripped = strip_prefix_is (λ a b. (eqb-true a b, eq-eqb a b)) text first _ c.strip_prefix.ensures.cases
    in let is : text ≡ first ++ c.in-Some.rest.now = rw c.in-Some.is at stripped
    in let same : c.in-Some.rest.now ≡ c.args.second.now =
    same_whole c.in-Some.rest.now c.args.second.now c.common_length-more.result c.if-more-rest.true
    c.if-more-second.true c.common_length-more.ensures.same
    in is ∙ ap (λ (l : List ℕ). first ++ l) same

pub returns-clause-least : goal.returns-clause-least
returns-clause-least c =
    let text = c.args.text.now
    in let first = c.args.first.now
    in let second = c.args.second.now
    in let stripped = strip_prefix_is (λ a b. (eqb-true a b, eq-eqb a b)) text first _ c.strip_prefix.ensures.cases
    in elim c.match-strip_prefix.branch [
      | in-Some+else-more-rest w ↦
          let rest = w.in-Some.rest.now
          in let more = w.common_length-more.result
          in let is : text ≡ first ++ rest = rw w.in-Some.is at stripped
          in let differ : more ≡ length rest → more ≡ length second → ⊥ =
          λ p q. elim w.else-more-rest.branch [
            | else-more-rest-via-then-more-rest+else-more-second v ↦ v.if-more-second.false q
            | else-more-rest-via-else-more-rest v ↦ v.if-more-rest.false p
          ]
          in let count : feeds (take (length first + more) text) ≡ c.line_feeds.result =
          ap (λ (n : ℕ). feeds (take n text)) (sym w.place-is) ∙ sym c.line_feeds.ensures.count
          in let line : suc (feeds (take (length first + more) text)) ≡ c.line_feeds.result + 1 = omega (arith, count)
          in subst (λ (n : ℕ). IsLeast (DifferAt text (first ++ second)) n) line
          (subst (λ (x : List ℕ). IsLeast (DifferAt x (first ++ second)) (suc (feeds (take (length first + more) x))))
          (sym is)
          (differ_after first rest second more differ w.common_length-more.ensures.within_a
          w.common_length-more.ensures.within_b w.common_length-more.ensures.same w.common_length-more.ensures.ends))
      | in-None w ↦
          let place = w.common_length-place.result
          in let none : (rest : List ℕ) → text ≢ first ++ rest = rw w.in-None.is at stripped
          in let count : feeds (take place text) ≡ c.line_feeds.result =
          ap (λ (n : ℕ). feeds (take n text)) (sym w.place-is) ∙ sym c.line_feeds.ensures.count
          in let line : suc (feeds (take place text)) ≡ c.line_feeds.result + 1 = omega (arith, count)
          in subst (λ (n : ℕ). IsLeast (DifferAt text (first ++ second)) n) line
          (differ_within text first second place none w.common_length-place.ensures.within_a
          w.common_length-place.ensures.within_b w.common_length-place.ensures.same w.common_length-place.ensures.ends)
    ]

use Rattle.std.proofs.Common.{◌≡◌, ◌<◌, ◌++◌, ◌∷◌, ◌∙◌, [], ℕ, suc, ◌+◌, List, Vec, Global, length, map, ap, sym, subst}
use Rattle.std.proofs.Common.{take, arith}
use Rattle.std.proofs.lemmas.List.{length-map}
use Rattle.bm_merge.specs.declared.rising.Head.{Head}
use Rattle.bm_merge.specs.Merges.{joined}
use Rattle.bm_merge.specs.Inside.Rising.{AreStanding, lefts}
use Rattle.bm_merge.proofs.Heading.{more_left, more_stand, none_left}
use Rattle.bm_merge.proofs.rising.first_heads.Goals as goal
use Rattle.bm_merge.proofs.rising.first_heads.Goals.{in-Some+in_ok-push, in_default}

pub loop-log-preserved : goal.loop-log-preserved
loop-log-preserved g c =
    let logs = map g.L.EventLog.events c.args.logs.now in
    let at = c.loop-log.log in
    let was = c.loop-log.heads.items in
    let size = length-map c.args.logs.now g.L.EventLog.events in
    let true = c.loop-log-test.true in
    let lt : at < length logs = omega arith in
    let next : at + 1 ≡ suc at = omega arith in
    let inv = c.loop-log.invariant in
    elim c.match-head_at.branch [
      | in-Some+in_ok-push w ↦
          let items : c.match-head_at.heads.items ≡ was ++ w.in-Some.head ∷ [] =
          ap (λ (v : Vec Head Global). v.items) w.heads-is ∙ w.in_ok-push.ensures.items in
          record {
            within = omega arith;
            standing = more_stand logs was c.match-head_at.heads.items w.in-Some.head at c.requires lt inv.standing
                items w.in-Some.ensures;
            all = more_left logs was c.match-head_at.heads.items w.in-Some.head at lt inv.all items w.in-Some.ensures
                ∙ ap (λ (n : ℕ). joined (take n logs)) (sym next);
          }
      | in_default w ↦
          let items = ap (λ (v : Vec Head Global). v.items) w.heads-is in
          record {
            within = omega arith;
            standing = subst (λ (l : List Head). AreStanding logs l) (sym items) inv.standing;
            all = ap (λ (l : List Head). joined (lefts logs l)) items
                ∙ none_left logs was at lt inv.all w.in_default.ensures
                ∙ ap (λ (n : ℕ). joined (take n logs)) (sym next);
          }
    ]

use Rattle.std.proofs.Common.{◌≡◌, ℕ, ◌<◌, true, length, inl, inr, sym, ap, ◌∙◌, arith}
use Rattle.std.proofs.lemmas.Bool.{cases_lt}
use Rattle.bm_table.specs.Tables.{adds, next_change}
use Rattle.bm_world.proofs.KnownServers.{known_by, known_first}
use Rattle.bm_world.proofs.known.is_added.Goals as goal

pub returns-then-adds_after : goal.returns-then-adds_after
returns-then-adds_after c =
    let here : adds (next_change c.args.plan.now c.loop-version.version) c.args.id ≡ true =
    sym c.adds_after.ensures ∙ c.if-adds_after.true
    in let low : c.loop-version.version < c.versions-version-end.result = c.loop-version-test.true
    in let count = c.versions-version-end.ensures.count
    in sym (known_by c.args.plan.now c.args.id (length c.args.plan.now.changes) c.loop-version.version (omega arith)
    here)

pub returns : goal.returns
returns c =
    let count = c.versions-version-end.ensures.count
    in sym (known_first c.args.plan.now c.args.id (length c.args.plan.now.changes)
    (λ v low. c.loop-version.invariant v (omega (arith, c.loop-version-test.false, c.loop-version.auto.version-end)))
    ∙ c.requires)

pub loop-version-preserved : goal.loop-version-preserved
loop-version-preserved c = λ v low. elim (cases_lt v c.loop-version.version) [
  | inl under ↦ c.loop-version.invariant v under
  | inr over ↦
      let same : v ≡ c.loop-version.version = omega arith
      in ap (λ (k : ℕ). adds (next_change c.args.plan.now k) c.args.id) same
      ∙ (sym c.adds_after.ensures ∙ c.if-adds_after.false)
]

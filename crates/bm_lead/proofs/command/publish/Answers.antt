use Rattle.std.proofs.Common.{◌≡◌, ℕ, ◌-◌, ◌≤◌, Option, Some, length, refl, sym, ap, ◌∙◌, subst, arith, [], ◌∷◌}
use Rattle.bm_core.specs.Runs.{next_clock}
use Rattle.bm_table.specs.declared.plan.Change.{Change}
use Rattle.bm_core.specs.declared.events.Stage.{Stage}
use Rattle.bm_table.specs.Tables.{change_moment, next_change}
use Rattle.bm_lead.specs.Inside.Commands.{publishing}
use Rattle.bm_lead.proofs.Calling.{change_early, gets_elsewhere}
use Rattle.bm_lead.proofs.command.publish.Goals as goal

-- the next change of the plan of the stage that was lent
changed : (lent stage : Stage) (v : ℕ) (change : Change) → lent ≡ stage
    → next_change lent.script.plan v ≡ Some change → next_change stage.script.plan v ≡ Some change
changed lent stage v change same is = subst (λ (s : Stage). next_change s.script.plan v ≡ Some change) same is

pub copy_change-requires : goal.copy_change-requires
copy_change-requires g c =
    let most = subst (λ (s : Stage). c.args.version.0 ≤ length s.script.plan.changes) (sym c.stage.ensures.value)
    c.requires.there in
    let next = c.requires.version in (omega (arith, next), most)

pub clock_up_to-requires-clause-cause : goal.clock_up_to-requires-clause-cause
clock_up_to-requires-clause-cause g c =
    let early = change_early c.args.shared.now.stage (c.args.version.0 - 1) c.in_ok-change.change c.stage.ensures.set_up.sound
    (changed c.stage.result.now c.args.shared.now.stage (c.args.version.0 - 1) c.in_ok-change.change
    c.stage.ensures.value c.in_ok-change.ensures) in omega arith

pub returns-clause-ok : goal.returns-clause-ok
returns-clause-ok g c =
    let n = publishing c.in_ok-clock.clock c.args.version c.args.leader.now.next in
    let a = c.args.leader.now in (
      n ∷ [],
      (
        c.in_ok-clock.clock,
        refl,
        c.in_ok-clock.ensures.ok.0 ∙ (ap (λ (k : ℕ). next_clock k c.in_ok-change.change.moment.0) c.latest.ensures
            ∙ ap (λ (o : Option Change). next_clock a.caller.latest (change_moment o)) (sym (changed c.stage.result.now c.args.shared.now.stage
            (c.args.version.0 - 1) c.in_ok-change.change c.stage.ensures.value c.in_ok-change.ensures))),
      ),
      record {
        called = record {
          replies = gets_elsewhere c.args.shared.now.stage c.args.shared.now.servers a.caller.seats c.see.new.self.seats n
              c.see.ensures.seats
              (λ s h. refl);
          same = c.see.ensures.same;
          tries = let e = c.see.ensures.tries in omega arith;
          latest = let e = c.see.ensures.latest in omega arith;
        };
        next = refl;
        log = c.in_ok-write_down.ensures;
        posted = c.in_ok-post.ensures.ok;
        published = refl;
      },
    )

use Rattle.std.proofs.Common.{◌≤◌, length, refl, sym, subst, arith}
use Rattle.bm_base.specs.declared.ids.ServerId.{ServerId}
use Rattle.bm_core.specs.declared.events.Stage.{Stage}
use Rattle.bm_core.specs.Past.{timeout}
use Rattle.bm_table.specs.Tables.{IsRetirement}
use Rattle.bm_worker.proofs.Carrying.{place_inside}
use Rattle.bm_lead.specs.Inside.Steps.{AreRetirings}
use Rattle.bm_lead.proofs.Calling.{has_called, retirings_elsewhere}
use Rattle.bm_lead.proofs.command.retire.Goals as goal

pub retirement-outcome-requires : goal.retirement-outcome-requires
retirement-outcome-requires g c =
    subst (λ (s : Stage). c.args.leader.now.published.0 ≤ length s.script.plan.changes) (sym c.stage.ensures.value)
    c.requires.published

pub retire_shards-requires-clause-place : goal.retire_shards-requires-clause-place
retire_shards-requires-clause-place g c =
    let at = c.known_place-place.ensures in
    place_inside c.args.shared.now.servers c.known_place-place.result at.0 at.1

pub returns-clause-ok : goal.returns-clause-ok
returns-clause-ok g c = λ p.
    let a = c.args.leader.now in
    let due = c.in_ok-due.due in
    let outcome = c.retirement-outcome.result in
    let server = c.known_place-place.ensures.0 in
    let shards = c.args.shared.now.stage.script.setting.shards in
    let made = c.in_ok-retire_shards.ensures.ok a.next server c.known_place-place.ensures.1 in
    let are : AreRetirings a.next c.args.server due outcome shards made.0 =
    subst (λ (s : ServerId). AreRetirings a.next s due outcome shards made.0) c.known_place-place.ensures.2 made.1 in (
      made.0,
      (
        due,
        outcome,
        (let e = c.in_ok-due.ensures.ok.0 in let l = c.latest.ensures in omega arith),
        subst (λ (s : Stage). IsRetirement s.script.plan (timeout s) c.args.leader.now.published.0 c.args.server due.0
            outcome) c.stage.ensures.value c.retirement-outcome.ensures,
        are,
      ),
      has_called c.args.shared.now.stage c.args.shared.now.servers p a (record a { caller = c.retire_shards.new.caller }) made.0
          made.2 (retirings_elsewhere c.args.shared.now.stage a.next shards c.args.server due outcome made.0 are)
          refl refl refl,
    )

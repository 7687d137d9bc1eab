use Rattle.std.proofs.Common.{◌≡◌, ◌∙◌, ◌<◌, ◌≤◌, ℕ, List, length, refl, sym, ap, subst, arith, []}
use Rattle.std.specs.Prelude.{slice_get}
use Rattle.bm_core.specs.declared.events.Stage.{Stage}
use Rattle.bm_core.specs.Stages.{IsSound}
use Rattle.bm_server.specs.Servings.{Serving}
use Rattle.bm_worker.specs.WorkerNotes.{HasSeats}
use Rattle.bm_worker.proofs.CallNotes.{gets_retire}
use Rattle.bm_lead.specs.Inside.Steps.{AreRetirings}
use Rattle.bm_lead.proofs.Calling.{called_up_to, none_called, retired_more, same_caller, sits_kept}
use Rattle.bm_lead.proofs.command.retire_shards.Goals as goal

few_shards : (lent stage : Stage) → lent ≡ stage → IsSound stage → lent.script.setting.shards ≤ 64
few_shards lent stage same sound =
    subst (λ (s : Stage). s.script.setting.shards ≤ 64) (sym same) sound.script.setting.shards.1

pub loop-shard-init : goal.loop-shard-init
loop-shard-init g c = (
  record { number = refl; who_is = refl },
  omega arith,
  λ i server at. ([], refl, none_called c.args.shared.now.stage c.args.shared.now.servers c.args.caller.now),
)

pub retire-requires-clause-has_seats : goal.retire-requires-clause-has_seats
retire-requires-clause-has_seats g c =
    subst (λ (l : List Serving). HasSeats l c.loop-shard.caller) (sym c.servers.ensures.value)
    (sits_kept c.args.shared.now.servers c.args.caller.now c.loop-shard.caller c.requires.can.has_seats
    c.loop-shard.invariant.0)

pub retire-requires-clause-place : goal.retire-requires-clause-place
retire-requires-clause-place g c =
    subst (λ (l : List Serving). c.args.place < length l) (sym c.servers.ensures.value) c.requires.place

pub retire-requires-clause-shard : goal.retire-requires-clause-shard
retire-requires-clause-shard g c server at =
    let set_up = c.stage.ensures.set_up in
    let low : c.loop-shard.shard < c.args.shared.now.stage.script.setting.shards =
    subst (λ (s : Stage). c.loop-shard.shard < s.script.setting.shards) c.stage.ensures.value c.loop-shard-test.true in
    let all = set_up.servers_are.shards c.args.place server
    (ap (λ (l : List Serving). slice_get l c.args.place) (sym c.servers.ensures.value) ∙ at) in
    omega (arith, low, all)

pub retire-requires-clause-few : goal.retire-requires-clause-few
retire-requires-clause-few g c =
    let few = c.loop-shard.invariant.1 in
    let low = c.loop-shard-test.true in
    let all = few_shards c.stage.result.now c.args.shared.now.stage c.stage.ensures.value c.stage.ensures.set_up.sound in
    omega (arith, few, low, all, c.requires.can.few)

pub loop-shard-preserved : goal.loop-shard-preserved
loop-shard-preserved g c =
    let a = c.args.caller.now in
    let b = c.loop-shard.caller in
    let d = c.retire.new.self in
    let was = c.loop-shard.invariant in (
      same_caller a b d was.0 c.in_ok-retire.ensures.same,
      (let more = c.in_ok-retire.ensures.tries in let few = was.1 in omega arith),
      λ i server at.
          let old = was.2 i server at in
          retired_more c.args.shared.now.stage c.args.shared.now.servers i c.loop-shard.shard server c.args.at c.in_ok-retire.field-0
          c.args.outcome a b d old.0 (was.0.number ∙ c.requires.can.number) old.1 old.2
          (gets_retire c.args.shared.now.stage c.args.shared.now.servers c.args.place c.loop-shard.shard i b.number server c.args.at
          c.in_ok-retire.field-0 c.args.outcome b.seats d.seats c.stage.ensures.set_up.servers_are at
          c.in_ok-retire.ensures.call)
          c.in_ok-retire.ensures.same
          c.in_ok-retire.ensures.tries c.in_ok-retire.ensures.latest c.in_ok-retire.ensures.later,
    )

pub returns-clause-ok : goal.returns-clause-ok
returns-clause-ok g c = λ i server at.
    let old = c.loop-shard.invariant.2 i server at in
    let all : c.loop-shard.shard ≡ c.args.shared.now.stage.script.setting.shards =
    (let most = c.loop-shard.auto.shard-end in let least = c.loop-shard-test.false in
    let same : c.stage.result.now.script.setting.shards ≡ c.args.shared.now.stage.script.setting.shards =
    ap (λ (s : Stage). s.script.setting.shards) c.stage.ensures.value in
    omega arith) in
    let few = few_shards c.args.shared.now.stage c.args.shared.now.stage refl c.stage.ensures.set_up.sound in (
      old.0,
      subst (λ (h : ℕ). AreRetirings i server.id c.args.at c.args.outcome h old.0) all old.1,
      called_up_to c.args.shared.now.stage c.args.shared.now.servers c.loop-shard.shard 64 c.args.caller.now c.loop-shard.caller old.0
          (omega (arith, all, few)) old.2,
    )

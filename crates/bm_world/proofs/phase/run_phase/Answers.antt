use Rattle.std.proofs.Common.{◌≡◌, ◌∙◌, ℕ, suc, ◌+◌, ◌-◌, ◌<◌, ◌≤◌, Bool, List, All, length, sym, ap, subst, arith}
use Rattle.std.specs.Prelude.{MatchBool, Ok, IfOk, slice_get}
use Rattle.std.proofs.lemmas.List.{length-map}
use Rattle.bm_fault.specs.Faults.{Gives}
use Rattle.bm_table.specs.declared.script.Command.{Command}
use Rattle.bm_core.specs.declared.events.Stage.{Stage}
use Rattle.bm_core.specs.Stages.{IsSound}
use Rattle.bm_core.specs.Threads.{phase_of}
use Rattle.bm_lead.specs.Leaders.{IsPhase, IsSyncCommand}
use Rattle.bm_lead.specs.Leads.{HasLed}
use Rattle.bm_worker.specs.Phases.{CanWork}
use Rattle.bm_worker.specs.declared.span.Span.{Span}
use Rattle.bm_worker.specs.declared.worker.MuxWorker.{MuxWorker}
use Rattle.bm_world.specs.declared.phase.Next.{Next}
use Rattle.bm_world.specs.Inside.RunStates.{left_of, with_posts, HasMet, HaveNotStopped, IsLate, IsNext}
use Rattle.bm_world.specs.Inside.Running.{IsAtPhase}
use Rattle.bm_world.proofs.Phased.{if_ok_more, led_if_ok, met_fewer, met_next, on_ok, phase_meets, worked_at}
use Rattle.bm_world.proofs.Stopping.{gives_up}
use Rattle.bm_world.proofs.BeforePhase.{can_work}
use Rattle.bm_world.proofs.phase.run_phase.Goals as goal

pub sync_place-place-requires : goal.sync_place-place-requires
sync_place-place-requires g c =
    subst (λ (l : List Command). c.args.leader.now.next ≤ length l)
    (sym (c.items.ensures ∙ ap (λ (s : Stage). s.script.commands) c.stage-stage.ensures.value))
    c.requires.between.standing.ready.next

pub records_end-until-requires-clause-sound : goal.records_end-until-requires-clause-sound
records_end-until-requires-clause-sound g c =
    subst (λ (s : Stage). IsSound s) (sym c.stage-stage.ensures.value) c.stage-stage.ensures.set_up.sound

pub records_end-until-requires-clause-sync : goal.records_end-until-requires-clause-sync
records_end-until-requires-clause-sync g c =
    subst (λ (l : List Command). c.sync_place-place.result < length l
    → IsSyncCommand (slice_get l c.sync_place-place.result)) c.items.ensures c.sync_place-place.ensures.sync

pub records_end-until-requires-clause-within : goal.records_end-until-requires-clause-within
records_end-until-requires-clause-within g c =
    subst (λ (s : Stage). c.args.start ≤ length s.capture.records) (sym c.stage-stage.ensures.value)
    c.requires.between.within

pub work_beside-led-requires-clause-phase : goal.work_beside-led-requires-clause-phase
work_beside-led-requires-clause-phase g c κs within =
    subst (λ (l : List Command). IsPhase l c.args.leader.now.next c.sync_place-place.result)
    (c.items.ensures ∙ ap (λ (s : Stage). s.script.commands) c.stage-stage.ensures.value)
    c.sync_place-place.ensures.phase

pub meet-requires-clause-sound : goal.meet-requires-clause-sound
meet-requires-clause-sound g c =
    subst (λ (s : Stage). IsSound s) (sym c.stage-stage.ensures.value) c.stage-stage.ensures.set_up.sound

pub meet-requires-clause-sync : goal.meet-requires-clause-sync
meet-requires-clause-sync g c =
    let now = c.work_beside-led.new.workers in
    let done : (c.work_beside-led.result ≡ Ok tt) × HaveNotStopped now =
    subst (λ (x : Bool). MatchBool x (IsLate c.work_beside-led.result now)
    ((c.work_beside-led.result ≡ Ok tt) × HaveNotStopped now)) c.if-branch.false c.in_ok-is_late.ensures in
    let at = on_ok c.work_beside-led.result (c.work_beside-led.new.leader.next ≡ c.sync_place-place.result) done.0
    c.work_beside-led.ensures.next in
    subst (λ (n : ℕ). n < length c.stage-stage.result.now.script.commands
    → IsSyncCommand (slice_get c.stage-stage.result.now.script.commands n)) (sym at)
    (subst (λ (l : List Command). c.sync_place-place.result < length l
    → IsSyncCommand (slice_get l c.sync_place-place.result)) c.items.ensures c.sync_place-place.ensures.sync)

pub work_beside-led-requires-clause-can : goal.work_beside-led-requires-clause-can
work_beside-led-requires-clause-can g c κs within =
    let shared = c.args.shared.now in
    let span : Span = record { from = c.args.start; until = c.records_end-until.result; after = c.latest.result } in
    let order = subst (λ (s : Stage). (c.args.start ≤ c.records_end-until.result)
    × (c.records_end-until.result ≤ length s.capture.records)) c.stage-stage.ensures.value
    c.records_end-until.ensures.order in
    subst (λ (l : List MuxWorker). All (CanWork shared.stage shared.servers shared.routes span) l)
    (sym c.give_snapshots.ensures)
    (can_work (Gives g.F.Fn shared.rule) shared.stage shared.servers shared.routes
    c.args.poster.now c.args.leader.now c.args.workers.now span c.stage-stage.ensures.set_up.sound c.requires.between c.latest.ensures
    order.0 order.1)

pub returns-then-branch-clause-next : goal.returns-then-branch-clause-next
returns-then-branch-clause-next g c =
    let shared = c.args.shared.now in
    let span : Span = record { from = c.args.start; until = c.records_end-until.result; after = c.latest.result } in
    let order = subst (λ (s : Stage). (c.args.start ≤ c.records_end-until.result)
    × (c.records_end-until.result ≤ length s.capture.records)) c.stage-stage.ensures.value
    c.records_end-until.ensures.order in
    let F = Gives g.F.Fn shared.rule in
    let now = c.work_beside-led.new.workers in
    let informed = ap (λ (l : List MuxWorker). length l) c.give_snapshots.ensures in
    let size = length-map c.args.workers.now (with_posts c.args.poster.now) in
    gives_up F shared.stage shared.servers shared.routes c.args.poster.now c.work_beside-led.new.poster
    c.args.leader.now c.work_beside-led.new.leader c.args.workers.now now span c.work_beside-led.result
    c.stage-stage.ensures.set_up.sound c.stage-stage.ensures.set_up.steerable c.requires.between c.latest.ensures order.0 order.1
    c.work_beside-led.ensures.led c.work_beside-led.ensures.stop
    (c.work_beside-led.ensures.count ∙ informed ∙ size)
    (worked_at F shared.stage shared.servers shared.routes span c.args.poster.now c.args.workers.now
    c.give_snapshots.new.workers now c.give_snapshots.ensures c.work_beside-led.ensures.worked)
    (subst (λ (b : Bool). MatchBool b (IsLate c.work_beside-led.result now)
    ((c.work_beside-led.result ≡ Ok tt) × HaveNotStopped now)) c.if-branch.true c.in_ok-is_late.ensures)

pub returns-clause-next : goal.returns-clause-next
returns-clause-next g c =
    let shared = c.args.shared.now in
    let stage = shared.stage in
    let same = c.stage-stage.ensures.value in
    let start = c.args.start in
    let until = c.records_end-until.result in
    let place = c.sync_place-place.result in
    let span : Span = record { from = start; until = until; after = c.latest.result } in
    let ends = c.records_end-until.ensures in
    let order = subst (λ (s : Stage). (start ≤ until) × (until ≤ length s.capture.records)) same ends.order in
    let last = subst (λ (s : Stage). length s.script.commands ≤ place → until ≡ length s.capture.records) same
    ends.last in
    let numbers = subst (λ (s : Stage). (next p k : ℕ) → IsPhase s.script.commands next place
    → IsAtPhase s next p start → start < k → k ≤ until → phase_of s k ≡ p) same ends.numbers in
    let after = subst (λ (s : Stage). (next p : ℕ) → IsPhase s.script.commands next place → IsAtPhase s next p start
    → place < length s.script.commands → IsAtPhase s (place + 1) (p + 1) until) same ends.next in
    let met = subst (λ (s : Stage). IfOk c.meet.result (HasMet s c.work_beside-led.new.leader c.meet.new.leader
    c.work_beside-led.new.workers until)) same c.meet.ensures in
    let F = Gives g.F.Fn shared.rule in
    let old = c.args.workers.now in
    let now = c.work_beside-led.new.workers in
    let b = c.work_beside-led.new.leader in
    let q = c.work_beside-led.new.poster in
    let informed = ap (λ (l : List MuxWorker). length l) c.give_snapshots.ensures in
    let size = length-map old (with_posts c.args.poster.now) in
    let phase : IsPhase stage.script.commands c.args.leader.now.next place =
    subst (λ (l : List Command). IsPhase l c.args.leader.now.next place) (c.items.ensures
    ∙ ap (λ (s : Stage). s.script.commands) c.stage-stage.ensures.value) c.sync_place-place.ensures.phase in
    let done : (c.work_beside-led.result ≡ Ok tt) × HaveNotStopped now =
    subst (λ (x : Bool). MatchBool x (IsLate c.work_beside-led.result now)
    ((c.work_beside-led.result ≡ Ok tt) × HaveNotStopped now)) c.if-branch.false c.in_ok-is_late.ensures in
    let at = on_ok c.work_beside-led.result (b.next ≡ place) done.0 c.work_beside-led.ensures.next in
    let meeting = phase_meets F stage shared.servers shared.routes c.args.poster.now q c.args.leader.now b old now
    span place c.stage-stage.ensures.set_up.sound c.stage-stage.ensures.set_up.servers_are c.stage-stage.ensures.set_up.steerable c.requires.between c.latest.ensures
    order.0 order.1
    (λ k low high. numbers c.args.leader.now.next c.requires.between.p k phase c.requires.between.at_phase low high)
    last (after c.args.leader.now.next c.requires.between.p phase c.requires.between.at_phase)
    (led_if_ok c.work_beside-led.result (HasLed stage shared.servers c.args.poster.now q c.args.leader.now b) done.0
    c.work_beside-led.ensures.led) at (c.work_beside-led.ensures.count ∙ informed ∙ size) done.1
    (worked_at F stage shared.servers shared.routes span c.args.poster.now old
    c.give_snapshots.new.workers now c.give_snapshots.ensures c.work_beside-led.ensures.worked) in
    if_ok_more (HasMet stage b c.meet.new.leader now until)
    (IsNext F stage shared.servers shared.routes q c.meet.new.leader now) c.meet.result
    (λ next met. met_next F stage shared.servers shared.routes q b c.meet.new.leader now until next meeting met)
    met

pub returns-clause-fewer : goal.returns-clause-fewer
returns-clause-fewer g c =
    let shared = c.args.shared.now in
    let stage = shared.stage in
    let same = c.stage-stage.ensures.value in
    let start = c.args.start in
    let until = c.records_end-until.result in
    let place = c.sync_place-place.result in
    let span : Span = record { from = start; until = until; after = c.latest.result } in
    let ends = c.records_end-until.ensures in
    let order = subst (λ (s : Stage). (start ≤ until) × (until ≤ length s.capture.records)) same ends.order in
    let last = subst (λ (s : Stage). length s.script.commands ≤ place → until ≡ length s.capture.records) same
    ends.last in
    let numbers = subst (λ (s : Stage). (next p k : ℕ) → IsPhase s.script.commands next place
    → IsAtPhase s next p start → start < k → k ≤ until → phase_of s k ≡ p) same ends.numbers in
    let after = subst (λ (s : Stage). (next p : ℕ) → IsPhase s.script.commands next place → IsAtPhase s next p start
    → place < length s.script.commands → IsAtPhase s (place + 1) (p + 1) until) same ends.next in
    let met = subst (λ (s : Stage). IfOk c.meet.result (HasMet s c.work_beside-led.new.leader c.meet.new.leader
    c.work_beside-led.new.workers until)) same c.meet.ensures in
    let F = Gives g.F.Fn shared.rule in
    let old = c.args.workers.now in
    let now = c.work_beside-led.new.workers in
    let b = c.work_beside-led.new.leader in
    let q = c.work_beside-led.new.poster in
    let informed = ap (λ (l : List MuxWorker). length l) c.give_snapshots.ensures in
    let size = length-map old (with_posts c.args.poster.now) in
    let phase : IsPhase stage.script.commands c.args.leader.now.next place =
    subst (λ (l : List Command). IsPhase l c.args.leader.now.next place) (c.items.ensures
    ∙ ap (λ (s : Stage). s.script.commands) c.stage-stage.ensures.value) c.sync_place-place.ensures.phase in
    let done : (c.work_beside-led.result ≡ Ok tt) × HaveNotStopped now =
    subst (λ (x : Bool). MatchBool x (IsLate c.work_beside-led.result now)
    ((c.work_beside-led.result ≡ Ok tt) × HaveNotStopped now)) c.if-branch.false c.in_ok-is_late.ensures in
    let at = on_ok c.work_beside-led.result (b.next ≡ place) done.0 c.work_beside-led.ensures.next in
    let meeting = phase_meets F stage shared.servers shared.routes c.args.poster.now q c.args.leader.now b old now
    span place c.stage-stage.ensures.set_up.sound c.stage-stage.ensures.set_up.servers_are c.stage-stage.ensures.set_up.steerable c.requires.between c.latest.ensures
    order.0 order.1
    (λ k low high. numbers c.args.leader.now.next c.requires.between.p k phase c.requires.between.at_phase low high)
    last (after c.args.leader.now.next c.requires.between.p phase c.requires.between.at_phase)
    (led_if_ok c.work_beside-led.result (HasLed stage shared.servers c.args.poster.now q c.args.leader.now b) done.0
    c.work_beside-led.ensures.led) at (c.work_beside-led.ensures.count ∙ informed ∙ size) done.1
    (worked_at F stage shared.servers shared.routes span c.args.poster.now old
    c.give_snapshots.new.workers now c.give_snapshots.ensures c.work_beside-led.ensures.worked) in
    let low = phase.order in
    if_ok_more (HasMet stage b c.meet.new.leader now until)
    (λ (next : Next). left_of next c.meet.new.leader.next (length stage.script.commands)
    < suc (length stage.script.commands - c.args.leader.now.next)) c.meet.result
    (λ next met. met_fewer F stage shared.servers shared.routes q b c.meet.new.leader now until
    c.args.leader.now.next next meeting met (omega arith))
    met

use Rattle.std.proofs.Common.{◌≡◌, ◌∙◌, ℕ, ◌++◌, ◌∷◌, List, take, drop, length, map, sym, ap, subst, arith}
use Rattle.std.specs.Prelude.{All, slice_get}
use Rattle.std.proofs.lemmas.List.{length-map}
use Rattle.bm_table.proofs.Gets.{given_back}
use Rattle.bm_core.specs.declared.events.Stage.{Stage}
use Rattle.bm_fault.specs.Faults.{Gives}
use Rattle.bm_mux.specs.Muxes.{HasServers}
use Rattle.bm_publish.specs.Posts.{Posted}
use Rattle.bm_rows.specs.Rows.{items_of}
use Rattle.bm_rows.proofs.Places.{first_removed}
use Rattle.bm_worker.specs.declared.worker.MuxWorker.{MuxWorker}
use Rattle.bm_world.specs.Inside.RunStates.{rows_of}
use Rattle.bm_world.proofs.Backed.{boards}
use Rattle.bm_world.proofs.Making.{looks_may, no_turns, row_after}
use Rattle.bm_world.proofs.Starting.{starts_with}
use Rattle.bm_world.proofs.threads.run_on_board.Goals as goal

pub new-requires : goal.new-requires
new-requires g c =
    let split = first_removed c.args.rows.items c.remove-first.new.self.items c.remove-first.result
    (omega (arith, c.requires.count)) c.remove-first.ensures.value c.remove-first.ensures.items in
    (row_after c.args.shared.now.servers c.remove-first.result.items (items_of c.remove-first.new.self.items)
    (items_of c.args.rows.items) (ap items_of split) c.requires.rows).0.turns

pub make_workers-requires-clause-looks : goal.make_workers-requires-clause-looks
make_workers-requires-clause-looks g c =
    subst (λ (s : Stage). All (λ (look : Posted). (s.script.setting.buckets ≡ look.plan.buckets)
    × HasServers look.plan) c.args.looks.items) (sym c.stage-stage.ensures.value)
    (looks_may c.args.shared.now.stage c.args.poster.now c.args.looks.items c.stage-stage.ensures.set_up.sound
    c.requires.board.0 c.requires.looks)

pub make_workers-requires-clause-rows : goal.make_workers-requires-clause-rows
make_workers-requires-clause-rows g c =
    let split = first_removed c.args.rows.items c.remove-first.new.self.items c.remove-first.result
    (omega (arith, c.requires.count)) c.remove-first.ensures.value c.remove-first.ensures.items in
    no_turns c.args.shared.now.servers (items_of c.remove-first.new.self.items)
    (row_after c.args.shared.now.servers c.remove-first.result.items (items_of c.remove-first.new.self.items)
    (items_of c.args.rows.items) (ap items_of split) c.requires.rows).1

pub run_phases-requires-clause-first : goal.run_phases-requires-clause-first
run_phases-requires-clause-first g c κs within =
    let split = first_removed c.args.rows.items c.remove-first.new.self.items c.remove-first.result
    (omega (arith, c.requires.count)) c.remove-first.ensures.value c.remove-first.ensures.items in
    let shared = c.args.shared.now in
    let stage = shared.stage in
    let servers = shared.servers in
    let posted = c.args.poster.now in
    let leader = c.new-leader.result in
    let others = items_of c.remove-first.new.self.items in
    let rows = row_after servers c.remove-first.result.items others (items_of c.args.rows.items)
    (ap items_of split) c.requires.rows in
    let workers = c.as_mut_slice.result.now in
    let value : workers ≡ c.in_ok-workers.workers.items = c.as_mut_slice.ensures.value in
    let all = ap (λ (l : List MuxWorker). length l) value in
    let size = length-map c.remove-first.new.self.items (λ row. row.items) in
    let made = c.in_ok-workers.ensures.count in
    let count = c.requires.count in
    let longer = ap (λ l. length l) split in
    starts_with (Gives g.F.Fn shared.rule) stage servers shared.routes posted c.new.result leader
    c.remove-first.result.items others c.args.looks.items workers c.stage-stage.ensures.set_up.sound c.requires.board.0
    c.requires.board.1 c.new.ensures c.new-leader.ensures.caller c.new-leader.ensures.next c.new-leader.ensures.published
    (λ begins. c.new-leader.ensures.ready stage servers posted c.stage-stage.ensures.set_up.sound begins)
    (λ begins. c.new-leader.ensures.led stage servers posted begins)
    rows.0 rows.1 c.requires.looks c.requires.muxes (omega arith) (omega arith)
    (λ m look seats w a b here. c.in_ok-workers.ensures.each m look seats w a b
    (ap (λ (l : List MuxWorker). slice_get l m) (sym value) ∙ here))

back : (old now : List MuxWorker) (n : ℕ) (lent : List MuxWorker) → lent ≡ old → length now ≡ length lent
    → n ≡ length old → take n (now ++ drop (length now) old) ≡ now
back old now n lent value count size = given_back old now n (count ∙ ap (λ (l : List MuxWorker). length l) value) size

pub take_apart-requires : goal.take_apart-requires
take_apart-requires g c =
    let shared = c.args.shared.now in
    let now = c.run_phases.new.workers in
    let same = back c.in_ok-workers.workers.items now c.in_ok-workers.workers.len c.as_mut_slice.result.now
    c.as_mut_slice.ensures.value c.run_phases.ensures.count c.in_ok-workers.workers.ok.0 in
    record {
      boards = λ m w here. boards (Gives g.F.Fn shared.rule) shared.stage shared.servers shared.routes
          c.in_ok-late.late c.run_phases.new.poster c.run_phases.new.leader now c.in_ok-late.ensures.late m w
          (ap (λ (l : List MuxWorker). slice_get l m) (sym same) ∙ here);
    }

pub returns : goal.returns
returns g c =
    let now = c.run_phases.new.workers in
    let same = back c.in_ok-workers.workers.items now c.in_ok-workers.workers.len c.as_mut_slice.result.now
    c.as_mut_slice.ensures.value c.run_phases.ensures.count c.in_ok-workers.workers.ok.0 in
    let leader = c.run_phases.new.leader in
    record {
      posted = c.run_phases.new.poster;
      leader = leader;
      workers = now;
      stood = c.in_ok-late.ensures.late;
      logs_are = c.in_ok-logs.ensures.logs
          ∙ ap (λ (l : List MuxWorker). leader.log.items ∷ map (λ (w : MuxWorker). w.mux.log) l) same;
      rows_are = c.in_ok-logs.ensures.rows ∙ ap (λ (l : List MuxWorker). rows_of leader.caller.seats l) same;
      shown = λ m w here. c.in_ok-logs.ensures.shown m w (ap (λ (l : List MuxWorker). slice_get l m) same ∙ here);
    }

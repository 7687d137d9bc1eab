use Rattle.std.proofs.Common.{◌≡◌, ◌∙◌, ℕ, suc, ◌+◌, ◌++◌, Bool, List, Option, Some, length, sym, ap, subst, arith}
use Rattle.std.specs.Prelude.{slice_get, true}
use Rattle.std.proofs.lemmas.List.{length-map}
use Rattle.std.proofs.lemmas.Result.{IfOk-weaker}
use denote.Param.Members.{Shared}
use Rattle.bm_base.specs.declared.fate.Fate.{Fate}
use Rattle.bm_base.specs.declared.ids.MuxId.{MuxId}
use Rattle.bm_base.specs.declared.label.Hop.{Hop}
use Rattle.bm_base.specs.declared.ids.ServerId.{ServerId}
use Rattle.bm_table.specs.Settings.{IsWithin, RiseFrom}
use Rattle.bm_table.specs.Tables.{is_among, is_known}
use Rattle.bm_core.specs.declared.events.Event.{Event}
use Rattle.bm_core.specs.declared.events.Stage.{Stage}
use Rattle.bm_core.specs.Accounts.{Rules}
use Rattle.bm_shard.specs.Books.{Book}
use Rattle.bm_fault.specs.Faults.{Gives, IsRule}
use Rattle.bm_server.specs.Seats.{Seated}
use Rattle.bm_server.specs.Servings.{Serving}
use Rattle.bm_worker.specs.Environments.{Environment, In, IsRunnable}
use Rattle.bm_world.specs.Inside.RunStates.{rows_of, IsBack}
use Rattle.bm_world.specs.Inside.Logged.{books_logs}
use Rattle.bm_world.specs.Inside.Served.{AreBooksThere, IsNewRow}
use Rattle.bm_world.proofs.Backed.{row_has_seats, rows_long, sitting, Stood}
use Rattle.bm_world.proofs.Late.{none_late}
use Rattle.bm_world.proofs.Making.{servers_made}
use Rattle.bm_world.proofs.Through.{merge_to_run}
use Rattle.bm_world.proofs.threads.run_stage.Goals as goal

-- what the workers give back, where they were lent all servers and all routes
back_of : (F : Rules) (stage : Stage) (lent servers : List Serving) (shown routes : List (Option MuxId)) (late : Bool)
    (logs : List (List Event)) (rows : List (List (List Seated))) → shown ≡ routes → lent ≡ servers
    → IsBack F stage lent shown late logs rows → IsBack F stage servers routes late logs rows
back_of F stage lent servers shown routes late logs rows same all back =
    subst (λ (l : List Serving). IsBack F stage l routes late logs rows) all
    (subst (λ (l : List (Option MuxId)). IsBack F stage lent l late logs rows) same back)

-- the same of what an environment is
given_back : {F : Type 0} (g : Shared F (ℕ × (Hop × Unit {0})) Fate) (x y : Environment F) (late : Bool)
    (logs : List (List Event)) (rows : List (List (List Seated))) → x ≡ y → In g x IsBack x.routes late logs rows
    → In g y IsBack y.routes late logs rows
given_back g x y late logs rows same back =
    subst (λ (z : Environment _). In g z IsBack z.routes late logs rows) same back

pub run_workers-back-requires-clause-rule : goal.run_workers-back-requires-clause-rule
run_workers-back-requires-clause-rule g c κs within =
    subst (λ (x : Environment _). IsRule g.F.Fn x.rule) (sym c.new-shared.ensures) c.requires.faults

pub run_workers-back-requires-clause-count : goal.run_workers-back-requires-clause-count
run_workers-back-requires-clause-count g c κs within =
    subst (λ (x : Environment _). length c.in_ok-servers.rows.items ≡ x.stage.script.setting.muxes + 1)
    (sym c.new-shared.ensures) c.in_ok-servers.ensures.count

pub run_workers-back-requires-clause-rows : goal.run_workers-back-requires-clause-rows
run_workers-back-requires-clause-rows g c κs within = λ w seats here.
    subst (λ (x : Environment _). IsNewRow x.servers w seats) (sym c.new-shared.ensures)
    (subst (λ (l : List Serving). IsNewRow l w seats) (sym c.as_slice-3.ensures.value)
    (c.in_ok-servers.ensures.each_row w seats here))

pub new-shared-requires : goal.new-shared-requires
new-shared-requires g c =
    let stage = c.args.stage.now in
    let ids = c.as_slice.result.now in
    let servers_are = servers_made stage c.in_ok-servers.servers.items ids (stage.script.setting.muxes + 1) c.requires.sound
    (subst (λ (l : List ServerId). RiseFrom 1 l) (sym c.as_slice.ensures.value) c.in_ok-ids.ensures.rise)
    (subst (λ (l : List ServerId). (id : ServerId) → IsWithin 1 1024 id.0
    → is_known stage.script.plan (length stage.script.plan.changes) id ≡ true → is_among l id ≡ true)
    (sym c.as_slice.ensures.value) c.in_ok-ids.ensures.known)
    c.in_ok-servers.ensures.servers c.in_ok-servers.ensures.each_server in
    subst (λ (l : List Serving). IsRunnable stage c.args.octets c.as_slice-2.result.now l)
    (sym c.as_slice-3.ensures.value)
    (subst (λ (l : List (Option MuxId)). IsRunnable stage c.args.octets l c.in_ok-servers.servers.items)
    (sym c.as_slice-2.ensures.value) (record {
      sound = c.requires.sound;
      packets = c.requires.packets;
      servers_are = servers_are;
      count = c.requires.count;
      steerable = c.requires.routed.steerable;
    }))

pub finish_all-requires-clause-count : goal.finish_all-requires-clause-count
finish_all-requires-clause-count g c = λ s server here.
    let stage = c.args.stage.now in
    let servers = c.as_slice-3.result.now in
    let late = c.in_ok-late.field-0.late in
    let back = given_back g.F.Fn c.new-shared.result _ late _ _ c.new-shared.ensures c.in_ok-late.ensures in
    let F = Gives g.F.Fn c.args.faults.now.rule in
    let has_seats = sitting F stage servers c.as_slice-2.result.now late back.posted back.leader back.workers back.stood in
    let long = rows_long stage servers back.leader.caller back.workers has_seats in
    let size = length-map c.in_ok-late.field-0.rows.items (λ row. row.items) in
    let rows = ap (λ (l : List (List (List Seated))). length l) back.rows_are in
    let seats = (c.in_ok-servers.ensures.each_server s server here).seats in
    omega arith

pub finish_all-requires-clause-each : goal.finish_all-requires-clause-each
finish_all-requires-clause-each g c = λ w seats here.
    let stage = c.args.stage.now in
    let late = c.in_ok-late.field-0.late in
    let F = Gives g.F.Fn c.args.faults.now.rule in
    let servers = c.in_ok-servers.servers.items in
    let back = back_of F stage _ servers _ c.args.routes.items late _ _ c.as_slice-2.ensures.value
    c.as_slice-3.ensures.value (given_back g.F.Fn c.new-shared.result _ late _ _ c.new-shared.ensures
    c.in_ok-late.ensures) in
    let has_seats = sitting F stage servers c.args.routes.items late back.posted back.leader back.workers back.stood in
    row_has_seats stage servers back.leader.caller back.workers has_seats w seats
    (ap (λ (l : List (List (List Seated))). slice_get l w) (sym back.rows_are) ∙ here)

pub unreachable-requires : goal.unreachable-requires
unreachable-requires g c =
    let stage = c.args.stage.now in
    let late = c.in_ok-late.field-0.late in
    let F = Gives g.F.Fn c.args.faults.now.rule in
    let servers = c.in_ok-servers.servers.items in
    let ids = c.as_slice.result.now in
    let servers_are = servers_made stage servers ids (stage.script.setting.muxes + 1) c.requires.sound
    (subst (λ (l : List ServerId). RiseFrom 1 l) (sym c.as_slice.ensures.value) c.in_ok-ids.ensures.rise)
    (subst (λ (l : List ServerId). (id : ServerId) → IsWithin 1 1024 id.0
    → is_known stage.script.plan (length stage.script.plan.changes) id ≡ true → is_among l id ≡ true)
    (sym c.as_slice.ensures.value) c.in_ok-ids.ensures.known)
    c.in_ok-servers.ensures.servers c.in_ok-servers.ensures.each_server in
    let back = back_of F stage _ servers _ c.args.routes.items late _ _ c.as_slice-2.ensures.value
    c.as_slice-3.ensures.value (given_back g.F.Fn c.new-shared.result _ late _ _ c.new-shared.ensures
    c.in_ok-late.ensures) in
    let has_seats = sitting F stage servers c.args.routes.items late back.posted back.leader back.workers back.stood in
    let seats : (s : ℕ) (server : Serving) → slice_get servers s ≡ Some server
    → server.seats ≡ suc (length back.workers) =
    λ s server here.
    let one = (c.in_ok-servers.ensures.each_server s server here).seats in let muxes = has_seats.muxes in omega arith in
    let books : (s : ℕ) (books : List Book) → slice_get c.in_ok-books.books.items s ≡ Some books
    → AreBooksThere servers (rows_of back.leader.caller.seats back.workers) s books =
    λ s books here. subst (λ (x : List (List (List Seated))). AreBooksThere servers x s books) back.rows_are
    (c.in_ok-books.ensures.books s books here) in
    let given = subst (λ (b : Bool). Stood F stage servers c.args.routes.items b back.posted back.leader back.workers)
    c.if-late.true back.stood in
    none_late F stage servers c.args.routes.items back.posted back.leader back.workers c.in_ok-books.books.items c.requires.sound servers_are
    seats c.requires.faults.delay given back.shown c.in_ok-books.ensures.count books

pub returns : goal.returns
returns g c =
    let stage = c.args.stage.now in
    let late = c.in_ok-late.field-0.late in
    let F = Gives g.F.Fn c.args.faults.now.rule in
    let servers = c.in_ok-servers.servers.items in
    let ids = c.as_slice.result.now in
    let servers_are = servers_made stage servers ids (stage.script.setting.muxes + 1) c.requires.sound
    (subst (λ (l : List ServerId). RiseFrom 1 l) (sym c.as_slice.ensures.value) c.in_ok-ids.ensures.rise)
    (subst (λ (l : List ServerId). (id : ServerId) → IsWithin 1 1024 id.0
    → is_known stage.script.plan (length stage.script.plan.changes) id ≡ true → is_among l id ≡ true)
    (sym c.as_slice.ensures.value) c.in_ok-ids.ensures.known)
    c.in_ok-servers.ensures.servers c.in_ok-servers.ensures.each_server in
    let back = back_of F stage _ servers _ c.args.routes.items late _ _ c.as_slice-2.ensures.value
    c.as_slice-3.ensures.value (given_back g.F.Fn c.new-shared.result _ late _ _ c.new-shared.ensures
    c.in_ok-late.ensures) in
    let has_seats = sitting F stage servers c.args.routes.items late back.posted back.leader back.workers back.stood in
    let seats : (s : ℕ) (server : Serving) → slice_get servers s ≡ Some server
    → server.seats ≡ suc (length back.workers) =
    λ s server here.
    let one = (c.in_ok-servers.ensures.each_server s server here).seats in let muxes = has_seats.muxes in omega arith in
    let books : (s : ℕ) (books : List Book) → slice_get c.in_ok-books.books.items s ≡ Some books
    → AreBooksThere servers (rows_of back.leader.caller.seats back.workers) s books =
    λ s books here. subst (λ (x : List (List (List Seated))). AreBooksThere servers x s books) back.rows_are
    (c.in_ok-books.ensures.books s books here) in
    let through = subst (λ (b : Bool). Stood F stage servers c.args.routes.items b back.posted back.leader back.workers)
    c.if-late.false back.stood in
    let all = c.in_ok-books.books.items in
    let lists = c.in_ok-late.field-0.logs.items ++ books_logs all in
    let merged = merge_to_run F stage servers c.args.routes.items back.posted back.leader back.workers all lists
    c.requires.sound servers_are seats c.requires.routed back.shown through c.in_ok-books.ensures.count books
    (ap (λ (l : List (List Event)). l ++ books_logs all) back.logs_are) in
    IfOk-weaker c.merge_beside.result _ _ (λ events is h about made. merged h about (made ∙ is)) c.merge_beside.ensures

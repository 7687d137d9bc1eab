use Rattle.std.proofs.Common.{◌≡◌, ◌<◌, sym, ◌∙◌, ap, subst, arith, ◌∷◌, ◌++◌, [], List, length}
use Rattle.std.specs.List.{AllByRecursion}
use Rattle.bm_base.specs.declared.ids.ServerId.{ServerId}
use Rattle.bm_base.specs.Tags.{IsServer}
use Rattle.bm_table.specs.declared.plan.Change.{Change}
use Rattle.bm_table.specs.declared.plan.Kind.TheVariants.{Shift}
use Rattle.bm_table.specs.declared.plan.Move.{Move}
use Rattle.bm_table.specs.Planned.{Planned}
use Rattle.bm_mux.proofs.NamedServers.{ToServers, named_servers}
use Rattle.bm_thread_tests.proofs.plans.one_move.Goals as goal

pub returns-in-Ok-clause-servers : goal.returns-in-Ok-clause-servers
returns-in-Ok-clause-servers c =
    let new = c.push.new.self in
    let ok = c.in-Ok.ensures.ok in
    let is = c.in_ok-plan.ensures in
    let opening : new.servers ≡ record { 0 = 1 } ∷ record { 0 = 2 } ∷ [] =
    ap (λ (p : Planned). p.servers) ok ∙ (ap (λ (p : Planned). p.servers) is ∙ c.as_slice.ensures) in
    let moves : c.of.result ≡ record { bucket = 4; to = record { 0 = 2 } } ∷ [] =
    c.of.ensures ∙ c.in_ok-vec.ensures.items in
    let change : Change = record { moment = record { 0 = 500 }; kind = Shift; moves = c.of.result } in
    let changes : new.changes ≡ change ∷ [] =
    ap (λ (p : Planned). p.changes) ok
    ∙ ap (λ (l : List Change). l ++ change ∷ []) (ap (λ (p : Planned). p.changes) is) in
    let some : 0 < length new.servers = subst (λ (l : List ServerId). 0 < length l) (sym opening) (omega arith) in
    let servers : AllByRecursion IsServer new.servers =
    subst (AllByRecursion IsServer) (sym opening) ((omega arith, omega arith), ((omega arith, omega arith), tt)) in
    let to : AllByRecursion (λ (m : Move). IsServer m.to) c.of.result =
    subst (AllByRecursion (λ (m : Move). IsServer m.to)) (sym moves) ((omega arith, omega arith), tt) in
    named_servers new some servers (subst (AllByRecursion ToServers) (sym changes) (to, tt))

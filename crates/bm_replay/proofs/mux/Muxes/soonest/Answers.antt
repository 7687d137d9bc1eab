use Rattle.std.proofs.Common.{◌≡◌, ℕ, suc, ◌+◌, ◌<◌, [], List, length, get_or, sym, ap, ◌∙◌, subst, arith}
use Rattle.std.proofs.lemmas.List.{get_or_default}
use Rattle.bm_core.specs.Schedule.{least}
use Rattle.bm_table.specs.Tables.{next_change}
use Rattle.bm_replay.specs.declared.mux.Mux.{Mux}
use Rattle.bm_replay.specs.Inside.Muxes.{switch_after, switches_of, version_in}
use Rattle.bm_replay.specs.Inside.Comings.{sooner_of}
use Rattle.bm_replay.proofs.Muxes.{switches_more}
use Rattle.bm_replay.proofs.mux.Muxes.soonest.Goals as goal

pub loop-mux-preserved : goal.loop-mux-preserved
loop-mux-preserved c =
    let there : length c.self.inside.muxes.items ≡ length c.args.self.now =
    ap (λ (l : List Mux). length l) c.self.view_is
    in let inside : c.loop-mux.mux < length c.self.inside.muxes.items =
    (let a = c.requires.there in let b = c.loop-mux-test.true in omega arith)
    in let here : c.index.result.now ≡ get_or c.self.inside.muxes.items c.loop-mux.mux c.index.result.now =
    c.index.ensures ∙ ap (λ (n : ℕ). get_or c.self.inside.muxes.items n c.index.result.now) c.from.ensures
    in let default : get_or c.self.inside.muxes.items c.loop-mux.mux c.index.result.now
    ≡ get_or c.self.inside.muxes.items c.loop-mux.mux (record { version = 0; table = [] }) =
    get_or_default _ _ _ _ inside
    in let version : c.index.result.now.version ≡ version_in c.self.inside.muxes.items c.loop-mux.mux =
    ap (λ (x : Mux). x.version) (here ∙ default)
    in let one : suc c.loop-mux.mux ≡ c.loop-mux.mux + 1 = omega arith
    in let next : c.next_switch.result ≡ switch_after c.args.total (get_or c.args.lags.now c.loop-mux.mux 0)
    c.loop-mux.mux (version_in c.self.inside.muxes.items c.loop-mux.mux)
    (next_change c.args.plan.now (version_in c.self.inside.muxes.items c.loop-mux.mux)) =
    c.next_switch.ensures
    ∙ (λ i. switch_after c.args.total (get_or c.args.lags.now (c.from-in-loop-mux.ensures i) 0) c.loop-mux.mux
    (version i) (next_change c.args.plan.now (version i)))
    in subst (λ (n : ℕ). c.sooner-soonest.result
    ≡ least (switches_of c.args.plan.now c.args.lags.now c.args.total c.self.inside.muxes.items n)) one
    (c.sooner-soonest.ensures ∙ ((λ i. sooner_of (c.loop-mux.invariant i) (next i))
    ∙ sym (switches_more c.args.plan.now c.args.lags.now c.args.total c.self.inside.muxes.items c.loop-mux.mux)))

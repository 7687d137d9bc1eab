use Rattle.std.proofs.Common.{◌≡◌, ◌∙◌, ℕ, List, ap, rules, sym, subst}
use Rattle.std.proofs.lemmas.Result.{IfOk-weaker}
use Rattle.bm_base.specs.declared.label.Hop.{Hop}
use Rattle.bm_base.specs.declared.fate.Fate.{Fate}
use Rattle.bm_core.specs.Rules.{fate_in, setting_fate}
use Rattle.bm_core.specs.Soon.{IsSoon}
use Rattle.bm_core.proofs.Existing.{fate_of_soon}
use Rattle.bm_replay.specs.Replays.{setting_route, setting_rule}
use Rattle.bm_replay.proofs.WiderRules.{replay_more}
use Rattle.bm_table.specs.declared.setting.FaultRow.{FaultRow}
use Rattle.bm_cli.proofs.Wider.{threaded_more}
use Rattle.bm_cli.proofs.history.played.Goals as goal

pub new-faults-requires : goal.new-faults-requires
new-faults-requires g c =
    let setting = c.args.stage.script.setting in
    let same : (packet : ℕ) (hop : Hop) → setting_fate setting packet hop ≡ fate_in c.in_ok-rows.rows packet hop =
    λ packet hop. ap (λ (rows : List FaultRow). fate_in rows packet hop) (sym c.items.ensures)
    ∙ sym (c.in_ok-rows.ensures packet hop) in
    let soon : (packet : ℕ) (hop : Hop) (fate : Fate) → fate ≡ fate_in c.in_ok-rows.rows packet hop → IsSoon fate =
    λ packet hop fate is. subst IsSoon (same packet hop ∙ sym is)
    (fate_of_soon setting c.requires.sound.script.setting packet hop) in
    record {
      takes = λ packet hop. tt;
      copies = λ packet hop fate h. (soon packet hop fate h.1).0;
      delay = λ packet hop fate h. (soon packet hop fate h.1).1;
    }

pub returns-then-keeps-clause-made : goal.returns-then-keeps-clause-made
returns-then-keeps-clause-made g c =
    let setting = c.args.stage.script.setting in
    rw c.in-Replay.is (IfOk-weaker c.replay_keeping.result _ _
    (λ r made. replay_more _ (setting_route setting) _ (setting_rule setting) (λ k f m is. search rules)
    (λ k hop f is. search rules) r.0 made) c.replay_keeping.ensures.replay)

pub returns-in-Replay-clause-made : goal.returns-in-Replay-clause-made
returns-in-Replay-clause-made g c =
    let setting = c.args.stage.script.setting in
    rw c.in-Replay.is (replay_more _ (setting_route setting) _ (setting_rule setting) (λ k f m is. search rules)
    (λ k hop f is. search rules) c.in_ok-history-in-Replay.history c.in_ok-history-in-Replay.ensures.replay)

pub returns-clause-made : goal.returns-clause-made
returns-clause-made g c =
    let setting = c.args.stage.script.setting in
    rw c.in-Run.is (threaded_more _ (setting_route setting) _ (setting_rule setting) (λ k f m is. search rules)
    (λ k hop f is. search rules) c.in_ok-history-in-Run.history c.in_ok-history-in-Run.ensures.run)

use Rattle.std.proofs.Common.{◌≡◌, ◌∙◌, ◌<◌, ℕ, List, ap, refl, rules, sym, subst}
use Rattle.bm_base.specs.declared.label.Hop.{Hop}
use Rattle.bm_base.specs.declared.fate.Fate.{Fate}
use Rattle.bm_core.specs.Rules.{fate_in, setting_fate, setting_mux}
use Rattle.bm_core.specs.Soon.{IsSoon}
use Rattle.bm_core.proofs.Existing.{fate_of_soon}
use Rattle.bm_core.proofs.Playing.{mux_within}
use Rattle.bm_replay.specs.Replays.{setting_route, setting_rule}
use Rattle.bm_table.specs.declared.setting.FaultRow.{FaultRow}
use Rattle.bm_cli.proofs.Wider.{checked_same}
use Rattle.bm_cli.proofs.check.answer_of.Goals as goal

pub new-faults-requires : goal.new-faults-requires
new-faults-requires c =
    let setting = c.args.stage.script.setting in
    let same : (packet : ℕ) (hop : Hop) → setting_fate setting packet hop ≡ fate_in c.in_ok-rows.rows packet hop =
    λ packet hop. ap (λ (rows : List FaultRow). fate_in rows packet hop) (sym c.items.ensures)
    ∙ sym (c.in_ok-rows.ensures packet hop) in
    let soon : (packet : ℕ) (hop : Hop) (fate : Fate) → fate ≡ fate_in c.in_ok-rows.rows packet hop → IsSoon fate =
    λ packet hop fate is. subst IsSoon (same packet hop ∙ sym is)
    (fate_of_soon setting c.requires.sound.script.setting packet hop) in
    record {
      takes = λ packet hop. tt;
      copies = λ packet hop fate h. (soon packet hop fate h.1).0;
      delay = λ packet hop fate h. (soon packet hop fate h.1).1;
    }

pub returns : goal.returns
returns c =
    let setting = c.args.stage.script.setting in
    checked_same _ (setting_route setting) _ (setting_rule setting) c.args.stage c.args.trace.now c.check.result
    c.check.ensures.answer c.check.ensures.yes (record {
      routes = λ k f m is. search rules;
      routes_back = λ k f m is.
          let within : setting_mux setting k f < setting.muxes = mux_within c.args.stage c.requires.sound k f in
          let below : m < setting.muxes = subst (λ n. n < setting.muxes) (sym is) within in
          record { shown = record { ref_ptr = (0, 0); now = f }; shows = refl; met = (search rules, search rules) };
      rules = λ k hop f is. search rules;
      rules_back = λ k hop f is. (hop, search rules);
    })

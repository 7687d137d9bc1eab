use Rattle.std.proofs.Common.{◌≡◌, Some, ap, rules, sym, true, ◌∙◌}
use Rattle.std.proofs.lemmas.Option.{same_Some}
use Rattle.bm_core.specs.Past.{label_of, segment_of}
use Rattle.bm_core.specs.Verdicts.{verdict_at}
use Rattle.bm_core.specs.declared.events.What.TheVariants.{Arrive}
use Rattle.bm_base.specs.Labels.{arrives_at, tag_of}
use Rattle.bm_running.proofs.Arriving.{arrival, tag_says}
use Rattle.bm_running.proofs.known.Known.may_arrive.Goals as goal

pub returns-clause-decides : goal.returns-clause-decides
returns-clause-decides c =
    let stage = c.args.stage.now
    in let label = c.in-Some-label.label
    in let segment = c.in-Some.segment
    in let tag = c.tag_of-tag.result
    in let is_segment : segment_of stage c.args.packet ≡ Some segment = search rules
    in let same : c.in-Some-arrives_at.place ≡ c.args.server = search rules
    in let here : arrives_at label.entry c.args.hop ≡ Some c.args.server = search rules
    in let sent : c.is_sent.result ≡ true = search rules
    in let says = tag_says label c.args.hop tag c.tag_of-tag.ensures
    in let dest : tag.dest ≡ c.args.server = same_Some _ _ (sym says.1 ∙ here)
    in λ past knows.
    let is_label : label_of stage past c.args.packet ≡ Some label =
    sym (c.label.ensures past knows.labels) ∙ c.in-Some-label.is
    in let given =
    c.in_ok-given.ensures.verdict past label knows.shards
    (ap (λ h. tag_of label h) says.0 ∙ c.tag_of-tag.ensures)
    in arrival stage past c.args.clock.0 c.args.packet c.args.hop c.args.server c.args.verdict c.in_ok-given.given
    segment label c.is_verdict.result is_segment is_label (sym (c.is_sent.ensures past knows.tallies) ∙ sent) here
    (given ∙ (λ i. verdict_at stage past c.args.clock.0 label (says.0 i) (dest i) segment)) c.is_verdict.ensures

pub returns-clause-shards : goal.returns-clause-shards
returns-clause-shards c =
    let label = c.in-Some-label.label
    in let tag = c.tag_of-tag.result
    in let is_segment : segment_of c.args.stage.now c.args.packet ≡ Some c.in-Some.segment = search rules
    in let here : arrives_at label.entry c.args.hop ≡ Some c.args.server = search rules
    in let says = tag_says label c.args.hop tag c.tag_of-tag.ensures
    in let dest : tag.dest ≡ c.args.server = same_Some _ _ (sym says.1 ∙ here)
    in λ past e knows is may.
    let given = c.is_verdict.ensures.0 may
    in c.in_ok-given.ensures.kept past e knows.shards is_segment
    (is ∙ (λ i. Arrive c.args.packet (sym says.0 i) (sym dest i) (given i)))

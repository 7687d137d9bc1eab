use Rattle.std.proofs.Common.{◌∙◌, ap, refl, string_bytes, subst, sym}
use Rattle.bm_state.specs.Versions.{KeepsVersions}
use Rattle.bm_connections.specs.declared.story.Story.{Story}
use Rattle.bm_connections.proofs.Stories.{told_more, told_same}
use Rattle.bm_connections.proofs.story.Story.observe.Goals.{then-is_told+in_ok-write_story_line, else-is_told}
use Rattle.bm_connections.proofs.story.Story.observe.Goals as goal

pub returns : goal.returns
returns c = λ past by k.
    let clock = c.args.clock.0 in
    let stage = c.args.stage.now in
    let f = c.args.flow.now in
    let e = c.args.event.now in
    elim c.if-is_told.branch [
      | then-is_told+in_ok-write_story_line w ↦ record {
        told = told_more clock stage f past e (string_bytes c.args.self.now.text)
            (string_bytes c.if-is_told.self.text) (sym c.is_told.ensures ∙ w.if-is_told.true)
            (ap (λ (s : Story). string_bytes s.text) w.self-is
            ∙ w.in_ok-write_story_line.ensures past k.versions by)
            k.told;
        versions = c.in_ok-observe.ensures past e refl
            (subst (λ (s : Story). KeepsVersions past s.versions) (sym w.self-is) k.versions);
      }
      | else-is_told w ↦ record {
        told = told_same clock stage f past e (string_bytes c.args.self.now.text)
            (string_bytes c.if-is_told.self.text) (sym c.is_told.ensures ∙ w.if-is_told.false)
            (ap (λ (s : Story). string_bytes s.text) w.self-is) k.told;
        versions = c.in_ok-observe.ensures past e refl
            (subst (λ (s : Story). KeepsVersions past s.versions) (sym w.self-is) k.versions);
      }
    ]

-- An event more of a story.
use Rattle.std.proofs.Common.{◌≡◌, ℕ, true, false, List, ◌∷◌, ◌++◌, Option, ap, sym, ◌∙◌, if◌then◌else◌, []}
use Rattle.std.proofs.lemmas.List.{append-nil}
use Rattle.bm_base.specs.declared.flow.Flow.{Flow}
use Rattle.bm_core.specs.declared.events.Event.{Event}
use Rattle.bm_core.specs.declared.events.Stage.{Stage}
use Rattle.bm_connections.specs.Story.{is_told, story_line, story_lines}

module _ (clock : Option ℕ) (stage : Stage) (f : Flow) (past : List Event) (e : Event) (old new : List ℕ) where
  -- one that belongs to it
  pub told_more : is_told stage f e.what ≡ true → new ≡ old ++ story_line clock stage past e →
      old ≡ story_lines clock stage f past → new ≡ story_lines clock stage f (e ∷ past)
  told_more is n o =
      n ∙ ap (λ l. l ++ story_line clock stage past e) o
      ∙ ap (λ b. story_lines clock stage f past ++ (if b then story_line clock stage past e else [])) (sym is)

  -- one that doesn't
  pub told_same : is_told stage f e.what ≡ false → new ≡ old → old ≡ story_lines clock stage f past →
      new ≡ story_lines clock stage f (e ∷ past)
  told_same is n o =
      n ∙ o ∙ sym (append-nil (story_lines clock stage f past))
      ∙ ap (λ b. story_lines clock stage f past ++ (if b then story_line clock stage past e else [])) (sym is)

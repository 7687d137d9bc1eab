use Rattle.std.proofs.Common.{◌≡◌, ◌∙◌, ◌++◌, List, ℕ, ap, sym, append_assoc}
use Rattle.std.specs.Prelude.{codes}
use Rattle.std.proofs.lemmas.Result.{IfOk-weaker}
use Rattle.bm_connections_cli.proofs.faults.line_of.Goals as goal

four : (a b c d : List ℕ) → a ++ (b ++ (c ++ d)) ≡ ((a ++ b) ++ c) ++ d
four a b c d = sym (append_assoc a b (c ++ d)) ∙ sym (append_assoc (a ++ b) c d)

-- the line of these words
line_is : (name words these line : List ℕ) → words ≡ these →
    line ≡ codes "beamer-connections: " ++ (name ++ (codes ": " ++ (words ++ codes "\n"))) →
    line ≡ codes "beamer-connections: " ++ name ++ codes ": " ++ these ++ codes "\n"
line_is name words these line same is =
    is ∙ ap (λ l. codes "beamer-connections: " ++ l) (four name (codes ": ") words (codes "\n"))
    ∙ ap (λ w. codes "beamer-connections: " ++ name ++ codes ": " ++ w ++ codes "\n") same

pub returns : goal.returns
returns c =
    IfOk-weaker c.format.result _ _
    (λ s e. line_is c.args.name.now c.as_str-words.result.now _ _
    (c.as_str-words.ensures.value ∙ c.in_ok-words.ensures) e)
    c.format.ensures.ok

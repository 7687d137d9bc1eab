-- The tree of a text, by whether the text is UTF-8.
use Rattle.std.proofs.Common.{◌≡◌, ℕ, List, Option, None, ap, sym, ◌∙◌, inl, inr}
use Rattle.std.proofs.lemmas.Bool.{cases_Bool}
use Rattle.std.proofs.lemmas.Str.{IsUtf8-from_is_utf8, is_utf8-from_IsUtf8}
use Rattle.std.specs.Str.{IsUtf8, is_utf8}
use Rattle.toml.specs.Data.{Members}
use Rattle.toml.specs.Parse.{parse_document}
use Rattle.bm_script.specs.Scripts.{tree_of}

pub tree_of_text : (text same : List ℕ) (tree : Option Members) → IsUtf8 text → same ≡ text → parse_document same ≡ tree
    → tree_of text ≡ tree
unfolding tree_of
tree_of_text text same tree h e p = rw (is_utf8-from_IsUtf8 text h) (ap parse_document (sym e) ∙ p)

pub no_tree : (text : List ℕ) → (IsUtf8 text → ⊥) → tree_of text ≡ None
unfolding tree_of
no_tree text h = elim (cases_Bool (is_utf8 text)) [ inl t ↦ absurd (h (IsUtf8-from_is_utf8 text t)) | inr f ↦ rw f ]

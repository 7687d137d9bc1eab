-- What the contracts of private calls and the proofs of bodies use in addition to Form.
use Rattle.std.specs.Prelude.{ℕ, List}
use Rattle.std.specs.Prelude.{is_some, drop, option_and_then}
use Rattle.std.specs.Prelude.{◌≡◌, true}
use Rattle.bm_words.specs.declared.form.Verb.{Verb}
use Rattle.bm_words.specs.Form.{names_of, asked_by, play_of}

-- the words play a capture by this command
pub record IsVerbIn (words : List (List ℕ)) (verb : Verb) : Type 0 where
  pub form : play_of words ≡ option_and_then (asked_by verb) (names_of (drop 1 words))
  pub some : is_some (play_of words) ≡ true

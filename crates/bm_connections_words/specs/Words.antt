-- What the words of `beamer-connections` ask for: `CAPTURE SCRIPT`, and after them options; or
-- `--lifetime SCRIPT`, and after it maybe `--for SECONDS`; or `--help`; or `--version`. Words fit no
-- form if a name is empty or begins with `-`.
use Rattle.std.specs.Prelude.{ℕ, ◌^◌, nat_lt, List, [], ◌∷◌, ◌&&◌}
use Rattle.std.specs.Prelude.{if◌then◌else◌, Option, Some, None, option_and_then, option_map, String}
use Rattle.std.specs.Prelude.{string_bytes, codes, map}
use Rattle.std.specs.Str.{bytes_eq}
use Rattle.std.specs.Str.Parse.{digits_value}
use Rattle.bm_words.specs.Form.{Named, is_name, is_numeral, named}
use Rattle.bm_connections_words.specs.declared.words.Form.{Form}
use Rattle.bm_connections_words.specs.declared.words.Form.TheVariants as in_form
use Rattle.bm_connections_words.specs.Options.{Options, options_in, said}

-- what is asked for: the connections of a replay of the named capture and script, by these options;
-- the lifetime of the script of this name, and whether it is at least this number of seconds; the
-- help; or the version
pub data Asked : Type 0 where
  Connections : Named → Options → Asked
  Lifetime : List ℕ → Option ℕ → Asked
  Help : Asked
  Version : Asked

-- the names, if these words name a capture and a script
abbrev pub names_in : List ℕ → List ℕ → Option Named
names_in capture script =
    if is_name capture && is_name script
    then Some (record { capture = capture; script = Some script })
    else None

-- the number in the word, 1 to 4,294,967,295, in decimal without a sign or a leading zero
unfoldable pub seconds_of : List ℕ → Option ℕ
seconds_of word =
    if is_numeral word && nat_lt (digits_value 10 word) (2 ^ 32) then Some (digits_value 10 word)
    else None

-- how long connections are to live, by the options: by none, which doesn't say it, or by two
abbrev pub life_of : List (List ℕ) → Option (Option ℕ)
life_of [] = Some None
life_of (word ∷ number ∷ []) =
    if bytes_eq word (codes "--for") then option_map Some (seconds_of number) else None
life_of _ = None

-- what is asked for, if this word names a script
abbrev pub with_script : List ℕ → Option ℕ → Option Asked
with_script script seconds = if is_name script then Some (Lifetime script seconds) else None

-- what is asked for of the capture and the script of these names, by the options
abbrev pub with_names : List (List ℕ) → Named → Option Asked
with_names words names = option_map (Connections names) (options_in words)

-- what one word asks for
abbrev pub of_word : List ℕ → Option Asked
of_word word =
    if bytes_eq word (codes "--help") then Some Help
    else if bytes_eq word (codes "--version") then Some Version
    else None

-- what the words ask for; None if they fit no form
abbrev pub form_of : List (List ℕ) → Option Asked
form_of [] = None
form_of (word ∷ []) = of_word word
form_of (first ∷ second ∷ options) =
    if bytes_eq first (codes "--lifetime")
    then option_and_then (with_script second) (life_of options)
    else option_and_then (with_names options) (names_in first second)

-- the same, for the words as they are given
abbrev pub form_in : {A : Type 0} → List (String A) → Option Asked
form_in words = form_of (map string_bytes words)

-- WHAT THE CODE RETURNS, without where its texts are

abbrev pub asked : Form → Asked
asked (in_form.Connections names options) = Connections (named names) (said options)
asked (in_form.Lifetime script seconds) = Lifetime script.now seconds
asked in_form.Help = Help
asked in_form.Version = Version

-- What the words ask for: `replay CAPTURE [SCRIPT]`, `run CAPTURE SCRIPT`, `load N`, `check TRACE
-- CAPTURE SCRIPT` or `streams CAPTURE [SCRIPT]`. Words fit no form if a name in them is empty or
-- begins with `-`.
use Rattle.std.specs.Prelude.{ℕ, List, [], ◌∷◌, Bool, false, not, ◌&&◌, ◌==◌, if◌then◌else◌}
use Rattle.std.specs.Prelude.{Option, Some, None, codes, map, option_and_then, option_map}
use Rattle.std.specs.Prelude.{◌≤◌, string_bytes}
use Rattle.std.specs.Char.{is_ascii_digit}
use Rattle.std.specs.Int.{is_in_range}
use Rattle.std.specs.List.{list_all}
use Rattle.std.specs.Option.{option_or}
use Rattle.std.specs.Str.{bytes_eq}
use Rattle.std.specs.Str.Parse.{digits_value}
use Rattle.std.specs.Prelude.{String}
use Rattle.bm_words.specs.declared.form.Verb.{Verb}
use Rattle.bm_words.specs.declared.form.Verb.TheVariants.{Replay as to_replay, Run as to_run}
use Rattle.bm_words.specs.declared.form.Verb.TheVariants.{Streams as to_streams}
use Rattle.bm_words.specs.declared.words.Form.{Form}
use Rattle.bm_words.specs.declared.words.Form.TheVariants.{Replay as in_replay, Run as in_run}
use Rattle.bm_words.specs.declared.words.Form.TheVariants.{Load as in_load, Check as in_check}
use Rattle.bm_words.specs.declared.words.Form.TheVariants.{Streams as in_streams}
use Rattle.bm_words.specs.declared.words.Names.{Names}

-- NAMES AND NUMBERS

-- the names of a capture and maybe of a script
pub record Named : Type 0 where
  pub capture : List ℕ
  pub script : Option (List ℕ)

abbrev pub is_name : List ℕ → Bool
is_name [] = false
is_name (x ∷ xs) = not (x == 45)

-- these words name a capture, or a capture and a script
abbrev pub names_of : List (List ℕ) → Option Named
names_of (capture ∷ []) =
    if is_name capture then Some (record { capture = capture; script = None }) else None
names_of (capture ∷ script ∷ []) =
    if is_name capture && is_name script
    then Some (record { capture = capture; script = Some script })
    else None
names_of _ = None

-- decimal digits; the first one isn't 0
abbrev pub is_numeral : List ℕ → Bool
is_numeral [] = false
is_numeral (x ∷ xs) = not (x == 48) && list_all is_ascii_digit (x ∷ xs)

-- the number, if it is 1 to 20,000
abbrev pub if_count : ℕ → Option ℕ
if_count n = if is_in_range 1 20000 n then Some n else None

-- the number of connections in the word: in decimal, without a sign or a leading zero
unfoldable pub count_of : List ℕ → Option ℕ
count_of word = if is_numeral word then if_count (digits_value 10 word) else None

-- THE FORMS

-- what the words ask for: one case for each form, with what it names
pub data Asked : Type 0 where
  Replay : Named → Asked
  Run : List ℕ → List ℕ → Asked
  Load : ℕ → Asked
  Check : List ℕ → List ℕ → List ℕ → Asked
  Streams : Named → Asked

-- a load has 1 to 20,000 connections
abbrev pub HasCount : Asked → Type 0
HasCount (Load n) = (1 ≤ n) × (n ≤ 20000)
HasCount _ = Unit {0}

-- a run has a script
abbrev pub run_of : Named → Option Asked
run_of names = option_map (Run names.capture) names.script

-- what a command asks for, with these names
abbrev pub asked_by : Verb → Named → Option Asked
asked_by to_replay names = Some (Replay names)
asked_by to_run names = run_of names
asked_by to_streams names = Some (Streams names)

-- the command with this name
abbrev pub verb_of : List ℕ → Option Verb
verb_of word =
    if bytes_eq word (codes "replay") then Some to_replay
    else if bytes_eq word (codes "run") then Some to_run
    else if bytes_eq word (codes "streams") then Some to_streams
    else None

-- the word is a command that plays a capture, and the others name what it asks for
abbrev pub play_of : List (List ℕ) → Option Asked
play_of [] = None
play_of (word ∷ names) =
    option_and_then (λ verb. option_and_then (asked_by verb) (names_of names)) (verb_of word)

-- the connections of a load, if the words ask for one
abbrev pub connections_of : List (List ℕ) → Option ℕ
connections_of (word ∷ number ∷ []) = if bytes_eq word (codes "load") then count_of number else None
connections_of _ = None

-- the check of a report, if the words ask for one
abbrev pub check_of : List (List ℕ) → Option Asked
check_of (word ∷ trace ∷ capture ∷ script ∷ []) =
    if bytes_eq word (codes "check") && is_name trace && is_name capture && is_name script
    then Some (Check trace capture script)
    else None
check_of _ = None

-- what the words ask for; None if they fit no form
abbrev pub form_of : List (List ℕ) → Option Asked
form_of words =
    option_or (option_map Load (connections_of words)) (option_or (check_of words) (play_of words))

-- the same, of the words as they are given
abbrev pub form_in : {A : Type 0} → List (String A) → Option Asked
form_in words = form_of (map string_bytes words)

-- WHAT THE CODE RETURNS, without where its texts are

abbrev pub named : Names → Named
named names = record {
  capture = names.capture.now;
  script =
      option_map (λ s. s.now) names.script;
}

abbrev pub asked : Form → Asked
asked (in_replay names) = Replay (named names)
asked (in_run capture script) = Run capture.now script.now
asked (in_load connections) = Load connections
asked (in_check trace capture script) = Check trace.now capture.now script.now
asked (in_streams names) = Streams (named names)

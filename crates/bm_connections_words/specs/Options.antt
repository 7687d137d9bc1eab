-- What the options of `beamer-connections` say. They come in any order, each at most once.
use Rattle.std.specs.Prelude.{ℕ, List, [], ◌∷◌, Bool, true, false, not, ◌&&◌, ◌||◌, ◌==◌}
use Rattle.std.specs.Prelude.{if◌then◌else◌, Option, Some, None, is_some, option_and_then, option_map}
use Rattle.std.specs.Prelude.{codes}
use Rattle.std.specs.Char.{is_ascii_digit}
use Rattle.std.specs.List.{after_first, before_first, list_all}
use Rattle.std.specs.Str.{bytes_eq}
use Rattle.bm_connections_words.specs.declared.options.Chosen.{Chosen as ChosenWords}
use Rattle.bm_connections_words.specs.declared.options.Options.{Options as OptionWords}
use Rattle.bm_connections_words.specs.declared.options.Format.{Format}
use Rattle.bm_connections_words.specs.declared.options.Format.TheVariants.{Lines, Csv, Json, Svg}

-- which connections a story is of: those of this client, and if there is a service, of these two
pub record Chosen : Type 0 where
  pub client : List ℕ
  pub service : Option (List ℕ)

-- the format, if one is named; whether moments are those of the wall clock; whether the exit status
-- says that the changes break a connection; and which connections a story is of
pub record Options : Type 0 where
  pub format : Option Format
  pub clock : Bool
  pub fail : Bool
  pub chosen : Option Chosen

-- the format of a report: lines, if none is named
abbrev pub format_in : Option Format → Format
format_in None = Lines
format_in (Some format) = format

-- what no options say
abbrev pub none_said : Options
none_said = record { format = None; clock = false; fail = false; chosen = None }

-- ONE OPTION MORE

abbrev pub with_format : Format → Options → Option Options
with_format format o =
    if is_some o.format then None
    else Some (record {
      format = Some format;
      clock = o.clock;
      fail = o.fail;
      chosen = o.chosen;
    })

abbrev pub with_clock : Options → Option Options
with_clock o =
    if o.clock then None
    else Some (record {
      format = o.format;
      clock = true;
      fail = o.fail;
      chosen = o.chosen;
    })

abbrev pub with_fail : Options → Option Options
with_fail o =
    if o.fail then None
    else Some (record {
      format = o.format;
      clock = o.clock;
      fail = true;
      chosen = o.chosen;
    })

-- an octet of an address: a digit or a dot
abbrev pub is_of_address : ℕ → Bool
is_of_address octet = is_ascii_digit octet || octet == 46

abbrev pub is_address : List ℕ → Bool
is_address [] = false
is_address (x ∷ xs) = list_all is_of_address (x ∷ xs)

abbrev pub is_port : List ℕ → Bool
is_port [] = false
is_port (x ∷ xs) = list_all is_ascii_digit (x ∷ xs)

-- an address with a port: digits and dots, a colon, and digits
abbrev pub is_endpoint : List ℕ → Bool
is_endpoint word =
    is_address (before_first (λ octet. octet == 58) word)
    && is_port (after_first (λ octet. octet == 58) word)

abbrev pub with_chosen : Options → List ℕ → Option (List ℕ) → Options
with_chosen o client service = record {
  format = o.format;
  clock = o.clock;
  fail = o.fail;
  chosen = Some (record { client = client; service = service });
}

abbrev pub with_client : List ℕ → Options → Option Options
with_client client o =
    if is_some o.chosen || not (is_endpoint client) then None
    else Some (with_chosen o client None)

-- with a service, if a client is chosen and no service yet
abbrev pub of_service : Options → List ℕ → Option Chosen → Option Options
of_service o service None = None
of_service o service (Some c) =
    if is_some c.service || not (is_endpoint service) then None
    else Some (with_chosen o c.client (Some service))

abbrev pub with_service : List ℕ → Options → Option Options
with_service service o = of_service o service o.chosen

-- ALL WORDS

-- with a word that is neither an option with a value nor such a value: a flag, or the service of
-- the client that is chosen
abbrev pub with_flag : List ℕ → Options → Option Options
with_flag word o =
    if bytes_eq word (codes "--csv") then with_format Csv o
    else if bytes_eq word (codes "--json") then with_format Json o
    else if bytes_eq word (codes "--svg") then with_format Svg o
    else if bytes_eq word (codes "--clock") then with_clock o
    else if bytes_eq word (codes "--fail") then with_fail o
    else with_service word o

-- the options that are read, and whether the next word is the client of `--of`
pub record Read : Type 0 where
  pub options : Options
  pub awaits_client : Bool

abbrev pub awaiting : Options → Bool → Read
awaiting o client = record { options = o; awaits_client = client }

-- with a word that is no option's value
abbrev pub with_option : List ℕ → Options → Option Read
with_option word o =
    if bytes_eq word (codes "--of") then Some (awaiting o true)
    else option_map (λ p. awaiting p false) (with_flag word o)

-- with the next word
abbrev pub with_word : List ℕ → Read → Option Read
with_word word read =
    if read.awaits_client then option_map (λ p. awaiting p false) (with_client word read.options)
    else with_option word read.options

-- with the words that come next
abbrev pub with_words : Read → List (List ℕ) → Option Read
with_words read [] = Some read
with_words read (word ∷ words) = option_and_then (λ r. with_words r words) (with_word word read)

-- no word is missing
abbrev pub is_whole : Read → Bool
is_whole read = not read.awaits_client

-- what is said goes together: a story has no format
abbrev pub is_fit : Options → Bool
is_fit o = not (is_some o.chosen) || not (is_some o.format)

-- the options, if they are whole and go together
abbrev pub if_fit : Read → Option Options
if_fit read = if is_whole read && is_fit read.options then Some read.options else None

-- what the words say; None if they aren't options that go together
abbrev pub options_in : List (List ℕ) → Option Options
options_in words = option_and_then if_fit (with_words (awaiting none_said false) words)

-- WHAT THE CODE RETURNS, without where its texts are

abbrev pub chosen : ChosenWords → Chosen
chosen c = record { client = c.client.now; service = option_map (λ s. s.now) c.service }

abbrev pub said : OptionWords → Options
said o = record {
  format = o.format;
  clock = o.clock;
  fail = o.fail;
  chosen = option_map chosen o.chosen;
}

-- What `--fail` says by the exit status: 10 in place of 0 where the changes of the script fail a
-- connection (docs/FORMATS.md).
use Rattle.std.specs.Prelude.{◌≡◌, ◌≢◌, ◌==◌, ℕ, nat_lt, Bool, true, false, ◌||◌, ◌&&◌}
use Rattle.std.specs.Prelude.{if◌then◌else◌, List, map, count_by, Option, Some, None, is_some, IsOkAnd}
use Rattle.std.specs.List.{list_any, zip}
use Rattle.bm_core.specs.declared.events.History.{History}
use Rattle.bm_core.specs.declared.events.Stage.{Stage}
use Rattle.bm_cli.specs.declared.mode.Mode.TheVariants.{Replay}
use Rattle.bm_cli.specs.Reading.{Reading, Reads, reading}
use Rattle.bm_connections.specs.declared.connection.Connection.{Connection}
use Rattle.bm_connections.specs.Answers.{is_by_the_change}
use Rattle.bm_connections.specs.Base.{compared_with, is_whole}
use Rattle.bm_connections.specs.Connections.{connections}
use Rattle.bm_connections_cli.specs.Headline.{IsOfReplays}
use Rattle.bm_connections_words.specs.Words.{Asked, Connections, Help, Lifetime, Version}

-- WHAT FAILS

-- the changes break one of these connections, as the answer counts them, by whether each is whole in
-- the base
abbrev pub breaks_one : List Connection → List Bool → Bool
breaks_one cs wholes =
    nat_lt 0 (count_by (λ c. is_by_the_change c.origin) (compared_with cs wholes))

-- a connection is refused, which is whole in the base
abbrev pub is_refused : Connection × Bool → Bool
is_refused pair = pair.1 && is_some pair.0.refused

-- the changes refuse one of these connections
abbrev pub refuses_one : List Connection → List Bool → Bool
refuses_one cs wholes = list_any is_refused (zip cs wholes)

abbrev pub fails_one : List Connection → List Bool → Bool
fails_one cs wholes = breaks_one cs wholes || refuses_one cs wholes

-- the changes break or refuse a connection of a history, by one of its base
abbrev pub fails : History → History → Bool
fails h base = fails_one (connections h) (map is_whole (connections base))

-- whether the changes of a stage do, by its replay and that of its base
abbrev pub DoesFail : Stage → Bool → Type 0
DoesFail = IsOfReplays fails

-- THE EXIT STATUS

-- the status without the option
abbrev pub plain_status : ℕ → ℕ
plain_status code = if code == 10 then 0 else code

-- the status in place of 0
abbrev pub failed_status : Bool → ℕ
failed_status so = if so then 10 else 0

-- with the option the status that would be 0 is 10 or 0, by what is read; without it, it is never 10
abbrev pub IsFailed : Bool → Reading → ℕ → Type 0
IsFailed false reading code = code ≢ 10
IsFailed true reading code =
    plain_status code ≡ 0
    → IsOkAnd reading (λ stage. (so : Bool) × DoesFail stage so × (code ≡ failed_status so))

-- the same, by the words
abbrev pub FailsBy : Option Asked → Reads → ℕ → Type 0
FailsBy None reads code = code ≢ 10
FailsBy (Some (Connections names options)) reads code =
    IsFailed options.fail (reading Replay names reads) code
FailsBy (Some (Lifetime script seconds)) reads code = code ≢ 10
FailsBy (Some Help) reads code = code ≢ 10
FailsBy (Some Version) reads code = code ≢ 10

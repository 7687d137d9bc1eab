-- The lines of how long the old servers are needed, and of third changes that came too soon
-- (docs/FORMATS.md). A clock is when record 1 was captured, if moments are written in UTC.
use Rattle.std.specs.Prelude.{ℕ, List, [], ◌∷◌, ◌++◌, Option, Some, None, codes, decimal, flat_map}
use Rattle.bm_trace.specs.Words.{endpoint, spaced}
use Rattle.bm_connections.specs.declared.needs.Need.{Need}
use Rattle.bm_connections.specs.declared.needed.NeededChange.{NeededChange}
use Rattle.bm_connections.specs.declared.needed.NeededServer.{NeededServer}
use Rattle.bm_connections.specs.declared.thrice.MovedThrice.{MovedThrice}
use Rattle.bm_connections.specs.Times.{seconds_text, time_text}

-- the clock of the packet, in UTC alone
abbrev pub until_text : Option ℕ → Need → List ℕ
until_text None need = []
until_text (Some began) need =
    spaced (codes "until" ∷ time_text (Some began) need.clock.0 ∷ [])

-- how long, by which client, and until when
unfoldable pub need_text : Option ℕ → Need → List ℕ
need_text clock need =
    spaced
    (codes "for" ∷ seconds_text need.time ∷ codes "by" ∷ endpoint need.flow.src need.flow.sport
    ∷ [])
    ++ until_text clock need

-- the line of a change that packets were forwarded after
abbrev pub change_line : Option ℕ → NeededChange → List ℕ
change_line clock c =
    codes "needed"
    ++ spaced (codes "change" ∷ decimal c.change ∷ [])
    ++ need_text clock c.need ++ 10 ∷ []

-- the line of a server that retired too soon
abbrev pub server_line : Option ℕ → NeededServer → List ℕ
server_line clock s =
    codes "needed"
    ++ spaced (codes "retire" ∷ decimal s.server.0 ∷ [])
    ++ need_text clock s.need ++ 10 ∷ []

-- three changes that moved one bucket
unfoldable pub thrice_changes : MovedThrice → List ℕ
thrice_changes m =
    spaced (codes "changes" ∷ decimal m.first ∷ decimal m.second ∷ decimal m.third ∷ [])

-- how much later the third must come, and for which client
unfoldable pub delay_text : Need → List ℕ
delay_text need =
    spaced
    (codes "by" ∷ seconds_text need.time ∷ codes "for" ∷ endpoint need.flow.src need.flow.sport
    ∷ [])

-- the line of a third change that came too soon
abbrev pub thrice_line : MovedThrice → List ℕ
thrice_line m = codes "moved-thrice" ++ thrice_changes m ++ delay_text m.need ++ 10 ∷ []

-- a line for each
abbrev pub changes_text : Option ℕ → List NeededChange → List ℕ
changes_text clock changes = flat_map (change_line clock) changes

abbrev pub servers_text : Option ℕ → List NeededServer → List ℕ
servers_text clock servers = flat_map (server_line clock) servers

abbrev pub thrice_text : List MovedThrice → List ℕ
thrice_text moved = flat_map thrice_line moved

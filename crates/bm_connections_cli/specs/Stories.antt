-- The stories of the connections that are chosen (docs/FORMATS.md). A clock is when record 1 was
-- captured, if moments are written in UTC.
use Rattle.std.specs.Prelude.{ℕ, Bool, true, ◌&&◌, List, [], ◌∷◌, ◌++◌, Option, Some, None}
use Rattle.std.specs.Prelude.{codes, filter, flat_map}
use Rattle.std.specs.Str.{bytes_eq}
use Rattle.bm_core.specs.declared.events.History.{History}
use Rattle.bm_trace.specs.Words.{endpoint, line}
use Rattle.bm_connections.specs.declared.compared.Compared.{Compared}
use Rattle.bm_connections.specs.declared.connection.Connection.{Connection}
use Rattle.bm_connections.specs.Base.{compared}
use Rattle.bm_connections.specs.Story.{story}
use Rattle.bm_connections.specs.Text.{connection_line}
use Rattle.bm_connections_words.specs.Options.{Chosen}

-- the connection is to this service, if there is one
abbrev pub is_to : Option (List ℕ) → Connection → Bool
is_to None c = true
is_to (Some service) c = bytes_eq (endpoint c.flow.dst c.flow.dport) service

-- the connection is one of those that are chosen
abbrev pub is_chosen : Chosen → Connection → Bool
is_chosen chosen c =
    bytes_eq (endpoint c.flow.src c.flow.sport) chosen.client && is_to chosen.service c

-- a connection's line, and its story
abbrev pub told : Option ℕ → History → Compared → List ℕ
told clock h c =
    connection_line clock h.stage.script.setting.racks c ++ story clock h c.connection.flow

-- the line where there are none
abbrev pub none_line : List ℕ → Option (List ℕ) → List ℕ
none_line client None = line (codes "no-connection") (client ∷ [])
none_line client (Some service) = line (codes "no-connection") (client ∷ service ∷ [])

-- those of these connections; or a line, if there are none
abbrev pub told_all : Chosen → Option ℕ → History → List Compared → List ℕ
told_all chosen clock h [] = none_line chosen.client chosen.service
told_all chosen clock h (c ∷ cs) = flat_map (told clock h) (c ∷ cs)

-- those of the connections of a history that are chosen
abbrev pub story_report : Chosen → Option ℕ → History → List Compared → List ℕ
story_report chosen clock h cs =
    told_all chosen clock h (filter (λ c. is_chosen chosen c.connection) cs)

-- the same of a history, by one of its base
abbrev pub stories : Chosen → Option ℕ → History → History → List ℕ
stories chosen clock h base = story_report chosen clock h (compared h base)

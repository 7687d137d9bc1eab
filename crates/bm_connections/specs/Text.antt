-- The text of a table of connections: a line for each, in words like those of the report
-- (docs/FORMATS.md). A clock is when record 1 was captured, if moments are written in UTC.
use Rattle.std.specs.Prelude.{ℕ, Bool, nat_lt, if◌then◌else◌, List, [], ◌∷◌, ◌++◌, Option, Some, None}
use Rattle.std.specs.Prelude.{codes, decimal, flat_map}
use Rattle.bm_base.specs.declared.ids.ServerId.{ServerId}
use Rattle.bm_trace.specs.Words.{because_words, cause_word, endpoint, line, spaced}
use Rattle.bm_trace.specs.Words.{verdict_words}
use Rattle.bm_connections.specs.declared.compared.Compared.{Compared}
use Rattle.bm_connections.specs.declared.compared.Origin.{Origin}
use Rattle.bm_connections.specs.declared.compared.Origin.TheVariants.{Anyway, ByTheChange}
use Rattle.bm_connections.specs.declared.connection.Break.{Break}
use Rattle.bm_connections.specs.declared.connection.Connection.{Connection}
use Rattle.bm_connections.specs.declared.connection.Ending.{Ending}
use Rattle.bm_connections.specs.declared.connection.Ending.TheVariants.{Close, Fin, Open, Reset}
use Rattle.bm_connections.specs.declared.connection.Forwarding.{Forwarding}
use Rattle.bm_connections.specs.declared.connection.Sight.{Sight}
use Rattle.bm_connections.specs.declared.connection.Tally.{Tally}
use Rattle.bm_connections.specs.declared.counts.CauseCount.{CauseCount}
use Rattle.bm_connections.specs.declared.late.LongestLate.{LongestLate}
use Rattle.bm_connections.specs.declared.servers.ServerCount.{ServerCount}
use Rattle.bm_connections.specs.Times.{seconds_text, time_text}
use Rattle.bm_table.specs.Settings.{rack_of}

-- a server's number, or `none`
abbrev pub server_word : Option ServerId → List ℕ
server_word None = codes "none"
server_word (Some server) = decimal server.0

-- the rack of a server, if there is more than one rack
abbrev pub shown_rack : ℕ → Option ServerId → Option ℕ
shown_rack racks None = None
shown_rack racks (Some server) = if nat_lt 1 racks then Some (rack_of racks server) else None

abbrev pub rack_text : Option ℕ → List ℕ
rack_text None = []
rack_text (Some rack) = spaced (codes "rack" ∷ decimal rack ∷ [])

-- the number of a record and its moment
abbrev pub sight_words : Option ℕ → Sight → List (List ℕ)
sight_words clock s = decimal s.number ∷ codes "at" ∷ time_text clock s.moment.0 ∷ []

-- how many arrivals were processed, forwarded, dropped, reset and strays
abbrev pub tally_words : Tally → List (List ℕ)
tally_words t =
    codes "processed" ∷ decimal t.processed ∷ codes "forwarded" ∷ decimal t.forwarded
    ∷ codes "dropped" ∷ decimal t.dropped ∷ codes "reset" ∷ decimal t.reset
    ∷ codes "stray" ∷ decimal t.stray ∷ []

-- how a connection ended
abbrev pub ending_word : Ending → List ℕ
ending_word Open = codes "open"
ending_word Fin = codes "fin"
ending_word Reset = codes "rst"
ending_word Close = codes "close"

-- how many arrivals break nothing since the connection had ended itself, and how it ended
abbrev pub ending_words : ℕ → Ending → List (List ℕ)
ending_words after_its_end ending =
    codes "after-its-end" ∷ decimal after_its_end ∷ codes "end" ∷ ending_word ending ∷ []

-- a packet that was forwarded, by which server, at which clock, and how long after its bucket left
-- the server to which it was forwarded
abbrev pub forwarding_words : Option ℕ → Forwarding → List (List ℕ)
forwarding_words clock x =
    decimal x.packet ∷ codes "by" ∷ decimal x.server.0 ∷ codes "at" ∷ time_text clock x.clock.0
    ∷ codes "after" ∷ seconds_text x.wait ∷ []

-- the last such packet
abbrev pub forwarded_text : Option ℕ → Option Forwarding → List ℕ
forwarded_text clock None = []
forwarded_text clock (Some x) =
    spaced (codes "last-forward" ∷ []) ++ spaced (forwarding_words clock x)

-- a packet that was dropped, reset or a stray, its verdict and its cause
abbrev pub break_words : Break → List ℕ
break_words b =
    spaced (decimal b.packet ∷ []) ++ spaced (verdict_words b.verdict)
    ++ spaced (because_words b.cause)

-- what broke the connection; else what refused it; else whether a server accepted it
abbrev pub end_words : Option Break → Option Break → Option ServerId → List ℕ
end_words (Some b) refused server = codes " broken" ++ break_words b
end_words None (Some b) server = codes " refused" ++ break_words b
end_words None None None = codes " unaccepted"
end_words None None (Some server) = codes " whole"

-- the clock of what broke the connection, or else of what refused it
abbrev pub end_time : Option ℕ → Option Break → Option Break → List ℕ
end_time clock (Some b) refused = spaced (codes "at" ∷ time_text clock b.clock.0 ∷ [])
end_time clock None (Some b) = spaced (codes "at" ∷ time_text clock b.clock.0 ∷ [])
end_time clock None None = []

-- whether a broken connection loses data
abbrev pub losing_text : Bool → List ℕ
losing_text losing_data = if losing_data then codes " losing-data" else []

-- the flow, and where it was first and last seen
abbrev pub seen_text : Option ℕ → Connection → List ℕ
seen_text clock c =
    codes "connection"
    ++ spaced (endpoint c.flow.src c.flow.sport ∷ endpoint c.flow.dst c.flow.dport ∷ [])
    ++ spaced (codes "opened" ∷ sight_words clock c.first)
    ++ spaced (codes "last" ∷ sight_words clock c.last)

-- the server that accepted it last, with its rack
abbrev pub accepted_text : ℕ → Connection → List ℕ
accepted_text racks c =
    spaced (codes "accepted" ∷ server_word c.server ∷ []) ++ rack_text (shown_rack racks c.server)

-- how often it was accepted, what became of its packets, and how it ended
abbrev pub tallied_text : Connection → List ℕ
tallied_text c =
    spaced (codes "times" ∷ decimal c.tally.accepted ∷ [])
    ++ spaced (tally_words c.tally)
    ++ spaced (ending_words c.tally.after_its_end c.ending)

-- which packet was forwarded last, what broke or refused it first, and whether it loses data
abbrev pub outcome_text : Option ℕ → Connection → List ℕ
outcome_text clock c =
    forwarded_text clock c.forwarded
    ++ end_words c.broken c.refused c.server
    ++ end_time clock c.broken c.refused

abbrev pub origin_word : Origin → List ℕ
origin_word ByTheChange = codes "by-the-change"
origin_word Anyway = codes "anyway"

-- whether the change broke it, if it is broken
abbrev pub origin_text : Option Origin → List ℕ
origin_text None = []
origin_text (Some origin) = spaced (origin_word origin ∷ [])

-- what broke it and whether it loses data, if it is broken
abbrev pub cost_text : Compared → List ℕ
cost_text c = origin_text c.origin ++ losing_text c.connection.losing_data ++ 10 ∷ []

-- the line of a connection
abbrev pub connection_line : Option ℕ → ℕ → Compared → List ℕ
connection_line clock racks c =
    seen_text clock c.connection ++ accepted_text racks c.connection ++ tallied_text c.connection
    ++ outcome_text clock c.connection ++ cost_text c

-- a line for each
abbrev pub table_text : Option ℕ → ℕ → List Compared → List ℕ
table_text clock racks cs = flat_map (connection_line clock racks) cs

-- a server with its rack, how many arrivals it accepted, and how many it processed
abbrev pub served_text : ServerCount → List ℕ
served_text c =
    codes "server"
    ++ spaced (decimal c.server.0 ∷ [])
    ++ rack_text c.rack
    ++ spaced (codes "accepted" ∷ decimal c.accepted ∷ [])
    ++ spaced (codes "processed" ∷ decimal c.processed ∷ [])

-- the most that one of a server's shards held at once, and how many it can hold
abbrev pub most_text : ServerCount → List ℕ
most_text c =
    spaced (codes "most-held" ∷ decimal c.most_held ∷ codes "of" ∷ decimal c.capacity ∷ [])
    ++ 10 ∷ []

-- the line of a server
abbrev pub server_line : ServerCount → List ℕ
server_line c = served_text c ++ most_text c

-- the line of a cause
abbrev pub cause_line : CauseCount → List ℕ
cause_line c =
    line (codes "cause")
    (cause_word c.cause ∷ codes "packets" ∷ decimal c.packets
    ∷ codes "broken" ∷ decimal c.broken ∷ codes "refused" ∷ decimal c.refused ∷ [])

-- the line of the longest wait of packets that came too late
abbrev pub late_line : LongestLate → List ℕ
late_line late =
    line (codes "chain-late")
    (codes "longest" ∷ seconds_text late.wait ∷ codes "timeout_s" ∷ decimal late.timeout_s ∷ [])

-- the same, if there is one
abbrev pub late_text : Option LongestLate → List ℕ
late_text None = []
late_text (Some late) = late_line late

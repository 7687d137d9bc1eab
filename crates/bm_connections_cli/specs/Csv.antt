-- The table as comma-separated fields (docs/FORMATS.md). A clock is when record 1 was captured, if
-- moments are written in UTC.
use Rattle.std.specs.Prelude.{ℕ, Bool, if◌then◌else◌, List, [], ◌∷◌, ◌++◌, Option, Some, None, codes, decimal, flat_map}
use Rattle.csv.specs.Writing.{default_writer, row_text}
use Rattle.bm_base.specs.declared.ids.ServerId.{ServerId}
use Rattle.bm_core.specs.declared.events.Cause.{Cause}
use Rattle.bm_core.specs.declared.events.Verdict.{Verdict}
use Rattle.bm_core.specs.declared.events.Verdict.TheVariants.{Accept, Process, Forward, Reset, Drop}
use Rattle.bm_trace.specs.Words.{cause_word, endpoint}
use Rattle.bm_connections.specs.declared.compared.Compared.{Compared}
use Rattle.bm_connections.specs.declared.compared.Origin.{Origin}
use Rattle.bm_connections.specs.declared.connection.Break.{Break}
use Rattle.bm_connections.specs.declared.connection.Connection.{Connection}
use Rattle.bm_connections.specs.declared.connection.Forwarding.{Forwarding}
use Rattle.bm_connections.specs.declared.connection.Sight.{Sight}
use Rattle.bm_connections.specs.declared.connection.Tally.{Tally}
use Rattle.bm_connections.specs.Text.{ending_word, origin_word, shown_rack}
use Rattle.bm_connections.specs.Times.{seconds_text, time_text}

-- a server's number, or nothing
abbrev pub server_field : Option ServerId → List ℕ
server_field None = []
server_field (Some server) = decimal server.0

-- a rack, or nothing
abbrev pub rack_field : Option ℕ → List ℕ
rack_field None = []
rack_field (Some rack) = decimal rack

-- the kind of a verdict
abbrev pub verdict_field : Verdict → List ℕ
verdict_field Accept = codes "accept"
verdict_field (Process taken) = codes "process"
verdict_field (Forward to) = codes "forward"
verdict_field (Reset why) = codes "reset"
verdict_field (Drop why) = codes "drop"

-- a cause, or nothing
abbrev pub cause_field : Option Cause → List ℕ
cause_field None = []
cause_field (Some cause) = cause_word cause

-- the number of a record and its moment
abbrev pub sight_fields : Option ℕ → Sight → List (List ℕ)
sight_fields clock s = decimal s.number ∷ time_text clock s.moment.0 ∷ []

abbrev pub tally_fields : Tally → List (List ℕ)
tally_fields t =
    decimal t.accepted ∷ decimal t.processed ∷ decimal t.forwarded ∷ decimal t.dropped
    ∷ decimal t.reset ∷ decimal t.stray ∷ []

-- the first packet that broke or refused the connection, its clock, its server, its verdict and its
-- cause
abbrev pub break_fields : Option ℕ → Option Break → List (List ℕ)
break_fields clock None = [] ∷ [] ∷ [] ∷ [] ∷ [] ∷ []
break_fields clock (Some b) =
    decimal b.packet ∷ time_text clock b.clock.0 ∷ decimal b.server.0 ∷ verdict_field b.verdict
    ∷ cause_field b.cause ∷ []

-- the last packet that was forwarded, its clock, the server that forwarded it, and how long it came
-- after its bucket left the server to which it was forwarded
abbrev pub forwarded_fields : Option ℕ → Option Forwarding → List (List ℕ)
forwarded_fields clock None = [] ∷ [] ∷ [] ∷ [] ∷ []
forwarded_fields clock (Some x) =
    decimal x.packet ∷ time_text clock x.clock.0 ∷ decimal x.server.0 ∷ seconds_text x.wait ∷ []

-- the names of the fields
abbrev pub header : List (List ℕ)
header =
    codes "client" ∷ codes "service"
    ∷ codes "opened" ∷ codes "opened_at" ∷ codes "last" ∷ codes "last_at"
    ∷ codes "server" ∷ codes "accepted" ∷ codes "processed" ∷ codes "forwarded"
    ∷ codes "dropped" ∷ codes "reset" ∷ codes "stray"
    ∷ codes "broken" ∷ codes "broken_at" ∷ codes "broken_by" ∷ codes "verdict" ∷ codes "cause"
    ∷ codes "forward" ∷ codes "forward_at" ∷ codes "forward_by" ∷ codes "forward_wait"
    ∷ codes "refused" ∷ codes "refused_at" ∷ codes "refused_by" ∷ codes "refused_verdict"
    ∷ codes "refused_cause" ∷ codes "rack" ∷ codes "why" ∷ codes "end" ∷ codes "after_its_end"
    ∷ codes "losing_data" ∷ []

-- the flow, where it was first and last seen, and the server that accepted it last
abbrev pub seen_fields : Option ℕ → Connection → List (List ℕ)
seen_fields clock c =
    endpoint c.flow.src c.flow.sport ∷ endpoint c.flow.dst c.flow.dport ∷ []
    ++ sight_fields clock c.first
    ++ sight_fields clock c.last
    ++ server_field c.server ∷ []

-- what broke a connection, or nothing
abbrev pub origin_field : Option Origin → List ℕ
origin_field None = []
origin_field (Some origin) = origin_word origin

-- the fields of a connection up to the rack of the server that accepted it last
abbrev pub own_fields : Option ℕ → ℕ → Connection → List (List ℕ)
own_fields clock racks c =
    seen_fields clock c
    ++ tally_fields c.tally
    ++ break_fields clock c.broken
    ++ forwarded_fields clock c.forwarded
    ++ break_fields clock c.refused
    ++ rack_field (shown_rack racks c.server) ∷ []

-- whether it loses data, or nothing
abbrev pub losing_field : Bool → List ℕ
losing_field losing_data = if losing_data then codes "losing-data" else []

-- whether the change broke it, how it ended, how many arrivals broke nothing since it had ended
-- itself, and whether it loses data
abbrev pub end_fields : Compared → List (List ℕ)
end_fields c =
    origin_field c.origin ∷ ending_word c.connection.ending
    ∷ decimal c.connection.tally.after_its_end ∷ losing_field c.connection.losing_data ∷ []

-- the fields of a connection
abbrev pub connection_fields : Option ℕ → ℕ → Compared → List (List ℕ)
connection_fields clock racks c = own_fields clock racks c.connection ++ end_fields c

-- the record of these fields, as the kit's CSV writer writes it
abbrev pub csv_line : List (List ℕ) → List ℕ
csv_line fields = row_text default_writer fields

-- the record of a connection
abbrev pub connection_record : Option ℕ → ℕ → Compared → List ℕ
connection_record clock racks c = csv_line (connection_fields clock racks c)

-- the names of the fields, and a record for each connection
abbrev pub table_csv : Option ℕ → ℕ → List Compared → List ℕ
table_csv clock racks cs = csv_line header ++ flat_map (connection_record clock racks) cs

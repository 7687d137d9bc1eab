-- A connection as JSON. The members of an object are in the order of their names (docs/FORMATS.md).
-- A clock is when record 1 was captured, if moments are counted from 1970.
use Rattle.std.specs.Prelude.{ℕ, List, ◌++◌, Option, Some, None, codes, flat_map}
use Rattle.serde_json.specs.Data.{Data, boolean, member, no_members, null, number, object, string, unsigned}
use Rattle.serde_json.specs.Written.{compact_text}
use Rattle.bm_base.specs.declared.ids.ServerId.{ServerId}
use Rattle.bm_core.specs.declared.events.Cause.{Cause}
use Rattle.bm_trace.specs.Words.{cause_word, endpoint}
use Rattle.bm_connections.specs.declared.compared.Compared.{Compared}
use Rattle.bm_connections.specs.declared.compared.Origin.{Origin}
use Rattle.bm_connections.specs.declared.connection.Break.{Break}
use Rattle.bm_connections.specs.declared.connection.Connection.{Connection}
use Rattle.bm_connections.specs.declared.connection.Forwarding.{Forwarding}
use Rattle.bm_connections.specs.declared.connection.Sight.{Sight}
use Rattle.bm_connections.specs.declared.connection.Tally.{Tally}
use Rattle.bm_connections.specs.Text.{ending_word, origin_word, shown_rack}
use Rattle.bm_connections.specs.Times.{shown}
use Rattle.bm_connections_cli.specs.Csv.{verdict_field}

abbrev pub count : ℕ → Data
count n = number (unsigned n)

-- a record of the capture
abbrev pub sight_value : Option ℕ → Sight → Data
sight_value clock s =
    object
    (member (codes "at_ns") (count (shown clock s.moment.0))
    (member (codes "packet") (count s.number)
    no_members))

-- a server's number, or null
abbrev pub server_value : Option ServerId → Data
server_value None = null
server_value (Some server) = count server.0

-- a rack, or null
abbrev pub rack_value : Option ℕ → Data
rack_value None = null
rack_value (Some rack) = count rack

-- a cause's word, or null
abbrev pub cause_value : Option Cause → Data
cause_value None = null
cause_value (Some cause) = string (cause_word cause)

-- the first packet that broke or refused the connection, or null
abbrev pub break_or_null : Option ℕ → Option Break → Data
break_or_null clock None = null
break_or_null clock (Some b) =
    object
    (member (codes "at_ns") (count (shown clock b.clock.0))
    (member (codes "cause") (cause_value b.cause)
    (member (codes "packet") (count b.packet)
    (member (codes "server") (count b.server.0)
    (member (codes "verdict") (string (verdict_field b.verdict))
    no_members)))))

-- the last packet that was forwarded, or null
abbrev pub forward_value : Option ℕ → Option Forwarding → Data
forward_value clock None = null
forward_value clock (Some x) =
    object
    (member (codes "at_ns") (count (shown clock x.clock.0))
    (member (codes "packet") (count x.packet)
    (member (codes "server") (count x.server.0)
    (member (codes "wait_ns") (count x.wait)
    no_members))))

abbrev pub tally_value : Tally → Data
tally_value t =
    object
    (member (codes "accepted") (count t.accepted)
    (member (codes "after_its_end") (count t.after_its_end)
    (member (codes "dropped") (count t.dropped)
    (member (codes "forwarded") (count t.forwarded)
    (member (codes "processed") (count t.processed)
    (member (codes "reset") (count t.reset)
    (member (codes "stray") (count t.stray)
    no_members)))))))

-- what broke a connection, or null
abbrev pub origin_value : Option Origin → Data
origin_value None = null
origin_value (Some origin) = string (origin_word origin)

-- how a connection ended, whether it loses data, and what broke it
abbrev pub outcome_value : Option Origin → Connection → Data
outcome_value origin c =
    object
    (member (codes "end") (string (ending_word c.ending))
    (member (codes "losing_data") (boolean c.losing_data)
    (member (codes "why") (origin_value origin)
    no_members)))

abbrev pub connection_value : Option ℕ → ℕ → Option Origin → Connection → Data
connection_value clock racks origin c =
    object
    (member (codes "arrivals") (tally_value c.tally)
    (member (codes "broken") (break_or_null clock c.broken)
    (member (codes "client") (string (endpoint c.flow.src c.flow.sport))
    (member (codes "forward") (forward_value clock c.forwarded)
    (member (codes "last") (sight_value clock c.last)
    (member (codes "opened") (sight_value clock c.first)
    (member (codes "outcome") (outcome_value origin c)
    (member (codes "rack") (rack_value (shown_rack racks c.server))
    (member (codes "refused") (break_or_null clock c.refused)
    (member (codes "server") (server_value c.server)
    (member (codes "service") (string (endpoint c.flow.dst c.flow.dport))
    no_members)))))))))))

-- the value on a line of its own
abbrev pub json_line : Option ℕ → ℕ → Compared → List ℕ
json_line clock racks c =
    compact_text (connection_value clock racks c.origin c.connection) ++ codes "\n"

-- a line for each connection
abbrev pub json_lines : Option ℕ → ℕ → List Compared → List ℕ
json_lines clock racks cs = flat_map (json_line clock racks) cs

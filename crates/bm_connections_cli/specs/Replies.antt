-- What servers replied to the commands `close` and `retire` (docs/FORMATS.md). A clock is when
-- record 1 was captured, if moments are written in UTC.
use Rattle.std.specs.Prelude.{ℕ, ◌==◌, Bool, true, false, if◌then◌else◌, List, [], ◌∷◌, Option}
use Rattle.std.specs.Prelude.{codes, decimal, flat_map}
use Rattle.bm_core.specs.declared.events.Event.{Event}
use Rattle.bm_core.specs.declared.events.What.{What}
use Rattle.bm_core.specs.declared.events.What.TheVariants.{Close, Retire}
use Rattle.bm_trace.specs.Words.{endpoint, line, retirement_words}
use Rattle.bm_connections.specs.Times.{time_text}

-- whether the server held the connection
abbrev pub closed_word : Bool → List ℕ
closed_word true = codes "closed"
closed_word false = codes "none"

-- the line of a reply at this time, if the event is one; for a request to retire a server, only its
-- first shard's reply
abbrev pub reply_line : Option ℕ → ℕ → What → List ℕ
reply_line clock time (Close server flow closed) =
    line (codes "close")
    (decimal server.0 ∷ endpoint flow.src flow.sport ∷ endpoint flow.dst flow.dport
    ∷ codes "at" ∷ time_text clock time ∷ closed_word closed ∷ [])
reply_line clock time (Retire server shard at result) =
    if shard == 0
    then line (codes "retire")
    (decimal server.0 ∷ codes "at" ∷ time_text clock at.0 ∷ retirement_words result)
    else []
reply_line clock time _ = []

-- a line for each such reply among these events
abbrev pub replies_text : Option ℕ → List Event → List ℕ
replies_text clock events =
    flat_map (λ (e : Event). reply_line clock e.clock.0 e.what) events

-- The answer in one line: how many connections there are, what became of them, and which timeout
-- would have been enough (docs/DEFINITIONS.md).
use Rattle.std.specs.Prelude.{ℕ, Bool, true, false, List, [], ◌∷◌, ◌++◌, length, count_by}
use Rattle.std.specs.Prelude.{Option, Some, None, is_some, option_map, codes, decimal}
use Rattle.bm_trace.specs.Words.{spaced}
use Rattle.bm_connections.specs.declared.answer.Answer.{Answer}
use Rattle.bm_connections.specs.declared.compared.Compared.{Compared}
use Rattle.bm_connections.specs.declared.compared.Origin.{Origin}
use Rattle.bm_connections.specs.declared.compared.Origin.TheVariants.{Anyway, ByTheChange}
use Rattle.bm_connections.specs.declared.connection.Connection.{Connection}
use Rattle.bm_connections.specs.declared.late.LongestLate.{LongestLate}

-- the change broke it
abbrev pub is_by_the_change : Option Origin → Bool
is_by_the_change None = false
is_by_the_change (Some ByTheChange) = true
is_by_the_change (Some Anyway) = false

-- the answer for these connections, by how they compare, by how many are left open and away, and
-- by the longest late wait
abbrev pub answer_of : List Connection → List Compared → ℕ → Option LongestLate → Answer
answer_of cs compared left late = record {
  connections = length cs;
  broken = count_by (λ c. is_some c.broken) cs;
  by_the_change = count_by (λ c. is_by_the_change c.origin) compared;
  losing_data = count_by (λ c. c.losing_data) cs;
  refused = count_by (λ c. is_some c.refused) cs;
  open_at_end = left;
  timeout_s = option_map (λ l. l.timeout_s) late;
}

-- a word and a number
abbrev pub count_text : List ℕ → ℕ → List ℕ
count_text word n = spaced (word ∷ decimal n ∷ [])

-- the timeout, if a packet came too late
abbrev pub timeout_text : Option ℕ → List ℕ
timeout_text None = []
timeout_text (Some seconds) = count_text (codes "timeout_s") seconds

-- how many connections there are, how many are broken, how many of these by the change, and how many
-- lose data
abbrev pub counts_text : Answer → List ℕ
counts_text a =
    count_text (codes "connections") a.connections
    ++ count_text (codes "broken") a.broken
    ++ count_text (codes "by-the-change") a.by_the_change
    ++ count_text (codes "losing-data") a.losing_data

abbrev pub answer_line : Answer → List ℕ
answer_line a =
    codes "answer" ++ counts_text a ++ count_text (codes "refused") a.refused
    ++ count_text (codes "open-at-end") a.open_at_end
    ++ (timeout_text a.timeout_s ++ 10 ∷ [])

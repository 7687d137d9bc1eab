-- How many connections live longer than the lifetime of the script (docs/LIFETIMES.md).
use Rattle.std.specs.Prelude.{ℕ, ◌-◌, Bool, false, nat_lt, List, [], ◌∷◌, length, filter}
use Rattle.std.specs.Prelude.{Option, Some, None, codes, decimal}
use Rattle.bm_trace.specs.Words.{line}
use Rattle.bm_connections.specs.declared.connection.Connection.{Connection}
use Rattle.bm_connections_cli.specs.Lifetime.{life_text}

-- how long the connection lives: from the moment of its first packet to that of its last
abbrev pub age : Connection → ℕ
age c = c.last.moment.0 - c.first.moment.0

-- the connection lives longer than this
abbrev pub lives_longer : Option ℕ → Connection → Bool
lives_longer None c = false
lives_longer (Some most) c = nat_lt most (age c)

-- how many of these connections live longer than this
abbrev pub outlived : Option ℕ → List Connection → ℕ
outlived life table = length (filter (lives_longer life) table)

-- the line of a script with this lifetime: how many connections live longer, and how many there are
abbrev pub outlived_line : Option ℕ → ℕ → ℕ → List ℕ
outlived_line life longer connections =
    line (codes "lifetime")
    (life_text life ∷ codes "outlived-by" ∷ decimal longer ∷ codes "of" ∷ decimal connections ∷ [])

-- the same of these connections
abbrev pub outlived_text : Option ℕ → List Connection → List ℕ
outlived_text life table = outlived_line life (outlived life table) (length table)

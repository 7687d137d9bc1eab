-- What the program promises of the line of a generated load.
use Rattle.std.specs.Prelude.{◌≡◌, ℕ, ◌*◌, List, ◌++◌, codes, decimal}
use Rattle.bm_core.specs.declared.events.History.{History}
use Rattle.bm_load.specs.Loaded.{IsRunOfLoad, summary}
use Rattle.bm_trace.specs.Totals.{totals_of}

-- the line of a load of n connections
abbrev pub load_line : ℕ → List ℕ
load_line n =
    codes "load " ++ decimal n ++ codes " packets " ++ decimal (4 * n) ++ codes " accepted "
    ++ decimal n ++ codes " processed " ++ decimal (3 * n) ++ codes " reset 0 dropped 0 lost 0\n"

-- these octets are the line of a load of n connections
pub record IsSummaryOf (n : ℕ) (octets : List ℕ) : Type 0 where
  -- there is a run of the load in threads, and the line has its totals
  pub history : History
  pub run : IsRunOfLoad n history
  pub printed : octets ≡ summary n (totals_of history)
  -- so it is the same line whatever the threads do
  pub line : octets ≡ load_line n

-- How lines reach a sink in pieces.
use Rattle.std.specs.Prelude.{◌≡◌, ℕ, ◌<◌, List, ◌++◌, length, reverse, Option}
use Rattle.std.specs.Io.KnownBytes.{Appends}
use Rattle.bm_core.specs.declared.events.History.{History}
use Rattle.bm_trace.specs.Report.{event_lines, note_line, record_lines, totals_line}
use Rattle.bm_trace.specs.Totals.{totals_of}

-- what waited, and then the text, was written except for its last part, which now waits
pub record HandsOn (before : Option (List ℕ)) (waited : List ℕ) (now : Option (List ℕ))
    (waits text : List ℕ) : Type 0 where
  pub sent : List ℕ
  pub appended : Appends before now sent
  pub whole : sent ++ waits ≡ waited ++ text

-- the same, except that its last part is lost
pub record HandsPart (before : Option (List ℕ)) (waited : List ℕ) (now : Option (List ℕ))
    (text : List ℕ) : Type 0 where
  pub lost : List ℕ
  pub on : HandsOn before waited now lost text

-- the same, and the part that is lost isn't empty
pub record HandsLess (before : Option (List ℕ)) (waited : List ℕ) (now : Option (List ℕ))
    (text : List ℕ) : Type 0 where
  pub part : HandsPart before waited now text
  pub some : 0 < length part.lost

-- the lines of all events, and after them those of all records
abbrev pub all_lines : History → List ℕ
all_lines h =
    event_lines h.stage (reverse h.events)
    ++ record_lines (reverse h.events) 1 h.stage.capture.records

-- the last lines: the note and the totals
abbrev pub last_lines : History → List ℕ
last_lines h = note_line h.stage.capture.cut ++ totals_line (totals_of h)

-- what comes after the lines of the events: the lines of the records, the note and the totals
abbrev pub lines_after : History → List ℕ
lines_after h = record_lines (reverse h.events) 1 h.stage.capture.records ++ last_lines h

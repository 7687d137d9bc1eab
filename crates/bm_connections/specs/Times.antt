-- Times in text: in seconds, or in UTC in the form of RFC 3339, section 5.6.
use Rattle.std.specs.Prelude.{ℕ, zero, suc, ◌+◌, ◌-◌, ◌/◌, ◌%◌, ◌^◌, min, nat_lt, if◌then◌else◌}
use Rattle.std.specs.Prelude.{List, [], ◌∷◌, ◌++◌, Option, Some, None, codes, decimal, pos}
use Rattle.jiff_core.specs.Calendar.{days_in_month}

-- NUMBERS

-- the last k digits of a number
unfoldable pub last_digits : ℕ → ℕ → List ℕ
last_digits zero n = []
last_digits (suc k) n = (48 + n / 10 ^ k % 10) ∷ last_digits k n

-- nanoseconds as seconds
unfoldable pub seconds_text : ℕ → List ℕ
seconds_text ns = decimal (ns / 1_000_000_000) ++ codes "." ++ last_digits 9 ns

-- DAYS

-- a day of the Gregorian calendar
pub record Day : Type 0 where
  pub year : ℕ
  pub month : ℕ
  pub day : ℕ

-- the day after
abbrev pub day_after : Day → Day
day_after d =
    if nat_lt d.day (days_in_month (pos d.year) d.month)
    then record { year = d.year; month = d.month; day = d.day + 1 }
    else if nat_lt d.month 12 then record { year = d.year; month = d.month + 1; day = 1 }
    else record { year = d.year + 1; month = 1; day = 1 }

-- the day n days after 1970-01-01
unfoldable pub days_after_1970 : ℕ → Day
days_after_1970 zero = record { year = 1970; month = 1; day = 1 }
days_after_1970 (suc n) = day_after (days_after_1970 n)

-- `2026-11-28`
abbrev pub date_text : Day → List ℕ
date_text d =
    last_digits 4 d.year ++ codes "-" ++ last_digits 2 d.month ++ codes "-" ++ last_digits 2 d.day

-- a time of day, by its seconds: `02:51:45`
abbrev pub clock_text : ℕ → List ℕ
clock_text s =
    last_digits 2 (s / 3600) ++ codes ":" ++ last_digits 2 (s / 60 % 60)
    ++ codes ":" ++ last_digits 2 (s % 60)

-- the instant ns nanoseconds after 1970-01-01T00:00:00Z: `2026-11-28T02:51:45.000021000Z`
abbrev pub instant_text : ℕ → List ℕ
instant_text ns =
    date_text (days_after_1970 (ns / 86_400_000_000_000))
    ++ codes "T" ++ clock_text (ns / 1_000_000_000 % 86_400)
    ++ codes "." ++ last_digits 9 ns ++ codes "Z"

-- MOMENTS

-- a moment in nanoseconds since record 1, or since 1970 if it is known when record 1 was captured,
-- up to 2 ^ 64 - 1 in the year 2554
abbrev pub shown : Option ℕ → ℕ → ℕ
shown None moment = moment
shown (Some began) moment = min (began + moment) (2 ^ 64 - 1)

-- a moment in seconds since record 1, or in UTC
abbrev pub time_text : Option ℕ → ℕ → List ℕ
time_text None moment = seconds_text moment
time_text (Some began) moment = instant_text (shown (Some began) moment)

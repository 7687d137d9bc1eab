-- The scale of a drawing: 1,000 units for the time. A clock is when record 1 was captured, if
-- moments are written in UTC.
use Rattle.std.specs.Prelude.{ℕ, ◌+◌, ◌-◌, ◌*◌, ◌/◌, ◌%◌, ◌^◌, max, if◌then◌else◌, nat_lt, ◌==◌}
use Rattle.std.specs.Prelude.{List, [], ◌++◌, codes, decimal, length, map, Option, Some, None}
use Rattle.std.specs.List.{range_with_len}
use Rattle.bm_connections.specs.Times.{shown}

-- where a moment is drawn, on an axis of span nanoseconds
abbrev pub x : ℕ → ℕ → ℕ
x span moment = 40 + moment * 1000 / max 1 span

-- 1 with as many zeros as the number has digits after its first
abbrev pub decade : ℕ → ℕ
decade n = 10 ^ (length (decimal n) - 1)

-- a fifth or a half of a power of ten, or the power
abbrev pub step_of : ℕ → ℕ → ℕ
step_of power times =
    if nat_lt times 2 then power / 5 else if nat_lt times 5 then power / 2 else power

-- a step for at most ten steps
abbrev pub decimal_step : ℕ → ℕ
decimal_step n = max 1 (step_of (decade (max 1 n)) (max 1 n / decade (max 1 n)))

-- steps are nanoseconds below two minutes, minutes below two hours, and hours
abbrev pub unit : ℕ → ℕ
unit span =
    if nat_lt span 120_000_000_000 then 1
    else if nat_lt span 7_200_000_000_000 then 60_000_000_000 else 3_600_000_000_000

-- how many nanoseconds there are between two ticks of an axis of span nanoseconds
abbrev pub tick_step : ℕ → ℕ
tick_step span = unit span * decimal_step (span / unit span)

-- how long after an instant the next multiple of the step comes
abbrev pub first_tick : ℕ → ℕ → ℕ
first_tick instant step = (step - instant % step) % step

-- the moments of the ticks: those that are multiples of the step
abbrev pub ticks_from : ℕ → ℕ → ℕ → List ℕ
ticks_from first step span =
    map (λ number. first + number * step) (range_with_len 0 ((span - first) / step + 1))

abbrev pub tick_moments : Option ℕ → ℕ → List ℕ
tick_moments clock span =
    ticks_from (first_tick (shown clock 0) (tick_step span)) (tick_step span) span

-- SECONDS

-- three digits of a number below 1,000
abbrev pub three_digits : ℕ → List ℕ
three_digits n = decimal (n / 100) ++ decimal (n / 10 % 10) ++ decimal (n % 10)

abbrev pub nanoseconds : ℕ → ℕ → List ℕ
nanoseconds step moment = if step % 1000 == 0 then [] else three_digits (moment % 1000)

abbrev pub microseconds : ℕ → ℕ → List ℕ
microseconds step moment =
    if step % 1000000 == 0 then []
    else three_digits (moment / 1000 % 1000) ++ nanoseconds step moment

abbrev pub milliseconds : ℕ → ℕ → List ℕ
milliseconds step moment =
    if step % 1000000000 == 0 then []
    else codes "." ++ three_digits (moment / 1000000 % 1000) ++ microseconds step moment

-- a moment in seconds, with as many groups of three digits after the point as multiples of the step
-- need
unfoldable pub seconds : ℕ → ℕ → List ℕ
seconds step moment = decimal (moment / 1000000000) ++ milliseconds step moment ++ codes " s"

-- UTC

-- two digits of a number below 100
abbrev pub two_digits : ℕ → List ℕ
two_digits n = decimal (n / 10) ++ decimal (n % 10)

-- a time of day, by its seconds: `21:02:11`
unfoldable pub time_of_day : ℕ → List ℕ
time_of_day s =
    two_digits (s / 3600) ++ codes ":" ++ two_digits (s / 60 % 60) ++ codes ":" ++ two_digits (s % 60)

-- the time of day of an instant, with as many groups of three digits as multiples of the step need
abbrev pub clock_time : ℕ → ℕ → List ℕ
clock_time step instant =
    time_of_day (instant / 1_000_000_000 % 86_400) ++ milliseconds step instant

-- a moment at the axis: in seconds, or in UTC
abbrev pub tick_words : Option ℕ → ℕ → ℕ → List ℕ
tick_words None step moment = seconds step moment
tick_words (Some began) step moment = clock_time step (shown (Some began) moment)

-- The date of a day by its number, and the text of an instant.
use Rattle.std.proofs.Common.{◌≡◌, ℕ, zero, suc, ◌+◌, ◌*◌, ◌/◌, ◌%◌, ◌^◌, ◌<◌, ◌≤◌, List, [], ◌∷◌, ◌++◌}
use Rattle.std.proofs.Common.{inl, inr, refl, sym, ap, ap₂, ◌∙◌, arith, false, Some, Option, Bool}
use Rattle.std.proofs.Common.{append_assoc}
use Rattle.std.proofs.Common.{pos, ◌≤ℤ◌, neg_ℤ}
use Rattle.std.specs.Prelude.{codes}
use Rattle.std.proofs.lemmas.Bool.{cases_lt, lt-ltb, le-ltb}
use Rattle.jiff_core.specs.declared.civil.date.Date.{Date}
use Rattle.jiff_core.specs.declared.civil.time.Time.{Time}
use Rattle.jiff_core.specs.declared.civil.datetime.DateTime.{DateTime}
use Rattle.jiff_core.specs.Calendar.{IsCivilDate, days_from_civil, days_in_month}
use Rattle.jiff_core.specs.Date.{epoch_day}
use Rattle.jiff_core.specs.DateTime.{civil_nanos}
use Rattle.jiff_core.specs.Time.{time_nanos}
use Rattle.jiff_core.proofs.CalendarLemmas.{days_in_month_bounds, days_from_civil-day_count, day_count-epoch}
use Rattle.jiff_core.proofs.DateLemmas.{epoch_day_injective, days_from_civil-day, days_from_civil-next_month}
use Rattle.jiff_core.proofs.DateLemmas.{days_from_civil-next_year, days_from_civil-max}
use Rattle.jiff_core.proofs.DateTimeLemmas.{civil_nanos-parts, time_nanos_bound}
use Rattle.jiff_core.proofs.SignedLemmas.{signed_arith}
use Rattle.jiff_core.specs.declared.timestamp.Timestamp.{Timestamp}
use Rattle.jiff_fmt.specs.declared.temporal.printer.DateTimePrinter.{DateTimePrinter}
use Rattle.jiff_fmt.specs.Printer.{IsTimestampText, options}
use Rattle.jiff_fmt.specs.Text as Text
use Rattle.bm_connections.specs.Times.{Day, day_after, days_after_1970, date_text, clock_text, instant_text}
use Rattle.bm_connections.specs.Times.{last_digits}
use Rattle.bm_connections.proofs.Digits.{two, four, nine_places}

-- the calendar has this day, and it is the day of this number
record IsDay (n : ℕ) (d : Day) : Type 0 where
  civil : IsCivilDate (pos d.year) d.month d.day
  number : days_from_civil (pos d.year) d.month d.day ≡ pos n

made : ℕ → ℕ → ℕ → Day
made y m d = record { year = y; month = m; day = d }

within : (n y m d : ℕ) → IsDay n (made y m d) → d < days_in_month (pos y) m → IsDay (suc n) (made y m (d + 1))
unfolding made
within n y m d is below = record {
  civil = (is.civil.0, is.civil.1, (omega arith, omega arith));
  number =
      let next = days_from_civil-day (pos y) m d (d + 1) (is.civil.2.0) (omega arith) in
      omega (arith, signed_arith, next, is.number);
}

month_end : (n y m d : ℕ) → IsDay n (made y m d) → d ≡ days_in_month (pos y) m → m < 12 →
    IsDay (suc n) (made y (m + 1) 1)
unfolding made
month_end n y m d is last below = record {
  civil =
      let long = days_in_month_bounds (pos y) (m + 1) in
      (is.civil.0, (omega arith, omega arith), (omega arith, omega arith));
  number =
      let next = days_from_civil-next_month (pos y) m d (is.civil.1.0) last in
      omega (arith, signed_arith, next, is.number);
}

year_end : (n y m d : ℕ) → n < 2_932_896 → IsDay n (made y m d) → d ≡ days_in_month (pos y) m → m ≡ 12 →
    IsDay (suc n) (made (y + 1) 1 1)
unfolding made
year_end n y m d small is last december =
    let long : d ≡ 31 = last ∙ ap (days_in_month (pos y)) december in
    let here : days_from_civil (pos y) 12 31 ≡ pos n =
    sym (ap₂ (days_from_civil (pos y)) december long) ∙ is.number in
    let low : neg_ℤ (pos 10000) ≤ℤ pos y = omega (arith, signed_arith) in
    let next = days_from_civil-next_year (pos y) (pos (y + 1)) low refl in
    elim (cases_lt y 9999) [
      | inl early ↦ record {
        civil = (
          (omega (arith, signed_arith), omega (arith, signed_arith)),
          (omega arith, omega arith),
          (omega arith, omega arith),
        );
        number = omega (arith, signed_arith, next, here);
      }
      | inr late ↦
          let same : y ≡ 9999 = omega (arith, signed_arith, is.civil.0) in
          let max : pos n ≡ pos 2_932_896 = sym here ∙ ap (λ z. days_from_civil (pos z) 12 31) same
          ∙ days_from_civil-max in
          absurd (omega (arith, signed_arith, max))
    ]

day_next : (n : ℕ) (d : Day) → n < 2_932_896 → IsDay n d → IsDay (suc n) (day_after d)
unfolding made
day_next n d small is = elim (cases_lt d.day (days_in_month (pos d.year) d.month)) [
  | inl below ↦ rw (lt-ltb _ _ below) (within n d.year d.month d.day is below)
  | inr above ↦
      let last : d.day ≡ days_in_month (pos d.year) d.month = omega (arith, is.civil.2) in
      elim (cases_lt d.month 12) [
        | inl month ↦ rw (le-ltb _ _ above, lt-ltb _ _ month) (month_end n d.year d.month d.day is last month)
        | inr december ↦
            let is_last : d.month ≡ 12 = omega (arith, is.civil.1) in
            rw (le-ltb _ _ above, le-ltb _ _ december) (year_end n d.year d.month d.day small is last is_last)
      ]
]

days_are : (n : ℕ) → n ≤ 2_932_896 → IsDay n (days_after_1970 n)
unfolding days_after_1970
days_are zero small = record {
  civil = (
    (omega (arith, signed_arith), omega (arith, signed_arith)),
    (omega arith, omega arith),
    (omega arith, omega arith),
  );
  number = omega (arith, signed_arith, days_from_civil-day_count, day_count-epoch);
}
days_are (suc n) small = day_next n (days_after_1970 n) (omega arith) (days_are n (omega arith))

-- a date by its number
pub date_is : (n : ℕ) (d : Date) → n ≤ 2_932_896 → epoch_day d ≡ pos n →
    (d.year ≡ pos (days_after_1970 n).year) × (d.month ≡ (days_after_1970 n).month)
    × (d.day ≡ (days_after_1970 n).day)
date_is n d small number =
    let is = days_are n small in
    let a = days_after_1970 n in
    let same : Date = record {
      year = pos a.year;
      month = a.month;
      day = a.day;
      year_in = is.civil.0;
      month_in = is.civil.1;
      day_in = is.civil.2;
    } in
    epoch_day_injective d same (number ∙ sym is.number)

-- THE TEXT

date_written : (n : ℕ) (d : Date) → n ≤ 2_932_896 → epoch_day d ≡ pos n →
    Text.date_text d ≡ date_text (days_after_1970 n)
date_written n d small number =
    let is = date_is n d small number in
    let a = days_after_1970 n in
    let year : Text.year_text d.year ≡ last_digits 4 a.year =
    ap Text.year_text (is.0) ∙ four a.year (omega (arith, signed_arith, (days_are n small).civil.0)) in
    let month : Text.pad2 d.month ≡ last_digits 2 a.month = ap Text.pad2 (is.1)
    ∙ two a.month (omega (arith, (days_are n small).civil.1)) in
    let long = days_in_month_bounds (pos a.year) a.month in
    let day : Text.pad2 d.day ≡ last_digits 2 a.day = ap Text.pad2 (is.2)
    ∙ two a.day (omega (arith, (days_are n small).civil.2, long)) in
    rw (year, month, day) refl

clock_is : (h m s sub ns : ℕ) → h < 24 → m < 60 → s < 60 → sub < 1_000_000_000 →
    (h * 3600 + m * 60 + s) * 1_000_000_000 + sub ≡ ns % 86_400_000_000_000 →
    (h ≡ ns / 1_000_000_000 % 86_400 / 3600) × (m ≡ ns / 1_000_000_000 % 86_400 / 60 % 60)
    × (s ≡ ns / 1_000_000_000 % 86_400 % 60) × (sub ≡ ns % 1_000_000_000)
clock_is h m s sub ns hour minute second below is =
    let left : sub ≡ ns % 1_000_000_000 = omega (arith, is) in
    let whole : h * 3600 + m * 60 + s ≡ ns / 1_000_000_000 % 86_400 = omega (arith, is) in
    (omega (arith, whole), omega (arith, whole), omega (arith, whole), left)

abbrev shown : List ℕ → List ℕ → List ℕ → List ℕ → List ℕ
shown h m s f = h ++ 58 ∷ m ++ 58 ∷ s ++ f

time_written : (ns : ℕ) (t : Time) → time_nanos t ≡ ns % 86_400_000_000_000 →
    Text.time_text (Some 9) t ≡ clock_text (ns / 1_000_000_000 % 86_400) ++ codes "." ++ last_digits 9 ns
time_written ns t is =
    let parts = clock_is t.hour t.minute t.second t.subsec_nanosecond ns (omega arith) (omega arith) (omega arith)
    (omega arith) is in
    let hour : Text.pad2 t.hour ≡ last_digits 2 (ns / 1_000_000_000 % 86_400 / 3600) =
    two t.hour (omega arith) ∙ ap (last_digits 2) (parts.0) in
    let minute : Text.pad2 t.minute ≡ last_digits 2 (ns / 1_000_000_000 % 86_400 / 60 % 60) =
    two t.minute (omega arith) ∙ ap (last_digits 2) (parts.1) in
    let second : Text.pad2 t.second ≡ last_digits 2 (ns / 1_000_000_000 % 86_400 % 60) =
    two t.second (omega arith) ∙ ap (last_digits 2) (parts.2) in
    let places : Text.places 9 1_000_000_000 t.subsec_nanosecond ≡ last_digits 9 ns =
    ap (Text.places 9 1_000_000_000) (parts.3) ∙ nine_places ns in
    ap₂ (λ h m. shown h m (Text.pad2 t.second) (46 ∷ Text.places 9 1_000_000_000 t.subsec_nanosecond)) hour minute
    ∙ ap₂ (λ s f. shown (last_digits 2 (ns / 1_000_000_000 % 86_400 / 3600))
    (last_digits 2 (ns / 1_000_000_000 % 86_400 / 60 % 60)) s (46 ∷ f)) second places
    ∙ simp append_assoc refl

pub instant_written : (ns : ℕ) (dt : DateTime) → ns < 2 ^ 64 → civil_nanos dt ≡ pos ns →
    Text.datetime_text false 84 (Some 9) dt ++ Text.zulu_text false ≡ instant_text ns
instant_written ns dt below is =
    let whole = civil_nanos-parts dt in
    let bound = time_nanos_bound dt.time in
    let day : epoch_day dt.date ≡ pos (ns / 86_400_000_000_000) = omega (arith, signed_arith, whole, is, bound) in
    let left : time_nanos dt.time ≡ ns % 86_400_000_000_000 = omega (arith, signed_arith, whole, is, bound) in
    ap₂ (λ d t. (d ++ 84 ∷ t) ++ 90 ∷ []) (date_written (ns / 86_400_000_000_000) dt.date (omega arith) day)
    (time_written ns dt.time left) ∙ simp append_assoc refl

-- what the printer gives
pub printed : (p : DateTimePrinter) (ns : ℕ) (stamp : Timestamp) (text : List ℕ) → ns < 2 ^ 64 →
    options p ≡ (false, 84, Some 9) → stamp.nanosecond ≡ pos ns → IsTimestampText p stamp text →
    text ≡ instant_text ns
printed p ns stamp text below set is made =
    made.2 ∙ ap (λ (o : Bool × ℕ × Option ℕ). Text.datetime_text o.0 o.1 o.2 made.0 ++ Text.zulu_text o.0) set
    ∙ instant_written ns made.0 below (made.1 ∙ is)

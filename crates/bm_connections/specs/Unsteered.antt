-- How many records of a capture aren't steered, and for which reasons (docs/DEFINITIONS.md).
use Rattle.std.specs.Prelude.{ℕ, Bool, true, false, ◌==◌, nat_lt, List, [], ◌∷◌, ◌++◌, filter, map}
use Rattle.std.specs.Prelude.{count_by, codes, decimal, flat_map, if◌then◌else◌}
use Rattle.bm_base.specs.declared.capture.Body.{Body}
use Rattle.bm_base.specs.declared.capture.Body.TheVariants.{Steerable, Unsteered as unsteered_for}
use Rattle.bm_base.specs.declared.capture.Capture.{Capture}
use Rattle.bm_base.specs.declared.capture.Reason.{Reason}
use Rattle.bm_base.specs.declared.capture.Reason.TheVariants.{ShortLink, NotIpv4, ShortIp}
use Rattle.bm_base.specs.declared.capture.Reason.TheVariants.{NotVersion4, BadHeaderLength}
use Rattle.bm_base.specs.declared.capture.Reason.TheVariants.{BadTotalLength, Fragment, NotTcp}
use Rattle.bm_base.specs.declared.capture.Reason.TheVariants.{ShortTcp, BadOffset, OtherDestination}
use Rattle.bm_base.specs.declared.capture.Reason.TheVariants.{TooLong, Later}
use Rattle.bm_base.specs.declared.capture.Record.{Record}
use Rattle.bm_trace.specs.Words.{reason_word, spaced}
use Rattle.bm_connections.specs.declared.unsteered.ReasonCount.{ReasonCount}
use Rattle.bm_connections.specs.declared.unsteered.Unsteered.{Unsteered}

-- HOW MANY

-- a number for each reason, to compare reasons by
abbrev pub number : Reason → ℕ
number ShortLink = 0
number NotIpv4 = 1
number ShortIp = 2
number NotVersion4 = 3
number BadHeaderLength = 4
number BadTotalLength = 5
number Fragment = 6
number NotTcp = 7
number ShortTcp = 8
number BadOffset = 9
number OtherDestination = 10
number TooLong = 11
number Later = 12

abbrev pub is_unsteered_body : Body → Bool
is_unsteered_body (Steerable s) = false
is_unsteered_body (unsteered_for why) = true

-- the record isn't steered
abbrev pub is_unsteered : Record → Bool
is_unsteered r = is_unsteered_body r.body

abbrev pub is_body_for : Reason → Body → Bool
is_body_for reason (Steerable s) = false
is_body_for reason (unsteered_for why) = number why == number reason

-- the record isn't steered for this reason
abbrev pub is_for : Reason → Record → Bool
is_for reason r = is_body_for reason r.body

-- how many of these records aren't steered for this reason
abbrev pub reason_count : List Record → Reason → ReasonCount
reason_count records reason =
    record { reason = reason; records = count_by (is_for reason) records }

-- in the order in which they are told
abbrev pub all_reasons : List Reason
all_reasons =
    ShortLink ∷ NotIpv4 ∷ ShortIp ∷ NotVersion4 ∷ BadHeaderLength ∷ BadTotalLength ∷ Fragment
    ∷ NotTcp ∷ ShortTcp ∷ BadOffset ∷ OtherDestination ∷ TooLong ∷ Later ∷ []

abbrev pub occurs : ReasonCount → Bool
occurs c = nat_lt 0 c.records

-- the counts of the reasons that occur
abbrev pub reasons_of : List Record → List ReasonCount
reasons_of records = filter occurs (map (reason_count records) all_reasons)

-- how many records of a capture aren't steered, and how many for each reason that occurs
abbrev pub unsteered : Capture → Unsteered
unsteered capture = record {
  records = count_by is_unsteered capture.records;
  reasons = reasons_of capture.records;
}

-- THE LINE

-- a reason and how many records have it
abbrev pub reason_text : ReasonCount → List ℕ
reason_text c = spaced (reason_word c.reason ∷ decimal c.records ∷ [])

-- the line of what isn't steered
abbrev pub unsteered_line : Unsteered → List ℕ
unsteered_line u =
    codes "unsteered" ++ spaced (decimal u.records ∷ []) ++ flat_map reason_text u.reasons
    ++ codes "\n"

-- the same, or nothing if each record is steered
abbrev pub unsteered_text : Unsteered → List ℕ
unsteered_text u = if nat_lt 0 u.records then unsteered_line u else []

-- The words of the report, and the lines that they make: words are separated by one space, and each
-- line ends with a line feed.
use Rattle.std.specs.Prelude.{ℕ, List, [], ◌∷◌, ◌++◌, Option, Some, None, codes, decimal}
use Rattle.std.specs.Int.{to_be_bytes, w32}
use Rattle.std.specs.Net.Text.{ipv4_text}
use Rattle.bm_base.specs.declared.capture.Reason.{Reason}
use Rattle.bm_base.specs.declared.capture.Reason.TheVariants.{ShortLink, NotIpv4, ShortIp}
use Rattle.bm_base.specs.declared.capture.Reason.TheVariants.{NotVersion4, BadHeaderLength}
use Rattle.bm_base.specs.declared.capture.Reason.TheVariants.{BadTotalLength, Fragment, NotTcp}
use Rattle.bm_base.specs.declared.capture.Reason.TheVariants.{ShortTcp, BadOffset, OtherDestination}
use Rattle.bm_base.specs.declared.capture.Reason.TheVariants.{TooLong, Later}
use Rattle.bm_base.specs.declared.label.Hop.{Hop}
use Rattle.bm_base.specs.declared.label.Hop.TheVariants.{Direct, Chained, Twice}
use Rattle.bm_base.specs.declared.receive.Taken.{Taken}
use Rattle.bm_base.specs.declared.receive.Taken.TheVariants.{Advance, Duplicate, Ahead, Outside}
use Rattle.bm_base.specs.declared.receive.Taken.TheVariants.{Challenge, Ended}
use Rattle.bm_table.specs.declared.plan.Retirement.{Retirement}
use Rattle.bm_table.specs.declared.plan.Retirement.TheVariants.{Done, NotDrained, TooEarly}
use Rattle.bm_core.specs.declared.events.Cause.{Cause}
use Rattle.bm_core.specs.declared.events.Cause.TheVariants.{NeverAccepted, NotHeld, StaleMux}
use Rattle.bm_core.specs.declared.events.Cause.TheVariants.{MovedThrice, ChainLate, SynElsewhere}
use Rattle.bm_core.specs.declared.events.Cause.TheVariants.{Full as FullShard, OldTable}
use Rattle.bm_core.specs.declared.events.Verdict.{Verdict}
use Rattle.bm_core.specs.declared.events.Verdict.TheVariants.{Accept, Process, Forward, Reset, Drop}
use Rattle.bm_core.specs.declared.events.Why.{Why}
use Rattle.bm_core.specs.declared.events.Why.TheVariants.{NoPrevious, ChainExpired, ChainedUnknown}
use Rattle.bm_core.specs.declared.events.Why.TheVariants.{Silent, Full, Retired}

-- each word after a space
abbrev pub spaced : List (List ℕ) → List ℕ
spaced [] = []
spaced (word ∷ words) = 32 ∷ word ++ spaced words

-- the line of a first word and those after it
abbrev pub line : List ℕ → List (List ℕ) → List ℕ
line first words = first ++ spaced words ++ 10 ∷ []

-- a name and a number, each after a space
unfoldable pub counted : List ℕ → ℕ → List ℕ
counted name n = spaced (name ∷ decimal n ∷ [])

-- an address in dotted notation, a colon, and a port
unfoldable pub endpoint : ℕ → ℕ → List ℕ
endpoint addr port = ipv4_text (to_be_bytes w32 addr) ++ codes ":" ++ decimal port

abbrev pub hop_word : Hop → List ℕ
hop_word Direct = codes "direct"
hop_word Chained = codes "chained"
hop_word Twice = codes "twice"

abbrev pub taken_word : Taken → List ℕ
taken_word Advance = codes "advance"
taken_word Duplicate = codes "duplicate"
taken_word Ahead = codes "ahead"
taken_word Outside = codes "outside"
taken_word Challenge = codes "challenge"
taken_word Ended = codes "ended"

abbrev pub why_word : Why → List ℕ
why_word NoPrevious = codes "no-previous"
why_word ChainExpired = codes "chain-expired"
why_word ChainedUnknown = codes "chained-unknown"
why_word Silent = codes "silent"
why_word Full = codes "full"
why_word Retired = codes "retired"

abbrev pub verdict_words : Verdict → List (List ℕ)
verdict_words Accept = codes "accept" ∷ []
verdict_words (Process taken) = codes "process" ∷ taken_word taken ∷ []
verdict_words (Forward to) = codes "forward" ∷ decimal to.0 ∷ []
verdict_words (Reset why) = codes "reset" ∷ why_word why ∷ []
verdict_words (Drop why) = codes "drop" ∷ why_word why ∷ []

abbrev pub cause_word : Cause → List ℕ
cause_word NeverAccepted = codes "never-accepted"
cause_word NotHeld = codes "not-held"
cause_word StaleMux = codes "stale-mux"
cause_word MovedThrice = codes "moved-thrice"
cause_word ChainLate = codes "chain-late"
cause_word SynElsewhere = codes "syn-elsewhere"
cause_word FullShard = codes "full"
cause_word OldTable = codes "old-table"

abbrev pub because_words : Option Cause → List (List ℕ)
because_words None = []
because_words (Some cause) = codes "because" ∷ cause_word cause ∷ []

abbrev pub retirement_words : Retirement → List (List ℕ)
retirement_words Done = codes "done" ∷ []
retirement_words NotDrained = codes "not-drained" ∷ []
retirement_words (TooEarly bucket) = codes "too-early" ∷ decimal bucket ∷ []

abbrev pub reason_word : Reason → List ℕ
reason_word ShortLink = codes "short-link"
reason_word NotIpv4 = codes "not-ipv4"
reason_word ShortIp = codes "short-ip"
reason_word NotVersion4 = codes "not-version-4"
reason_word BadHeaderLength = codes "bad-header-length"
reason_word BadTotalLength = codes "bad-total-length"
reason_word Fragment = codes "fragment"
reason_word NotTcp = codes "not-tcp"
reason_word ShortTcp = codes "short-tcp"
reason_word BadOffset = codes "bad-offset"
reason_word OtherDestination = codes "other-destination"
reason_word TooLong = codes "too-long"
reason_word Later = codes "later"

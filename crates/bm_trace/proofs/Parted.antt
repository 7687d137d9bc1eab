-- Texts that are written line by line.
use Rattle.std.proofs.Common.{◌≡◌, ℕ, suc, ◌+◌, ◌<◌, ◌≤◌, List, [], ◌∷◌, ◌++◌, length, take, drop, get_or, refl}
use Rattle.std.proofs.Common.{ap, ◌∙◌, sym, arith, append_assoc, length-append, Option, Some, subst}
use Rattle.std.specs.Prelude.{reverse, codes, decimal, Result, Ok, Err, OnErr, OnOk}
use Rattle.std.specs.Io.KnownBytes.{Appends}
use Rattle.std.proofs.lemmas.List.{append-nil, reverse-append, take-append-drop, take_all}
use Rattle.std.proofs.lemmas.Grind.{common_steps}
use Rattle.bm_base.specs.declared.capture.Body.{Body}
use Rattle.bm_base.specs.declared.capture.Body.TheVariants.{Steerable, Unsteered}
use Rattle.bm_base.specs.declared.capture.Record.{Record}
use Rattle.bm_core.specs.declared.events.Event.{Event}
use Rattle.bm_core.specs.declared.events.History.{History}
use Rattle.bm_core.specs.declared.events.Stage.{Stage}
use Rattle.bm_trace.specs.declared.records.End.{End}
use Rattle.bm_trace.specs.declared.sums.Totals.{Totals}
use Rattle.bm_trace.specs.Inside.Ends.{words_of_ends, words_of_record}
use Rattle.bm_trace.specs.Inside.EndTables.{with_later}
use Rattle.bm_io.specs.Written.{WritesPart}
use Rattle.bm_trace.specs.Inside.Parts.{HandsLess, HandsOn, HandsPart, all_lines, last_lines, lines_after}
use Rattle.bm_trace.specs.Report.{end_words, event_line, event_lines, ends_of, note_line, record_lines}
use Rattle.bm_trace.specs.Report.{record_words, text, totals_line}
use Rattle.bm_trace.specs.Totals.{totals_of}
use Rattle.bm_trace.specs.Words.{line}
use Rattle.bm_trace.proofs.Handing.{all_written, both_on, less_after, line_more, line_refused, lines_lost}
use Rattle.bm_trace.proofs.Handing.{part_written, rest_less}
use Rattle.bm_state.proofs.Newest.{reverse_take}

pub on_err : {T E : Type 0} (r : Result T E) (P : Type 0) → P → OnErr r P
on_err (Ok x) P p = tt
on_err (Err e) P p = p

pub err_more : {T E : Type 0} (r : Result T E) (P Q : Type 0) → (P → Q) → OnErr r P → OnErr r Q
err_more (Ok x) P Q f p = tt
err_more (Err e) P Q f p = f p

pub ok_more : {T E : Type 0} (r : Result T E) (P Q : Type 0) → (P → Q) → OnOk r P → OnOk r Q
ok_more (Ok x) P Q f p = f p
ok_more (Err e) P Q f p = tt

-- what was written to memory from the start
pub in_memory : (octets text : List ℕ) (before now : Option (List ℕ)) → before ≡ Some [] → Some octets ≡ now
    → Appends before now text → octets ≡ text
in_memory octets text before now none is all =
    let P : Option (List ℕ) → Type 0 = λ x. Appends x now text
    in let Q : Option (List ℕ) → Type 0 = λ x. Appends (Some []) x text
    in subst Q (sym is) (subst P none all)

-- THE EVENTS

pub later_lines : Stage → List Event → List Event → List ℕ
later_lines stage [] past = []
later_lines stage (e ∷ later) past = later_lines stage later past ++ event_line stage (later ++ past) e

lines_append : (stage : Stage) (later past : List Event) → event_lines stage past
    ++ later_lines stage later past ≡ event_lines stage (later ++ past)
unfolding later_lines
lines_append stage [] past = append-nil (event_lines stage past)
lines_append stage (e ∷ later) past =
    sym (append_assoc (event_lines stage past) (later_lines stage later past) (event_line stage (later ++ past) e))
    ∙ ap (λ x. x ++ event_line stage (later ++ past) e) (lines_append stage later past)

-- the lines of the first events and of the later ones
pub events_whole : (stage : Stage) (events : List Event) (i : ℕ) → event_lines stage (reverse (take i events))
    ++ later_lines stage (reverse (drop i events)) (reverse (take i events)) ≡ event_lines stage (reverse events)
events_whole stage events i =
    lines_append stage (reverse (drop i events)) (reverse (take i events))
    ∙ ap (λ x. event_lines stage x)
    (sym (reverse-append (take i events) (drop i events)) ∙ ap reverse (take-append-drop i events))

-- the same, where the code has the list under another name
events_all : (stage : Stage) (shown events : List Event) (i : ℕ) → shown ≡ events
    → event_lines stage (reverse (take i shown))
    ++ later_lines stage (reverse (drop i shown)) (reverse (take i shown)) ≡ event_lines stage (reverse events)
events_all stage shown events i same =
    events_whole stage shown i ∙ ap (λ xs. event_lines stage (reverse xs)) same

pub events_step : (stage : Stage) (events : List Event) (i : ℕ) (d : Event) → i < length events
    → event_lines stage (reverse (take i events)) ++ event_line stage (reverse (take i events)) (get_or events i d)
    ≡ event_lines stage (reverse (take (i + 1) events))
events_step stage events i d below = ap (λ x. event_lines stage x) (sym (reverse_take events i d below))

-- one line more
pub events_more : (stage : Stage) (events : List Event) (i : ℕ) (d : Event) (a b c : Option (List ℕ))
    (p q r w : List ℕ) → i < length events
    → HandsOn a p b q (event_lines stage (reverse (take i events)))
    → r ≡ q ++ event_line stage (reverse (take i events)) (get_or events i d)
    → HandsOn b r c w []
    → HandsOn a p c w (event_lines stage (reverse (take (i + 1) events)))
events_more stage events i d a b c p q r w below before put full =
    line_more a b c p q r w _ _ _ (events_step stage events i d below) before put full

-- the buffer was refused
pub events_refused : (stage : Stage) (shown events : List Event) (i : ℕ) (d : Event) (a b c : Option (List ℕ))
    (p q r : List ℕ) → i < length shown → shown ≡ events
    → HandsOn a p b q (event_lines stage (reverse (take i shown)))
    → r ≡ q ++ event_line stage (reverse (take i shown)) (get_or shown i d)
    → HandsPart b r c []
    → HandsPart a p c (event_lines stage (reverse events))
events_refused stage shown events i d a b c p q r below same before put full =
    line_refused a b c p q r _ _ _ (later_lines stage (reverse (drop (i + 1) shown)) (reverse (take (i + 1) shown))) _
    (events_step stage shown i d below) (events_all stage shown events (i + 1) same) before put full

-- a line was refused
pub events_left : (stage : Stage) (shown events : List Event) (i : ℕ) (a b : Option (List ℕ)) (p q : List ℕ)
    → shown ≡ events → HandsOn a p b q (event_lines stage (reverse (take i shown)))
    → HandsPart a p b (event_lines stage (reverse events))
events_left stage shown events i a b p q same before =
    lines_lost a b p q _ (later_lines stage (reverse (drop i shown)) (reverse (take i shown))) _
    (events_all stage shown events i same) before

-- every event has its line
pub events_done : (stage : Stage) (shown events : List Event) (i : ℕ) (a b : Option (List ℕ)) (p q : List ℕ)
    → shown ≡ events → length shown ≤ i
    → HandsOn a p b q (event_lines stage (reverse (take i shown)))
    → HandsOn a p b q (event_lines stage (reverse events))
events_done stage shown events i a b p q same end =
    subst (λ xs. HandsOn a p b q (event_lines stage (reverse xs))) (take_all i shown end ∙ same)

-- THE RECORDS

records_append : (past : List Event) (k : ℕ) (a b : List Record)
    → record_lines past k (a ++ b) ≡ record_lines past k a ++ record_lines past (k + length a) b
records_append past k [] b = let e : k ≡ k + 0 = omega arith in ap (λ x. record_lines past x b) e
records_append past k (r ∷ a) b =
    let e : suc k + length a ≡ k + suc (length a) = omega arith
    in ap (λ x. line (codes "packet") (decimal k ∷ record_words past k r.body) ++ x)
    (records_append past (suc k) a b ∙ ap (λ x. record_lines past (suc k) a ++ record_lines past x b) e)
    ∙ sym (append_assoc (line (codes "packet") (decimal k ∷ record_words past k r.body)) (record_lines past (suc k) a)
    _)

records_all : (past : List Event) (shown records : List Record) (i : ℕ) → shown ≡ records
    → record_lines past 1 (take i shown) ++ record_lines past (1 + length (take i shown)) (drop i shown)
    ≡ record_lines past 1 records
records_all past shown records i same =
    sym (records_append past 1 (take i shown) (drop i shown))
    ∙ ap (λ x. record_lines past 1 x) (take-append-drop i shown ∙ same)

same_words : (past : List Event) (k : ℕ) (body : Body) (ends : List End) → words_of_ends ends ≡ ends_of past k
    → words_of_record body ends ≡ record_words past k body
same_words past k (Unsteered reason) ends e = refl
same_words past k (Steerable s) ends e = e

-- every record has its line
pub records_done : (past : List Event) (shown records : List Record) (i : ℕ) (a b : Option (List ℕ)) (p q : List ℕ)
    → shown ≡ records → length shown ≤ i
    → HandsOn a p b q (record_lines past 1 (take i shown)) → HandsOn a p b q (record_lines past 1 records)
records_done past shown records i a b p q same end =
    subst (λ xs. HandsOn a p b q (record_lines past 1 xs)) (take_all i shown end ∙ same)

records_step : (past : List Event) (records : List Record) (i : ℕ) (d : Record) (ends : List End)
    → i < length records → words_of_ends ends ≡ ends_of past (i + 1)
    → record_lines past 1 (take i records)
    ++ line (codes "packet") (decimal (i + 1) ∷ words_of_record (get_or records i d).body ends)
    ≡ record_lines past 1 (take (i + 1) records)
records_step past records i d ends below same =
    let r = get_or records i d
    in let e : take (i + 1) records ≡ take i records ++ r ∷ [] = grind (arith, common_steps)
    in let n : 1 + length (take i records) ≡ i + 1 = grind (arith, common_steps)
    in ap (λ x. record_lines past 1 (take i records) ++ line (codes "packet") (decimal (i + 1) ∷ x))
    (same_words past (i + 1) r.body ends same)
    ∙ ap (λ x. record_lines past 1 (take i records) ++ x) (sym (append-nil _))
    ∙ ap (λ x. record_lines past 1 (take i records) ++ record_lines past x (r ∷ [])) (sym n)
    ∙ sym (records_append past 1 (take i records) (r ∷ []))
    ∙ ap (λ x. record_lines past 1 x) (sym e)

-- the line of a record more, where the lines before it stand
pub record_put : (past : List Event) (records : List Record) (i : ℕ) (d : Record) (ends : List End)
    (old new : List ℕ)
    → i < length records → words_of_ends ends ≡ ends_of past (i + 1)
    → old ≡ record_lines past 1 (take i records)
    → new ≡ old ++ line (codes "packet") (decimal (i + 1) ∷ words_of_record (get_or records i d).body ends)
    → new ≡ record_lines past 1 (take (i + 1) records)
record_put past records i d ends old new below same before is =
    is
    ∙ ap (λ x. x ++ line (codes "packet") (decimal (i + 1) ∷ words_of_record (get_or records i d).body ends)) before
    ∙ records_step past records i d ends below same

-- the same first end and the same later ones
pub both_same : {first kept : Option End} {later rest : List End} → first ≡ kept → later ≡ rest
    → with_later first later ≡ with_later kept rest
both_same {first} {kept} {later} {rest} same is =
    ap (λ x. with_later x later) same ∙ ap (λ x. with_later kept x) is

-- the ends of the record at a place, from the table
pub ends_there : (events shown : List Event) (i : ℕ) (kept ends : List End)
    → words_of_ends kept ≡ ends_of (reverse shown) (i + 1) → shown ≡ events → ends ≡ kept
    → words_of_ends ends ≡ ends_of (reverse events) (i + 1)
ends_there events shown i kept ends there same is =
    ap words_of_ends is ∙ there ∙ ap (λ x. ends_of (reverse x) (i + 1)) same

-- the ends of a packet with those of one event more
pub event_observed : (events : List Event) (i : ℕ) (d : Event) (k : ℕ) (before now : List (List ℕ)) → i < length events
    → before ≡ ends_of (reverse (take i events)) k → now ≡ before ++ end_words (get_or events i d).what k
    → now ≡ ends_of (reverse (take (i + 1) events)) k
event_observed events i d k before now below was step =
    step
    ∙ ap (λ x. x ++ end_words (get_or events i d).what k) was
    ∙ ap (λ past. ends_of past k) (sym (reverse_take events i d below))

pub records_more : (past : List Event) (records : List Record) (i : ℕ) (d : Record) (ends : List End)
    (a b c : Option (List ℕ)) (p q r w : List ℕ) → i < length records
    → words_of_ends ends ≡ ends_of past (i + 1)
    → HandsOn a p b q (record_lines past 1 (take i records))
    → r ≡ q ++ line (codes "packet") (decimal (i + 1) ∷ words_of_record (get_or records i d).body ends)
    → HandsOn b r c w []
    → HandsOn a p c w (record_lines past 1 (take (i + 1) records))
records_more past records i d ends a b c p q r w below same before put full =
    line_more a b c p q r w _ _ _ (records_step past records i d ends below same) before put full

pub records_refused : (past : List Event) (shown records : List Record) (i : ℕ) (d : Record) (ends : List End)
    (a b c : Option (List ℕ)) (p q r : List ℕ) → i < length shown → shown ≡ records
    → words_of_ends ends ≡ ends_of past (i + 1)
    → HandsOn a p b q (record_lines past 1 (take i shown))
    → r ≡ q ++ line (codes "packet") (decimal (i + 1) ∷ words_of_record (get_or shown i d).body ends)
    → HandsPart b r c []
    → HandsPart a p c (record_lines past 1 records)
records_refused past shown records i d ends a b c p q r below is same before put full =
    line_refused a b c p q r _ _ _ (record_lines past (1 + length (take (i + 1) shown)) (drop (i + 1) shown)) _
    (records_step past shown i d ends below same) (records_all past shown records (i + 1) is) before put full

pub records_left : (past : List Event) (shown records : List Record) (i : ℕ) (a b : Option (List ℕ)) (p q : List ℕ)
    → shown ≡ records → HandsOn a p b q (record_lines past 1 (take i shown))
    → HandsPart a p b (record_lines past 1 records)
records_left past shown records i a b p q is before =
    lines_lost a b p q _ (record_lines past (1 + length (take i shown)) (drop i shown)) _
    (records_all past shown records i is) before

-- THE WHOLE

-- the buffer after the note and the totals
pub last_put : (piece old noted new note : List ℕ) (s t : Totals) → piece ≡ new → noted ≡ old ++ note
    → new ≡ noted ++ totals_line s → s ≡ t → piece ≡ old ++ (note ++ totals_line t)
last_put piece old noted new note s t is first second same =
    is ∙ second ∙ ap (λ x. x ++ totals_line s) first ∙ append_assoc old note (totals_line s)
    ∙ ap (λ x. old ++ (note ++ totals_line x)) same

more_before : (first rest : List ℕ) → 0 < length rest → 0 < length (first ++ rest)
more_before first rest some = omega (arith, length-append first rest, some)

more_behind : (first rest : List ℕ) → 0 < length first → 0 < length (first ++ rest)
more_behind first rest some = omega (arith, length-append first rest, some)

-- neither the last lines nor what comes after the events is empty
pub some_last : (h : History) → 0 < length (last_lines h)
some_last h =
    let five : length (codes "total") ≡ 5 = refl
    in more_before (note_line h.stage.capture.cut) _ (more_behind (codes "total") _ (omega (arith, five)))

pub some_behind : (h : History) → 0 < length (lines_after h)
some_behind h = more_before (record_lines (reverse h.events) 1 h.stage.capture.records) _ (some_last h)

-- the report in two parts, the lines of the events and what comes after them
pub behind_events : (h : History) → event_lines h.stage (reverse h.events) ++ lines_after h ≡ text h
unfolding text
behind_events h =
    let events = event_lines h.stage (reverse h.events)
    in let records = record_lines (reverse h.events) 1 h.stage.capture.records
    in let note = note_line h.stage.capture.cut
    in let total = totals_line (totals_of h)
    in sym (append_assoc events records (note ++ total)) ∙ sym (append_assoc (events ++ records) note total)

-- the same, with the lines of the records in the first part
pub behind_records : (h : History) → all_lines h ++ last_lines h ≡ text h
unfolding text
behind_records h =
    sym (append_assoc (all_lines h) (note_line h.stage.capture.cut) (totals_line (totals_of h)))

pub report_written : (first rest whole : List ℕ) (a b c : Option (List ℕ)) (p q : List ℕ) → first ++ rest ≡ whole
    → p ≡ [] → HandsOn a p b q first → HandsOn b q c [] rest → Appends a c whole
report_written first rest whole a b c p q is empty before behind =
    subst (λ x. Appends a c x) is
    (all_written a c p (first ++ rest) empty (both_on a b c p q [] first rest before behind))

-- the first part was refused
pub first_refused : (first rest whole : List ℕ) (a b : Option (List ℕ)) (p : List ℕ) → first ++ rest ≡ whole → p ≡ []
    → 0 < length rest → HandsPart a p b first → WritesPart a b whole
first_refused first rest whole a b p is empty some part =
    subst (λ x. WritesPart a b x) is (part_written a b p (first ++ rest) empty (rest_less a b p first rest part some))

-- what comes after it was refused
pub rest_refused : (first rest whole : List ℕ) (a b c : Option (List ℕ)) (p q : List ℕ) → first ++ rest ≡ whole
    → p ≡ [] → HandsOn a p b q first → HandsLess b q c rest → WritesPart a c whole
rest_refused first rest whole a b c p q is empty before less =
    subst (λ x. WritesPart a c x) is
    (part_written a c p (first ++ rest) empty (less_after a b c p q first rest before less))

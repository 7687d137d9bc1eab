-- A text names one history of its stage.
use Rattle.std.proofs.Common.{◌≡◌, ℕ, Bool, true, false, List, [], ◌∷◌, ◌++◌, refl, ap, ◌∙◌, sym, append_assoc}
use Rattle.std.specs.Prelude.{decimal, reverse, Option, Some, None}
use Rattle.std.proofs.lemmas.List.{append-nil, reverse-append}
use Rattle.std.proofs.lemmas.Fmt.{decimal_injective}
use Rattle.bm_base.specs.declared.capture.Record.{Record}
use Rattle.bm_core.specs.declared.events.Event.{Event}
use Rattle.bm_core.specs.declared.events.History.{History}
use Rattle.bm_core.specs.declared.events.Stage.{Stage}
use Rattle.bm_trace.specs.Report.{aside, event_line, event_lines, event_words, note_line, record_lines, text, totals_line}
use Rattle.bm_trace.specs.Totals.{totals_of}
use Rattle.bm_trace.specs.declared.sums.Totals.{Totals}
use Rattle.bm_trace.specs.Types.{AreEvents}
use Rattle.bm_trace.proofs.Decoding.{event_are, same_words}
use Rattle.bm_trace.proofs.Reading.{decimal_starts_low, is_word_decimal, read_line, starts_low}

-- the lines of the events that come, the oldest first
unfoldable pub lines_from : Stage → List Event → List Event → List ℕ
lines_from stage past [] = []
lines_from stage past (e ∷ coming) = event_line stage past e ++ lines_from stage (e ∷ past) coming

lines_are : (stage : Stage) (past coming : List Event) → event_lines stage past
    ++ lines_from stage past coming ≡ event_lines stage (reverse coming ++ past)
unfolding lines_from
lines_are stage past [] = append-nil (event_lines stage past)
lines_are stage past (e ∷ coming) =
    let r : reverse (e ∷ coming) ≡ reverse coming ++ e ∷ [] = reverse-append (e ∷ []) coming
    in let t : (reverse coming ++ e ∷ []) ++ past ≡ reverse coming ++ (e ∷ past) =
    append_assoc (reverse coming) (e ∷ []) past
    in sym (append_assoc (event_lines stage past) (event_line stage past e) (lines_from stage (e ∷ past) coming))
    ∙ lines_are stage (e ∷ past) coming
    ∙ ap (λ x. event_lines stage x) (sym t ∙ ap (λ x. x ++ past) (sym r))

all_lines : (stage : Stage) (events : List Event) → event_lines stage (reverse events) ≡ lines_from stage [] events
all_lines stage events =
    ap (λ x. event_lines stage x) (sym (append-nil (reverse events))) ∙ sym (lines_are stage [] events)

line_starts_low : (stage : Stage) (past : List Event) (e : Event) (x : List ℕ)
    → starts_low (event_line stage past e ++ x) ≡ true
line_starts_low stage past e x =
    ap starts_low (append_assoc (decimal e.clock.0 ++ _) (10 ∷ []) x ∙ append_assoc (decimal e.clock.0) _ (10 ∷ x))
    ∙ decimal_starts_low e.clock.0 _

never_both : {b : Bool} → b ≡ true → b ≡ false → ⊥
never_both t f = cc

same_coming : (stage : Stage) (past a b : List Event) (x y : List ℕ) → AreEvents a → AreEvents b → starts_low x ≡ false
    → starts_low y ≡ false
    → lines_from stage past a ++ x ≡ lines_from stage past b ++ y → a ≡ b
unfolding lines_from
same_coming stage past [] [] x y ha hb hx hy e = refl
same_coming stage past (f ∷ a) [] x y ha hb hx hy e =
    absurd (never_both (line_starts_low stage past f (lines_from stage (f ∷ past) a ++ x))
    (ap starts_low (sym (append_assoc (event_line stage past f) (lines_from stage (f ∷ past) a) x) ∙ e) ∙ hy))
same_coming stage past [] (g ∷ b) x y ha hb hx hy e =
    absurd (never_both (line_starts_low stage past g (lines_from stage (g ∷ past) b ++ y))
    (ap starts_low (sym (append_assoc (event_line stage past g) (lines_from stage (g ∷ past) b) y) ∙ sym e) ∙ hx))
same_coming stage past (f ∷ a) (g ∷ b) x y ha hb hx hy e =
    let l : event_line stage past f ++ (lines_from stage (f ∷ past) a ++ x) ≡ event_line stage past g
    ++ (lines_from stage (g ∷ past) b ++ y)
    = sym (append_assoc (event_line stage past f) (lines_from stage (f ∷ past) a) x) ∙ e
    ∙ append_assoc (event_line stage past g) (lines_from stage (g ∷ past) b) y
    in let p =
    read_line (decimal f.clock.0) (decimal g.clock.0) (event_words stage past f.clock.0 f.what)
    (event_words stage past g.clock.0 g.what) _ _ (is_word_decimal f.clock.0) (is_word_decimal g.clock.0)
    (event_are f.what (aside stage past f.clock.0 f.what)) (event_are g.what (aside stage past g.clock.0 g.what)) l
    in let c : f.clock.0 ≡ g.clock.0 = decimal_injective f.clock.0 g.clock.0 ha.0.0 hb.0.0 p.0
    in let o : f.what ≡ g.what =
    same_words f.what g.what (aside stage past f.clock.0 f.what) (aside stage past g.clock.0 g.what) ha.0.1 hb.0.1 p.1
    in let s : f ≡ g = λ i. record { clock = record { 0 = c i }; what = o i }
    in let r : lines_from stage (f ∷ past) a ++ x ≡ lines_from stage (f ∷ past) b ++ y =
    p.2 ∙ ap (λ h. lines_from stage (h ∷ past) b ++ y) (sym s)
    in let t : a ≡ b = same_coming stage (f ∷ past) a b x y ha.1 hb.1 hx hy r
    in cc

-- what comes after the lines of the events starts with a letter
rest_starts : (past : List Event) (records : List Record) (cut : Option ℕ) (t : Totals)
    → starts_low (record_lines past 1 records ++ (note_line cut ++ totals_line t)) ≡ false
rest_starts past [] None t = refl
rest_starts past [] (Some k) t = refl
rest_starts past (r ∷ records) cut t = refl

pub whole : (h : History) → text h ≡ lines_from h.stage [] h.events
    ++ (record_lines (reverse h.events) 1 h.stage.capture.records
    ++ (note_line h.stage.capture.cut ++ totals_line (totals_of h)))
unfolding text
whole h =
    append_assoc (event_lines h.stage (reverse h.events) ++ record_lines (reverse h.events) 1 h.stage.capture.records)
    (note_line h.stage.capture.cut) (totals_line (totals_of h))
    ∙ append_assoc (event_lines h.stage (reverse h.events)) (record_lines (reverse h.events) 1 h.stage.capture.records)
    (note_line h.stage.capture.cut ++ totals_line (totals_of h))
    ∙ ap (λ x. x
    ++ (record_lines (reverse h.events) 1 h.stage.capture.records
    ++ (note_line h.stage.capture.cut ++ totals_line (totals_of h)))) (all_lines h.stage h.events)

-- two histories of one stage with one text have the same events
pub same_events : (a b : History) → AreEvents a.events → AreEvents b.events → a.stage ≡ b.stage → text a ≡ text b
    → a.events ≡ b.events
same_events a b ha hb s e =
    same_coming a.stage [] a.events b.events
    (record_lines (reverse a.events) 1 a.stage.capture.records
    ++ (note_line a.stage.capture.cut ++ totals_line (totals_of a)))
    (record_lines (reverse b.events) 1 b.stage.capture.records
    ++ (note_line b.stage.capture.cut ++ totals_line (totals_of b)))
    ha hb
    (rest_starts (reverse a.events) a.stage.capture.records a.stage.capture.cut (totals_of a))
    (rest_starts (reverse b.events) b.stage.capture.records b.stage.capture.cut (totals_of b))
    (sym (whole a) ∙ e ∙ whole b
    ∙ ap (λ stage. lines_from stage [] b.events
    ++ (record_lines (reverse b.events) 1 b.stage.capture.records
    ++ (note_line b.stage.capture.cut ++ totals_line (totals_of b)))) (sym s))

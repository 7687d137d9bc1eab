-- Lines of events that are written side by side.
use Rattle.std.proofs.Common.{◌≡◌, ℕ, ◌+◌, ◌*◌, ◌^◌, ◌-◌, ◌<◌, ◌≤◌, List, [], ◌∷◌, ◌++◌, length}
use Rattle.std.proofs.Common.{take, drop, get_or, set}
use Rattle.std.proofs.Common.{refl, ap, ◌∙◌, sym, arith, append_assoc, Option, Some, subst}
use Rattle.std.proofs.Common.{Global, Vec, inl, inr, length-append, Bool, true, false}
use Rattle.std.proofs.lemmas.Bool.{cases_lt}
use Rattle.std.specs.Prelude.{reverse, min, slice_get, string_bytes, MatchBool}
use Rattle.std.specs.Io.KnownBytes.{Appends}
use Rattle.std.proofs.KnownBytes.{Appends-nil, Appends-trans}
use Rattle.std.proofs.lemmas.List.{append-nil, take-append-drop}
use Rattle.std.proofs.lemmas.Grind.{common_steps}
use Rattle.std.proofs.lemmas.Option.{same_Some, slice_get-get_or, slice_get_within}
use Rattle.bm_table.proofs.Gets.{slice_get-append_left, slice_get-push}
use Rattle.bm_core.specs.declared.events.Event.{Event}
use Rattle.bm_core.specs.declared.events.History.{History}
use Rattle.bm_trace.specs.Inside.Pieces.{AreInRow, AreLines, AreWritten, HasDealt, HaveWritten, IsRound, IsWritten}
use Rattle.bm_trace.specs.Inside.Pieces.{PutsLines, PutsPart, first_lines, place_of}
use Rattle.bm_trace.specs.Inside.Swept.{HasSwept}
use Rattle.bm_trace.specs.Totals.{strays}
use Rattle.bm_trace.specs.declared.beside.Piece.{Piece}
use Rattle.bm_trace.specs.declared.beside.Round.{Round}
use Rattle.bm_trace.specs.declared.swept.Sweeper.{Sweeper}
use Rattle.bm_io.specs.Written.{WritesPart}
use Rattle.bm_trace.specs.Inside.Parts.{HandsOn, HandsPart, all_lines}
use Rattle.bm_trace.specs.Report.{event_line, event_lines, record_lines}
use Rattle.bm_trace.proofs.Parted.{events_step, events_whole, later_lines}

-- THE LINES

pub take_over : {X : Type 0} (xs : List X) (n : ℕ) → length xs ≤ n → take n xs ≡ xs
take_over xs n over = grind (arith, common_steps)

lines_both : (h : History) (i j k : ℕ) (x y : List ℕ) → AreLines h i j x → AreLines h j k y → AreLines h i k (x ++ y)
lines_both h i j k x y first second =
    sym (append_assoc (first_lines h i) x y) ∙ ap (λ z. z ++ y) first ∙ second

-- the line of one event more
pub lines_more : (h : History) (shown : List Event) (from place : ℕ) (d : Event) (old new : List ℕ) → shown ≡ h.events
    → place < length h.events
    → new ≡ old ++ event_line h.stage (reverse (take place shown)) (get_or shown place d)
    → AreLines h from place old → AreLines h from (place + 1) new
lines_more h shown from place d old new same below is are =
    let line = event_line h.stage (reverse (take place h.events)) (get_or h.events place d)
    in let now : new ≡ old ++ line =
    subst (λ es. new ≡ old ++ event_line h.stage (reverse (take place es)) (get_or es place d)) same is
    in ap (λ x. first_lines h from ++ x) now ∙ sym (append_assoc (first_lines h from) old line)
    ∙ ap (λ x. x ++ line) are ∙ events_step h.stage h.events place d below

-- the lines of all events
abbrev lines_of_events : History → List ℕ
lines_of_events h = event_lines h.stage (reverse h.events)

lines_whole : (h : History) → first_lines h (length h.events) ≡ lines_of_events h
lines_whole h =
    ap (λ es. event_lines h.stage (reverse es)) (take_over h.events (length h.events) (omega arith))

-- the lines of the events after a place
abbrev lines_from : History → ℕ → List ℕ
lines_from h i = later_lines h.stage (reverse (drop i h.events)) (reverse (take i h.events))

lines_rest : (h : History) (i : ℕ) → AreLines h i (length h.events) (lines_from h i)
lines_rest h i = events_whole h.stage h.events i ∙ sym (lines_whole h)

-- WHAT IS WRITTEN

pub puts_none : (h : History) (i : ℕ) (a : Option (List ℕ)) → PutsLines h i i a a
puts_none h i a = record { sent = []; appended = Appends-nil a; lines = append-nil _ }

pub puts_more : (h : History) (i j k : ℕ) (a b c : Option (List ℕ)) (lines : List ℕ) → PutsLines h i j a b
    → AreLines h j k lines → Appends b c lines → PutsLines h i k a c
puts_more h i j k a b c lines before are put = record {
  sent = before.sent ++ lines;
  appended = Appends-trans a b c before.sent lines before.appended put;
  lines = lines_both h i j k before.sent lines before.lines are;
}

pub puts_both : (h : History) (i j k : ℕ) (a b c : Option (List ℕ)) → PutsLines h i j a b → PutsLines h j k b c
    → PutsLines h i k a c
puts_both h i j k a b c first second =
    puts_more h i j k a b c second.sent first second.lines second.appended

-- WHERE IT ENDS EARLY

pub puts_left : (h : History) (i j : ℕ) (a b : Option (List ℕ)) → PutsLines h i j a b → PutsPart h i a b
puts_left h i j a b before = record {
  sent = before.sent;
  rest = lines_from h j;
  appended = before.appended;
  lines = lines_both h i j (length h.events) before.sent (lines_from h j) before.lines (lines_rest h j);
}

pub puts_after : (h : History) (i j : ℕ) (a b c : Option (List ℕ)) → PutsLines h i j a b → PutsPart h j b c
    → PutsPart h i a c
puts_after h i j a b c first part = record {
  sent = first.sent ++ part.sent;
  rest = part.rest;
  appended = Appends-trans a b c first.sent part.sent first.appended part.appended;
  lines =
      ap (λ x. first_lines h i ++ x) (append_assoc first.sent part.sent part.rest)
      ∙ lines_both h i j (length h.events) first.sent (part.sent ++ part.rest) first.lines part.lines;
}

-- a first part of a piece
pub piece_left : (h : History) (i j : ℕ) (a b : Option (List ℕ)) (lines : List ℕ) → AreLines h i j lines
    → WritesPart a b lines → PutsPart h i a b
piece_left h i j a b lines are part = record {
  sent = take part.0 lines;
  rest = drop part.0 lines ++ lines_from h j;
  appended = part.2;
  lines =
      ap (λ x. first_lines h i ++ x)
      (sym (append_assoc (take part.0 lines) (drop part.0 lines) (lines_from h j))
      ∙ ap (λ x. x ++ lines_from h j) (take-append-drop part.0 lines))
      ∙ lines_both h i j (length h.events) lines (lines_from h j) are (lines_rest h j);
}

-- ALL LINES

lines_are : (h : History) (lines : List ℕ) → AreLines h 0 (length h.events) lines → lines ≡ lines_of_events h
lines_are h lines are = are ∙ lines_whole h

-- the lines of the records wait
pub puts_all : (h : History) (a b : Option (List ℕ)) (records : List ℕ) → PutsLines h 0 (length h.events) a b
    → records ≡ record_lines (reverse h.events) 1 h.stage.capture.records → HandsOn a [] b records (all_lines h)
puts_all h a b records puts are = record {
  sent = puts.sent;
  appended = puts.appended;
  whole =
      ap (λ x. x ++ records) (lines_are h puts.sent puts.lines) ∙ ap (λ x. lines_of_events h ++ x) are;
}

-- they are lost
pub puts_first : (h : History) (a b : Option (List ℕ)) → PutsPart h 0 a b → HandsPart a [] b (all_lines h)
puts_first h a b puts =
    let records = record_lines (reverse h.events) 1 h.stage.capture.records
    in record {
      lost = puts.rest ++ records;
      on = record {
        sent = puts.sent;
        appended = puts.appended;
        whole =
            sym (append_assoc puts.sent puts.rest records)
            ∙ ap (λ x. x ++ records) (lines_are h (puts.sent ++ puts.rest) puts.lines);
      };
    }

-- THE PIECES

pub place_next : (n from k at step : ℕ) → at ≡ min (from + k * 2 ^ 14) n → step ≡ min (2 ^ 14) (n - at)
    → at + step ≡ min (from + (k + 1) * 2 ^ 14) n
place_next n from k at step here is = omega (arith, here, is)

pub step_within : (n at step : ℕ) → at ≤ n → step ≡ min (2 ^ 14) (n - at) → at + step ≤ n
step_within n at step here is = omega (arith, here, is)

pub row_more : (h : History) (from k : ℕ) (pieces new : List Piece) (p : Piece) → new ≡ pieces ++ p ∷ []
    → length pieces ≡ k → p.from ≡ place_of h from k → p.to ≡ place_of h from (k + 1) → AreInRow h from pieces
    → AreInRow h from new
row_more h from k pieces new p is count begins ends row j q at = elim (cases_lt j (length pieces)) [
  | inl before ↦
      row j q (sym (slice_get-append_left pieces (p ∷ []) j before) ∙ ap (λ x. slice_get x j) (sym is) ∙ at)
  | inr behind ↦
      let there : slice_get (pieces ++ p ∷ []) j ≡ Some q = ap (λ x. slice_get x j) (sym is) ∙ at
      in let below = slice_get_within (pieces ++ p ∷ []) j q there
      in let last : j ≡ length pieces = omega (arith, behind, below, length-append pieces (p ∷ []))
      in let same : p ≡ q =
      same_Some p q (sym (slice_get-push pieces p) ∙ ap (λ x. slice_get (pieces ++ p ∷ []) x) (sym last) ∙ there)
      in let number : j ≡ k = last ∙ count
      in (
        ap (λ x. x.from) (sym same) ∙ begins ∙ ap (λ x. place_of h from x) (sym number),
        ap (λ x. x.to) (sym same) ∙ ends ∙ ap (λ x. place_of h from (x + 1)) (sym number),
      )
]

-- a piece of the row begins anew
pub begun_take : {X : Type 0} (xs : List X) (k : ℕ) (x : X) → k < length xs
    → take (k + 1) (set xs k x) ≡ take k xs ++ x ∷ []
begun_take xs k x below = grind (arith, common_steps)

-- THE LINES OF A ROW

pub all_written : (h : History) (from : ℕ) (old new : List Piece) → length new ≡ length old → AreInRow h from old
    → HaveWritten h old new → AreWritten h from new
all_written h from old new count row each k q at =
    let below = slice_get_within new k q at
    in let p = get_or old k q
    in let there : slice_get old k ≡ Some p = slice_get-get_or old k q (omega (arith, count, below))
    in let place = row k p there
    in let wrote = each.each k p q there at
    in record {
      begins = wrote.begins ∙ place.0;
      ends = wrote.ends ∙ place.1;
      lines = λ fine.
          subst (λ x. AreLines h x q.to (string_bytes q.lines)) (sym wrote.begins)
          (subst (λ x. AreLines h p.from x (string_bytes q.lines)) (sym wrote.ends) (wrote.lines fine));
    }

pub written_at : (h : History) (from k : ℕ) (pieces : List Piece) (p : Piece) → AreWritten h from pieces
    → k < length pieces → p ≡ get_or pieces k p → IsWritten h from k p
written_at h from k pieces p all below is =
    subst (λ x. IsWritten h from k x) (sym is) (all k (get_or pieces k p) (slice_get-get_or pieces k p below))

-- the lines of the piece of this number
lines_at : (h : History) (from k : ℕ) (p : Piece) → IsWritten h from k p → p.refused ≡ false
    → AreLines h (place_of h from k) (place_of h from (k + 1)) (string_bytes p.lines)
lines_at h from k p is fine =
    subst (λ x. AreLines h x (place_of h from (k + 1)) (string_bytes p.lines)) is.begins
    (subst (λ x. AreLines h p.from x (string_bytes p.lines)) is.ends (is.lines fine))

pub piece_put : (h : History) (from k : ℕ) (a b c : Option (List ℕ)) (p : Piece) → IsWritten h from k p
    → PutsLines h from (place_of h from k) a b → (p.refused ≡ false) × Appends b c (string_bytes p.lines)
    → PutsLines h from (place_of h from (k + 1)) a c
piece_put h from k a b c p is before put =
    puts_more h from (place_of h from k) (place_of h from (k + 1)) a b c (string_bytes p.lines) before
    (lines_at h from k p is put.0) put.1

pub piece_refused : (h : History) (from k : ℕ) (a b c : Option (List ℕ)) (p : Piece) → IsWritten h from k p
    → PutsLines h from (place_of h from k) a b
    → MatchBool p.refused (c ≡ b) (WritesPart b c (string_bytes p.lines)) → PutsPart h from a c
piece_refused h from k a b c p is before put = go p.refused refl put where
  go : (r : Bool) → p.refused ≡ r → MatchBool r (c ≡ b) (WritesPart b c (string_bytes p.lines)) → PutsPart h from a c
  go true refused same =
      subst (λ x. PutsPart h from a x) (sym same) (puts_left h from (place_of h from k) a b before)
  go false fine part =
      puts_after h from (place_of h from k) a b c before
      (piece_left h (place_of h from k) (place_of h from (k + 1)) b c (string_bytes p.lines)
      (lines_at h from k p is fine) part)

-- ROUNDS

-- the pieces of a round were written, and end where it does
pub round_written : (h : History) (round : Round) (old new shown : List Piece) → IsRound h round
    → old ≡ round.pieces.items → length new ≡ length old → HaveWritten h old new → shown ≡ new
    → AreWritten h round.from shown × (place_of h round.from (length shown) ≡ round.to)
round_written h round old new shown is begun count each same =
    let row = subst (AreInRow h round.from) (sym begun) is.dealt.row
    in (
      subst (AreWritten h round.from) (sym same) (all_written h round.from old new count row each),
      ap (λ n. place_of h round.from n) (ap length same ∙ count ∙ ap length begun) ∙ sym is.dealt.place,
    )

pub round_of : (h : History) (from to : ℕ) (sweeper : Sweeper) (dealt : List Piece) (pieces spare : Vec Piece Global)
    → pieces.items ≡ dealt → from ≤ length h.events → HasDealt h from dealt sweeper to → 0 < length dealt
    → length spare.items ≡ length dealt
    → IsRound h record { sweeper = sweeper; pieces = pieces; spare = spare; from = from; to = to }
round_of h from to sweeper dealt pieces spare is within all some same = record {
  from = within;
  dealt = subst (λ ps. HasDealt h from ps sweeper to) (sym is) all;
  some = rw is some;
  spare = rw is same;
}

-- a round goes on
pub place_after : (n from k : ℕ) → from < n → 0 < k → from < min (from + k * 2 ^ 14) n
place_after n from k before some = omega (arith, before, some)

pub round_over : (h : History) (round : Round) → IsRound h round → length h.events ≤ round.from
    → HasSwept h (length h.events) round.sweeper
round_over h round is over =
    let within = is.from
    in let place = is.dealt.place
    in let at : round.to ≡ length h.events = omega (arith, within, over, place)
    in subst (λ n. HasSwept h n round.sweeper) at is.dealt.swept

-- the strays of all events
pub strays_all : (h : History)
    → strays h.stage (reverse (take (length h.events) h.events)) ≡ strays h.stage (reverse h.events)
strays_all h =
    ap (λ es. strays h.stage (reverse es)) (take_over h.events (length h.events) (omega arith))

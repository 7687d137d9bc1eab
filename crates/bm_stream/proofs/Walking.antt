-- Going over the events of a history.
use Rattle.std.proofs.Common.{◌≡◌, ℕ, suc, ◌+◌, ◌<◌, ◌≤◌, List, [], ◌∷◌, ◌++◌, length, length-append, drop, take, get_or, refl, sym, ap, subst, ◌∙◌, arith}
use Rattle.std.proofs.Common.{true, false, Bool, min, length-take, OnErr, Result, Ok, Err}
use Rattle.bm_stream.specs.Text.{AppendsPart, line_at, lines_of, stream_text}
use Rattle.std.proofs.lemmas.List.{append_assoc, append-nil, length-reverse, reverse-append, take-append-drop}
use Rattle.std.proofs.lemmas.Option.{slice_get-get_or}
use Rattle.std.proofs.lemmas.Grind.{common_steps}
use Rattle.std.specs.Prelude.{reverse, if◌then◌else◌}
use Rattle.bm_core.specs.declared.events.Event.{Event}
use Rattle.bm_core.specs.declared.events.History.{History}
use Rattle.bm_core.specs.declared.events.Stage.{Stage}
use Rattle.bm_core.specs.declared.events.What.{What}
use Rattle.bm_core.specs.declared.events.What.TheVariants.{Publish, Switch, Steer, Lose, Arrive, Close, Retire, Sync}
use Rattle.bm_core.specs.Runs.{IsRun, MayCome}
use Rattle.bm_core.specs.Past.{segment_of}
use Rattle.bm_core.proofs.Lawful.{run_at}
use Rattle.bm_stream.specs.Accepts.{packets_of, with_event, is_at, accept_by}

reverse_last : {X : Type 0} (xs rest : List X) (x : X) → xs ≡ rest ++ x ∷ [] → reverse xs ≡ x ∷ reverse rest
reverse_last xs rest x e = rw (e, reverse-append rest (x ∷ [])) refl

-- one event more comes first in the past
pub reverse_take : {X : Type 0} (xs : List X) (i : ℕ) (d : X) → i < length xs
    → reverse (take (i + 1) xs) ≡ get_or xs i d ∷ reverse (take i xs)
reverse_take xs i d h =
    let e : take (i + 1) xs ≡ take i xs ++ get_or xs i d ∷ [] = grind (arith, common_steps)
    in reverse_last (take (i + 1) xs) (take i xs) (get_or xs i d) e

-- an event of a run may come after those before it
pub may_come : (h : History) (place : ℕ) (d : Event) → IsRun h → place < length h.events
    → MayCome h.stage (reverse (take place h.events)) (get_or h.events place d).clock.0 (get_or h.events place d).what
may_come h place d run below =
    (run_at h place (get_or h.events place d) run (slice_get-get_or h.events place d below)).0.may

-- THE PACKETS ARE FEW

one_more : (b : Bool) (k : ℕ) (packets : List ℕ) → length (if b then packets ++ k ∷ [] else packets) ≤ suc (length packets)
one_more true k packets = simp length-append (omega arith)
one_more false k packets = omega arith

by_event : (stage : Stage) (past : List Event) (place : ℕ) (what : What) (packets : List ℕ)
    → length (with_event stage past place what packets) ≤ suc (length packets)
by_event stage past place (Arrive k hop server verdict) packets =
    one_more (is_at (accept_by stage past server (segment_of stage k) verdict) place) k packets
by_event stage past place (Publish v) packets = omega arith
by_event stage past place (Switch m v) packets = omega arith
by_event stage past place (Steer k m) packets = omega arith
by_event stage past place (Lose k hop) packets = omega arith
by_event stage past place (Close server flow closed) packets = omega arith
by_event stage past place (Retire server h at result) packets = omega arith
by_event stage past place Sync packets = omega arith

-- an Accept has at most as many packets as there are events
pub few_packets : (stage : Stage) (place : ℕ) (past : List Event) → length (packets_of stage place past) ≤ length past
few_packets stage place [] = omega arith
few_packets stage place (e ∷ past) =
    let rest : length (packets_of stage place past) ≤ length past = few_packets stage place past in
    let more : length (packets_of stage place (e ∷ past)) ≤ suc (length (packets_of stage place past)) =
    by_event stage past place e.what (packets_of stage place past)
    in
    omega arith

pub length_past : {X : Type 0} (xs : List X) (i : ℕ) → i < length xs → i ≡ length (reverse (take i xs))
length_past xs i below =
    let count : length (take i xs) ≡ min i (length xs) = length-take i xs in
    let same : length (reverse (take i xs)) ≡ length (take i xs) = length-reverse (take i xs) in
    omega arith

-- the same of events that are the history's
pub may_come_of : (h : History) (events : List Event) (place : ℕ) (d : Event) → events ≡ h.events → IsRun h
    → place < length events
    → MayCome h.stage (reverse (take place events)) (get_or events place d).clock.0 (get_or events place d).what
may_come_of h events place d same run below =
    subst
    (λ (l : List Event). MayCome h.stage (reverse (take place l)) (get_or l place d).clock.0 (get_or l place d).what)
    (sym same) (may_come h place d run (let l : length events ≡ length h.events = ap length same in omega arith))

-- LINES

-- the line of one event more
pub lines_more : (stage : Stage) (packets : List (List ℕ)) (all events : List Event) (place : ℕ) (d : Event)
    (start old new found : List ℕ) → place < length events
    → found ≡ line_at stage packets all place (get_or events place d).clock (get_or events place d).what
    → old ≡ start ++ lines_of stage packets all (reverse (take place events)) → new ≡ old ++ found
    → new ≡ start ++ lines_of stage packets all (reverse (take (place + 1) events))
lines_more stage packets all events place d start old new found below is before more =
    let e : Event = get_or events place d in
    let past : List Event = reverse (take place events) in
    let at : place ≡ length past = length_past events place below in
    let here : found ≡ line_at stage packets all (length past) e.clock e.what =
    is ∙ ap (λ (n : ℕ). line_at stage packets all n e.clock e.what) at
    in
    rw (reverse_take events place d below)
    (more ∙ ap (λ (l : List ℕ). l ++ found) before
    ∙ append_assoc start (lines_of stage packets all past) found
    ∙ ap (λ (l : List ℕ). start ++ (lines_of stage packets all past ++ l)) here)

lines_front : (stage : Stage) (packets : List (List ℕ)) (all later past : List Event)
    → (rest : List ℕ) × (lines_of stage packets all (later ++ past) ≡ lines_of stage packets all past ++ rest)
lines_front stage packets all [] past = ([], sym (append-nil (lines_of stage packets all past)))
lines_front stage packets all (e ∷ later) past =
    let front = lines_front stage packets all later past in
    let one : List ℕ = line_at stage packets all (length (later ++ past)) e.clock e.what in (
      front.0 ++ one,
      ap (λ (l : List ℕ). l ++ one) front.1 ∙ append_assoc (lines_of stage packets all past) front.0 one,
    )

-- the lines of the events up to a place are a first part of all lines
pub lines_part : (stage : Stage) (packets : List (List ℕ)) (all events : List Event) (place : ℕ) (start now : List ℕ)
    → now ≡ start ++ lines_of stage packets all (reverse (take place events))
    → AppendsPart (lines_of stage packets all (reverse events)) start now
lines_part stage packets all events place start now is =
    let split : reverse events ≡ reverse (drop place events) ++ reverse (take place events) =
    ap (λ (l : List Event). reverse l) (sym (take-append-drop place events))
    ∙ reverse-append (take place events) (drop place events)
    in
    let front = lines_front stage packets all (reverse (drop place events)) (reverse (take place events)) in
    record {
      front = lines_of stage packets all (reverse (take place events));
      rest = front.0;
      is = ap (λ (l : List Event). lines_of stage packets all l) split ∙ front.1;
      appended = is;
    }

-- where memory was refused a first part of the lines was appended
pub part_left : {E : Type 0} (r : Result (Unit {0}) E) (h : History) (packets : List (List ℕ)) (events : List Event)
    (place : ℕ) (start before now : List ℕ) → events ≡ h.events
    → before ≡ start ++ lines_of h.stage packets (reverse events) (reverse (take place events)) → now ≡ before
    → OnErr r (AppendsPart (stream_text h packets) start now)
part_left (Ok done) h packets events place start before now same is last = tt
part_left (Err fault) h packets events place start before now same is last =
    subst
    (λ (l : List Event). AppendsPart (lines_of h.stage packets (reverse l) (reverse l)) start now)
    same (lines_part h.stage packets (reverse events) events place start now (last ∙ is))

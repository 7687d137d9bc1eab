-- A seat's calls and replies are what its worker recorded of the shard's book.
use Rattle.std.proofs.Common.{◌≡◌, ℕ, ◌+◌, Bool, true, false, cond, List, [], ◌∷◌, ◌++◌, length}
use Rattle.std.proofs.Common.{map}
use Rattle.std.proofs.Common.{Some, refl, sym, ap, ◌∙◌, arith, eqb, append_assoc}
use Rattle.std.proofs.Common.{append-nil}
use Rattle.std.specs.Prelude.{reverse}
use Rattle.std.specs.List.{AllByRecursion}
use Rattle.std.proofs.lemmas.Bool.{eqb-true}
use Rattle.std.proofs.lemmas.List.{reverse-append}
use Rattle.bm_rows.proofs.Lasts.{lasts, heads, tails}
use Rattle.std.proofs.Common.{length-append}
use Rattle.bm_core.specs.declared.events.Event.{Event}
use Rattle.bm_core.specs.declared.events.Stage.{Stage}
use Rattle.bm_core.specs.Runs.{Actor}
use Rattle.bm_shard.specs.Books.{Replays, event_after, reply_after}
use Rattle.bm_shard.specs.Turns.{call_moment}
use Rattle.bm_shard.specs.declared.book.Shard.{Shard}
use Rattle.bm_shard.specs.declared.calls.ShardCall.{ShardCall}
use Rattle.bm_shard.specs.declared.calls.ShardCall.TheVariants.{Arrive, Close, Retire}
use Rattle.bm_shard.specs.declared.calls.ShardEntry.{ShardEntry}
use Rattle.bm_merge.specs.Notes.{Note}
use Rattle.bm_merge.specs.Workers.{home_part, is_home}
use Rattle.bm_server.specs.Seats.{Answered, seat_of, call_of, reply_of, replies_in}
use Rattle.bm_turnstile.specs.Replies.{replies_after}
use Rattle.bm_worker.specs.WorkerNotes.{TimedEvent, timed_event, timed_events, noted}
use Rattle.bm_worker.specs.SeatCalls.{event_of_call}
use Rattle.bm_world.specs.Inside.Shards.{entries_by, AreNoted}

-- ONE MORE ENTRY

-- the call of an entry with its reply, under the number n, after these
abbrev pub reply_one : Shard → ℕ → List ShardEntry → ShardEntry → Bool → List Answered
reply_one about n before e b = cond b ((e.call, reply_of about before n e.call) ∷ []) []

pub replies_last : (about : Shard) (n : ℕ) (before es : List ShardEntry) (e : ShardEntry)
    → replies_after seat_of call_of reply_of about n before (es ++ e ∷ [])
    ≡ replies_after seat_of call_of reply_of about n before es
    ++ reply_one about n (before ++ es) e (eqb e.seat n)
replies_last about n before [] e =
    let same : before ++ [] ≡ before = append-nil before
    in go (eqb e.seat n) same where
      go : (b : Bool) → before ++ [] ≡ before
          → reply_one about n before e b ≡ reply_one about n (before ++ []) e b
      go true same = ap (λ (l : List ShardEntry). (e.call, reply_of about l n e.call) ∷ []) (sym same)
      go false same = refl
replies_last about n before (x ∷ es) e =
    let old = replies_last about n (before ++ x ∷ []) es e
    in let same : (before ++ x ∷ []) ++ es ≡ before ++ x ∷ es = append_assoc before (x ∷ []) es
    in go (eqb x.seat n)
    (old ∙ ap (λ (l : List ShardEntry). replies_after seat_of call_of reply_of about n (before ++ x ∷ []) es
    ++ reply_one about n l e (eqb e.seat n)) same) where
      go : (b : Bool) → replies_after seat_of call_of reply_of about n (before ++ x ∷ []) (es ++ e ∷ [])
          ≡ replies_after seat_of call_of reply_of about n (before ++ x ∷ []) es
          ++ reply_one about n (before ++ x ∷ es) e (eqb e.seat n)
          → cond b ((x.call, reply_of about before n x.call) ∷ replies_after seat_of call_of reply_of about n
          (before ++ x ∷ []) (es ++ e ∷ []))
          (replies_after seat_of call_of reply_of about n (before ++ x ∷ []) (es ++ e ∷ []))
          ≡ cond b ((x.call, reply_of about before n x.call) ∷ replies_after seat_of call_of reply_of about n
          (before ++ x ∷ []) es)
          (replies_after seat_of call_of reply_of about n (before ++ x ∷ []) es)
          ++ reply_one about n (before ++ x ∷ es) e (eqb e.seat n)
      go true was = ap (λ (l : List Answered). (x.call, reply_of about before n x.call) ∷ l) was
      go false was = was

timed_events_append : (about : Shard) (x y : List Answered) → timed_events about (x ++ y) ≡ timed_events about x ++ timed_events about y
timed_events_append about [] y = refl
timed_events_append about (a ∷ x) y = ap (λ (l : List TimedEvent). timed_event about a ∷ l) (timed_events_append about x y)

-- WHAT AN ENTRY SAYS

abbrev due_entry : ShardEntry → TimedEvent
due_entry e = (e.event, (call_moment e.call).0)

abbrev due_note : Note → TimedEvent
due_note n = (n.event, n.due)

-- turned round
abbrev back : {X : Type 0} → List X → List X
back [] = []
back (x ∷ xs) = back xs ++ x ∷ []

one_event : (shard : Shard) (past : List ShardEntry) (call : ShardCall)
    → event_of_call shard call (reply_after shard past call) ≡ event_after shard past call
one_event shard past (Arrive packet tag segment due) = refl
one_event shard past (Close flow at) = refl
one_event shard past (Retire at result) = refl

pub reverse_more : (e : ShardEntry) (past : List ShardEntry) → reverse (e ∷ past) ≡ reverse past ++ e ∷ []
reverse_more e past = reverse-append (e ∷ []) past

pub reverse_twice : (past : List ShardEntry) → reverse (reverse past) ≡ past
reverse_twice [] = refl
reverse_twice (e ∷ past) =
    ap (λ (l : List ShardEntry). reverse l) (reverse_more e past) ∙ reverse-append (reverse past) (e ∷ [])
    ∙ ap (λ (l : List ShardEntry). e ∷ l) (reverse_twice past)

-- the entries of a seat have its calls and replies
pub entries_due : (about : Shard) (w : ℕ) (past : List ShardEntry) → Replays about past
    → timed_events about (replies_in (Some about) w (reverse past)) ≡ back (map due_entry (entries_by w past))
entries_due about w [] replays = refl
entries_due about w (e ∷ past) replays =
    let old = entries_due about w past replays.1
    in let event : event_of_call about e.call (reply_of about (reverse past) w e.call) ≡ e.event =
    ap (λ (l : List ShardEntry). event_of_call about e.call (reply_after about l e.call)) (reverse_twice past)
    ∙ one_event about past e.call ∙ sym replays.0
    in ap (λ (l : List ShardEntry). timed_events about (replies_in (Some about) w l)) (reverse_more e past)
    ∙ ap (λ (l : List Answered). timed_events about l) (replies_last about w [] (reverse past) e)
    ∙ timed_events_append about (replies_in (Some about) w (reverse past))
    (reply_one about w (reverse past) e (eqb e.seat w))
    ∙ ap (λ (l : List TimedEvent). l ++ timed_events about (reply_one about w (reverse past) e (eqb e.seat w)))
    old ∙ go (eqb e.seat w) event where
      go : (b : Bool) → event_of_call about e.call (reply_of about (reverse past) w e.call) ≡ e.event
          → back (map due_entry (entries_by w past))
          ++ timed_events about (reply_one about w (reverse past) e b)
          ≡ back (map due_entry (cond b (e ∷ entries_by w past) (entries_by w past)))
      go true event =
          ap (λ (x : Event). back (map due_entry (entries_by w past)) ++ (x, (call_moment e.call).0) ∷ []) event
      go false event = append-nil (back (map due_entry (entries_by w past)))

-- and so do the notes
pub notes_due : (stage : Stage) (a : Actor) (d : List Note)
    → noted stage a d ≡ back (map due_note (home_part stage a d))
notes_due stage a [] = refl
notes_due stage a (n ∷ d) =
    ap (λ (l : List TimedEvent). l ++ cond (is_home stage a n) ((n.event, n.due) ∷ []) []) (notes_due stage a d)
    ∙ go (is_home stage a n) where
      go : (b : Bool) → back (map due_note (home_part stage a d)) ++ cond b ((n.event, n.due) ∷ []) []
          ≡ back (map due_note (cond b (n ∷ home_part stage a d) (home_part stage a d)))
      go true = refl
      go false = append-nil (back (map due_note (home_part stage a d)))

back_long : (x : List TimedEvent) → length (back x) ≡ length x
back_long [] = refl
back_long (a ∷ x) =
    let old = back_long x in let more : length (back x ++ a ∷ []) ≡ length (back x) + 1 =
    length-append (back x) (a ∷ [])
    in omega arith

back_same : (x y : List TimedEvent) → back x ≡ back y → x ≡ y
back_same [] [] same = refl
back_same [] (b ∷ y) same =
    let l = ap (λ (z : List TimedEvent). length z) same in let m = back_long (b ∷ y) in absurd (omega arith)
back_same (a ∷ x) [] same =
    let l = ap (λ (z : List TimedEvent). length z) same in let m = back_long (a ∷ x) in absurd (omega arith)
back_same (a ∷ x) (b ∷ y) same =
    let parts = lasts (back x) (back y) a b same
    in let rest = back_same x y parts.0
    in λ i. parts.1 i ∷ rest i

noted_same : (w : ℕ) (es : List ShardEntry) (ns : List Note) → map due_entry es ≡ map due_note ns
    → AllByRecursion (λ (e : ShardEntry). e.seat ≡ w) es → AllByRecursion (λ n. n.seat ≡ w) ns → AreNoted es ns
noted_same w [] [] same a b = tt
noted_same w [] (n ∷ ns) same a b = let l = ap (λ (z : List TimedEvent). length z) same in absurd (omega arith)
noted_same w (e ∷ es) [] same a b = let l = ap (λ (z : List TimedEvent). length z) same in absurd (omega arith)
noted_same w (e ∷ es) (n ∷ ns) same a b =
    let first = heads (due_entry e) (due_note n) (map due_entry es) (map due_note ns) same
    in let rest = tails (due_entry e) (due_note n) (map due_entry es) (map due_note ns) same
    in (
      (sym (ap (λ (s : TimedEvent). s.0) first), sym (ap (λ (s : TimedEvent). s.1) first), b.0 ∙ sym a.0),
      noted_same w es ns rest a.1 b.1,
    )

by_seat : (w : ℕ) (es : List ShardEntry) → AllByRecursion (λ (e : ShardEntry). e.seat ≡ w) (entries_by w es)
by_seat w [] = tt
by_seat w (e ∷ es) = go (eqb e.seat w) refl (by_seat w es) where
  go : (b : Bool) → eqb e.seat w ≡ b → AllByRecursion (λ (x : ShardEntry). x.seat ≡ w) (entries_by w es)
      → AllByRecursion (λ (x : ShardEntry). x.seat ≡ w) (cond b (e ∷ entries_by w es) (entries_by w es))
  go true is old = (eqb-true _ _ is, old)
  go false is old = old

-- the calls and replies under a number are what the worker of that number recorded
pub replies_noted : (stage : Stage) (a : Actor) (about : Shard) (w : ℕ) (entries : List ShardEntry) (d : List Note)
    → Replays about (reverse entries) → AllByRecursion (λ n. n.seat ≡ w) (home_part stage a d)
    → timed_events about (replies_in (Some about) w entries) ≡ noted stage a d
    → AreNoted (entries_by w (reverse entries)) (home_part stage a d)
replies_noted stage a about w entries d replays seats same =
    let back_is = entries_due about w (reverse entries) replays
    in let whole : timed_events about (replies_in (Some about) w (reverse (reverse entries)))
    ≡ timed_events about (replies_in (Some about) w entries) =
    ap (λ (l : List ShardEntry). timed_events about (replies_in (Some about) w l)) (reverse_twice entries)
    in noted_same w (entries_by w (reverse entries)) (home_part stage a d)
    (back_same (map due_entry (entries_by w (reverse entries))) (map due_note (home_part stage a d))
    (sym back_is ∙ whole ∙ same ∙ notes_due stage a d)) (by_seat w (reverse entries)) seats

-- The seats of a server after a turn at one shard.
use Rattle.std.proofs.Common.{◌≡◌, ℕ, zero, suc, ◌+◌, ◌<◌, ◌≤◌, ◌==◌, Bool, cond, List, [], ◌∷◌, ◌++◌, length, map}
use Rattle.std.proofs.Common.{get_or, set, slice_get, Some, Result, Ok, Err, IfOk, OnErr, reverse, subst, inl, inr, refl, sym, ap}
use Rattle.std.proofs.Common.{◌∙◌}
use Rattle.std.proofs.Common.{append-nil, arith}
use Rattle.std.proofs.lemmas.Bool.{cases_Bool, eqb-true, eqb-false}
use Rattle.std.proofs.lemmas.List.{length-map}
use Rattle.std.proofs.lemmas.Option.{same_Some, slice_get-get_or}
use Rattle.atomic_table.specs.Seated.{TableId}
use Rattle.bm_base.specs.declared.flow.Segment.{Segment}
use Rattle.bm_base.specs.declared.ids.Moment.{Moment}
use Rattle.bm_base.specs.declared.label.Tag.{Tag}
use Rattle.bm_table.proofs.Gets.{slice_get-set_same, slice_get-set_other}
use Rattle.bm_shard.specs.declared.book.Shard.{Shard}
use Rattle.bm_shard.specs.declared.calls.ShardCall.{ShardCall}
use Rattle.bm_shard.specs.declared.calls.ShardReply.{ShardReply}
use Rattle.bm_shard.specs.declared.fault.HandleFault.{HandleFault}
use Rattle.bm_shard.specs.declared.fault.HandleFault.TheVariants.{Memory}
use Rattle.bm_turnstile.specs.Seen.{SeesMore, Turned}
use Rattle.bm_turnstile.specs.Sittings.{Who, who}
use Rattle.bm_turnstile.specs.Replies.{AddsReply}
use Rattle.bm_server.specs.Copies.{HandlesCopy, arrival}
use Rattle.bm_server.specs.Servings.{Serving, shard_at, shard_for}
use Rattle.bm_server.specs.Seats.{row, row_from}
use Rattle.bm_server.specs.Seats.{Seated, Answered, IsReply, GetsReply, seat_of, call_of, reply_of}
use Rattle.bm_server.specs.Seats.{replies_of, replies_at, added, added_at, most_turns, Sees, TakesTurn}

pub inside : (tables : List TableId) (l seat : List Seated) (h : ℕ) → l ≡ seat
    → map (λ (s : Seated). s.table) seat ≡ tables → h < length tables → h < length l
inside tables l seat h view mine lt =
    let a : length l ≡ length seat = ap (λ (l : List Seated). length l) view in
    let b : length (map (λ (s : Seated). s.table) seat) ≡ length tables = ap (λ (l : List TableId). length l) mine in
    omega (arith, a, b, lt, length-map seat (λ (s : Seated). s.table))

tables_row : (f : ℕ → Shard) (n i h : ℕ) (ts : List TableId)
    → map (λ (w : Who Shard). w.table) (row_from f n i h ts) ≡ ts
tables_row f n i h [] = refl
tables_row f n i h (t ∷ ts) = ap (λ (l : List TableId). t ∷ l) (tables_row f n i (suc h) ts)

tables_who : (l : List Seated) → map (λ (w : Who Shard). w.table) (map who l) ≡ map (λ (s : Seated). s.table) l
tables_who [] = refl
tables_who (s ∷ l) = ap (λ (ts : List TableId). s.table ∷ ts) (tables_who l)

-- a seat of a server has the turnstiles of its shards
pub row_tables : (seat : List Seated) (server : Serving) (i : ℕ) → map who seat ≡ row server i
    → map (λ (s : Seated). s.table) seat ≡ server.tables
row_tables seat server i is =
    sym (tables_who seat)
    ∙ (ap (map (λ (w : Who Shard). w.table)) is ∙ tables_row (shard_at server) server.seats i 0 server.tables)

pub turns_at : (l : List Seated) (h : ℕ) (d : Seated) → h < length l → (get_or l h d).turns ≤ most_turns l
turns_at [] h d lt = absurd (omega arith)
turns_at (x ∷ xs) zero d lt = omega arith
turns_at (x ∷ xs) (suc h) d lt = let a = turns_at xs h d (omega arith) in omega arith

pub turns_set : (l : List Seated) (h : ℕ) (d t : Seated) → h < length l → t.turns ≡ (get_or l h d).turns + 1
    → most_turns (set l h t) ≤ most_turns l + 1
turns_set [] h d t lt e = absurd (omega arith)
turns_set (x ∷ xs) zero d t lt e = omega arith
turns_set (x ∷ xs) (suc h) d t lt e = let a = turns_set xs h d t (omega arith) e in omega arith

replies_by : {M : Type 0} (s t : Seated) (call : ShardCall) (r : Result ShardReply M)
    → AddsReply seat_of call_of reply_of s t call r → replies_of (Some t) ≡ replies_of (Some s) ++ added call r
replies_by s t call (Ok x) replies = replies
replies_by s t call (Err e) replies = replies ∙ sym (append-nil (replies_of (Some s)))

pub replies_set : {M : Type 0} (l : List Seated) (h : ℕ) (s t : Seated) (call : ShardCall) (r : Result ShardReply M)
    → h < length l → s ≡ get_or l h s → AddsReply seat_of call_of reply_of s t call r
    → (k : ℕ) → replies_at (set l h t) k ≡ replies_at l k ++ added_at h call r k
replies_set l h s t call r lt is replies k = elim (cases_Bool (k == h)) [
  | inl here ↦
      let e : k ≡ h = eqb-true k h here in
      let old : slice_get l k ≡ Some s = ap (slice_get l) e ∙ (slice_get-get_or l h s lt ∙ ap Some (sym is)) in
      let new : slice_get (set l h t) k ≡ Some t = ap (slice_get (set l h t)) e ∙ slice_get-set_same l h t lt in
      let more : added_at h call r k ≡ added call r = ap (λ (b : Bool). cond b (added call r) []) here in
      ap replies_of new ∙ (replies_by s t call r replies ∙ (λ i. replies_of (sym old i) ++ sym more i))
  | inr other ↦
      let rest : added_at h call r k ≡ [] = ap (λ (b : Bool). cond b (added call r) []) other in
      ap replies_of (slice_get-set_other l h k t (λ e. eqb-false k h other (sym e)))
      ∙ (sym (append-nil (replies_at l k)) ∙ ap (λ (more : List Answered). replies_at l k ++ more) (sym rest))
]

sees_by : {M : Type 0} (s t : Seated) (call : ShardCall) (r : Result ShardReply M)
    → IfOk r (Turned seat_of call_of reply_of s t call) → OnErr r (SeesMore seat_of s t) → Sees call r s t
sees_by s t call (Ok reply) turned more = turned
sees_by s t call (Err e) turned more = more

-- the turnstile's turn is the seat's turn there, and none at the others
pub takes_turn : {M : Type 0} (l : List Seated) (h : ℕ) (s t : Seated) (call : ShardCall) (r : Result ShardReply M)
    → h < length l → s ≡ get_or l h s → t.turns ≡ s.turns + 1 → IfOk r (Turned seat_of call_of reply_of s t call)
    → OnErr r (SeesMore seat_of s t)
    → TakesTurn h call r l (set l h t)
takes_turn l h s t call r lt is turns turned more =
    let old : slice_get l h ≡ Some s = slice_get-get_or l h s lt ∙ ap Some (sym is) in
    let new : slice_get (set l h t) h ≡ Some t = slice_get-set_same l h t lt in
    let here : (a b : Seated) → slice_get l h ≡ Some a → slice_get (set l h t) h ≡ Some b → (a ≡ s) × (b ≡ t) =
    λ a b x y. (same_Some a s (sym x ∙ old), same_Some b t (sym y ∙ new)) in
    record {
      turns = λ a b x y. let e = here a b x y in
          ap (λ (z : Seated). z.turns) e.1 ∙ (turns ∙ ap (λ (z : Seated). z.turns + 1) (sym e.0));
      sees = λ a b x y. let e = here a b x y in
          subst (λ (z : Seated). Sees call r z b) (sym e.0)
          (subst (λ (z : Seated). Sees call r s z) (sym e.1) (sees_by s t call r turned more));
      others = λ k other. slice_get-set_other l h k t (λ e. other (sym e));
    }

pub turned_reply : {M : Type 0} (s t : Seated) (call : ShardCall) (r : Result ShardReply M)
    → IfOk r (Turned seat_of call_of reply_of s t call) → IsReply call r
turned_reply s t call (Ok reply) turned = (turned.about, reverse (s.seen ++ turned.between), turned.replied)
turned_reply s t call (Err e) turned = tt

-- A COPY

ok_turn : {M N : Type 0} (h : ℕ) (call : ShardCall) (reply : ShardReply) (old new : List Seated)
    → TakesTurn {M = M} h call (Ok reply) old new → TakesTurn {M = N} h call (Ok reply) old new
ok_turn h call reply old new turn = record { turns = turn.turns; sees = turn.sees; others = turn.others }

err_turn : {M N : Type 0} (h : ℕ) (call : ShardCall) (e : M) (f : N) (old new : List Seated)
    → TakesTurn h call (Err e) old new → TakesTurn h call (Err f) old new
err_turn h call e f old new turn = record { turns = turn.turns; sees = turn.sees; others = turn.others }

-- what a turn adds to the seat's calls, for a copy that was read and had this reply
pub copy_replied : {M : Type 0} (server : Serving) (packet h : ℕ) (due : Moment) (read : Tag × Segment)
    (copy : Result (Tag × Segment) HandleFault) (r : Result ShardReply M) (reply : ShardReply)
    (old new : List Seated) → Ok read ≡ copy → h ≡ shard_for server read.1.flow → r ≡ Ok reply
    → GetsReply h (arrival packet due read) r old new → TakesTurn h (arrival packet due read) r old new
    → IsReply (arrival packet due read) r → HandlesCopy server packet due copy (Ok reply) old new
copy_replied {M} server packet h due read copy r reply old new is at ok gets turn given =
    let call = arrival packet due read in
    let P : ℕ → Result ShardReply M → Type 0 = λ k x.
    GetsReply k call x old new × TakesTurn k call x old new × IsReply call x in
    let a : P (shard_for server read.1.flow) (Ok reply) =
    subst (λ (k : ℕ). P k (Ok reply)) at (subst (P h) ok (gets, turn, given)) in
    subst (λ (x : Result (Tag × Segment) HandleFault). HandlesCopy server packet due x (Ok reply) old new) is
    (a.0, tt, a.2, ok_turn (shard_for server read.1.flow) call reply old new a.1)

-- the same where memory was refused
pub copy_refused : {M : Type 0} (server : Serving) (packet h : ℕ) (due : Moment) (read : Tag × Segment)
    (copy : Result (Tag × Segment) HandleFault) (r : Result ShardReply M) (e : M) (old new : List Seated)
    → Ok read ≡ copy → h ≡ shard_for server read.1.flow → r ≡ Err e
    → GetsReply h (arrival packet due read) r old new → TakesTurn h (arrival packet due read) r old new
    → HandlesCopy server packet due copy (Err Memory) old new
copy_refused {M} server packet h due read copy r e old new is at err gets turn =
    let call = arrival packet due read in
    let P : ℕ → Result ShardReply M → Type 0 = λ k x. GetsReply k call x old new × TakesTurn k call x old new in
    let a : P (shard_for server read.1.flow) (Err e) =
    subst (λ (k : ℕ). P k (Err e)) at (subst (P h) err (gets, turn)) in
    subst (λ (x : Result (Tag × Segment) HandleFault). HandlesCopy server packet due x (Err Memory) old new) is
    (a.0, refl, tt, err_turn (shard_for server read.1.flow) call e Memory old new a.1)

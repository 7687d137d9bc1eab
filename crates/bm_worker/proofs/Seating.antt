-- A call leaves a worker with its seats, and adds a call with its reply to one of them.
use Rattle.std.proofs.Common.{◌≡◌, ℕ, suc, ◌+◌, ◌<◌, ◌≤◌, ◌==◌, ◌&&◌, Bool, true, false, cond, List, [], ◌∷◌, ◌++◌}
use Rattle.std.proofs.Common.{length, map, get_or, set, slice_get, Option, Some, Result, Ok, Err, inl, inr, refl, sym}
use Rattle.std.proofs.Common.{ap, ◌∙◌, subst, append-nil, arith}
use Rattle.std.proofs.lemmas.Bool.{cases_Bool, eqb-true, eqb-false}
use Rattle.std.proofs.lemmas.List.{length-map}
use Rattle.std.proofs.lemmas.Option.{same_Some, slice_get-get_or, slice_get-map}
use Rattle.std.proofs.Math.Seq.{map-set_same}
use Rattle.std.specs.Option.{option_map}
use Rattle.atomic_table.specs.Seated.{TableId}
use Rattle.bm_table.proofs.Gets.{slice_get-set_same, slice_get-set_other}
use Rattle.bm_shard.specs.declared.book.Shard.{Shard}
use Rattle.bm_shard.specs.declared.calls.ShardCall.{ShardCall}
use Rattle.bm_shard.specs.declared.calls.ShardReply.{ShardReply}
use Rattle.bm_turnstile.specs.Sittings.{Who, who}
use Rattle.bm_server.specs.Servings.{Serving}
use Rattle.bm_server.specs.Seats.{Seated, Answered, row, row_from, added_at, GetsReply, most_turns}
use Rattle.bm_server.specs.Servings.{shard_at}
use Rattle.bm_worker.specs.SeatCalls.{AddsCall, AddsNoCall, calls_in, calls_there}
use Rattle.bm_worker.specs.WorkerNotes.{HasSeats}
use Rattle.bm_worker.specs.Callers.{CallerState}

pub sits_as : (c a : CallerState) (servers : List Serving) → a ≡ c → HasSeats servers c → HasSeats servers a
sits_as c a servers e h = subst (λ (x : CallerState). HasSeats servers x) (sym e) h

as_many : (servers : List Serving) (seats : List (List Seated)) (n : ℕ)
    → map (map who) seats ≡ map (λ server. row server n) servers
    → length seats ≡ length servers
as_many servers seats n has_seats =
    sym (length-map seats (map who)) ∙ (ap (λ l. length l) has_seats ∙ length-map servers (λ server. row server n))

-- there is a seat at the place of each server
pub seat_there : (c a : CallerState) (servers : List Serving) (place : ℕ) → a ≡ c → HasSeats servers c → place < length servers
    → place < length a.seats
seat_there c a servers place e h lt =
    let long = as_many servers a.seats a.number (sits_as c a servers e h) in omega (arith, lt, long)

pub seat_got : (seats : List (List Seated)) (place : ℕ) (seat : List Seated) → place < length seats
    → seat ≡ get_or seats place seat
    → slice_get seats place ≡ Some seat
seat_got seats place seat lt is = slice_get-get_or seats place seat lt ∙ ap Some (sym is)

pub server_got : (servers : List Serving) (place : ℕ) (server : Serving) → place < length servers
    → server ≡ get_or servers place server
    → slice_get servers place ≡ Some server
server_got servers place server lt is = slice_get-get_or servers place server lt ∙ ap Some (sym is)

tables_row : (f : ℕ → Shard) (n i h : ℕ) (ts : List TableId)
    → map (λ (w : Who Shard). w.table) (row_from f n i h ts) ≡ ts
tables_row f n i h [] = refl
tables_row f n i h (t ∷ ts) = ap (λ (l : List TableId). t ∷ l) (tables_row f n i (suc h) ts)

tables_who : (l : List Seated) → map (λ (w : Who Shard). w.table) (map who l) ≡ map (λ (s : Seated). s.table) l
tables_who [] = refl
tables_who (s ∷ l) = ap (λ (ts : List TableId). s.table ∷ ts) (tables_who l)

row_tables : (seat : List Seated) (server : Serving) (n : ℕ) → map who seat ≡ row server n
    → map (λ (s : Seated). s.table) seat ≡ server.tables
row_tables seat server n e =
    sym (tables_who seat) ∙ (ap (λ (l : List (Who Shard)). map (λ (w : Who Shard). w.table) l) e
    ∙ tables_row (shard_at server) server.seats n 0 server.tables)

row_at : (servers : List Serving) (seats : List (List Seated)) (n place : ℕ) (seat : List Seated) (server : Serving)
    → map (map who) seats ≡ map (λ server. row server n) servers
    → slice_get seats place ≡ Some seat → slice_get servers place ≡ Some server → map who seat ≡ row server n
row_at servers seats n place seat server has_seats a b =
    let left : slice_get (map (map who) seats) place ≡ Some (map who seat) =
    slice_get-map (map who) seats place ∙ ap (λ (o : Option (List Seated)). option_map (map who) o) a in
    let right : slice_get (map (λ server. row server n) servers) place ≡ Some (row server n) =
    slice_get-map (λ server. row server n) servers place
    ∙ ap (λ (o : Option Serving). option_map (λ server. row server n) o) b in
    same_Some (map who seat) (row server n) (sym left ∙ (ap (λ l. slice_get l place) has_seats ∙ right))

-- the seat at the place is one of the server there
pub mine_there : (c a : CallerState) (servers : List Serving) (place : ℕ) (seat : List Seated) (server : Serving) → a ≡ c
    → HasSeats servers c
    → place < length servers → seat ≡ get_or a.seats place seat → server ≡ get_or servers place server
    → map (λ (s : Seated). s.table) seat ≡ server.tables
mine_there c a servers place seat server e h lt is at =
    row_tables seat server a.number (row_at servers a.seats a.number place seat server (sits_as c a servers e h)
    (seat_got a.seats place seat (seat_there c a servers place e h lt) is) (server_got servers place server lt at))

-- TURNS

pub few_there : (c a : CallerState) (servers : List Serving) (place : ℕ) (seat : List Seated) → a ≡ c → HasSeats servers c
    → place < length servers
    → seat ≡ get_or a.seats place seat → c.tries < 4294967295
    → ((s : ℕ) (seat : List Seated) → slice_get a.seats s ≡ Some seat → most_turns seat ≤ a.tries)
    → most_turns seat < 4294967295
few_there c a servers place seat e h lt is few turns =
    let tries : a.tries ≡ c.tries = ap (λ (x : CallerState). x.tries) e in
    let most = turns place seat (seat_got a.seats place seat (seat_there c a servers place e h lt) is) in
    omega (arith, few, tries, most)

pub turns_kept : (seats : List (List Seated)) (place tries : ℕ) (a b : List Seated) → place < length seats
    → a ≡ get_or seats place a
    → most_turns b ≤ most_turns a + 1
    → ((s : ℕ) (seat : List Seated) → slice_get seats s ≡ Some seat → most_turns seat ≤ tries)
    → (s : ℕ) (seat : List Seated) → slice_get (set seats place b) s ≡ Some seat → most_turns seat ≤ tries + 1
turns_kept seats place tries a b lt is more turns s seat at = elim (cases_Bool (s == place)) [
  | inl here ↦
      let e : s ≡ place = eqb-true s place here in
      let few = turns place a (seat_got seats place a lt is) in
      let same : b ≡ seat =
      same_Some b seat (sym (ap (slice_get (set seats place b)) e ∙ slice_get-set_same seats place b lt) ∙ at) in
      subst (λ (x : List Seated). most_turns x ≤ tries + 1) same (omega arith)
  | inr other ↦
      let few = turns s seat (sym (slice_get-set_other seats place s b (λ e. eqb-false s place other (sym e))) ∙ at) in
      omega arith
]

pub whos_kept : (seats : List (List Seated)) (place : ℕ) (a b : List Seated) → a ≡ get_or seats place a
    → map who b ≡ map who a
    → map (map who) (set seats place b) ≡ map (map who) seats
whos_kept seats place a b is same =
    map-set_same (map who) seats place b a (same ∙ ap (λ (l : List Seated). map who l) is)

-- THE CALLS

-- the seats' calls and replies after a call
calls_grow : {M : Type 0} (seats : List (List Seated)) (place shard : ℕ) (a b : List Seated) (call : ShardCall)
    (r : Result ShardReply M)
    → place < length seats → a ≡ get_or seats place a → GetsReply shard call r a b
    → (s h : ℕ) → calls_there (set seats place b) s h ≡ calls_there seats s h
    ++ cond (s == place) (added_at shard call r h) []
calls_grow seats place shard a b call r lt is gets s h = elim (cases_Bool (s == place)) [
  | inl here ↦
      let e : s ≡ place = eqb-true s place here in
      let old : slice_get seats s ≡ Some a = ap (slice_get seats) e ∙ seat_got seats place a lt is in
      let new : slice_get (set seats place b) s ≡ Some b =
      ap (slice_get (set seats place b)) e ∙ slice_get-set_same seats place b lt in
      let more : added_at shard call r h ≡ cond (s == place) (added_at shard call r h) [] =
      ap (λ (x : Bool). cond x (added_at shard call r h) []) (sym here) in
      ap (λ (o : Option (List Seated)). calls_in o h) new ∙ (gets h ∙ (λ i. calls_in (sym old i) h ++ more i))
  | inr other ↦
      let none : [] ≡ cond (s == place) (added_at shard call r h) [] =
      ap (λ (x : Bool). cond x (added_at shard call r h) []) (sym other) in
      ap (λ (o : Option (List Seated)). calls_in o h)
      (slice_get-set_other seats place s b (λ e. eqb-false s place other (sym e)))
      ∙ (sym (append-nil (calls_there seats s h)) ∙ ap (λ (l : List Answered). calls_there seats s h ++ l) none)
]

both_conds : (a b : Bool) (x : Answered) → cond a (cond b (x ∷ []) []) [] ≡ cond (a && b) (x ∷ []) []
both_conds true b x = refl
both_conds false b x = refl

-- a call that was answered is added
pub adds_call : {M : Type 0} (c a : CallerState) (servers : List Serving) (place shard : ℕ) (old new : List Seated)
    (call : ShardCall)
    (r : Result ShardReply M) (reply : ShardReply) → a ≡ c → HasSeats servers c → place < length servers
    → old ≡ get_or a.seats place old
    → GetsReply shard call r old new → r ≡ Ok reply → AddsCall place shard call reply c.seats (set a.seats place new)
adds_call c a servers place shard old new call r reply e h lt is gets ok s k =
    calls_grow a.seats place shard old new call r (seat_there c a servers place e h lt) is gets s k
    ∙ (λ i. calls_there ((e i).seats) s k ++ cond (s == place) (added_at shard call (ok i) k) [])
    ∙ ap (λ (l : List Answered). calls_there c.seats s k ++ l) (both_conds (s == place) (k == shard) (call, reply))

none_added : (a b : Bool) → ◌≡◌ {A = List Answered} (cond a (cond b [] []) []) []
none_added true true = refl
none_added true false = refl
none_added false b = refl

-- one that was not leaves all as it was
pub adds_no_call : {M : Type 0} (c a : CallerState) (servers : List Serving) (place shard : ℕ) (old new : List Seated)
    (call : ShardCall)
    (r : Result ShardReply M) (why : M) → a ≡ c → HasSeats servers c → place < length servers
    → old ≡ get_or a.seats place old
    → GetsReply shard call r old new → r ≡ Err why → AddsNoCall c.seats (set a.seats place new)
adds_no_call c a servers place shard old new call r why e h lt is gets err s k =
    calls_grow a.seats place shard old new call r (seat_there c a servers place e h lt) is gets s k
    ∙ (λ i. calls_there ((e i).seats) s k ++ cond (s == place) (added_at shard call (err i) k) [])
    ∙ (ap (λ (l : List Answered). calls_there c.seats s k ++ l) (none_added (s == place) (k == shard))
    ∙ append-nil (calls_there c.seats s k))

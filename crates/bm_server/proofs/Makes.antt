-- The seats of a server that gets one shard more.
use Rattle.std.proofs.Common.{◌≡◌, ℕ, zero, suc, ◌+◌, List, [], ◌∷◌, ◌++◌, length, Option, Some, None}
use Rattle.std.proofs.Common.{refl, sym, ap, ◌∙◌, subst, arith}
use mathlib.Core.List.{map-append}
use Rattle.atomic_table.specs.Seated.{TableId}
use Rattle.bm_base.specs.declared.ids.ServerId.{ServerId}
use Rattle.bm_shard.specs.declared.book.Shard.{Shard}
use Rattle.bm_shard.specs.declared.calls.ShardEntry.{ShardEntry}
use Rattle.bm_turnstile.specs.Sittings.{Who, IsFresh, who, post}
use Rattle.bm_server.specs.Servings.{serving, shard_at}
use Rattle.bm_server.specs.Seats.{Seated, IsNewSeat, row_from, replies_in, replies_at, most_turns, seen_at}

row-snoc : (f : ℕ → Shard) (n i h : ℕ) (ts : List TableId) (t : TableId)
    → row_from f n i h (ts ++ t ∷ []) ≡ row_from f n i h ts ++ post t (Some (f (h + length ts))) n i ∷ []
row-snoc f n i h [] t = let e : h ≡ h + 0 = omega arith in ap (λ (k : ℕ). post t (Some (f k)) n i ∷ []) e
row-snoc f n i h (x ∷ ts) t =
    let e : suc h + length ts ≡ h + suc (length ts) = omega arith in
    ap (λ (l : List (Who Shard)). post x (Some (f h)) n i ∷ l)
    (row-snoc f n i (suc h) ts t ∙ ap (λ (k : ℕ). row_from f n i (suc h) ts ++ post t (Some (f k)) n i ∷ []) e)

no_replies : (o : Option Shard) (n : ℕ) → replies_in o n [] ≡ []
no_replies None n = refl
no_replies (Some about) n = refl

fresh_replies : (r : List Seated) (s : Seated) → s.seen ≡ [] → ((h : ℕ) → replies_at r h ≡ [])
    → (h : ℕ) → replies_at (r ++ s ∷ []) h ≡ []
fresh_replies [] s seen none zero =
    ap (λ (es : List ShardEntry). replies_in s.fixed s.number es) seen ∙ no_replies s.fixed s.number
fresh_replies [] s seen none (suc h) = refl
fresh_replies (x ∷ r) s seen none zero = none 0
fresh_replies (x ∷ r) s seen none (suc h) = fresh_replies r s seen (λ k. none (suc k)) h

fresh_seen : (r : List Seated) (s : Seated) → s.seen ≡ [] → ((h : ℕ) → seen_at r h ≡ [])
    → (h : ℕ) → seen_at (r ++ s ∷ []) h ≡ []
fresh_seen [] s seen none zero = seen
fresh_seen [] s seen none (suc h) = refl
fresh_seen (x ∷ r) s seen none zero = none 0
fresh_seen (x ∷ r) s seen none (suc h) = fresh_seen r s seen (λ k. none (suc k)) h

fresh_turns : (r : List Seated) (s : Seated) → s.turns ≡ 0 → most_turns r ≡ 0 → most_turns (r ++ s ∷ []) ≡ 0
fresh_turns [] s e none = omega arith
fresh_turns (x ∷ r) s e none = let a = fresh_turns r s e (omega arith) in omega arith

pub no_shard : (id : ServerId) (capacity timeout seats i : ℕ) (seat : List Seated) → seat ≡ []
    → IsNewSeat (serving id capacity timeout seats []) i seat
no_shard id capacity timeout seats i seat e =
    let P : List Seated → Type 0 = λ s. IsNewSeat (serving id capacity timeout seats []) i s in
    subst P (sym e) (record { «is» = refl; turns = refl; seen = λ h. refl; replies = λ h. refl })

pub fresh_more : (id : ServerId) (capacity timeout seats : ℕ) (ts : List TableId) (t : TableId) (i : ℕ)
    (r : List Seated) (s : Seated) → IsNewSeat (serving id capacity timeout seats ts) i r → IsFresh s
    → who s ≡ post t (Some (shard_at (serving id capacity timeout seats ts) (length ts))) seats i
    → IsNewSeat (serving id capacity timeout seats (ts ++ t ∷ [])) i (r ++ s ∷ [])
fresh_more id capacity timeout seats ts t i r s new fresh w =
    let f : ℕ → Shard = shard_at (serving id capacity timeout seats ts) in
    let z : length ts ≡ 0 + length ts = omega arith in
    let last = ap (λ (k : ℕ). row_from f seats i 0 ts ++ post t (Some (f k)) seats i ∷ []) z in
    record {
      «is» = map-append who r (s ∷ [])
          ∙ ((λ j. new.«is» j ++ w j ∷ []) ∙ (last ∙ sym (row-snoc f seats i 0 ts t)));
      turns = fresh_turns r s fresh.turns new.turns;
      seen = fresh_seen r s fresh.seen new.seen;
      replies = fresh_replies r s fresh.seen new.replies;
    }

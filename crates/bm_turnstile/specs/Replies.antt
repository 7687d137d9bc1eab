-- A seat's own calls, each with its reply (docs/DEFINITIONS.md).
use Rattle.std.specs.Prelude.{◌≡◌, ℕ, ◌==◌, cond, List, [], ◌∷◌, ◌++◌}
use Rattle.std.specs.Prelude.{Option, Some, None, Result, Ok, Err}
use Rattle.bm_turnstile.specs.Sittings.{Sitting}

module _ {X E C R : Type 0} (seat_of : E → ℕ) (call_of : E → C)
    (reply_of : X → List E → ℕ → C → R) where
  -- the calls under the number n among these entries, which come after `before`, each with its
  -- reply after all entries before it
  abbrev pub replies_after : X → ℕ → List E → List E → List (C × R)
  replies_after about n before [] = []
  replies_after about n before (e ∷ es) =
      let later = replies_after about n (before ++ e ∷ []) es in
      cond (seat_of e == n) ((call_of e, reply_of about before n (call_of e)) ∷ later) later

  abbrev pub replies : Option X → ℕ → List E → List (C × R)
  replies None n es = []
  replies (Some about) n es = replies_after about n [] es

  -- the seat's own calls, each with its reply
  abbrev pub replies_to : Sitting X E → List (C × R)
  replies_to s = replies s.fixed s.number s.seen

  -- what a turn adds to it
  abbrev pub AddsReply : {M : Type 0} → Sitting X E → Sitting X E → C → Result R M → Type 0
  AddsReply old new call (Ok reply) = replies_to new ≡ replies_to old ++ (call, reply) ∷ []
  AddsReply old new call (Err e) = replies_to new ≡ replies_to old

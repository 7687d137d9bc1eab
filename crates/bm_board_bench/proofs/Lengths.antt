-- How long a mux's log gets, and the last of some clocks.
use Rattle.std.proofs.Common.{◌≡◌, ℕ, suc, ◌+◌, ◌≤◌, List, [], ◌∷◌, ◌++◌, length, reverse, inl, inr}
use Rattle.std.proofs.Common.{refl, ap, ◌∙◌, arith, length-append}
use Rattle.std.specs.Prelude.{nat_lt}
use Rattle.std.proofs.lemmas.Bool.{cases_Bool}
use Rattle.bm_base.specs.declared.ids.MuxId.{MuxId}
use Rattle.bm_core.specs.declared.events.Event.{Event}
use Rattle.bm_core.specs.Past.{version_at}
use Rattle.bm_publish.specs.Posts.{Posted, last_or, last_version}
use Rattle.bm_mux.specs.declared.item.MuxItem.{MuxItem}
use Rattle.bm_mux.specs.declared.item.Steered.{Steered}
use Rattle.bm_mux.specs.Steers.{clock_under, steer_clock, steers, switches}
use Rattle.bm_mux.specs.Muxes.{IsBatch}

steers_length : (m : MuxId) (last : ℕ) (items : List MuxItem) → length (steers m last items) ≡ length items
steers_length m last [] = refl
steers_length m last (i ∷ items) = ap suc (steers_length m (steer_clock last i) items)

switches_length : (m : MuxId) (seen : Posted) (past : List Event) → length (switches m seen past) ≤ 1
switches_length m seen past = elim (cases_Bool (nat_lt (version_at past m).0 (last_version seen))) [
  | inl newer ↦ rw newer (omega arith)
  | inr same ↦ rw same (omega arith)
]

-- a batch logs at most one event more than it has items
pub batch_length : (m : MuxId) (seen : Posted) (items : List MuxItem) (log log' : List Event) (out out' : List Steered)
    → IsBatch m seen items log log' out out' → length log' ≤ length log + 1 + length items
batch_length m seen items log log' out out' h =
    let before = switches m seen (reverse log) in
    let after = steers m (clock_under m seen (reverse log)) items in
    let all : length log' ≡ length (log ++ before) + length after = ap length h.log_is
    ∙ length-append (log ++ before) after in
    let a : length (log ++ before) ≡ length log + length before = length-append log before in
    let s : length after ≡ length items = steers_length m (clock_under m seen (reverse log)) items in
    let b : length before ≤ 1 = switches_length m seen (reverse log) in
    omega arith

pub last-snoc : (low : ℕ) (clocks : List ℕ) (clock : ℕ) → last_or low (clocks ++ clock ∷ []) ≡ clock
last-snoc low [] clock = refl
last-snoc low (c ∷ clocks) clock = last-snoc c clocks clock

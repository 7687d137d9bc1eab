-- Counts that aren't 0 show that there is such an event.
use Rattle.std.proofs.Common.{◌≡◌, ℕ, ◌+◌, Bool, true, false, ◌||◌, ◌&&◌, ◌==◌, List, [], ◌∷◌, refl, ap, ◌∙◌}
use Rattle.std.specs.Prelude.{nat_lt, if◌then◌else◌}
use Rattle.std.proofs.lemmas.Bool.Decides.{nat_tests}
use Rattle.std.proofs.Common.{arith}
use Rattle.bm_base.specs.declared.label.Hop.{Hop}
use Rattle.bm_core.specs.declared.events.Event.{Event}
use Rattle.bm_core.specs.Past.{is_sent, is_sent_at, sends}
use Rattle.bm_core.specs.Accounts.{counts}
use Rattle.bm_state.specs.Losses.{sendings_at}

some_more : (b : Bool) (n : ℕ) → nat_lt 0 ((if b then 1 else 0) + n) ≡ (b || nat_lt 0 n)
some_more true n = grind (arith, nat_tests)
some_more false n = grind (arith, nat_tests)

pub sent_some : (past : List Event) (k : ℕ) (hop : Hop)
    → nat_lt 0 (counts past (λ what. sends what k hop)) ≡ is_sent past k hop
sent_some [] k hop = refl
sent_some (e ∷ past) k hop =
    some_more (sends e.what k hop) (counts past (λ what. sends what k hop))
    ∙ ap (λ b. sends e.what k hop || b) (sent_some past k hop)

pub sent_at_some : (past : List Event) (k : ℕ) (hop : Hop) (clock : ℕ)
    → nat_lt 0 (sendings_at past k hop clock) ≡ is_sent_at past k hop clock
sent_at_some [] k hop clock = refl
sent_at_some (e ∷ past) k hop clock =
    some_more (sends e.what k hop && e.clock.0 == clock) (sendings_at past k hop clock)
    ∙ ap (λ b. (sends e.what k hop && e.clock.0 == clock) || b) (sent_at_some past k hop clock)

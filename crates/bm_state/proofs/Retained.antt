-- What `retain` leaves.
use Rattle.std.proofs.Common.{◌≡◌, Bool, List, [], ◌∷◌, ◌∙◌, subst}
use Rattle.std.specs.Prelude.{filter, if◌then◌else◌}
use Rattle.std.specs.List.Retain.{RetainsInTurn}

-- where no call changes the closure or an element, what passes the test
pub filter_retained : {X F : Type 0} (R : F → X → Bool → F → X → Type 0) (test : X → Bool) (f : F)
    → ((x : X) (b : Bool) (f' : F) (y : X) → R f x b f' y → (b ≡ test x) × (f' ≡ f) × (y ≡ x))
    → (xs ys : List X) → RetainsInTurn R f xs ys → ys ≡ filter test xs
filter_retained R test f says [] ys h = h
filter_retained R test f says (x ∷ xs) ys h =
    let said = says x h.0 h.1 h.2 h.3
    in let later = subst (λ g. RetainsInTurn R g xs h.4) said.1 h.5
    in let rest = filter_retained R test f says xs h.4 later
    in h.6 ∙ (λ i. if said.0 i then said.2 i ∷ rest i else rest i)

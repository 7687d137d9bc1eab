-- The tallies stay right with each event.
use Rattle.std.proofs.Common.{◌≡◌, ℕ, suc, ◌+◌, ◌<◌, ◌≤◌, ◌^◌, Bool, true, false, ◌&&◌, ◌==◌, List, [], ◌∷◌, length, refl, ap}
use Rattle.std.proofs.Common.{◌∙◌, arith, Some}
use Rattle.std.specs.Prelude.{if◌then◌else◌}
use Rattle.std.proofs.lemmas.Bool.{and_parts, eqb-true}
use Rattle.bm_base.specs.declared.ids.ServerId.{ServerId}
use Rattle.bm_base.specs.declared.label.Hop.{Hop}
use Rattle.bm_base.specs.declared.label.Hop.TheVariants.{Direct, Chained, Twice}
use Rattle.bm_base.specs.Labels.{hop_number, same_hop}
use Rattle.bm_core.specs.declared.events.Event.{Event}
use Rattle.bm_core.specs.declared.events.Verdict.{Verdict}
use Rattle.bm_core.specs.declared.events.What.TheVariants.{Arrive}
use Rattle.bm_core.specs.Accounts.{arrives, count_of, counts}
use Rattle.bm_core.specs.Past.{sending_of, sends}
use Rattle.bm_state.specs.declared.tallies.Tallies.{Tallies}
use Rattle.bm_state.specs.declared.tallies.Tally.{Tally}
use Rattle.bm_state.specs.Tallies.{KeepsTallies, tally_in}
use Rattle.bm_state.specs.Inside.Tallies.{AreTallied}

-- WHAT IS KEPT, AS TALLIES

pub tallies : (past : List Event) (t : Tallies) → KeepsTallies past t → AreTallied past past t
tallies past t keeps = record {
  sendings_of_each = λ k hop. ap (λ (x : Tally). x.sendings) (keeps.tally_of_each k hop);
  arrivals_of_each = λ k hop. ap (λ (x : Tally). x.arrivals) (keeps.tally_of_each k hop);
}

pub from_tallies : (past : List Event) (t : Tallies) → AreTallied past past t → KeepsTallies past t
from_tallies past t are = record {
  tally_of_each = λ k hop. λ i.
      record { sendings = are.sendings_of_each k hop i; arrivals = are.arrivals_of_each k hop i };
}

-- ONE MORE

-- at most all events pass a test
few_more : (b : Bool) (n m : ℕ) → n ≤ m → (if b then 1 else 0) + n ≤ suc m
few_more true n m few = omega arith
few_more false n m few = omega arith

pub count_few : {X : Type 0} (test : X → Bool) (xs : List X) → count_of test xs ≤ length xs
count_few test [] = omega arith
count_few test (x ∷ xs) = few_more (test x) (count_of test xs) (length xs) (count_few test xs)

-- one more, where this is the one
pub counted : (b : Bool) (new old mine n : ℕ) → (b ≡ true → (new ≡ suc mine) × (mine ≡ n)) → (b ≡ false → new ≡ old)
    → old ≡ n → new ≡ (if b then 1 else 0) + n
counted true new old mine n here other is = let p = here refl in omega (arith, p.0, p.1)
counted false new old mine n here other is = let p = other refl in omega (arith, p, is)

pub same_hop-true : (a b : Hop) → same_hop a b ≡ true → a ≡ b
same_hop-true Direct Direct e = refl
same_hop-true Chained Chained e = refl
same_hop-true Twice Twice e = refl
same_hop-true _ _ e = absurd (cc)

pub by_number : (a b : Hop) → (hop_number a == hop_number b) ≡ same_hop a b
by_number Direct Direct = refl
by_number Chained Chained = refl
by_number Twice Twice = refl
by_number Direct Chained = refl
by_number Direct Twice = refl
by_number Chained Direct = refl
by_number Chained Twice = refl
by_number Twice Direct = refl
by_number Twice Chained = refl

module _ (old new : Tallies) (a : ℕ) (h : Hop) (t : Tally)
    (puts : (k : ℕ) (hop : Hop) → tally_in new k hop ≡ (if a == k && same_hop h hop then t else tally_in old k hop)) where
  here : (k : ℕ) (hop : Hop) → (a == k && same_hop h hop) ≡ true → tally_in new k hop ≡ t
  here k hop same = puts k hop ∙ rw same refl

  there : (k : ℕ) (hop : Hop) → (a == k && same_hop h hop) ≡ false → tally_in new k hop ≡ tally_in old k hop
  there k hop other = puts k hop ∙ rw other refl

-- the tally of this packet and hop is the one that was changed
mine : (old : Tallies) (a k : ℕ) (h hop : Hop) → (a == k && same_hop h hop) ≡ true → tally_in old a h ≡ tally_in old k hop
mine old a k h hop e =
    let p = and_parts (a == k) (same_hop h hop) e
    in let number : a ≡ k = eqb-true a k p.0
    in let same : h ≡ hop = same_hop-true h hop p.1
    in λ i. tally_in old (number i) (same i)

abbrev pub one_sent : Tally → Tally
one_sent t = record t { sendings = suc t.sendings }

abbrev pub one_came : Tally → Tally
one_came t = record t { arrivals = suc t.arrivals }

-- A SENDING

pub sent_more : (sent came : List Event) (e : Event) (old new : Tallies) (a : ℕ) (h : Hop) (t : Tally)
    → length sent < 2 ^ 63 → sending_of e.what ≡ Some (record { packet = a; hop = h })
    → ((tally_in old a h).sendings < 2 ^ 63
    → t ≡ record (tally_in old a h) { sendings = suc (tally_in old a h).sendings })
    → ((k : ℕ) (hop : Hop) → tally_in new k hop ≡ (if a == k && same_hop h hop then t else tally_in old k hop))
    → AreTallied sent came old → AreTallied (e ∷ sent) came new
sent_more sent came e old new a h t few sends_it more puts keeps = record {
  sendings_of_each = λ k hop.
      rw sends_it
      (counted (a == k && same_hop h hop) (tally_in new k hop).sendings (tally_in old k hop).sendings
      (tally_in old a h).sendings (counts sent (λ what. sends what k hop))
      (λ same. (
        ap (λ (x : Tally). x.sendings) (here old new a h t puts k hop same ∙ t_is),
        ap (λ (x : Tally). x.sendings) (mine old a k h hop same) ∙ keeps.sendings_of_each k hop,
      ))
      (λ other. ap (λ (x : Tally). x.sendings) (there old new a h t puts k hop other)) (keeps.sendings_of_each k hop));
  arrivals_of_each = λ k hop. came_same k hop (a == k && same_hop h hop) refl ∙ keeps.arrivals_of_each k hop;
} where
  t_is : t ≡ record (tally_in old a h) { sendings = suc (tally_in old a h).sendings }
  t_is = more (let c = count_few (λ (x : Event). sends x.what a h) sent
      in let i = keeps.sendings_of_each a h in omega (arith, few, c, i))

  came_same : (k : ℕ) (hop : Hop) (b : Bool) → (a == k && same_hop h hop) ≡ b
      → (tally_in new k hop).arrivals ≡ (tally_in old k hop).arrivals
  came_same k hop true same =
      ap (λ (x : Tally). x.arrivals) (here old new a h t puts k hop same ∙ t_is)
      ∙ ap (λ (x : Tally). x.arrivals) (mine old a k h hop same)
  came_same k hop false other = ap (λ (x : Tally). x.arrivals) (there old new a h t puts k hop other)

-- AN ARRIVAL

pub came_more : (sent came : List Event) (e : Event) (old new : Tallies) (a : ℕ) (h : Hop) (s : ServerId) (v : Verdict)
    (t : Tally) → length came < 2 ^ 63 → e.what ≡ Arrive a h s v
    → ((tally_in old a h).arrivals < 2 ^ 63
    → t ≡ record (tally_in old a h) { arrivals = suc (tally_in old a h).arrivals })
    → ((k : ℕ) (hop : Hop) → tally_in new k hop ≡ (if a == k && same_hop h hop then t else tally_in old k hop))
    → AreTallied sent came old → AreTallied sent (e ∷ came) new
came_more sent came e old new a h s v t few is more puts keeps = record {
  sendings_of_each = λ k hop. sent_same k hop (a == k && same_hop h hop) refl ∙ keeps.sendings_of_each k hop;
  arrivals_of_each = λ k hop.
      rw is
      (counted (a == k && same_hop h hop) (tally_in new k hop).arrivals (tally_in old k hop).arrivals
      (tally_in old a h).arrivals (counts came (λ what. arrives what k hop))
      (λ same. (
        ap (λ (x : Tally). x.arrivals) (here old new a h t puts k hop same ∙ t_is),
        ap (λ (x : Tally). x.arrivals) (mine old a k h hop same) ∙ keeps.arrivals_of_each k hop,
      ))
      (λ other. ap (λ (x : Tally). x.arrivals) (there old new a h t puts k hop other)) (keeps.arrivals_of_each k hop));
} where
  t_is : t ≡ record (tally_in old a h) { arrivals = suc (tally_in old a h).arrivals }
  t_is = more (let c = count_few (λ (x : Event). arrives x.what a h) came
      in let i = keeps.arrivals_of_each a h in omega (arith, few, c, i))

  sent_same : (k : ℕ) (hop : Hop) (b : Bool) → (a == k && same_hop h hop) ≡ b
      → (tally_in new k hop).sendings ≡ (tally_in old k hop).sendings
  sent_same k hop true same =
      ap (λ (x : Tally). x.sendings) (here old new a h t puts k hop same ∙ t_is)
      ∙ ap (λ (x : Tally). x.sendings) (mine old a k h hop same)
  sent_same k hop false other = ap (λ (x : Tally). x.sendings) (there old new a h t puts k hop other)

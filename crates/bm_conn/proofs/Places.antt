-- Steps from place to place, going round.
use Rattle.std.proofs.Common.{◌≡◌, ℕ, ◌+◌, ◌<◌, ◌≤◌, arith}
use Rattle.std.proofs.lemmas.Bool.Decides.{nat_tests}
use Rattle.bm_base.specs.declared.flow.Flow.{Flow}
use Rattle.bm_conn.specs.Slots.{distance, home}
use Rattle.bm_conn.specs.Inside.Slots.{after}

pub distance-lt : (n a b : ℕ) → a < n → b < n → distance n a b < n
unfolding distance
distance-lt n a b ha hb = grind (arith, nat_tests)

pub distance_none : (n a : ℕ) → distance n a a ≡ 0
unfolding distance
distance_none n a = grind (arith, nat_tests)

pub distance_same : (n a b c : ℕ) → a < n → b < n → c < n → distance n a b ≡ distance n a c → b ≡ c
unfolding distance
distance_same n a b c ha hb hc e = grind (arith, nat_tests)

pub distance_positive : (n a b : ℕ) → a < n → b < n → (a ≡ b → ⊥) → 0 < distance n a b
unfolding distance
distance_positive n a b ha hb e = grind (arith, nat_tests)

pub after-lt : (n a : ℕ) → a < n → after n a < n
after-lt n a ha = grind (arith, nat_tests)

pub distance-after : (n a b : ℕ) → a < n → b < n → distance n a b + 1 < n
    → distance n a (after n b) ≡ distance n a b + 1
unfolding distance
distance-after n a b ha hb h = grind (arith, nat_tests)

-- on the way from h to p lies i, and z lies between i and p: then z lies on the way from h to p
pub further : (n h i z p : ℕ) → h < n → i < n → z < n → p < n
    → distance n h i < distance n h p → distance n i z < distance n i p → distance n h z < distance n h p
unfolding distance
further n h i z p hh hi hz hp a b = grind (arith, nat_tests)

pub home-lt : (n : ℕ) (f : Flow) → 1 ≤ n → home n f < n
unfolding home
home-lt n f some = omega arith

-- how far it is from a place that lies on the way
pub distance_from : (n a h p : ℕ) → a < n → h < n → p < n → distance n a h ≤ distance n a p
    → distance n a h + distance n h p ≡ distance n a p
unfolding distance
distance_from n a h p ha hh hp less = grind (arith, nat_tests)

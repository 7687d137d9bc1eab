-- Sums over packets, and counts of events as such sums.
use Rattle.std.proofs.Common.{◌≡◌, ℕ, zero, suc, ◌+◌, ◌*◌, ◌≤◌, Bool, true, false, ◌&&◌, ◌==◌, List, [], ◌∷◌}
use Rattle.std.proofs.Common.{Option, Some, None, eqb, inl, inr, refl, sym, ap, ◌∙◌, arith}
use Rattle.std.proofs.lemmas.Bool.{cases_lt, eq-eqb, ne_eqb}
use Rattle.bm_base.specs.declared.label.Hop.{Hop}
use Rattle.bm_base.specs.Labels.{same_hop}
use Rattle.bm_core.specs.Accounts.{arrives, counts, steers_packet}
use Rattle.bm_core.specs.declared.events.Event.{Event}
use Rattle.bm_core.specs.declared.events.What.{What}
use Rattle.bm_core.specs.declared.events.What.TheVariants.{Publish, Switch, Steer, Lose, Arrive, Close, Retire, Sync}
use Rattle.bm_core.specs.Runs.{AtEach}
use Rattle.bm_core.specs.Threads.{packet_of}
use Rattle.bm_load.proofs.Shape.{once}

-- g 1 + .. + g n
abbrev pub sum : ℕ → (ℕ → ℕ) → ℕ
sum zero g = 0
sum (suc n) g = sum n g + g (suc n)

pub sum_none : (n : ℕ) → sum n (λ k. 0) ≡ 0
sum_none zero = refl
sum_none (suc n) = let old = sum_none n in omega arith

pub sum_plus : (n : ℕ) (g h : ℕ → ℕ) → sum n (λ k. g k + h k) ≡ sum n g + sum n h
sum_plus zero g h = refl
sum_plus (suc n) g h = let old = sum_plus n g h in omega arith

pub sum_same : (n : ℕ) (g h : ℕ → ℕ) → ((k : ℕ) → 1 ≤ k → k ≤ n → g k ≡ h k) → sum n g ≡ sum n h
sum_same zero g h same = refl
sum_same (suc n) g h same =
    let old = sum_same n g h (λ k low high. same k low (omega arith))
    in let here = same (suc n) (omega arith) (omega arith)
    in omega arith

pub sum_zero : (n : ℕ) (g : ℕ → ℕ) → ((k : ℕ) → 1 ≤ k → k ≤ n → g k ≡ 0) → sum n g ≡ 0
sum_zero zero g none = refl
sum_zero (suc n) g none =
    let old = sum_zero n g (λ k low high. none k low (omega arith))
    in let here = none (suc n) (omega arith) (omega arith)
    in omega arith

-- so much for each
pub sum_each : (n c : ℕ) (g : ℕ → ℕ) → ((k : ℕ) → 1 ≤ k → k ≤ n → g k ≡ c) → sum n g ≡ n * c
sum_each zero c g each = omega arith
sum_each (suc n) c g each =
    let old = sum_each n c g (λ k low high. each k low (omega arith))
    in let here = each (suc n) (omega arith) (omega arith)
    in let more : suc n * c ≡ n * c + c = omega arith
    in omega arith

-- at most one for each
pub sum_ones : (n : ℕ) (g : ℕ → ℕ) → ((k : ℕ) → 1 ≤ k → k ≤ n → g k ≤ 1) → sum n g ≤ n
sum_ones zero g few = omega arith
sum_ones (suc n) g few =
    let old = sum_ones n g (λ k low high. few k low (omega arith))
    in let here = few (suc n) (omega arith) (omega arith)
    in omega arith

-- a number from 1 to n is one of these once
pub sum_one : (n p : ℕ) → 1 ≤ p → p ≤ n → sum n (λ k. once (p == k)) ≡ 1
sum_one zero p low high = absurd (omega arith)
sum_one (suc n) p low high = elim (cases_lt n p) [
  | inl last ↦
      let none = sum_zero n (λ k. once (p == k)) (λ k a b. ap once (ne_eqb p k (λ e. absurd (omega arith))))
      in let here : once (p == suc n) ≡ 1 = ap once (eq-eqb p (suc n) (omega arith))
      in omega arith
  | inr before ↦
      let old = sum_one n p low (omega arith)
      in let here : once (p == suc n) ≡ 0 = ap once (ne_eqb p (suc n) (λ e. absurd (omega arith)))
      in omega arith
]

-- tests that agree count the same events
pub counts_same : (all : List Event) (f g : What → Bool) → ((what : What) → f what ≡ g what)
    → counts all f ≡ counts all g
counts_same [] f g same = refl
counts_same (e ∷ past) f g same =
    let old = counts_same past f g same in rw (same e.what, old) refl

-- the events that pass the test are those that pass one of the n tests
pub by_tests : (n : ℕ) (test : What → Bool) (of : ℕ → What → Bool) (all : List Event)
    → AtEach (λ past e. once (test e.what) ≡ sum n (λ k. once (of k e.what))) all
    → counts all test ≡ sum n (λ k. counts all (of k))
by_tests n test of [] each = sym (sum_none n)
by_tests n test of (e ∷ past) each =
    let old = by_tests n test of past each.1
    in let here : once (test e.what) ≡ sum n (λ k. once (of k e.what)) = each.0
    in let plus = sum_plus n (λ k. once (of k e.what)) (λ k. counts past (of k))
    in omega arith

-- the packet is one of n
abbrev pub HasPacket : ℕ → Option ℕ → Type 0
HasPacket n None = ⊥
HasPacket n (Some k) = (1 ≤ k) × (k ≤ n)

-- there is a packet, and it is this one
abbrev pub is_packet : Option ℕ → ℕ → Bool
is_packet None k = false
is_packet (Some p) k = p == k

-- the event passes the test and is of the packet
abbrev pub passes : (What → Bool) → ℕ → What → Bool
passes test k what = test what && is_packet (packet_of what) k

one_packet : (n : ℕ) (b : Bool) (packet : Option ℕ) → (b ≡ true → HasPacket n packet)
    → once b ≡ sum n (λ k. once (b && is_packet packet k))
one_packet n false packet has = sym (sum_none n)
one_packet n true None has = absurd (has refl)
one_packet n true (Some p) has = sym (sum_one n p (has refl).0 (has refl).1)

-- each event that passes the test has one of n packets
pub by_packets : (n : ℕ) (test : What → Bool) (all : List Event)
    → AtEach (λ past e. test e.what ≡ true → HasPacket n (packet_of e.what)) all
    → counts all test ≡ sum n (λ k. counts all (passes test k))
by_packets n test all each = by_tests n test (passes test) all (at_each all each) where
  at_each : (xs : List Event) → AtEach (λ past e. test e.what ≡ true → HasPacket n (packet_of e.what)) xs
      → AtEach (λ past e. once (test e.what) ≡ sum n (λ k. once (passes test k e.what))) xs
  at_each [] h = tt
  at_each (e ∷ past) h = (one_packet n (test e.what) (packet_of e.what) h.0, at_each past h.1)

-- STEERS AND ARRIVALS

-- the event is a Steer
abbrev pub is_steer : What → Bool
is_steer (Steer k m) = true
is_steer _ = false

-- the event is an arrival with this hop
abbrev pub is_arrival : Hop → What → Bool
is_arrival h (Arrive k hop server verdict) = same_hop hop h
is_arrival h _ = false

steer_of : (k : ℕ) (what : What) → passes is_steer k what ≡ steers_packet what k
steer_of k (Steer packet m) = refl
steer_of k (Publish v) = refl
steer_of k (Switch m v) = refl
steer_of k (Lose packet hop) = refl
steer_of k (Arrive packet hop server verdict) = refl
steer_of k (Close server flow closed) = refl
steer_of k (Retire server h at result) = refl
steer_of k Sync = refl

pub and_turned : (a b : Bool) → (a && b) ≡ (b && a)
and_turned true true = refl
and_turned true false = refl
and_turned false true = refl
and_turned false false = refl

arrival_of : (h : Hop) (k : ℕ) (what : What) → passes (is_arrival h) k what ≡ arrives what k h
arrival_of h k (Arrive packet hop server verdict) = and_turned (same_hop hop h) (eqb packet k)
arrival_of h k (Steer packet m) = refl
arrival_of h k (Publish v) = refl
arrival_of h k (Switch m v) = refl
arrival_of h k (Lose packet hop) = refl
arrival_of h k (Close server flow closed) = refl
arrival_of h k (Retire server x at result) = refl
arrival_of h k Sync = refl

pub steers_by_packets : (n : ℕ) (all : List Event)
    → AtEach (λ past e. is_steer e.what ≡ true → HasPacket n (packet_of e.what)) all
    → counts all is_steer ≡ sum n (λ k. counts all (λ what. steers_packet what k))
steers_by_packets n all each =
    by_packets n is_steer all each
    ∙ sum_same n _ _ (λ k low high. counts_same all (passes is_steer k) (λ what. steers_packet what k) (steer_of k))

pub arrivals_by_packets : (n : ℕ) (hop : Hop) (all : List Event)
    → AtEach (λ past e. is_arrival hop e.what ≡ true → HasPacket n (packet_of e.what)) all
    → counts all (is_arrival hop) ≡ sum n (λ k. counts all (λ what. arrives what k hop))
arrivals_by_packets n hop all each =
    by_packets n (is_arrival hop) all each
    ∙ sum_same n _ _
    (λ k low high. counts_same all (passes (is_arrival hop) k) (λ what. arrives what k hop) (arrival_of hop k))

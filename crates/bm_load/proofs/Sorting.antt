-- What the verdicts of a load's run come to.
use Rattle.std.proofs.Common.{◌≡◌, ℕ, ◌+◌, ◌*◌, ◌≤◌, ◌⊎◌, Bool, true, false, ◌&&◌, ◌==◌, nat_le}
use Rattle.std.proofs.Common.{MatchBool, List, [], ◌∷◌, eqb, inl, inr, refl, sym, ap, ◌∙◌, subst, arith}
use Rattle.std.proofs.lemmas.Bool.{cases_lt, ne_eqb, le-leb, lt-leb, leb-false}
use Rattle.bm_base.specs.declared.ids.ServerId.{ServerId}
use Rattle.bm_base.specs.declared.label.Hop.{Hop}
use Rattle.bm_base.specs.declared.label.Hop.TheVariants.{Direct, Chained, Twice}
use Rattle.bm_base.specs.Labels.{same_hop}
use Rattle.bm_core.specs.Accounts.{arrives, counts}
use Rattle.bm_core.specs.Causes.{is_process}
use Rattle.bm_core.specs.declared.events.Event.{Event}
use Rattle.bm_core.specs.declared.events.Stage.{Stage}
use Rattle.bm_core.specs.declared.events.Verdict.{Verdict}
use Rattle.bm_core.specs.declared.events.Verdict.TheVariants.{Accept, Process, Forward, Reset, Drop}
use Rattle.bm_core.specs.declared.events.What.{What}
use Rattle.bm_core.specs.declared.events.What.TheVariants.{Publish, Switch, Steer, Lose, Arrive, Close, Retire, Sync}
use Rattle.bm_core.specs.Past.{is_accept, is_forward, sends}
use Rattle.bm_core.specs.Runs.{AtEach, MayCome, Run}
use Rattle.bm_core.specs.Threads.{packet_of}
use Rattle.bm_load.proofs.Shape.{AreOnce, AreWellServed, IsLoadLike, IsWellServed, is_quiet, once}
use Rattle.bm_load.proofs.Summing.{HasPacket, arrivals_by_packets, by_packets, by_tests, counts_same, is_arrival}
use Rattle.bm_load.proofs.Summing.{and_turned, passes, sum, sum_each, sum_none, sum_one, sum_same, sum_zero}
use Rattle.bm_trace.specs.Totals.{arrives as comes, is_drop, is_lost, is_reset}

-- an arrival with this hop of one of the first n packets
abbrev opens_by : ℕ → Hop → What → Bool
opens_by n h (Arrive k hop server verdict) = nat_le k n && same_hop hop h
opens_by n h _ = false

-- a direct copy is forwarded
abbrev passes_on : What → Bool
passes_on (Arrive k hop server verdict) = same_hop hop Direct && is_forward verdict
passes_on _ = false

-- what the event is, by its verdict
record IsSorted (n : ℕ) (what : What) : Type 0 where
  accepts : once (comes is_accept what)
      ≡ once (opens_by n Direct what) + once (opens_by n Chained what) + once (opens_by n Twice what)
  arrivals : once (is_arrival Direct what) + once (is_arrival Chained what) + once (is_arrival Twice what)
      ≡ once (comes is_accept what) + once (comes is_process what) + once (passes_on what)
  no_reset : comes is_reset what ≡ false
  no_drop : comes is_drop what ≡ false
  -- a packet that opens isn't forwarded
  ends_here : (k : ℕ) → k ≤ n → sends what k Chained ≡ false
  -- nor is a chained copy
  ends_there : (k : ℕ) → sends what k Twice ≡ false

and_no : (b : Bool) → (b && false) ≡ false
and_no true = refl
and_no false = refl

accepted : (n k : ℕ) (hop : Hop) (server : ServerId) → nat_le k n ≡ true → IsSorted n (Arrive k hop server Accept)
accepted n k Direct server low = record {
  accepts = rw low refl;
  arrivals = refl;
  no_reset = refl;
  no_drop = refl;
  ends_here = λ j within. refl;
  ends_there = λ j. refl;
}
accepted n k Chained server low = record {
  accepts = rw low refl;
  arrivals = refl;
  no_reset = refl;
  no_drop = refl;
  ends_here = λ j within. refl;
  ends_there = λ j. refl;
}
accepted n k Twice server low = record {
  accepts = rw low refl;
  arrivals = refl;
  no_reset = refl;
  no_drop = refl;
  ends_here = λ j within. refl;
  ends_there = λ j. refl;
}

processed : (n k : ℕ) (hop : Hop) (server : ServerId) (verdict : Verdict) → nat_le k n ≡ false
    → is_process verdict ≡ true → IsSorted n (Arrive k hop server verdict)
processed n k Direct server (Process t) high is = record {
  accepts = rw high refl;
  arrivals = refl;
  no_reset = refl;
  no_drop = refl;
  ends_here = λ j within. refl;
  ends_there = λ j. refl;
}
processed n k Chained server (Process t) high is = record {
  accepts = rw high refl;
  arrivals = refl;
  no_reset = refl;
  no_drop = refl;
  ends_here = λ j within. refl;
  ends_there = λ j. refl;
}
processed n k Twice server (Process t) high is = record {
  accepts = rw high refl;
  arrivals = refl;
  no_reset = refl;
  no_drop = refl;
  ends_here = λ j within. refl;
  ends_there = λ j. refl;
}
processed n k hop server Accept high is = absurd (cc)
processed n k hop server (Forward to) high is = absurd (cc)
processed n k hop server (Reset why) high is = absurd (cc)
processed n k hop server (Drop why) high is = absurd (cc)

forwarded : (n k : ℕ) (server : ServerId) (verdict : Verdict) → nat_le k n ≡ false
    → is_forward verdict ≡ true → IsSorted n (Arrive k Direct server verdict)
forwarded n k server (Forward to) high is = record {
  accepts = rw high refl;
  arrivals = refl;
  no_reset = refl;
  no_drop = refl;
  ends_here = λ j within. ap (λ b. b && true) (ne_eqb k j (λ e. absurd (omega (arith, within, leb-false k n high, e))));
  ends_there = λ j. and_no (eqb k j);
}
forwarded n k server Accept high is = absurd (cc)
forwarded n k server (Process t) high is = absurd (cc)
forwarded n k server (Reset why) high is = absurd (cc)
forwarded n k server (Drop why) high is = absurd (cc)

sorted_arrival : (n k : ℕ) (hop : Hop) (server : ServerId) (verdict : Verdict) (low : Bool) → nat_le k n ≡ low
    → MatchBool low (verdict ≡ Accept)
    ((is_process verdict ≡ true) ⊎ ((hop ≡ Direct) × (is_forward verdict ≡ true)))
    → IsSorted n (Arrive k hop server verdict)
sorted_arrival n k hop server verdict true is served =
    subst (λ (v : Verdict). IsSorted n (Arrive k hop server v)) (sym served) (accepted n k hop server is)
sorted_arrival n k hop server verdict false is (inl process) = processed n k hop server verdict is process
sorted_arrival n k hop server verdict false is (inr onward) =
    subst (λ (h : Hop). IsSorted n (Arrive k h server verdict)) (sym onward.0)
    (forwarded n k server verdict is onward.1)

sorted : (n : ℕ) (past : List Event) (clock : ℕ) (what : What) → IsWellServed n past clock what → IsSorted n what
sorted n past clock (Arrive k hop server verdict) served =
    sorted_arrival n k hop server verdict (nat_le k n) refl served
sorted n past clock (Steer packet m) served = record {
  accepts = refl;
  arrivals = refl;
  no_reset = refl;
  no_drop = refl;
  ends_here = λ k low. and_no (eqb packet k);
  ends_there = λ k. and_no (eqb packet k);
}
sorted n past clock (Publish v) served = record {
  accepts = refl;
  arrivals = refl;
  no_reset = refl;
  no_drop = refl;
  ends_here = λ k low. refl;
  ends_there = λ k. refl;
}
sorted n past clock (Switch m v) served = record {
  accepts = refl;
  arrivals = refl;
  no_reset = refl;
  no_drop = refl;
  ends_here = λ k low. refl;
  ends_there = λ k. refl;
}
sorted n past clock (Lose packet hop) served = record {
  accepts = refl;
  arrivals = refl;
  no_reset = refl;
  no_drop = refl;
  ends_here = λ k low. refl;
  ends_there = λ k. refl;
}
sorted n past clock (Close server flow closed) served = record {
  accepts = refl;
  arrivals = refl;
  no_reset = refl;
  no_drop = refl;
  ends_here = λ k low. refl;
  ends_there = λ k. refl;
}
sorted n past clock (Retire server h at result) served = record {
  accepts = refl;
  arrivals = refl;
  no_reset = refl;
  no_drop = refl;
  ends_here = λ k low. refl;
  ends_there = λ k. refl;
}
sorted n past clock Sync served = record {
  accepts = refl;
  arrivals = refl;
  no_reset = refl;
  no_drop = refl;
  ends_here = λ k low. refl;
  ends_there = λ k. refl;
}

-- the same of all events together
record AreSorted (n : ℕ) (all : List Event) : Type 0 where
  accepts : counts all (comes is_accept)
      ≡ counts all (opens_by n Direct) + counts all (opens_by n Chained) + counts all (opens_by n Twice)
  arrivals : counts all (is_arrival Direct) + counts all (is_arrival Chained) + counts all (is_arrival Twice)
      ≡ counts all (comes is_accept) + counts all (comes is_process) + counts all passes_on
  no_reset : counts all (comes is_reset) ≡ 0
  no_drop : counts all (comes is_drop) ≡ 0
  ends_here : (k : ℕ) → k ≤ n → counts all (λ what. sends what k Chained) ≡ 0
  ends_there : (k : ℕ) → counts all (λ what. sends what k Twice) ≡ 0

add_none : (b : Bool) (c : ℕ) → b ≡ false → c ≡ 0 → once b + c ≡ 0
add_none b c none old = rw (none, old) refl

all_sorted : (n : ℕ) (all : List Event) → AreWellServed n all → AreSorted n all
all_sorted n [] served =
    record {
      accepts = refl;
      arrivals = refl;
      no_reset = refl;
      no_drop = refl;
      ends_here = λ k low. refl;
      ends_there = λ k. refl;
    }
all_sorted n (e ∷ past) served =
    let here = sorted n past e.clock.0 e.what served.0
    in let old = all_sorted n past served.1
    in let here_accepts : once (comes is_accept e.what)
    ≡ once (opens_by n Direct e.what) + once (opens_by n Chained e.what) + once (opens_by n Twice e.what) = here.accepts
    in let old_accepts : counts past (comes is_accept)
    ≡ counts past (opens_by n Direct) + counts past (opens_by n Chained) + counts past (opens_by n Twice) = old.accepts
    in let here_arrivals : once (is_arrival Direct e.what) + once (is_arrival Chained e.what)
    + once (is_arrival Twice e.what)
    ≡ once (comes is_accept e.what) + once (comes is_process e.what) + once (passes_on e.what) = here.arrivals
    in let old_arrivals : counts past (is_arrival Direct) + counts past (is_arrival Chained)
    + counts past (is_arrival Twice)
    ≡ counts past (comes is_accept) + counts past (comes is_process) + counts past passes_on = old.arrivals
    in record {
      accepts = omega (arith, here_accepts, old_accepts);
      arrivals = omega (arith, here_arrivals, old_arrivals);
      no_reset = add_none (comes is_reset e.what) _ here.no_reset old.no_reset;
      no_drop = add_none (comes is_drop e.what) _ here.no_drop old.no_drop;
      ends_here = λ k low. add_none (sends e.what k Chained) _ (here.ends_here k low) (old.ends_here k low);
      ends_there = λ k. add_none (sends e.what k Twice) _ (here.ends_there k) (old.ends_there k);
    }

-- COUNTS BY PACKETS

opens_once : (n p : ℕ) (b : Bool) → 1 ≤ p → once (nat_le p n && b) ≡ sum n (λ k. once (p == k && b))
opens_once n p true low = elim (cases_lt n p) [
  | inl high ↦
      let none = sum_zero n (λ k. once (p == k && true))
      (λ k a b. ap (λ c. once (c && true)) (ne_eqb p k (λ e. absurd (omega arith))))
      in rw (lt-leb p n high) (sym none)
  | inr within ↦
      let one =
      sum_same n (λ k. once (p == k && true)) (λ k. once (p == k)) (λ k a b. and_yes (p == k))
      ∙ sum_one n p low within
      in rw (le-leb p n within) (sym one)
] where
  and_yes : (b : Bool) → once (b && true) ≡ once b
  and_yes true = refl
  and_yes false = refl
opens_once n p false low =
    ap once (and_no (nat_le p n)) ∙ sym (sum_zero n (λ k. once (p == k && false)) (λ k a b. ap once (and_no (p == k))))

-- each arrival is of one of the 4n packets
arrival_packet : (n : ℕ) (what : What) (stage : Stage) (past : List Event) (clock : ℕ) → IsLoadLike stage n
    → MayCome stage past clock what → (hop : Hop) → is_arrival hop what ≡ true → HasPacket (4 * n) (packet_of what)
arrival_packet n (Arrive k came server verdict) stage past clock like may hop is =
    like.within k may.segment may.is_segment
arrival_packet n (Publish v) stage past clock like may hop is = absurd (cc)
arrival_packet n (Switch m v) stage past clock like may hop is = absurd (cc)
arrival_packet n (Steer k m) stage past clock like may hop is = absurd (cc)
arrival_packet n (Lose k came) stage past clock like may hop is = absurd (cc)
arrival_packet n (Close server flow closed) stage past clock like may hop is = absurd (cc)
arrival_packet n (Retire server h at result) stage past clock like may hop is = absurd (cc)
arrival_packet n Sync stage past clock like may hop is = absurd (cc)

arrivals_in : (stage : Stage) (n : ℕ) → IsLoadLike stage n → (hop : Hop) (all : List Event) → Run stage all
    → AtEach (λ past e. is_arrival hop e.what ≡ true → HasPacket (4 * n) (packet_of e.what)) all
arrivals_in stage n like hop [] run = tt
arrivals_in stage n like hop (e ∷ past) run =
    (arrival_packet n e.what stage past e.clock.0 like run.0.may hop, arrivals_in stage n like hop past run.1)

opens_sum : (n : ℕ) (h : Hop) (what : What) (stage : Stage) (past : List Event) (clock : ℕ) → IsLoadLike stage n
    → MayCome stage past clock what → once (opens_by n h what) ≡ sum n (λ k. once (arrives what k h))
opens_sum n h (Arrive k hop server verdict) stage past clock like may =
    opens_once n k (same_hop hop h) (like.within k may.segment may.is_segment).0
opens_sum n h (Publish v) stage past clock like may = sym (sum_none n)
opens_sum n h (Switch m v) stage past clock like may = sym (sum_none n)
opens_sum n h (Steer k m) stage past clock like may = sym (sum_none n)
opens_sum n h (Lose k hop) stage past clock like may = sym (sum_none n)
opens_sum n h (Close server flow closed) stage past clock like may = sym (sum_none n)
opens_sum n h (Retire server x at result) stage past clock like may = sym (sum_none n)
opens_sum n h Sync stage past clock like may = sym (sum_none n)

opens_in : (stage : Stage) (n : ℕ) → IsLoadLike stage n → (h : Hop) (all : List Event) → Run stage all
    → AtEach (λ past e. once (opens_by n h e.what) ≡ sum n (λ k. once (arrives e.what k h))) all
opens_in stage n like h [] run = tt
opens_in stage n like h (e ∷ past) run =
    (opens_sum n h e.what stage past e.clock.0 like run.0.may, opens_in stage n like h past run.1)

opening_arrivals : (stage : Stage) (n : ℕ) → IsLoadLike stage n → (h : Hop) (all : List Event) → Run stage all
    → counts all (opens_by n h) ≡ sum n (λ k. counts all (λ what. arrives what k h))
opening_arrivals stage n like h all run =
    by_tests n (opens_by n h) (λ k what. arrives what k h) all (opens_in stage n like h all run)

-- what is passed on is a sending of chained copies
passed_of : (k : ℕ) (what : What) → passes passes_on k what ≡ sends what k Chained
passed_of k (Arrive packet Direct server (Forward to)) = and_turned true (eqb packet k)
passed_of k (Arrive packet Direct server Accept) = refl
passed_of k (Arrive packet Direct server (Process t)) = refl
passed_of k (Arrive packet Direct server (Reset why)) = refl
passed_of k (Arrive packet Direct server (Drop why)) = refl
passed_of k (Arrive packet Chained server (Forward to)) = and_turned false (eqb packet k)
passed_of k (Arrive packet Chained server Accept) = refl
passed_of k (Arrive packet Chained server (Process t)) = refl
passed_of k (Arrive packet Chained server (Reset why)) = refl
passed_of k (Arrive packet Chained server (Drop why)) = refl
passed_of k (Arrive packet Twice server (Forward to)) = refl
passed_of k (Arrive packet Twice server Accept) = refl
passed_of k (Arrive packet Twice server (Process t)) = refl
passed_of k (Arrive packet Twice server (Reset why)) = refl
passed_of k (Arrive packet Twice server (Drop why)) = refl
passed_of k (Steer packet m) = and_turned false (eqb packet k)
passed_of k (Publish v) = refl
passed_of k (Switch m v) = refl
passed_of k (Lose packet hop) = refl
passed_of k (Close server flow closed) = refl
passed_of k (Retire server h at result) = refl
passed_of k Sync = refl

passed_packet : (n : ℕ) (what : What) (stage : Stage) (past : List Event) (clock : ℕ) → IsLoadLike stage n
    → MayCome stage past clock what → passes_on what ≡ true → HasPacket (4 * n) (packet_of what)
passed_packet n (Arrive k came server verdict) stage past clock like may is = like.within k may.segment may.is_segment
passed_packet n (Publish v) stage past clock like may is = absurd (cc)
passed_packet n (Switch m v) stage past clock like may is = absurd (cc)
passed_packet n (Steer k m) stage past clock like may is = absurd (cc)
passed_packet n (Lose k came) stage past clock like may is = absurd (cc)
passed_packet n (Close server flow closed) stage past clock like may is = absurd (cc)
passed_packet n (Retire server h at result) stage past clock like may is = absurd (cc)
passed_packet n Sync stage past clock like may is = absurd (cc)

passed_in : (stage : Stage) (n : ℕ) → IsLoadLike stage n → (all : List Event) → Run stage all
    → AtEach (λ past e. passes_on e.what ≡ true → HasPacket (4 * n) (packet_of e.what)) all
passed_in stage n like [] run = tt
passed_in stage n like (e ∷ past) run =
    (passed_packet n e.what stage past e.clock.0 like run.0.may, passed_in stage n like past run.1)

passed_sum : (stage : Stage) (n : ℕ) → IsLoadLike stage n → (all : List Event) → Run stage all
    → counts all passes_on ≡ sum (4 * n) (λ k. counts all (λ what. sends what k Chained))
passed_sum stage n like all run =
    by_packets (4 * n) passes_on all (passed_in stage n like all run)
    ∙ sum_same (4 * n) _ _
    (λ k low high. counts_same all (passes passes_on k) (λ what. sends what k Chained) (passed_of k))

-- nothing is lost
quiet_lost : (what : What) → is_quiet what ≡ true → is_lost what ≡ false
quiet_lost (Lose k hop) quiet = absurd (cc)
quiet_lost (Arrive k hop server verdict) quiet = refl
quiet_lost (Publish v) quiet = refl
quiet_lost (Switch m v) quiet = refl
quiet_lost (Steer k m) quiet = refl
quiet_lost (Close server flow closed) quiet = refl
quiet_lost (Retire server h at result) quiet = refl
quiet_lost Sync quiet = refl

none_lost : (all : List Event) → AtEach (λ past e. is_quiet e.what ≡ true) all → counts all is_lost ≡ 0
none_lost [] quiet = refl
none_lost (e ∷ past) quiet = add_none (is_lost e.what) _ (quiet_lost e.what quiet.0) (none_lost past quiet.1)

-- the counts of a load's events by their verdicts
pub record HasCounts (n : ℕ) (all : List Event) : Type 0 where
  pub accepted : counts all (comes is_accept) ≡ n
  pub processed : counts all (comes is_process) ≡ 3 * n
  pub reset : counts all (comes is_reset) ≡ 0
  pub dropped : counts all (comes is_drop) ≡ 0
  pub lost : counts all is_lost ≡ 0

pub counted : (stage : Stage) (n : ℕ) (all : List Event) → IsLoadLike stage n → Run stage all → AreOnce stage n all
    → AreWellServed n all → HasCounts n all
counted stage n all like run times served =
    let once_each : (k : ℕ) → 1 ≤ k → k ≤ 4 * n → counts all (λ what. arrives what k Direct) ≡ 1 =
    λ k low high. times.direct k ∙ ap once (like.steered k low high)
    in let kinds = all_sorted n all served
    in let direct : counts all (is_arrival Direct) ≡ 4 * n * 1 =
    arrivals_by_packets (4 * n) Direct all (arrivals_in stage n like Direct all run)
    ∙ sum_each (4 * n) 1 (λ k. counts all (λ what. arrives what k Direct)) once_each
    in let chained : counts all (is_arrival Chained) ≡ counts all passes_on =
    arrivals_by_packets (4 * n) Chained all (arrivals_in stage n like Chained all run)
    ∙ sum_same (4 * n) (λ k. counts all (λ what. arrives what k Chained))
    (λ k. counts all (λ what. sends what k Chained))
    (λ k low high. times.chained k)
    ∙ sym (passed_sum stage n like all run)
    in let opening : counts all (opens_by n Direct) ≡ n * 1 =
    opening_arrivals stage n like Direct all run
    ∙ sum_each n 1 (λ k. counts all (λ what. arrives what k Direct)) (λ k low high. once_each k low (omega arith))
    in let no_more : counts all (opens_by n Chained) ≡ 0 =
    opening_arrivals stage n like Chained all run
    ∙ sum_zero n (λ k. counts all (λ what. arrives what k Chained))
    (λ k low high. times.chained k ∙ kinds.ends_here k high)
    in let twice : counts all (is_arrival Twice) ≡ 0 =
    arrivals_by_packets (4 * n) Twice all (arrivals_in stage n like Twice all run)
    ∙ sum_zero (4 * n) (λ k. counts all (λ what. arrives what k Twice))
    (λ k low high. times.twice k ∙ kinds.ends_there k)
    in let none_twice : counts all (opens_by n Twice) ≡ 0 =
    opening_arrivals stage n like Twice all run
    ∙ sum_zero n (λ k. counts all (λ what. arrives what k Twice))
    (λ k low high. times.twice k ∙ kinds.ends_there k)
    in let accepts : counts all (comes is_accept)
    ≡ counts all (opens_by n Direct) + counts all (opens_by n Chained) + counts all (opens_by n Twice) =
    kinds.accepts
    in let arrivals : counts all (is_arrival Direct) + counts all (is_arrival Chained) + counts all (is_arrival Twice)
    ≡ counts all (comes is_accept) + counts all (comes is_process) + counts all passes_on = kinds.arrivals
    in record {
      accepted = omega (arith, accepts, opening, no_more, none_twice);
      processed = omega (arith, accepts, opening, no_more, none_twice, direct, chained, twice, arrivals);
      reset = kinds.no_reset;
      dropped = kinds.no_drop;
      lost = none_lost all times.quiet;
    }

-- How much the copies of a sending weigh together.
use Rattle.std.proofs.Common.{◌≡◌, ℕ, ◌+◌, ◌*◌, ◌<◌, ◌≤◌, arith}
use Rattle.bm_base.specs.declared.label.Hop.{Hop}
use Rattle.bm_base.specs.declared.label.Hop.TheVariants.{Direct, Chained, Twice}
use Rattle.bm_core.specs.Inside.Weights.{hop_weight}
use Rattle.bm_worker.specs.Inside.Pending.{copy_lost, most_lost, most_tries}

pub some_lost : (hop : Hop) → 1 ≤ most_lost hop
some_lost Direct = omega arith
some_lost Chained = omega arith
some_lost Twice = omega arith

pub some_weight : (hop : Hop) → 1 ≤ hop_weight hop
some_weight Direct = omega arith
some_weight Chained = omega arith
some_weight Twice = omega arith

pub some_tries : (hop : Hop) → 1 ≤ most_tries hop
some_tries Direct = omega arith
some_tries Chained = omega arith
some_tries Twice = omega arith

pub one_more : (w i : ℕ) → w * (i + 1) ≡ w * i + w
one_more w i = omega arith

pub top_of : (w i : ℕ) → w * i + w ≤ w * (i + 1)
top_of w i = omega arith

-- at most three copies
pub tries_within : (hop : Hop) (i : ℕ) → i < 3 → hop_weight hop * i + hop_weight hop ≤ most_tries hop
tries_within Direct i few = omega arith
tries_within Chained i few = omega arith
tries_within Twice i few = omega arith

pub tries_whole : (hop : Hop) (i : ℕ) → i ≤ 3 → hop_weight hop * i ≤ most_tries hop
tries_whole Direct i few = omega arith
tries_whole Chained i few = omega arith
tries_whole Twice i few = omega arith

pub lost_within : (hop : Hop) (i : ℕ) → i < 3 → copy_lost hop * i + copy_lost hop ≤ most_lost hop
lost_within Direct i few = omega arith
lost_within Chained i few = omega arith
lost_within Twice i few = omega arith

pub lost_whole : (hop : Hop) (i : ℕ) → i ≤ 3 → copy_lost hop * i + 0 ≤ most_lost hop
lost_whole Direct i few = omega arith
lost_whole Chained i few = omega arith
lost_whole Twice i few = omega arith

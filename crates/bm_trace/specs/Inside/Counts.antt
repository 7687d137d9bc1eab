-- How many events of each kind there are, as the code counts them.
use Rattle.std.specs.Prelude.{ℕ, Bool, ◌+◌, ◌^◌, ◌<◌, if◌then◌else◌, List, count_by}
use Rattle.bm_core.specs.declared.events.Event.{Event}
use Rattle.bm_core.specs.declared.events.What.{What}
use Rattle.bm_core.specs.Causes.{is_process}
use Rattle.bm_core.specs.Past.{is_accept, is_forward}
use Rattle.bm_trace.specs.declared.counts.Counts.{Counts}
use Rattle.bm_trace.specs.declared.sums.Totals.{Totals}
use Rattle.bm_trace.specs.Totals.{arrives, is_drop, is_lost, is_reset}

abbrev pub counts_of : List Event → Counts
counts_of events = record {
  accepted = count_by (λ e. arrives is_accept e.what) events;
  processed = count_by (λ e. arrives is_process e.what) events;
  forwarded = count_by (λ e. arrives is_forward e.what) events;
  reset = count_by (λ e. arrives is_reset e.what) events;
  dropped = count_by (λ e. arrives is_drop e.what) events;
  lost = count_by (λ e. is_lost e.what) events;
}

abbrev pub one_if : Bool → ℕ
one_if holds = if holds then 1 else 0

-- the counts after one more event
abbrev pub with_event : What → Counts → Counts
with_event what c = record {
  accepted = c.accepted + one_if (arrives is_accept what);
  processed = c.processed + one_if (arrives is_process what);
  forwarded = c.forwarded + one_if (arrives is_forward what);
  reset = c.reset + one_if (arrives is_reset what);
  dropped = c.dropped + one_if (arrives is_drop what);
  lost = c.lost + one_if (is_lost what);
}

-- each count may grow by one
pub record HasRoom (c : Counts) : Type 0 where
  pub accepted : c.accepted + 1 < 2 ^ 64
  pub processed : c.processed + 1 < 2 ^ 64
  pub forwarded : c.forwarded + 1 < 2 ^ 64
  pub reset : c.reset + 1 < 2 ^ 64
  pub dropped : c.dropped + 1 < 2 ^ 64
  pub lost : c.lost + 1 < 2 ^ 64

-- the same numbers, as if no event were a stray
abbrev pub without_strays : Totals → Totals
without_strays t = record t { stray = 0 }

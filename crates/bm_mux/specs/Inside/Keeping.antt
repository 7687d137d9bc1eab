-- What a mux keeps besides its log. Only the proofs of bodies use this.
use Rattle.std.specs.Prelude.{◌≡◌, ℕ, ◌+◌, ◌*◌, ◌^◌, ◌<◌, ◌≤◌}
use Rattle.std.specs.Prelude.{List, [], length, reverse, Option, Some, None}
use Rattle.bm_base.specs.declared.ids.MuxId.{MuxId}
use Rattle.bm_core.specs.declared.events.Event.{Event}
use Rattle.bm_core.specs.Past.{version_at}
use Rattle.bm_publish.specs.Posts.{Posted, last_version}
use Rattle.bm_mux.specs.Steers.{steering_clock}
use Rattle.bm_mux.specs.Muxes.{AreShown, HasServers}

-- the posts that a look has seen or learned of, if there is a look
abbrev pub seen_by : Option Posted → Posted
seen_by None = record {
  board = record { number = 0; log_name = 0; cells_name = 0 };
  plan = record { buckets = 0; servers = []; changes = [] };
  clocks = [];
}
seen_by (Some seen) = seen

-- the log, the version and the clock of a mux that was shown these posts
pub record IsKept (id : MuxId) (buckets version clock : ℕ) (log : List Event) (seen : Posted)
    : Type 0 where
  pub mux : id.0 < 64
  pub buckets_are : buckets ≡ seen.plan.buckets
  pub servers : HasServers seen.plan
  pub version_is : version ≡ (version_at (reverse log) id).0
  pub clock_is : clock ≡ steering_clock (reverse log)
  pub bound : clock ≤ 9 * 10 ^ 18 + length log
  pub newest : version ≤ last_version seen
  pub shown : AreShown id seen.clocks log

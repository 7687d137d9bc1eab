-- What a mux records and sends under one table (docs/DEFINITIONS.md). A past has its newest event
-- first.
use Rattle.std.specs.Prelude.{ℕ, Bool, true, false, if◌then◌else◌, nat_lt, List, [], ◌∷◌, ◌++◌}
use Rattle.bm_base.specs.declared.flow.Segment.{Segment}
use Rattle.bm_base.specs.declared.ids.MuxId.{MuxId}
use Rattle.bm_base.specs.declared.label.Hop.TheVariants.{Direct}
use Rattle.bm_base.specs.declared.label.Label.{Label}
use Rattle.bm_base.specs.declared.label.Tag.{Tag}
use Rattle.bm_base.specs.Labels.{tag_for}
use Rattle.bm_hash.specs.Buckets.{bucket_of}
use Rattle.bm_table.specs.Tables.{table}
use Rattle.bm_encap.specs.Spellings.{spelling}
use Rattle.bm_core.specs.declared.events.Event.{Event}
use Rattle.bm_core.specs.declared.events.What.{What}
use Rattle.bm_core.specs.declared.events.What.TheVariants.{Switch, Steer, Lose}
use Rattle.bm_core.specs.Past.{version_at}
use Rattle.bm_core.specs.Runs.{next_clock}
use Rattle.bm_publish.specs.Posts.{Posted, last_post, last_version}
use Rattle.bm_mux.specs.declared.item.MuxItem.{MuxItem}
use Rattle.bm_mux.specs.declared.item.Steered.{Steered}

abbrev pub is_lose : What → Bool
is_lose (Lose packet hop) = true
is_lose _ = false

-- the clock of a mux's last Switch or Steer in its log, or 0
abbrev pub steering_clock : List Event → ℕ
steering_clock [] = 0
steering_clock (e ∷ past) = if is_lose e.what then steering_clock past else e.clock.0

abbrev pub at_clock : ℕ → What → Event
at_clock clock what = record { clock = record { 0 = clock }; what = what }

-- the Switch to the version to which the posts lead, at the clock after the mux's last one and this
-- moment
abbrev pub switch_to : MuxId → Posted → List Event → ℕ → Event
switch_to m seen past cause =
    at_clock (next_clock (steering_clock past) cause) (Switch m (record { 0 = last_version seen }))

-- the same, if that version is newer than the mux's
abbrev pub switches : MuxId → Posted → List Event → List Event
switches m seen past =
    if nat_lt (version_at past m).0 (last_version seen)
    then switch_to m seen past (last_post seen) ∷ []
    else []

-- the mux's clock before the Steers
abbrev pub clock_under : MuxId → Posted → List Event → ℕ
clock_under m seen past = steering_clock (switches m seen past ++ past)

-- the clock of a Steer of the item, after this one
abbrev pub steer_clock : ℕ → MuxItem → ℕ
steer_clock last item = next_clock last item.moment.0

-- one Steer for each item, in order
abbrev pub steers : MuxId → ℕ → List MuxItem → List Event
steers m last [] = []
steers m last (i ∷ items) =
    at_clock (steer_clock last i) (Steer i.packet m) ∷ steers m (steer_clock last i) items

-- the mux's label for a packet of the segment, by the table to which the posts lead
abbrev pub label_by : MuxId → Posted → Segment → Label
label_by m seen s = record {
  mux = m;
  version = record { 0 = last_version seen };
  entry = table seen.plan (last_version seen) (bucket_of seen.plan.buckets s.flow);
}

-- the tag of the packet's direct copy
abbrev pub tag_by : MuxId → Posted → Segment → Tag
tag_by m seen s = tag_for (label_by m seen s) Direct (label_by m seen s).entry.cur

-- what is sent for the item, whose Steer has this clock
abbrev pub sent_for : MuxId → Posted → ℕ → MuxItem → Steered
sent_for m seen clock i = record {
  packet = i.packet;
  clock = record { 0 = clock };
  tag = tag_by m seen i.segment;
  octets = spelling (tag_by m seen i.segment) i.inner.now;
}

-- what is sent for each item, in order
abbrev pub sent : MuxId → Posted → ℕ → List MuxItem → List Steered
sent m seen last [] = []
sent m seen last (i ∷ items) =
    sent_for m seen (steer_clock last i) i ∷ sent m seen (steer_clock last i) items

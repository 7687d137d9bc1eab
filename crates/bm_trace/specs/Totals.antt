-- The ten numbers of a history's last line.
use Rattle.std.specs.Prelude.{ℕ, suc, Bool, true, false, ◌&&◌, not, is_some, if◌then◌else◌, List}
use Rattle.std.specs.Prelude.{[], ◌∷◌, Some, length, reverse, count_by}
use Rattle.bm_base.specs.declared.capture.Record.{Record}
use Rattle.bm_core.specs.declared.events.Event.{Event}
use Rattle.bm_core.specs.declared.events.History.{History}
use Rattle.bm_core.specs.declared.events.Stage.{Stage}
use Rattle.bm_core.specs.declared.events.Verdict.{Verdict}
use Rattle.bm_core.specs.declared.events.Verdict.TheVariants.{Reset, Drop}
use Rattle.bm_core.specs.declared.events.What.{What}
use Rattle.bm_core.specs.declared.events.What.TheVariants.{Arrive, Lose}
use Rattle.bm_core.specs.Causes.{is_process, wants_cause}
use Rattle.bm_core.specs.Past.{is_accept, is_forward, owner, segment_of, steerable}
use Rattle.bm_trace.specs.declared.sums.Totals.{Totals}

abbrev pub is_reset : Verdict → Bool
is_reset (Reset why) = true
is_reset _ = false

abbrev pub is_drop : Verdict → Bool
is_drop (Drop why) = true
is_drop _ = false

abbrev pub is_steered : Record → Bool
is_steered r = is_some (steerable (Some r))

-- the event is an arrival with a verdict of this kind
abbrev pub arrives : (Verdict → Bool) → What → Bool
arrives kind (Arrive packet hop server verdict) = kind verdict
arrives kind _ = false

abbrev pub is_lost : What → Bool
is_lost (Lose packet hop) = true
is_lost _ = false

-- a packet that isn't opening is processed without an owner, or at a server other than its owner's
abbrev pub is_stray : Stage → List Event → What → Bool
is_stray stage past (Arrive packet hop server verdict) =
    is_process verdict
    && wants_cause verdict (owner stage past packet) server (segment_of stage packet)
is_stray stage past _ = false

abbrev pub strays : Stage → List Event → ℕ
strays stage [] = 0
strays stage (e ∷ past) =
    if is_stray stage past e.what then suc (strays stage past) else strays stage past

abbrev pub totals_of : History → Totals
totals_of h = record {
  packets = length h.stage.capture.records;
  steered = count_by (λ r. is_steered r) h.stage.capture.records;
  unsteered = count_by (λ r. not (is_steered r)) h.stage.capture.records;
  accepted = count_by (λ e. arrives is_accept e.what) h.events;
  processed = count_by (λ e. arrives is_process e.what) h.events;
  forwarded = count_by (λ e. arrives is_forward e.what) h.events;
  reset = count_by (λ e. arrives is_reset e.what) h.events;
  dropped = count_by (λ e. arrives is_drop e.what) h.events;
  lost = count_by (λ e. is_lost e.what) h.events;
  stray = strays h.stage (reverse h.events);
}

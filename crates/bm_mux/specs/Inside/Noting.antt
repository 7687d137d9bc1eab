-- What a mux records, and what a steered item adds to it. Only the proofs of bodies use this.
use Rattle.std.specs.Prelude.{◌≡◌, [], ◌∷◌, ◌++◌}
use Rattle.bm_core.specs.declared.events.What.TheVariants.{Steer}
use Rattle.bm_publish.specs.Posts.{Posted}
use Rattle.bm_mux.specs.declared.item.MuxItem.{MuxItem}
use Rattle.bm_mux.specs.declared.item.Steered.{Steered}
use Rattle.bm_mux.specs.declared.notes.Notes.{Notes}
use Rattle.bm_mux.specs.Steers.{at_clock, sent_for, steer_clock}
use Rattle.bm_mux.specs.Inside.Keeping.{IsKept}

-- this was recorded by a mux that was shown these posts
abbrev pub AreKept : Notes → Posted → Type 0
AreKept n seen = IsKept n.id n.buckets n.version.0 n.clock.0 n.log.items seen

-- both are of the same mux
abbrev pub IsSame : Notes → Notes → Type 0
IsSame old new = (new.id ≡ old.id) × (new.buckets ≡ old.buckets)

-- and both have the same version
abbrev pub IsSameVersion : Notes → Notes → Type 0
IsSameVersion old new =
    (new.id ≡ old.id) × (new.buckets ≡ old.buckets) × (new.version ≡ old.version)

-- the item was steered, and this is sent
pub record HasSteeredOne (old : Notes) (seen : Posted) (item : MuxItem) (new : Notes)
    (given : Steered) : Type 0 where
  pub given_is : given ≡ sent_for old.id seen (steer_clock old.clock.0 item) item
  pub clock_is : new.clock.0 ≡ steer_clock old.clock.0 item
  pub log_is : new.log.items ≡ old.log.items ++ at_clock new.clock.0 (Steer item.packet old.id) ∷ []

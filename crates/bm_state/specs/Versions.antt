-- What is kept of versions.
use Rattle.std.specs.Prelude.{◌≡◌, List, slice_index_or}
use Rattle.bm_base.specs.declared.ids.MuxId.{MuxId}
use Rattle.bm_base.specs.declared.ids.Version.{Version}
use Rattle.bm_core.specs.declared.events.Event.{Event}
use Rattle.bm_core.specs.Past.{newest, version_at}
use Rattle.bm_state.specs.declared.versions.Versions.{Versions}

-- the version of a mux before its first Switch
abbrev pub unset : Version
unset = record { 0 = 0 }

-- this is kept after these events
pub record KeepsVersions (past : List Event) (v : Versions) : Type 0 where
  pub newest_one : v.newest.0 ≡ newest past
  pub version_of_each : (m : MuxId) → slice_index_or v.muxes.items m.0 unset ≡ version_at past m

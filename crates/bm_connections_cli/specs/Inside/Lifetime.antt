-- What the contracts of private calls and the proofs of bodies use in addition to Lifetime.
use Rattle.std.specs.Prelude.{Bool, if◌then◌else◌}
use Rattle.bm_cli.specs.declared.status.Status.{Status}
use Rattle.bm_cli.specs.declared.status.Status.TheVariants.{Done, Exceeded}

-- the status with which the lines of a lifetime are written
abbrev pub status_for : Bool → Status
status_for outlives = if outlives then Exceeded else Done

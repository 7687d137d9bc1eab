-- A copy under way as contracts see it.
use Rattle.bm_base.specs.declared.ids.Moment.{Moment}
use Rattle.bm_fault.specs.declared.wire.Flight.{Flight}

pub record Flying : Type 0 where
  pub due : Moment
  pub flight : Flight

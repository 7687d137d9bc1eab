-- What comes first: of the commands, the copies under way and the packets.
use Rattle.std.specs.Prelude.{ℕ, Bool, true, ◌&&◌, nat_le, nat_lt, if◌then◌else◌, Option, Some}
use Rattle.std.specs.Prelude.{None}
use Rattle.bm_base.specs.declared.ids.Moment.{Moment}
use Rattle.bm_core.specs.declared.schedule.Due.{Due}
use Rattle.bm_core.specs.Schedule.{sooner}
use Rattle.bm_replay.specs.declared.coming.Coming.{Coming}
use Rattle.bm_replay.specs.declared.coming.Coming.TheVariants.{Arrive, Call, Over}

-- the sooner of the two, if there are two; if they are equal, the first
abbrev pub sooner_of : Option Due → Option Due → Option Due
sooner_of a None = a
sooner_of a (Some d) = sooner a d

abbrev pub is_before : ℕ → Option Due → Bool
is_before moment None = true
is_before moment (Some d) = nat_lt moment d.moment

abbrev pub is_no_later : ℕ → Option Due → Bool
is_no_later moment None = true
is_no_later moment (Some d) = nat_le moment d.moment

abbrev pub coming_of : Option Due → Coming
coming_of None = Over
coming_of (Some d) = Call d

-- when a copy arrives or a packet is steered, whichever is sooner
abbrev pub soonest_of : Option Moment → Option Due → Option Moment
soonest_of None None = None
soonest_of (Some m) None = Some m
soonest_of None (Some d) = Some (record { 0 = d.moment })
soonest_of (Some m) (Some d) = Some (if nat_le m.0 d.moment then m else record { 0 = d.moment })

-- a copy arrives after the commands of its moment, and before the packets
abbrev pub first_coming : Option Due → Option Moment → Option Due → Coming
first_coming command None packet = coming_of (sooner_of command packet)
first_coming command (Some m) packet =
    if is_before m.0 command && is_no_later m.0 packet then Arrive m
    else coming_of (sooner_of command packet)

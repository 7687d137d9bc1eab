-- A reader's place in a capture, and its section.
use Rattle.std.specs.Prelude.{ℕ, ◌+◌, ◌-◌, max, min, List, [], ◌∷◌, ◌++◌, Option, Some, None}
use Rattle.std.specs.Prelude.{unwrap_or}
use Rattle.bm_base.specs.declared.ids.Moment.{Moment}
use Rattle.bm_pcap.specs.declared.form.Order.{Order}
use Rattle.bm_pcap.specs.Limits.{latest, most_octets}
use Rattle.bm_pcapng.specs.declared.content.Content.{Content}
use Rattle.bm_pcapng.specs.declared.content.Content.TheVariants.{Begins, Describes, Holds, Nothing}
use Rattle.bm_pcapng.specs.declared.interface.Interface.{Interface}
use Rattle.bm_pcapng.specs.declared.place.Place.{Place}

-- the order of the numbers after a block
abbrev pub order_after : Order → Content → Order
order_after order (Begins new) = new
order_after order other = order

-- the interfaces after a block: a new section forgets those before it
abbrev pub interfaces_after : List Interface → Content → List Interface
interfaces_after interfaces (Begins order) = []
interfaces_after interfaces (Describes interface) = interfaces ++ interface ∷ []
interfaces_after interfaces (Holds packet) = interfaces
interfaces_after interfaces Nothing = interfaces

-- the front of a capture
abbrev pub first_place : Place
first_place = record {
  block = 1;
  number = 1;
  room = most_octets;
  first = None;
  last = record { 0 = 0 };
}

-- The moment of a packet: its time minus that of the first packet that has one, at least 0, at most
-- the latest, and never below the moment of the packet before. A packet without a time has the
-- moment of the packet before.
abbrev pub moment_at : Place → Option ℕ → Moment
moment_at place None = place.last
moment_at place (Some time) =
    record { 0 = max place.last.0 (min latest (time - unwrap_or place.first time)) }

abbrev pub first_after : Option ℕ → Option ℕ → Option ℕ
first_after first None = first
first_after first (Some time) = Some (unwrap_or first time)

-- the place after a block of n octets
abbrev pub place_after : Place → ℕ → Content → Place
place_after place n (Holds packet) = record {
  block = place.block + 1;
  number = place.number + 1;
  room = place.room - n;
  first = first_after place.first packet.time;
  last = moment_at place packet.time;
}
place_after place n other = record {
  block = place.block + 1;
  number = place.number;
  room = place.room - n;
  first = place.first;
  last = place.last;
}

-- The generated load of n connections (docs/FORMATS.md): each sends four segments, the first of all
-- connections before the second of any, a microsecond apart, and a server is added at the moment of
-- the third round's first packet.
use Rattle.std.specs.Prelude.{ℕ, ◌+◌, ◌*◌, ◌/◌, ◌%◌, ◌==◌, if◌then◌else◌, List, [], ◌∷◌, ◌++◌, map}
use Rattle.std.specs.Prelude.{replicate, None}
use Rattle.std.specs.Int.{to_be_bytes, w16, w32}
use Rattle.std.specs.List.{range_with_len}
use Rattle.bm_base.specs.declared.capture.Body.TheVariants.{Steerable}
use Rattle.bm_base.specs.declared.capture.Record.{Record}
use Rattle.bm_base.specs.declared.flow.Flow.{Flow}
use Rattle.bm_base.specs.declared.flow.Segment.{Segment}
use Rattle.bm_base.specs.declared.ids.ServerId.{ServerId}
use Rattle.bm_base.specs.Segments.{FIN, SYN}
use Rattle.bm_controller.specs.Commands.{after, Command}
use Rattle.bm_controller.specs.Commands.Command.{AddServer}
use Rattle.bm_controller.specs.Controlled.{members_of, Controlled}
use Rattle.bm_core.specs.declared.events.Stage.{Stage}
use Rattle.bm_load.specs.declared.packets.Round.{Round}
use Rattle.bm_table.specs.declared.script.Command.TheVariants.{Change}
use Rattle.bm_table.specs.declared.setting.RouteKind.TheVariants.{Port}
use Rattle.bm_table.specs.declared.setting.Setting.{Setting}
use Rattle.bm_table.specs.Planned.{Planned}
use Rattle.bm_table.specs.Settings.{seconds}
use Rattle.bm_tcp.specs.Header.{count_of}

abbrev pub load_servers : List ServerId
load_servers =
    record { 0 = 1 } ∷ record { 0 = 2 } ∷ record { 0 = 3 } ∷ record { 0 = 4 } ∷ []

abbrev pub load_setting : Setting
load_setting = record {
  buckets = 64;
  servers = load_servers;
  racks = 1;
  muxes = 4;
  shards = 4;
  capacity = 65536;
  timeout = seconds 240;
  vips = record { addr = 0xc000_0201; port = 80 } ∷ [];
  route = Port;
  lags = 0 ∷ 0 ∷ 0 ∷ 0 ∷ [];
  faults = [];
}

-- the controller before its command; each server weighs 1, and all are in one rack
abbrev pub opened : Controlled
opened = record {
  plan = record { buckets = 64; servers = load_servers; changes = [] };
  racks = 1;
  members = members_of load_servers (replicate 4 1) (replicate 4 0);
}

abbrev pub addition : Command
addition = AddServer (record { 0 = 5 }) 1 0

-- server 5 is added at the moment of the third round's first packet
unfoldable pub load_plan : ℕ → Planned
load_plan n = (after opened (record { 0 = n * 2000 }) addition).plan

-- the rounds, from 0: SYN, 100 octets of data twice, FIN
abbrev pub round_at : ℕ → Round
round_at r =
    if r == 0 then record { seq = 1000; ack = 0; flags = 0x02; payload = 0 }
    else if r == 1 then record { seq = 1001; ack = 501; flags = 0x18; payload = 100 }
    else if r == 2 then record { seq = 1101; ack = 501; flags = 0x18; payload = 100 }
    else record { seq = 1201; ack = 501; flags = 0x11; payload = 0 }

-- a connection from this port of 10.0.0.1 to 192.0.2.1 port 80
abbrev pub flow_from : ℕ → Flow
flow_from port = record { src = 0x0a00_0001; dst = 0xc000_0201; sport = port; dport = 80 }

abbrev pub segment_from : Round → ℕ → Segment
segment_from round port = record {
  flow = flow_from port;
  seq = round.seq;
  ack = round.ack;
  len = round.payload + count_of SYN round.flags + count_of FIN round.flags;
  flags = round.flags;
}

-- the headers of IPv4 and TCP, with both checksums zero
unfoldable pub headers_from : Round → ℕ → List ℕ
headers_from round port =
    0x45 ∷ 0 ∷ [] ++ to_be_bytes w16 (40 + round.payload) ++ 0 ∷ 0 ∷ 0x40 ∷ 0 ∷ 64 ∷ 6 ∷ 0 ∷ 0 ∷ []
    ++ to_be_bytes w32 0x0a00_0001 ++ to_be_bytes w32 0xc000_0201
    ++ to_be_bytes w16 port ++ to_be_bytes w16 80 ++ to_be_bytes w32 round.seq
    ++ to_be_bytes w32 round.ack
    ++ 0x50 ∷ round.flags ∷ 0xff ∷ 0xff ∷ 0 ∷ 0 ∷ 0 ∷ 0 ∷ []

abbrev pub packet_from : Round → ℕ → List ℕ
packet_from round port = headers_from round port ++ replicate round.payload 0x61

-- the connections, from 0, have the ports from 10,000 on
abbrev pub port_of : ℕ → ℕ
port_of i = 10000 + i

-- the record at place k, counted from 0
abbrev pub record_at : ℕ → ℕ → Record
record_at n k = record {
  moment = record { 0 = k * 1000 };
  body = Steerable (segment_from (round_at (k / n)) (port_of (k % n)));
}

abbrev pub load_records : ℕ → List Record
load_records n = map (record_at n) (range_with_len 0 (4 * n))

abbrev pub packet_at : ℕ → ℕ → List ℕ
packet_at n k = packet_from (round_at (k / n)) (port_of (k % n))

abbrev pub load_packets : ℕ → List (List ℕ)
load_packets n = map (packet_at n) (range_with_len 0 (4 * n))

abbrev pub load_of : ℕ → Stage
load_of n = record {
  script = record {
    setting = load_setting;
    plan = load_plan n;
    commands = Change (record { 0 = 1 }) ∷ [];
  };
  capture = record { records = load_records n; cut = None };
}

-- What a whole block says.
use Rattle.std.specs.Prelude.{ℕ, ◌+◌, ◌-◌, ◌*◌, ◌^◌, min, List, length, slice_get, slice_range}
use Rattle.std.specs.Prelude.{Bool, nat_le, nat_lt, ◌==◌, if◌then◌else◌, Option, Some, None, Result}
use Rattle.std.specs.Prelude.{Ok, Err}
use Rattle.bm_pcap.specs.declared.form.Order.{Order}
use Rattle.bm_pcap.specs.Header.{number_at}
use Rattle.bm_pcap.specs.Limits.{longest}
use Rattle.bm_pcap.specs.declared.fault.CaptureFault.{CaptureFault}
use Rattle.bm_pcap.specs.declared.fault.CaptureFault.TheVariants.{BadBlock, BadLength, BadVersion}
use Rattle.bm_pcapng.specs.declared.block.Kind.{Kind}
use Rattle.bm_pcapng.specs.declared.block.Kind.TheVariants.{SectionHeader, InterfaceDescription}
use Rattle.bm_pcapng.specs.declared.block.Kind.TheVariants.{EnhancedPacket, SimplePacket, Other}
use Rattle.bm_pcapng.specs.declared.content.Content.{Content}
use Rattle.bm_pcapng.specs.declared.content.Content.TheVariants.{Begins, Describes, Holds, Nothing}
use Rattle.bm_pcapng.specs.declared.interface.Interface.{Interface}
use Rattle.bm_pcapng.specs.declared.place.Place.{Place}
use Rattle.bm_pcapng.specs.Limits.{most_interfaces}
use Rattle.bm_pcapng.specs.Options.{resolution_by}
use Rattle.bm_pcapng.specs.Times.{nanoseconds}

-- "Section Header Block": the major version, octets 12 and 13, is 1
abbrev pub section_content : Order → List ℕ → Result Content CaptureFault
section_content order block =
    if number_at order 2 12 block == 1 then Ok (Begins order) else Err BadVersion

-- "Interface Description Block": the link type at octet 8, the snapshot length at 12, options from
-- 16 to the second total length
abbrev pub options_of : List ℕ → List ℕ
options_of block = slice_range block 16 (length block - 4)

abbrev pub interface_of : Order → List ℕ → Interface
interface_of order block = record {
  link = number_at order 2 8 block;
  snapshot = number_at order 4 12 block;
  resolution = resolution_by order (options_of block);
}

abbrev pub interface_content : Order → List Interface → Place → List ℕ → Result Content CaptureFault
interface_content order interfaces place block =
    if nat_lt (length interfaces) most_interfaces then Ok (Describes (interface_of order block))
    else Err (BadBlock place.block)

-- "Enhanced Packet Block": the interface at octet 8, the time at 12 (high half) and 16 (low half),
-- the captured length at 20, the packet from 28
abbrev pub time_of : Order → Interface → List ℕ → ℕ
time_of order interface block =
    nanoseconds interface.resolution
    (number_at order 4 12 block * 2 ^ 32 + number_at order 4 16 block)

-- the packet's octets, from this octet of its block on, and the second total length fit the block
abbrev pub fits_in : ℕ → ℕ → ℕ → Bool
fits_in at len n = nat_le (at + len + 4) n

abbrev pub packet_at : Place → ℕ → ℕ → List ℕ → Option Interface → (Interface → Option ℕ)
    → Result Content CaptureFault
packet_at place at len block None time = Err (BadBlock place.block)
packet_at place at len block (Some interface) time =
    if fits_in at len (length block)
    then Ok (Holds (record { time = time interface; link = interface.link; at = at; len = len }))
    else Err (BadBlock place.block)

-- a captured length above the limit is reported before anything else that is wrong with a packet
abbrev pub packet_content : Place → ℕ → ℕ → List ℕ → Option Interface → (Interface → Option ℕ)
    → Result Content CaptureFault
packet_content place at len block interface time =
    if nat_lt longest len then Err (BadLength place.number len)
    else packet_at place at len block interface time

abbrev pub enhanced_content : Order → List Interface → Place → List ℕ → Result Content CaptureFault
enhanced_content order interfaces place block =
    packet_content place 28 (number_at order 4 20 block) block
    (slice_get interfaces (number_at order 4 8 block))
    (λ interface. Some (time_of order interface block))

-- "Simple Packet Block": the original length at octet 8, the packet from 12. It belongs to
-- interface 0, and what was captured is cut at that interface's snapshot length, where 0 is no
-- limit.
abbrev pub captured_of : Option Interface → ℕ → ℕ
captured_of None original = original
captured_of (Some interface) original =
    if interface.snapshot == 0 then original else min original interface.snapshot

abbrev pub simple_content : Order → List Interface → Place → List ℕ → Result Content CaptureFault
simple_content order interfaces place block =
    packet_content place 12
    (captured_of (slice_get interfaces 0) (number_at order 4 8 block)) block
    (slice_get interfaces 0) (λ interface. None)

-- what a block says, in a section with this order and these interfaces
unfoldable pub content : Kind → Order → List Interface → Place → List ℕ → Result Content CaptureFault
content SectionHeader order interfaces place block = section_content order block
content InterfaceDescription order interfaces place block =
    interface_content order interfaces place block
content EnhancedPacket order interfaces place block = enhanced_content order interfaces place block
content SimplePacket order interfaces place block = simple_content order interfaces place block
content Other order interfaces place block = Ok Nothing

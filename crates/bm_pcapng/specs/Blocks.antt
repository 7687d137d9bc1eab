-- Blocks (draft-ietf-opsawg-pcapng, "General Block Structure"): a type and a total length of four
-- octets each, a body, and the total length again.
use Rattle.std.specs.Prelude.{ℕ, ◌+◌, ◌-◌, ◌%◌, List, length, take, Bool, true, false, not}
use Rattle.std.specs.Prelude.{nat_lt, nat_le, ◌==◌, ◌&&◌, ◌||◌, if◌then◌else◌, Option, Some, None}
use Rattle.std.specs.Prelude.{Result, Ok, Err}
use Rattle.bm_pcap.specs.declared.form.Order.{Order}
use Rattle.bm_pcap.specs.declared.form.Order.TheVariants.{Big, Little}
use Rattle.bm_pcap.specs.Header.{number_at}
use Rattle.bm_pcap.specs.Limits.{most_records}
use Rattle.bm_pcap.specs.declared.fault.CaptureFault.{CaptureFault}
use Rattle.bm_pcap.specs.declared.fault.CaptureFault.TheVariants.{BadBlock, TooLarge, TooManyPackets}
use Rattle.bm_pcapng.specs.declared.block.Kind.{Kind}
use Rattle.bm_pcapng.specs.declared.block.Kind.TheVariants.{SectionHeader, InterfaceDescription}
use Rattle.bm_pcapng.specs.declared.block.Kind.TheVariants.{EnhancedPacket, SimplePacket, Other}
use Rattle.bm_pcapng.specs.declared.content.Content.{Content}
use Rattle.bm_pcapng.specs.declared.interface.Interface.{Interface}
use Rattle.bm_pcapng.specs.declared.place.Place.{Place}
use Rattle.bm_pcapng.specs.declared.step.Step.{Step}
use Rattle.bm_pcapng.specs.declared.step.Step.TheVariants.{Block, Cut, End}
use Rattle.bm_pcapng.specs.Contents.{content}
use Rattle.bm_pcapng.specs.Limits.{longest_block}

-- "Block Types"
abbrev pub kind_of : ℕ → Kind
kind_of type =
    if type == 1 then InterfaceDescription else if type == 6 then EnhancedPacket
    else if type == 3 then SimplePacket else Other

-- The type of a section header reads the same in both orders.
abbrev pub is_section : List ℕ → Bool
is_section type = number_at Big 4 0 type == 0x0a0d0d0a

abbrev pub kind_in : Order → List ℕ → Kind
kind_in order type =
    if is_section type then SectionHeader else kind_of (number_at order 4 0 type)

abbrev pub is_packet : Kind → Bool
is_packet EnhancedPacket = true
is_packet SimplePacket = true
is_packet _ = false

-- "Section Header Block": the magic at octet 8 gives the order of the section's numbers. It is read
-- big endian here, so it is reversed where the order is little endian.
abbrev pub magic_of : List ℕ → Option Order
magic_of head =
    if number_at Big 4 8 head == 0x1a2b3c4d then Some Big
    else if number_at Big 4 8 head == 0x4d3c2b1a then Some Little else None

-- the order of a block's numbers: a section header gives its own, any other has its section's
abbrev pub order_of : Kind → Order → List ℕ → Option Order
order_of SectionHeader order head = magic_of head
order_of _ order head = Some order

-- how many octets it takes to know a block's total length; a section header's, through the magic
abbrev pub head_size : Kind → ℕ
head_size SectionHeader = 12
head_size _ = 8

-- the fixed octets of a block
abbrev pub least_length : Kind → ℕ
least_length SectionHeader = 28
least_length InterfaceDescription = 20
least_length EnhancedPacket = 32
least_length SimplePacket = 16
least_length Other = 12

abbrev pub is_length : Kind → ℕ → Bool
is_length kind n = n % 4 == 0 && nat_le (least_length kind) n && nat_le n longest_block

-- The octets end before the n-th, or the capture gets too large before it.
abbrev pub lacks : ℕ → ℕ → List ℕ → Bool
lacks n room left = nat_lt (length left) n || nat_lt (room + 1) n

abbrev pub short : ℕ → List ℕ → Result Step CaptureFault
short room left = if nat_lt room (length left) then Err TooLarge else Ok Cut

abbrev pub with_content : ℕ → Result Content CaptureFault → Result Step CaptureFault
with_content n (Ok content) = Ok (Block n content)
with_content n (Err e) = Err e

-- a whole block of n octets
abbrev pub framed : Kind → Order → List Interface → Place → ℕ → List ℕ → Result Step CaptureFault
framed kind order interfaces place n block =
    if number_at order 4 (n - 4) block == n
    then with_content n (content kind order interfaces place block)
    else Err (BadBlock place.block)

-- a block that may have the n octets that it states
abbrev pub after_head : Kind → Order → List Interface → Place → ℕ → List ℕ → Result Step CaptureFault
after_head kind order interfaces place n left =
    if nat_le n (length left) && nat_le n place.room
    then framed kind order interfaces place n (take n left)
    else short place.room left

-- a block whose head states a total length of n octets
abbrev pub sized : Kind → Order → List Interface → Place → ℕ → List ℕ → Result Step CaptureFault
sized kind order interfaces place n left =
    if not (is_length kind n) then Err (BadBlock place.block)
    else if is_packet kind && nat_lt most_records place.number then Err TooManyPackets
    else after_head kind order interfaces place n left

abbrev pub ordered : Kind → Option Order → List Interface → Place → List ℕ → Result Step CaptureFault
ordered kind None interfaces place left = Err (BadBlock place.block)
ordered kind (Some order) interfaces place left =
    sized kind order interfaces place (number_at order 4 4 (take (head_size kind) left)) left

abbrev pub block_at : Kind → Order → List Interface → Place → List ℕ → Result Step CaptureFault
block_at kind order interfaces place left =
    if lacks (head_size kind) place.room left then short place.room left
    else ordered kind (order_of kind order (take (head_size kind) left)) interfaces place left

-- What is at the front of the octets that are left, at a place of a section with this order and
-- these interfaces: a block, one that is cut short, or the end.
unfoldable pub next_of : Order → List Interface → Place → List ℕ → Result Step CaptureFault
next_of order interfaces place left =
    if length left == 0 then Ok End
    else block_at (kind_in order (take 4 left)) order interfaces place left

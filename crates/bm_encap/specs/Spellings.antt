-- The carrier header of a tag (docs/FORMATS.md): an IPv4 header (RFC 791) with one option of 36
-- octets.
use Rattle.std.specs.Prelude.{ℕ, ◌+◌, List, [], ◌∷◌, ◌++◌, length, Option, Some, None}
use Rattle.byteorder.specs.Endian.{big_bytes}
use Rattle.bm_base.specs.Labels.{hop_number}
use Rattle.bm_base.specs.declared.label.Past.{Past}
use Rattle.bm_base.specs.declared.label.Tag.{Tag}
use Rattle.bm_ipv4.specs.Checksum.{checksum_of}
use Rattle.bm_base.specs.Addresses.{mux_address, server_address}

-- how many previous servers there are
abbrev pub past_count : Option Past → Option Past → ℕ
past_count None None = 0
past_count (Some p) (Some o) = 2
past_count prev older = 1

-- the address of a previous server, or zero
abbrev pub past_address : Option Past → ℕ
past_address None = 0
past_address (Some p) = server_address p.server

-- its stamp, or zero
abbrev pub past_stamp : Option Past → ℕ
past_stamp None = 0
past_stamp (Some p) = p.stamp.0

-- the numbers of the header, each with how many octets it takes
abbrev pub fields : Tag → ℕ → ℕ → List (ℕ × ℕ)
fields tag total sum =
    -- IPv4 with a header of 14 words, ordinary service
    (2, 0x4e00)
    -- total length
    ∷ (2, total)
    -- identification; don't fragment; a time to live of 64, and IPv4 within
    ∷ (2, 0)
    ∷ (2, 0x4000)
    ∷ (2, 0x4004)
    -- header checksum, source, destination
    ∷ (2, sum)
    ∷ (4, mux_address tag.mux)
    ∷ (4, server_address tag.dest)
    -- an option of type 0x9e with 36 octets
    ∷ (2, 0x9e24)
    ∷ (1, hop_number tag.hop)
    ∷ (1, past_count tag.prev tag.older)
    ∷ (4, past_address tag.prev)
    ∷ (8, past_stamp tag.prev)
    ∷ (4, past_address tag.older)
    ∷ (8, past_stamp tag.older)
    ∷ (4, tag.version.0)
    ∷ (2, tag.mux.0)
    ∷ (2, 0)
    ∷ []

-- the numbers' octets, one after the other, each number big endian
abbrev pub spelled : List (ℕ × ℕ) → List ℕ
spelled [] = []
spelled (f ∷ fields) = big_bytes f.0 f.1 ++ spelled fields

-- the header for this total length, with this checksum
unfoldable pub header : Tag → ℕ → ℕ → List ℕ
header tag total sum = spelled (fields tag total sum)

-- how many octets the header has
abbrev pub header_length : ℕ
header_length = 56

-- the header of the tag, and after it the packet. The checksum is that of the header with zero in
-- its place
abbrev pub spelling : Tag → List ℕ → List ℕ
spelling tag inner =
    header tag (header_length + length inner)
    (checksum_of (header tag (header_length + length inner) 0)) ++ inner

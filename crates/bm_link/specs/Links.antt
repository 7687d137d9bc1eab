-- Link layers, and where the network layer's part begins in a frame of each.
use Rattle.std.specs.Prelude.{ℕ, zero, suc, ◌/◌, List, length, drop, Bool, ◌||◌, nat_lt, ◌==◌}
use Rattle.std.specs.Prelude.{if◌then◌else◌, Result, Ok, Err}
use Rattle.bm_ipv4.specs.Fields.{octet_at, u16_at}
use Rattle.bm_link.specs.declared.fault.LinkFault.{LinkFault}
use Rattle.bm_link.specs.declared.fault.LinkFault.TheVariants.{Short, NotIpv4}

-- The link types that are read: 1 Ethernet, 101 raw IP, 113 Linux cooked, 228 raw IPv4, 276 Linux
-- cooked version 2 (the link types of pcap).
abbrev pub is_link : ℕ → Bool
is_link link = link == 1 || link == 101 || link == 113 || link == 228 || link == 276

-- 802.1Q and 802.1ad
abbrev pub is_tag : ℕ → Bool
is_tag kind = kind == 0x8100 || kind == 0x88a8

-- What follows the EtherType at the front, after at most this many tags. A tag is an EtherType of
-- its own and two octets; the next EtherType follows.
unfoldable pub after_tags : ℕ → List ℕ → Result (List ℕ) LinkFault
after_tags zero octets =
    if nat_lt (length octets) 2 then Err Short
    else if u16_at octets 0 == 0x0800 then Ok (drop 2 octets) else Err NotIpv4
after_tags (suc tags) octets =
    if nat_lt (length octets) 2 then Err Short
    else if is_tag (u16_at octets 0) then after_tags tags (drop 4 octets)
    else if u16_at octets 0 == 0x0800 then Ok (drop 2 octets) else Err NotIpv4

-- Ethernet: the EtherType comes after two addresses of six octets
unfoldable pub ethernet_part : List ℕ → Result (List ℕ) LinkFault
ethernet_part octets = after_tags 2 (drop 12 octets)

-- raw IP: the version is the high half of the first octet
unfoldable pub raw_part : List ℕ → Result (List ℕ) LinkFault
raw_part octets =
    if length octets == 0 then Err Short else if octet_at octets 0 / 16 == 4 then Ok octets
    else Err NotIpv4

-- Linux cooked: a header of this many octets, with the protocol at this place
unfoldable pub cooked_part : ℕ → ℕ → List ℕ → Result (List ℕ) LinkFault
cooked_part header place octets =
    if nat_lt (length octets) header then Err Short
    else if u16_at octets place == 0x0800 then Ok (drop header octets) else Err NotIpv4

-- the network layer's part of a frame of this link type, or why there is none
unfoldable pub network_of : ℕ → List ℕ → Result (List ℕ) LinkFault
network_of link octets =
    if link == 1 then ethernet_part octets
    else if link == 101 then raw_part octets
    else if link == 113 then cooked_part 16 14 octets
    else if link == 228 then Ok octets
    else cooked_part 20 0 octets

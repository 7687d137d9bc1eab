-- The bucket and the shard of a flow: FNV-1a with 64 bits (Fowler, Noll, Vo) over the flow's
-- octets.
use Rattle.std.specs.Prelude.{ℕ, ◌*◌, ◌/◌, ◌%◌, ◌^◌, bit_xor, List, [], ◌∷◌, ◌++◌, fold}
use Rattle.std.specs.Int.{to_be_bytes, w16, w32}
use Rattle.bm_base.specs.declared.flow.Flow.{Flow}

-- source address, destination address, source port, destination port, each big endian, and the
-- protocol of TCP
unfoldable pub flow_octets : Flow → List ℕ
flow_octets f =
    to_be_bytes w32 f.src ++ to_be_bytes w32 f.dst ++ to_be_bytes w16 f.sport
    ++ to_be_bytes w16 f.dport ++ 6 ∷ []

-- the hash with one more octet: exclusive or, then times the prime, modulo 2^64
unfoldable pub fnv_step : ℕ → ℕ → ℕ
fnv_step hash octet = bit_xor hash octet * 0x100000001b3 % 2 ^ 64

-- the octets in their order, from the offset basis
unfoldable pub fnv_1a : List ℕ → ℕ
fnv_1a octets = fold fnv_step 0xcbf29ce484222325 octets

-- the hash of a flow's octets
unfoldable pub flow_hash : Flow → ℕ
flow_hash f = fnv_1a (flow_octets f)

-- the bucket of a flow, among this many buckets
abbrev pub bucket_of : ℕ → Flow → ℕ
bucket_of buckets f = flow_hash f % buckets

-- the shard of a flow at its server, among this many shards
abbrev pub shard_of : ℕ → Flow → ℕ
shard_of shards f = flow_hash f / 2 ^ 32 % shards

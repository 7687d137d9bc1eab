-- The keys of a script, and where each may be.
use Rattle.std.specs.Prelude.{ℕ, List, [], ◌∷◌, Bool, not, ◌&&◌, nat_le, Option, find, codes}
use Rattle.std.specs.Prelude.{bytes_eq}
use Rattle.std.specs.List.{list_any}
use Rattle.toml.specs.Data.{Data, Members, no_members, member, get_member}
use Rattle.bm_script.specs.declared.key.Key.{Key}
use Rattle.bm_script.specs.declared.key.Key.TheVariants as key
use Rattle.bm_script.specs.declared.commands.Verb.{Verb}
use Rattle.bm_script.specs.declared.commands.Verb.TheVariants.{Add, Drain, Move, Close, Retire}
use Rattle.bm_script.specs.declared.commands.Verb.TheVariants.{Sync, Weigh}

abbrev pub key_word : Key → List ℕ
key_word key.Version = codes "version"
key_word key.Buckets = codes "buckets"
key_word key.Servers = codes "servers"
key_word key.Muxes = codes "muxes"
key_word key.Shards = codes "shards"
key_word key.Capacity = codes "capacity"
key_word key.Timeout = codes "timeout_s"
key_word key.Vips = codes "vips"
key_word key.Route = codes "route"
key_word key.Lags = codes "lags_ns"
key_word key.Fault = codes "fault"
key_word key.Command = codes "command"
key_word key.Packet = codes "packet"
key_word key.Hop = codes "hop"
key_word key.Copies = codes "copies"
key_word key.Delay = codes "delay_ns"
key_word key.At = codes "at_ns"
key_word key.Do = codes "do"
key_word key.Server = codes "server"
key_word key.Bucket = codes "bucket"
key_word key.From = codes "from"
key_word key.To = codes "to"
key_word key.Weight = codes "weight"
key_word key.Weights = codes "weights"
key_word key.Racks = codes "racks"

-- the first version of scripts that has the key
abbrev pub since : Key → ℕ
since key.Weight = 2
since key.Weights = 2
since key.Racks = 3
since _ = 1

abbrev pub top_keys : List Key
top_keys =
    key.Version ∷ key.Buckets ∷ key.Servers ∷ key.Weights ∷ key.Racks ∷ key.Muxes ∷ key.Shards
    ∷ key.Capacity ∷ key.Timeout ∷ key.Vips ∷ key.Route ∷ key.Lags ∷ key.Fault ∷ key.Command ∷ []

abbrev pub row_keys : List Key
row_keys = key.Packet ∷ key.Hop ∷ key.Copies ∷ key.Delay ∷ []

-- the keys of a command
abbrev pub verb_keys : Verb → List Key
verb_keys Add = key.At ∷ key.Do ∷ key.Server ∷ key.Weight ∷ []
verb_keys Drain = key.At ∷ key.Do ∷ key.Server ∷ []
verb_keys Move = key.At ∷ key.Do ∷ key.Bucket ∷ key.Server ∷ []
verb_keys Close = key.At ∷ key.Do ∷ key.Server ∷ key.From ∷ key.To ∷ []
verb_keys Retire = key.At ∷ key.Do ∷ key.Server ∷ []
verb_keys Sync = key.At ∷ key.Do ∷ []
verb_keys Weigh = key.At ∷ key.Do ∷ key.Server ∷ key.Weight ∷ []

-- the text is one of these keys, and scripts of this version have it
abbrev pub is_key : ℕ → List Key → List ℕ → Bool
is_key version keys name =
    list_any (λ key. nat_le (since key) version && bytes_eq name (key_word key)) keys

-- the keys of a table, in byte order
abbrev pub names : Members → List (List ℕ)
names no_members = []
names (member name d members) = name ∷ names members

-- the least key that isn't one of these
abbrev pub first_unknown : ℕ → List Key → Members → Option (List ℕ)
first_unknown version keys members = find (λ name. not (is_key version keys name)) (names members)

-- the value of a key
abbrev pub value_at : Key → Members → Option Data
value_at key members = get_member (key_word key) members

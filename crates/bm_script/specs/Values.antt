-- What the values of a script read as; None for one of the wrong kind or out of its range.
use Rattle.std.specs.Prelude.{ℕ, ◌+◌, ◌-◌, ◌*◌, ℤ, pos, negsuc, List, [], ◌∷◌, Bool, true, false}
use Rattle.std.specs.Prelude.{not, ◌&&◌, ◌==◌, nat_le, if◌then◌else◌, Option, Some, None}
use Rattle.std.specs.Prelude.{option_map, codes, bytes_eq, is_some, min}
use Rattle.std.specs.List.{list_all, list_any, range_with_len}
use Rattle.toml.specs.Data.{Data, as_array, as_integer, as_str, as_table, Items, no_items, item}
use Rattle.bm_base.specs.declared.capture.Vip.{Vip}
use Rattle.bm_base.specs.declared.ids.ServerId.{ServerId}
use Rattle.bm_base.specs.declared.label.Hop.{Hop}
use Rattle.bm_base.specs.declared.label.Hop.TheVariants.{Direct, Chained}
use Rattle.bm_script.specs.declared.endpoint.Endpoint.{Endpoint}
use Rattle.bm_script.specs.declared.commands.Verb.{Verb}
use Rattle.bm_script.specs.declared.commands.Verb.TheVariants.{Add, Drain, Move, Close, Retire}
use Rattle.bm_script.specs.declared.commands.Verb.TheVariants.{Sync, Weigh}
use Rattle.bm_table.specs.declared.setting.RouteKind.{RouteKind}
use Rattle.bm_table.specs.declared.setting.RouteKind.TheVariants.{Port, Turn}
use Rattle.bm_table.specs.Settings.{rack_of}

-- goes on with a value, if there is one
infixl 10 ◌>>=◌
abbrev pub ◌>>=◌ : {A B : Type 0} → Option A → (A → Option B) → Option B
None >>= f = None
Some x >>= f = f x

abbrev pub in_range : ℕ → ℕ → ℤ → Option ℕ
in_range low high (pos n) = if nat_le low n && nat_le n high then Some n else None
in_range low high (negsuc n) = None

-- a whole number from low to high
abbrev pub number : ℕ → ℕ → Data → Option ℕ
number low high d = as_integer d >>= in_range low high

abbrev pub server : Data → Option ServerId
server d = option_map (λ n. record { 0 = n }) (number 1 1024 d)

abbrev pub weight : Data → Option ℕ
weight d = number 1 1000 d

-- ENDPOINTS

-- the number that n followed by these digits writes, if it is at most high
abbrev pub digits : ℕ → ℕ → List ℕ → Option ℕ
digits high n [] = Some n
digits high n (c ∷ text) =
    if (nat_le 48 c && nat_le c 57)
    && nat_le (n * 10 + (c - 48)) high then digits high (n * 10 + (c - 48)) text else None

-- a text that isn't empty, and has no leading 0 before other digits
abbrev pub is_plain : List ℕ → Bool
is_plain [] = false
is_plain (c ∷ []) = true
is_plain (c ∷ text) = not (c == 48)

-- a number from 0 to high, in decimal digits
abbrev pub decimal_number : ℕ → List ℕ → Option ℕ
decimal_number high text = if is_plain text then digits high 0 text else None

-- the text before the first such octet, and the text after it
abbrev pub parted : ℕ → List ℕ → Option (List ℕ × List ℕ)
parted mark [] = None
parted mark (c ∷ text) =
    if c == mark then Some ([], text)
    else option_map (λ parts. (c ∷ parts.0, parts.1)) (parted mark text)

-- the number of an octet before a mark, and the text after the mark
abbrev pub octet_before : ℕ → List ℕ → Option (ℕ × List ℕ)
octet_before mark text = do
  parts ← parted mark text
  n ← decimal_number 255 parts.0
  Some (n, parts.1)

-- `A.B.C.D:PORT`; 46 is the point, 58 the colon
abbrev pub endpoint : List ℕ → Option Endpoint
endpoint text = do
  a ← octet_before 46 text
  b ← octet_before 46 a.1
  c ← octet_before 46 b.1
  d ← octet_before 58 c.1
  port ← decimal_number 65535 d.1
  Some (record { addr = ((a.0 * 256 + b.0) * 256 + c.0) * 256 + d.0; port = port })

abbrev pub endpoint_value : Data → Option Endpoint
endpoint_value d = as_str d >>= endpoint

-- a service has a port other than 0
abbrev pub service : Endpoint → Option Vip
service e = if nat_le 1 e.port then Some (record { addr = e.addr; port = e.port }) else None

abbrev pub vip : Data → Option Vip
vip d = endpoint_value d >>= service

-- WORDS

abbrev pub route_of : List ℕ → Option RouteKind
route_of word =
    if bytes_eq word (codes "port") then Some Port
    else if bytes_eq word (codes "turn") then Some Turn
    else None

abbrev pub route : Data → Option RouteKind
route d = as_str d >>= route_of

abbrev pub hop_of : List ℕ → Option Hop
hop_of word =
    if bytes_eq word (codes "direct") then Some Direct
    else if bytes_eq word (codes "chained") then Some Chained
    else None

abbrev pub hop : Data → Option Hop
hop d = as_str d >>= hop_of

-- what a command does; scripts of version 1 weigh no server
abbrev pub verb_of : ℕ → List ℕ → Option Verb
verb_of version word =
    if bytes_eq word (codes "add") then Some Add
    else if bytes_eq word (codes "drain") then Some Drain
    else if bytes_eq word (codes "move") then Some Move
    else if bytes_eq word (codes "close") then Some Close
    else if bytes_eq word (codes "retire") then Some Retire
    else if bytes_eq word (codes "sync") then Some Sync
    else if bytes_eq word (codes "weight") && nat_le 2 version then Some Weigh
    else None

abbrev pub verb : ℕ → Data → Option Verb
verb version d = as_str d >>= verb_of version

-- LISTS

-- what each item reads as, in order
abbrev pub each : {A : Type 0} → (Data → Option A) → Items → Option (List A)
each read no_items = Some []
each read (item d items) = do
  x ← read d
  xs ← each read items
  Some (x ∷ xs)

-- server numbers in rising order, from low on
abbrev pub rising : ℕ → Items → Option (List ServerId)
rising low no_items = Some []
rising low (item d items) = do
  n ← number low 1024 d
  servers ← rising (n + 1) items
  Some (record { 0 = n } ∷ servers)

abbrev pub count : Items → ℕ
count no_items = 0
count (item d items) = count items + 1

-- an array with from low to high items
abbrev pub items_from : ℕ → ℕ → Data → Option Items
items_from low high d =
    as_array d >>= λ items. if nat_le low (count items) && nat_le (count items) high then Some items
    else None

abbrev pub servers : Data → Option (List ServerId)
servers d = items_from 1 1024 d >>= rising 1

abbrev pub vips : Data → Option (List Vip)
vips d = items_from 1 64 d >>= each vip

-- a lag for each mux, in nanoseconds, of at most a day
abbrev pub lags : ℕ → Data → Option (List ℕ)
lags muxes d = items_from muxes muxes d >>= each (number 0 86400000000000)

-- a weight for each server
abbrev pub weights : ℕ → Data → Option (List ℕ)
weights servers d = items_from servers servers d >>= each weight

-- RACKS

-- one of the servers stands in this rack
abbrev pub has_server : ℕ → List ServerId → ℕ → Bool
has_server racks servers rack = list_any (λ s. rack_of racks s == rack) servers

-- each rack has one of the servers
abbrev pub are_filled : ℕ → List ServerId → Bool
are_filled racks servers = list_all (has_server racks servers) (range_with_len 0 racks)

abbrev pub if_filled : List ServerId → ℕ → Option ℕ
if_filled servers racks = if are_filled racks servers then Some racks else None

-- how many racks there are: at most as many as buckets, and each has one of the servers
abbrev pub racks : ℕ → List ServerId → Data → Option ℕ
racks buckets servers d = number 1 (min 64 buckets) d >>= if_filled servers

-- TABLES

abbrev pub is_table : Data → Bool
is_table d = is_some (as_table d)

abbrev pub are_tables : Items → Bool
are_tables no_items = true
are_tables (item d items) = is_table d && are_tables items

-- an array of at most `most` tables, and of nothing else
abbrev pub tables : ℕ → Data → Option Items
tables most d = items_from 0 most d >>= λ items. if are_tables items then Some items else None

-- What the definition gives is sound: a setting in its ranges, commands in their order, refusals of a script.
use Rattle.std.proofs.Common.{◌≡◌, ℕ, ℤ, pos, negsuc, zero, suc, ◌+◌, ◌≤◌, Bool, true, false, ◌&&◌, nat_le, cond, List}
use Rattle.std.proofs.Common.{[], ◌∷◌, length, replicate, Option, Some, None, ok_or, Result, Ok, Err, refl, sym, ap}
use Rattle.std.proofs.Common.{subst, arith, All, min}
use Rattle.std.proofs.Math.Nat.{min-le_left, min-le_right}
use Rattle.std.proofs.lemmas.Bool.{and_parts, leb-true}
use Rattle.std.proofs.lemmas.List.Elements.{All-nil, All-cons}
use Rattle.toml.specs.Data.{Data, as_array, as_integer, as_table, Items, no_items, item, Members}
use Rattle.bm_base.specs.declared.capture.Vip.{Vip}
use Rattle.bm_base.specs.declared.ids.ServerId.{ServerId}
use Rattle.bm_script.specs.declared.endpoint.Endpoint.{Endpoint}
use Rattle.bm_script.specs.declared.fault.Place.{Place}
use Rattle.bm_script.specs.declared.fault.Place.TheVariants as at_
use Rattle.bm_script.specs.declared.fault.ScriptFault.{ScriptFault}
use Rattle.bm_script.specs.declared.key.Key.{Key}
use Rattle.bm_script.specs.declared.key.Key.TheVariants as key
use Rattle.bm_script.specs.Commands.{row_of, rows_from}
use Rattle.bm_script.specs.Faults.{◌>>=◌, IsOfScript, none_unknown, of_optional, only_keys, optional, required, valued}
use Rattle.bm_script.specs.Keys.{first_unknown, row_keys, value_at}
use Rattle.bm_script.specs.Inside.Openings.{IsOpening}
use Rattle.bm_script.specs.Scripts.{opening_of}
use Rattle.bm_script.specs.Values as values
use Rattle.bm_script.proofs.Racked.{one_filled}
use Rattle.bm_table.proofs.SettingLemmas.{IsSetting-plain_setting}
use Rattle.bm_table.specs.declared.setting.FaultRow.{FaultRow}
use Rattle.bm_table.specs.Settings.{plain_setting, seconds, IsFaultRow, IsWithin, RiseFrom}

-- a value that satisfies P, or a fault that a script may have
abbrev pub Meets : {A : Type 0} → (A → Type 0) → Result A ScriptFault → Type 0
Meets P (Ok x) = P x
Meets P (Err fault) = IsOfScript fault

-- any value
abbrev pub Any : {A : Type 0} → A → Type 0
Any x = Unit {0}

module _ {A : Type 0} where
  pub meets-then : {B : Type 0} (P : A → Type 0) (Q : B → Type 0) (r : Result A ScriptFault)
      (f : A → Result B ScriptFault) → Meets P r → ((x : A) → P x → Meets Q (f x)) → Meets Q (r >>= f)
  meets-then P Q (Ok x) f h g = g x h
  meets-then P Q (Err fault) f h g = h

  -- of a value that reads as something, P holds
  abbrev pub Reads : (Data → Option A) → (A → Type 0) → Type 0
  Reads read P = (d : Data) (x : A) → read d ≡ Some x → P x

  pub meets_valued : (place : Place) (key : Key) (P : A → Type 0) (x : Option A) → ((y : A) → x ≡ Some y → P y)
      → Meets P (valued place key x)
  meets_valued place key P None h = tt
  meets_valued place key P (Some y) h = h y refl

  meets-required_of : (place : Place) (key : Key) (read : Data → Option A) (P : A → Type 0) → Reads read P
      → (o : Option Data)
      → Meets P
      (ok_or o (Rattle.bm_script.specs.declared.fault.ScriptFault.TheVariants.Missing place key) >>= λ d. valued place
      key (read d))
  meets-required_of place key read P h None = tt
  meets-required_of place key read P h (Some d) = meets_valued place key P (read d) (h d)

  pub meets-required : (place : Place) (key : Key) (read : Data → Option A) (P : A → Type 0) (inside : Members)
      → Reads read P → Meets P (required place key read inside)
  meets-required place key read P inside h = meets-required_of place key read P h (value_at key inside)

  meets-optional_of : (key : Key) (plain : A) (read : Data → Option A) (P : A → Type 0) → P plain → Reads read P
      → (o : Option Data) → Meets P (of_optional key plain read o)
  meets-optional_of key plain read P p h None = p
  meets-optional_of key plain read P p h (Some d) = meets_valued at_.Top key P (read d) (h d)

  pub meets-optional : (key : Key) (plain : A) (read : Data → Option A) (P : A → Type 0) (inside : Members) → P plain
      → Reads read P → Meets P (optional key plain read inside)
  meets-optional key plain read P inside p h = meets-optional_of key plain read P p h (value_at key inside)

  pub reads_any : (read : Data → Option A) → Reads read Any
  reads_any read d x e = tt

meets-none_unknown : (place : Place) (name : Option (List ℕ)) → Meets Any (none_unknown place name)
meets-none_unknown place None = tt
meets-none_unknown place (Some name) = tt

pub meets-only_keys : (place : Place) (version : ℕ) (keys : List Key) (inside : Members)
    → Meets Any (only_keys place version keys inside)
meets-only_keys place version keys inside = meets-none_unknown place (first_unknown version keys inside)

-- NUMBERS

within-cond : (low high k n : ℕ) (b : Bool) → b ≡ (nat_le low k && nat_le k high) → cond b (Some k) None ≡ Some n
    → IsWithin low high n
within-cond low high k n false is e = absurd cc
within-cond low high k n true is e =
    let (below, above) = and_parts (nat_le low k) (nat_le k high) (sym is) in
    let same : k ≡ n = cc in
    (omega (arith, same, leb-true _ _ below), omega (arith, same, leb-true _ _ above))

within-range : (low high n : ℕ) (z : ℤ) → values.in_range low high z ≡ Some n → IsWithin low high n
within-range low high n (pos k) e = within-cond low high k n (nat_le low k && nat_le k high) refl e
within-range low high n (negsuc k) e = absurd cc

within-integer : (low high n : ℕ) (o : Option ℤ) → values.◌>>=◌ o (values.in_range low high) ≡ Some n
    → IsWithin low high n
within-integer low high n None e = absurd cc
within-integer low high n (Some z) e = within-range low high n z e

pub reads-number : (low high : ℕ) → Reads (values.number low high) (IsWithin low high)
reads-number low high d n e = within-integer low high n (as_integer d) e

-- LISTS

-- a value before a list of values
module _ {A B : Type 0} where
  some-then : (o : Option A) (f : A → Option B) (y : B) → values.◌>>=◌ o f ≡ Some y → (x : A) × (o ≡ Some x)
      × (f x ≡ Some y)
  some-then None f y e = absurd cc
  some-then (Some x) f y e = (x, refl, e)

-- each of these has P, and they are as many as the items
pub record AreRead {A : Type 0} (P : A → Type 0) (items : Items) (xs : List A) : Type 0 where
  pub each : All P xs
  pub count : length xs ≡ values.count items

pub reads-each : {A : Type 0} (read : Data → Option A) (P : A → Type 0) → Reads read P → (items : Items) (xs : List A)
    → values.each read items ≡ Some xs → AreRead P items xs
reads-each {A} read P h no_items xs e =
    let same : [] ≡ xs = cc in subst (AreRead P no_items) same (record { each = All-nil P; count = refl })
reads-each {A} read P h (item d items) xs e =
    let (x, is, after) = some-then (read d) _ xs e in
    let (ys, are, whole) = some-then (values.each read items) _ xs after in
    let rest = reads-each read P h items ys are in
    let same : x ∷ ys ≡ xs = cc in
    subst (AreRead P (item d items)) same
    (record { each = All-cons P x ys (h d x is) rest.each; count = omega (arith, rest.count) })

-- servers that rise from low on, as many as the items
record AreServers (low : ℕ) (items : Items) (ss : List ServerId) : Type 0 where
  rising : RiseFrom low ss
  numbers : All (λ s. s.0 ≤ 1024) ss
  count : length ss ≡ values.count items

RiseFrom-lower : (low n : ℕ) (ss : List ServerId) → low ≤ n → RiseFrom n ss → RiseFrom low ss
RiseFrom-lower low n [] le rise = tt
RiseFrom-lower low n (s ∷ ss) le rise = (omega (arith, rise.0), rise.1)

reads-rising : (low : ℕ) (items : Items) (ss : List ServerId) → values.rising low items ≡ Some ss
    → AreServers low items ss
reads-rising low no_items ss e =
    let same : [] ≡ ss =
    cc in subst (AreServers low no_items) same
    (record { rising = tt; numbers = All-nil (λ (s : ServerId). s.0 ≤ 1024); count = refl })
reads-rising low (item d items) ss e =
    let (n, is, after) = some-then (values.number low 1024 d) _ ss e in
    let (rest, are, whole) = some-then (values.rising (n + 1) items) _ ss after in
    let more = reads-rising (n + 1) items rest are in
    let range = reads-number low 1024 d n is in
    let first : ServerId = record { 0 = n } in
    let same : first ∷ rest ≡ ss = cc in
    subst (AreServers low (item d items)) same (record {
      rising = (range.0, more.rising);
      numbers = All-cons (λ (s : ServerId). s.0 ≤ 1024) first rest range.1 more.numbers;
      count = omega (arith, more.count);
    })

count-cond : (low high : ℕ) (found items : Items) (b : Bool)
    → b ≡ (nat_le low (values.count found) && nat_le (values.count found) high) → cond b (Some found) None ≡ Some items
    → IsWithin low high (values.count items)
count-cond low high found items false is e = absurd cc
count-cond low high found items true is e =
    let (below, above) = and_parts (nat_le low (values.count found)) (nat_le (values.count found) high) (sym is) in
    let same : found ≡ items = cc in
    subst (λ (xs : Items). IsWithin low high (values.count xs)) same (leb-true _ _ below, leb-true _ _ above)

pub reads-items_from : (low high : ℕ)
    → Reads (values.items_from low high) (λ items. IsWithin low high (values.count items))
reads-items_from low high d items e =
    let (found, is, after) = some-then (as_array d) _ items e in
    count-cond low high found items (nat_le low (values.count found) && nat_le (values.count found) high) refl after

pub reads-servers : Reads values.servers (λ ss. IsWithin 1 1024 (length ss) × RiseFrom 1 ss × All (λ s. s.0 ≤ 1024) ss)
reads-servers d ss e =
    let (items, is, after) = some-then (values.items_from 1 1024 d) (values.rising 1) ss e in
    let few = reads-items_from 1 1024 d items is in
    let read = reads-rising 1 items ss after in
    (subst (IsWithin 1 1024) (sym read.count) few, read.rising, read.numbers)

service-cond : (e : Endpoint) (v : Vip) (b : Bool) → b ≡ nat_le 1 e.port
    → cond b (Some (record { addr = e.addr; port = e.port })) None ≡ Some v → 1 ≤ v.port
service-cond e v false is h = absurd cc
service-cond e v true is h =
    let served : Vip = record { addr = e.addr; port = e.port } in
    let same : served ≡ v = cc in
    subst (λ (w : Vip). 1 ≤ w.port) same (leb-true _ _ (sym is))

reads-vip : Reads values.vip (λ v. 1 ≤ v.port)
reads-vip d v e =
    let (end, is, after) = some-then (values.endpoint_value d) values.service v e in
    service-cond end v (nat_le 1 end.port) refl after

pub reads-vips : Reads values.vips (λ vs. IsWithin 1 64 (length vs) × All (λ v. 1 ≤ v.port) vs)
reads-vips d vs e =
    let (items, is, after) = some-then (values.items_from 1 64 d) (values.each values.vip) vs e in
    let few = reads-items_from 1 64 d items is in
    let read = reads-each values.vip (λ v. 1 ≤ v.port) reads-vip items vs after in
    (subst (IsWithin 1 64) (sym read.count) few, read.each)

-- as many lags as muxes, each of at most a day
abbrev pub AreLags : ℕ → List ℕ → Type 0
AreLags muxes lags = (length lags ≡ muxes) × All (λ lag. lag ≤ seconds 86400) lags

reads-lag : Reads (values.number 0 86400000000000) (λ lag. lag ≤ seconds 86400)
reads-lag d lag e = (reads-number 0 86400000000000 d lag e).1

pub reads-lags : (muxes : ℕ) → Reads (values.lags muxes) (AreLags muxes)
reads-lags muxes d lags e =
    let (items, is, after) =
    some-then (values.items_from muxes muxes d) (values.each (values.number 0 86400000000000)) lags e in
    let many = reads-items_from muxes muxes d items is in
    let read = reads-each (values.number 0 86400000000000) (λ lag. lag ≤ seconds 86400) reads-lag items lags after in
    (omega (arith, many.0, many.1, read.count), read.each)

no_lags : (muxes : ℕ) → AreLags muxes (replicate muxes 0)
no_lags zero = (refl, All-nil (λ (lag : ℕ). lag ≤ seconds 86400))
no_lags (suc n) =
    let more =
    no_lags n in (ap suc more.0, All-cons (λ (lag : ℕ). lag ≤ seconds 86400) 0 (replicate n 0) (omega arith) more.1)

-- as many weights as servers
abbrev pub AreWeights : ℕ → List ℕ → Type 0
AreWeights servers weights = (length weights ≡ servers) × All (IsWithin 1 1000) weights

reads-weights : (servers : ℕ) → Reads (values.weights servers) (AreWeights servers)
reads-weights servers d weights e =
    let (items, is, after) = some-then (values.items_from servers servers d) (values.each values.weight) weights e in
    let many = reads-items_from servers servers d items is in
    let read = reads-each values.weight (IsWithin 1 1000) (reads-number 1 1000) items weights after in
    (omega (arith, many.0, many.1, read.count), read.each)

plain_weights : (servers : ℕ) → AreWeights servers (replicate servers 1)
plain_weights zero = (refl, All-nil (IsWithin 1 1000))
plain_weights (suc n) =
    let more = plain_weights n in
    (ap suc more.0, All-cons (IsWithin 1 1000) 1 (replicate n 1) (omega arith, omega arith) more.1)

-- at most as many racks as buckets, each with one of the servers
record AreRacks (buckets : ℕ) (servers : List ServerId) (racks : ℕ) : Type 0 where
  within : IsWithin 1 64 racks
  few : racks ≤ buckets
  filled : values.are_filled racks servers ≡ true

filled-cond : (buckets : ℕ) (servers : List ServerId) (k racks : ℕ) (filled : Bool)
    → filled ≡ values.are_filled k servers → IsWithin 1 (min 64 buckets) k → cond filled (Some k) None ≡ Some racks
    → AreRacks buckets servers racks
filled-cond buckets servers k racks false is range e = absurd cc
filled-cond buckets servers k racks true is range e =
    let same : k ≡ racks = cc in
    subst (AreRacks buckets servers) same (record {
      within = (range.0, omega (arith, range.1, min-le_left 64 buckets));
      few = omega (arith, range.1, min-le_right 64 buckets);
      filled = sym is;
    })

reads-racks : (buckets : ℕ) (servers : List ServerId) → Reads (values.racks buckets servers) (AreRacks buckets servers)
reads-racks buckets servers d racks e =
    let (k, is, after) = some-then (values.number 1 (min 64 buckets) d) (values.if_filled servers) racks e in
    filled-cond buckets servers k racks (values.are_filled k servers) refl (reads-number 1 (min 64 buckets) d k is) after

one_rack : (buckets : ℕ) (servers : List ServerId) → 1 ≤ buckets → 1 ≤ length servers → AreRacks buckets servers 1
one_rack buckets servers some_bucket some_server = record {
  within = (omega arith, omega arith);
  few = some_bucket;
  filled = one_filled servers some_server;
}

-- THE OPENING

pub opening-sound : (inside : Members) → Meets IsOpening (opening_of inside)
opening-sound inside =
    meets-then (IsWithin 1 3) IsOpening _ _
    (meets-optional key.Version 1 (values.number 1 3) (IsWithin 1 3) inside (omega arith, omega arith)
    (reads-number 1 3)) λ version _.
    meets-then (IsWithin 1 65536) IsOpening _ _
    (meets-optional key.Buckets plain_setting.buckets (values.number 1 65536) (IsWithin 1 65536) inside
    IsSetting-plain_setting.buckets (reads-number 1 65536)) λ buckets is_buckets.
    meets-then (λ ss. IsWithin 1 1024 (length ss) × RiseFrom 1 ss × All (λ s. s.0 ≤ 1024) ss) IsOpening _ _
    (meets-optional key.Servers plain_setting.servers values.servers _ inside
    (IsSetting-plain_setting.servers, IsSetting-plain_setting.rising, IsSetting-plain_setting.numbers)
    reads-servers) λ servers are_servers.
    meets-then (AreWeights (length servers)) IsOpening _ _
    (meets-optional key.Weights (replicate (length servers) 1) (values.weights (length servers))
    (AreWeights (length servers)) inside (plain_weights (length servers)) (reads-weights (length servers))) λ weights
    are_weights.
    meets-then (AreRacks buckets servers) IsOpening _ _
    (meets-optional key.Racks plain_setting.racks (values.racks buckets servers) (AreRacks buckets servers) inside
    (one_rack buckets servers is_buckets.0 are_servers.0.0) (reads-racks buckets servers)) λ racks are_racks.
    meets-then (IsWithin 1 64) IsOpening _ _
    (meets-optional key.Muxes plain_setting.muxes (values.number 1 64) (IsWithin 1 64) inside
    IsSetting-plain_setting.muxes (reads-number 1 64)) λ muxes is_muxes.
    meets-then (IsWithin 1 64) IsOpening _ _
    (meets-optional key.Shards plain_setting.shards (values.number 1 64) (IsWithin 1 64) inside
    IsSetting-plain_setting.shards (reads-number 1 64)) λ shards is_shards.
    meets-then (IsWithin 1 65536) IsOpening _ _
    (meets-optional key.Capacity plain_setting.capacity (values.number 1 65536) (IsWithin 1 65536) inside
    IsSetting-plain_setting.capacity (reads-number 1 65536)) λ capacity is_capacity.
    meets-then (IsWithin 1 86400) IsOpening _ _
    (meets-optional key.Timeout 240 (values.number 1 86400) (IsWithin 1 86400) inside (omega arith, omega arith)
    (reads-number 1 86400)) λ timeout is_timeout.
    meets-then (λ vs. IsWithin 1 64 (length vs) × All (λ v. 1 ≤ v.port) vs) IsOpening _ _
    (meets-optional key.Vips plain_setting.vips values.vips _ inside
    (IsSetting-plain_setting.vips, IsSetting-plain_setting.ports) reads-vips) λ vips are_vips.
    meets-then Any IsOpening _ _
    (meets-optional key.Route plain_setting.route values.route Any inside tt (reads_any values.route)) λ route _.
    meets-then (AreLags muxes) IsOpening _ _
    (meets-optional key.Lags (replicate muxes 0) (values.lags muxes) (AreLags muxes) inside (no_lags muxes)
    (reads-lags muxes)) λ lags are_lags.
    record {
      count = are_weights.0;
      weights = are_weights.1;
      few = are_racks.few;
      filled = are_racks.filled;
      setting = record {
        buckets = is_buckets;
        servers = are_servers.0;
        rising = are_servers.1;
        numbers = are_servers.2;
        racks = are_racks.within;
        muxes = is_muxes;
        shards = is_shards;
        capacity = is_capacity;
        timeout = (omega (arith, is_timeout.0), omega (arith, is_timeout.1));
        vips = are_vips.0;
        ports = are_vips.1;
        lag_of_each = are_lags.0;
        lags = are_lags.1;
        rows = omega arith;
        faults = All-nil IsFaultRow;
      };
    }

-- FAULT ROWS

row-sound : (n : ℕ) (inside : Members) → Meets IsFaultRow (row_of n inside)
row-sound n inside =
    meets-then Any IsFaultRow _ _ (meets-only_keys (at_.Fault n) 1 row_keys inside) λ only _.
    meets-then (IsWithin 1 200000) IsFaultRow _ _
    (meets-required (at_.Fault n) key.Packet (values.number 1 200000) (IsWithin 1 200000) inside
    (reads-number 1 200000)) λ packet is_packet.
    meets-then Any IsFaultRow _ _ (meets-required (at_.Fault n) key.Hop values.hop Any inside (reads_any values.hop))
    λ hop _.
    meets-then (IsWithin 0 3) IsFaultRow _ _
    (meets-required (at_.Fault n) key.Copies (values.number 0 3) (IsWithin 0 3) inside (reads-number 0 3)) λ copies
    is_copies.
    meets-then (IsWithin 0 60000000000) IsFaultRow _ _
    (meets-required (at_.Fault n) key.Delay (values.number 0 60000000000) (IsWithin 0 60000000000) inside
    (reads-number 0 60000000000)) λ delay is_delay.
    record { packet = is_packet; copies = is_copies.1; delay = is_delay.1 }

-- impairments in their ranges, as many as the tables
abbrev pub AreRows : Items → List FaultRow → Type 0
AreRows items rows = All IsFaultRow rows × (length rows ≡ values.count items)

pub rows-sound : (n : ℕ) (items : Items) → Meets (AreRows items) (rows_from n items)
rows-sound n no_items = (All-nil IsFaultRow, refl)
rows-sound n (item d items) =
    meets-then Any (AreRows (item d items)) _ _ (meets_valued at_.Top key.Fault Any (as_table d) (λ y e. tt)) λ inside
    _.
    meets-then IsFaultRow (AreRows (item d items)) _ _ (row-sound n inside) λ row is_row.
    meets-then (AreRows items) (AreRows (item d items)) _ _ (rows-sound (n + 1) items) λ rows are_rows.
    (All-cons IsFaultRow row rows is_row are_rows.0, omega (arith, are_rows.1))

tables-cond : (most : ℕ) (found items : Items) (b : Bool) → values.count found ≤ most
    → cond b (Some found) None ≡ Some items → values.count items ≤ most
tables-cond most found items false few e = absurd cc
tables-cond most found items true few e =
    let same : found ≡ items = cc in subst (λ (xs : Items). values.count xs ≤ most) same few

reads-tables : (most : ℕ) → Reads (values.tables most) (λ items. values.count items ≤ most)
reads-tables most d items e =
    let (found, is, after) = some-then (values.items_from 0 most d) _ items e in
    tables-cond most found items (values.are_tables found) (reads-items_from 0 most d found is).1 after

pub meets-tables : (key : Key) (most : ℕ) (inside : Members)
    → Meets (λ items. values.count items ≤ most) (optional key no_items (values.tables most) inside)
meets-tables key most inside =
    meets-optional key no_items (values.tables most) (λ items. values.count items ≤ most) inside (omega arith)
    (reads-tables most)

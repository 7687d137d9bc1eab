-- The spelling of a valid tag has no fault, and says the tag.
use Rattle.std.proofs.Common.{◌≡◌, ℕ, ◌+◌, ◌-◌, ◌%◌, ◌^◌, ◌<◌, ◌≤◌, true, Bool, false, List, ◌++◌, length, drop}
use Rattle.std.proofs.Common.{Option, Some, None, Ok, refl, ap, ap₂, sym, ◌∙◌, arith, length-append}
use Rattle.std.specs.Prelude.{◌==◌, is_none, is_some, nat_lt, IfSome, IsSomeAnd}
use Rattle.std.proofs.lemmas.Bool.Decides.{nat_tests}
use Rattle.std.proofs.lemmas.Option.{none-some, same_Some}
use Rattle.byteorder.specs.Numbers.{big_number-reads_back}
use Rattle.bm_base.specs.declared.ids.ServerId.{ServerId}
use Rattle.bm_base.specs.declared.label.Hop.{Hop}
use Rattle.bm_base.specs.declared.label.Hop.TheVariants.{Direct, Chained, Twice}
use Rattle.bm_base.specs.declared.label.Tag.{Tag}
use Rattle.bm_ipv4.specs.Checksum.{checksum_of}
use Rattle.bm_ipv4.specs.Fields.{octet_at, u16_at, u32_at}
use Rattle.bm_base.specs.Addresses.{mux_address, server_address, server_at}
use Rattle.bm_base.specs.Labels.{hop_number, tag_for}
use Rattle.bm_base.specs.declared.label.Label.{Label}
use Rattle.bm_base.proofs.Entries.{AreEarly}
use Rattle.bm_base.specs.declared.label.Past.{Past}
use Rattle.bm_encap.specs.Faults.{bad_address, bad_stamp, has_older, has_prev, hop_of, is_older_wrong, is_prev_wrong}
use Rattle.bm_encap.specs.Faults.{past_at, server_of_address, tag_in, u64_at, unwrapped, without_sum}
use Rattle.bm_encap.specs.Spellings.{fields, header, past_address, past_count, past_stamp, spelled, spelling}
use Rattle.bm_encap.specs.Inside.Spellings.{FitsFields}
use Rattle.bm_base.specs.Tags.{GoesRight, IsServer, IsTag}
use Rattle.bm_encap.proofs.Faultless.{reads}
use Rattle.bm_encap.proofs.Says.{HasOctets, Says, faultless_from, server_there}
use Rattle.bm_encap.proofs.Valid.{Found, blank}
use Rattle.bm_encap.specs.Faults.{option_octets, outer_octets}

-- WHAT STANDS WHERE

pub record Reads (tag : Tag) (total sum : ℕ) (octets inner : List ℕ) : Type 0 where
  pub outer : HasOctets octets outer_octets
  pub total_is : u16_at octets 2 ≡ total
  pub sum_is : u16_at octets 10 ≡ sum
  pub mux_from : u32_at octets 12 ≡ mux_address tag.mux
  pub dest : u32_at octets 16 ≡ server_address tag.dest
  pub option : HasOctets octets option_octets
  pub hop : octet_at octets 22 ≡ hop_number tag.hop
  pub count : octet_at octets 23 ≡ past_count tag.prev tag.older
  pub prev : u32_at octets 24 ≡ past_address tag.prev
  pub prev_stamp : u64_at octets 28 ≡ past_stamp tag.prev
  pub older : u32_at octets 36 ≡ past_address tag.older
  pub older_stamp : u64_at octets 40 ≡ past_stamp tag.older
  pub version : u32_at octets 48 ≡ tag.version.0
  pub mux : u16_at octets 52 ≡ tag.mux.0
  pub spare : u16_at octets 54 ≡ 0
  pub rest : drop 56 octets ≡ inner

hop_octet : (hop : Hop) → hop_number hop % 256 ≡ hop_number hop
hop_octet Direct = refl
hop_octet Chained = refl
hop_octet Twice = refl

count_octet : (prev older : Option Past) → past_count prev older % 256 ≡ past_count prev older
count_octet None None = refl
count_octet None (Some o) = refl
count_octet (Some p) None = refl
count_octet (Some p) (Some o) = refl

address_fits : (past : Option Past) → IfSome past (λ p. IsServer p.server) → past_address past < 256 ^ 4
address_fits None is = omega arith
address_fits (Some p) is = omega (arith, is.0, is.1)

older_server : (prev older : Option Past)
    → IfSome older (λ o. IsServer o.server × IsSomeAnd prev (λ p. o.server ≡ p.server → ⊥))
    → IfSome older (λ o. IsServer o.server)
older_server prev None is = tt
older_server prev (Some o) is = is.0

header_reads : (tag : Tag) (total sum : ℕ) (inner : List ℕ) → IsTag tag → FitsFields tag → total < 65536 → sum < 65536
    → Reads tag total sum (header tag total sum ++ inner) inner
unfolding header u16_at u32_at u64_at
header_reads tag total sum inner is fits t s =
    let octets : List ℕ = spelled (fields tag total sum) ++ inner in
    record {
      outer = (refl, (refl, (refl, (refl, (refl, (refl, (refl, (refl, tt))))))));
      total_is = big_number-reads_back 2 total (drop 4 octets) (omega (arith, t));
      sum_is = big_number-reads_back 2 sum (drop 12 octets) (omega (arith, s));
      mux_from = big_number-reads_back 4 (mux_address tag.mux) (drop 16 octets) (omega (arith, is.mux));
      dest = big_number-reads_back 4 (server_address tag.dest) (drop 20 octets) (omega (arith, is.dest.1));
      option = (refl, (refl, tt));
      hop = hop_octet tag.hop;
      count = count_octet tag.prev tag.older;
      prev = big_number-reads_back 4 (past_address tag.prev) (drop 28 octets) (address_fits tag.prev is.prev);
      prev_stamp = big_number-reads_back 8 (past_stamp tag.prev) (drop 36 octets) (omega (arith, fits.0));
      older = big_number-reads_back 4 (past_address tag.older) (drop 40 octets)
          (address_fits tag.older (older_server tag.prev tag.older is.older));
      older_stamp = big_number-reads_back 8 (past_stamp tag.older) (drop 48 octets) (omega (arith, fits.1));
      version = big_number-reads_back 4 tag.version.0 (drop 52 octets) (omega (arith, fits.2));
      mux = big_number-reads_back 2 tag.mux.0 (drop 54 octets) (omega (arith, is.mux));
      spare = refl;
      rest = refl;
    }

header_length : (tag : Tag) (total sum : ℕ) → length (header tag total sum) ≡ 56
unfolding header
header_length tag total sum = refl

-- WHAT THE NUMBERS OF A VALID TAG SAY

-- the numbers of a previous server have no fault, where its address is right beside the others
slot_passes : (past : Option Past) (wrong : Bool) → IfSome past (λ p. IsServer p.server)
    → (is_some past ≡ true → wrong ≡ false)
    → (bad_address (is_some past) (past_address past) wrong ≡ false) × (bad_stamp (is_some past) (past_stamp past) ≡ false)
slot_passes None wrong server right = (refl, refl)
slot_passes (Some p) wrong server right =
    let there : is_none (server_at (server_address p.server)) ≡ false =
    server_there (server_address p.server) (omega (arith, server.0)) (omega (arith, server.1)) in
    (rw (there, right refl) refl, refl)

differ : (s t : ServerId) → (s ≡ t → ⊥) → (server_address s == server_address t) ≡ false
differ s t apart = grind (arith, nat_tests, λ (e : s.0 ≡ t.0). apart (ap (λ (n : ℕ). record { 0 = n }) e))

equal : (s t : ServerId) → s ≡ t → (server_address s == server_address t) ≡ true
equal s t same = let e : s.0 ≡ t.0 = ap (λ (x : ServerId). x.0) same in grind (arith, nat_tests, e)

prev_right : (hop : Hop) (prev older : Option Past) (dest : ServerId) → GoesRight hop dest prev older
    → is_some prev ≡ true → is_prev_wrong hop (past_address prev) (server_address dest) ≡ false
prev_right hop None older dest right there = absurd (cc)
prev_right Direct (Some p) older dest right there =
    differ p.server dest (λ e. right (ap (λ (x : ServerId). Some x) e))
prev_right Chained (Some p) older dest right there = rw (equal p.server dest (same_Some _ _ right)) refl
prev_right Twice (Some p) older dest right there = refl

older_right : (hop : Hop) (prev older : Option Past) (dest : ServerId) → GoesRight hop dest prev older
    → IfSome older (λ o. IsServer o.server × IsSomeAnd prev (λ p. o.server ≡ p.server → ⊥))
    → is_some older ≡ true
    → is_older_wrong hop (past_address older) (past_address prev) (server_address dest) ≡ false
older_right hop prev None dest right is there = absurd (cc)
older_right hop None (Some o) dest right is there = absurd is.1
older_right Direct (Some p) (Some o) dest right is there = differ o.server p.server is.1
older_right Chained (Some p) (Some o) dest right is there = differ o.server p.server is.1
older_right Twice (Some p) (Some o) dest right is there =
    rw (differ o.server p.server is.1, equal o.server dest (same_Some _ _ right)) refl

-- the numbers say which servers are there
pub record IsNumbered (hop : Hop) (prev older : Option Past) : Type 0 where
  pub few : past_count prev older ≤ 2
  pub far : hop_number hop ≤ past_count prev older
  pub first : nat_lt 0 (past_count prev older) ≡ is_some prev
  pub second : nat_lt 1 (past_count prev older) ≡ is_some older

numbered : (hop : Hop) (prev older : Option Past) (dest : ServerId) → GoesRight hop dest prev older
    → IfSome older (λ o. IsServer o.server × IsSomeAnd prev (λ p. o.server ≡ p.server → ⊥)) → IsNumbered hop prev older
numbered hop None (Some o) dest right is = absurd is.1
numbered Direct None None dest right is = record { few = omega arith; far = omega arith; first = refl; second = refl }
numbered Direct (Some p) None dest right is = record { few = omega arith; far = omega arith; first = refl; second = refl }
numbered Direct (Some p) (Some o) dest right is =
    record { few = omega arith; far = omega arith; first = refl; second = refl }
numbered Chained None None dest right is = absurd (none-some dest right)
numbered Chained (Some p) None dest right is = record { few = omega arith; far = omega arith; first = refl; second = refl }
numbered Chained (Some p) (Some o) dest right is =
    record { few = omega arith; far = omega arith; first = refl; second = refl }
numbered Twice None None dest right is = absurd (none-some dest right)
numbered Twice (Some p) None dest right is = absurd (none-some dest right)
numbered Twice (Some p) (Some o) dest right is =
    record { few = omega arith; far = omega arith; first = refl; second = refl }

hop_again : (hop : Hop) → hop_of (hop_number hop) ≡ hop
hop_again Direct = refl
hop_again Chained = refl
hop_again Twice = refl

server_again : (s : ServerId) → server_of_address (server_address s) ≡ s
server_again s = let e : 0xac10_0000 + s.0 - 0xac10_0000 ≡ s.0 = omega arith in ap (λ (n : ℕ). record { 0 = n }) e

past_again : (past : Option Past) → Found (is_some past) (past_address past) (past_stamp past) ≡ past
past_again None = refl
past_again (Some p) = ap (λ (x : ServerId). Some (record { server = x; stamp = p.stamp })) (server_again p.server)

-- THE SPELLING IS READ

spelling_says : (tag : Tag) (total : ℕ) (octets inner : List ℕ) → IsTag tag → 56 ≤ length octets → total ≡ length octets
    → checksum_of (without_sum octets) ≡ u16_at octets 10 → (sum : ℕ) → Reads tag total sum octets inner → Says octets
spelling_says tag total octets inner is long n sums sum reads =
    let numbers = numbered tag.hop tag.prev tag.older tag.dest is.hop is.older in
    let hop : hop_of (octet_at octets 22) ≡ tag.hop = ap hop_of reads.hop ∙ hop_again tag.hop in
    let first : has_prev octets ≡ is_some tag.prev = ap (nat_lt 0) reads.count ∙ numbers.first in
    let second : has_older octets ≡ is_some tag.older = ap (nat_lt 1) reads.count ∙ numbers.second in
    let prev = slot_passes tag.prev _ is.prev (prev_right tag.hop tag.prev tag.older tag.dest is.hop) in
    let older =
    slot_passes tag.older _ (older_server tag.prev tag.older is.older)
    (older_right tag.hop tag.prev tag.older tag.dest is.hop is.older) in
    record {
      long = long;
      outer = reads.outer;
      mux = (omega (arith, reads.mux_from, is.mux), omega (arith, reads.mux_from, is.mux));
      dest = (omega (arith, reads.dest, is.dest.0), omega (arith, reads.dest, is.dest.1));
      sum = sums;
      option = reads.option;
      hop = omega (arith, reads.hop, numbers.far, numbers.few);
      count = (omega (arith, reads.count, numbers.few), omega (arith, reads.hop, reads.count, numbers.far));
      prev = rw (first, hop, reads.prev, reads.prev_stamp, reads.dest) prev;
      older = rw (second, hop, reads.older, reads.older_stamp, reads.prev, reads.dest) older;
      same_mux = omega (arith, reads.mux_from, reads.mux);
      spare = reads.spare;
      total = reads.total_is ∙ n;
    }

same_tag : (a b : Tag) → a.hop ≡ b.hop → a.dest ≡ b.dest → a.prev ≡ b.prev → a.older ≡ b.older
    → a.version.0 ≡ b.version.0 → a.mux.0 ≡ b.mux.0 → a ≡ b
same_tag a b hop dest prev older version mux =
    λ i. record {
      hop = hop i;
      dest = dest i;
      prev = prev i;
      older = older i;
      version = record { 0 = version i };
      mux = record { 0 = mux i };
    }

-- a checksum fits two octets
sum_below : (octets : List ℕ) → checksum_of octets < 65536
unfolding checksum_of
sum_below octets = omega arith

tag_read : (tag : Tag) (total sum : ℕ) (octets inner : List ℕ) → IsTag tag → Reads tag total sum octets inner
    → tag_in octets ≡ tag
tag_read tag total sum octets inner is reads =
    let hop : hop_of (octet_at octets 22) ≡ tag.hop = ap hop_of reads.hop ∙ hop_again tag.hop in
    let dest : server_of_address (u32_at octets 16) ≡ tag.dest =
    ap server_of_address reads.dest ∙ server_again tag.dest in
    let numbers = numbered tag.hop tag.prev tag.older tag.dest is.hop is.older in
    let first : has_prev octets ≡ is_some tag.prev = ap (nat_lt 0) reads.count ∙ numbers.first in
    let second : has_older octets ≡ is_some tag.older = ap (nat_lt 1) reads.count ∙ numbers.second in
    let prev : past_at octets 24 (has_prev octets) ≡ tag.prev =
    (λ i. Found (first i) (reads.prev i) (reads.prev_stamp i)) ∙ past_again tag.prev in
    let older : past_at octets 36 (has_older octets) ≡ tag.older =
    (λ i. Found (second i) (reads.older i) (reads.older_stamp i)) ∙ past_again tag.older in
    same_tag (tag_in octets) tag hop dest prev older reads.version reads.mux

pub spelling_read : (tag : Tag) (inner : List ℕ) → IsTag tag → FitsFields tag → length inner ≤ 65479 → unwrapped (spelling tag inner) ≡ Ok (tag, inner)
spelling_read tag inner is fits few =
    let n : ℕ = 56 + length inner in
    let sum : ℕ = checksum_of (header tag n 0) in
    let octets : List ℕ = header tag n sum ++ inner in
    let long : length octets ≡ n =
    length-append (header tag n sum) inner ∙ ap (λ k. k + length inner) (header_length tag n sum) in
    let r : Reads tag n sum octets inner =
    header_reads tag n sum inner is fits (omega (arith, few)) (sum_below (header tag n 0)) in
    let sums : checksum_of (without_sum octets) ≡ u16_at octets 10 =
    ap checksum_of (blank tag n sum inner) ∙ sym r.sum_is in
    let says : Says octets = spelling_says tag n octets inner is (omega (arith, long)) (sym long) sums sum r in
    reads octets (faultless_from octets says)
    ∙ ap₂ (λ (t : Tag) (i : List ℕ). Ok (t, i)) (tag_read tag n sum octets inner is r) r.rest

-- where the stamps of a tag's label are early, they fit
stamp_fits : (past : Option Past) (top : ℕ) → top < 2 ^ 64 → IfSome past (λ p. p.stamp.0 ≤ top)
    → past_stamp past < 2 ^ 64
stamp_fits None top low early = omega arith
stamp_fits (Some p) top low early = omega arith

pub early_fits : (l : Label) (hop : Hop) (dest : ServerId) (top : ℕ) → top < 2 ^ 64 → AreEarly top l.entry
    → l.version.0 < 2 ^ 32 → FitsFields (tag_for l hop dest)
early_fits l hop dest top low early version =
    (stamp_fits l.entry.prev top low early.prev, stamp_fits l.entry.older top low early.older, version)

-- What carriers carry, and where they go on to.
use Rattle.std.proofs.Common.{◌≡◌, ℕ, zero, suc, ◌<◌, ◌≤◌, List, [], ◌∷◌, ◌++◌, length, take, drop, Some}
use Rattle.std.proofs.Common.{Result, Ok, Err, refl, sym, ap, subst, ◌∙◌, arith}
use Rattle.std.specs.Prelude.{All, MatchResult}
use Rattle.std.specs.Int.{byte_at, bytes_high_first}
use Rattle.std.specs.Result.{result_ok}
use Rattle.std.proofs.Math.Seq.{take-append_seam}
use Rattle.std.proofs.lemmas.List.Elements.{All-from_get_or}
use Rattle.bm_base.specs.declared.ids.ServerId.{ServerId}
use Rattle.bm_base.specs.declared.flow.Segment.{Segment}
use Rattle.bm_base.proofs.Entries.{IsPassed}
use Rattle.bm_base.proofs.Hops.{has_past}
use Rattle.bm_base.specs.Labels.{entry_of, onward}
use Rattle.bm_base.specs.Inside.Labels.{later_hop}
use Rattle.bm_base.specs.declared.label.Tag.{Tag}
use Rattle.bm_base.specs.Tags.{IsTag}
use Rattle.bm_tcp.specs.Packets.{ReadsAs}
use Rattle.bm_encap.specs.declared.fault.EncapFault.{EncapFault}
use Rattle.bm_encap.specs.Faults.{chained, chained_from, next_from, next_hop, spelling_of, unwrapped}
use Rattle.bm_encap.specs.Spellings.{fields, header, spelled, spelling}
use Rattle.bm_encap.specs.Inside.Spellings.{FitsFields}
use Rattle.bm_encap.proofs.Faultless.{read_is}
use Rattle.bm_encap.proofs.NumberLemmas.{AreOctets, octets_from}
use Rattle.bm_encap.proofs.Spelled.{spelling_read}
use Rattle.bm_shard.specs.declared.fault.HandleFault.{HandleFault}
use Rattle.bm_shard.proofs.Copies.{copy_spelled}
use Rattle.bm_replay.specs.Inside.Carriers.{carried, next_tag}

-- A CARRIER THAT SPELLS A TAG

pub carries : (tag : Tag) (packet : List ℕ) (s : Segment) → IsTag tag → FitsFields tag → length packet ≤ 65479 → ReadsAs packet s
    → carried tag.dest (spelling tag packet) ≡ Some (tag, s)
carries tag packet s is fits few reads =
    ap (λ (r : Result (Tag × Segment) HandleFault). result_ok r) (copy_spelled tag packet s is fits few reads)

pub goes_on : (tag : Tag) (packet : List ℕ) (to : ServerId) → IsTag tag → FitsFields tag → length packet ≤ 65479
    → IsPassed (entry_of tag) tag.hop to
    → next_tag (spelling tag packet) ≡ Some (record tag { hop = later_hop tag.hop; dest = to })
goes_on tag packet to is fits few passed =
    let p = has_past (onward (entry_of tag) tag.hop) to passed.onto in
    ap (λ (r : Result (Tag × List ℕ) EncapFault). result_ok (next_from r)) (spelling_read tag packet is fits few)
    ∙ rw (passed.next, p.1) (ap (λ (s : ServerId). Some (record tag { hop = later_hop tag.hop; dest = s })) p.2)

-- OCTETS ARE BELOW 256

octets_more : (xs ys : List ℕ) → AreOctets xs → AreOctets ys → AreOctets (xs ++ ys)
octets_more [] ys front more i = more i
octets_more (x ∷ xs) ys front more zero = front 0
octets_more (x ∷ xs) ys front more (suc i) = octets_more xs ys (λ k. front (suc k)) more i

byte_below : (k v : ℕ) → byte_at k v < 256
byte_below zero v = omega arith
byte_below (suc k) v = omega arith

octets_of_number : (n v : ℕ) → AreOctets (bytes_high_first n v)
octets_of_number zero v i = omega arith
octets_of_number (suc n) v zero = byte_below n v
octets_of_number (suc n) v (suc i) = octets_of_number n v i

octets_of_fields : (fields : List (ℕ × ℕ)) → AreOctets (spelled fields)
octets_of_fields [] = λ i. omega arith
octets_of_fields (f ∷ fields) =
    octets_more (bytes_high_first f.0 f.1) (spelled fields) (octets_of_number f.0 f.1) (octets_of_fields fields)

octets_of_header : (tag : Tag) (total sum : ℕ) → AreOctets (header tag total sum)
unfolding header
octets_of_header tag total sum = octets_of_fields (fields tag total sum)

pub octets_spelled : (tag : Tag) (inner : List ℕ) → AreOctets inner → AreOctets (spelling tag inner)
octets_spelled tag inner are = octets_more (header tag _ _) inner (octets_of_header tag _ _) are

tail_below : (x : ℕ) (xs : List ℕ) → All (λ octet. octet < 256) (x ∷ xs) → All (λ octet. octet < 256) xs
tail_below x xs all k d inside = all (suc k) d (omega (arith, inside))

-- the invariant of carriers says the same
pub octets_by : (xs : List ℕ) → All (λ octet. octet < 256) xs → AreOctets xs
octets_by [] all i = omega arith
octets_by (x ∷ xs) all zero = all 0 0 (omega arith)
octets_by (x ∷ xs) all (suc i) = octets_by xs (tail_below x xs all) i

pub all_below : (xs : List ℕ) → AreOctets xs → All (λ octet. octet < 256) xs
all_below xs are = All-from_get_or (λ octet. octet < 256) xs 0 (λ i inside. are i)

-- OCTETS THAT ARE TURNED TO THE NEXT HOP ARE BELOW 256

inner_below : (octets : List ℕ) (read : Tag × List ℕ) → AreOctets octets → unwrapped octets ≡ Ok read
    → AreOctets read.1
inner_below octets read are is =
    subst (λ (x : Tag × List ℕ). AreOctets x.1) (sym (read_is octets read is).1) (octets_from 56 octets are)

spelling_below : (n : Result Tag EncapFault) (inner new : List ℕ) → AreOctets inner → spelling_of n inner ≡ Ok new
    → AreOctets new
spelling_below (Err fault) inner new are is = absurd (cc)
spelling_below (Ok next) inner new are is =
    let same : spelling next inner ≡ new = cc in subst AreOctets same (octets_spelled next inner are)

chained_below : (octets new : List ℕ) (r : Result (Tag × List ℕ) EncapFault) → AreOctets octets
    → unwrapped octets ≡ r → chained_from r ≡ Ok new → AreOctets new
chained_below octets new (Err fault) are was is = absurd (cc)
chained_below octets new (Ok read) are was is =
    spelling_below (next_hop read.0) read.1 new (inner_below octets read are was) is

turned_below : (octets new : List ℕ) (r : Result Tag EncapFault) → AreOctets octets
    → MatchResult r (λ _. chained octets ≡ Ok new) (λ fault. (chained octets ≡ Err fault) × (new ≡ octets))
    → AreOctets new
turned_below octets new (Ok next) are is = chained_below octets new (unwrapped octets) are refl is
turned_below octets new (Err fault) are is = subst AreOctets (sym is.1) are

-- the octets of a vector, lent as a slice that was turned or left as it was
pub turned_in : (items lent new : List ℕ) (len : ℕ) (r : Result Tag EncapFault)
    → All (λ octet. octet < 256) items → lent ≡ items → len ≡ length items → length new ≡ length lent
    → MatchResult r (λ _. chained lent ≡ Ok new) (λ fault. (chained lent ≡ Err fault) × (new ≡ lent))
    → All (λ octet. octet < 256) (take len (new ++ drop (length new) items))
turned_in items lent new len r below same whole kept is =
    let all : len ≡ length new = whole ∙ (ap (λ (xs : List ℕ). length xs) (sym same) ∙ sym kept) in
    let written : take len (new ++ drop (length new) items) ≡ new =
    ap (λ n. take n (new ++ drop (length new) items)) all ∙ take-append_seam new (drop (length new) items) in
    subst (λ (xs : List ℕ). All (λ octet. octet < 256) xs) (sym written)
    (all_below new (turned_below lent new r (subst AreOctets (sym same) (octets_by items below)) is))

-- a carrier that was loaded, or was not for want of memory
pub all_loaded : {A E : Type 0} (r : Result A E) (old new octets : List ℕ) → old ≡ [] → AreOctets octets
    → MatchResult r (λ _. new ≡ old ++ octets) (λ _. new ≡ old) → All (λ octet. octet < 256) new
all_loaded (Ok x) old new octets none are is =
    subst (λ (xs : List ℕ). All (λ octet. octet < 256) xs) (sym (is ∙ ap (λ (xs : List ℕ). xs ++ octets) none))
    (all_below octets are)
all_loaded (Err e) old new octets none are is =
    subst (λ (xs : List ℕ). All (λ octet. octet < 256) xs) (sym (is ∙ none)) (all_below [] (λ i. omega arith))

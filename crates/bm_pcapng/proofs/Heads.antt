-- What the octets that were read say of the head of a block.
use Rattle.std.proofs.Common.{◌≡◌, ℕ, true, false, ◌+◌, ◌<◌, ◌≤◌, nat_lt, ◌==◌, ◌&&◌, not, inl, inr, min}
use Rattle.std.proofs.Common.{if◌then◌else◌, List, length, Option, Some, None, Result, Ok, Err, take, ap, sym, subst}
use Rattle.std.proofs.Common.{◌∙◌, arith, refl, Bool, IfOk}
use Rattle.std.proofs.lemmas.Bool.{cases_lt}
use Rattle.std.proofs.lemmas.Bool.Decides.{nat_tests}
use Rattle.std.proofs.lemmas.List.{take-take, length-take, take_at}
use Rattle.std.specs.Io.KnownBytes.{Keeps, prepend_known}
use Rattle.bm_pcap.specs.declared.form.Order.{Order}
use Rattle.bm_pcap.specs.Header.{number_at}
use Rattle.bm_pcap.specs.Limits.{most_records}
use Rattle.bm_pcap.specs.Window.{Ahead}
use Rattle.bm_pcapng.specs.declared.block.Kind.{Kind}
use Rattle.bm_pcapng.specs.declared.block.Kind.TheVariants.{SectionHeader, InterfaceDescription}
use Rattle.bm_pcapng.specs.declared.block.Kind.TheVariants.{EnhancedPacket, SimplePacket, Other}
use Rattle.bm_pcap.specs.declared.fault.CaptureFault.{CaptureFault}
use Rattle.bm_pcap.specs.declared.fault.CaptureFault.TheVariants.{BadBlock, TooLarge, TooManyPackets}
use Rattle.bm_pcapng.specs.declared.interface.Interface.{Interface}
use Rattle.bm_pcapng.specs.declared.place.Place.{Place}
use Rattle.bm_pcapng.specs.declared.step.Head.{Head}
use Rattle.bm_pcapng.specs.declared.step.Head.TheVariants as head
use Rattle.bm_pcapng.specs.declared.step.Step.{Step}
use Rattle.bm_pcapng.specs.declared.step.Step.TheVariants as step
use Rattle.bm_pcapng.specs.Blocks.{after_head, head_size, is_length, is_packet, kind_in, lacks, least_length}
use Rattle.bm_pcapng.specs.Blocks.{next_of, order_of, ordered, short}
use Rattle.bm_pcapng.specs.Parts.{IsOpen}
use Rattle.bm_pcapng.specs.Inside.Parts.{Begins, HeadGives, HeadIn, HeadSays, stated, stated_in}

-- the kind of the block at the front
abbrev pub kind_at : Order → List ℕ → Kind
kind_at order octets = kind_in order (take 4 octets)

pub eight : (kind : Kind) → 8 ≤ head_size kind
eight SectionHeader = omega arith
eight InterfaceDescription = omega arith
eight EnhancedPacket = omega arith
eight SimplePacket = omega arith
eight Other = omega arith

pub twelve : (kind : Kind) → head_size kind ≤ 12
twelve SectionHeader = omega arith
twelve InterfaceDescription = omega arith
twelve EnhancedPacket = omega arith
twelve SimplePacket = omega arith
twelve Other = omega arith

pub twelve_least : (kind : Kind) → 12 ≤ least_length kind
twelve_least SectionHeader = omega arith
twelve_least InterfaceDescription = omega arith
twelve_least EnhancedPacket = omega arith
twelve_least SimplePacket = omega arith
twelve_least Other = omega arith

-- the definition at a place, by how many octets are left

pub next_end : (order : Order) (interfaces : List Interface) (place : Place) (left : List ℕ) → length left ≡ 0
    → next_of order interfaces place left ≡ Ok step.End
unfolding next_of
next_end order interfaces place left none = let t : (length left == 0) ≡ true = grind (arith, nat_tests, none) in rw t

lacking : (n room : ℕ) (left : List ℕ) → (length left < n) → lacks n room left ≡ true
lacking n room left less = grind (arith, nat_tests, less)

lacking_room : (n room : ℕ) (left : List ℕ) → (room + 1 < n) → lacks n room left ≡ true
lacking_room n room left less = grind (arith, nat_tests, less)

not_lacking : (n room : ℕ) (left : List ℕ) → n ≤ length left → n ≤ room + 1 → lacks n room left ≡ false
not_lacking n room left long wide = grind (arith, nat_tests, long, wide)

lacking_min : (n room : ℕ) (left : List ℕ) → min (length left) (room + 1) < n → lacks n room left ≡ true
lacking_min n room left less = elim (cases_lt (length left) n) [
  | inl few ↦ lacking n room left few
  | inr many ↦ lacking_room n room left (omega (arith, less, many))
]

pub next_short : (order : Order) (interfaces : List Interface) (place : Place) (left : List ℕ) → 0 < length left
    → min (length left) (place.room + 1) < head_size (kind_at order left)
    → next_of order interfaces place left ≡ short place.room left
unfolding next_of
next_short order interfaces place left some less =
    let t : (length left == 0) ≡ false = grind (arith, nat_tests, some) in
    let u : lacks (head_size (kind_at order left)) place.room left ≡ true =
    lacking_min (head_size (kind_at order left)) place.room left less in
    rw (t, u)

pub next_ordered : (order : Order) (interfaces : List Interface) (place : Place) (left : List ℕ) (kind : Kind)
    → kind ≡ kind_at order left → head_size kind ≤ length left → head_size kind ≤ place.room + 1
    → next_of order interfaces place left
    ≡ ordered kind (order_of kind order (take (head_size kind) left)) interfaces place left
unfolding next_of
next_ordered order interfaces place left kind is long wide =
    let e = eight kind in
    let t : (length left == 0) ≡ false = grind (arith, nat_tests, long, e) in
    let u : lacks (head_size kind) place.room left ≡ false =
    not_lacking (head_size kind) place.room left long wide in
    rw (t, sym is, u)

pub short_large : (room : ℕ) (left : List ℕ) → room < length left → short room left ≡ Err TooLarge
short_large room left more = let t : nat_lt room (length left) ≡ true = grind (arith, nat_tests, more) in rw t

pub short_cut : (room : ℕ) (left : List ℕ) → length left ≤ room → short room left ≡ Ok step.Cut
short_cut room left fits = let t : nat_lt room (length left) ≡ false = grind (arith, nat_tests, fits) in rw t

-- what a head says of a block of this kind is what the definition says
says : (kind : Kind) (own : Option Order) (interfaces : List Interface) (place : Place) (left : List ℕ)
    → HeadSays (ordered kind own interfaces place left) interfaces place left
    (stated_in kind own place (take (head_size kind) left))
says kind None interfaces place left = refl
says kind (Some own) interfaces place left =
    let n : ℕ = number_at own 4 4 (take (head_size kind) left) in
    elim (is_length kind n) as (λ v. HeadSays
    (if not v then Err (BadBlock place.block)
    else if is_packet kind && nat_lt most_records place.number then Err TooManyPackets
    else after_head kind own interfaces place n left) interfaces place left
    (if not v then Err (BadBlock place.block)
    else if is_packet kind && nat_lt most_records place.number then Err TooManyPackets
    else Ok (head.States kind own n))) [
      | true ↦
          elim (is_packet kind && nat_lt most_records place.number) as (λ v. HeadSays
          (if v then Err TooManyPackets else after_head kind own interfaces place n left) interfaces place left
          (if v then Err TooManyPackets else Ok (head.States kind own n))) [ true ↦ refl | false ↦ refl ]
      | false ↦ refl
    ]

-- Octets that begin with others have their front.
pub same_front : (n : ℕ) (ahead octets : List ℕ) → n ≤ length ahead → Begins ahead octets
    → take n octets ≡ take n ahead
same_front n ahead octets long begins = sym (take-take n (length ahead) octets long) ∙ ap (take n) begins

pub longer : (ahead octets : List ℕ) → Begins ahead octets → length ahead ≤ length octets
longer ahead octets begins = omega (arith, ap length begins, length-take (length ahead) octets)

pub begins_trans : (xs ys zs : List ℕ) → Begins xs ys → Begins ys zs → Begins xs zs
begins_trans xs ys zs h k = same_front (length xs) ys zs (longer xs ys h) k ∙ h

-- the kind of a block doesn't change as more octets follow its type
pub kind_told : (order : Order) (ahead shown : List ℕ) (kind : Kind) → shown ≡ ahead
    → kind ≡ kind_in order (take 4 shown) → kind ≡ kind_at order ahead
kind_told order ahead shown kind same is = is ∙ ap (kind_at order) same

pub kind_later : (order : Order) (first ahead : List ℕ) (kind : Kind) → kind ≡ kind_at order first → 8 ≤ length first
    → Begins first ahead → kind ≡ kind_at order ahead
kind_later order first ahead kind is there grown =
    is ∙ ap (kind_in order) (sym (same_front 4 first ahead (omega (arith, there)) grown))

-- what was read ahead says of a head what the definition says of all octets that begin with it
pub head_says : (order : Order) (interfaces : List Interface) (place : Place) (ahead octets : List ℕ) (kind : Kind)
    (result : Result Head CaptureFault) → kind ≡ kind_at order ahead
    → head_size kind ≤ length ahead → head_size kind ≤ place.room + 1 → Begins ahead octets
    → result ≡ stated kind order place (take (head_size kind) ahead)
    → HeadSays (next_of order interfaces place octets) interfaces place octets result
head_says order interfaces place ahead octets kind result is long wide begins said =
    let front : take (head_size kind) octets ≡ take (head_size kind) ahead =
    same_front (head_size kind) ahead octets long begins in
    let some : 8 ≤ length ahead = omega (arith, eight kind, long) in
    let same : kind ≡ kind_at order octets = kind_later order ahead octets kind is some begins in
    let more = longer ahead octets begins in
    let found = next_ordered order interfaces place octets kind same (omega (arith, long, more)) wide in
    let P : Result Step CaptureFault → Type 0 = λ f. HeadSays f interfaces place octets result in
    let Q : Result Head CaptureFault → Type 0 = λ r. HeadSays
    (ordered kind (order_of kind order (take (head_size kind) octets)) interfaces place octets) interfaces place octets
    r in
    subst P (sym found)
    (subst Q (ap (stated kind order place) front ∙ sym said)
    (says kind (order_of kind order (take (head_size kind) octets)) interfaces place octets))

-- where the source's octets are known, they begin with what was read ahead
pub known : (octets : List ℕ) (new : Option (List ℕ)) → Keeps (Some octets) new → new ≡ Some octets
known octets None keeps = absurd keeps
known octets (Some same) keeps = ap (λ z. Some z) keeps

pub buffered_begins : (octets ahead : List ℕ) (left : Option (List ℕ)) → Keeps (Some octets) (prepend_known ahead left)
    → Begins ahead octets
buffered_begins octets ahead None keeps = absurd keeps
buffered_begins octets ahead (Some ys) keeps =
    ap (take (length ahead)) (sym keeps) ∙ take_at ahead ys (length ahead) refl

pub begins_old : (old left : Option (List ℕ)) (octets ahead : List ℕ) → old ≡ Some octets
    → Keeps old (prepend_known ahead left) → Begins ahead octets
begins_old old left octets ahead is keeps =
    let P : Option (List ℕ) → Type 0 = λ o. Keeps o (prepend_known ahead left) in
    buffered_begins octets ahead left (subst P is keeps)

pub states_given : (old left : Option (List ℕ)) (order : Order) (interfaces : List Interface) (place : Place)
    (ahead : List ℕ) (kind : Kind) (result : Result Head CaptureFault) → kind ≡ kind_at order ahead
    → head_size kind ≤ length ahead → head_size kind ≤ place.room + 1
    → Keeps old (prepend_known ahead left)
    → result ≡ stated kind order place (take (head_size kind) ahead) → HeadGives old order interfaces place result
states_given None left order interfaces place ahead kind result is long wide keeps said = tt
states_given (Some octets) left order interfaces place ahead kind result is long wide keeps said =
    head_says order interfaces place ahead octets kind result is long wide (buffered_begins octets ahead left keeps) said

states_in : (order : Order) (interfaces : List Interface) (place : Place) (ahead : List ℕ)
    (result : Result Head CaptureFault)
    → ((octets : List ℕ) → Begins ahead octets → HeadSays (next_of order interfaces place octets) interfaces place
    octets result)
    → IfOk result (HeadIn order interfaces place ahead)
states_in order interfaces place ahead (Ok head.End) h = tt
states_in order interfaces place ahead (Ok head.Cut) h = tt
states_in order interfaces place ahead (Ok (head.States kind own n)) h = h
states_in order interfaces place ahead (Err e) h = tt

pub states_buffered : (order : Order) (interfaces : List Interface) (place : Place) (ahead : List ℕ) (kind : Kind)
    (result : Result Head CaptureFault) → kind ≡ kind_at order ahead
    → head_size kind ≤ length ahead → head_size kind ≤ place.room + 1
    → result ≡ stated kind order place (take (head_size kind) ahead)
    → IfOk result (HeadIn order interfaces place ahead)
states_buffered order interfaces place ahead kind result is long wide said =
    states_in order interfaces place ahead result
    (λ octets begins. head_says order interfaces place ahead octets kind result is long wide begins said)

-- what a read knows of the octets before an earlier one
pub ahead_old : (old mid : Option (List ℕ)) (most n : ℕ) (ahead : List ℕ) → Keeps old mid → Ahead mid most n ahead
    → Ahead old most n ahead
ahead_old None mid most n ahead keeps there = tt
ahead_old (Some octets) mid most n ahead keeps there =
    let A : Option (List ℕ) → Type 0 = λ o. Ahead o most n ahead in subst A (known octets mid keeps) there

-- no octet is left
pub head_end : (old : Option (List ℕ)) (order : Order) (interfaces : List Interface) (place : Place) (most n : ℕ)
    (ahead : List ℕ) → most ≡ min (place.room + 1) 8 → Ahead old most n ahead → n ≡ 0
    → HeadGives old order interfaces place (Ok head.End)
head_end None order interfaces place most n ahead is_most is none = tt
head_end (Some octets) order interfaces place most n ahead is_most is none =
    next_end order interfaces place octets (omega (arith, is.0, none, is_most))

-- fewer octets are left than a length needs, or one too many comes before
pub head_short : (old : Option (List ℕ)) (order : Order) (interfaces : List Interface) (place : Place)
    (size most n : ℕ) (ahead : List ℕ) (result : Result Head CaptureFault)
    → ((octets : List ℕ) → old ≡ Some octets → size ≤ head_size (kind_at order octets))
    → ((octets : List ℕ) → old ≡ Some octets → 0 < length octets)
    → most ≡ min (place.room + 1) size → Ahead old most n ahead → n < size
    → result ≡ (if nat_lt place.room n then Err TooLarge else Ok head.Cut) → HeadGives old order interfaces place result
head_short None order interfaces place size most n ahead result fits some is_most there less said = tt
head_short (Some octets) order interfaces place size most n ahead result fits some is_most there less said =
    let le : size ≤ head_size (kind_at order octets) = fits octets refl in
    let one : 0 < length octets = some octets refl in
    let few : min (length octets) (place.room + 1) < head_size (kind_at order octets) =
    omega (arith, le, there.0, is_most, less) in
    let found = next_short order interfaces place octets one few in
    let P : Result Head CaptureFault → Type 0 = λ r. HeadGives (Some octets) order interfaces place r in
    let answer : Bool → Result Head CaptureFault = λ b. if b then Err TooLarge else Ok head.Cut in
    elim (cases_lt place.room n) [
      | inl over ↦
          let t : nat_lt place.room n ≡ true = grind (arith, nat_tests, over) in
          let more : place.room < length octets = omega (arith, there.0, over) in
          subst P (sym (said ∙ ap answer t)) (found ∙ short_large place.room octets more)
      | inr within ↦
          let t : nat_lt place.room n ≡ false = grind (arith, nat_tests, within) in
          let all : length octets ≤ place.room = omega (arith, there.0, is_most, less, within) in
          subst P (sym (said ∙ ap answer t)) (found ∙ short_cut place.room octets all)
    ]

-- A read that failed leaves what stands next open.
pub open_head : (order : Order) (interfaces : List Interface) (place : Place) (size most : ℕ) (ahead : List ℕ)
    → size ≤ head_size (kind_at order ahead) → most ≡ min (place.room + 1) size → length ahead < most
    → IsOpen (next_of order interfaces place ahead)
open_head order interfaces place size most ahead fits is_most less =
    elim (cases_lt (length ahead) 1) [
      | inl none ↦ subst IsOpen (sym (next_end order interfaces place ahead (omega (arith, none)))) tt
      | inr some ↦
          let few : min (length ahead) (place.room + 1) < head_size (kind_at order ahead) =
          omega (arith, fits, is_most, less) in
          let all : length ahead ≤ place.room = omega (arith, is_most, less) in
          subst IsOpen
          (sym (next_short order interfaces place ahead (omega (arith, some)) few ∙ short_cut place.room ahead all)) tt
    ]

-- some octets are left where some were read
pub some_read : (old : Option (List ℕ)) (most n : ℕ) (ahead octets : List ℕ) → Ahead old most n ahead → 0 < n
    → old ≡ Some octets → 0 < length octets
some_read old most n ahead octets there some is =
    let P : Option (List ℕ) → Type 0 = λ o. Ahead o most n ahead in
    omega (arith, (subst P is there).0, some)

-- What the octets that were read say of the block that stands next.
use Rattle.std.proofs.Common.{◌≡◌, ℕ, true, false, ◌+◌, ◌-◌, ◌<◌, ◌≤◌, nat_le, ◌&&◌, min, List, ◌++◌, length}
use Rattle.std.proofs.Common.{Option, Some, None, Result, Ok, Err, take, drop, ap, ap₂, sym, subst, ◌∙◌}
use Rattle.std.proofs.Common.{arith}
use Rattle.std.proofs.Common.{length-append, refl}
use Rattle.std.proofs.lemmas.Bool.Decides.{nat_tests}
use Rattle.std.proofs.lemmas.List.{drop-append-le, drop_at, length-take-le, take-append-le}
use Rattle.std.specs.Io.KnownBytes.{Keeps, prepend_known}
use Rattle.bm_pcap.specs.declared.form.Order.{Order}
use Rattle.bm_pcap.specs.Window.{Ahead}
use Rattle.bm_pcapng.specs.declared.block.Kind.{Kind}
use Rattle.bm_pcapng.specs.declared.content.Content.{Content}
use Rattle.bm_pcap.specs.declared.fault.CaptureFault.{CaptureFault}
use Rattle.bm_pcap.specs.declared.fault.CaptureFault.TheVariants as fault
use Rattle.bm_pcapng.specs.declared.interface.Interface.{Interface}
use Rattle.bm_pcapng.specs.declared.place.Place.{Place}
use Rattle.bm_pcapng.specs.declared.step.Head.{Head}
use Rattle.bm_pcapng.specs.declared.step.Head.TheVariants as head
use Rattle.bm_pcapng.specs.declared.step.Step.{Step}
use Rattle.bm_pcapng.specs.declared.step.Step.TheVariants as step
use Rattle.bm_pcapng.specs.Blocks.{after_head, framed, next_of, short}
use Rattle.bm_pcapng.specs.Parts.{BlockGives, IsOpen}
use Rattle.bm_pcapng.specs.Inside.Parts.{HeadGives, HeadIn, StepGives, last_of, own_octets}
use Rattle.bm_pcapng.proofs.Heads.{known, short_cut, short_large}

-- a block that isn't there as a whole, or is longer than it may be
part : (kind : Kind) (own : Order) (interfaces : List Interface) (place : Place) (n : ℕ) (left : List ℕ)
    → min (length left) place.room < n
    → after_head kind own interfaces place n left ≡ short place.room left
part kind own interfaces place n left less =
    let t : (nat_le n (length left) && nat_le n place.room) ≡ false = grind (arith, nat_tests, less) in rw t

whole : (kind : Kind) (own : Order) (interfaces : List Interface) (place : Place) (n : ℕ) (left : List ℕ)
    → n ≤ length left → n ≤ place.room
    → after_head kind own interfaces place n left ≡ framed kind own interfaces place n (take n left)
whole kind own interfaces place n left long within =
    let t : (nat_le n (length left) && nat_le n place.room) ≡ true = grind (arith, nat_tests, long, within) in rw t

-- what the head gave, where the source's octets are known
head_gave : (octets : List ℕ) (order : Order) (interfaces : List Interface) (place : Place) (said : Head) (kind : Kind)
    (own : Order) (n : ℕ) → said ≡ head.States kind own n → HeadGives (Some octets) order interfaces place (Ok said)
    → next_of order interfaces place octets ≡ after_head kind own interfaces place n octets
head_gave octets order interfaces place said kind own n is gives =
    let P : Head → Type 0 = λ h. HeadGives (Some octets) order interfaces place (Ok h) in subst P is gives

ahead_told : (octets : List ℕ) (mid : Option (List ℕ)) (most m : ℕ) (ahead : List ℕ) → Keeps (Some octets) mid
    → Ahead mid most m ahead → Ahead (Some octets) most m ahead
ahead_told octets mid most m ahead keeps there =
    let A : Option (List ℕ) → Type 0 = λ o. Ahead o most m ahead in subst A (known octets mid keeps) there

gives_of : (octets : List ℕ) (order : Order) (interfaces : List Interface) (place : Place)
    (result : Result Step CaptureFault)
    → next_of order interfaces place octets ≡ result → StepGives (Some octets) order interfaces place result
gives_of octets order interfaces place (Ok found) is = is
gives_of octets order interfaces place (Err fault.NotACapture) is = is
gives_of octets order interfaces place (Err fault.BadVersion) is = is
gives_of octets order interfaces place (Err (fault.BadBlock block)) is = is
gives_of octets order interfaces place (Err (fault.BadLink link)) is = is
gives_of octets order interfaces place (Err fault.ReadFault) is = tt
gives_of octets order interfaces place (Err fault.TooLarge) is = is
gives_of octets order interfaces place (Err (fault.BadLength number n)) is = is
gives_of octets order interfaces place (Err fault.TooManyPackets) is = is
gives_of octets order interfaces place (Err fault.Memory) is = is

-- what is known at the body of a block, where the source's octets are known
body_told : (octets : List ℕ) (mid : Option (List ℕ)) (order : Order) (interfaces : List Interface) (place : Place)
    (said : Head) (kind : Kind) (own : Order) (n most m : ℕ) (ahead : List ℕ) → said ≡ head.States kind own n
    → HeadGives (Some octets) order interfaces place (Ok said) → Keeps (Some octets) mid → Ahead mid most m ahead
    → (next_of order interfaces place octets ≡ after_head kind own interfaces place n octets)
    × (m ≡ min most (length octets)) × (take m ahead ≡ take m octets)
body_told octets mid order interfaces place said kind own n most m ahead is gives keeps there =
    let a = ahead_told octets mid most m ahead keeps there in
    (head_gave octets order interfaces place said kind own n is gives, a.0, a.1)

pub body_large : (old mid : Option (List ℕ)) (order : Order) (interfaces : List Interface) (place : Place)
    (said : Head) (kind : Kind) (own : Order) (n most m : ℕ) (ahead : List ℕ) → said ≡ head.States kind own n
    → HeadGives old order interfaces place (Ok said) → Keeps old mid → Ahead mid most m ahead
    → most ≡ min n (place.room + 1) → place.room < m → StepGives old order interfaces place (Err fault.TooLarge)
body_large None mid order interfaces place said kind own n most m ahead is gives keeps there is_most over = tt
body_large (Some octets) mid order interfaces place said kind own n most m ahead is gives keeps there is_most over =
    let b = body_told octets mid order interfaces place said kind own n most m ahead is gives keeps there in
    b.0 ∙ part kind own interfaces place n octets (omega (arith, b.1, is_most, over))
    ∙ short_large place.room octets (omega (arith, b.1, over))

pub body_cut : (old mid : Option (List ℕ)) (order : Order) (interfaces : List Interface) (place : Place) (said : Head)
    (kind : Kind) (own : Order) (n most m : ℕ) (ahead : List ℕ) → said ≡ head.States kind own n
    → HeadGives old order interfaces place (Ok said) → Keeps old mid → Ahead mid most m ahead
    → most ≡ min n (place.room + 1) → m ≤ place.room → m < n → StepGives old order interfaces place (Ok step.Cut)
body_cut None mid order interfaces place said kind own n most m ahead is gives keeps there is_most within less = tt
body_cut (Some octets) mid order interfaces place said kind own n most m ahead is gives keeps there is_most within
    less =
    let b = body_told octets mid order interfaces place said kind own n most m ahead is gives keeps there in
    let all : m ≡ length octets = omega (arith, b.1, is_most, within, less) in
    b.0 ∙ part kind own interfaces place n octets (omega (arith, all, less))
    ∙ short_cut place.room octets (omega (arith, all, within))

pub body_whole : (old mid : Option (List ℕ)) (order : Order) (interfaces : List Interface) (place : Place)
    (said : Head) (kind : Kind) (own : Order) (n most m : ℕ) (ahead block : List ℕ) (result : Result Step CaptureFault)
    → said ≡ head.States kind own n
    → HeadGives old order interfaces place (Ok said) → Keeps old mid → Ahead mid most m ahead
    → most ≡ min n (place.room + 1) → m ≤ place.room → n ≤ m → block ≡ take n ahead
    → result ≡ framed kind own interfaces place n block → StepGives old order interfaces place result
body_whole None mid order interfaces place said kind own n most m ahead block result is gives keeps there is_most within
    full cut answer = tt
body_whole (Some octets) mid order interfaces place said kind own n most m ahead block result is gives keeps there
    is_most within full cut answer =
    let b = body_told octets mid order interfaces place said kind own n most m ahead is gives keeps there in
    let e : m ≡ n = omega (arith, b.1, is_most, full) in
    let same : block ≡ take n octets =
    cut ∙ ap (λ k. take k ahead) (sym e) ∙ b.2 ∙ ap (λ k. take k octets) e in
    gives_of octets order interfaces place result
    (b.0 ∙ whole kind own interfaces place n octets (omega (arith, b.1, e)) (omega (arith, e, within))
    ∙ ap (framed kind own interfaces place n) (sym same) ∙ sym answer)

pub open_body : (order : Order) (interfaces : List Interface) (place : Place) (said : Head) (kind : Kind) (own : Order)
    (n most : ℕ) (before ahead : List ℕ) → said ≡ head.States kind own n → HeadIn order interfaces place before said
    → take (length before) ahead ≡ before → most ≡ min n (place.room + 1) → length ahead < most
    → IsOpen (next_of order interfaces place ahead)
open_body order interfaces place said kind own n most before ahead is buffered grows is_most less =
    let P : Head → Type 0 = λ h. HeadIn order interfaces place before h in
    let found = (subst P is buffered) ahead grows in
    let few : min (length ahead) place.room < n = omega (arith, is_most, less) in
    subst IsOpen
    (sym (found ∙ part kind own interfaces place n ahead few
    ∙ short_cut place.room ahead (omega (arith, is_most, less)))) tt

-- the last octets of those that were answered are the block's
block_octets : (n : ℕ) (before ahead : List ℕ) → n ≤ length ahead
    → last_of n (before ++ take n ahead) ≡ take n ahead
block_octets n before ahead long =
    let size : length (take n ahead) ≡ n = length-take-le n ahead long in
    let at : length (before ++ take n ahead) - n ≡ length before =
    omega (arith, size, length-append before (take n ahead)) in
    ap (λ m. drop m (before ++ take n ahead)) at ∙ drop_at before (take n ahead) (length before) refl

-- a block that is skipped was answered
pub block_step : (old left after : Option (List ℕ)) (order : Order) (interfaces : List Interface) (place : Place)
    (n : ℕ) (content : Content) (ahead before passed behind : List ℕ) (found : Step) → found ≡ step.Block n content
    → StepGives old order interfaces place (Ok found) → Keeps old (prepend_known ahead left) → n ≤ length ahead
    → behind ≡ drop n ahead → passed ≡ before ++ take n ahead → after ≡ left
    → BlockGives old (prepend_known behind after) order interfaces place (Ok found) (own_octets (Ok found) passed)
block_step None left after order interfaces place n content ahead before passed behind found is gives keeps long rest
    gone source = tt
block_step (Some octets) None after order interfaces place n content ahead before passed behind found is gives keeps
    long rest gone source = absurd keeps
block_step (Some octets) (Some ys) after order interfaces place n content ahead before passed behind found is gives
    keeps long rest gone source =
    let P : Step → Type 0 = λ f. BlockGives (Some octets) (prepend_known behind after) order interfaces place (Ok f)
    (own_octets (Ok f) passed) in
    let front : take n ahead ≡ take n octets =
    sym (take-append-le n ahead ys long) ∙ ap (take n) keeps in
    let back : drop n ahead ++ ys ≡ drop n octets =
    sym (drop-append-le n ahead ys long) ∙ ap (drop n) keeps in
    subst P (sym is) (
      gives ∙ ap (λ (f : Step). Ok f) is,
      ap (last_of n) gone ∙ block_octets n before ahead long ∙ front,
      ap₂ (λ (x : List ℕ) (y : Option (List ℕ)). prepend_known x y) rest source ∙ ap (λ (z : List ℕ). Some z) back,
    )

-- what else was answered leaves all octets to come
pub other_step : (octets : List ℕ) (new : Option (List ℕ)) → Keeps (Some octets) new → new ≡ Some octets
other_step octets new keeps = known octets new keeps

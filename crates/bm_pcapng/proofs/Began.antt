-- What is known of a capture's beginning while its blocks are read.
use Rattle.std.proofs.Common.{◌≡◌, ℕ, zero, suc, ◌-◌, ◌+◌, ◌≤◌, List, [], drop, Option, Some, None, Ok}
use Rattle.std.proofs.Common.{refl, sym, ap, ap₂, subst, ◌∙◌, arith}
use Rattle.bm_pcap.specs.declared.form.Order.{Order}
use Rattle.bm_pcap.specs.Limits.{most_octets}
use Rattle.bm_pcapng.specs.declared.content.Content.{Content}
use Rattle.bm_pcapng.specs.declared.content.Content.TheVariants.{Begins, Describes, Holds, Nothing}
use Rattle.bm_pcapng.specs.declared.interface.Interface.{Interface}
use Rattle.bm_pcapng.specs.declared.place.Place.{Place}
use Rattle.bm_pcapng.specs.declared.step.Step.{Step}
use Rattle.bm_pcapng.specs.declared.step.Step.TheVariants.{Block, Cut, End}
use Rattle.bm_pcapng.specs.Began.{began, first_of, first_time, time_found, time_from, time_in, time_or_zero}
use Rattle.bm_pcapng.specs.Blocks.{next_of}
use Rattle.bm_pcapng.specs.Capture.{first_order}
use Rattle.bm_pcapng.specs.Parts.{BlockGives}
use Rattle.bm_pcapng.specs.Places.{first_after, first_place, interfaces_after, order_after, place_after}
use Rattle.bm_pcapng.specs.Reader.{StandsIn}
use Rattle.bm_pcapng.proofs.Loop.{most_left}

-- The time of the first packet so far that has one, or of the first that is left, is that of the capture.
abbrev pub BeganAt : Option (List ℕ) → Order → List Interface → Place → Option ℕ → Type 0
BeganAt now order interfaces place time =
    (left : List ℕ)
    × ((now ≡ Some left) × (first_of place.first (time_from (most_left place) order interfaces place left) ≡ time))

pub began_starts : (now : Option (List ℕ)) (order : Order) (interfaces : List Interface) (place : Place)
    (octets : List ℕ) → StandsIn now order octets → place ≡ first_place → interfaces ≡ []
    → BeganAt now order interfaces place (first_time octets (first_order octets))
began_starts now order interfaces place octets stands is none =
    let time : Option ℕ = first_time octets (first_order octets) in
    let P : Place → Type 0 = λ p. BeganAt now order interfaces p time in
    let Q : List Interface → Type 0 = λ i. BeganAt now order i first_place time in
    subst P (sym is) (subst Q (sym none) (octets, (stands.1, sym (ap (first_time octets) stands.0))))

-- one step of the definition, whatever follows
any_time : (most : ℕ) (order : Order) (interfaces : List Interface) (place : Place) (left : List ℕ)
    → (others : Order → List Interface → Place → List ℕ → Option ℕ)
    × (time_from most order interfaces place left
    ≡ time_found others order interfaces place left (next_of order interfaces place left))
unfolding time_from
any_time zero order interfaces place left = ((λ _ _ _ _. None), refl)
any_time (suc more) order interfaces place left = (time_from more, refl)

-- one step of the definition at a block
one_time : (order : Order) (interfaces : List Interface) (place : Place) (left : List ℕ) → place.block ≤ most_octets
    → time_from (most_left place) order interfaces place left
    ≡ time_found (time_from (most_octets + 1 - (place.block + 1))) order interfaces place left
    (next_of order interfaces place left)
unfolding time_from
one_time order interfaces place left few =
    let k : most_octets + 1 - place.block ≡ suc (most_octets + 1 - (place.block + 1)) = omega arith in rw k refl

first_none : (first : Option ℕ) → first_of first None ≡ first
first_none None = refl
first_none (Some time) = refl

first_over : (first one later : Option ℕ) → first_of (first_of first one) later ≡ first_of first (first_of one later)
first_over None one later = refl
first_over (Some time) one later = refl

behind_first : (first one : Option ℕ) → first_after first one ≡ first_of first one
behind_first None None = refl
behind_first None (Some time) = refl
behind_first (Some first) None = refl
behind_first (Some first) (Some time) = refl

first_passed : (place : Place) (n : ℕ) (content : Content)
    → (place_after place n content).first ≡ first_of place.first (time_in content)
first_passed place n (Holds packet) = behind_first place.first packet.time
first_passed place n (Begins order) = sym (first_none place.first)
first_passed place n (Describes interface) = sym (first_none place.first)
first_passed place n Nothing = sym (first_none place.first)

block_passed : (place : Place) (n : ℕ) (content : Content) → (place_after place n content).block ≡ place.block + 1
block_passed place n (Holds packet) = refl
block_passed place n (Begins order) = refl
block_passed place n (Describes interface) = refl
block_passed place n Nothing = refl

pub began_more : (now new : Option (List ℕ)) (order : Order) (interfaces : List Interface) (place : Place) (n : ℕ)
    (content : Content) (passed : List ℕ) (time : Option ℕ) → BeganAt now order interfaces place time
    → BlockGives now new order interfaces place (Ok (Block n content)) passed → place.block ≤ most_octets
    → BeganAt new (order_after order content) (interfaces_after interfaces content) (place_after place n content)
    time
began_more now new order interfaces place n content passed time begins gives few =
    let t = subst (λ m. BlockGives m new order interfaces place (Ok (Block n content)) passed) begins.1.0 gives in
    let behind : Place = place_after place n content in
    let others : ℕ → Option ℕ =
    λ most. time_from most (order_after order content) (interfaces_after interfaces content) behind
    (drop n begins.0) in
    let found : time_from (most_left place) order interfaces place begins.0
    ≡ first_of (time_in content) (others (most_octets + 1 - (place.block + 1))) =
    one_time order interfaces place begins.0 few
    ∙ ap (time_found (time_from (most_octets + 1 - (place.block + 1))) order interfaces place begins.0) t.0 in
    let left : others (most_left behind) ≡ others (most_octets + 1 - (place.block + 1)) =
    ap (λ (b : ℕ). others (most_octets + 1 - b)) (block_passed place n content) in (
      drop n begins.0,
      (
        t.2,
        ap₂ first_of (first_passed place n content) left
            ∙ first_over place.first (time_in content) (others (most_octets + 1 - (place.block + 1)))
            ∙ ap (first_of place.first) (sym found) ∙ begins.1.1,
      ),
    )

abbrev pub HasNoBlock : Step → Type 0
HasNoBlock (Block n content) = ⊥
HasNoBlock Cut = Unit {0}
HasNoBlock End = Unit {0}

no_block : (found : Step) (others : Order → List Interface → Place → List ℕ → Option ℕ) (order : Order)
    (interfaces : List Interface) (place : Place) (left : List ℕ) → HasNoBlock found
    → time_found others order interfaces place left (Ok found) ≡ None
no_block (Block n content) others order interfaces place left none = absurd none
no_block Cut others order interfaces place left none = refl
no_block End others order interfaces place left none = refl

gives_found : (left : List ℕ) (new : Option (List ℕ)) (order : Order) (interfaces : List Interface) (place : Place)
    (found : Step) (passed : List ℕ) → HasNoBlock found
    → BlockGives (Some left) new order interfaces place (Ok found) passed
    → next_of order interfaces place left ≡ Ok found
gives_found left new order interfaces place (Block n content) passed none gives = absurd none
gives_found left new order interfaces place Cut passed none gives = gives.0
gives_found left new order interfaces place End passed none gives = gives.0

pub began_ends : (now new : Option (List ℕ)) (order : Order) (interfaces : List Interface) (place : Place)
    (found : Step) (passed : List ℕ) (time : Option ℕ) → HasNoBlock found → BeganAt now order interfaces place time
    → BlockGives now new order interfaces place (Ok found) passed → place.first ≡ time
began_ends now new order interfaces place found passed time none begins gives =
    let t = subst (λ m. BlockGives m new order interfaces place (Ok found) passed) begins.1.0 gives in
    let s = any_time (most_left place) order interfaces place begins.0 in
    let left : time_from (most_left place) order interfaces place begins.0 ≡ None =
    s.1 ∙ ap (time_found s.0 order interfaces place begins.0)
    (gives_found begins.0 new order interfaces place found passed none t)
    ∙ no_block found s.0 order interfaces place begins.0 none in
    sym (first_none place.first) ∙ ap (first_of place.first) (sym left) ∙ begins.1.1

-- so the capture began then
pub knows_began : (first : Option ℕ) (octets : List ℕ) → first ≡ first_time octets (first_order octets)
    → time_or_zero first ≡ began octets
unfolding began
knows_began first octets is = ap time_or_zero is

-- Reading blocks one after the other, as a loop does.
use Rattle.std.proofs.Common.{◌≡◌, ℕ, zero, suc, ◌-◌, ◌+◌, ◌≤◌, List, [], ◌∷◌, ◌++◌, drop, take, Option}
use Rattle.std.proofs.Common.{Some, None, Result, Ok, Err, refl, sym, ap, ap₂, subst, ◌∙◌, arith}
use Rattle.std.proofs.lemmas.List.{drop-take, take-take}
use Rattle.bm_base.specs.declared.capture.Body.{Body}
use Rattle.bm_base.specs.declared.capture.Record.{Record}
use Rattle.bm_base.specs.declared.capture.Vip.{Vip}
use Rattle.bm_base.specs.declared.ids.Moment.{Moment}
use Rattle.bm_pcap.specs.declared.form.Order.{Order}
use Rattle.bm_pcap.specs.Capture.{Captured, ends, with_record}
use Rattle.bm_pcap.specs.Limits.{latest, most_octets}
use Rattle.bm_pcap.proofs.Loop.{ended, no_front, regroup, with_front}
use Rattle.bm_pcapng.specs.declared.content.Content.{Content}
use Rattle.bm_pcapng.specs.declared.content.Content.TheVariants.{Begins, Describes, Holds, Nothing}
use Rattle.bm_pcapng.specs.declared.content.Packet.{Packet}
use Rattle.bm_pcap.specs.declared.fault.CaptureFault.{CaptureFault}
use Rattle.bm_pcap.specs.declared.fault.CaptureFault.TheVariants as fault
use Rattle.bm_pcapng.specs.declared.interface.Interface.{Interface}
use Rattle.bm_pcapng.specs.declared.place.Place.{Place}
use Rattle.bm_pcapng.specs.declared.step.Step.{Step}
use Rattle.bm_pcapng.specs.declared.step.Step.TheVariants.{Block, Cut, End}
use Rattle.bm_pcapng.specs.Blocks.{next_of}
use Rattle.bm_pcapng.specs.Capture.{after_found, capture, classified_by, packet_octets, records_from}
use Rattle.bm_pcap.specs.Causes.{HasStepCause}
use Rattle.bm_pcap.specs.Reader.{Captures}
use Rattle.bm_pcapng.specs.Parts.{BlockGives}
use Rattle.bm_pcapng.specs.Inside.Parts.{own_octets}
use Rattle.bm_pcapng.specs.Places.{first_place, interfaces_after, moment_at, order_after}
use Rattle.bm_pcapng.specs.Inside.Places.{packet_in}
use Rattle.bm_pcapng.specs.Places.{place_after}
use Rattle.bm_pcapng.specs.Reader.{Reader, Advances, AdvancesFrom, EndsWith, Keeps, StandsIn}
use Rattle.bm_pcapng.specs.Reader.{IsPassedOver}
use Rattle.bm_pcapng.specs.Reader.{octets_in, to_come}

-- how many blocks may be left to come
abbrev pub most_left : Place → ℕ
most_left place = most_octets + 1 - place.block

-- The records so far and those of what is left are those of the whole capture.
abbrev pub SoFar : Option (List ℕ) → Order → List Interface → List Vip → Captured → Place → List Record → List (List ℕ)
    → Type 0
SoFar now order interfaces vips total place records packets =
    (left : List ℕ)
    × ((now ≡ Some left)
    × (with_front records packets (records_from vips (most_left place) order interfaces place left) ≡ total))

pub starts : (now : Option (List ℕ)) (order : Order) (interfaces : List Interface) (vips : List Vip) (place : Place)
    (octets : List ℕ) → StandsIn now order octets → place ≡ first_place → interfaces ≡ []
    → SoFar now order interfaces vips (capture vips octets) place [] []
unfolding capture
starts now order interfaces vips place octets stands is none =
    let P : Place → Type 0 = λ p. SoFar now order interfaces vips (capture vips octets) p [] [] in
    let Q : List Interface → Type 0 = λ i. SoFar now order i vips (capture vips octets) first_place [] [] in
    subst P (sym is) (subst Q (sym none) (
      octets,
      (stands.1, no_front (records_from vips most_octets order [] first_place octets) ∙ rw stands.0),
    ))

-- one step of the definition, whatever follows
pub any_step : (vips : List Vip) (most : ℕ) (order : Order) (interfaces : List Interface) (place : Place)
    (left : List ℕ) → (others : Order → List Interface → Place → List ℕ → Captured)
    × (records_from vips most order interfaces place left
    ≡ after_found vips others order interfaces place left (next_of order interfaces place left))
unfolding records_from
any_step vips zero order interfaces place left = ((λ _ _ _ _. Err fault.TooLarge), refl)
any_step vips (suc more) order interfaces place left = (records_from vips more, refl)

-- one step of the definition at a block
one_step : (vips : List Vip) (order : Order) (interfaces : List Interface) (place : Place) (left : List ℕ)
    → place.block ≤ most_octets
    → records_from vips (most_left place) order interfaces place left
    ≡ after_found vips (records_from vips (most_octets + 1 - (place.block + 1))) order interfaces place left
    (next_of order interfaces place left)
unfolding records_from
one_step vips order interfaces place left few =
    let k : most_octets + 1 - place.block ≡ suc (most_octets + 1 - (place.block + 1)) = omega arith in rw k refl

-- what a loop knows where the source's octets are known
told : (now new : Option (List ℕ)) (order : Order) (interfaces : List Interface) (vips : List Vip) (total : Captured)
    (place : Place) (records : List Record) (packets : List (List ℕ)) (result : Result Step CaptureFault) (passed : List ℕ)
    → SoFar now order interfaces vips total place records packets
    → BlockGives now new order interfaces place result passed
    → (left : List ℕ)
    × ((with_front records packets (records_from vips (most_left place) order interfaces place left) ≡ total)
    × (BlockGives (Some left) new order interfaces place result passed))
told now new order interfaces vips total place records packets result passed so_far gives =
    let P : Option (List ℕ) → Type 0 = λ m. BlockGives m new order interfaces place result passed in
    (so_far.0, (so_far.1.1, subst P so_far.1.0 gives))

-- an answer that ends the capture
at_last : (left : List ℕ) (order : Order) (interfaces : List Interface) (vips : List Vip) (total : Captured)
    (place : Place) (records : List Record) (packets : List (List ℕ)) (result : Result Step CaptureFault) (answer : Captured)
    → with_front records packets (records_from vips (most_left place) order interfaces place left) ≡ total
    → next_of order interfaces place left ≡ result
    → ((others : Order → List Interface → Place → List ℕ → Captured)
    → after_found vips others order interfaces place left result ≡ answer)
    → with_front records packets answer ≡ total
at_last left order interfaces vips total place records packets result answer all found last =
    let s = any_step vips (most_left place) order interfaces place left in
    ap (with_front records packets)
    (sym (last s.0) ∙ ap (after_found vips s.0 order interfaces place left) (sym found) ∙ sym s.1) ∙ all

pub at_cut : (now new : Option (List ℕ)) (order : Order) (interfaces : List Interface) (vips : List Vip)
    (total : Captured) (place : Place) (records : List Record) (packets : List (List ℕ)) (passed : List ℕ)
    → SoFar now order interfaces vips total place records packets
    → BlockGives now new order interfaces place (Ok Cut) passed
    → Ok (record { records = records; cut = Some place.number }, packets) ≡ total
at_cut now new order interfaces vips total place records packets passed so_far gives =
    let t = told now new order interfaces vips total place records packets (Ok Cut) passed so_far gives in
    sym (ended records packets (Some place.number))
    ∙ at_last t.0 order interfaces vips total place records packets (Ok Cut) (ends (Some place.number)) t.1.0 t.1.1.0
    (λ _. refl)

pub at_end : (now new : Option (List ℕ)) (order : Order) (interfaces : List Interface) (vips : List Vip)
    (total : Captured) (place : Place) (records : List Record) (packets : List (List ℕ)) (passed : List ℕ)
    → SoFar now order interfaces vips total place records packets
    → BlockGives now new order interfaces place (Ok End) passed
    → Ok (record { records = records; cut = None }, packets) ≡ total
at_end now new order interfaces vips total place records packets passed so_far gives =
    let t = told now new order interfaces vips total place records packets (Ok End) passed so_far gives in
    sym (ended records packets None)
    ∙ at_last t.0 order interfaces vips total place records packets (Ok End) (ends None) t.1.0 t.1.1.0 (λ _. refl)

-- a fault that is neither a failed read nor want of memory is that of the octets
at_err : (now new : Option (List ℕ)) (order : Order) (interfaces : List Interface) (vips : List Vip) (total : Captured)
    (place : Place) (records : List Record) (packets : List (List ℕ)) (e : CaptureFault) (passed : List ℕ)
    → SoFar now order interfaces vips total place records packets
    → ((left : List ℕ) → BlockGives (Some left) new order interfaces place (Err e) passed
    → next_of order interfaces place left ≡ Err e)
    → BlockGives now new order interfaces place (Err e) passed → Err e ≡ total
at_err now new order interfaces vips total place records packets e passed so_far means gives =
    let t = told now new order interfaces vips total place records packets (Err e) passed so_far gives in
    at_last t.0 order interfaces vips total place records packets (Err e) (Err e) t.1.0 (means t.0 t.1.1) (λ _. refl)

pub at_fault : (now new : Option (List ℕ)) (order : Order) (interfaces : List Interface) (vips : List Vip)
    (total : Captured) (place : Place) (records : List Record) (packets : List (List ℕ)) (e : CaptureFault) (passed : List ℕ)
    → SoFar now order interfaces vips total place records packets
    → BlockGives now new order interfaces place (Err e) passed → Captures total (Err e)
at_fault now new order interfaces vips total place records packets fault.ReadFault passed so_far gives = tt
at_fault now new order interfaces vips total place records packets fault.Memory passed so_far gives = tt
at_fault now new order interfaces vips total place records packets fault.NotACapture passed so_far gives =
    at_err now new order interfaces vips total place records packets fault.NotACapture passed so_far (λ _ h. h.0) gives
at_fault now new order interfaces vips total place records packets fault.BadVersion passed so_far gives =
    at_err now new order interfaces vips total place records packets fault.BadVersion passed so_far (λ _ h. h.0) gives
at_fault now new order interfaces vips total place records packets (fault.BadBlock block) passed so_far gives =
    at_err now new order interfaces vips total place records packets (fault.BadBlock block) passed so_far (λ _ h. h.0)
    gives
at_fault now new order interfaces vips total place records packets (fault.BadLink link) passed so_far gives =
    at_err now new order interfaces vips total place records packets (fault.BadLink link) passed so_far (λ _ h. h.0)
    gives
at_fault now new order interfaces vips total place records packets fault.TooLarge passed so_far gives =
    at_err now new order interfaces vips total place records packets fault.TooLarge passed so_far (λ _ h. h.0) gives
at_fault now new order interfaces vips total place records packets (fault.BadLength number n) passed so_far gives =
    at_err now new order interfaces vips total place records packets (fault.BadLength number n) passed so_far
    (λ _ h. h.0) gives
at_fault now new order interfaces vips total place records packets fault.TooManyPackets passed so_far gives =
    at_err now new order interfaces vips total place records packets fault.TooManyPackets passed so_far (λ _ h. h.0)
    gives

-- the octets of a packet are those of its block
in_block : (packet : Packet) (n : ℕ) (left : List ℕ) → packet.at + packet.len ≤ n
    → octets_in packet (take n left) ≡ packet_octets packet left
in_block packet n left within =
    let parts : n ≡ packet.at + (n - packet.at) = omega arith in
    let less : packet.len ≤ n - packet.at = omega arith in
    ap (λ (k : ℕ). take packet.len (drop packet.at (take k left))) parts
    ∙ ap (take packet.len) (drop-take packet.at (n - packet.at) left)
    ∙ take-take packet.len (n - packet.at) (drop packet.at left) less

pub goes_on : (now new : Option (List ℕ)) (order : Order) (interfaces : List Interface) (vips : List Vip)
    (total : Captured) (place : Place) (records : List Record) (packets : List (List ℕ)) (n : ℕ) (packet : Packet)
    (octets block : List ℕ) (moment : Moment) (body : Body) (part : List ℕ)
    → SoFar now order interfaces vips total place records packets
    → BlockGives now new order interfaces place (Ok (Block n (Holds packet))) block
    → place.block ≤ most_octets → packet.at + packet.len ≤ n → octets ≡ octets_in packet block
    → moment ≡ moment_at place packet.time → (body, part) ≡ classified_by packet.link vips octets
    → SoFar new order interfaces vips total (place_after place n (Holds packet))
    (records ++ record { moment = moment; body = body } ∷ []) (packets ++ part ∷ [])
goes_on now new order interfaces vips total place records packets n packet octets block moment body part so_far gives
    few within is is_moment class =
    let t = told now new order interfaces vips total place records packets (Ok (Block n (Holds packet))) block so_far
    gives in
    let own : octets ≡ packet_octets packet t.0 =
    is ∙ ap (octets_in packet) t.1.1.1 ∙ in_block packet n t.0 within in
    let one : Record × List ℕ → Captured → Captured = λ (p : Record × List ℕ) (c : Captured). with_record p.0 p.1 c in
    let behind : Place = place_after place n (Holds packet) in
    let rest : Captured = records_from vips (most_left behind) order interfaces behind (drop n t.0) in
    let same : (body, part) ≡ classified_by packet.link vips (packet_octets packet t.0) =
    class ∙ ap (classified_by packet.link vips) own in
    let added : with_record (record { moment = moment; body = body }) part rest
    ≡ after_found vips (records_from vips (most_octets + 1 - (place.block + 1))) order interfaces place t.0
    (Ok (Block n (Holds packet))) =
    ap₂ (λ (m : Moment) (c : Body × List ℕ). with_record (record { moment = m; body = c.0 }) c.1 rest) is_moment same
    in (
      drop n t.0,
      (
        t.1.1.2,
        sym (regroup records packets (record { moment = moment; body = body }) part rest)
            ∙ ap (with_front records packets)
            (added
            ∙ ap (after_found vips (records_from vips (most_octets + 1 - (place.block + 1))) order interfaces place t.0)
            (sym t.1.1.0) ∙ sym (one_step vips order interfaces place t.0 few))
            ∙ t.1.0,
      ),
    )

-- a block without a packet adds nothing
unread : (vips : List Vip) (order : Order) (interfaces : List Interface) (place : Place) (left : List ℕ)
    (records : List Record) (packets : List (List ℕ)) (total : Captured) (n : ℕ) (content : Content)
    → with_front records packets
    (after_found vips (records_from vips (most_octets + 1 - (place.block + 1))) order interfaces place left
    (Ok (Block n content))) ≡ total → IsPassedOver content
    → with_front records packets
    (records_from vips (most_left (place_after place n content)) (order_after order content)
    (interfaces_after interfaces content) (place_after place n content) (drop n left)) ≡ total
unread vips order interfaces place left records packets total n (Begins new) h over = h
unread vips order interfaces place left records packets total n (Describes interface) h over = h
unread vips order interfaces place left records packets total n Nothing h over = h
unread vips order interfaces place left records packets total n (Holds packet) h over = absurd over

pub passes_over : (now new : Option (List ℕ)) (order : Order) (interfaces : List Interface) (vips : List Vip)
    (total : Captured) (place : Place) (records : List Record) (packets : List (List ℕ)) (n : ℕ) (content : Content)
    (passed : List ℕ) → SoFar now order interfaces vips total place records packets
    → BlockGives now new order interfaces place (Ok (Block n content)) passed → IsPassedOver content
    → place.block ≤ most_octets
    → SoFar new (order_after order content) (interfaces_after interfaces content) vips total
    (place_after place n content) records packets
passes_over now new order interfaces vips total place records packets n content passed so_far gives over few =
    let t = told now new order interfaces vips total place records packets (Ok (Block n content)) passed so_far gives in
    let more : Order → List Interface → Place → List ℕ → Captured =
    records_from vips (most_octets + 1 - (place.block + 1)) in
    let all : with_front records packets
    (after_found vips more order interfaces place t.0 (Ok (Block n content))) ≡ total =
    ap (with_front records packets)
    (ap (after_found vips more order interfaces place t.0) (sym t.1.1.0)
    ∙ sym (one_step vips order interfaces place t.0 few)) ∙ t.1.0 in
    (drop n t.0, (t.1.1.2, unread vips order interfaces place t.0 records packets total n content all over))

-- what a reader that hasn't ended does
module _ {S : Type 0} (left : S → Option (List ℕ)) (faults : S → ℕ) (old new : Reader S) where
  pub advanced : (result : Result Step CaptureFault) → old.ended ≡ None
      → Advances left faults old new result (own_octets result new.passed)
      → BlockGives (to_come left old) (to_come left new) old.order old.interfaces old.place result
      (own_octets result new.passed)
      × HasStepCause (faults old.source) (faults new.source) result × Keeps old new result
  advanced result fresh h =
      let P : Option (Result Step CaptureFault) → Type 0 = λ o. AdvancesFrom left faults o old new result
      (own_octets result new.passed) in let a =
      subst P fresh h in (a.0, a.1, a.2)

  -- what it answered, where that is known
  pub gave : (result : Result Step CaptureFault) (answer : Result Step CaptureFault)
      → Advances left faults old new result (own_octets result new.passed)
      → result ≡ answer → Advances left faults old new answer (own_octets answer new.passed)
  gave result answer h is =
      let P : Result Step CaptureFault → Type 0 = λ r. Advances left faults old new r (own_octets r new.passed) in
      subst P is h

  last_by : (e : CaptureFault) → (before : Reader S) × ((before.ended ≡ None) × Advances left faults before new (Err e) [])
      → EndsWith left faults (Err e) new
  last_by fault.ReadFault h = h
  last_by fault.Memory h = tt
  last_by fault.NotACapture h = h
  last_by fault.BadVersion h = h
  last_by (fault.BadBlock block) h = h
  last_by (fault.BadLink link) h = h
  last_by fault.TooLarge h = h
  last_by (fault.BadLength number n) h = h
  last_by fault.TooManyPackets h = h

  pub last_fault : (result : Result Step CaptureFault) (e : CaptureFault) → old.ended ≡ None
      → Advances left faults old new result (own_octets result new.passed) → result ≡ Err e
      → EndsWith left faults (Err e) new
  last_fault result e fresh h is = last_by e (old, (fresh, gave result (Err e) h is))

pub moment_early : (place : Place) (time : Option ℕ) → place.last.0 ≤ latest → (moment_at place time).0 ≤ latest
moment_early place None early = early
moment_early place (Some time) early = omega (arith, early)

pub moment_late : (place : Place) (time : Option ℕ) → place.last.0 ≤ (moment_at place time).0
moment_late place None = omega arith
moment_late place (Some time) = omega arith

-- what holds a packet, and what doesn't
pub holds_packet : (content : Content) (packet : Packet) → packet_in content ≡ Some packet → content ≡ Holds packet
holds_packet (Holds packet) other is = ap (λ (p : Packet). Holds p) (cc)
holds_packet (Begins order) other is = cc
holds_packet (Describes interface) other is = cc
holds_packet Nothing other is = cc

pub without_packet : (content : Content) → packet_in content ≡ None → IsPassedOver content
without_packet (Holds packet) is = absurd (cc)
without_packet (Begins order) is = tt
without_packet (Describes interface) is = tt
without_packet Nothing is = tt

-- the place after a block
pub place_of : (place : Place) (n : ℕ) (content : Content)
    → ((place_after place n content).block ≡ place.block + 1) × ((place_after place n content).room ≡ place.room - n)
place_of place n (Holds packet) = (refl, refl)
place_of place n (Begins order) = (refl, refl)
place_of place n (Describes interface) = (refl, refl)
place_of place n Nothing = (refl, refl)

pub place_passed : (place : Place) (n : ℕ) (content : Content) → IsPassedOver content
    → ((place_after place n content).number ≡ place.number) × ((place_after place n content).last ≡ place.last)
place_passed place n (Holds packet) over = absurd over
place_passed place n (Begins order) over = (refl, refl)
place_passed place n (Describes interface) over = (refl, refl)
place_passed place n Nothing over = (refl, refl)

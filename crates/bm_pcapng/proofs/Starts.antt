-- The first block of a capture.
use Rattle.std.proofs.Common.{◌≡◌, ℕ, List, [], Option, Some, None, Ok, Err, ap, sym, subst, ◌∙◌}
use Rattle.std.specs.Io.KnownBytes.{Keeps}
use Rattle.bm_base.specs.declared.capture.Vip.{Vip}
use Rattle.bm_pcap.specs.declared.form.Order.{Order}
use Rattle.bm_pcap.specs.Limits.{most_octets}
use Rattle.bm_pcap.specs.declared.fault.CaptureFault.{CaptureFault}
use Rattle.bm_pcap.specs.declared.fault.CaptureFault.TheVariants as fault
use Rattle.bm_pcapng.specs.declared.interface.Interface.{Interface}
use Rattle.bm_pcapng.specs.declared.place.Place.{Place}
use Rattle.bm_pcapng.specs.Blocks.{next_of}
use Rattle.bm_pcapng.specs.Capture.{after_found, begun, capture, first_order}
use Rattle.bm_pcapng.specs.Inside.Causes.{IsOrderFault}
use Rattle.bm_pcapng.specs.Inside.Parts.{OrderGives, StepGives}
use Rattle.bm_pcapng.specs.Places.{first_place}
use Rattle.bm_pcapng.specs.Reader.{Refuses}
use Rattle.bm_pcapng.proofs.Heads.{known}
use Rattle.bm_pcapng.proofs.Loop.{any_step}

no_capture : (octets : List ℕ) (vips : List Vip) → first_order octets ≡ None
    → Err fault.NotACapture ≡ capture vips octets
unfolding capture
no_capture octets vips none = ap (begun vips octets) (sym none)

-- octets that give no order are no capture
pub refused_order : (old : Option (List ℕ)) (e : CaptureFault) → IsOrderFault e → OrderGives old (Err e) → Refuses old e
refused_order None e is gives = tt
refused_order (Some octets) fault.NotACapture is gives = λ vips. no_capture octets vips gives
refused_order (Some octets) fault.ReadFault is gives = λ vips. tt
refused_order (Some octets) fault.BadVersion is gives = absurd is
refused_order (Some octets) (fault.BadBlock block) is gives = absurd is
refused_order (Some octets) (fault.BadLink link) is gives = absurd is
refused_order (Some octets) fault.TooLarge is gives = absurd is
refused_order (Some octets) (fault.BadLength number n) is gives = absurd is
refused_order (Some octets) fault.TooManyPackets is gives = absurd is
refused_order (Some octets) fault.Memory is gives = absurd is

bad_first : (octets : List ℕ) (vips : List Vip) (order : Order) (e : CaptureFault) → first_order octets ≡ Some order
    → next_of order [] first_place octets ≡ Err e → Err e ≡ capture vips octets
unfolding capture
bad_first octets vips order e is found =
    let s = any_step vips most_octets order [] first_place octets in
    ap (after_found vips s.0 order [] first_place octets) (sym found) ∙ sym s.1 ∙ ap (begun vips octets) (sym is)

refused_by : (octets : List ℕ) (order : Order) (e : CaptureFault) → first_order octets ≡ Some order
    → StepGives (Some octets) order [] first_place (Err e) → Refuses (Some octets) e
refused_by octets order fault.ReadFault is found = λ vips. tt
refused_by octets order fault.Memory is found = λ vips. tt
refused_by octets order fault.NotACapture is found = λ vips. bad_first octets vips order fault.NotACapture is found
refused_by octets order fault.BadVersion is found = λ vips. bad_first octets vips order fault.BadVersion is found
refused_by octets order (fault.BadBlock block) is found =
    λ vips. bad_first octets vips order (fault.BadBlock block) is found
refused_by octets order (fault.BadLink link) is found =
    λ vips. bad_first octets vips order (fault.BadLink link) is found
refused_by octets order fault.TooLarge is found = λ vips. bad_first octets vips order fault.TooLarge is found
refused_by octets order (fault.BadLength number n) is found =
    λ vips. bad_first octets vips order (fault.BadLength number n) is found
refused_by octets order fault.TooManyPackets is found =
    λ vips. bad_first octets vips order fault.TooManyPackets is found

-- a fault of the first block is one of the capture
pub refused_first : (old mid : Option (List ℕ)) (order own : Order) (interfaces : List Interface) (place : Place)
    (e : CaptureFault) → OrderGives old (Ok order) → Keeps old mid → own ≡ order → interfaces ≡ [] → place ≡ first_place
    → StepGives mid own interfaces place (Err e) → Refuses old e
refused_first None mid order own interfaces place e gives keeps same none first found = tt
refused_first (Some octets) mid order own interfaces place e gives keeps same none first found =
    let O : Option (List ℕ) → Type 0 = λ o. StepGives o own interfaces place (Err e) in
    let S : Order → Type 0 = λ o. StepGives (Some octets) o interfaces place (Err e) in
    let I : List Interface → Type 0 = λ i. StepGives (Some octets) order i place (Err e) in
    let P : Place → Type 0 = λ p. StepGives (Some octets) order [] p (Err e) in
    refused_by octets order e gives
    (subst P first (subst I none (subst S same (subst O (known octets mid keeps) found))))

-- What the octets that were read say of the step that stands next.
use Rattle.std.proofs.Common.{◌≡◌, ℕ, true, false, ◌+◌, ◌-◌, ◌<◌, ◌≤◌, nat_lt, nat_le, ◌==◌, ◌||◌, ◌&&◌, inl, inr, min}
use Rattle.std.proofs.Common.{List, ◌++◌, length, Option, Some, None, unwrap_or, Result, Ok, Err, take, drop, ap, ap₂}
use Rattle.std.proofs.Common.{sym, subst, ◌∙◌, arith, length-append, refl}
use Rattle.std.proofs.lemmas.Bool.{cases_lt}
use Rattle.std.proofs.lemmas.Bool.Decides.{nat_tests}
use Rattle.std.proofs.lemmas.List.{take-take, drop-append-le, drop-take, drop_at, drop-drop, length-take}
use Rattle.std.proofs.lemmas.List.{length-take-le}
use Rattle.bm_pcap.specs.declared.fault.CaptureFault.{CaptureFault}
use Rattle.bm_pcap.specs.declared.fault.CaptureFault.TheVariants.{BadLength, TooLarge, TooManyPackets, NotACapture}
use Rattle.bm_pcap.specs.declared.fault.CaptureFault.TheVariants.{BadVersion, BadLink, BadBlock, ReadFault, Memory}
use Rattle.bm_pcap.specs.declared.form.Form.{Form}
use Rattle.bm_pcap.specs.declared.place.Place.{Place}
use Rattle.bm_pcap.specs.Limits.{longest, most_records}
use Rattle.bm_pcap.specs.declared.step.Head.{Head}
use Rattle.bm_pcap.specs.declared.step.Head.TheVariants as head
use Rattle.bm_pcap.specs.declared.step.Step.TheVariants as step
use Rattle.std.specs.Io.KnownBytes.{Keeps, prepend_known}
use Rattle.bm_pcap.specs.Window.{Ahead}
use Rattle.bm_pcap.specs.Inside.Parts.{HeadGives, HeadFits, HeadIn, stated}
use Rattle.bm_pcap.specs.Reader.{StepGives}
use Rattle.bm_pcap.specs.Records.{IsOpen, whole, cut, end, next_of, after_header, captured_length, short}

-- the definition at a place, by how many octets are left

next_end : (form : Form) (place : Place) (left : List ℕ) → length left ≡ 0 → next_of form place left ≡ Ok end
unfolding next_of
next_end form place left none = let t : (length left == 0) ≡ true = grind (arith, nat_tests, none) in rw t

next_past : (form : Form) (place : Place) (left : List ℕ) → 0 < length left → most_records < place.number
    → next_of form place left ≡ Err TooManyPackets
unfolding next_of
next_past form place left some past =
    let t : (length left == 0) ≡ false = grind (arith, nat_tests, some) in
    let u : nat_lt most_records place.number ≡ true = grind (arith, nat_tests, past) in
    rw (t, u)

next_short : (form : Form) (place : Place) (left : List ℕ) → 0 < length left → place.number ≤ most_records
    → (nat_lt (length left) 16 || nat_lt place.room 15) ≡ true → next_of form place left ≡ short place.room left
unfolding next_of
next_short form place left some few t =
    let u : (length left == 0) ≡ false = grind (arith, nat_tests, some) in
    let v : nat_lt most_records place.number ≡ false = grind (arith, nat_tests, few) in
    rw (u, v, t)

next_stated : (form : Form) (place : Place) (left : List ℕ) → 16 ≤ length left → place.number ≤ most_records
    → 15 ≤ place.room
    → next_of form place left ≡ after_header form place.number place.room (captured_length form (take 16 left)) left
unfolding next_of
next_stated form place left long few wide =
    let t : (length left == 0) ≡ false = grind (arith, nat_tests, long) in
    let u : nat_lt most_records place.number ≡ false = grind (arith, nat_tests, few) in
    let v : nat_lt (length left) 16 ≡ false = grind (arith, nat_tests, long) in
    let w : nat_lt place.room 15 ≡ false = grind (arith, nat_tests, wide) in
    rw (t, u, v, w)

short_large : (room : ℕ) (left : List ℕ) → room < length left → short room left ≡ Err TooLarge
short_large room left more = let t : nat_lt room (length left) ≡ true = grind (arith, nat_tests, more) in rw t

short_cut : (room : ℕ) (left : List ℕ) → length left ≤ room → short room left ≡ Ok cut
short_cut room left fits = let t : nat_lt room (length left) ≡ false = grind (arith, nat_tests, fits) in rw t

-- what a read that was wanted knows where the source's octets are known
known : (octets : List ℕ) (new : Option (List ℕ)) → Keeps (Some octets) new → new ≡ Some octets
known octets None keeps = absurd keeps
known octets (Some same) keeps = ap (λ z. Some z) keeps

-- after the last record that is allowed

pub past_more : (old : Option (List ℕ)) (form : Form) (place : Place) (n : ℕ) (ahead : List ℕ)
    → most_records < place.number → Ahead old 1 n ahead → 0 < n → HeadGives old form place (Err TooManyPackets)
past_more None form place n ahead past is some = tt
past_more (Some octets) form place n ahead past is some = next_past form place octets (omega (arith, is.0, some)) past

pub past_end : (old : Option (List ℕ)) (form : Form) (place : Place) (n : ℕ) (ahead : List ℕ) → Ahead old 1 n ahead
    → n ≤ 0 → HeadGives old form place (Ok head.End)
past_end None form place n ahead is none = tt
past_end (Some octets) form place n ahead is none = next_end form place octets (omega (arith, is.0, none))

-- a record's header

pub head_end : (old : Option (List ℕ)) (form : Form) (place : Place) (most n : ℕ) (ahead : List ℕ)
    → most ≡ min (place.room + 1) 16 → Ahead old most n ahead → n ≡ 0 → HeadGives old form place (Ok head.End)
head_end None form place most n ahead is_most is none = tt
head_end (Some octets) form place most n ahead is_most is none =
    next_end form place octets (omega (arith, is.0, none, is_most))

pub head_large : (old : Option (List ℕ)) (form : Form) (place : Place) (most n : ℕ) (ahead : List ℕ)
    → most ≡ min (place.room + 1) 16 → Ahead old most n ahead → n < 16 → place.room < n → place.number ≤ most_records
    → HeadGives old form place (Err TooLarge)
head_large None form place most n ahead is_most is part more few = tt
head_large (Some octets) form place most n ahead is_most is part more few =
    let there : 0 < length octets = omega (arith, is.0, more) in
    let t : (nat_lt (length octets) 16 || nat_lt place.room 15) ≡ true = grind (arith, nat_tests, part, more) in
    let over : place.room < length octets = omega (arith, is.0, more) in
    next_short form place octets there few t ∙ short_large place.room octets over

pub head_cut : (old : Option (List ℕ)) (form : Form) (place : Place) (most n : ℕ) (ahead : List ℕ)
    → most ≡ min (place.room + 1) 16 → Ahead old most n ahead → 0 < n → n < 16 → n ≤ place.room
    → place.number ≤ most_records → HeadGives old form place (Ok head.Cut)
head_cut None form place most n ahead is_most is some part fits few = tt
head_cut (Some octets) form place most n ahead is_most is some part fits few =
    let there : n ≡ length octets = omega (arith, is.0, is_most, fits, part) in
    let t : (nat_lt (length octets) 16 || nat_lt place.room 15) ≡ true = grind (arith, nat_tests, part, there) in
    let one : 0 < length octets = omega (arith, there, some) in
    next_short form place octets one few t ∙ short_cut place.room octets (omega (arith, there, fits))

-- what a header says that isn't read on, and one that is
refused : (form : Form) (place : Place) (len : ℕ) (left : List ℕ) → longest < len
    → after_header form place.number place.room len left ≡ Err (BadLength place.number len)
refused form place len left long = let t : nat_lt longest len ≡ true = grind (arith, nat_tests, long) in rw t

narrow : (form : Form) (place : Place) (len : ℕ) (left : List ℕ) → len ≤ longest → place.room < 16 + len
    → place.room < length left → after_header form place.number place.room len left ≡ Err TooLarge
narrow form place len left fits less over =
    let t : nat_lt longest len ≡ false = grind (arith, nat_tests, fits) in
    let u : (nat_le (16 + len) (length left) && nat_le (16 + len) place.room) ≡ false =
    grind (arith, nat_tests, less) in
    rw (t, u) (short_large place.room left over)

cut_off : (form : Form) (place : Place) (len : ℕ) (left : List ℕ) → len ≤ longest → length left < 16 + len
    → length left ≤ place.room → after_header form place.number place.room len left ≡ Ok cut
cut_off form place len left fits less within =
    let t : nat_lt longest len ≡ false = grind (arith, nat_tests, fits) in
    let u : (nat_le (16 + len) (length left) && nat_le (16 + len) place.room) ≡ false =
    grind (arith, nat_tests, less) in
    rw (t, u) (short_cut place.room left within)

head_told : (form : Form) (place : Place) (octets : List ℕ) → 16 ≤ length octets → 15 ≤ place.room
    → place.number ≤ most_records
    → HeadGives (Some octets) form place (stated form place (take 16 octets))
head_told form place octets long wide few =
    let len : ℕ = captured_length form (take 16 octets) in
    let at : next_of form place octets ≡ after_header form place.number place.room len octets =
    next_stated form place octets long few wide in
    elim (cases_lt longest len) [
      | inl above ↦
          let t : nat_lt longest (captured_length form (take 16 octets)) ≡ true = grind (arith, nat_tests, above) in
          rw t (at ∙ refused form place len octets above)
      | inr fits ↦
          let t : nat_lt longest (captured_length form (take 16 octets)) ≡ false = grind (arith, nat_tests, fits) in
          elim (cases_lt place.room 16) [
            | inl less ↦
                let u : nat_lt place.room 16 ≡ true = grind (arith, nat_tests, less) in
                rw (t, u) (at ∙ narrow form place len octets fits (omega (arith, less)) (omega (arith, less, long)))
            | inr more ↦
                let u : nat_lt place.room 16 ≡ false = grind (arith, nat_tests, more) in
                rw (t, u) (at, refl, long)
          ]
    ]

pub head_stated : (old : Option (List ℕ)) (form : Form) (place : Place) (most n : ℕ) (ahead shown : List ℕ)
    (result : Result Head CaptureFault) → most ≡ min (place.room + 1) 16 → n ≤ most → Ahead old most n ahead → 16 ≤ n
    → place.number ≤ most_records
    → shown ≡ ahead → result ≡ stated form place (take 16 shown) → HeadGives old form place result
head_stated None form place most n ahead shown result is_most bound is full few same said = tt
head_stated (Some octets) form place most n ahead shown result is_most bound is full few same said =
    let e : n ≡ 16 = omega (arith, is.0, is_most, full) in
    let front : take 16 shown ≡ take 16 octets =
    ap (take 16) same ∙ ap (λ m. take m ahead) (sym e) ∙ is.1 ∙ ap (λ m. take m octets) e in
    let P : Result Head CaptureFault → Type 0 = λ r. HeadGives (Some octets) form place r in
    subst P (sym (said ∙ ap (stated form place) front))
    (head_told form place octets (omega (arith, is.0, full)) (omega (arith, is_most, bound, full)) few)

-- A read that failed leaves what stands next open.

pub open_end : (form : Form) (place : Place) (ahead : List ℕ) → length ahead < 1 → IsOpen (next_of form place ahead)
open_end form place ahead none = rw (next_end form place ahead (omega (arith, none))) tt

pub open_head : (form : Form) (place : Place) (most : ℕ) (ahead : List ℕ) → most ≡ min (place.room + 1) 16
    → length ahead < most → place.number ≤ most_records → IsOpen (next_of form place ahead)
open_head form place most ahead is_most less few =
    elim (cases_lt (length ahead) 1) [
      | inl none ↦ open_end form place ahead none
      | inr some ↦
          let t : (nat_lt (length ahead) 16 || nat_lt place.room 15) ≡ true = grind (arith, nat_tests, is_most, less) in
          rw (
            next_short form place ahead (omega (arith, some)) few t,
            short_cut place.room ahead
                (omega (arith, is_most, less)),
          ) tt
    ]

pub open_body : (form : Form) (place : Place) (time len most : ℕ) (before ahead : List ℕ) (said : Head)
    → said ≡ head.States time len → HeadIn form before said → HeadFits place said → take (length before) ahead ≡ before
    → most ≡ min (16 + len) (place.room + 1) → length ahead < most → IsOpen (next_of form place ahead)
open_body form place time len most before ahead said is within fits grows is_most less =
    let P : Head → Type 0 = λ h. HeadIn form before h in
    let Q : Head → Type 0 = λ h. HeadFits place h in
    let h = subst P is within in
    let f = subst Q is fits in
    let long : 16 ≤ length ahead = omega (arith, h.0, ap length grows, length-take (length before) ahead) in
    let front : take 16 ahead ≡ take 16 before =
    sym (take-take 16 (length before) ahead h.0) ∙ ap (take 16) grows in
    let states : captured_length form (take 16 ahead) ≡ len = ap (captured_length form) front ∙ sym h.1 in
    rw (
      next_stated form place ahead long f.0 (omega (arith, f.1)),
      states,
      cut_off form place len ahead f.2
          (omega (arith, is_most, less)) (omega (arith, is_most, less)),
    ) tt

-- What was answered of a step, where the header or the body decides.

pub end_step : (old new : Option (List ℕ)) (form : Form) (place : Place) (said : Head) (passed : List ℕ)
    → said ≡ head.End → HeadGives old form place (Ok said) → Keeps old new
    → StepGives old new form place (Ok step.End) passed
end_step None new form place said passed is gives keeps = tt
end_step (Some octets) new form place said passed is gives keeps =
    let P : Head → Type 0 = λ h. HeadGives (Some octets) form place (Ok h) in
    (subst P is gives, known octets new keeps)

pub cut_step : (old new : Option (List ℕ)) (form : Form) (place : Place) (said : Head) (passed : List ℕ)
    → said ≡ head.Cut → HeadGives old form place (Ok said) → Keeps old new
    → StepGives old new form place (Ok step.Cut) passed
cut_step None new form place said passed is gives keeps = tt
cut_step (Some octets) new form place said passed is gives keeps =
    let P : Head → Type 0 = λ h. HeadGives (Some octets) form place (Ok h) in
    (subst P is gives, known octets new keeps)

fault_told : (octets : List ℕ) (new : Option (List ℕ)) (form : Form) (place : Place) (e : CaptureFault) (passed : List ℕ)
    → HeadGives (Some octets) form place (Err e) → new ≡ Some octets
    → StepGives (Some octets) new form place (Err e) passed
fault_told octets new form place ReadFault passed gives same = same
fault_told octets new form place Memory passed gives same = tt
fault_told octets new form place NotACapture passed gives same = (gives, same)
fault_told octets new form place BadVersion passed gives same = (gives, same)
fault_told octets new form place (BadLink link) passed gives same = (gives, same)
fault_told octets new form place (BadBlock block) passed gives same = (gives, same)
fault_told octets new form place TooLarge passed gives same = (gives, same)
fault_told octets new form place (BadLength number n) passed gives same = (gives, same)
fault_told octets new form place TooManyPackets passed gives same = (gives, same)

pub fault_step : (old new : Option (List ℕ)) (form : Form) (place : Place) (e : CaptureFault) (passed : List ℕ)
    → HeadGives old form place (Err e) → Keeps old new → StepGives old new form place (Err e) passed
fault_step None new form place e passed gives keeps = tt
fault_step (Some octets) new form place e passed gives keeps =
    fault_told octets new form place e passed gives (known octets new keeps)

pub failed_step : (old mid new : Option (List ℕ)) (form : Form) (place : Place) (passed : List ℕ) → Keeps old mid
    → Keeps mid new → StepGives old new form place (Err ReadFault) passed
failed_step None mid new form place passed h k = tt
failed_step (Some octets) mid new form place passed h k =
    let P : Option (List ℕ) → Type 0 = λ m. Keeps m new in known octets new (subst P (known octets mid h) k)

-- what is known at the body, where the source's octets are known
body_told : (octets : List ℕ) (mid new : Option (List ℕ)) (form : Form) (place : Place) (time len most n : ℕ)
    (ahead : List ℕ) (said : Head) → said ≡ head.States time len → HeadGives (Some octets) form place (Ok said)
    → HeadFits place said → Keeps (Some octets) mid → Ahead mid most n ahead → Keeps mid new
    → HeadGives (Some octets) form place (Ok (head.States time len)) × HeadFits place (head.States time len)
    × Ahead (Some octets) most n ahead × (new ≡ Some octets)
body_told octets mid new form place time len most n ahead said is gives fits keeps more same =
    let P : Head → Type 0 = λ h. HeadGives (Some octets) form place (Ok h) in
    let Q : Head → Type 0 = λ h. HeadFits place h in
    let A : Option (List ℕ) → Type 0 = λ m. Ahead m most n ahead in
    let K : Option (List ℕ) → Type 0 = λ m. Keeps m new in
    let e = known octets mid keeps in
    (subst P is gives, subst Q is fits, subst A e more, known octets new (subst K e same))

pub body_large : (old mid new : Option (List ℕ)) (form : Form) (place : Place) (time len most n : ℕ)
    (ahead passed : List ℕ) (said : Head) → said ≡ head.States time len → HeadGives old form place (Ok said)
    → HeadFits place said → Keeps old mid → Ahead mid most n ahead → Keeps mid new
    → most ≡ min (16 + len) (place.room + 1) → place.room < n → StepGives old new form place (Err TooLarge) passed
body_large None mid new form place time len most n ahead passed said is gives fits keeps more same is_most over = tt
body_large (Some octets) mid new form place time len most n ahead passed said is gives fits keeps more same is_most
    over =
    let b = body_told octets mid new form place time len most n ahead said is gives fits keeps more same in
    let less : place.room < 16 + len = omega (arith, b.2.0, over, is_most) in
    (b.0.0 ∙ narrow form place len octets b.1.2 less (omega (arith, b.2.0, over)), b.3)

pub body_cut : (old mid new : Option (List ℕ)) (form : Form) (place : Place) (time len most n : ℕ)
    (ahead passed : List ℕ) (said : Head) → said ≡ head.States time len → HeadGives old form place (Ok said)
    → HeadFits place said → Keeps old mid → Ahead mid most n ahead → Keeps mid new
    → most ≡ min (16 + len) (place.room + 1) → n ≤ place.room → n < 16 + len
    → StepGives old new form place (Ok step.Cut) passed
body_cut None mid new form place time len most n ahead passed said is gives fits keeps more same is_most within less =
    tt
body_cut (Some octets) mid new form place time len most n ahead passed said is gives fits keeps more same is_most within
    less =
    let b = body_told octets mid new form place time len most n ahead said is gives fits keeps more same in
    let all : n ≡ length octets = omega (arith, b.2.0, is_most, within, less) in
    (b.0.0 ∙ cut_off form place len octets b.1.2 (omega (arith, all, less)) (omega (arith, all, within)), b.3)

-- the last octets of a record are its own
last_of : (len : ℕ) (before ahead : List ℕ) → 16 + len ≤ length ahead
    → drop (length (before ++ take (16 + len) ahead) - len) (before ++ take (16 + len) ahead) ≡ take len (drop 16 ahead)
last_of len before ahead long =
    let whole : List ℕ = take (16 + len) ahead in
    let size : length whole ≡ 16 + len = length-take-le (16 + len) ahead long in
    let at : length (before ++ whole) - len ≡ length before + 16 = omega (arith, size, length-append before whole) in
    ap (λ m. drop m (before ++ whole)) at ∙ sym (drop-drop 16 (length before) (before ++ whole))
    ∙ ap (drop 16) (drop_at before whole (length before) refl) ∙ drop-take 16 len ahead

rest_behind : (octets : List ℕ) (left : Option (List ℕ)) (len : ℕ) (ahead : List ℕ) → 16 + len ≤ length ahead
    → prepend_known ahead left ≡ Some octets
    → prepend_known (drop (16 + len) ahead) left ≡ Some (drop (16 + len) octets)
rest_behind octets None len ahead long is = absurd (cc)
rest_behind octets (Some ys) len ahead long is =
    let all : octets ≡ ahead ++ ys = sym (ap (λ (o : Option (List ℕ)). unwrap_or o octets) is) in
    ap (λ z. Some z) (sym (ap (drop (16 + len)) all ∙ drop-append-le (16 + len) ahead ys long))

pub record_step : (old mid left after : Option (List ℕ)) (form : Form) (place : Place) (time len most n : ℕ)
    (ahead before passed behind : List ℕ) (said : Head) → said ≡ head.States time len
    → HeadGives old form place (Ok said) → HeadFits place said → Keeps old mid → Ahead mid most n ahead
    → Keeps mid (prepend_known ahead left)
    → most ≡ min (16 + len) (place.room + 1) → n ≤ length ahead → n ≤ place.room → 16 + len ≤ n
    → behind ≡ drop (16 + len) ahead → passed ≡ before ++ take (16 + len) ahead → after ≡ left
    → StepGives old (prepend_known behind after) form place (Ok (step.Record time len)) (drop (length passed - len) passed)
record_step None mid left after form place time len most n ahead before passed behind said is gives fits keeps more same
    is_most there within full rest gone source = tt
record_step (Some octets) mid left after form place time len most n ahead before passed behind said is gives fits keeps
    more same is_most there within full rest gone source =
    let b = body_told octets mid (prepend_known ahead left) form place time len most n ahead said is gives fits keeps
    more same in
    let e : n ≡ 16 + len = omega (arith, b.2.0, is_most, full) in
    let t : nat_lt longest len ≡ false = grind (arith, nat_tests, b.1.2) in
    let long : 16 + len ≤ length octets = omega (arith, b.2.0, full) in
    let u : (nat_le (16 + len) (length octets) && nat_le (16 + len) place.room) ≡ true =
    grind (arith, nat_tests, long, e, within) in
    let front : take (16 + len) ahead ≡ take (16 + len) octets =
    ap (λ m. take m ahead) (sym e) ∙ b.2.1 ∙ ap (λ m. take m octets) e in
    let own : drop (length passed - len) passed ≡ take len (drop 16 octets) =
    ap (λ (p : List ℕ). drop (length p - len) p) gone ∙ last_of len before ahead (omega (arith, there, full))
    ∙ sym (drop-take 16 len ahead) ∙ ap (drop 16) front ∙ drop-take 16 len octets in (
      b.0.0 ∙ rw (t, u) (ap₂ (λ (x : ℕ) (y : List ℕ). Ok (whole x y)) (sym b.0.1) (sym own)),
      ap₂ (λ (x : List ℕ) (y : Option (List ℕ)). prepend_known x y) rest source
          ∙ rest_behind octets left len ahead (omega (arith, there, full)) b.3,
    )

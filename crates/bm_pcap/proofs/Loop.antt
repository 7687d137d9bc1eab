-- Reading records one after the other, as a loop does.
use Rattle.std.proofs.Common.{◌≡◌, ◌≢◌, ℕ, zero, suc, ◌-◌, ◌+◌, ◌≤◌, List, [], ◌∷◌, ◌++◌, length, drop, Option, Some}
use Rattle.std.proofs.Common.{None, unwrap_or, Result, Ok, Err, refl, sym, ap, ap₂, subst, ◌∙◌, append_assoc, arith}
use Rattle.std.proofs.lemmas.List.{append-nil, drop_at, drop-drop}
use Rattle.std.specs.Io.KnownBytes.{prepend_known}
use Rattle.bm_base.specs.declared.capture.Body.{Body}
use Rattle.bm_base.specs.declared.capture.Record.{Record}
use Rattle.bm_base.specs.declared.capture.Vip.{Vip}
use Rattle.bm_base.specs.declared.ids.Moment.{Moment}
use Rattle.bm_link.specs.Classes.{classified}
use Rattle.bm_pcap.specs.declared.fault.CaptureFault.{CaptureFault}
use Rattle.bm_pcap.specs.declared.fault.CaptureFault.TheVariants as fault
use Rattle.bm_pcap.specs.declared.form.Form.{Form}
use Rattle.bm_pcap.specs.declared.item.Item.{Item}
use Rattle.bm_pcap.specs.declared.item.Item.TheVariants as item
use Rattle.bm_pcap.specs.declared.place.Place.{Place}
use Rattle.bm_pcap.specs.Limits.{most_records}
use Rattle.bm_pcap.specs.declared.step.Step.{Step}
use Rattle.bm_pcap.specs.declared.step.Step.TheVariants as step
use Rattle.bm_pcap.specs.Capture.{Captured, after_found, capture, ends, records_from, with_record}
use Rattle.bm_pcap.specs.Causes.{HasStepCause}
use Rattle.bm_pcap.specs.Reader.{Reader, Advances, AdvancesFrom, Captures, EndsWith, GivesNext, Keeps, StandsIn}
use Rattle.bm_pcap.specs.Reader.{StepGives, to_come}
use Rattle.bm_pcap.specs.Records.{whole, next_of, first_place, moment_at, after_record}

-- what was read before, and what is still read
abbrev pub with_front : List Record → List (List ℕ) → Captured → Captured
with_front records packets (Ok rest) =
    Ok (record { records = records ++ rest.0.records; cut = rest.0.cut }, packets ++ rest.1)
with_front records packets (Err e) = Err e

-- The records so far and those of what is left are those of the whole capture.
abbrev pub SoFar : Option (List ℕ) → Form → List Vip → Captured → Place → List Record → List (List ℕ) → Type 0
SoFar now form vips total place records packets =
    (left : List ℕ)
    × ((now ≡ Some left)
    × (with_front records packets (records_from form vips (most_records + 1 - place.number) place left) ≡ total))

pub no_front : (read : Captured) → with_front [] [] read ≡ read
no_front (Ok read) = refl
no_front (Err e) = refl

pub starts : (now : Option (List ℕ)) (form : Form) (vips : List Vip) (place : Place) (octets : List ℕ)
    → StandsIn now form octets → place ≡ first_place → SoFar now form vips (capture vips octets) place [] []
unfolding capture
starts now form vips place octets stands is =
    let P : Place → Type 0 = λ p. SoFar now form vips (capture vips octets) p [] [] in
    subst P (sym is) (
      drop 24 octets,
      (stands.1, no_front (records_from form vips most_records first_place (drop 24 octets)) ∙ rw stands.0),
    )

-- where nothing is read ahead, what is to come is what the source has left
pub stands_ahead : (now : Option (List ℕ)) (ahead : List ℕ) (form : Form) (octets : List ℕ) → ahead ≡ []
    → StandsIn now form octets → StandsIn (prepend_known ahead now) form octets
stands_ahead now ahead form octets none stands =
    (stands.0, ap₂ (λ (x : List ℕ) (y : Option (List ℕ)). prepend_known x y) none stands.1)

-- one step of the definition, whatever follows
any_step : (form : Form) (vips : List Vip) (most : ℕ) (place : Place) (left : List ℕ)
    → (others : Place → List ℕ → Captured)
    × (records_from form vips most place left ≡ after_found form vips others place left (next_of form place left))
unfolding records_from
any_step form vips zero place left = ((λ _ _. Err fault.TooManyPackets), refl)
any_step form vips (suc more) place left = (records_from form vips more, refl)

-- one step of the definition at a record
one_step : (form : Form) (vips : List Vip) (place : Place) (left : List ℕ) → place.number ≤ most_records
    → records_from form vips (most_records + 1 - place.number) place left
    ≡ after_found form vips (records_from form vips (most_records + 1 - (place.number + 1))) place left
    (next_of form place left)
unfolding records_from
one_step form vips place left few =
    let k : most_records + 1 - place.number ≡ suc (most_records + 1 - (place.number + 1)) = omega arith in rw k refl

-- what a loop knows where the source's octets are known
told : (now new : Option (List ℕ)) (form : Form) (vips : List Vip) (total : Captured) (place : Place)
    (records : List Record) (packets : List (List ℕ)) (found : Step) (buffer : List ℕ)
    → SoFar now form vips total place records packets → StepGives now new form place (Ok found) buffer
    → (left : List ℕ)
    × ((with_front records packets (records_from form vips (most_records + 1 - place.number) place left) ≡ total)
    × (StepGives (Some left) new form place (Ok found) buffer))
told now new form vips total place records packets found buffer so_far gives =
    let P : Option (List ℕ) → Type 0 = λ m. StepGives m new form place (Ok found) buffer in
    (so_far.0, (so_far.1.1, subst P so_far.1.0 gives))

pub ended : (records : List Record) (packets : List (List ℕ)) (one : Option ℕ)
    → with_front records packets (ends one) ≡ Ok (record { records = records; cut = one }, packets)
ended records packets one =
    ap₂ (λ (rs : List Record) (ps : List (List ℕ)). Ok (record { records = rs; cut = one }, ps)) (append-nil records)
    (append-nil packets)

pub at_cut : (now new : Option (List ℕ)) (form : Form) (vips : List Vip) (total : Captured) (place : Place)
    (records : List Record) (packets : List (List ℕ)) (buffer : List ℕ)
    → SoFar now form vips total place records packets → StepGives now new form place (Ok step.Cut) buffer
    → Ok (record { records = records; cut = Some place.number }, packets) ≡ total
at_cut now new form vips total place records packets buffer so_far gives =
    let t = told now new form vips total place records packets step.Cut buffer so_far gives in
    let s = any_step form vips (most_records + 1 - place.number) place t.0 in
    sym (ended records packets (Some place.number))
    ∙ ap (with_front records packets) (ap (after_found form vips s.0 place t.0) (sym t.1.1.0) ∙ sym s.1) ∙ t.1.0

pub at_end : (now new : Option (List ℕ)) (form : Form) (vips : List Vip) (total : Captured) (place : Place)
    (records : List Record) (packets : List (List ℕ)) (buffer : List ℕ)
    → SoFar now form vips total place records packets → StepGives now new form place (Ok step.End) buffer
    → Ok (record { records = records; cut = None }, packets) ≡ total
at_end now new form vips total place records packets buffer so_far gives =
    let t = told now new form vips total place records packets step.End buffer so_far gives in
    let s = any_step form vips (most_records + 1 - place.number) place t.0 in
    sym (ended records packets None)
    ∙ ap (with_front records packets) (ap (after_found form vips s.0 place t.0) (sym t.1.1.0) ∙ sym s.1) ∙ t.1.0

-- a fault that is neither a failed read nor want of memory is that of the octets
faulty : (now : Option (List ℕ)) (form : Form) (vips : List Vip) (total : Captured) (place : Place)
    (records : List Record) (packets : List (List ℕ)) (e : CaptureFault)
    → SoFar now form vips total place records packets
    → ((left : List ℕ) → now ≡ Some left → next_of form place left ≡ Err e) → Err e ≡ total
faulty now form vips total place records packets e so_far next =
    let s = any_step form vips (most_records + 1 - place.number) place so_far.0 in
    ap (with_front records packets)
    (ap (after_found form vips s.0 place so_far.0) (sym (next so_far.0 so_far.1.0)) ∙ sym s.1) ∙ so_far.1.1

at_err : (now new : Option (List ℕ)) (form : Form) (vips : List Vip) (total : Captured) (place : Place)
    (records : List Record) (packets : List (List ℕ)) (e : CaptureFault) (buffer : List ℕ)
    → SoFar now form vips total place records packets
    → ((left : List ℕ) → StepGives (Some left) new form place (Err e) buffer → next_of form place left ≡ Err e)
    → StepGives now new form place (Err e) buffer → Err e ≡ total
at_err now new form vips total place records packets e buffer so_far means gives =
    let P : Option (List ℕ) → Type 0 = λ m. StepGives m new form place (Err e) buffer in
    faulty now form vips total place records packets e so_far (λ left is. means left (subst P is gives))

pub at_fault : (now new : Option (List ℕ)) (form : Form) (vips : List Vip) (total : Captured) (place : Place)
    (records : List Record) (packets : List (List ℕ)) (e : CaptureFault) (buffer : List ℕ)
    → SoFar now form vips total place records packets → StepGives now new form place (Err e) buffer
    → Captures total (Err e)
at_fault now new form vips total place records packets fault.ReadFault buffer so_far gives = tt
at_fault now new form vips total place records packets fault.Memory buffer so_far gives = tt
at_fault now new form vips total place records packets fault.NotACapture buffer so_far gives =
    at_err now new form vips total place records packets fault.NotACapture buffer so_far (λ _ h. h.0) gives
at_fault now new form vips total place records packets fault.BadVersion buffer so_far gives =
    at_err now new form vips total place records packets fault.BadVersion buffer so_far (λ _ h. h.0) gives
at_fault now new form vips total place records packets (fault.BadLink link) buffer so_far gives =
    at_err now new form vips total place records packets (fault.BadLink link) buffer so_far (λ _ h. h.0) gives
at_fault now new form vips total place records packets (fault.BadBlock block) buffer so_far gives =
    at_err now new form vips total place records packets (fault.BadBlock block) buffer so_far (λ _ h. h.0) gives
at_fault now new form vips total place records packets fault.TooLarge buffer so_far gives =
    at_err now new form vips total place records packets fault.TooLarge buffer so_far (λ _ h. h.0) gives
at_fault now new form vips total place records packets (fault.BadLength number n) buffer so_far gives =
    at_err now new form vips total place records packets (fault.BadLength number n) buffer so_far (λ _ h. h.0) gives
at_fault now new form vips total place records packets fault.TooManyPackets buffer so_far gives =
    at_err now new form vips total place records packets fault.TooManyPackets buffer so_far (λ _ h. h.0) gives

pub regroup : (records : List Record) (packets : List (List ℕ)) (one : Record) (packet : List ℕ)
    (read : Captured)
    → with_front records packets (with_record one packet read)
    ≡ with_front (records ++ one ∷ []) (packets ++ packet ∷ []) read
regroup records packets one packet (Ok read) =
    ap₂ (λ (rs : List Record) (ps : List (List ℕ)). Ok (record { records = rs; cut = read.0.cut }, ps))
    (simp append_assoc) (simp append_assoc)
regroup records packets one packet (Err e) = refl

pub goes_on : (now new : Option (List ℕ)) (form : Form) (vips : List Vip) (total : Captured) (place : Place)
    (records : List Record) (packets : List (List ℕ)) (time : ℕ) (octets : List ℕ) (moment : Moment)
    (body : Body) (packet : List ℕ)
    → SoFar now form vips total place records packets
    → StepGives now new form place (Ok (step.Record time (length octets))) octets
    → place.number ≤ most_records → moment ≡ moment_at place time
    → (body, packet) ≡ classified form.link vips octets
    → SoFar new form vips total (after_record place time (length octets))
    (records ++ record { moment = moment; body = body } ∷ []) (packets ++ packet ∷ [])
goes_on now new form vips total place records packets time octets moment body packet so_far gives few is_moment class =
    let t = told now new form vips total place records packets (step.Record time (length octets)) octets so_far gives in
    let found : next_of form place t.0 ≡ Ok (whole time octets) = t.1.1.0 in
    let more : Place → List ℕ → Captured = records_from form vips (most_records + 1 - (place.number + 1)) in
    let rest : List ℕ = drop (16 + length octets) t.0 in
    let behind : Place = after_record place time (length octets) in
    let one : with_record (record { moment = moment_at place time; body = (classified form.link vips octets).0 })
    (classified form.link vips octets).1 (more behind rest) ≡ with_record (record { moment = moment; body = body })
    packet (more behind rest) =
    ap₂ (λ (m : Moment) (c : Body × List ℕ). with_record (record { moment = m; body = c.0 }) c.1 (more behind rest))
    (sym is_moment) (sym class) in (
      rest,
      (
        t.1.1.1,
        sym (regroup records packets (record { moment = moment; body = body }) packet (more behind rest))
            ∙ ap (with_front records packets)
            (sym one ∙ sym (ap (after_found form vips more place t.0) found) ∙ sym (one_step form vips place t.0 few))
            ∙ t.1.0,
      ),
    )

-- what a reader that hasn't ended does
module _ {S : Type 0} (left : S → Option (List ℕ)) (faults : S → ℕ) (old new : Reader S) where
  advances : (result : Result Step CaptureFault) (own : List ℕ) → old.ended ≡ None
      → Advances left faults old new result own
      → StepGives (to_come left old) (to_come left new) old.form old.place result own
      × HasStepCause (faults old.source) (faults new.source) result × Keeps old new result
  advances result own fresh h =
      let P : Option (Result Step CaptureFault) → Type 0 = λ o. AdvancesFrom left faults o old new result own in let a =
      subst P fresh h in (a.0, a.1, a.2)

  pub gave : (result : Result Item CaptureFault) (answer : Item) → GivesNext left faults old new result
      → result ≡ Ok answer → GivesNext left faults old new (Ok answer)
  gave result answer h is =
      let P : Result Item CaptureFault → Type 0 = λ r. GivesNext left faults old new r in subst P is h

  pub stepped : (found : Step) (own : List ℕ) → old.ended ≡ None → Advances left faults old new (Ok found) own
      → StepGives (to_come left old) (to_come left new) old.form old.place (Ok found) own
      × HasStepCause {T = Step} (faults old.source) (faults new.source) (Ok found) × Keeps old new (Ok found)
  stepped found own fresh h = advances (Ok found) own fresh h

  pub failed : (result : Result Item CaptureFault) (e : CaptureFault) → old.ended ≡ None
      → GivesNext left faults old new result → result ≡ Err e
      → StepGives (to_come left old) (to_come left new) old.form old.place (Err e) []
      × HasStepCause {T = Step} (faults old.source) (faults new.source) (Err e)
  failed result e fresh h is =
      let P : Result Item CaptureFault → Type 0 = λ r. GivesNext left faults old new r in
      let a = advances (Err e) [] fresh (subst P is h) in
      (a.0, a.1)

  last_by : (e : CaptureFault) → (before : Reader S) × ((before.ended ≡ None) × Advances left faults before new (Err e) [])
      → EndsWith left faults (Err e) new
  last_by fault.ReadFault h = h
  last_by fault.Memory h = tt
  last_by fault.NotACapture h = h
  last_by fault.BadVersion h = h
  last_by (fault.BadLink link) h = h
  last_by (fault.BadBlock block) h = h
  last_by fault.TooLarge h = h
  last_by (fault.BadLength number n) h = h
  last_by fault.TooManyPackets h = h

  pub last_of : (result : Result Item CaptureFault) (e : CaptureFault) → old.ended ≡ None
      → GivesNext left faults old new result → result ≡ Err e → EndsWith left faults (Err e) new
  last_of result e fresh h is =
      let P : Result Item CaptureFault → Type 0 = λ r. GivesNext left faults old new r in
      last_by e (old, (fresh, subst P is h))

  -- the count stays where an item is answered
  pub answered : (result : Result Item CaptureFault) (answer : Item) → old.ended ≡ None
      → GivesNext left faults old new result → result ≡ Ok answer
      → faults new.source ≡ faults old.source
  answered result (item.Record number moment octets) fresh h is =
      let given = gave result (item.Record number moment octets) h is in
      (advances _ _ fresh given.1.0).1.kept (λ e. cc)
  answered result (item.Cut number) fresh h is =
      (advances _ _ fresh (gave result (item.Cut number) h is).0).1.kept (λ e. cc)
  answered result item.End fresh h is = (advances _ _ fresh (gave result item.End h is)).1.kept (λ e. cc)

-- a cause where the count stood still before it, and where it stands still
pub cause_from : {S T : Type 0} (before mid now : ℕ) (e : CaptureFault) → mid ≡ before
    → HasStepCause {T = S} mid now (Err e)
    → HasStepCause {T = T} before now (Err e)
cause_from before mid now e same cause = record {
  later = omega (arith, same, cause.later);
  failed = λ is. rw (sym same) (cause.failed cc);
  kept = λ not. cause.kept (λ is. not cc) ∙ same;
}

pub cause_still : {T : Type 0} (before now : ℕ) (result : Result T CaptureFault) → now ≡ before
    → result ≢ Err fault.ReadFault
    → HasStepCause before now result
cause_still before now result same not = record {
  later = omega (arith, same);
  failed = λ is. absurd (not is);
  kept = λ _. same;
}

pub wants_memory : {T : Type 0} (result : Result T CaptureFault) (e : CaptureFault) → result ≡ Err e → e ≡ fault.Memory
    → result ≢ Err fault.ReadFault
wants_memory result e is memory not = let wrong : fault.Memory ≡ fault.ReadFault = cc in absurd (cc)

pub first_number : (place : Place) → place ≡ first_place → place.number ≡ 1
first_number place is = ap (λ (p : Place). p.number) is

-- Once this many octets of a capture are consumed, the source has left what comes after the octets
-- that were read ahead: these were taken from it and aren't consumed.
pub taken : (left : Option (List ℕ)) (ahead octets : List ℕ) (answered : ℕ)
    → prepend_known ahead left ≡ Some (drop answered octets) → left ≡ Some (drop (answered + length ahead) octets)
taken None ahead octets answered is = absurd (cc)
taken (Some ys) ahead octets answered is =
    let all : ahead ++ ys ≡ drop answered octets = ap (λ (o : Option (List ℕ)). unwrap_or o ys) is in
    ap (λ (z : List ℕ). Some z)
    (sym (drop_at ahead ys (length ahead) refl) ∙ ap (drop (length ahead)) all
    ∙ drop-drop (length ahead) answered octets)

-- What is known of a capture's beginning while its records are read.
use Rattle.std.proofs.Common.{◌≡◌, ◌⊎◌, inl, inr, ℕ, ◌≤◌, List, Option, Some, None, unwrap_or, Ok, refl}
use Rattle.std.proofs.Common.{sym, ap, subst, ◌∙◌, drop}
use Rattle.bm_pcap.specs.declared.form.Form.{Form}
use Rattle.bm_pcap.specs.declared.place.Place.{Place}
use Rattle.bm_pcap.specs.declared.step.Step.{Step}
use Rattle.bm_pcap.specs.declared.step.Step.TheVariants as step
use Rattle.bm_pcap.specs.Began.{began, first_time, time_in}
use Rattle.bm_pcap.specs.Limits.{latest}
use Rattle.bm_pcap.specs.Reader.{StandsIn, StepGives, found_in}
use Rattle.bm_pcap.specs.Records.{next_of, first_place, after_record}

-- Record 1 is still to come, and its time is this.
pub record IsToCome (now : Option (List ℕ)) (form : Form) (place : Place) (time : ℕ) : Type 0 where
  pub at : place ≡ first_place
  pub left : List ℕ
  pub told : now ≡ Some left
  pub first : time_in (next_of form first_place left) ≡ time

-- The capture began at this time: that of record 1, which was read or is still to come.
abbrev pub BeganAt : Option (List ℕ) → Form → Place → ℕ → Type 0
BeganAt now form place time = (place.first ≡ Some time) ⊎ IsToCome now form place time

pub began_starts : (now : Option (List ℕ)) (form : Form) (place : Place) (octets : List ℕ)
    → StandsIn now form octets → place ≡ first_place → BeganAt now form place (began octets)
unfolding began
began_starts now form place octets stands is = inr (record {
  at = is;
  left = drop 24 octets;
  told = stands.1;
  first = sym (ap (first_time (drop 24 octets)) stands.0);
})

-- what stands next, where record 1 is still to come
first_found : (now new : Option (List ℕ)) (form : Form) (place : Place) (found : Step) (passed : List ℕ) (time : ℕ)
    → IsToCome now form place time → StepGives now new form place (Ok found) passed
    → time ≡ time_in (Ok (found_in found passed))
first_found now new form place found passed time come gives =
    let at_first = subst (λ p. StepGives now new form p (Ok found) passed) come.at gives in
    let told = subst (λ m. StepGives m new form first_place (Ok found) passed) come.told at_first in
    sym come.first ∙ ap time_in told.0

pub began_more : (now new : Option (List ℕ)) (form : Form) (place : Place) (time n : ℕ) (passed : List ℕ) (first : ℕ)
    → BeganAt now form place first → StepGives now new form place (Ok (step.Record time n)) passed
    → BeganAt new form (after_record place time n) first
began_more now new form place time n passed first (inl known) gives =
    inl (ap (λ (f : Option ℕ). Some (unwrap_or f time)) known)
began_more now new form place time n passed first (inr come) gives =
    inl
    (ap (λ (p : Place). Some (unwrap_or p.first time)) come.at
    ∙ ap (λ (t : ℕ). Some t) (sym (first_found now new form place (step.Record time n) passed first come gives)))

abbrev pub HasNoTime : Step → Type 0
HasNoTime (step.Record time n) = ⊥
HasNoTime step.Cut = Unit {0}
HasNoTime step.End = Unit {0}

no_time : (found : Step) (passed : List ℕ) → HasNoTime found → time_in (Ok (found_in found passed)) ≡ 0
no_time (step.Record time n) passed h = absurd h
no_time step.Cut passed h = refl
no_time step.End passed h = refl

pub began_ends : (now new : Option (List ℕ)) (form : Form) (place : Place) (found : Step) (passed : List ℕ) (first : ℕ)
    → HasNoTime found → BeganAt now form place first → StepGives now new form place (Ok found) passed
    → unwrap_or place.first 0 ≡ first
began_ends now new form place found passed first none (inl known) gives =
    ap (λ (f : Option ℕ). unwrap_or f 0) known
began_ends now new form place found passed first none (inr come) gives =
    ap (λ (p : Place). unwrap_or p.first 0) come.at
    ∙ sym (first_found now new form place found passed first come gives ∙ no_time found passed none)

-- no captured time is later than the latest
pub first_early : (first : Option ℕ) (time : ℕ) → unwrap_or first 0 ≤ latest → time ≤ latest
    → unwrap_or first time ≤ latest
first_early None time before now = now
first_early (Some first) time before now = before

-- What comes before all commands comes next, whichever of these is the soonest.
use Rattle.std.proofs.Common.{◌≡◌, ℕ, true, false, inl, inr, Option, Some, None, refl, sym, ap, subst}
use Rattle.std.proofs.Common.{◌∙◌, arith}
use Rattle.std.specs.Prelude.{nat_le}
use Rattle.std.proofs.lemmas.Bool.{cases_Bool}
use Rattle.std.proofs.lemmas.Bool.Decides.{nat_tests}
use Rattle.bm_base.specs.declared.ids.Moment.{Moment}
use Rattle.bm_core.specs.declared.schedule.Due.{Due}
use Rattle.bm_core.specs.Schedule.{comes_first}
use Rattle.bm_replay.specs.declared.coming.Coming.TheVariants.{Arrive}
use Rattle.bm_replay.specs.Inside.Comings.{coming_of, first_coming, is_before, is_no_later, soonest_of, sooner_of}

-- before both is before the sooner
pub before_sooner : (m : ℕ) (a b : Option Due) → is_before m a ≡ true → is_before m b ≡ true
    → is_before m (sooner_of a b) ≡ true
before_sooner m a None one two = one
before_sooner m None (Some d) one two = two
before_sooner m (Some c) (Some d) one two = elim (cases_Bool (comes_first d c)) [
  | inl is ↦ rw is two
  | inr other ↦ rw other one
]

-- a packet that is due before the command comes first
first_packet : (command : Option Due) (d : Due) → is_before d.moment command ≡ true
    → sooner_of command (Some d) ≡ Some d
first_packet None d before = refl
first_packet (Some c) d before =
    let first : comes_first d c ≡ true = grind (arith, nat_tests)
    in rw first refl

-- the number of a moment, if there is one
abbrev number : Option Moment → ℕ
number None = 0
number (Some m) = m.0

-- a copy that is due before the command comes first, if it is no later than the packet
first_copy : (command : Option Due) (c : Moment) (packet : Option Due) → is_before c.0 command ≡ true
    → is_no_later c.0 packet ≡ true → first_coming command (Some c) packet ≡ Arrive c
first_copy command c packet before early = rw (before, early) refl

-- a copy that is later than the packet doesn't come
later_copy : (command : Option Due) (c : Moment) (packet : Option Due) → is_no_later c.0 packet ≡ false
    → first_coming command (Some c) packet ≡ coming_of (sooner_of command packet)
later_copy command c packet late = elim (cases_Bool (is_before c.0 command)) [
  | inl is ↦ rw (is, late) refl
  | inr other ↦ rw other refl
]

-- without the command, the same comes next
pub quiet : (command : Option Due) (copy : Option Moment) (packet : Option Due) (m : Moment)
    → soonest_of copy packet ≡ Some m → is_before m.0 command ≡ true
    → first_coming None copy packet ≡ first_coming command copy packet
quiet command None None m is before = absurd (cc)
quiet command None (Some d) m is before =
    let at : m.0 ≡ d.moment = sym (ap number is)
    in ap coming_of (sym (first_packet command d (subst (λ (n : ℕ). is_before n command ≡ true) at before)))
quiet command (Some c) None m is before =
    let at : m.0 ≡ c.0 = sym (ap number is)
    in first_copy None c None refl refl
    ∙ sym (first_copy command c None (subst (λ (n : ℕ). is_before n command ≡ true) at before) refl)
quiet command (Some c) (Some d) m is before = elim (cases_Bool (nat_le c.0 d.moment)) [
  | inl early ↦
      let here : Some c ≡ Some m = rw early at is
      in let at : m.0 ≡ c.0 = sym (ap number here)
      in first_copy None c (Some d) refl early
      ∙ sym (first_copy command c (Some d) (subst (λ (n : ℕ). is_before n command ≡ true) at before) early)
  | inr late ↦
      let here : ◌≡◌ {A = Option Moment} (Some (record { 0 = d.moment })) (Some m) = rw late at is
      in let at : m.0 ≡ d.moment = sym (ap number here)
      in later_copy None c (Some d) late
      ∙ (ap coming_of (sym (first_packet command d (subst (λ (n : ℕ). is_before n command ≡ true) at before)))
      ∙ sym (later_copy command c (Some d) late))
]

-- Whether a worker gave up, and why.
use Rattle.std.proofs.Common.{◌≡◌, ℕ, zero, suc, Bool, true, false, ◌||◌, List, [], ◌∷◌, Option, Some, None, refl, sym}
use Rattle.std.proofs.Common.{ap}
use Rattle.std.proofs.Common.{◌∙◌, subst, inl, inr, ◌⊎◌}
use Rattle.std.specs.Prelude.{is_some, slice_get, Result, Ok, Err, MatchBool}
use Rattle.std.proofs.lemmas.Option.{same_Some}
use Rattle.bm_worker.specs.declared.stop.Stop.{Stop}
use Rattle.bm_worker.specs.declared.stop.Stop.TheVariants.{Late, Memory}
use Rattle.bm_worker.specs.declared.worker.MuxWorker.{MuxWorker}
use Rattle.bm_world.specs.Inside.RunStates.{one_stopped, stop_in, wants_memory, HaveNotStopped, IsLate, IsTooLate}

left_false : (a b : Bool) → (a || b) ≡ false → (a ≡ false) × (b ≡ false)
left_false true b is = absurd (cc)
left_false false b is = (refl, is)

none_so : (test : Option Stop → Bool) (workers : List MuxWorker) → one_stopped test workers ≡ false
    → (m : ℕ) (w : MuxWorker) → slice_get workers m ≡ Some w → test w.stop ≡ false
none_so test [] is m w here = absurd (cc)
none_so test (x ∷ workers) is zero w here =
    subst (λ (y : MuxWorker). test y.stop ≡ false) (same_Some x w here) (left_false _ _ is).0
none_so test (x ∷ workers) is (suc m) w here = none_so test workers (left_false _ _ is).1 m w here

one_so : (test : Option Stop → Bool) (workers : List MuxWorker) → one_stopped test workers ≡ true
    → (m : ℕ) × (w : MuxWorker) × (slice_get workers m ≡ Some w) × (test w.stop ≡ true)
one_so test [] is = absurd (cc)
one_so test (x ∷ workers) is = go (test x.stop) refl is (λ h. one_so test workers h) where
  go : (b : Bool) → test x.stop ≡ b → (b || one_stopped test workers) ≡ true
      → (one_stopped test workers ≡ true
      → (m : ℕ) × (w : MuxWorker) × (slice_get workers m ≡ Some w) × (test w.stop ≡ true))
      → (m : ℕ) × (w : MuxWorker) × (slice_get (x ∷ workers) m ≡ Some w) × (test w.stop ≡ true)
  go true here is old = (0, x, refl, here)
  go false here is old = let rest = old is in (suc rest.0, rest.1, rest.2, rest.3)

too_late : (stop : Option Stop) → is_some stop ≡ true → wants_memory stop ≡ false → IsTooLate stop
too_late None is not = absurd (cc)
too_late (Some Memory) is not = absurd (cc)
too_late (Some (Late moment clock)) is not = tt

not_wanting : (stop : Option Stop) → wants_memory stop ≡ false → stop ≡ Some Memory → ⊥
not_wanting stop not is = let bad : true ≡ false = ap wants_memory (sym is) ∙ not in absurd (cc)

no_stop : (stop : Option Stop) → is_some stop ≡ false → stop ≡ None
no_stop None is = refl
no_stop (Some stop) is = absurd (cc)

led_ok : (led : Result (Unit {0}) Stop) → is_some (stop_in led) ≡ false → led ≡ Ok tt
led_ok (Ok tt) is = refl
led_ok (Err stop) is = absurd (cc)

led_err : (led : Result (Unit {0}) Stop) → is_some (stop_in led) ≡ true → (stop : Stop) × (led ≡ Err stop)
led_err (Ok tt) is = absurd (cc)
led_err (Err stop) is = (stop, refl)

is_late : (led : Result (Unit {0}) Stop) (workers : List MuxWorker) → wants_memory (stop_in led) ≡ false
    → one_stopped wants_memory workers ≡ false
    → (is_some (stop_in led) ≡ true) ⊎ (one_stopped (λ stop. is_some stop) workers ≡ true) → IsLate led workers
is_late led workers first none some = record {
  first = λ is. not_wanting (stop_in led) first (ap stop_in is);
  each = λ m w here. not_wanting w.stop (none_so wants_memory workers none m w here);
  some = go some;
} where
  go : (is_some (stop_in led) ≡ true) ⊎ (one_stopped (λ stop. is_some stop) workers ≡ true)
      → ((stop : Stop) × (led ≡ Err stop))
      ⊎ ((m : ℕ) × (w : MuxWorker) × (slice_get workers m ≡ Some w) × IsTooLate w.stop)
  go (inl is) = inl (led_err led is)
  go (inr is) =
      let one = one_so (λ stop. is_some stop) workers is
      in inr (one.0, one.1, one.2, too_late one.1.stop one.3 (none_so wants_memory workers none one.0 one.1 one.2))

-- worker 0 gave up
pub late_first : (led : Result (Unit {0}) Stop) (workers : List MuxWorker) (first : Option Stop) (b : Bool)
    → first ≡ stop_in led → wants_memory first ≡ false → one_stopped wants_memory workers ≡ false → b ≡ true
    → b ≡ is_some first → MatchBool b (IsLate led workers) ((led ≡ Ok tt) × HaveNotStopped workers)
late_first led workers first b same wants none is some =
    subst (λ (x : Bool). MatchBool x (IsLate led workers) ((led ≡ Ok tt) × HaveNotStopped workers)) (sym is)
    (is_late led workers (ap wants_memory (sym same) ∙ wants) none
    (inl (ap (λ (o : Option Stop). is_some o) (sym same) ∙ sym some ∙ is)))

-- it didn't, and another may have
pub late_others : (led : Result (Unit {0}) Stop) (workers : List MuxWorker) (first : Option Stop) (a b : Bool)
    → first ≡ stop_in led → wants_memory first ≡ false → one_stopped wants_memory workers ≡ false → a ≡ false
    → a ≡ is_some first → b ≡ one_stopped (λ stop. is_some stop) workers
    → MatchBool b (IsLate led workers) ((led ≡ Ok tt) × HaveNotStopped workers)
late_others led workers first a true same wants none not some is =
    is_late led workers (ap wants_memory (sym same) ∙ wants) none (inr (sym is))
late_others led workers first a false same wants none not some is = (
  led_ok led (ap (λ (o : Option Stop). is_some o) (sym same) ∙ sym some ∙ not),
  λ m w here. no_stop w.stop (none_so (λ stop. is_some stop) workers (sym is) m w here),
)

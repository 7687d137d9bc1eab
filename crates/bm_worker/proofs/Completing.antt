-- How a sending is completed: sums over notes.
use Rattle.std.proofs.Common.{◌≡◌, ℕ, suc, ◌+◌, ◌<◌, ◌≤◌, ◌==◌, ◌&&◌, Bool, true, false, cond, inl, inr, List, [], ◌∷◌}
use Rattle.std.proofs.Common.{◌++◌, Option, option_map}
use Rattle.std.proofs.Common.{None, Some, refl, sym, ap, subst, arith, leb, ltb}
use Rattle.std.proofs.lemmas.Bool.{cases_Bool, eqb-true, eqb-false, eq-eqb, ne_eqb, lt-ltb, leb-true}
use Rattle.bm_base.specs.declared.ids.Moment.{Moment}
use Rattle.bm_base.specs.declared.ids.ServerId.{ServerId}
use Rattle.bm_base.specs.declared.label.Hop.{Hop}
use Rattle.bm_base.specs.Labels.{hop_after}
use Rattle.bm_base.specs.declared.fate.Fate.{Fate}
use Rattle.bm_core.specs.declared.events.Verdict.{Verdict}
use Rattle.bm_core.specs.declared.events.Verdict.TheVariants.{Accept, Process, Forward, Reset, Drop}
use Rattle.bm_core.specs.declared.events.What.TheVariants.{Arrive}
use Rattle.bm_core.specs.Past.{same_hop, is_forward, is_sending, sending_of, sends}
use Rattle.bm_merge.specs.Notes.{Note}
use Rattle.bm_merge.proofs.Noting.{total_append}
use Rattle.bm_worker.specs.Inside.WorkerNotes.{arrival, loss}
use Rattle.bm_worker.specs.Inside.Pending.{Pending, Completes, comes, comes_by, copyless_at, pending, pending_copyless, pending_gives}
use Rattle.bm_worker.specs.Inside.Pending.{pending_gives_by}
use Rattle.bm_worker.specs.Inside.Pending.{gives, gives_by, is_of, lost_at, with_copies}

nothing : (b : Bool) → ◌≡◌ {A = ℕ} (cond b 0 0) 0
nothing true = refl
nothing false = refl

one_more : (b : Bool) (i : ℕ) → cond b (i + 1) 0 ≡ cond b i 0 + cond b 1 0
one_more true i = refl
one_more false i = refl

-- NO COPY YET

pub completes_none : (d : Pending) → Completes false (with_copies d 0) []
completes_none d = record {
  lost = λ k hop clock. refl;
  sent = λ k hop clock. omega arith;
  arrived = λ k hop. let z = nothing (is_of d k hop) in omega arith;
}

-- ONE MORE COPY, with all that came of it

pub completes_more : (d : Pending) (i : ℕ) (x y : List Note) → Completes false (with_copies d i) x → Completes false (with_copies d 1) y
    → Completes false (with_copies d (i + 1)) (y ++ x)
completes_more d i x y p q = record {
  lost = λ k hop clock.
      let a = total_append (lost_at k hop clock) y x in let b = total_append (copyless_at k hop clock) y x in
      let one = p.lost k hop clock in let two = q.lost k hop clock in omega arith;
  sent = λ k hop clock.
      let a = total_append (comes_by k hop clock) y x in let b = total_append (gives_by k hop clock) y x in
      let one = p.sent k hop clock in let two = q.sent k hop clock in
      let z = one_more (is_of d k hop && ltb d.clock clock) i in omega arith;
  arrived = λ k hop.
      let a = total_append (comes k hop) y x in let b = total_append (gives k hop) y x in
      let one = p.arrived k hop in let two = q.arrived k hop in let z = one_more (is_of d k hop) i in omega arith;
}

-- ONE COPY

in_time : (b : Bool) (clock at c : ℕ) → clock < at → cond (b && leb at c) 1 0 ≤ cond (b && ltb clock c) 1 0
in_time false clock at c lt = omega arith
in_time true clock at c lt = elim (cases_Bool (leb at c)) [
  | inl here ↦ let le : at ≤ c = leb-true at c here in rw (here, lt-ltb clock c (omega (arith, le, lt))) (omega arith)
  | inr other ↦ rw other (omega arith)
]

pub no_sending : (k : ℕ) (hop : Hop) (server : ServerId) (v : Verdict) → is_forward v ≡ false
    → sending_of (Arrive k hop server v) ≡ None
no_sending k hop server Accept not = refl
no_sending k hop server (Process t) nott = refl
no_sending k hop server (Forward s) not = absurd (let bad : true ≡ false = not in cc)
no_sending k hop server (Reset w) not = refl
no_sending k hop server (Drop w) not = refl

pub completes_one : (w : ℕ) (d : Pending) (clock : Moment) (server : ServerId) (v : Verdict) (fate : Fate) (due : ℕ)
    → sending_of (Arrive d.packet d.hop server v) ≡ None → due ≡ d.clock + d.fate.delay → due < clock.0
    → Completes false (with_copies d 1) (arrival clock d.packet d.hop server v fate due w ∷ [])
completes_one w d clock server v fate due none is lt = record {
  lost = λ k hop c. rw none refl;
  sent = λ k hop c. rw none (let le = in_time (is_of d k hop) d.clock clock.0 c (omega (arith, is, lt)) in omega arith);
  arrived = λ k hop. rw none refl;
}

-- a copy that is forwarded, and all copies of the forward
pub completes_forward : (w : ℕ) (d : Pending) (next : Hop) (clock : Moment) (server to : ServerId) (fate : Fate) (due : ℕ)
    (y : List Note)
    → hop_after d.hop ≡ Some next → due ≡ d.clock + d.fate.delay → due < clock.0
    → Completes true (pending d.packet next clock.0 fate) y
    → Completes false (with_copies d 1) (y ++ arrival clock d.packet d.hop server (Forward to) fate due w ∷ [])
completes_forward w d next clock server to fate due y after is lt p =
    let n = arrival clock d.packet d.hop server (Forward to) fate due w in
    let sent : (k : ℕ) (h : Hop) → sends (Arrive d.packet d.hop server (Forward to)) k h
    ≡ (d.packet == k && same_hop next h) =
    λ k h. ap (λ (o : Option Hop). is_sending (option_map (λ x. record { packet = d.packet; hop = x }) o) k h) after in
    record {
      lost = λ k h c.
          let a = total_append (lost_at k h c) y (n ∷ []) in let b = total_append (copyless_at k h c) y (n ∷ []) in
          let one = p.lost k h c in
          let same : copyless_at k h c n ≡ pending_copyless (pending d.packet next clock.0 fate) k h c =
          ap (λ (t : Bool). cond (t && ((fate.copies == 0) && (clock.0 == c))) 1 0) (sent k h) in omega arith;
      sent = λ k h c.
          let a = total_append (comes_by k h c) y (n ∷ []) in let b =
          total_append (gives_by k h c) y (n ∷ []) in let one = p.sent k h c in
          let same : gives_by k h c n ≡ pending_gives_by (pending d.packet next clock.0 fate) k h c =
          ap (λ (t : Bool). cond (t && ltb clock.0 c) fate.copies 0) (sent k h) in
          let le = in_time (is_of d k h) d.clock clock.0 c (omega (arith, is, lt)) in omega arith;
      arrived = λ k h.
          let a = total_append (comes k h) y (n ∷ []) in let b = total_append (gives k h) y (n ∷ []) in let one =
          p.arrived k h in
          let same : gives k h n ≡ pending_gives (pending d.packet next clock.0 fate) k h =
          ap (λ (t : Bool). cond t fate.copies 0) (sent k h) in omega arith;
    }

-- THE WHOLE DEBT

not_zero : (b c : Bool) (n : ℕ) → 1 ≤ n → ◌≡◌ {A = ℕ} (cond (b && ((n == 0) && c)) 1 0) 0
not_zero false c n le = refl
not_zero true c n le = rw (ne_eqb n 0 (λ e. omega (arith, e, le))) refl

pub completes_whole : (d : Pending) (x : List Note) → 1 ≤ d.fate.copies → Completes false (with_copies d d.fate.copies) x
    → Completes true d x
completes_whole d x le p = record {
  lost = λ k hop c.
      let z = not_zero (is_of d k hop) (d.clock == c) d.fate.copies le in let one = p.lost k hop c in omega arith;
  sent = p.sent;
  arrived = p.arrived;
}

same_suc : (a b : ℕ) → (suc a == suc b) ≡ (a == b)
same_suc a b = elim (cases_Bool (a == b)) [
  | inl here ↦ let e : a ≡ b = eqb-true a b here in rw (here, eq-eqb (suc a) (suc b) (omega (arith, e))) refl
  | inr other ↦ rw (other, ne_eqb (suc a) (suc b) (λ e. eqb-false a b other (omega (arith, e)))) refl
]

zero_copies : (b : Bool) (n : ℕ) → n ≡ 0 → cond b n 0 ≡ 0
zero_copies true n e = e
zero_copies false n e = refl

pub completes_lost : (w : ℕ) (d : Pending) → d.fate.copies ≡ 0 → (clock : ℕ) → clock ≡ suc d.clock
    → Completes true d (loss clock d.packet d.hop w ∷ [])
completes_lost w d zero_is clock is = subst (λ (c : ℕ). Completes true d (loss c d.packet d.hop w ∷ [])) (sym is) (record {
  lost = λ k hop c. rw (same_suc d.clock c, eq-eqb d.fate.copies 0 zero_is) refl;
  sent = λ k hop c. omega arith;
  arrived = λ k hop. let z = zero_copies (is_of d k hop) d.fate.copies zero_is in omega arith;
})

-- Copies that were sent, where each sending of a packet with a hop has the same fate.
use mathlib.Core.List.{reverse_aux}
use Rattle.std.proofs.Common.{◌≡◌, ℕ, zero, suc, ◌+◌, ◌*◌, ◌<◌, ◌≤◌, ◌^◌, ◌==◌, Bool, true, false, ◌&&◌}
use Rattle.std.proofs.Common.{get_or, List, [], ◌∷◌, Option, Some, None, length, refl, ap, sym, ◌∙◌, arith, subst}
use Rattle.std.proofs.lemmas.List.{length-reverse}
use Rattle.std.specs.Bool.{Decides}
use Rattle.std.specs.Prelude.{if◌then◌else◌, nat_lt, reverse, drop, take, All, IfSome}
use Rattle.std.proofs.Math.Nat.{mul-suc, mul-zero}
use Rattle.std.proofs.lemmas.Bool.{and_parts, eq-eqb, eqb-true, lt-ltb, ltb-true}
use Rattle.bm_base.specs.declared.fate.Fate.{Fate}
use Rattle.bm_base.proofs.Hops.{same_hop_refl}
use Rattle.bm_base.specs.declared.ids.ServerId.{ServerId}
use Rattle.bm_base.specs.declared.label.Hop.{Hop}
use Rattle.bm_base.specs.declared.label.Hop.TheVariants.{Direct, Chained, Twice}
use Rattle.bm_base.specs.Labels.{same_hop}
use Rattle.bm_core.specs.Accounts.{AreSent, Rules, arrives, before, copyless_at, counts, fate_now}
use Rattle.bm_core.specs.Accounts.{sent_copies}
use Rattle.bm_core.specs.Past.{Sending, is_sending, sending_of, sends}
use Rattle.bm_core.specs.declared.events.Event.{Event}
use Rattle.bm_core.specs.declared.events.Verdict.{Verdict}
use Rattle.bm_core.specs.declared.events.What.{What}
use Rattle.bm_core.specs.declared.events.What.TheVariants.{Arrive, Close, Lose, Publish, Retire, Steer, Switch, Sync}
use Rattle.bm_state.specs.Losses.{sendings_at}
use Rattle.bm_trace.proofs.Reading.{both_true}
use Rattle.bm_state.proofs.Tallying.{count_few}
use Rattle.bm_check.proofs.Ordering.{no_event}
use Rattle.bm_check.specs.Inside.Copies.{AreFated, IsOne, IsSentBefore}

pub same_hop-true : (a b : Hop) → same_hop a b ≡ true → a ≡ b
same_hop-true Direct Direct e = refl
same_hop-true Chained Chained e = refl
same_hop-true Twice Twice e = refl
same_hop-true _ _ e = absurd (cc)

-- ONE FATE FOR ALL

module _ (F : Rules) (one : IsOne F) where
  fated_here : (sent : Option Sending) (k : ℕ) (hop : Hop) (fate : Fate) → is_sending sent k hop ≡ true
      → IfSome sent (λ s. F s.packet s.hop fate) → F k hop fate
  fated_here None k hop fate is fated = absurd (cc)
  fated_here (Some s) k hop fate is fated =
      let p = and_parts (s.packet == k) (same_hop s.hop hop) is
      in subst (λ (n : ℕ). F n hop fate) (eqb-true s.packet k p.0)
      (subst (λ (h : Hop). F s.packet h fate) (same_hop-true s.hop hop p.1) fated)

  copies_step : (b : Bool) (copies now sent count : ℕ) → (b ≡ true → now ≡ copies) → sent ≡ copies * count
      → (if b then now else 0) + sent ≡ copies * ((if b then 1 else 0) + count)
  copies_step true copies now sent count here is =
      let same = here refl
      in let next : 1 + count ≡ suc count = omega arith
      in let more : copies * (1 + count) ≡ copies * count + copies = ap (λ n. copies * n) next ∙ mul-suc copies count
      in let whole : now + sent ≡ copies * count + copies = omega (arith, same, is)
      in whole ∙ sym more
  copies_step false copies now sent count here is =
      let none : 0 + sent ≡ sent = omega arith
      in let same : 0 + count ≡ count = omega arith
      in none ∙ is ∙ ap (λ n. copies * n) (sym same)

  -- the copies that were sent, by this fate of each sending
  pub copies_total : (fates : List Fate) (past : List Event) (k : ℕ) (hop : Hop) (fate : Fate) → F k hop fate
      → AreFated F fates past → sent_copies fates past k hop ≡ fate.copies * counts past (λ what. sends what k hop)
  copies_total fates [] k hop fate gives fated = sym (mul-zero fate.copies)
  copies_total fates (e ∷ past) k hop fate gives fated =
      copies_step (sends e.what k hop) fate.copies (fate_now fates).copies (sent_copies (before fates) past k hop)
      (counts past (λ what. sends what k hop))
      (λ is. ap (λ (f : Fate). f.copies)
      (one k hop (fate_now fates) fate (fated_here (sending_of e.what) k hop (fate_now fates) is fated.0) gives))
      (copies_total (before fates) past k hop fate gives fated.1)

  copyless_step : (b none now_is : Bool) (now sent left : ℕ) → (b ≡ true → (now == 0) ≡ none)
      → left ≡ (if none then sent else 0)
      → (if b && ((now == 0) && now_is) then 1 else 0) + left ≡ (if none then (if b && now_is then 1 else 0) + sent else 0)
  copyless_step true true now_is now sent left here is =
      rw (here refl) (ap (λ n. (if now_is then 1 else 0) + n) is)
  copyless_step true false now_is now sent left here is = rw (here refl) (omega (arith, is))
  copyless_step false true now_is now sent left here is = omega (arith, is)
  copyless_step false false now_is now sent left here is = omega (arith, is)

  nothing : (b : Bool) → ◌≡◌ {A = ℕ} 0 (if b then 0 else 0)
  nothing true = refl
  nothing false = refl

  pub copyless_total : (fates : List Fate) (past : List Event) (k : ℕ) (hop : Hop) (clock : ℕ) (fate : Fate)
      → F k hop fate → AreFated F fates past
      → copyless_at fates past k hop clock ≡ (if fate.copies == 0 then sendings_at past k hop clock else 0)
  copyless_total fates [] k hop clock fate gives fated = nothing (fate.copies == 0)
  copyless_total fates (e ∷ past) k hop clock fate gives fated =
      copyless_step (sends e.what k hop) (fate.copies == 0) (e.clock.0 == clock) (fate_now fates).copies
      (sendings_at past k hop clock) (copyless_at (before fates) past k hop clock)
      (λ is. ap (λ (f : Fate). f.copies == 0)
      (one k hop (fate_now fates) fate (fated_here (sending_of e.what) k hop (fate_now fates) is fated.0) gives))
      (copyless_total (before fates) past k hop clock fate gives fated.1)

  same_now : (b : Bool) (n m x y : ℕ) → (b ≡ true → n ≡ m) → x ≡ y → (if b then n else 0) + x ≡ (if b then m else 0) + y
  same_now true n m x y here is = let same = here refl in omega (arith, same, is)
  same_now false n m x y here is = omega (arith, is)

  -- two lists of fates of the same events agree where they mean something
  pub sent_same : (a b : List Fate) (past : List Event) → AreFated F a past → AreFated F b past → (k : ℕ) (hop : Hop)
      → sent_copies a past k hop ≡ sent_copies b past k hop
  sent_same a b [] fa fb k hop = refl
  sent_same a b (e ∷ past) fa fb k hop =
      same_now (sends e.what k hop) (fate_now a).copies (fate_now b).copies (sent_copies (before a) past k hop)
      (sent_copies (before b) past k hop)
      (λ is. ap (λ (f : Fate). f.copies)
      (one k hop (fate_now a) (fate_now b) (fated_here (sending_of e.what) k hop (fate_now a) is fa.0)
      (fated_here (sending_of e.what) k hop (fate_now b) is fb.0)))
      (sent_same (before a) (before b) past fa.1 fb.1 k hop)

  same_test : (b : Bool) (n m x y : ℕ) (now_is : Bool) → (b ≡ true → n ≡ m) → x ≡ y
      → (if b && (n == 0 && now_is) then 1 else 0) + x ≡ (if b && (m == 0 && now_is) then 1 else 0) + y
  same_test true n m x y now_is here is =
      let same = here refl in λ i. (if same i == 0 && now_is then 1 else 0) + is i
  same_test false n m x y now_is here is = omega (arith, is)

  pub copyless_same : (a b : List Fate) (past : List Event) → AreFated F a past → AreFated F b past
      → (k : ℕ) (hop : Hop) (clock : ℕ) → copyless_at a past k hop clock ≡ copyless_at b past k hop clock
  copyless_same a b [] fa fb k hop clock = refl
  copyless_same a b (e ∷ past) fa fb k hop clock =
      same_test (sends e.what k hop) (fate_now a).copies (fate_now b).copies (copyless_at (before a) past k hop clock)
      (copyless_at (before b) past k hop clock) (e.clock.0 == clock)
      (λ is. ap (λ (f : Fate). f.copies)
      (one k hop (fate_now a) (fate_now b) (fated_here (sending_of e.what) k hop (fate_now a) is fa.0)
      (fated_here (sending_of e.what) k hop (fate_now b) is fb.0)))
      (copyless_same (before a) (before b) past fa.1 fb.1 k hop clock)

-- COMPARING

pub few_sendings : (past : List Event) (k : ℕ) (hop : Hop) → length past < 2 ^ 62
    → counts past (λ what. sends what k hop) < 2 ^ 62
few_sendings past k hop few =
    let most = count_few (λ (e : Event). sends e.what k hop) past in omega (arith, few, most)

pub lt_decides : (a b m n : ℕ) → a ≡ m → b ≡ n → Decides (nat_lt a b) (m < n)
lt_decides a b m n am bn = (
  λ t. let low = ltb-true a b t in omega (arith, am, bn, low),
  λ low. lt-ltb a b (omega (arith, am, bn, low)),
)

pub eq_decides : (a b m n : ℕ) → a ≡ m → b ≡ n → Decides (a == b) (m ≡ n)
eq_decides a b m n am bn = (λ t. sym am ∙ eqb-true a b t ∙ bn, λ same. eq-eqb a b (am ∙ same ∙ sym bn))

-- ARRIVALS AFTER SENDINGS

pub sent_bound : (fates : List Fate) (past : List Event) → AreSent fates past → (k : ℕ) (hop : Hop)
    → counts past (λ what. arrives what k hop) ≤ sent_copies fates past k hop
sent_bound fates [] sent k hop = omega arith
sent_bound fates (e ∷ past) sent k hop = let head = sent.0 k hop in omega (arith, head)

arrives_itself : (k : ℕ) (hop : Hop) (server : ServerId) (verdict : Verdict) → arrives (Arrive k hop server verdict) k hop ≡ true
arrives_itself k hop server verdict = both_true (eq-eqb k k refl) (same_hop_refl hop)

arrival_fits : (b : Bool) (p k : ℕ) (h hop : Hop) (came : ℕ → Hop → ℕ) (sent : ℕ → Hop → ℕ) → (p == k && same_hop h hop) ≡ b
    → came p h < sent p h → ((n : ℕ) (x : Hop) → came n x ≤ sent n x)
    → (if b then 1 else 0) + came k hop ≤ sent k hop
arrival_fits true p k h hop came sent is more bound =
    let p2 = and_parts (p == k) (same_hop h hop) is
    in let there : came k hop < sent k hop =
    subst (λ (n : ℕ). came n hop < sent n hop) (eqb-true p k p2.0)
    (subst (λ (x : Hop). came p x < sent p x) (same_hop-true h hop p2.1) more)
    in omega (arith, there)
arrival_fits false p k h hop came sent is more bound = let few = bound k hop in omega (arith, few)

no_arrival : (n m : ℕ) → n ≤ m → 0 + n ≤ m
no_arrival n m few = omega (arith, few)

pub arrival_more : (what : What) (fates : List Fate) (past : List Event) → IsSentBefore fates past what
    → ((k : ℕ) (hop : Hop) → counts past (λ w. arrives w k hop) ≤ sent_copies fates past k hop) → (k : ℕ) (hop : Hop)
    → (if arrives what k hop then 1 else 0) + counts past (λ w. arrives w k hop) ≤ sent_copies fates past k hop
arrival_more (Arrive p h server verdict) fates past sent bound k hop =
    arrival_fits (p == k && same_hop h hop) p k h hop (λ n x. counts past (λ w. arrives w n x))
    (λ n x. sent_copies fates past n x) refl sent bound
arrival_more (Publish v) fates past sent bound k hop = no_arrival _ _ (bound k hop)
arrival_more (Switch m v) fates past sent bound k hop = no_arrival _ _ (bound k hop)
arrival_more (Steer p m) fates past sent bound k hop = no_arrival _ _ (bound k hop)
arrival_more (Lose p h) fates past sent bound k hop = no_arrival _ _ (bound k hop)
arrival_more (Close server flow closed) fates past sent bound k hop = no_arrival _ _ (bound k hop)
arrival_more (Retire server h at result) fates past sent bound k hop = no_arrival _ _ (bound k hop)
arrival_more Sync fates past sent bound k hop = no_arrival _ _ (bound k hop)

pub arrival_was : (what : What) (fates : List Fate) (past : List Event)
    → ((k : ℕ) (hop : Hop) → (if arrives what k hop then 1 else 0) + counts past (λ w. arrives w k hop)
    ≤ sent_copies fates past k hop)
    → IsSentBefore fates past what
arrival_was (Arrive p h server verdict) fates past all =
    let here : 1 + counts past (λ w. arrives w p h) ≤ sent_copies fates past p h = rw (arrives_itself p h server verdict) at (all p h)
    in omega (arith, here)
arrival_was (Publish v) fates past all = tt
arrival_was (Switch m v) fates past all = tt
arrival_was (Steer p m) fates past all = tt
arrival_was (Lose p h) fates past all = tt
arrival_was (Close server flow closed) fates past all = tt
arrival_was (Retire server h at result) fates past all = tt
arrival_was Sync fates past all = tt

-- what holds of all events holds of those before the newest
older : (F : Rules) (newer past : List Event) (fates : List Fate) → AreFated F fates (reverse_aux newer past)
    → AreSent fates (reverse_aux newer past) → (f : List Fate) × AreFated F f past × AreSent f past
older F [] past fates fated sent = (fates, fated, sent)
older F (x ∷ newer) past fates fated sent =
    let r = older F newer (x ∷ past) fates fated sent in (before r.0, r.1.1, r.2.1)

pub reverse_split : {X : Type 0} (n : ℕ) (xs done : List X)
    → reverse_aux xs done ≡ reverse_aux (drop n xs) (reverse_aux (take n xs) done)
reverse_split zero xs done = refl
reverse_split (suc n) [] done = refl
reverse_split (suc n) (x ∷ xs) done = reverse_split n xs (x ∷ done)

-- an event that isn't of a copy that was sent before it
pub not_sent : (F : Rules) → IsOne F → (events : List Event) (i : ℕ) (e : Event) (past : List Event) (fates : List Fate)
    → reverse (take (i + 1) events) ≡ e ∷ past → AreFated F fates past → (IsSentBefore fates past e.what → ⊥)
    → (others : List Fate) → AreFated F others (reverse events) → AreSent others (reverse events) → ⊥
not_sent F one events i e past fates next fated bad others all_fated all_sent =
    let split : reverse events ≡ reverse_aux (drop (i + 1) events) (e ∷ past) =
    reverse_split (i + 1) events [] ∙ ap (λ (done : List Event). reverse_aux (drop (i + 1) events) done) next
    in let r =
    older F (drop (i + 1) events) (e ∷ past) others (subst (λ (x : List Event). AreFated F others x) split all_fated)
    (subst (λ (x : List Event). AreSent others x) split all_sent)
    in bad (arrival_was e.what fates past
    (λ k hop.
    let head = r.2.0 k hop
    in let same = sent_same F one (before r.0) fates past r.1.1 fated k hop
    in omega (arith, head, same)))

length_begun : (xs : List Event) (n : ℕ) → length (take n xs) ≤ length xs
length_begun xs zero = omega arith
length_begun [] (suc n) = omega arith
length_begun (x ∷ xs) (suc n) = let r = length_begun xs n in omega (arith, r)

pub few_past : (events : List Event) (i : ℕ) → length events < 2 ^ 62 → length (reverse (take i events)) < 2 ^ 62
few_past events i few =
    let r = length-reverse (take i events) in let t = length_begun events i in omega (arith, r, t, few)

all_next : (P : Event → Type 0) (xs : List Event) (i : ℕ) → i < length xs → All P (take i xs) → P (get_or xs i no_event)
    → All P (take (suc i) xs)
all_next P [] i below all here k d = absurd (omega (arith, below))
all_next P (x ∷ xs) zero below all here zero d = λ least. here
all_next P (x ∷ xs) zero below all here (suc k) d = λ more. absurd (omega (arith, more))
all_next P (x ∷ xs) (suc i) below all here zero d = λ least. all 0 d (omega arith)
all_next P (x ∷ xs) (suc i) below all here (suc k) d =
    λ more.
    all_next P xs i (omega (arith, below)) (λ j f b. all (suc j) f (omega (arith, b))) here k d (omega (arith, more))

pub all_more : (P : Event → Type 0) (xs : List Event) (i : ℕ) → i < length xs → All P (take i xs)
    → P (get_or xs i no_event) → All P (take (i + 1) xs)
all_more P xs i below all here =
    let next : suc i ≡ i + 1 = omega arith
    in subst (λ (n : ℕ). All P (take n xs)) next (all_next P xs i below all here)

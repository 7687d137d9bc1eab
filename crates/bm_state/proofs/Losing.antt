-- The losses stay right with each event.
use Rattle.std.proofs.Common.{◌≡◌, ℕ, suc, ◌+◌, ◌<◌, ◌^◌, Bool, true, false, ◌&&◌, ◌==◌, List, [], ◌∷◌, length, refl, ap, sym, ◌∙◌, arith, Some}
use Rattle.std.specs.Prelude.{if◌then◌else◌, nat_lt, Option, None, slice_index_or}
use Rattle.std.proofs.lemmas.Bool.Decides.{nat_tests}
use Rattle.std.proofs.lemmas.Bool.{and_parts, eqb-true}
use Rattle.bm_base.specs.declared.label.Hop.{Hop}
use Rattle.bm_base.specs.declared.label.Hop.TheVariants.{Direct, Chained, Twice}
use Rattle.bm_base.specs.Labels.{same_hop}
use Rattle.bm_core.specs.declared.events.Event.{Event}
use Rattle.bm_core.specs.declared.events.What.{What}
use Rattle.bm_core.specs.declared.events.What.TheVariants.{Lose}
use Rattle.bm_core.specs.Accounts.{count_of, loses, lost_at}
use Rattle.bm_core.specs.Past.{is_sent_at, sending_of, sends}
use Rattle.bm_state.specs.declared.losses.LossTally.{LossTally}
use Rattle.bm_state.specs.declared.losses.Losses.{Losses}
use Rattle.bm_state.specs.declared.losses.SentAt.{SentAt}
use Rattle.bm_state.specs.Losses.{AreCounted, first_in, is_clock, is_first, is_loss, loses_any, losses_in, sendings_at}
use Rattle.bm_state.specs.Losses.{sent_at}
use Rattle.bm_state.specs.Inside.Losses.{same_sent}
use Rattle.bm_state.proofs.Counting.{sent_at_some}
use Rattle.bm_state.proofs.Tallying.{by_number, count_few, counted, same_hop-true}

-- ONE MORE

-- the packet, the hop and the clock are these
abbrev is_at : ℕ → ℕ → Hop → Hop → ℕ → ℕ → Bool
is_at a k h hop at clock = (a == k && same_hop h hop) && at == clock

turned : (a b c : Bool) → (a && b && c) ≡ ((b && c) && a)
turned true true true = refl
turned true true false = refl
turned true false c = refl
turned false true true = refl
turned false true false = refl
turned false false c = refl

same_of : (a k : ℕ) (h hop : Hop) (at clock : ℕ) → same_sent (sent_at a h at) (sent_at k hop clock) ≡ is_at a k h hop at clock
same_of a k h hop at clock =
    ap (λ b. at == clock && a == k && b) (by_number h hop) ∙ turned (at == clock) (a == k) (same_hop h hop)

mine : (l : Losses) (a k : ℕ) (h hop : Hop) (at clock : ℕ) → is_at a k h hop at clock ≡ true
    → losses_in l (sent_at a h at) ≡ losses_in l (sent_at k hop clock)
mine l a k h hop at clock e =
    let p = and_parts (a == k && same_hop h hop) (at == clock) e
    in let q = and_parts (a == k) (same_hop h hop) p.0
    in let packet : a ≡ k = eqb-true a k q.0
    in let same : h ≡ hop = same_hop-true h hop q.1
    in let number : at ≡ clock = eqb-true at clock p.1
    in λ i. losses_in l (sent_at (packet i) (same i) (number i))

module _ (old new : Losses) (a : ℕ) (h : Hop) (at : ℕ) (t : LossTally)
    (puts : (q : SentAt) → losses_in new q ≡ (if same_sent (sent_at a h at) q then t else losses_in old q)) where
  here : (k : ℕ) (hop : Hop) (clock : ℕ) → is_at a k h hop at clock ≡ true → losses_in new (sent_at k hop clock) ≡ t
  here k hop clock same = puts (sent_at k hop clock) ∙ rw (same_of a k h hop at clock ∙ same) refl

  there : (k : ℕ) (hop : Hop) (clock : ℕ) → is_at a k h hop at clock ≡ false
      → losses_in new (sent_at k hop clock) ≡ losses_in old (sent_at k hop clock)
  there k hop clock other = puts (sent_at k hop clock) ∙ rw (same_of a k h hop at clock ∙ other) refl

abbrev pub one_sent : LossTally → LossTally
one_sent t = record t { sendings = suc t.sendings }

abbrev pub one_lost : LossTally → LossTally
one_lost t = record t { losses = suc t.losses }

-- the first direct sendings are the same
first_same : (old new : Losses) → new.direct ≡ old.direct → (k : ℕ) (hop : Hop) (time : ℕ)
    → is_first new k hop time ≡ is_first old k hop time
first_same old new same k Direct time = ap (λ d. is_clock time (slice_index_or d.items k None)) same
first_same old new same k Chained time = refl
first_same old new same k Twice time = refl

-- one more beside others
counted_beside : (b : Bool) (f new old mine n : ℕ) → (b ≡ true → (new ≡ suc mine) × (f + mine ≡ n))
    → (b ≡ false → new ≡ old) → f + old ≡ n → f + new ≡ (if b then 1 else 0) + n
counted_beside true f new old mine n here other is = let p = here refl in omega (arith, p.0, p.1)
counted_beside false f new old mine n here other is = let p = other refl in omega (arith, p, is)

-- A SENDING

pub sent_more : (sent lost : List Event) (e : Event) (old new : Losses) (a : ℕ) (h : Hop) (at : ℕ) (t : LossTally)
    → length sent < 2 ^ 63 → sending_of e.what ≡ Some (record { packet = a; hop = h }) → e.clock.0 ≡ at
    → ((losses_in old (sent_at a h at)).sendings < 2 ^ 63
    → t ≡ record (losses_in old (sent_at a h at)) { sendings = suc (losses_in old (sent_at a h at)).sendings })
    → ((q : SentAt) → losses_in new q ≡ (if same_sent (sent_at a h at) q then t else losses_in old q))
    → new.count ≡ old.count → new.direct ≡ old.direct → AreCounted sent lost old → AreCounted (e ∷ sent) lost new
sent_more sent lost e old new a h at t few sends_it clock more puts same_count same_first keeps = record {
  count_of_all = same_count ∙ keeps.count_of_all;
  sendings_at_each = λ k hop time.
      rw (sends_it, clock)
      (ap (λ (b : Bool). (if b then 1 else 0) + (losses_in new (sent_at k hop time)).sendings)
      (first_same old new same_first k hop time)
      ∙ counted_beside (is_at a k h hop at time) (if is_first old k hop time then 1 else 0)
      (losses_in new (sent_at k hop time)).sendings (losses_in old (sent_at k hop time)).sendings
      (losses_in old (sent_at a h at)).sendings (sendings_at sent k hop time)
      (λ same. (
        ap (λ (x : LossTally). x.sendings) (here old new a h at t puts k hop time same ∙ t_is),
        ap (λ (x : LossTally). (if is_first old k hop time then 1 else 0) + x.sendings) (mine old a k h hop at time same)
            ∙ keeps.sendings_at_each k hop time,
      ))
      (λ other. ap (λ (x : LossTally). x.sendings) (there old new a h at t puts k hop time other))
      (keeps.sendings_at_each k hop time));
  losses_at_each = λ k hop time. lost_same k hop time (is_at a k h hop at time) refl ∙ keeps.losses_at_each k hop time;
} where
  t_is : t ≡ record (losses_in old (sent_at a h at)) { sendings = suc (losses_in old (sent_at a h at)).sendings }
  t_is = more (let c = count_few (λ (x : Event). sends x.what a h && x.clock.0 == at) sent
      in let i = keeps.sendings_at_each a h at in omega (arith, few, c, i))

  lost_same : (k : ℕ) (hop : Hop) (time : ℕ) (b : Bool) → is_at a k h hop at time ≡ b
      → (losses_in new (sent_at k hop time)).losses ≡ (losses_in old (sent_at k hop time)).losses
  lost_same k hop time true same =
      ap (λ (x : LossTally). x.losses) (here old new a h at t puts k hop time same ∙ t_is)
      ∙ ap (λ (x : LossTally). x.losses) (mine old a k h hop at time same)
  lost_same k hop time false other = ap (λ (x : LossTally). x.losses) (there old new a h at t puts k hop time other)

pub few_sent : (sent lost : List Event) (l : Losses) (a : ℕ) (h : Hop) (at : ℕ) → length sent < 2 ^ 63
    → AreCounted sent lost l → (losses_in l (sent_at a h at)).sendings < 2 ^ 63
few_sent sent lost l a h at few keeps =
    let most = count_few (λ (x : Event). sends x.what a h && x.clock.0 == at) sent
    in let count = keeps.sendings_at_each a h at
    in omega (arith, few, most, count)

nothing_first : (n : ℕ) → n ≡ 0 + n
nothing_first n = omega arith

-- a packet's first direct sending
pub first_more : (sent lost : List Event) (e : Event) (old new : Losses) (a at : ℕ)
    → sending_of e.what ≡ Some (record { packet = a; hop = Direct }) → e.clock.0 ≡ at → first_in old a ≡ None
    → ((q : ℕ) → first_in new q ≡ (if a == q then Some at else first_in old q)) → new.tallies ≡ old.tallies
    → new.count ≡ old.count → AreCounted sent lost old → AreCounted (e ∷ sent) lost new
first_more sent lost e old new a at sends_it clock none puts same same_count keeps = record {
  count_of_all = same_count ∙ keeps.count_of_all;
  sendings_at_each = λ k hop time.
      rw (sends_it, clock)
      (ap (λ (x : LossTally). (if is_first new k hop time then 1 else 0) + x.sendings) (tally_same (sent_at k hop time))
      ∙ step k hop time (a == k) refl);
  losses_at_each = λ k hop time.
      ap (λ (x : LossTally). x.losses) (tally_same (sent_at k hop time)) ∙ keeps.losses_at_each k hop time;
} where
  tally_same : (q : SentAt) → losses_in new q ≡ losses_in old q
  tally_same q = rw same refl

  other_hop : (b : Bool) (c : Bool) (n : ℕ) → n ≡ (if (b && false) && c then 1 else 0) + n
  other_hop true c n = omega arith
  other_hop false c n = omega arith

  step : (k : ℕ) (hop : Hop) (time : ℕ) (b : Bool) → (a == k) ≡ b
      → (if is_first new k hop time then 1 else 0) + (losses_in old (sent_at k hop time)).sendings
      ≡ (if (b && same_hop Direct hop) && at == time then 1 else 0) + sendings_at sent k hop time
  step k Direct time true mine_is =
      let now : first_in new k ≡ Some at = puts k ∙ rw mine_is refl
      in let before : first_in old k ≡ None = ap (λ (q : ℕ). first_in old q) (sym (eqb-true a k mine_is)) ∙ none
      in let kept : 0 + (losses_in old (sent_at k Direct time)).sendings ≡ sendings_at sent k Direct time =
      ap (λ (f : Option ℕ). (if is_clock time f then 1 else 0) + (losses_in old (sent_at k Direct time)).sendings)
      (sym before)
      ∙ keeps.sendings_at_each k Direct time
      in ap (λ (f : Option ℕ). (if is_clock time f then 1 else 0) + (losses_in old (sent_at k Direct time)).sendings) now
      ∙ ap (λ (n : ℕ). (if at == time then 1 else 0) + n)
      (nothing_first (losses_in old (sent_at k Direct time)).sendings ∙ kept)
  step k Direct time false other =
      ap (λ (f : Option ℕ). (if is_clock time f then 1 else 0) + (losses_in old (sent_at k Direct time)).sendings)
      (puts k ∙ rw other refl)
      ∙ keeps.sendings_at_each k Direct time ∙ nothing_first (sendings_at sent k Direct time)
  step k Chained time b is =
      keeps.sendings_at_each k Chained time ∙ other_hop b (at == time) (sendings_at sent k Chained time)
  step k Twice time b is = keeps.sendings_at_each k Twice time ∙ other_hop b (at == time) (sendings_at sent k Twice time)

-- A LOSS

-- at the clock after this one
lost_then : (at clock : ℕ) → (suc at == suc clock) ≡ (at == clock)
lost_then at clock = grind (arith, nat_tests)

-- one more loss
pub one_loss : (lost : List Event) (e : Event) (old new : Losses) (a : ℕ) (h : Hop) → length lost < 2 ^ 63
    → e.what ≡ Lose a h → (old.count < 2 ^ 63 → new.count ≡ suc old.count) → old.count ≡ count_of is_loss lost
    → new.count ≡ count_of is_loss (e ∷ lost)
one_loss lost e old new a h few is one count =
    let most = count_few is_loss lost
    in let next = one (omega (arith, few, most, count))
    in rw is (omega (arith, next, count))

lost_is_loss : (w : What) (k : ℕ) (hop : Hop) → loses w k hop ≡ true → loses_any w ≡ true
lost_is_loss (Lose a h) k hop is = refl
lost_is_loss _ k hop is = absurd (cc)

none_step : (p q : Bool) (n m : ℕ) → (p ≡ true → q ≡ true) → (if q then 1 else 0) + n ≡ 0 → (n ≡ 0 → m ≡ 0)
    → (if p then 1 else 0) + m ≡ 0
none_step true true n m here none less = absurd (omega (arith, none))
none_step true false n m here none less = let no : false ≡ true = here refl in absurd (cc)
none_step false true n m here none less = absurd (omega (arith, none))
none_step false false n m here none less = let rest = less (omega (arith, none)) in omega (arith, rest)

-- no loss of this packet and hop where there is none at all
pub none_lost : (past : List Event) → count_of is_loss past ≡ 0 → (k : ℕ) (hop : Hop) (clock : ℕ)
    → lost_at past k hop clock ≡ 0
none_lost [] none k hop clock = refl
none_lost (e ∷ past) none k hop clock =
    none_step (loses e.what k hop && e.clock.0 == clock) (loses_any e.what) (count_of is_loss past)
    (lost_at past k hop clock)
    (λ is. lost_is_loss e.what k hop (and_parts (loses e.what k hop) (e.clock.0 == clock) is).0) none
    (λ rest. none_lost past rest k hop clock)

pub lost_more : (sent lost : List Event) (e : Event) (old new : Losses) (a : ℕ) (h : Hop) (at : ℕ) (t : LossTally)
    → length lost < 2 ^ 63 → e.what ≡ Lose a h → e.clock.0 ≡ suc at
    → ((losses_in old (sent_at a h at)).losses < 2 ^ 63
    → t ≡ record (losses_in old (sent_at a h at)) { losses = suc (losses_in old (sent_at a h at)).losses })
    → ((q : SentAt) → losses_in new q ≡ (if same_sent (sent_at a h at) q then t else losses_in old q))
    → (old.count < 2 ^ 63 → new.count ≡ suc old.count) → new.direct ≡ old.direct
    → AreCounted sent lost old → AreCounted sent (e ∷ lost) new
lost_more sent lost e old new a h at t few is clock more puts one same_first keeps = record {
  count_of_all = one_loss lost e old new a h few is one keeps.count_of_all;
  sendings_at_each = λ k hop time.
      ap (λ (b : Bool). (if b then 1 else 0) + (losses_in new (sent_at k hop time)).sendings)
      (first_same old new same_first k hop time)
      ∙ ap (λ (n : ℕ). (if is_first old k hop time then 1 else 0) + n) (sent_same k hop time (is_at a k h hop at time) refl)
      ∙ keeps.sendings_at_each k hop time;
  losses_at_each = λ k hop time.
      rw (is, clock, lost_then at time)
      (counted (is_at a k h hop at time) (losses_in new (sent_at k hop time)).losses
      (losses_in old (sent_at k hop time)).losses (losses_in old (sent_at a h at)).losses (lost_at lost k hop (suc time))
      (λ same. (
        ap (λ (x : LossTally). x.losses) (here old new a h at t puts k hop time same ∙ t_is),
        ap (λ (x : LossTally). x.losses) (mine old a k h hop at time same) ∙ keeps.losses_at_each k hop time,
      ))
      (λ other. ap (λ (x : LossTally). x.losses) (there old new a h at t puts k hop time other))
      (keeps.losses_at_each k hop time));
} where
  t_is : t ≡ record (losses_in old (sent_at a h at)) { losses = suc (losses_in old (sent_at a h at)).losses }
  t_is = more (let c = count_few (λ (x : Event). loses x.what a h && x.clock.0 == suc at) lost
      in let i = keeps.losses_at_each a h at in omega (arith, few, c, i))

  sent_same : (k : ℕ) (hop : Hop) (time : ℕ) (b : Bool) → is_at a k h hop at time ≡ b
      → (losses_in new (sent_at k hop time)).sendings ≡ (losses_in old (sent_at k hop time)).sendings
  sent_same k hop time true same =
      ap (λ (x : LossTally). x.sendings) (here old new a h at t puts k hop time same ∙ t_is)
      ∙ ap (λ (x : LossTally). x.sendings) (mine old a k h hop at time same)
  sent_same k hop time false other = ap (λ (x : LossTally). x.sendings) (there old new a h at t puts k hop time other)

nothing_more : (b : Bool) (n : ℕ) → (if b && false then 1 else 0) + n ≡ n
nothing_more true n = omega arith
nothing_more false n = omega arith

no_first : (time : ℕ) → (0 == suc time) ≡ false
no_first time = grind (arith, nat_tests)

-- a loss at the clock 0, before which nothing is sent
pub lost_at_once : (sent lost : List Event) (e : Event) (old new : Losses) (a : ℕ) (h : Hop) → length lost < 2 ^ 63
    → e.what ≡ Lose a h → e.clock.0 ≡ 0 → (old.count < 2 ^ 63 → new.count ≡ suc old.count)
    → new.tallies ≡ old.tallies → new.direct ≡ old.direct → AreCounted sent lost old → AreCounted sent (e ∷ lost) new
lost_at_once sent lost e old new a h few is clock one same same_first keeps = record {
  count_of_all = one_loss lost e old new a h few is one keeps.count_of_all;
  sendings_at_each = λ k hop time.
      ap (λ (b : Bool). (if b then 1 else 0) + (losses_in new (sent_at k hop time)).sendings)
      (first_same old new same_first k hop time)
      ∙ rw same (keeps.sendings_at_each k hop time);
  losses_at_each = λ k hop time.
      rw (is, clock, same, no_first time)
      (keeps.losses_at_each k hop time ∙ sym (nothing_more (a == k && same_hop h hop) (lost_at lost k hop (suc time))));
}

-- SENT AT A CLOCK

one_positive : (n : ℕ) → true ≡ nat_lt 0 (1 + n)
one_positive n = grind (arith, nat_tests)

pub first_sent : (past : List Event) (l : Losses) (k : ℕ) (hop : Hop) (clock : ℕ) → is_first l k hop clock ≡ true
    → AreCounted past past l → true ≡ is_sent_at past k hop clock
first_sent past l k hop clock first keeps =
    let other : ℕ = (losses_in l (sent_at k hop clock)).sendings
    in one_positive other
    ∙ ap (λ (n : ℕ). nat_lt 0 n)
    (ap (λ (b : Bool). (if b then 1 else 0) + other) (sym first) ∙ keeps.sendings_at_each k hop clock)
    ∙ sent_at_some past k hop clock

pub other_sent : (past : List Event) (l : Losses) (k : ℕ) (hop : Hop) (clock : ℕ) → is_first l k hop clock ≡ false
    → AreCounted past past l → nat_lt 0 (losses_in l (sent_at k hop clock)).sendings ≡ is_sent_at past k hop clock
other_sent past l k hop clock first keeps =
    let other : ℕ = (losses_in l (sent_at k hop clock)).sendings
    in ap (λ (n : ℕ). nat_lt 0 n)
    (nothing_first other ∙ ap (λ (b : Bool). (if b then 1 else 0) + other) (sym first)
    ∙ keeps.sendings_at_each k hop clock)
    ∙ sent_at_some past k hop clock

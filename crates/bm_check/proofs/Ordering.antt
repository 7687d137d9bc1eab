-- Open orders, and what a script's commands ask for.
use mathlib.Core.List.{reverse_aux}
use Rattle.std.proofs.Common.{◌≡◌, ℕ, zero, suc, ◌+◌, ◌-◌, ◌<◌, ◌≤◌, ◌^◌, ◌==◌, Bool, true, false, ◌&&◌, inl, inr, List, []}
use Rattle.std.proofs.Common.{◌∷◌, Option, Some, None, length, refl, ap, sym, ◌∙◌, arith}
use Rattle.std.specs.Prelude.{if◌then◌else◌, nat_lt, reverse, take, MatchBool}
use Rattle.std.specs.Bool.{Decides}
use Rattle.std.proofs.lemmas.Bool.{and_parts, cases_Bool, cases_lt, eq-eqb, eqb-true, lt-ltb}
use Rattle.std.proofs.lemmas.Bool.Decides.{nat_tests}
use Rattle.std.proofs.lemmas.Option.{same_Some}
use Rattle.bm_base.specs.declared.flow.Flow.{Flow}
use Rattle.bm_base.specs.declared.ids.ServerId.{ServerId}
use Rattle.bm_table.specs.declared.script.Command.{Command}
use Rattle.bm_table.specs.declared.script.Command.TheVariants.{Change, Close as CloseCommand}
use Rattle.bm_table.specs.declared.script.Command.TheVariants.{Retire as RetireCommand, Sync as SyncCommand}
use Rattle.bm_core.specs.Accounts.{AreCarriedOut, closes_flow, count_of, counts, is_sync, retires_shard, wants_close}
use Rattle.bm_core.specs.Accounts.{wants_retire, wants_sync}
use Rattle.bm_core.specs.Past.{newest}
use Rattle.bm_core.specs.declared.events.Event.{Event}
use Rattle.bm_core.specs.declared.events.Stage.{Stage}
use Rattle.bm_core.specs.declared.events.What.{What}
use Rattle.bm_core.specs.declared.events.What.TheVariants.{Publish, Switch, Steer, Lose, Arrive}
use Rattle.bm_core.specs.declared.events.What.TheVariants.{Close as CloseEvent, Retire as RetireEvent, Sync as SyncEvent}
use Rattle.bm_trace.proofs.Reading.{both_true}
use Rattle.bm_state.proofs.Tallying.{count_few}
use Rattle.bm_check.specs.declared.orders.Order.{Order}
use Rattle.bm_check.specs.declared.orders.Order.TheVariants.{Close, Retire, Sync}
use Rattle.bm_check.specs.declared.orders.Orders.{Orders}
use Rattle.bm_check.specs.Inside.Orders.{Opens, asked, asks, asks_below, carried, carries, open_in, order_in, positive, same_order}

-- EQUAL ORDERS

same_order-true : (a b : Order) → same_order a b ≡ true → a ≡ b
same_order-true (Close s a b c d) (Close t e f g h) is =
    let p = and_parts (s == t) (a == e && b == f && c == g && d == h) is
    in let q = and_parts (a == e && b == f && c == g) (d == h) p.1
    in let r = and_parts (a == e && b == f) (c == g) q.0
    in let u = and_parts (a == e) (b == f) r.0
    in let ps = eqb-true s t p.0
    in let pa = eqb-true a e u.0
    in let pb = eqb-true b f u.1
    in let pc = eqb-true c g r.1
    in let pd = eqb-true d h q.1
    in λ i. Close (ps i) (pa i) (pb i) (pc i) (pd i)
same_order-true (Retire s h) (Retire t i) is =
    let p = and_parts (s == t) (h == i) is
    in let ps = eqb-true s t p.0
    in let ph = eqb-true h i p.1
    in λ j. Retire (ps j) (ph j)
same_order-true Sync Sync is = refl
same_order-true _ _ is = absurd (cc)

-- OPEN ORDERS

pub opens_same : (f g : Order → ℕ) (orders : Orders) → ((q : Order) → f q ≡ g q) → Opens f orders → Opens g orders
opens_same f g orders same opens q = opens q ∙ ap positive (same q)

some_is : (n m : ℕ) → Some n ≡ positive m → n ≡ m
some_is n zero is = absurd (cc)
some_is n (suc m) is = same_Some n (suc m) is

none_is : (m : ℕ) → None ≡ positive m → m ≡ 0
none_is zero is = refl
none_is (suc m) is = absurd (cc)

pub count_is : (order : Order) (orders : Orders) (found : Option ℕ) (f : Order → ℕ) → open_in orders order ≡ found
    → Opens f orders → found ≡ positive (f order)
count_is order orders found f is opens = sym is ∙ opens order

pub some_count : (n m : ℕ) → Some n ≡ positive m → n ≡ m
some_count n m is = some_is n m is

pub none_count : (m : ℕ) → None ≡ positive m → 0 ≡ m
none_count m is = sym (none_is m is)

pub one_more : (order : Order) (old new : Orders) (count : ℕ) (f : Order → ℕ) → count ≡ f order → Opens f old
    → ((q : Order) → open_in new q ≡ (if same_order order q then Some (suc count) else open_in old q))
    → Opens (λ q. (if same_order order q then 1 else 0) + f q) new
one_more order old new count f is opens puts q = elim (cases_Bool (same_order order q)) [
  | inl here ↦
      let there : order ≡ q = same_order-true order q here
      in let n : count ≡ f q = is ∙ ap f there
      in let more : suc (f q) ≡ 1 + f q = omega arith
      in puts q ∙ rw here (ap (λ (m : ℕ). Some (suc m)) n ∙ ap positive more)
  | inr other ↦
      let same : f q ≡ 0 + f q = omega arith
      in puts q ∙ rw other (opens q ∙ ap positive same)
]

pub one_less : (order : Order) (old new : Orders) (left : ℕ) (f : Order → ℕ) → suc left ≡ f order → Opens f old
    → ((q : Order) → open_in new q ≡ (if same_order order q then positive left else open_in old q))
    → Opens (λ q. f q - (if same_order order q then 1 else 0)) new
one_less order old new left f is opens puts q = elim (cases_Bool (same_order order q)) [
  | inl here ↦
      let there : order ≡ q = same_order-true order q here
      in let n : suc left ≡ f q = is ∙ ap f there
      in let m : left ≡ f q - 1 = omega (arith, n)
      in puts q ∙ rw here (ap positive m)
  | inr other ↦
      let m : f q ≡ f q - 0 = omega arith
      in puts q ∙ rw other (opens q ∙ ap positive m)
]

-- REQUESTS TO RETIRE

one_below : (b : Bool) (h n m : ℕ)
    → (if b && n == h then 1 else 0) + ((if b && nat_lt h n then 1 else 0) + m) ≡ (if b && nat_lt h (n + 1) then 1 else 0) + m
one_below true h n m = grind (arith, nat_tests)
one_below false h n m = omega arith

pub below_more : (s n : ℕ) (q : Order) (m : ℕ)
    → (if same_order (Retire s n) q then 1 else 0) + ((if asks_below s n q then 1 else 0) + m)
    ≡ (if asks_below s (n + 1) q then 1 else 0) + m
below_more s n (Close t e f g h) m = omega arith
below_more s n (Retire t h) m = one_below (s == t) h n m
below_more s n Sync m = omega arith

none_below_more : (b : Bool) (h m : ℕ) → m ≡ (if b && nat_lt h 0 then 1 else 0) + m
none_below_more true h m = grind (arith, nat_tests)
none_below_more false h m = omega arith

pub none_below : (s : ℕ) (q : Order) (m : ℕ) → m ≡ (if asks_below s 0 q then 1 else 0) + m
none_below s (Close t e f g h) m = omega arith
none_below s (Retire t h) m = none_below_more (s == t) h m
none_below s Sync m = omega arith

pub small_sum : (b : Bool) (m : ℕ) → m < 2 ^ 62 → (if b then 1 else 0) + m < 2 ^ 63
small_sum true m low = omega (arith, low)
small_sum false m low = omega (arith, low)

-- COUNTS

pub count_aux : {X : Type 0} (test : X → Bool) (xs done : List X)
    → count_of test (reverse_aux xs done) ≡ count_of test xs + count_of test done
count_aux test [] done = omega arith
count_aux test (x ∷ xs) done = let r = count_aux test xs (x ∷ done) in omega (arith, r)

pub count_reverse : {X : Type 0} (test : X → Bool) (xs : List X) → count_of test (reverse xs) ≡ count_of test xs
count_reverse test xs = let r = count_aux test xs [] in omega (arith, r)

pub count_take : {X : Type 0} (test : X → Bool) (xs : List X) (n : ℕ) → count_of test (take n xs) ≤ count_of test xs
count_take test xs zero = omega arith
count_take test [] (suc n) = omega arith
count_take test (x ∷ xs) (suc n) = let r = count_take test xs n in omega (arith, r)

-- those up to a place are no more than all
pub count_begun : {X : Type 0} (test : X → Bool) (xs : List X) (n : ℕ)
    → count_of test (reverse (take n xs)) ≤ count_of test (reverse xs)
count_begun test xs n =
    let a = count_reverse test (take n xs)
    in let b = count_reverse test xs
    in let c = count_take test xs n
    in omega (arith, a, b, c)

pub begun_few : {X : Type 0} (test : X → Bool) (xs : List X) (n : ℕ) → count_of test (reverse (take n xs)) ≤ length xs
begun_few test xs n =
    let a = count_reverse test (take n xs)
    in let b = count_take test xs n
    in let c = count_few test xs
    in omega (arith, a, b, c)

pub count_same : {X : Type 0} (test other : X → Bool) (xs : List X) → ((x : X) → test x ≡ other x)
    → count_of test xs ≡ count_of other xs
count_same test other [] same = refl
count_same test other (x ∷ xs) same =
    let here = same x
    in let later = count_same test other xs same
    in λ i. (if here i then 1 else 0) + later i

-- WHAT AN EVENT CARRIES OUT

same_refl : (q : Order) → same_order q q ≡ true
same_refl (Close s a b c d) =
    both_true (eq-eqb s s refl)
    (both_true (both_true (both_true (eq-eqb a a refl) (eq-eqb b b refl)) (eq-eqb c c refl)) (eq-eqb d d refl))
same_refl (Retire s h) = both_true (eq-eqb s s refl) (eq-eqb h h refl)
same_refl Sync = refl

pub event_carried : (b : Bool) (what : What) (order : Order) (f : Order → ℕ) (new : Orders) → order_in what ≡ Some order
    → MatchBool b ((0 < f order) × Opens (λ q. f q - (if same_order order q then 1 else 0)) new) (f order ≡ 0)
    → MatchBool b
    (((q : Order) → (if carries what q then 1 else 0) ≤ f q)
    × Opens (λ q. f q - (if carries what q then 1 else 0)) new)
    ((q : Order) × (carries what q ≡ true) × (f q ≡ 0))
event_carried true what order f new is done = rw is (few, done.1) where
  few : (q : Order) → (if same_order order q then 1 else 0) ≤ f q
  few q = elim (cases_Bool (same_order order q)) [
    | inl here ↦
        let there = ap f (same_order-true order q here)
        in let some = done.0
        in rw here (omega (arith, there, some))
    | inr other ↦ rw other (omega arith)
  ]
event_carried false what order f new is none = rw is (order, same_refl order, none)

-- one event more
pub carried_more : (what : What) (before : ℕ) (f : Order → ℕ) (q : Order) → before ≤ f q
    → (if carries what q then 1 else 0) ≤ f q - before → (if carries what q then 1 else 0) + before ≤ f q
carried_more what before f q few more = omega (arith, few, more)

pub left_more : (x before all : ℕ) → all - before - x ≡ all - (x + before)
left_more x before all = omega arith

pub too_many : (x before all total : ℕ) (b : Bool) → b ≡ true → all - before ≡ 0 → x ≡ (if b then 1 else 0) + before
    → x ≤ total → all < total
too_many x before all total true is none same few = omega (arith, none, same, few)
too_many x before all total false is none same few = absurd (cc)

pub carried_next : (b : Bool) (e : Event) (past : List Event) (f : Order → ℕ) (new : Orders) (P : Type 0) → b ≡ true
    → ((q : Order) → carried past q ≤ f q)
    → MatchBool b
    (((q : Order) → (if carries e.what q then 1 else 0) ≤ f q - carried past q)
    × Opens (λ q. f q - carried past q - (if carries e.what q then 1 else 0)) new) P
    → ((q : Order) → carried (e ∷ past) q ≤ f q) × Opens (λ q. f q - carried (e ∷ past) q) new
carried_next true e past f new P is few done = (
  λ q. carried_more e.what (carried past q) f q (few q) (done.0 q),
  opens_same _ (λ q. f q - carried (e ∷ past) q) new
      (λ q. left_more (if carries e.what q then 1 else 0) (carried past q) (f q)) done.1,
)
carried_next false e past f new P is few done = absurd (cc)

pub carried_over : (b : Bool) (events : List Event) (i : ℕ) (e : Event) (f : Order → ℕ) (P : Type 0) → b ≡ false
    → reverse (take (i + 1) events) ≡ e ∷ reverse (take i events)
    → MatchBool b P
    ((q : Order) × (carries e.what q ≡ true) × (f q - carried (reverse (take i events)) q ≡ 0))
    → (q : Order) × (f q < carried (reverse events) q)
carried_over true events i e f P is next over = absurd (cc)
carried_over false events i e f P is next over =
    let q = over.0
    in (
      q,
      too_many (carried (reverse (take (i + 1) events)) q) (carried (reverse (take i events)) q) (f q)
          (carried (reverse events) q) (carries e.what q) over.1 over.2 (ap (λ (past : List Event). carried past q) next)
          (count_begun (λ (x : Event). carries x.what q) events (i + 1)),
    )

-- COMMANDS CARRIED OUT

-- each order is carried out as often as it is given
abbrev pub AreEven : Stage → List Event → Type 0
AreEven stage all = (q : Order) → carried all q ≡ asked stage q

carries_close : (what : What) (s : ServerId) (f : Flow)
    → carries what (Close s.0 f.src f.dst f.sport f.dport) ≡ closes_flow what s f
carries_close (CloseEvent server g closed) s f = refl
carries_close (RetireEvent server h at result) s f = refl
carries_close SyncEvent s f = refl
carries_close (Publish v) s f = refl
carries_close (Switch m v) s f = refl
carries_close (Steer k m) s f = refl
carries_close (Lose k hop) s f = refl
carries_close (Arrive k hop server verdict) s f = refl

carries_retire : (what : What) (s : ServerId) (h : ℕ) → carries what (Retire s.0 h) ≡ retires_shard what s h
carries_retire (CloseEvent server g closed) s h = refl
carries_retire (RetireEvent server i at result) s h = refl
carries_retire SyncEvent s h = refl
carries_retire (Publish v) s h = refl
carries_retire (Switch m v) s h = refl
carries_retire (Steer k m) s h = refl
carries_retire (Lose k hop) s h = refl
carries_retire (Arrive k hop server verdict) s h = refl

carries_sync : (what : What) → carries what Sync ≡ is_sync what
carries_sync (CloseEvent server g closed) = refl
carries_sync (RetireEvent server i at result) = refl
carries_sync SyncEvent = refl
carries_sync (Publish v) = refl
carries_sync (Switch m v) = refl
carries_sync (Steer k m) = refl
carries_sync (Lose k hop) = refl
carries_sync (Arrive k hop server verdict) = refl

asks_close : (shards : ℕ) (c : Command) (s : ServerId) (f : Flow)
    → asks shards c (Close s.0 f.src f.dst f.sport f.dport) ≡ wants_close c s f
asks_close shards (Change v) s f = refl
asks_close shards (CloseCommand at server g) s f = refl
asks_close shards (RetireCommand at server) s f = refl
asks_close shards (SyncCommand at) s f = refl

below_shards : (b : Bool) (h shards : ℕ) → h < shards → (b && nat_lt h shards) ≡ b
below_shards true h shards below = lt-ltb h shards below
below_shards false h shards below = refl

asks_retire : (shards : ℕ) (c : Command) (s : ServerId) (h : ℕ) → h < shards
    → asks shards c (Retire s.0 h) ≡ wants_retire c s
asks_retire shards (Change v) s h below = refl
asks_retire shards (CloseCommand at server g) s h below = refl
asks_retire shards (RetireCommand at server) s h below = below_shards (server.0 == s.0) h shards below
asks_retire shards (SyncCommand at) s h below = refl

above_shards : (b : Bool) (h shards : ℕ) → shards ≤ h → (b && nat_lt h shards) ≡ false
above_shards true h shards above = grind (arith, nat_tests)
above_shards false h shards above = refl

asks_none : (shards : ℕ) (c : Command) (s : ServerId) (h : ℕ) → shards ≤ h → asks shards c (Retire s.0 h) ≡ false
asks_none shards (Change v) s h above = refl
asks_none shards (CloseCommand at server g) s h above = refl
asks_none shards (RetireCommand at server) s h above = above_shards (server.0 == s.0) h shards above
asks_none shards (SyncCommand at) s h above = refl

asks_sync : (shards : ℕ) (c : Command) → asks shards c Sync ≡ wants_sync c
asks_sync shards (Change v) = refl
asks_sync shards (CloseCommand at server g) = refl
asks_sync shards (RetireCommand at server) = refl
asks_sync shards (SyncCommand at) = refl

count_none : {X : Type 0} (test : X → Bool) (xs : List X) → ((x : X) → test x ≡ false) → count_of test xs ≡ 0
count_none test [] none = refl
count_none test (x ∷ xs) none =
    let later = count_none test xs none in rw (none x) (omega (arith, later))

module _ (stage : Stage) (all : List Event) where
  closes_same : (s : ServerId) (f : Flow)
      → carried all (Close s.0 f.src f.dst f.sport f.dport) ≡ counts all (λ what. closes_flow what s f)
  closes_same s f = count_same _ _ all (λ (e : Event). carries_close e.what s f)

  retires_same : (s : ServerId) (h : ℕ) → carried all (Retire s.0 h) ≡ counts all (λ what. retires_shard what s h)
  retires_same s h = count_same _ _ all (λ (e : Event). carries_retire e.what s h)

  syncs_same : carried all Sync ≡ counts all is_sync
  syncs_same = count_same _ _ all (λ (e : Event). carries_sync e.what)

  pub carried_out : newest all ≡ length stage.script.plan.changes → AreEven stage all → AreCarriedOut stage all
  carried_out changes even = record {
    changes = changes;
    closes = λ s f.
        sym (closes_same s f) ∙ even (Close s.0 f.src f.dst f.sport f.dport)
        ∙ count_same _ _ stage.script.commands (λ (c : Command). asks_close stage.script.setting.shards c s f);
    retires = λ s h below.
        sym (retires_same s h) ∙ even (Retire s.0 h)
        ∙ count_same _ _ stage.script.commands (λ (c : Command). asks_retire stage.script.setting.shards c s h below);
    no_other = λ s h above.
        sym (retires_same s h) ∙ even (Retire s.0 h)
        ∙ count_none _ stage.script.commands (λ (c : Command). asks_none stage.script.setting.shards c s h above);
    syncs = sym syncs_same ∙ even Sync
        ∙ count_same _ _ stage.script.commands (λ (c : Command). asks_sync stage.script.setting.shards c);
  }

  pub are_even : AreCarriedOut stage all → AreEven stage all
  are_even done (Close s a b c d) =
      let server : ServerId = record { 0 = s }
      in let flow : Flow = record { src = a; dst = b; sport = c; dport = d }
      in closes_same server flow ∙ done.closes server flow
      ∙ sym (count_same _ _ stage.script.commands (λ (x : Command). asks_close stage.script.setting.shards x server flow))
  are_even done (Retire s h) = let server : ServerId = record { 0 = s } in elim (cases_lt h stage.script.setting.shards) [
    | inl below ↦
        retires_same server h ∙ done.retires server h below
        ∙ sym (count_same _ _ stage.script.commands
        (λ (x : Command). asks_retire stage.script.setting.shards x server h below))
    | inr above ↦
        retires_same server h ∙ done.no_other server h above
        ∙ sym (count_none _ stage.script.commands
        (λ (x : Command). asks_none stage.script.setting.shards x server h above))
  ]
  are_even done Sync =
      syncs_same ∙ done.syncs
      ∙ sym (count_same _ _ stage.script.commands (λ (x : Command). asks_sync stage.script.setting.shards x))

pub all_done : (b : Bool) (stage : Stage) (all : List Event) → newest all ≡ length stage.script.plan.changes
    → ((q : Order) → carried all q ≤ asked stage q)
    → MatchBool b ((q : Order) → asked stage q - carried all q ≡ 0) ((q : Order) × (0 < asked stage q - carried all q))
    → Decides b (AreCarriedOut stage all)
all_done true stage all changes few none = (
  λ t.
      carried_out stage all changes
      (λ q. let some = few q in let left = none q in omega (arith, some, left)),
  λ done. refl,
)
all_done false stage all changes few some = (λ t. absurd (cc), λ done. absurd (open_still done)) where
  open_still : AreCarriedOut stage all → ⊥
  open_still done = let even = are_even stage all done some.0 in let left = some.1 in absurd (omega (arith, even, left))

pub not_done : (stage : Stage) (all : List Event) → ((q : Order) × (asked stage q < carried all q))
    → AreCarriedOut stage all → ⊥
not_done stage all over done =
    let even = are_even stage all done over.0 in let more = over.1 in absurd (omega (arith, even, more))

pub take_all : {X : Type 0} (xs : List X) (i : ℕ) → length xs ≤ i → take i xs ≡ xs
take_all [] zero end = refl
take_all [] (suc i) end = refl
take_all (x ∷ xs) zero end = absurd (omega (arith, end))
take_all (x ∷ xs) (suc i) end = ap (λ (ys : List _). x ∷ ys) (take_all xs i (omega (arith, end)))

-- what the code reads past the end of a list of events
abbrev pub no_event : Event
no_event = record { clock = record { 0 = 0 }; what = Publish (record { 0 = 0 }) }

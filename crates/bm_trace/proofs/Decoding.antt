-- The words of an event name one event.
use Rattle.std.proofs.Common.{◌≡◌, ℕ, ◌<◌, ◌^◌, ◌==◌, Bool, true, false, ◌||◌, not, List, [], ◌∷◌, ◌++◌, refl, ap}
use Rattle.std.proofs.Common.{◌∙◌, sym, arith, append_assoc}
use Rattle.std.specs.Prelude.{decimal, codes, if◌then◌else◌, Option, Some, None, slice_index}
use Rattle.std.specs.Int.{to_be_bytes, from_be_bytes, w32}
use Rattle.std.proofs.lemmas.Fmt.{decimal_injective}
use Rattle.std.proofs.lemmas.Option.{same_Some}
use Rattle.std.proofs.lemmas.Nat.{from_be_bytes-to_be_bytes_4}
use Rattle.bm_base.specs.declared.flow.Flow.{Flow}
use Rattle.bm_base.specs.declared.label.Hop.{Hop}
use Rattle.bm_base.specs.declared.label.Hop.TheVariants.{Direct, Chained, Twice}
use Rattle.bm_base.specs.declared.receive.Taken.{Taken}
use Rattle.bm_base.specs.declared.receive.Taken.TheVariants.{Advance, Duplicate, Ahead, Outside, Challenge, Ended}
use Rattle.bm_table.specs.declared.plan.Retirement.{Retirement}
use Rattle.bm_table.specs.declared.plan.Retirement.TheVariants.{Done, NotDrained, TooEarly}
use Rattle.bm_base.specs.declared.ids.ServerId.{ServerId}
use Rattle.bm_core.specs.declared.events.Cause.{Cause}
use Rattle.bm_core.specs.declared.events.Cause.TheVariants.{NeverAccepted, NotHeld, StaleMux, MovedThrice, ChainLate}
use Rattle.bm_core.specs.declared.events.Cause.TheVariants.{SynElsewhere, Full as FullShard, OldTable}
use Rattle.bm_core.specs.declared.events.Verdict.{Verdict}
use Rattle.bm_core.specs.declared.events.Verdict.TheVariants.{Accept, Process, Forward, Reset, Drop}
use Rattle.bm_core.specs.declared.events.What.{What}
use Rattle.bm_core.specs.declared.events.What.TheVariants.{Publish, Switch, Steer, Lose, Arrive, Close, Retire, Sync}
use Rattle.bm_core.specs.declared.events.Why.{Why}
use Rattle.bm_core.specs.declared.events.Why.TheVariants.{NoPrevious, ChainExpired, ChainedUnknown, Silent, Full}
use Rattle.bm_core.specs.declared.events.Why.TheVariants.{Retired}
use Rattle.bm_trace.specs.Inside.Reading.{cause_in, ends_word, hop_in, is_word, runs_on, same_text, taken_in, why_in}
use Rattle.bm_trace.specs.Report.{words_of}
use Rattle.bm_trace.specs.declared.lines.Aside.{Aside}
use Rattle.bm_trace.specs.Words.{because_words, cause_word, endpoint, hop_word, retirement_words, taken_word}
use Rattle.bm_trace.specs.Words.{verdict_words, why_word}
use Rattle.std.proofs.lemmas.Bool.Decides.{nat_tests}
use Rattle.bm_trace.proofs.Reading.{AreWords, both_true, decimal_runs, is_word_decimal, split, word_append}
use Rattle.bm_trace.specs.Types.{IsFlow, IsVerdict, IsAnswer, IsWhat}

abbrev first_word : List (List ℕ) → List ℕ
first_word [] = []
first_word (w ∷ words) = w

-- NUMBERS

same_16 : (a b : ℕ) → a < 2 ^ 16 → b < 2 ^ 16 → decimal a ≡ decimal b → a ≡ b
same_16 a b ha hb e = decimal_injective a b (omega (arith, ha)) (omega (arith, hb)) e

same_32 : (a b : ℕ) → a < 2 ^ 32 → b < 2 ^ 32 → decimal a ≡ decimal b → a ≡ b
same_32 a b ha hb e = decimal_injective a b (omega (arith, ha)) (omega (arith, hb)) e

-- THE SMALL ENUMS

pub hop_back : (hop : Hop) → hop_in (hop_word hop) ≡ Some hop
hop_back Direct = refl
hop_back Chained = refl
hop_back Twice = refl

same_hop_word : (a b : Hop) → hop_word a ≡ hop_word b → a ≡ b
same_hop_word a b e = same_Some a b (sym (hop_back a) ∙ ap hop_in e ∙ hop_back b)

pub taken_back : (taken : Taken) → taken_in (taken_word taken) ≡ Some taken
taken_back Advance = refl
taken_back Duplicate = refl
taken_back Ahead = refl
taken_back Outside = refl
taken_back Challenge = refl
taken_back Ended = refl

same_taken_word : (a b : Taken) → taken_word a ≡ taken_word b → a ≡ b
same_taken_word a b e = same_Some a b (sym (taken_back a) ∙ ap taken_in e ∙ taken_back b)

pub why_back : (why : Why) → why_in (why_word why) ≡ Some why
why_back NoPrevious = refl
why_back ChainExpired = refl
why_back ChainedUnknown = refl
why_back Silent = refl
why_back Full = refl
why_back Retired = refl

same_why_word : (a b : Why) → why_word a ≡ why_word b → a ≡ b
same_why_word a b e = same_Some a b (sym (why_back a) ∙ ap why_in e ∙ why_back b)

pub cause_back : (cause : Cause) → cause_in (cause_word cause) ≡ Some cause
cause_back NeverAccepted = refl
cause_back NotHeld = refl
cause_back StaleMux = refl
cause_back MovedThrice = refl
cause_back ChainLate = refl
cause_back SynElsewhere = refl
cause_back FullShard = refl
cause_back OldTable = refl

abbrev is_closed_word : List ℕ → Bool
is_closed_word w = same_text w (codes "closed")

closed_back : (closed : Bool) → is_closed_word (if closed then codes "closed" else codes "none") ≡ closed
closed_back true = refl
closed_back false = refl

same_closed_word : (a b : Bool)
    → (if a then codes "closed" else codes "none") ≡ (if b then codes "closed" else codes "none") → a ≡ b
same_closed_word a b e = sym (closed_back a) ∙ ap is_closed_word e ∙ closed_back b

-- VERDICTS AND ANSWERS

abbrev verdict_kind : List ℕ → ℕ
verdict_kind w =
    if same_text w (codes "accept") then 0
    else if same_text w (codes "process") then 1
    else if same_text w (codes "forward") then 2
    else if same_text w (codes "reset") then 3
    else 4

same_verdict : (v u : Verdict) (c d : Option Cause) → IsVerdict v → IsVerdict u → verdict_words v
    ++ because_words c ≡ verdict_words u ++ because_words d → v ≡ u
same_verdict Accept Accept c d hv hu e = refl
same_verdict (Process t) (Process s) c d hv hu e =
    let w : taken_word t ≡ taken_word s = cc in ap Process (same_taken_word t s w)
same_verdict (Forward t) (Forward s) c d hv hu e =
    let w : decimal t.0 ≡ decimal s.0 = cc in ap (λ n. Forward (record { 0 = n })) (same_16 t.0 s.0 hv hu w)
same_verdict (Reset t) (Reset s) c d hv hu e = let w : why_word t ≡ why_word s = cc in ap Reset (same_why_word t s w)
same_verdict (Drop t) (Drop s) c d hv hu e = let w : why_word t ≡ why_word s = cc in ap Drop (same_why_word t s w)
same_verdict v u c d hv hu e =
    let k : verdict_kind (first_word (verdict_words v ++ because_words c))
    ≡ verdict_kind (first_word (verdict_words u ++ because_words d)) = ap (λ ws. verdict_kind (first_word ws)) e
    in absurd (omega (arith, k))

abbrev answer_kind : List ℕ → ℕ
answer_kind w = if same_text w (codes "done") then 0 else if same_text w (codes "not-drained") then 1 else 2

same_answer : (a b : Retirement) → IsAnswer a → IsAnswer b → retirement_words a ≡ retirement_words b → a ≡ b
same_answer Done Done ha hb e = refl
same_answer NotDrained NotDrained ha hb e = refl
same_answer (TooEarly n) (TooEarly m) ha hb e =
    let w : decimal n ≡ decimal m = cc in ap TooEarly (same_32 n m ha hb w)
same_answer a b ha hb e =
    let k : answer_kind (first_word (retirement_words a)) ≡ answer_kind (first_word (retirement_words b)) =
    ap (λ ws. answer_kind (first_word ws)) e
    in absurd (omega (arith, k))

-- ENDPOINTS

abbrev ends_number : ℕ → Bool
ends_number c = (c == 46) || (c == 58)

number_runs : (n : ℕ) → runs_on ends_number (decimal n) ≡ true
number_runs n = decimal_runs ends_number (λ d low. grind (arith, nat_tests)) n

abbrev byte : ℕ → ℕ → ℕ
byte addr i = slice_index (to_be_bytes w32 addr) i

nested : ℕ → ℕ → List ℕ
nested addr port =
    decimal (byte addr 0)
    ++ (46 ∷ (decimal (byte addr 1)
    ++ (46 ∷ (decimal (byte addr 2) ++ (46 ∷ (decimal (byte addr 3) ++ (58 ∷ decimal port)))))))

nested_is : (addr port : ℕ) → endpoint addr port ≡ nested addr port
unfolding endpoint nested
nested_is addr port = simp append_assoc refl

before_mark : (n c : ℕ) (v : List ℕ) → ends_word c ≡ false → is_word v ≡ true → is_word (decimal n ++ (c ∷ v)) ≡ true
before_mark n c v hc hv = word_append (decimal n) (c ∷ v) (is_word_decimal n) (both_true (ap not hc) hv)

is_word_nested : (addr port : ℕ) → is_word (nested addr port) ≡ true
unfolding nested
is_word_nested addr port =
    let t3 = decimal (byte addr 3) ++ (58 ∷ decimal port)
    in let t2 = decimal (byte addr 2) ++ (46 ∷ t3)
    in let t1 = decimal (byte addr 1) ++ (46 ∷ t2)
    in let w3 : is_word t3 ≡ true = before_mark (byte addr 3) 58 (decimal port) refl (is_word_decimal port)
    in let w2 : is_word t2 ≡ true = before_mark (byte addr 2) 46 t3 refl w3
    in let w1 : is_word t1 ≡ true = before_mark (byte addr 1) 46 t2 refl w2
    in before_mark (byte addr 0) 46 t1 refl w1

pub is_word_endpoint : (addr port : ℕ) → is_word (endpoint addr port) ≡ true
is_word_endpoint addr port = rw (nested_is addr port) (is_word_nested addr port)

small_0 : (addr : ℕ) → byte addr 0 < 2 ^ 64
small_0 addr = omega arith

small_1 : (addr : ℕ) → byte addr 1 < 2 ^ 64
small_1 addr = omega arith

small_2 : (addr : ℕ) → byte addr 2 < 2 ^ 64
small_2 addr = omega arith

small_3 : (addr : ℕ) → byte addr 3 < 2 ^ 64
small_3 addr = omega arith

same_nested : (a b p q : ℕ) → a < 2 ^ 32 → b < 2 ^ 32 → p < 2 ^ 16 → q < 2 ^ 16 → nested a p ≡ nested b q → (a ≡ b)
    × (p ≡ q)
unfolding nested
same_nested a b p q ha hb hp hq e =
    let s0 = split ends_number (decimal (byte a 0)) (decimal (byte b 0)) 46 46 _ _ (number_runs (byte a 0))
    (number_runs (byte b 0)) refl refl e
    in let e1 : decimal (byte a 1)
    ++ (46 ∷ (decimal (byte a 2) ++ (46 ∷ (decimal (byte a 3) ++ (58 ∷ decimal p))))) ≡ decimal (byte b 1)
    ++ (46 ∷ (decimal (byte b 2) ++ (46 ∷ (decimal (byte b 3) ++ (58 ∷ decimal q))))) = cc (s0.1)
    in let s1 =
    split ends_number (decimal (byte a 1)) (decimal (byte b 1)) 46 46 _ _ (number_runs (byte a 1))
    (number_runs (byte b 1)) refl refl e1
    in let e2 : decimal (byte a 2) ++ (46 ∷ (decimal (byte a 3) ++ (58 ∷ decimal p))) ≡ decimal (byte b 2)
    ++ (46 ∷ (decimal (byte b 3) ++ (58 ∷ decimal q))) = cc (s1.1)
    in let s2 =
    split ends_number (decimal (byte a 2)) (decimal (byte b 2)) 46 46 _ _ (number_runs (byte a 2))
    (number_runs (byte b 2)) refl refl e2
    in let e3 : decimal (byte a 3) ++ (58 ∷ decimal p) ≡ decimal (byte b 3) ++ (58 ∷ decimal q) = cc (s2.1)
    in let s3 =
    split ends_number (decimal (byte a 3)) (decimal (byte b 3)) 58 58 _ _ (number_runs (byte a 3))
    (number_runs (byte b 3)) refl refl e3
    in let e4 : decimal p ≡ decimal q = cc (s3.1)
    in let b0 = decimal_injective (byte a 0) (byte b 0) (small_0 a) (small_0 b) s0.0
    in let b1 = decimal_injective (byte a 1) (byte b 1) (small_1 a) (small_1 b) s1.0
    in let b2 = decimal_injective (byte a 2) (byte b 2) (small_2 a) (small_2 b) s2.0
    in let b3 = decimal_injective (byte a 3) (byte b 3) (small_3 a) (small_3 b) s3.0
    in let bytes : to_be_bytes w32 a ≡ to_be_bytes w32 b = cc (b0, b1, b2, b3)
    in (
      sym (from_be_bytes-to_be_bytes_4 a ha) ∙ ap (λ x. from_be_bytes w32 x) bytes
          ∙ from_be_bytes-to_be_bytes_4 b hb,
      same_16 p q hp hq e4,
    )

same_endpoint : (a b p q : ℕ) → a < 2 ^ 32 → b < 2 ^ 32 → p < 2 ^ 16 → q < 2 ^ 16 → endpoint a p ≡ endpoint b q
    → (a ≡ b) × (p ≡ q)
same_endpoint a b p q ha hb hp hq e = same_nested a b p q ha hb hp hq (sym (nested_is a p) ∙ e ∙ nested_is b q)

same_flow : (f g : Flow) → IsFlow f → IsFlow g → endpoint f.src f.sport ≡ endpoint g.src g.sport
    → endpoint f.dst f.dport ≡ endpoint g.dst g.dport → f ≡ g
same_flow f g hf hg s d =
    let p = same_endpoint f.src g.src f.sport g.sport hf.0 hg.0 hf.2 hg.2 s
    in let q = same_endpoint f.dst g.dst f.dport g.dport hf.1 hg.1 hf.3 hg.3 d
    in λ i. record { src = p.0 i; dst = q.0 i; sport = p.1 i; dport = q.1 i }

-- EVENTS

abbrev event_kind : List ℕ → ℕ
event_kind w =
    if same_text w (codes "publish") then 0
    else if same_text w (codes "switch") then 1
    else if same_text w (codes "steer") then 2
    else if same_text w (codes "lost") then 3
    else if same_text w (codes "arrive") then 4
    else if same_text w (codes "close") then 5
    else if same_text w (codes "retire") then 6
    else 7

same_server_word : (a b : ServerId) → a.0 < 2 ^ 16 → b.0 < 2 ^ 16 → decimal a.0 ≡ decimal b.0 → a ≡ b
same_server_word a b ha hb e = ap (λ n. record { 0 = n }) (same_16 a.0 b.0 ha hb e)

-- the same words name one event, whatever they say of the events before it
pub same_words : (a b : What) (here there : Aside) → IsWhat a → IsWhat b → words_of a here ≡ words_of b there → a ≡ b
same_words (Publish v) (Publish u) here there ha hb e =
    let w : decimal v.0 ≡ decimal u.0 = cc in ap (λ n. Publish (record { 0 = n })) (same_32 v.0 u.0 ha hb w)
same_words (Switch m v) (Switch n u) here there ha hb e =
    let w : decimal m.0 ≡ decimal n.0 = cc
    in let x : decimal v.0 ≡ decimal u.0 = cc
    in let p = same_16 m.0 n.0 ha.0 hb.0 w
    in let q = same_32 v.0 u.0 ha.1 hb.1 x
    in λ i. Switch (record { 0 = p i }) (record { 0 = q i })
same_words (Steer k m) (Steer l n) here there ha hb e =
    let w : decimal k ≡ decimal l = cc
    in let x : decimal m.0 ≡ decimal n.0 = cc
    in let p = same_32 k l ha.0 hb.0 w
    in let q = same_16 m.0 n.0 ha.1 hb.1 x
    in λ i. Steer (p i) (record { 0 = q i })
same_words (Lose k hop) (Lose l leap) here there ha hb e =
    let w : decimal k ≡ decimal l = cc
    in let x : hop_word hop ≡ hop_word leap = cc
    in let p = same_32 k l ha hb w
    in let q = same_hop_word hop leap x
    in λ i. Lose (p i) (q i)
same_words (Arrive k hop s v) (Arrive l leap t u) here there ha hb e =
    let w : decimal k ≡ decimal l = cc
    in let x : hop_word hop ≡ hop_word leap = cc
    in let y : decimal s.0 ≡ decimal t.0 = cc
    in let z : verdict_words v ++ because_words here.cause ≡ verdict_words u ++ because_words there.cause = cc
    in let p = same_32 k l ha.0 hb.0 w
    in let q = same_hop_word hop leap x
    in let r = same_server_word s t ha.1 hb.1 y
    in let o = same_verdict v u here.cause there.cause ha.2 hb.2 z
    in λ i. Arrive (p i) (q i) (r i) (o i)
same_words (Close s f c) (Close t g d) here there ha hb e =
    let w : decimal s.0 ≡ decimal t.0 = cc
    in let x : endpoint f.src f.sport ≡ endpoint g.src g.sport = cc
    in let y : endpoint f.dst f.dport ≡ endpoint g.dst g.dport = cc
    in let z : (if c then codes "closed" else codes "none") ≡ (if d then codes "closed" else codes "none") = cc
    in let p = same_server_word s t ha.0 hb.0 w
    in let q = same_flow f g ha.1 hb.1 x y
    in let r = same_closed_word c d z
    in λ i. Close (p i) (q i) (r i)
same_words (Retire s h at a) (Retire t g be b) here there ha hb e =
    let w : decimal s.0 ≡ decimal t.0 = cc
    in let x : decimal h ≡ decimal g = cc
    in let y : decimal at.0 ≡ decimal be.0 = cc
    in let z : retirement_words a ≡ retirement_words b = cc
    in let p = same_server_word s t ha.0 hb.0 w
    in let q = same_16 h g ha.1 hb.1 x
    in let r = decimal_injective at.0 be.0 ha.2 hb.2 y
    in let o = same_answer a b ha.3 hb.3 z
    in λ i. Retire (p i) (q i) (record { 0 = r i }) (o i)
same_words Sync Sync here there ha hb e = refl
same_words a b here there ha hb e =
    let k : event_kind (first_word (words_of a here)) ≡ event_kind (first_word (words_of b there)) = ap (λ ws. event_kind (first_word ws)) e
    in absurd (omega (arith, k))

pub words_append : (a b : List (List ℕ)) → AreWords a → AreWords b → AreWords (a ++ b)
words_append [] b ha hb = hb
words_append (w ∷ a) b ha hb = (ha.0, words_append a b ha.1 hb)

pub hop_are : (hop : Hop) → is_word (hop_word hop) ≡ true
hop_are Direct = refl
hop_are Chained = refl
hop_are Twice = refl

pub taken_are : (taken : Taken) → is_word (taken_word taken) ≡ true
taken_are Advance = refl
taken_are Duplicate = refl
taken_are Ahead = refl
taken_are Outside = refl
taken_are Challenge = refl
taken_are Ended = refl

pub why_are : (why : Why) → is_word (why_word why) ≡ true
why_are NoPrevious = refl
why_are ChainExpired = refl
why_are ChainedUnknown = refl
why_are Silent = refl
why_are Full = refl
why_are Retired = refl

pub cause_are : (c : Cause) → is_word (cause_word c) ≡ true
cause_are NeverAccepted = refl
cause_are NotHeld = refl
cause_are StaleMux = refl
cause_are MovedThrice = refl
cause_are ChainLate = refl
cause_are SynElsewhere = refl
cause_are FullShard = refl
cause_are OldTable = refl

verdict_are : (v : Verdict) → AreWords (verdict_words v)
verdict_are Accept = (refl, tt)
verdict_are (Process t) = (refl, (taken_are t, tt))
verdict_are (Forward s) = (refl, (is_word_decimal s.0, tt))
verdict_are (Reset why) = (refl, (why_are why, tt))
verdict_are (Drop why) = (refl, (why_are why, tt))

because_are : (c : Option Cause) → AreWords (because_words c)
because_are None = tt
because_are (Some c) = (refl, (cause_are c, tt))

answer_are : (a : Retirement) → AreWords (retirement_words a)
answer_are Done = (refl, tt)
answer_are NotDrained = (refl, tt)
answer_are (TooEarly b) = (refl, (is_word_decimal b, tt))

closed_are : (c : Bool) → is_word (if c then codes "closed" else codes "none") ≡ true
closed_are true = refl
closed_are false = refl

pub event_are : (what : What) (a : Aside) → AreWords (words_of what a)
event_are (Publish v) a = (refl, (is_word_decimal v.0, tt))
event_are (Switch m v) a = (refl, (is_word_decimal m.0, (is_word_decimal v.0, tt)))
event_are (Steer k m) a = (
  refl,
  (
    is_word_decimal k,
    (
      is_word_decimal m.0,
      (is_word_decimal a.version, (is_word_decimal a.bucket, tt)),
    ),
  ),
)
event_are (Lose k hop) a = (refl, (is_word_decimal k, (hop_are hop, tt)))
event_are (Arrive k hop s v) a = (
  refl,
  (
    is_word_decimal k,
    (
      hop_are hop,
      (
        is_word_decimal s.0,
        words_append (verdict_words v) (because_words a.cause) (verdict_are v) (because_are a.cause),
      ),
    ),
  ),
)
event_are (Close s f c) a = (
  refl,
  (
    is_word_decimal s.0,
    (is_word_endpoint f.src f.sport, (is_word_endpoint f.dst f.dport, (closed_are c, tt))),
  ),
)
event_are (Retire s h at answer) a =
    (refl, (is_word_decimal s.0, (is_word_decimal h, (refl, (is_word_decimal at.0, answer_are answer)))))
event_are Sync a = (refl, tt)

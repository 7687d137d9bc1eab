-- Each steered packet has an end, and one whose premises hold ends at its owner's server alone.
use Rattle.std.proofs.Common.{◌≡◌, ℕ, ◌+◌, ◌<◌, ◌≤◌, Bool, true, false, ◌&&◌, ◌||◌, ◌==◌, ◌⊎◌, inl, inr, not}
use Rattle.std.proofs.Common.{if◌then◌else◌, List, [], ◌∷◌, ◌++◌, Option, Some, None, is_some, length, refl, ap}
use Rattle.std.proofs.Common.{◌∙◌, subst, arith, length-append, reverse}
use Rattle.std.specs.Prelude.{IsSomeAnd, ◌≢◌}
use Rattle.std.specs.List.{AllByRecursion}
use Rattle.std.proofs.lemmas.Bool.{cases_Bool, both_ways, eqb-true}
use Rattle.bm_base.specs.declared.ids.ServerId.{ServerId}
use Rattle.bm_base.specs.declared.fate.Fate.{Fate}
use Rattle.bm_base.specs.declared.label.Hop.{Hop}
use Rattle.bm_base.specs.declared.label.Label.{Label}
use Rattle.bm_base.specs.declared.label.Past.{Past}
use Rattle.bm_base.specs.declared.label.Hop.TheVariants.{Direct, Chained, Twice}
use Rattle.bm_base.specs.Labels.{onward, same_hop}
use Rattle.bm_base.proofs.Hops.{same_hop_refl}
use Rattle.bm_core.specs.declared.events.Verdict.{Verdict}
use Rattle.bm_core.specs.declared.events.Verdict.TheVariants.{Accept, Process, Forward, Reset, Drop}
use Rattle.bm_core.specs.declared.events.What.{What}
use Rattle.bm_core.specs.declared.events.What.TheVariants.{Publish, Switch, Steer, Lose, Arrive, Close, Retire, Sync}
use Rattle.bm_core.specs.declared.events.Event.{Event}
use Rattle.bm_core.specs.declared.events.Stage.{Stage}
use Rattle.bm_core.specs.declared.events.History.{History}
use Rattle.bm_core.specs.Past.{segment_of, timeout, label_of, is_forward, sends, is_sent, is_sent_at, Accepted, owner}
use Rattle.bm_core.specs.Past.{owner_after}
use Rattle.bm_core.specs.Verdicts.{local_at}
use Rattle.bm_core.specs.Causes.{is_process}
use Rattle.bm_core.specs.Runs.{MayCome, Run, IsRun}
use Rattle.bm_core.specs.Laws.{IsForwardedTo, IsServed, IsServedPacket, IsUnbrokenPacket, is_arrival_of}
use Rattle.bm_core.specs.Accounts.{Routes, Rules, IsAccountOf, counts, arrives, loses, steers_packet}
use Rattle.bm_core.specs.Ends.{End, AtServer, Lost, end_in, packet_ends, IsProcessedBy, IsUnlost, IsSingle, IsEnded}
use Rattle.bm_core.specs.Ends.{IsKept, AreLost}
use Rattle.bm_core.proofs.Forwards.{forward_onward}
use Rattle.bm_core.proofs.Lawful.{packet_served}
use Rattle.bm_core.proofs.Losing.{once, are_lost, come_or_lost, each_comes_or_lost}
use Rattle.bm_core.proofs.Owned.{false_from_not}
use Rattle.bm_core.proofs.Pasts.{sent_steered}

-- HOW MANY

one_hop : (hop : Hop) (b : Bool)
    → once b ≡ once (b && same_hop hop Direct) + once (b && same_hop hop Chained) + once (b && same_hop hop Twice)
one_hop Direct true = refl
one_hop Chained true = refl
one_hop Twice true = refl
one_hop hop false = refl

ended_here : (b : Bool) (end : End) → length (if b then end ∷ [] else []) ≡ once b
ended_here true end = refl
ended_here false end = refl

and_true : (b : Bool) → (b && true) ≡ b
and_true true = refl
and_true false = refl

and_false : (b : Bool) → (b && false) ≡ false
and_false true = refl
and_false false = refl

-- of the copies of packet k that the event ends or sends on, there are as many as arrive or are lost in it
abbrev IsBalanced : What → ℕ → Type 0
IsBalanced what k =
    length (end_in what k) + once (sends what k Chained) + once (sends what k Twice)
    ≡ once (arrives what k Direct) + once (arrives what k Chained) + once (arrives what k Twice)
    + (once (loses what k Direct) + once (loses what k Chained) + once (loses what k Twice))

stays : (b : Bool) (hop : Hop) (end : End)
    → length (if b && true then end ∷ [] else []) + 0 + 0
    ≡ once (b && same_hop hop Direct) + once (b && same_hop hop Chained) + once (b && same_hop hop Twice) + (0 + 0 + 0)
stays b hop end =
    let same = ap once (and_true b)
    in let here = ended_here (b && true) end
    in let whole = one_hop hop b
    in omega arith

goes : (b : Bool) (end : End)
    → (length (if b && false then end ∷ [] else []) + once (b && true) + once (b && false)
    ≡ once (b && true) + once (b && false) + once (b && false) + (0 + 0 + 0))
    × (length (if b && false then end ∷ [] else []) + once (b && false) + once (b && true)
    ≡ once (b && false) + once (b && true) + once (b && false) + (0 + 0 + 0))
goes true end = (refl, refl)
goes false end = (refl, refl)

-- a twice-chained copy is not forwarded
twice_stays : (stage : Stage) (past : List Event) (clock packet : ℕ) (server : ServerId) (verdict : Verdict)
    → MayCome stage past clock (Arrive packet Twice server verdict) → is_forward verdict ≡ false
twice_stays stage past clock packet server verdict may = false_from_not (is_forward verdict) (λ goes_on.
    let there = forward_onward (local_at stage past server may.segment.flow) (timeout stage) clock Twice
    (onward may.label.entry Twice) may.segment (rw may.verdict_is at goes_on)
    in absurd (cc))

balanced : (stage : Stage) (past : List Event) (clock : ℕ) (what : What) (k : ℕ) → MayCome stage past clock what
    → IsBalanced what k
balanced stage past clock (Arrive packet hop server Accept) k may = stays (packet == k) hop (AtServer server Accept)
balanced stage past clock (Arrive packet hop server (Process t)) k may =
    stays (packet == k) hop (AtServer server (Process t))
balanced stage past clock (Arrive packet hop server (Reset why)) k may =
    stays (packet == k) hop (AtServer server (Reset why))
balanced stage past clock (Arrive packet hop server (Drop why)) k may =
    stays (packet == k) hop (AtServer server (Drop why))
balanced stage past clock (Arrive packet Direct server (Forward to)) k may =
    (goes (packet == k) (AtServer server (Forward to))).0
balanced stage past clock (Arrive packet Chained server (Forward to)) k may =
    (goes (packet == k) (AtServer server (Forward to))).1
balanced stage past clock (Arrive packet Twice server (Forward to)) k may =
    let no = twice_stays stage past clock packet server (Forward to) may in absurd (cc)
balanced stage past clock (Lose packet hop) k may =
    let here = ended_here (packet == k) Lost in let whole = one_hop hop (packet == k) in omega arith
balanced stage past clock (Steer packet m) k may = ap (λ b. 0 + once b + once b) (and_false (packet == k))
balanced stage past clock (Publish v) k may = refl
balanced stage past clock (Switch m v) k may = refl
balanced stage past clock (Close server flow closed) k may = refl
balanced stage past clock (Retire server h at result) k may = refl
balanced stage past clock Sync k may = refl

all_balanced : (stage : Stage) (all : List Event) (k : ℕ) → Run stage all
    → length (packet_ends all k) + counts all (λ what. sends what k Chained) + counts all (λ what. sends what k Twice)
    ≡ counts all (λ what. arrives what k Direct) + counts all (λ what. arrives what k Chained)
    + counts all (λ what. arrives what k Twice)
    + (counts all (λ what. loses what k Direct) + counts all (λ what. loses what k Chained)
    + counts all (λ what. loses what k Twice))
all_balanced stage [] k run = refl
all_balanced stage (e ∷ past) k run =
    let old = all_balanced stage past k run.1
    in let here = balanced stage past e.clock.0 e.what k run.0.may
    in let both = length-append (packet_ends past k) (end_in e.what k)
    in omega arith

-- what is sent with the direct hop is what is steered
pub direct_steers : (what : What) (k : ℕ) → sends what k Direct ≡ steers_packet what k
direct_steers (Steer packet m) k = and_true (packet == k)
direct_steers (Arrive packet Direct server (Forward to)) k = and_false (packet == k)
direct_steers (Arrive packet Chained server (Forward to)) k = and_false (packet == k)
direct_steers (Arrive packet Twice server (Forward to)) k = refl
direct_steers (Arrive packet hop server Accept) k = refl
direct_steers (Arrive packet hop server (Process t)) k = refl
direct_steers (Arrive packet hop server (Reset why)) k = refl
direct_steers (Arrive packet hop server (Drop why)) k = refl
direct_steers (Publish v) k = refl
direct_steers (Switch m v) k = refl
direct_steers (Lose packet hop) k = refl
direct_steers (Close server flow closed) k = refl
direct_steers (Retire server h at result) k = refl
direct_steers Sync k = refl

steers_sent : (all : List Event) (k : ℕ)
    → counts all (λ what. sends what k Direct) ≡ counts all (λ what. steers_packet what k)
steers_sent [] k = refl
steers_sent (e ∷ past) k =
    let old = steers_sent past k in let here = ap once (direct_steers e.what k) in omega arith

-- a copy is sent on where it arrives
sends_next : (what : What) (k : ℕ)
    → (once (sends what k Chained) ≤ once (arrives what k Direct))
    × (once (sends what k Twice) ≤ once (arrives what k Chained))
sends_next (Arrive packet Direct server (Forward to)) k = (omega arith, rw (and_false (packet == k)) (omega arith))
sends_next (Arrive packet Chained server (Forward to)) k = (rw (and_false (packet == k)) (omega arith), omega arith)
sends_next (Arrive packet Twice server (Forward to)) k = (omega arith, omega arith)
sends_next (Arrive packet hop server Accept) k = (omega arith, omega arith)
sends_next (Arrive packet hop server (Process t)) k = (omega arith, omega arith)
sends_next (Arrive packet hop server (Reset why)) k = (omega arith, omega arith)
sends_next (Arrive packet hop server (Drop why)) k = (omega arith, omega arith)
sends_next (Steer packet m) k = (rw (and_false (packet == k)) (omega arith), rw (and_false (packet == k)) (omega arith))
sends_next (Publish v) k = (omega arith, omega arith)
sends_next (Switch m v) k = (omega arith, omega arith)
sends_next (Lose packet hop) k = (omega arith, omega arith)
sends_next (Close server flow closed) k = (omega arith, omega arith)
sends_next (Retire server h at result) k = (omega arith, omega arith)
sends_next Sync k = (omega arith, omega arith)

sent_next : (all : List Event) (k : ℕ)
    → (counts all (λ what. sends what k Chained) ≤ counts all (λ what. arrives what k Direct))
    × (counts all (λ what. sends what k Twice) ≤ counts all (λ what. arrives what k Chained))
sent_next [] k = (omega arith, omega arith)
sent_next (e ∷ past) k =
    let old = sent_next past k in let here = sends_next e.what k in (omega (arith, old, here), omega (arith, old, here))

module _ (R : Routes) (F : Rules) (stage : Stage) (fates : List Fate) (all : List Event) (run : Run stage all)
    (account : IsAccountOf R F stage fates all) (k : ℕ) (steered : is_some (segment_of stage k) ≡ true) where
  steered_once : counts all (λ what. sends what k Direct) ≡ 1
  steered_once =
      let once_only : counts all (λ what. steers_packet what k) ≡ 1 = rw steered at (account.steered k)
      in steers_sent all k ∙ once_only

  -- each steered packet has an end
  pub has_end : 0 < length (packet_ends all k)
  has_end =
      let all_of = all_balanced stage all k run
      in let first = steered_once
      in let a = come_or_lost R F stage fates all run account k Direct
      in let b = come_or_lost R F stage fates all run account k Chained
      in let c = come_or_lost R F stage fates all run account k Twice
      in omega arith

  pub has_one_end : IsSingle F k → length (packet_ends all k) ≡ 1
  has_one_end single =
      let all_of = all_balanced stage all k run
      in let first = steered_once
      in let a = each_comes_or_lost R F stage fates all run account k single Direct
      in let b = each_comes_or_lost R F stage fates all run account k single Chained
      in let c = each_comes_or_lost R F stage fates all run account k single Twice
      in omega arith

  lost_of : (hop : Hop) → AreLost F all k hop
  lost_of hop = are_lost R F stage fates all run account k hop

  -- where what its mux sent was lost, no copy arrives
  lost_all : 0 < counts all (λ what. loses what k Direct)
      → (length (packet_ends all k) ≡ 1) × ((hop : Hop) → counts all (λ what. arrives what k hop) ≡ 0)
  lost_all lost =
      let all_of = all_balanced stage all k run
      in let first = steered_once
      in let next = sent_next all k
      in let few = (lost_of Direct).few
      in let few' = (lost_of Chained).few
      in let few'' = (lost_of Twice).few
      in let a : counts all (λ what. arrives what k Direct) ≡ 0 = (lost_of Direct).none (omega arith)
      in let b : counts all (λ what. arrives what k Chained) ≡ 0 = (lost_of Chained).none (omega (arith, next))
      in let c : counts all (λ what. arrives what k Twice) ≡ 0 = (lost_of Twice).none (omega (arith, next))
      in (omega (arith, next), λ hop. none_of a b c hop) where
        none_of : counts all (λ what. arrives what k Direct) ≡ 0 → counts all (λ what. arrives what k Chained) ≡ 0
            → counts all (λ what. arrives what k Twice) ≡ 0
            → (hop : Hop) → counts all (λ what. arrives what k hop) ≡ 0
        none_of a b c Direct = a
        none_of a b c Chained = b
        none_of a b c Twice = c

-- WHERE

all_append : {X : Type 0} (P : X → Type 0) (xs ys : List X) → AllByRecursion P xs → AllByRecursion P ys
    → AllByRecursion P (xs ++ ys)
all_append P [] ys front back = back
all_append P (x ∷ xs) ys front back = (front.0, all_append P xs ys front.1 back)

-- a copy was sent before it ends
sent_at : (past : List Event) (k : ℕ) (hop : Hop) (clock : ℕ) → is_sent_at past k hop clock ≡ true
    → is_sent past k hop ≡ true
sent_at [] k hop clock is = absurd (cc)
sent_at (e ∷ past) k hop clock is =
    go (sends e.what k hop) (e.clock.0 == clock) (is_sent_at past k hop clock) (is_sent past k hop)
    (sent_at past k hop clock) is where
      go : (s at old sent : Bool) → (old ≡ true → sent ≡ true) → (s && at || old) ≡ true → (s || sent) ≡ true
      go true at old sent before_it now = refl
      go false at true sent before_it now = before_it refl
      go false at false sent before_it now = absurd (cc)

unsent_here : (stage : Stage) (past : List Event) (clock : ℕ) (what : What) (k : ℕ) → Run stage past
    → MayCome stage past clock what → is_sent past k Direct ≡ false → end_in what k ≡ []
unsent_here stage past clock (Arrive packet hop server verdict) k run may unsent =
    elim (cases_Bool (packet == k)) [
      | inl is ↦
          let sent : is_sent past k hop ≡ true =
          subst (λ (n : ℕ). is_sent past n hop ≡ true) (eqb-true packet k is) may.sent
          in absurd (both_ways _ unsent (sent_steered stage past run k hop sent))
      | inr other ↦ rw other refl
    ]
unsent_here stage past clock (Lose packet hop) k run may unsent =
    elim (cases_Bool (packet == k)) [
      | inl is ↦
          let sent : is_sent past packet hop ≡ true = sent_at past packet hop may.0 may.2
          in let sent' : is_sent past k hop ≡ true =
          subst (λ (n : ℕ). is_sent past n hop ≡ true) (eqb-true packet k is) sent
          in absurd (both_ways _ unsent (sent_steered stage past run k hop sent'))
      | inr other ↦ rw other refl
    ]
unsent_here stage past clock (Publish v) k run may unsent = refl
unsent_here stage past clock (Switch m v) k run may unsent = refl
unsent_here stage past clock (Steer packet m) k run may unsent = refl
unsent_here stage past clock (Close server flow closed) k run may unsent = refl
unsent_here stage past clock (Retire server h at result) k run may unsent = refl
unsent_here stage past clock Sync k run may unsent = refl

neither : (x y : Bool) → (x || y) ≡ false → y ≡ false
neither true y e = absurd (cc)
neither false y e = e

-- what wasn't sent has no end
unsent_ends : (stage : Stage) (past : List Event) (k : ℕ) → Run stage past → is_sent past k Direct ≡ false
    → packet_ends past k ≡ []
unsent_ends stage [] k run unsent = refl
unsent_ends stage (e ∷ past) k run unsent =
    let before_it = neither (sends e.what k Direct) (is_sent past k Direct) unsent
    in let old = unsent_ends stage past k run.1 before_it
    in let here = unsent_here stage past e.clock.0 e.what k run.1 run.0.may before_it
    in rw (old, here) refl

-- its owner's server processed the copy, or it was lost
abbrev pub IsKeptEnd : Option Accepted → End → Type 0
IsKeptEnd o end = IsProcessedBy o end ⊎ (end ≡ Lost)

served_stays : (o : Option Accepted) (server : ServerId) (verdict : Verdict) (P : Accepted → Type 0)
    → ((a : Accepted) → P a → is_forward verdict ≡ true)
    → IsSomeAnd o (λ a. ((is_process verdict ≡ true) × (server ≡ a.server)) ⊎ P a) → is_forward verdict ≡ false
    → IsProcessedBy o (AtServer server verdict)
served_stays None server verdict P goes_on served ends_here = absurd served
served_stays (Some a) server verdict P goes_on (inl here) ends_here = here
served_stays (Some a) server verdict P goes_on (inr onto) ends_here =
    absurd (both_ways _ ends_here (goes_on a onto))

forwarded_on : (o : Option Past) (verdict : Verdict) → IsSomeAnd o (λ p. verdict ≡ Forward p.server)
    → is_forward verdict ≡ true
forwarded_on None verdict goes_on = absurd goes_on
forwarded_on (Some p) verdict goes_on = rw goes_on refl

onward_goes : (o : Option Label) (hop : Hop) (verdict : Verdict) (s : ServerId)
    → IsSomeAnd o (λ l. IsForwardedTo l.entry hop verdict s) → is_forward verdict ≡ true
onward_goes None hop verdict s onto = absurd onto
onward_goes (Some l) hop verdict s onto = forwarded_on (onward l.entry hop) verdict onto.0

kept_arrival : (stage : Stage) (past : List Event) (k : ℕ) (hop : Hop) (server : ServerId) (verdict : Verdict)
    → IsServed stage past (Arrive k hop server verdict)
    → AllByRecursion (IsKeptEnd (owner stage past k))
    (if not (is_forward verdict) then AtServer server verdict ∷ [] else [])
kept_arrival stage past k hop server verdict served = elim (cases_Bool (is_forward verdict)) [
  | inl on ↦ rw on tt
  | inr here ↦ rw here (
    inl (served_stays (owner stage past k) server verdict
        (λ a. (server ≢ a.server) × IsSomeAnd (label_of stage past k) (λ l. IsForwardedTo l.entry hop verdict a.server))
        (λ a onto. onward_goes (label_of stage past k) hop verdict a.server onto.1) served here),
    tt,
  )
]

kept_here : (stage : Stage) (past : List Event) (what : What) (k : ℕ)
    → (is_arrival_of what k ≡ true → IsServed stage past what)
    → AllByRecursion (IsKeptEnd (owner stage past k)) (end_in what k)
kept_here stage past (Arrive packet hop server verdict) k served = elim (cases_Bool (packet == k)) [
  | inl is ↦ rw is (kept_arrival stage past k hop server verdict
      (subst (λ (n : ℕ). IsServed stage past (Arrive n hop server verdict)) (eqb-true packet k is) (served is)))
  | inr other ↦ rw other tt
]
kept_here stage past (Lose packet hop) k served = elim (cases_Bool (packet == k)) [
  | inl is ↦ rw is (inr refl, tt)
  | inr other ↦ rw other tt
]
kept_here stage past (Publish v) k served = tt
kept_here stage past (Switch m v) k served = tt
kept_here stage past (Steer packet m) k served = tt
kept_here stage past (Close server flow closed) k served = tt
kept_here stage past (Retire server h at result) k served = tt
kept_here stage past Sync k served = tt

kept_step : (stage : Stage) (past : List Event) (clock : ℕ) (what : What) (k : ℕ) → Run stage past
    → MayCome stage past clock what → AllByRecursion (IsKeptEnd (owner stage past k)) (packet_ends past k)
    → AllByRecursion (IsKeptEnd (owner stage past k)) (end_in what k)
    → AllByRecursion (IsKeptEnd (owner_after stage past what k (owner stage past k)))
    (packet_ends past k ++ end_in what k)
kept_step stage past clock (Steer packet m) k run may old here = elim (cases_Bool (packet == k)) [
  | inl is ↦
      let unsent : is_sent past k Direct ≡ false =
      subst (λ (n : ℕ). is_sent past n Direct ≡ false) (eqb-true packet k is) may.1
      in rw (unsent_ends stage past k run unsent) tt
  | inr other ↦ rw other (all_append (IsKeptEnd (owner stage past k)) (packet_ends past k) [] old tt)
]
kept_step stage past clock (Arrive packet hop server verdict) k run may old here =
    all_append (IsKeptEnd (owner stage past k)) (packet_ends past k) _ old here
kept_step stage past clock (Lose packet hop) k run may old here =
    all_append (IsKeptEnd (owner stage past k)) (packet_ends past k) _ old here
kept_step stage past clock (Publish v) k run may old here =
    all_append (IsKeptEnd (owner stage past k)) (packet_ends past k) _ old here
kept_step stage past clock (Switch m v) k run may old here =
    all_append (IsKeptEnd (owner stage past k)) (packet_ends past k) _ old here
kept_step stage past clock (Close server flow closed) k run may old here =
    all_append (IsKeptEnd (owner stage past k)) (packet_ends past k) _ old here
kept_step stage past clock (Retire server h at result) k run may old here =
    all_append (IsKeptEnd (owner stage past k)) (packet_ends past k) _ old here
kept_step stage past clock Sync k run may old here =
    all_append (IsKeptEnd (owner stage past k)) (packet_ends past k) _ old here

-- a packet that is served wherever it arrives ends at its owner's server, or is lost
kept_ends : (stage : Stage) (all : List Event) (k : ℕ) → Run stage all → IsServedPacket stage all k
    → AllByRecursion (IsKeptEnd (owner stage all k)) (packet_ends all k)
kept_ends stage [] k run served = tt
kept_ends stage (e ∷ past) k run served =
    kept_step stage past e.clock.0 e.what k run.1 run.0.may (kept_ends stage past k run.1 served.1)
    (kept_here stage past e.what k served.0)

-- LOST

unlost_here : (what : What) (k : ℕ) → ((hop : Hop) → once (loses what k hop) ≡ 0)
    → AllByRecursion (λ end. end ≢ Lost) (end_in what k)
unlost_here (Lose packet hop) k unlost = elim (cases_Bool (packet == k)) [
  | inl is ↦
      let one : once (true && true) ≡ 0 = rw (is, same_hop_refl hop) at (unlost hop) in absurd (omega arith)
  | inr other ↦ rw other tt
]
unlost_here (Arrive packet hop server verdict) k unlost =
    go (packet == k && not (is_forward verdict)) where
      go : (b : Bool) → AllByRecursion (λ end. end ≢ Lost) (if b then AtServer server verdict ∷ [] else [])
      go true = (λ e. cc, tt)
      go false = tt
unlost_here (Publish v) k unlost = tt
unlost_here (Switch m v) k unlost = tt
unlost_here (Steer packet m) k unlost = tt
unlost_here (Close server flow closed) k unlost = tt
unlost_here (Retire server h at result) k unlost = tt
unlost_here Sync k unlost = tt

unlost_ends : (all : List Event) (k : ℕ) → IsUnlost all k → AllByRecursion (λ end. end ≢ Lost) (packet_ends all k)
unlost_ends [] k unlost = tt
unlost_ends (e ∷ past) k unlost =
    all_append (λ end. end ≢ Lost) (packet_ends past k) (end_in e.what k)
    (unlost_ends past k (λ hop. let none = unlost hop in omega arith))
    (unlost_here e.what k (λ hop. let none = unlost hop in omega arith))

processed_ends : (o : Option Accepted) (xs : List End) → AllByRecursion (IsKeptEnd o) xs
    → AllByRecursion (λ end. end ≢ Lost) xs → AllByRecursion (λ end. IsProcessedBy o end) xs
processed_ends o [] kept unlost = tt
processed_ends o (x ∷ xs) kept unlost = (
  elim kept.0 [ inl here ↦ here | inr lost ↦ absurd (unlost.0 lost) ],
  processed_ends o xs kept.1 unlost.1,
)

unarrived_here : (what : What) (k : ℕ) → ((hop : Hop) → once (arrives what k hop) ≡ 0)
    → AllByRecursion (λ end. end ≡ Lost) (end_in what k)
unarrived_here (Arrive packet hop server verdict) k none = elim (cases_Bool (packet == k)) [
  | inl is ↦
      let one : once (true && true) ≡ 0 = rw (is, same_hop_refl hop) at (none hop) in absurd (omega arith)
  | inr other ↦ rw other tt
]
unarrived_here (Lose packet hop) k none = go (packet == k) where
  go : (b : Bool) → AllByRecursion (λ end. end ≡ Lost) (if b then Lost ∷ [] else [])
  go true = (refl, tt)
  go false = tt
unarrived_here (Publish v) k none = tt
unarrived_here (Switch m v) k none = tt
unarrived_here (Steer packet m) k none = tt
unarrived_here (Close server flow closed) k none = tt
unarrived_here (Retire server h at result) k none = tt
unarrived_here Sync k none = tt

unarrived_ends : (all : List Event) (k : ℕ) → ((hop : Hop) → counts all (λ what. arrives what k hop) ≡ 0)
    → AllByRecursion (λ end. end ≡ Lost) (packet_ends all k)
unarrived_ends [] k none = tt
unarrived_ends (e ∷ past) k none =
    all_append (λ end. end ≡ Lost) (packet_ends past k) (end_in e.what k)
    (unarrived_ends past k (λ hop. let zero_of = none hop in omega arith))
    (unarrived_here e.what k (λ hop. let zero_of = none hop in omega arith))

alone : (xs : List End) → length xs ≡ 1 → AllByRecursion (λ end. end ≡ Lost) xs → xs ≡ Lost ∷ []
alone [] one lost = absurd (omega arith)
alone (x ∷ []) one lost = ap (λ (end : End). end ∷ []) lost.0
alone (x ∷ y ∷ xs) one lost = absurd (omega arith)

-- THE LAWS

pub ended_law : (R : Routes) (F : Rules) (h : History) (k : ℕ) (fates : List Fate) → IsRun h
    → is_some (segment_of h.stage k) ≡ true → IsAccountOf R F h.stage fates (reverse h.events)
    → IsEnded F (reverse h.events) k
ended_law R F h k fates run steered account = record {
  some = has_end R F h.stage fates (reverse h.events) run.run account k steered;
  one = λ single. has_one_end R F h.stage fates (reverse h.events) run.run account k steered single;
  lost =
      λ lost. let none = lost_all R F h.stage fates (reverse h.events) run.run account k steered lost
      in alone (packet_ends (reverse h.events) k) none.0 (unarrived_ends (reverse h.events) k none.1);
}

pub kept_law : (R : Routes) (F : Rules) (h : History) (k : ℕ) (fates : List Fate) → IsRun h
    → is_some (segment_of h.stage k) ≡ true → IsUnbrokenPacket h.stage (reverse h.events) k
    → IsAccountOf R F h.stage fates (reverse h.events) → IsKept F h.stage (reverse h.events) k
kept_law R F h k fates run steered unbroken account =
    let each = kept_ends h.stage (reverse h.events) k run.run
    (packet_served h.stage run.sound k (reverse h.events) run.run unbroken)
    in record {
      ended = ended_law R F h k fates run steered account;
      each = each;
      processed =
          λ unlost. processed_ends (owner h.stage (reverse h.events) k) (packet_ends (reverse h.events) k) each
          (unlost_ends (reverse h.events) k unlost);
    }

pub lost_law : (R : Routes) (F : Rules) (h : History) (k : ℕ) (hop : Hop) (fates : List Fate) → IsRun h
    → IsAccountOf R F h.stage fates (reverse h.events) → AreLost F (reverse h.events) k hop
lost_law R F h k hop fates run account = are_lost R F h.stage fates (reverse h.events) run.run account k hop

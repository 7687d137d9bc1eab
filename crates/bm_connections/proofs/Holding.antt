-- What one event more changes in the numbers of flows that shards hold, and the most that they held
-- at once.
use Rattle.std.proofs.Common.{◌≡◌, ℕ, suc, ◌+◌, ◌-◌, ◌<◌, ◌≤◌, ◌^◌, max, ◌==◌, Bool, true, false, not, ◌&&◌}
use Rattle.std.proofs.Common.{inl, inr, List, [], ◌∷◌, length, Option, Some, None, is_some, refl, sym, ap, ◌∙◌}
use Rattle.std.proofs.Common.{arith, subst, eqb}
use Rattle.std.specs.Prelude.{if◌then◌else◌}
use Rattle.std.proofs.lemmas.Bool.{and_parts, both_ways, cases_Bool, eq-eqb}
use Rattle.std.proofs.lemmas.Bool.Decides.{nat_tests}
use Rattle.bm_base.specs.declared.flow.Flow.{Flow}
use Rattle.bm_base.specs.declared.flow.Segment.{Segment}
use Rattle.bm_base.specs.declared.ids.ServerId.{ServerId}
use Rattle.bm_base.specs.declared.receive.Taken.TheVariants.{Advance, Duplicate, Ahead, Outside, Challenge, Ended}
use Rattle.bm_base.specs.Segments.{same_flow}
use Rattle.bm_core.specs.declared.events.Event.{Event}
use Rattle.bm_core.specs.declared.events.Stage.{Stage}
use Rattle.bm_core.specs.declared.events.Verdict.{Verdict}
use Rattle.bm_core.specs.declared.events.Verdict.TheVariants.{Accept, Process, Forward, Reset, Drop}
use Rattle.bm_core.specs.declared.events.What.{What}
use Rattle.bm_core.specs.declared.events.What.TheVariants.{Publish, Switch, Steer, Lose, Arrive, Close, Retire, Sync}
use Rattle.bm_core.specs.Books.{AreDistinct, is_listed}
use Rattle.bm_core.specs.Past.{flows_after, flows_arrived, flows_held, held, is_done, segment_of, shard, without}
use Rattle.bm_core.proofs.Listed.{flows_are_distinct, flows_of_shard}
use Rattle.bm_table.specs.Tables.{same_server}
use Rattle.bm_state.specs.declared.shard_key.ShardKey.{ShardKey}
use Rattle.bm_state.specs.Inside.Retirements.{same_key}
use Rattle.bm_state.specs.ShardKeys.{key_at}
use Rattle.bm_connections.specs.declared.held.FlowChange.{FlowChange}
use Rattle.bm_connections.specs.declared.held.FlowChange.TheVariants.{Opens, Ends, Empties}
use Rattle.bm_connections.specs.declared.held.ShardChange.{ShardChange}
use Rattle.bm_connections.specs.declared.held.ShardCount.{ShardCount}
use Rattle.bm_connections.specs.Counts.{most_in_shard}
use Rattle.bm_connections.specs.Inside.Held.{AreCounts, HaveRoom, arrival_change, change_at, change_of, changed}
use Rattle.bm_connections.specs.Inside.Held.{count_after, count_or_none, holds, number_by, server_of}
use Rattle.bm_connections.proofs.Steps.{same_flow-true, same_flow_refl}

-- LISTS

-- the flows of a shard after this change
abbrev flows_by : FlowChange → List Flow → List Flow
flows_by (Opens f) flows = f ∷ without f flows
flows_by (Ends f) flows = without f flows
flows_by Empties flows = []

length_absent : (f : Flow) (flows : List Flow) → is_listed flows f ≡ false → length (without f flows) ≡ length flows
length_absent f [] absent = refl
length_absent f (x ∷ flows) absent = elim (cases_Bool (same_flow f x)) [
  | inl same ↦
      let eq : f ≡ x = same_flow-true f x same
      in let bad : same_flow x f ≡ true = rw eq (same_flow_refl x)
      in absurd (let h : is_listed (x ∷ flows) f ≡ true = rw bad refl in both_ways _ absent h)
  | inr other ↦ elim (cases_Bool (same_flow x f)) [
    | inl bad ↦ absurd (let h : is_listed (x ∷ flows) f ≡ true = rw bad refl in both_ways _ absent h)
    | inr apart ↦
        let rest : is_listed flows f ≡ false = rw apart at absent
        in rw other (ap (λ (n : ℕ). suc n) (length_absent f flows rest))
  ]
]

length_without : (f : Flow) (flows : List Flow) → AreDistinct flows
    → length (without f flows) + (if is_listed flows f then 1 else 0) ≡ length flows
length_without f [] distinct = refl
length_without f (x ∷ flows) distinct = elim (cases_Bool (same_flow f x)) [
  | inl same ↦
      let eq : f ≡ x = same_flow-true f x same
      in let here : same_flow x f ≡ true = rw eq (same_flow_refl x)
      in let absent : is_listed flows f ≡ false = ap (is_listed flows) eq ∙ distinct.0
      in let e : length (without f flows) ≡ length flows = length_absent f flows absent
      in rw (same, here) (omega (arith, e))
  | inr other ↦ elim (cases_Bool (same_flow x f)) [
    | inl bad ↦ absurd (let eq : x ≡ f = same_flow-true x f bad
        in let h : same_flow f x ≡ true = rw eq (same_flow_refl f) in both_ways _ other h)
    | inr apart ↦
        let e : length (without f flows) + (if is_listed flows f then 1 else 0) ≡ length flows =
        length_without f flows distinct.1
        in rw (other, apart) (omega (arith, e))
  ]
]

without_few : (f : Flow) (flows : List Flow) → length (without f flows) ≤ length flows
without_few f [] = omega arith
without_few f (x ∷ flows) = elim (cases_Bool (same_flow f x)) [
  | inl same ↦ let n = without_few f flows in rw same (omega (arith, n))
  | inr other ↦ let n = without_few f flows in rw other (omega (arith, n))
]

-- EVENTS

-- the flows of a shard after what is done to a shard
abbrev changed_flows : Option ShardChange → ServerId → ℕ → List Flow → List Flow
changed_flows None s h flows = flows
changed_flows (Some t) s h flows =
    if same_key t.key (key_at s h) then flows_by t.flow_change flows else flows

either_way : (b : Bool) (flows : List Flow) → (if b then flows else flows) ≡ flows
either_way true flows = refl
either_way false flows = refl

and_true : (a b : Bool) (x y : List Flow) → (if a && b && true then x else y) ≡ (if a && b then x else y)
and_true true true x y = refl
and_true true false x y = refl
and_true false b x y = refl

and_never : (a b : Bool) (x y : List Flow) → (if a && b && false then x else y) ≡ y
and_never true true x y = refl
and_never true false x y = refl
and_never false b x y = refl

arrived : (stage : Stage) (server : ServerId) (verdict : Verdict) (o : Option Segment) (s : ServerId) (h : ℕ)
    (flows : List Flow)
    → flows_arrived stage h (server.0 == s.0) verdict o flows
    ≡ changed_flows (arrival_change stage server verdict o) s h flows
arrived stage server verdict None s h flows = refl
arrived stage server Accept (Some seg) s h flows = refl
arrived stage server (Process Ended) (Some seg) s h flows = refl
arrived stage server (Process Advance) (Some seg) s h flows = either_way _ flows
arrived stage server (Process Duplicate) (Some seg) s h flows = either_way _ flows
arrived stage server (Process Ahead) (Some seg) s h flows = either_way _ flows
arrived stage server (Process Outside) (Some seg) s h flows = either_way _ flows
arrived stage server (Process Challenge) (Some seg) s h flows = either_way _ flows
arrived stage server (Forward to) (Some seg) s h flows = either_way _ flows
arrived stage server (Reset why) (Some seg) s h flows = either_way _ flows
arrived stage server (Drop why) (Some seg) s h flows = either_way _ flows

after_change : (stage : Stage) (what : What) (s : ServerId) (h : ℕ) (flows : List Flow)
    → flows_after stage what s h flows ≡ changed_flows (change_of stage what) s h flows
after_change stage (Arrive k hop server verdict) s h flows =
    arrived stage server verdict (segment_of stage k) s h flows
after_change stage (Close server flow true) s h flows =
    and_true (same_server server s) (shard stage flow == h) (without flow flows) flows
after_change stage (Close server flow false) s h flows =
    and_never (same_server server s) (shard stage flow == h) (without flow flows) flows
after_change stage (Retire server x at result) s h flows = elim (cases_Bool (is_done result)) [
  | inl done ↦ rw done (and_true (same_server server s) (x == h) [] flows)
  | inr stays ↦ rw stays (and_never (same_server server s) (x == h) [] flows)
]
after_change stage (Publish v) s h flows = refl
after_change stage (Switch m v) s h flows = refl
after_change stage (Steer k m) s h flows = refl
after_change stage (Lose k hop) s h flows = refl
after_change stage Sync s h flows = refl

-- WHOSE FLOW CHANGES

-- the flow that is opened or ended is of the shard
abbrev IsIn : Stage → ℕ → FlowChange → Type 0
IsIn stage h (Opens f) = shard stage f ≡ h
IsIn stage h (Ends f) = shard stage f ≡ h
IsIn stage h Empties = Unit {0}

-- the same, if there is a change
abbrev IsOfShard : Stage → Option ShardChange → Type 0
IsOfShard stage None = Unit {0}
IsOfShard stage (Some t) = IsIn stage t.key.shard t.flow_change

arrived_in : (stage : Stage) (server : ServerId) (verdict : Verdict) (o : Option Segment)
    → IsOfShard stage (arrival_change stage server verdict o)
arrived_in stage server verdict None = tt
arrived_in stage server Accept (Some seg) = refl
arrived_in stage server (Process Ended) (Some seg) = refl
arrived_in stage server (Process Advance) (Some seg) = tt
arrived_in stage server (Process Duplicate) (Some seg) = tt
arrived_in stage server (Process Ahead) (Some seg) = tt
arrived_in stage server (Process Outside) (Some seg) = tt
arrived_in stage server (Process Challenge) (Some seg) = tt
arrived_in stage server (Forward to) (Some seg) = tt
arrived_in stage server (Reset why) (Some seg) = tt
arrived_in stage server (Drop why) (Some seg) = tt

emptied_in : (stage : Stage) (server : ServerId) (h : ℕ) (b : Bool)
    → IsOfShard stage (change_at server h (if b then Some Empties else None))
emptied_in stage server h true = tt
emptied_in stage server h false = tt

change_in : (stage : Stage) (what : What) → IsOfShard stage (change_of stage what)
change_in stage (Arrive k hop server verdict) = arrived_in stage server verdict (segment_of stage k)
change_in stage (Close server flow true) = refl
change_in stage (Close server flow false) = tt
change_in stage (Retire server x at result) = emptied_in stage server x (is_done result)
change_in stage (Publish v) = tt
change_in stage (Switch m v) = tt
change_in stage (Steer k m) = tt
change_in stage (Lose k hop) = tt
change_in stage Sync = tt

-- NUMBERS

opened : (held : Bool) (n m : ℕ) → n + (if held then 1 else 0) ≡ m → (if not held then suc m else m) ≡ suc n
opened true n m h = omega (arith, h)
opened false n m h = omega (arith, h)

ended : (held : Bool) (n m : ℕ) → n + (if held then 1 else 0) ≡ m → m - (if held then 1 else 0) ≡ n
ended true n m h = omega (arith, h)
ended false n m h = omega (arith, h)

-- a flow of the shard is in its list where it is held
is_there : (stage : Stage) (past : List Event) (s : ServerId) (h : ℕ) (f : Flow) → shard stage f ≡ h
    → is_listed (flows_held stage past s h) f ≡ is_some (held stage past s f)
is_there stage past s h f here =
    let same : eqb (shard stage f) h ≡ true = eq-eqb _ _ here
    in flows_of_shard stage past s h f ∙ rw same refl

-- how long a shard's list is without the flow
one_less : (stage : Stage) (past : List Event) (s : ServerId) (h : ℕ) (f : Flow) → shard stage f ≡ h
    → length (without f (flows_held stage past s h)) + (if is_some (held stage past s f) then 1 else 0)
    ≡ length (flows_held stage past s h)
one_less stage past s h f here =
    subst (λ (b : Bool). length (without f (flows_held stage past s h)) + (if b then 1 else 0)
    ≡ length (flows_held stage past s h)) (is_there stage past s h f here)
    (length_without f (flows_held stage past s h) (flows_are_distinct stage past s h))

-- how many flows a shard holds after a change
number_is : (stage : Stage) (past : List Event) (s : ServerId) (h : ℕ) (t : FlowChange) → IsIn stage h t
    → number_by t (holds stage past s t) (length (flows_held stage past s h))
    ≡ length (flows_by t (flows_held stage past s h))
number_is stage past s h (Opens f) here =
    opened (is_some (held stage past s f)) _ _ (one_less stage past s h f here)
number_is stage past s h (Ends f) here =
    ended (is_some (held stage past s f)) _ _ (one_less stage past s h f here)
number_is stage past s h Empties here = refl

held_few : (stage : Stage) (past : List Event) (s : ServerId) (h : ℕ)
    → length (flows_held stage past s h) ≤ most_in_shard stage past s h
held_few stage [] s h = omega arith
held_few stage (e ∷ past) s h = omega arith

-- COUNTS

same_key-true : (a b : ShardKey) → same_key a b ≡ true → a ≡ b
same_key-true a b h = grind (arith, nat_tests, and_parts)

-- the count of a list that this list of flows was changed to
abbrev count_now : ℕ → List Flow → ShardCount
count_now most flows = record { held = length flows; most = max (length flows) most }

stays : (flows : List Flow) (most : ℕ) → length flows ≤ most
    → record { held = length flows; most = most } ≡ count_now most flows
stays flows most below =
    let m : most ≡ max (length flows) most = omega (arith, below)
    in ap (λ (n : ℕ). record { held = length flows; most = n }) m

-- the count of a shard that stays as it is
still : (stage : Stage) (past : List Event) (e : Event) (key : ShardKey)
    → flows_held stage (e ∷ past) (server_of key) key.shard ≡ flows_held stage past (server_of key) key.shard
    → count_after stage past key ≡ count_after stage (e ∷ past) key
still stage past e key same =
    stays (flows_held stage past (server_of key) key.shard) (most_in_shard stage past (server_of key) key.shard)
    (held_few stage past (server_of key) key.shard)
    ∙ ap (count_now (most_in_shard stage past (server_of key) key.shard)) (sym same)

-- one event more, which does nothing to a shard
pub counts_still : (stage : Stage) (past : List Event) (e : Event) (counts : ShardKey → Option ShardCount)
    → change_of stage e.what ≡ None
    → AreCounts stage past counts → AreCounts stage (e ∷ past) counts
counts_still stage past e counts is k = record {
  each = λ key.
      let flows : List Flow = flows_held stage past (server_of key) key.shard
      in k.each key ∙ still stage past e key
      (after_change stage e.what (server_of key) key.shard flows
      ∙ ap (λ o. changed_flows o (server_of key) key.shard flows) is);
}

-- one that does this to a shard
pub counts_changed : (stage : Stage) (past : List Event) (e : Event) (t : ShardChange) (there : Bool)
    (counts new : ShardKey → Option ShardCount)
    → change_of stage e.what ≡ Some t → there ≡ holds stage past (server_of t.key) t.flow_change
    → ((q : ShardKey) → new q ≡ (if same_key t.key q
    then Some (changed t.flow_change there (count_or_none (counts t.key))) else counts q))
    → AreCounts stage past counts → AreCounts stage (e ∷ past) new
counts_changed stage past e t there counts new is by puts k = record {
  each = λ q.
      let flows : List Flow = flows_held stage past (server_of q) q.shard
      in let after : flows_held stage (e ∷ past) (server_of q) q.shard
      ≡ changed_flows (Some t) (server_of q) q.shard flows =
      after_change stage e.what (server_of q) q.shard flows
      ∙ ap (λ o. changed_flows o (server_of q) q.shard flows) is
      in elim (cases_Bool (same_key t.key q)) [
        | inl same ↦
            let at : t.key ≡ q = same_key-true t.key q same
            in let put : new q ≡ Some (changed t.flow_change there (count_or_none (counts t.key))) =
            puts q ∙ rw same refl
            in let here : IsIn stage t.key.shard t.flow_change =
            subst (λ (o : Option ShardChange). IsOfShard stage o) is (change_in stage e.what)
            in let here_at : IsIn stage q.shard t.flow_change =
            subst (λ (x : ShardKey). IsIn stage x.shard t.flow_change) at here
            in let was : changed t.flow_change there (count_or_none (counts t.key))
            ≡ changed t.flow_change (holds stage past (server_of q) t.flow_change) (count_after stage past q) =
            (λ i. changed t.flow_change (by i) (k.each t.key i))
            ∙ ap (λ (x : ShardKey). changed t.flow_change (holds stage past (server_of x) t.flow_change)
            (count_after stage past x)) at
            in let number : number_by t.flow_change (holds stage past (server_of q) t.flow_change) (length flows)
            ≡ length (flows_by t.flow_change flows) =
            number_is stage past (server_of q) q.shard t.flow_change here_at
            in let now : flows_held stage (e ∷ past) (server_of q) q.shard ≡ flows_by t.flow_change flows =
            after ∙ rw same refl
            in ap count_or_none put ∙ was
            ∙ ap (λ (n : ℕ). record { held = n; most = max n (most_in_shard stage past (server_of q) q.shard) }) number
            ∙ ap (count_now (most_in_shard stage past (server_of q) q.shard)) (sym now)
        | inr other ↦
            let put : new q ≡ counts q = puts q ∙ rw other refl
            in ap count_or_none put ∙ k.each q
            ∙ still stage past e q (after ∙ rw other refl)
      ];
}

-- ROOM

by_few : (t : FlowChange) (flows : List Flow) → length (flows_by t flows) ≤ suc (length flows)
by_few (Opens f) flows = let n = without_few f flows in omega (arith, n)
by_few (Ends f) flows = let n = without_few f flows in omega (arith, n)
by_few Empties flows = omega arith

changed_few : (o : Option ShardChange) (s : ServerId) (h : ℕ) (flows : List Flow)
    → length (changed_flows o s h flows) ≤ suc (length flows)
changed_few None s h flows = omega arith
changed_few (Some t) s h flows = elim (cases_Bool (same_key t.key (key_at s h))) [
  | inl same ↦ rw same (by_few t.flow_change flows)
  | inr other ↦ rw other (omega arith)
]

-- a shard holds no more flows than there were events
few_held : (stage : Stage) (past : List Event) (s : ServerId) (h : ℕ)
    → length (flows_held stage past s h) ≤ length past
few_held stage [] s h = omega arith
few_held stage (e ∷ past) s h =
    let before : length (flows_held stage past s h) ≤ length past = few_held stage past s h
    in let more : length (changed_flows (change_of stage e.what) s h (flows_held stage past s h))
    ≤ suc (length (flows_held stage past s h)) =
    changed_few (change_of stage e.what) s h (flows_held stage past s h)
    in let now : length (flows_held stage (e ∷ past) s h) ≤ suc (length (flows_held stage past s h)) =
    subst (λ (flows : List Flow). length flows ≤ suc (length (flows_held stage past s h)))
    (sym (after_change stage e.what s h (flows_held stage past s h))) more
    in omega (arith, before, now)

-- one event more can be counted
pub have_room : (stage : Stage) (past : List Event) (counts : ShardKey → Option ShardCount)
    → suc (length past) < 2 ^ 64 → AreCounts stage past counts → HaveRoom counts
have_room stage past counts few k = λ key.
    let n : length (flows_held stage past (server_of key) key.shard) ≤ length past =
    few_held stage past (server_of key) key.shard
    in subst (λ (c : ShardCount). suc c.held < 2 ^ 64) (sym (k.each key)) (omega (arith, n, few))

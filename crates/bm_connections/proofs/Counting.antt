-- What one event more changes in the counts of servers and of causes.
use Rattle.std.proofs.Common.{◌≡◌, ℕ, suc, ◌+◌, ◌-◌, ◌<◌, ◌≤◌, ◌^◌, Bool, true, false, inl, inr, List, [], ◌∷◌, ◌++◌}
use Rattle.std.proofs.Common.{length, take, get_or, reverse, filter, map, Option, Some, None, refl, sym, ap}
use Rattle.std.proofs.Common.{◌∙◌, arith, subst}
use Rattle.std.specs.Prelude.{if◌then◌else◌}
use Rattle.std.proofs.lemmas.Bool.{cases_Bool}
use Rattle.std.proofs.lemmas.Grind.{common_steps}
use Rattle.std.proofs.lemmas.List.{length-reverse, length-take-le}
use Rattle.bm_base.specs.declared.ids.Moment.{Moment}
use Rattle.bm_base.specs.declared.ids.ServerId.{ServerId}
use Rattle.bm_core.specs.declared.events.Cause.{Cause}
use Rattle.bm_core.specs.declared.events.Event.{Event}
use Rattle.bm_core.specs.declared.events.History.{History}
use Rattle.bm_core.specs.declared.events.Stage.{Stage}
use Rattle.bm_core.specs.declared.events.Verdict.{Verdict}
use Rattle.bm_core.specs.declared.events.What.{What}
use Rattle.bm_core.specs.declared.events.What.TheVariants.{Publish, Switch, Steer, Lose, Arrive, Close, Retire, Sync}
use Rattle.bm_core.specs.Causes.{is_process}
use Rattle.bm_core.specs.Past.{is_accept}
use Rattle.bm_table.specs.Tables.{same_server}
use Rattle.bm_table.proofs.Tables.{same_server-true}
use Rattle.bm_connections.specs.declared.connection.Break.{Break}
use Rattle.bm_connections.specs.declared.connection.Connection.{Connection}
use Rattle.bm_connections.specs.declared.counters.Counters.{Counters}
use Rattle.bm_connections.specs.declared.counts.CauseCount.{CauseCount}
use Rattle.bm_connections.specs.declared.counts.CausePackets.{CausePackets}
use Rattle.bm_connections.specs.declared.servers.Served.{Served}
use Rattle.bm_connections.specs.AfterEnd.{packets_after_end}
use Rattle.bm_connections.specs.Connections.{as_break, connections, counted_cause, one_more}
use Rattle.bm_connections.specs.Counts.{all_causes, arrivals_at, causes_in, is_arrival_at, is_cause, occurs, packets_by}
use Rattle.bm_connections.specs.Inside.Counters.{CanCountMore, HasCounted}
use Rattle.bm_connections.specs.Inside.Packets as kept
use Rattle.bm_connections.specs.Inside.Packets.{ArePackets, packets_in}
use Rattle.bm_connections.specs.Inside.Held.{count}
use Rattle.bm_connections.proofs.Holding.{have_room}
use Rattle.bm_connections.proofs.Lists.{filtered_more}
use Rattle.bm_connections.specs.Inside.Loads.{AreLoads, CanCount, count_or_none, counted, load, served}

-- SERVERS

unchanged : (past : List Event) (clock : Moment) (what : What) (s : ServerId) → is_arrival_at s what ≡ false
    → served (record { clock = clock; what = what } ∷ past) s ≡ served past s
unchanged past clock (Publish v) s h = refl
unchanged past clock (Switch m v) s h = refl
unchanged past clock (Steer k m) s h = refl
unchanged past clock (Lose k hop) s h = refl
unchanged past clock (Close server flow closed) s h = refl
unchanged past clock (Retire server shard at result) s h = refl
unchanged past clock Sync s h = refl
unchanged past clock (Arrive k hop server verdict) s h = rw h refl

changed : (past : List Event) (clock : Moment) (what : What) (s : ServerId) (found : Option Cause) (b : Break)
    → as_break clock what found ≡ Some b → is_arrival_at s what ≡ true
    → counted b.verdict (served past s) ≡ served (record { clock = clock; what = what } ∷ past) s
changed past clock (Arrive k hop server verdict) s found b is here =
    let same : record { packet = k; clock = clock; server = server; verdict = verdict; cause = found } ≡ b = cc
    in subst (λ (x : Break). counted x.verdict (served past s)
    ≡ served (record { clock = clock; what = Arrive k hop server verdict } ∷ past) s) same (rw here refl)
changed past clock (Publish v) s found b is here = absurd (cc)
changed past clock (Switch m v) s found b is here = absurd (cc)
changed past clock (Steer k m) s found b is here = absurd (cc)
changed past clock (Lose k hop) s found b is here = absurd (cc)
changed past clock (Close server flow closed) s found b is here = absurd (cc)
changed past clock (Retire server shard at result) s found b is here = absurd (cc)
changed past clock Sync s found b is here = absurd (cc)

no_arrival : (s : ServerId) (clock : Moment) (what : What) (found : Option Cause) → as_break clock what found ≡ None
    → is_arrival_at s what ≡ false
no_arrival s clock (Arrive k hop server verdict) found is = absurd (cc)
no_arrival s clock (Publish v) found is = refl
no_arrival s clock (Switch m v) found is = refl
no_arrival s clock (Steer k m) found is = refl
no_arrival s clock (Lose k hop) found is = refl
no_arrival s clock (Close server flow closed) found is = refl
no_arrival s clock (Retire server shard at result) found is = refl
no_arrival s clock Sync found is = refl

arrival_is : (s : ServerId) (clock : Moment) (what : What) (found : Option Cause) (b : Break)
    → as_break clock what found ≡ Some b → is_arrival_at s what ≡ same_server b.server s
arrival_is s clock (Arrive k hop server verdict) found b is =
    let same : record { packet = k; clock = clock; server = server; verdict = verdict; cause = found } ≡ b = cc
    in ap (λ (x : Break). same_server x.server s) same
arrival_is s clock (Publish v) found b is = absurd (cc)
arrival_is s clock (Switch m v) found b is = absurd (cc)
arrival_is s clock (Steer k m) found b is = absurd (cc)
arrival_is s clock (Lose k hop) found b is = absurd (cc)
arrival_is s clock (Close server flow closed) found b is = absurd (cc)
arrival_is s clock (Retire server shard at result) found b is = absurd (cc)
arrival_is s clock Sync found b is = absurd (cc)

pub loads_observed : (past : List Event) (e : Event) (found : Option Cause) (b : Break)
    (loads new : ServerId → Option Served)
    → as_break e.clock e.what found ≡ Some b
    → ((q : ServerId) → new q
    ≡ (if same_server b.server q then Some (counted b.verdict (count_or_none (loads b.server) b.server)) else loads q))
    → AreLoads past loads → AreLoads (e ∷ past) new
loads_observed past e found b loads new is n k = record {
  each = λ q. ap (λ o. count_or_none o q) (n q) ∙ elim (cases_Bool (same_server b.server q)) [
    | inl here ↦
        let same : b.server ≡ q = same_server-true b.server q here
        in let at : is_arrival_at q e.what ≡ true = arrival_is q e.clock e.what found b is ∙ here
        in rw (here, same)
        (ap (λ (c : Served). counted b.verdict c) (k.each q) ∙ changed past e.clock e.what q found b is at)
    | inr other ↦
        let at : is_arrival_at q e.what ≡ false = arrival_is q e.clock e.what found b is ∙ other
        in rw other (k.each q ∙ sym (unchanged past e.clock e.what q at))
  ];
}

pub loads_still : (past : List Event) (e : Event) (found : Option Cause) (loads : ServerId → Option Served)
    → as_break e.clock e.what found ≡ None → AreLoads past loads → AreLoads (e ∷ past) loads
loads_still past e found loads is k = record {
  each = λ q. k.each q ∙ sym (unchanged past e.clock e.what q (no_arrival q e.clock e.what found is));
}

pub more_few : (b : Bool) (n m : ℕ) → n ≤ m → one_more b n ≤ suc m
more_few true n m h = omega arith
more_few false n m h = omega arith

arrivals_few : (s : ServerId) (kind : Verdict → Bool) (past : List Event) → arrivals_at s kind past ≤ length past
arrivals_few s kind [] = omega arith
arrivals_few s kind (e ∷ past) = more_few _ _ (length past) (arrivals_few s kind past)

pub can_count : (past : List Event) (loads : ServerId → Option Served) (s : ServerId)
    → suc (length past) < 2 ^ 64 → AreLoads past loads → CanCount (count_or_none (loads s) s)
can_count past loads s few k =
    subst (λ (c : Served). CanCount c) (sym (k.each s)) (record {
      accepted = let n = arrivals_few s is_accept past in omega arith;
      processed = let n = arrivals_few s is_process past in omega arith;
    })

-- CAUSES

pub packets_observed : (stage : Stage) (past : List Event) (e : Event) (found : Option Cause) (old new : CausePackets)
    → ((c : Cause) → packets_in new c ≡ one_more (is_cause c found) (packets_in old c))
    → found ≡ counted_cause stage past e
    → ArePackets stage past old → ArePackets stage (e ∷ past) new
packets_observed stage past e found old new n by k = record {
  each = λ c. n c ∙ (λ i. one_more (is_cause c (by i)) (k.each c i));
}

packets_few : (stage : Stage) (c : Cause) (past : List Event) → packets_by stage c past ≤ length past
packets_few stage c [] = omega arith
packets_few stage c (e ∷ past) = more_few _ _ (length past) (packets_few stage c past)

after_end_few : (stage : Stage) (past : List Event) → packets_after_end stage past ≤ length past
after_end_few stage [] = omega arith
after_end_few stage (e ∷ past) = more_few _ _ (length past) (after_end_few stage past)

-- one event more can be counted
pub can_count_more : (stage : Stage) (past : List Event) (c : Counters) → suc (length past) < 2 ^ 64
    → HasCounted stage past c → CanCountMore c
can_count_more stage past c few k = record {
  packets = λ x.
      let n = packets_few stage x past
      in subst (λ (m : ℕ). suc m < 2 ^ 64) (sym (k.packets.each x)) (omega (arith, n, few));
  after_end =
      let n = after_end_few stage past
      in subst (λ (m : ℕ). suc m < 2 ^ 64) (sym k.after_end) (omega (arith, n, few));
  loads = λ s. can_count past (load c.loads) s few k.loads;
  held = have_room stage past (count c.held.counts) few k.held.counts;
}

-- a past of events that stand in a slice
pub past_few : (shown : List Event) (n : ℕ) → n < 2 ^ 64 - 1 → suc (length (reverse (take n shown))) < 2 ^ 64
past_few shown n few =
    let r : length (reverse (take n shown)) ≡ length (take n shown) = length-reverse (take n shown)
    in let t : length (take n shown) ≤ n = grind (arith, common_steps)
    in omega (arith, r, t, few)

pub past_long : (shown : List Event) (n : ℕ) → n < length shown → n ≡ length (reverse (take n shown))
past_long shown n below =
    let few : n ≤ length shown = omega (arith, below)
    in sym (length-reverse (take n shown) ∙ length-take-le n shown few)

-- one cause more
pub causes_more : (p : CausePackets) (table : List Connection) (i : ℕ) (d : Cause) (packets : ℕ)
    (old new : List CauseCount) → i < length all_causes → packets ≡ packets_in p (get_or all_causes i d)
    → new ≡ old ++ filter occurs (kept.count packets table (get_or all_causes i d) ∷ [])
    → old ≡ filter occurs (map (λ c. kept.count (packets_in p c) table c) (take i all_causes))
    → new ≡ filter occurs (map (λ c. kept.count (packets_in p c) table c) (take (i + 1) all_causes))
causes_more p table i d packets old new below by n was =
    filtered_more occurs (λ c. kept.count (packets_in p c) table c) all_causes i d
    (kept.count packets table (get_or all_causes i d)) old new below
    (ap (λ m. kept.count m table (get_or all_causes i d)) by) n was

-- the counts of the causes that occur
pub occurring : (h : History) (p : CausePackets) (table : List Connection)
    → ArePackets h.stage (reverse h.events) p → table ≡ connections h → kept.causes_in p table ≡ causes_in h
occurring h p table k same =
    ap (λ (f : Cause → CauseCount). filter occurs (map f all_causes))
    (λ i c. kept.count (k.each c i) (same i) c)

-- How many events a run of a load has at most.
use Rattle.std.proofs.Common.{◌≡◌, ℕ, zero, suc, ◌+◌, ◌*◌, ◌<◌, ◌≤◌, ◌==◌, Bool, true, false, not}
use Rattle.std.proofs.Common.{◌||◌, ◌&&◌, List, [], ◌∷◌}
use Rattle.std.proofs.Common.{inl, inr, length, Option, Some, None, refl, subst, arith, eqb}
use Rattle.std.specs.Prelude.{is_some, MatchBool}
use Rattle.std.proofs.lemmas.Bool.{cases_Bool, eqb-true}
use Rattle.bm_base.specs.declared.flow.Segment.{Segment}
use Rattle.bm_base.specs.declared.ids.MuxId.{MuxId}
use Rattle.bm_base.specs.declared.label.Hop.{Hop}
use Rattle.bm_base.specs.declared.label.Hop.TheVariants.{Direct, Chained, Twice}
use Rattle.bm_base.specs.declared.fate.Fate.{Fate}
use Rattle.bm_core.proofs.Pasts.{newest_within, version_published}
use Rattle.bm_core.specs.Accounts.{arrives, before, counts, is_sync, steers_packet}
use Rattle.bm_core.specs.declared.events.Event.{Event}
use Rattle.bm_core.specs.declared.events.Stage.{Stage}
use Rattle.bm_core.specs.declared.events.Verdict.TheVariants.{Accept, Process, Forward, Reset, Drop}
use Rattle.bm_core.specs.declared.events.What.{What}
use Rattle.bm_core.specs.declared.events.What.TheVariants.{Publish, Switch, Steer, Lose, Arrive, Close, Retire, Sync}
use Rattle.bm_core.specs.Past.{is_switch_of, newest, published_by, segment_of, sends, switched, version_at}
use Rattle.bm_core.specs.Runs.{AtEach, MayCome, Run}
use Rattle.bm_core.specs.Threads.{AreThreadSteps, IsLook, IsTimed, has_looked, newest_before, packet_of}
use Rattle.bm_load.proofs.Shape.{IsLoadLike, is_quiet, once}
use Rattle.bm_load.proofs.Summing.{HasPacket, arrivals_by_packets, is_arrival, is_steer, steers_by_packets, sum_ones}

-- COMMANDS

abbrev is_publish : What → Bool
is_publish (Publish v) = true
is_publish _ = false

publish_step : (stage : Stage) (past : List Event) (clock : ℕ) (what : What) → MayCome stage past clock what
    → once (is_publish what) + newest past ≤ published_by what (newest past)
publish_step stage past clock (Publish v) may = let a = may.0 in omega arith
publish_step stage past clock (Switch m v) may = omega arith
publish_step stage past clock (Steer k m) may = omega arith
publish_step stage past clock (Lose k hop) may = omega arith
publish_step stage past clock (Arrive k hop server verdict) may = omega arith
publish_step stage past clock (Close server flow closed) may = omega arith
publish_step stage past clock (Retire server h at result) may = omega arith
publish_step stage past clock Sync may = omega arith

-- each Publish raises the newest version
publishes_few : (stage : Stage) (all : List Event) → Run stage all → counts all is_publish ≤ newest all
publishes_few stage [] run = omega arith
publishes_few stage (e ∷ past) run =
    let old = publishes_few stage past run.1
    in let here = publish_step stage past e.clock.0 e.what run.0.may
    in omega arith

-- MUXES

abbrev is_switch : What → Bool
is_switch (Switch m v) = true
is_switch _ = false

-- a mux's first Switch is one more than its version, and each other one raises the version
look_step : (c version v : ℕ) (looked : Bool) → c ≤ version + once looked
    → MatchBool looked (version < v) (version ≤ v) → 1 + c ≤ v + 1
look_step c version v true few look = omega arith
look_step c version v false few look = omega arith

weaker_look : (past : List Event) (m : MuxId) (v : ℕ) (looked : Bool)
    → MatchBool looked ((version_at past m).0 < v) ((newest_before past ≤ v) × ((version_at past m).0 ≤ v))
    → MatchBool looked ((version_at past m).0 < v) ((version_at past m).0 ≤ v)
weaker_look past m v true look = look
weaker_look past m v false look = look.1

-- a mux has at most one Switch more than its version, once it has looked
switch_step : (fates : List Fate) (stage : Stage) (past : List Event) (own clock i : ℕ) (what : What)
    → is_quiet what ≡ true → IsTimed fates stage past own clock what
    → counts past (λ w. is_switch_of w i) ≤ (version_at past (record { 0 = i })).0 + once (has_looked past i)
    → once (is_switch_of what i) + counts past (λ w. is_switch_of w i)
    ≤ (switched what (record { 0 = i }) (version_at past (record { 0 = i }))).0
    + once (not (is_sync what) && (is_switch_of what i || has_looked past i))
switch_step fates stage past own clock i (Switch m v) quiet timed old = elim (cases_Bool (eqb m.0 i)) [
  | inl same ↦
      let at : m.0 ≡ i = eqb-true m.0 i same
      in let look : MatchBool (has_looked past i) ((version_at past (record { 0 = i })).0 < v.0)
      ((newest_before past ≤ v.0) × ((version_at past (record { 0 = i })).0 ≤ v.0)) =
      subst (λ (j : ℕ). IsLook past (record { 0 = j }) v.0) at timed.0
      in let few = look_step (counts past (λ w. is_switch_of w i)) (version_at past (record { 0 = i })).0 v.0
      (has_looked past i) old (weaker_look past (record { 0 = i }) v.0 (has_looked past i) look)
      in rw same (omega arith)
  | inr other ↦ rw other (omega arith)
]
switch_step fates stage past own clock i (Publish v) quiet timed old = omega arith
switch_step fates stage past own clock i (Steer k m) quiet timed old = omega arith
switch_step fates stage past own clock i (Lose k hop) quiet timed old = omega arith
switch_step fates stage past own clock i (Arrive k hop server verdict) quiet timed old = omega arith
switch_step fates stage past own clock i (Close server flow closed) quiet timed old = omega arith
switch_step fates stage past own clock i (Retire server h at result) quiet timed old = omega arith
switch_step fates stage past own clock i Sync quiet timed old = absurd (cc)

switches_of : (fates : List Fate) (stage : Stage) (all : List Event) (i : ℕ) → AreThreadSteps fates stage all
    → AtEach (λ past e. is_quiet e.what ≡ true) all
    → counts all (λ w. is_switch_of w i) ≤ (version_at all (record { 0 = i })).0 + once (has_looked all i)
switches_of fates stage [] i steps quiet = omega arith
switches_of fates stage (e ∷ past) i steps quiet =
    switch_step (before fates) stage past _ e.clock.0 i e.what quiet.0 steps.0.timed
    (switches_of (before fates) stage past i steps.1 quiet.1)

one_of_four : (m : ℕ) → m < 4 → 1 ≤ once (m == 0) + once (m == 1) + once (m == 2) + once (m == 3)
one_of_four zero low = omega arith
one_of_four (suc zero) low = omega arith
one_of_four (suc (suc zero)) low = omega arith
one_of_four (suc (suc (suc zero))) low = omega arith
one_of_four (suc (suc (suc (suc m)))) low = absurd (omega arith)

four_step : (stage : Stage) (n : ℕ) → IsLoadLike stage n → (past : List Event) (clock : ℕ) (what : What)
    → MayCome stage past clock what
    → once (is_switch what)
    ≤ once (is_switch_of what 0) + once (is_switch_of what 1) + once (is_switch_of what 2) + once (is_switch_of what 3)
four_step stage n like past clock (Switch m v) may =
    one_of_four m.0 (let a = may.0 in let b = like.muxes in omega arith)
four_step stage n like past clock (Publish v) may = omega arith
four_step stage n like past clock (Steer k m) may = omega arith
four_step stage n like past clock (Lose k hop) may = omega arith
four_step stage n like past clock (Arrive k hop server verdict) may = omega arith
four_step stage n like past clock (Close server flow closed) may = omega arith
four_step stage n like past clock (Retire server h at result) may = omega arith
four_step stage n like past clock Sync may = omega arith

-- each Switch is of one of the four muxes
of_four : (stage : Stage) (n : ℕ) → IsLoadLike stage n → (all : List Event) → Run stage all
    → counts all is_switch
    ≤ counts all (λ w. is_switch_of w 0) + counts all (λ w. is_switch_of w 1) + counts all (λ w. is_switch_of w 2)
    + counts all (λ w. is_switch_of w 3)
of_four stage n like [] run = omega arith
of_four stage n like (e ∷ past) run =
    let old = of_four stage n like past run.1
    in let here = four_step stage n like past e.clock.0 e.what run.0.may
    in omega arith

pub once_most : (b : Bool) → once b ≤ 1
once_most true = omega arith
once_most false = omega arith

-- a mux has at most two: its first, and one to the one version
mux_few : (fates : List Fate) (stage : Stage) (n : ℕ) → IsLoadLike stage n → (all : List Event) (i : ℕ)
    → Run stage all → AreThreadSteps fates stage all → AtEach (λ past e. is_quiet e.what ≡ true) all
    → counts all (λ w. is_switch_of w i) ≤ 2
mux_few fates stage n like all i run steps quiet =
    let a = switches_of fates stage all i steps quiet
    in let b = version_published stage all run (record { 0 = i })
    in let c = newest_within stage all run
    in let d = like.one_change
    in let e = once_most (has_looked all i)
    in omega arith

switches_few : (fates : List Fate) (stage : Stage) (n : ℕ) → IsLoadLike stage n → (all : List Event) → Run stage all
    → AreThreadSteps fates stage all → AtEach (λ past e. is_quiet e.what ≡ true) all → counts all is_switch ≤ 8
switches_few fates stage n like all run steps quiet =
    let a = mux_few fates stage n like all 0 run steps quiet
    in let b = mux_few fates stage n like all 1 run steps quiet
    in let c = mux_few fates stage n like all 2 run steps quiet
    in let d = mux_few fates stage n like all 3 run steps quiet
    in let e = of_four stage n like all run
    in omega arith

-- PACKETS

packet_some : (stage : Stage) (n : ℕ) → IsLoadLike stage n → (k : ℕ) (o : Option Segment) → segment_of stage k ≡ o
    → is_some o ≡ true → (1 ≤ k) × (k ≤ 4 * n)
packet_some stage n like k None is some = absurd (cc)
packet_some stage n like k (Some s) is some = like.within k s is

steer_step : (stage : Stage) (n : ℕ) → IsLoadLike stage n → (past : List Event) (clock : ℕ) (what : What)
    → MayCome stage past clock what → is_steer what ≡ true → HasPacket (4 * n) (packet_of what)
steer_step stage n like past clock (Steer k m) may is = packet_some stage n like k (segment_of stage k) refl may.2
steer_step stage n like past clock (Publish v) may is = absurd (cc)
steer_step stage n like past clock (Switch m v) may is = absurd (cc)
steer_step stage n like past clock (Lose k hop) may is = absurd (cc)
steer_step stage n like past clock (Arrive k hop server verdict) may is = absurd (cc)
steer_step stage n like past clock (Close server flow closed) may is = absurd (cc)
steer_step stage n like past clock (Retire server h at result) may is = absurd (cc)
steer_step stage n like past clock Sync may is = absurd (cc)

-- each Steer is of a packet of the load
pub steers_within : (stage : Stage) (n : ℕ) → IsLoadLike stage n → (all : List Event) → Run stage all
    → AtEach (λ past e. is_steer e.what ≡ true → HasPacket (4 * n) (packet_of e.what)) all
steers_within stage n like [] run = tt
steers_within stage n like (e ∷ past) run = (
  (λ is. steer_step stage n like past e.clock.0 e.what run.0.may is),
  steers_within stage n like past run.1,
)

arrival_step : (stage : Stage) (n : ℕ) → IsLoadLike stage n → (hop : Hop) (past : List Event) (clock : ℕ) (what : What)
    → MayCome stage past clock what → is_arrival hop what ≡ true → HasPacket (4 * n) (packet_of what)
arrival_step stage n like hop past clock (Arrive k h server verdict) may is = like.within k may.segment may.is_segment
arrival_step stage n like hop past clock (Publish v) may is = absurd (cc)
arrival_step stage n like hop past clock (Switch m v) may is = absurd (cc)
arrival_step stage n like hop past clock (Steer k m) may is = absurd (cc)
arrival_step stage n like hop past clock (Lose k h) may is = absurd (cc)
arrival_step stage n like hop past clock (Close server flow closed) may is = absurd (cc)
arrival_step stage n like hop past clock (Retire server h at result) may is = absurd (cc)
arrival_step stage n like hop past clock Sync may is = absurd (cc)

-- each arrival is of a packet of the load
pub arrivals_within : (stage : Stage) (n : ℕ) → IsLoadLike stage n → (hop : Hop) (all : List Event) → Run stage all
    → AtEach (λ past e. is_arrival hop e.what ≡ true → HasPacket (4 * n) (packet_of e.what)) all
arrivals_within stage n like hop [] run = tt
arrivals_within stage n like hop (e ∷ past) run = (
  (λ is. arrival_step stage n like hop past e.clock.0 e.what run.0.may is),
  arrivals_within stage n like hop past run.1,
)

-- CHAINED COPIES

sent_step : (k : ℕ) (what : What) → once (sends what k Chained) ≤ once (arrives what k Direct)
sent_step k (Steer packet m) = go (eqb packet k) where
  go : (b : Bool) → once (b && false) ≤ 0
  go true = omega arith
  go false = omega arith
sent_step k (Arrive packet Direct server (Forward to)) = omega arith
sent_step k (Arrive packet Chained server (Forward to)) = go (eqb packet k) where
  go : (b : Bool) → once (b && false) ≤ once (b && false)
  go true = omega arith
  go false = omega arith
sent_step k (Arrive packet Twice server (Forward to)) = omega arith
sent_step k (Arrive packet hop server Accept) = omega arith
sent_step k (Arrive packet hop server (Process taken)) = omega arith
sent_step k (Arrive packet hop server (Reset why)) = omega arith
sent_step k (Arrive packet hop server (Drop why)) = omega arith
sent_step k (Publish v) = omega arith
sent_step k (Switch m v) = omega arith
sent_step k (Lose packet hop) = omega arith
sent_step k (Close server flow closed) = omega arith
sent_step k (Retire server h at result) = omega arith
sent_step k Sync = omega arith

-- a chained copy is sent at an arrival of a direct one
pub chained_few : (all : List Event) (k : ℕ)
    → counts all (λ what. sends what k Chained) ≤ counts all (λ what. arrives what k Direct)
chained_few [] k = omega arith
chained_few (e ∷ past) k = let old = chained_few past k in let here = sent_step k e.what in omega arith

twice_step : (k : ℕ) (what : What) → once (sends what k Twice) ≤ once (arrives what k Chained)
twice_step k (Steer packet m) = go (eqb packet k) where
  go : (b : Bool) → once (b && false) ≤ 0
  go true = omega arith
  go false = omega arith
twice_step k (Arrive packet Direct server (Forward to)) = go (eqb packet k) where
  go : (b : Bool) → once (b && false) ≤ once (b && false)
  go true = omega arith
  go false = omega arith
twice_step k (Arrive packet Chained server (Forward to)) = omega arith
twice_step k (Arrive packet Twice server (Forward to)) = omega arith
twice_step k (Arrive packet hop server Accept) = omega arith
twice_step k (Arrive packet hop server (Process taken)) = omega arith
twice_step k (Arrive packet hop server (Reset why)) = omega arith
twice_step k (Arrive packet hop server (Drop why)) = omega arith
twice_step k (Publish v) = omega arith
twice_step k (Switch m v) = omega arith
twice_step k (Lose packet hop) = omega arith
twice_step k (Close server flow closed) = omega arith
twice_step k (Retire server h at result) = omega arith
twice_step k Sync = omega arith

-- a twice-chained copy is sent at an arrival of a chained one
pub twice_few : (all : List Event) (k : ℕ)
    → counts all (λ what. sends what k Twice) ≤ counts all (λ what. arrives what k Chained)
twice_few [] k = omega arith
twice_few (e ∷ past) k = let old = twice_few past k in let here = twice_step k e.what in omega arith

-- ALL EVENTS

kind_step : (what : What) → is_quiet what ≡ true
    → once (is_publish what) + once (is_switch what) + once (is_steer what) + once (is_arrival Direct what)
    + once (is_arrival Chained what) + once (is_arrival Twice what)
    ≡ 1
kind_step (Publish v) quiet = refl
kind_step (Switch m v) quiet = refl
kind_step (Steer k m) quiet = refl
kind_step (Arrive k Direct server verdict) quiet = refl
kind_step (Arrive k Chained server verdict) quiet = refl
kind_step (Arrive k Twice server verdict) quiet = refl
kind_step (Lose k hop) quiet = absurd (cc)
kind_step (Close server flow closed) quiet = absurd (cc)
kind_step (Retire server h at result) quiet = absurd (cc)
kind_step Sync quiet = absurd (cc)

by_kinds : (all : List Event) → AtEach (λ past e. is_quiet e.what ≡ true) all
    → counts all is_publish + counts all is_switch + counts all is_steer + counts all (is_arrival Direct)
    + counts all (is_arrival Chained) + counts all (is_arrival Twice)
    ≡ length all
by_kinds [] quiet = refl
by_kinds (e ∷ past) quiet =
    let old = by_kinds past quiet.1 in let here = kind_step e.what quiet.0 in omega arith

-- where each packet is steered at most once and each of its copies comes at most once
pub events_few : (fates : List Fate) (stage : Stage) (n : ℕ) → IsLoadLike stage n → (all : List Event)
    → Run stage all → AreThreadSteps fates stage all → AtEach (λ past e. is_quiet e.what ≡ true) all
    → ((k : ℕ) → counts all (λ what. steers_packet what k) ≤ 1)
    → ((k : ℕ) → counts all (λ what. arrives what k Direct) ≤ 1)
    → ((k : ℕ) → counts all (λ what. arrives what k Chained) ≤ 1)
    → ((k : ℕ) → counts all (λ what. arrives what k Twice) ≤ 1) → length all ≤ 1000000
events_few fates stage n like all run steps quiet steers direct chained twice =
    let a = by_kinds all quiet
    in let b = publishes_few stage all run
    in let c = newest_within stage all run
    in let d = like.one_change
    in let e = switches_few fates stage n like all run steps quiet
    in let f = steers_by_packets (4 * n) all (steers_within stage n like all run)
    in let g = sum_ones (4 * n) (λ k. counts all (λ what. steers_packet what k)) (λ k low high. steers k)
    in let h = arrivals_by_packets (4 * n) Direct all (arrivals_within stage n like Direct all run)
    in let i = sum_ones (4 * n) (λ k. counts all (λ what. arrives what k Direct)) (λ k low high. direct k)
    in let j = arrivals_by_packets (4 * n) Chained all (arrivals_within stage n like Chained all run)
    in let l = sum_ones (4 * n) (λ k. counts all (λ what. arrives what k Chained)) (λ k low high. chained k)
    in let p = arrivals_by_packets (4 * n) Twice all (arrivals_within stage n like Twice all run)
    in let q = sum_ones (4 * n) (λ k. counts all (λ what. arrives what k Twice)) (λ k low high. twice k)
    in let few = like.few
    in omega arith

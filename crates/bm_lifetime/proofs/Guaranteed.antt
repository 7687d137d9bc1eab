-- The law of lifetimes, at an arrival and at its place in a history.
use Rattle.std.proofs.Common.{reverse, ◌≡◌, ℕ, zero, suc, ◌+◌, ◌*◌, ◌<◌, ◌≤◌, ◌⊎◌, Bool, true, false, not, ◌&&◌, ◌||◌}
use Rattle.std.proofs.Common.{inl, inr, List, [], ◌∷◌, take, Option, Some, None, is_some, length, refl, sym, ap, ◌∙◌, subst}
use Rattle.std.proofs.Common.{◌^◌, arith, eqb, leb, ltb}
use Rattle.std.specs.Prelude.{IfSome, IsSomeAnd, slice_get}
use Rattle.std.specs.Option.{option_map_or}
use Rattle.std.proofs.lemmas.Bool.{and_parts, cases_Bool, eq-eqb, eqb-true, or_cases}
use Rattle.std.proofs.lemmas.Bool.Decides.{nat_tests}
use Rattle.std.proofs.lemmas.Option.{same_Some}
use mathlib.Core.List.{reverse_aux}
use Rattle.bm_base.specs.Labels.{hop_number}
use Rattle.bm_base.specs.Segments.{is_opening}
use Rattle.bm_base.specs.declared.fate.Fate.{Fate}
use Rattle.bm_base.specs.declared.flow.Flow.{Flow}
use Rattle.bm_base.specs.declared.flow.Segment.{Segment}
use Rattle.bm_base.specs.declared.ids.ServerId.{ServerId}
use Rattle.bm_base.specs.declared.label.Entry.{Entry}
use Rattle.bm_base.specs.declared.label.Hop.{Hop}
use Rattle.bm_base.specs.declared.label.Hop.TheVariants.{Direct, Chained, Twice}
use Rattle.bm_base.specs.declared.label.Label.{Label}
use Rattle.bm_base.specs.declared.label.Past.{Past}
use Rattle.bm_route.specs.Routes.{mux_of_kind}
use Rattle.bm_table.proofs.Tables.{same_server-true}
use Rattle.bm_table.specs.Tables.{IsRetirement, change_moment, moves, next_change, same_server, table}
use Rattle.bm_table.specs.declared.plan.Retirement.{Retirement}
use Rattle.bm_table.specs.declared.plan.Retirement.TheVariants.{Done, NotDrained, TooEarly}
use Rattle.bm_table.specs.declared.script.Script.{Script}
use Rattle.bm_table.specs.declared.setting.RouteKind.{RouteKind}
use Rattle.bm_table.specs.declared.setting.RouteKind.TheVariants.{Port, Turn}
use Rattle.bm_core.specs.Accounts.{AreAnswered, before}
use Rattle.bm_core.specs.Causes.{first_broken, is_elsewhere, is_holding, is_late}
use Rattle.bm_core.specs.Histories.{IsReplay}
use Rattle.bm_core.specs.Laws.{At, IsUnbrokenArrival}
use Rattle.bm_core.specs.Past.{Accepted, Holding, bucket, held, is_done, label_of, newest, owner, retired, retires}
use Rattle.bm_core.specs.Past.{segment_of, shard, timeout}
use Rattle.bm_core.specs.Rules.{RouteBy, RuleBy, setting_fate, setting_mux}
use Rattle.bm_core.specs.Runs.{AtEach, IsArrival, MayCome, Run, event_at, last_clock, past_at}
use Rattle.bm_core.specs.Schedule.{Follows}
use Rattle.bm_core.specs.Soon.{AreSoon}
use Rattle.bm_core.specs.Stages.{IsSound}
use Rattle.bm_core.specs.Threads.{record_moment}
use Rattle.bm_core.specs.Verdicts.{onward}
use Rattle.bm_core.specs.declared.events.Event.{Event}
use Rattle.bm_core.specs.declared.events.History.{History}
use Rattle.bm_core.specs.declared.events.Stage.{Stage}
use Rattle.bm_core.specs.declared.events.Verdict.{Verdict}
use Rattle.bm_core.specs.declared.events.What.{What}
use Rattle.bm_core.specs.declared.events.What.TheVariants.{Publish, Switch, Steer, Lose, Arrive, Close, Retire, Sync}
use Rattle.bm_core.proofs.Existing.{answered_soon, fate_of_soon, length_law}
use Rattle.bm_core.proofs.Lawful.{law}
use Rattle.bm_core.proofs.Owned.{false_from_not, home_is, is_before, not_same, unsent}
use Rattle.bm_core.proofs.Pasts.{label_is, newest_within, owner_is}
use Rattle.bm_core.proofs.Playing.{mux_within}
use Rattle.bm_lifetime.proofs.Dated.{IsDated, dated}
use Rattle.bm_lifetime.proofs.Living.{IsLiving, answered_within, few_moves, in_bucket, lag_most, lag_same, no_older, timely}
use Rattle.bm_lifetime.proofs.Bounds.{IsBy, bounded}
use Rattle.bm_lifetime.proofs.Moved.{HasLeft, IsMove, onward_stamped, retirement_left}
use Rattle.bm_lifetime.proofs.Opened.{IsAlive, kept_held, not_held_elsewhere, owner_last, owner_opened}
use Rattle.bm_lifetime.proofs.Soonest.{lag_of}
use Rattle.bm_lifetime.proofs.Timed.{AreWithin, IsPunctual, delays, punctual, three_delays}
use Rattle.bm_lifetime.specs.Lifetime.{are_all, is_by_port, is_steady, lifetime_of, longest_delay, longest_lag}
use Rattle.bm_lifetime.specs.Lifetime.{most_events}
use Rattle.bm_lifetime.specs.Young.{AreOpenings, IsYoung, IsYoungArrival, IsYoungInBucket, is_ended}

-- RETIRED SHARDS

done_is : (result : Retirement) → is_done result ≡ true → result ≡ Done
done_is Done e = refl
done_is NotDrained e = absurd (cc)
done_is (TooEarly b) e = absurd (cc)

-- the bucket left the server long before this clock
abbrev LeftBy : Stage → ℕ → ℕ → ℕ → Type 0
LeftBy stage clock b w = HasLeft stage.script.plan (timeout stage) clock b w (length stage.script.plan.changes)

left_later : (stage : Stage) (b w n clock later : ℕ) → clock ≤ later → n ≤ length stage.script.plan.changes
    → HasLeft stage.script.plan (timeout stage) clock b w n → LeftBy stage later b w
left_later stage b w n clock later le top left =
    let m = left.move
    in record {
      move =
          record { change = m.change; from = m.from; below = (let h = m.below in omega arith); moves = m.moves };
      long = let h = left.long in omega arith;
    }

left_step : (stage : Stage) → IsSound stage → (past : List Event) (clock : ℕ) (what : What) (s : ServerId) (h b w : ℕ)
    → Run stage past → b < stage.script.plan.buckets → last_clock past ≤ clock → MayCome stage past clock what
    → w ≤ length stage.script.plan.changes → (table stage.script.plan w b).cur ≡ s
    → (retired past s h ≡ true → LeftBy stage (last_clock past) b w)
    → (retires what s h || retired past s h) ≡ true → LeftBy stage clock b w
left_step stage sound past clock (Retire server x at result) s h b w run inside later may known here old ret =
    elim (or_cases (retires (Retire server x at result) s h) _ ret) [
      | inl now ↦
          let parts = and_parts (same_server server s && eqb x h) (is_done result) now
          in let this : server ≡ s = same_server-true server s (and_parts _ _ parts.0).0
          in let done : IsRetirement stage.script.plan (timeout stage) (newest past) server at.0 Done =
          subst (λ (r : Retirement). IsRetirement stage.script.plan (timeout stage) (newest past) server at.0 r)
          (done_is result parts.1) may.1
          in let at_clock : at.0 < clock = may.0
          in left_later stage b w (newest past) at.0 clock (omega arith) (newest_within stage past run)
          (retirement_left stage.script.plan sound.script.plan (timeout stage) (newest past) b w at.0 server done
          (newest_within stage past run) known inside (here ∙ sym this))
      | inr before ↦ left_later stage b w (length stage.script.plan.changes) (last_clock past) clock later (omega arith)
          (old before)
    ]
left_step stage sound past clock (Arrive k hop server verdict) s h b w run inside later may known here old ret =
    left_later stage b w (length stage.script.plan.changes) (last_clock past) clock later (omega arith) (old ret)
left_step stage sound past clock (Close server flow closed) s h b w run inside later may known here old ret =
    left_later stage b w (length stage.script.plan.changes) (last_clock past) clock later (omega arith) (old ret)
left_step stage sound past clock (Steer k m) s h b w run inside later may known here old ret =
    left_later stage b w (length stage.script.plan.changes) (last_clock past) clock later (omega arith) (old ret)
left_step stage sound past clock (Publish v) s h b w run inside later may known here old ret =
    left_later stage b w (length stage.script.plan.changes) (last_clock past) clock later (omega arith) (old ret)
left_step stage sound past clock (Switch m v) s h b w run inside later may known here old ret =
    left_later stage b w (length stage.script.plan.changes) (last_clock past) clock later (omega arith) (old ret)
left_step stage sound past clock (Lose k hop) s h b w run inside later may known here old ret =
    left_later stage b w (length stage.script.plan.changes) (last_clock past) clock later (omega arith) (old ret)
left_step stage sound past clock Sync s h b w run inside later may known here old ret =
    left_later stage b w (length stage.script.plan.changes) (last_clock past) clock later (omega arith) (old ret)

-- where a shard of the server is retired, a bucket that it had at a version left it long before
retired_left : (stage : Stage) → IsSound stage → (past : List Event) (s : ServerId) (h b w : ℕ) → Run stage past
    → b < stage.script.plan.buckets → w ≤ length stage.script.plan.changes → (table stage.script.plan w b).cur ≡ s
    → retired past s h ≡ true → LeftBy stage (last_clock past) b w
retired_left stage sound [] s h b w run inside known here ret = absurd (cc)
retired_left stage sound (e ∷ past) s h b w run inside known here ret =
    left_step stage sound past e.clock.0 e.what s h b w run.1 inside run.0.clock run.0.may known here
    (retired_left stage sound past s h b w run.1 inside known here) ret

-- ONE LAG

by_port : (kind : RouteKind) (muxes j k : ℕ) (f : Flow) → is_by_port kind ≡ true
    → mux_of_kind kind muxes j f ≡ mux_of_kind kind muxes k f
by_port Port muxes j k f is = refl
by_port Turn muxes j k f is = absurd (cc)

steady_cases : (port same none : Bool) → (port || same || none) ≡ true
    → (port ≡ true) ⊎ ((same ≡ true) ⊎ (none ≡ true))
steady_cases true same none e = inl refl
steady_cases false true none e = inr (inl refl)
steady_cases false false none e = inr (inr e)

-- the muxes of two packets of a flow have one lag, or there is one table
one_lag : (stage : Stage) → IsSound stage → is_steady stage.script ≡ true → (j k m n : ℕ) (f : Flow)
    → m ≡ setting_mux stage.script.setting j f → n ≡ setting_mux stage.script.setting k f
    → (lag_of stage m ≡ lag_of stage n) ⊎ (length stage.script.plan.changes ≡ 0)
one_lag stage sound steady j k m n f is_m is_n =
    elim (steady_cases (is_by_port stage.script.setting.route)
    (are_all (longest_lag stage.script.setting) stage.script.setting.lags)
    (eqb (length stage.script.plan.changes) 0) steady) [
      | inl port ↦
          let same : m ≡ n =
          is_m ∙ (by_port stage.script.setting.route stage.script.setting.muxes j k f port ∙ sym is_n)
          in inl (ap (λ (x : ℕ). lag_of stage x) same)
      | inr other ↦ elim other [
        | inl same ↦
            let count = sound.script.setting.lag_of_each
            in let below_m = mux_within stage sound j f
            in let below_n = mux_within stage sound k f
            in let lag_m =
            lag_same (longest_lag stage.script.setting) stage.script.setting.lags m same (omega arith)
            in let lag_n =
            lag_same (longest_lag stage.script.setting) stage.script.setting.lags n same (omega arith)
            in inl (lag_m ∙ sym lag_n)
        | inr none ↦ inr (eqb-true (length stage.script.plan.changes) 0 none)
      ]
    ]

-- THE TWO PACKETS

-- without steadiness a script promises no time
not_steady : (script : Script) (b from to : ℕ) → is_steady script ≡ false → from < to
    → IfSome (lifetime_of script b) (λ most. to ≤ from + most) → ⊥
not_steady script b from to steady order life =
    let own : IsBy (lifetime_of script b) 0 = rw steady (omega arith)
    in let old = bounded (lifetime_of script b) 0 to from own life
    in omega arith

abbrev route : Stage → ℕ → Flow → ℕ
route stage = setting_mux stage.script.setting

-- the dates of two packets' labels, with one lag
living : (stage : Stage) → IsSound stage → (b o k : ℕ) (so s : Segment) (first last : Label) → s.flow ≡ so.flow
    → first.version.0 ≤ length stage.script.plan.changes → last.version.0 ≤ length stage.script.plan.changes
    → IsDated stage (route stage) o so first → IsDated stage (route stage) k s last
    → record_moment stage o < record_moment stage k
    → IfSome (lifetime_of stage.script b) (λ most. record_moment stage k ≤ record_moment stage o + most)
    → IsLiving stage.script b first.version.0 last.version.0 (lag_of stage first.mux.0) (record_moment stage o)
    (record_moment stage k)
living stage sound b o k so s first last flow known_first known_last old new order life =
    let steady : is_steady stage.script ≡ true = elim (cases_Bool (is_steady stage.script)) [
      | inl is ↦ is
      | inr not_it ↦ absurd
          (not_steady stage.script b (record_moment stage o) (record_moment stage k) not_it order life)
    ]
    in let mux : last.mux.0 ≡ route stage k so.flow = new.mux_is ∙ ap (λ (f : Flow). route stage k f) flow
    in let lags = one_lag stage sound steady o k first.mux.0 last.mux.0 so.flow old.mux_is mux
    in record {
      steady = steady;
      known_first = known_first;
      known_last = known_last;
      lag_is = lag_most stage.script.setting.lags first.mux.0;
      order = order;
      first_after = old.after;
      first_before = old.earlier;
      last_after = λ n is. elim lags [
        | inl same ↦ let h = new.after n is in omega arith
        | inr none ↦ absurd (omega arith)
      ];
      last_before = λ below. elim lags [
        | inl same ↦ let h = new.earlier below in omega arith
        | inr none ↦ absurd (omega arith)
      ];
      life = life;
    }

-- what is young from a moment on is young from a later one on
later_age : (life : Option ℕ) (from later to : ℕ) → from ≤ later → IfSome life (λ most. to ≤ from + most)
    → IfSome life (λ most. to ≤ later + most)
later_age None from later to le age = tt
later_age (Some most) from later to le age = omega (arith, age)

-- AT AN ARRIVAL

holding_is : (o : Option Holding) (h : Holding) (place : ℕ) → o ≡ Some h → h.place ≡ place → is_holding o place ≡ true
holding_is o h place is at = rw is (eq-eqb h.place place at)

some_of : {X : Type 0} (o : Option X) → is_some o ≡ true → (x : X) × (o ≡ Some x)
some_of None is = absurd (cc)
some_of (Some x) is = (x, refl)

-- what isn't late where it may go on
late_not : (T clock : ℕ) (onto : Option Past) → ((p : Past) → onto ≡ Some p → clock ≤ p.stamp.0 + T)
    → option_map_or (λ p. ltb (p.stamp.0 + T) clock) onto false ≡ false
late_not T clock None soon = refl
late_not T clock (Some p) soon = let h = soon p refl in not_less (p.stamp.0 + T) clock h where
  not_less : (a b : ℕ) → b ≤ a → ltb a b ≡ false
  not_less a b h = grind (arith, nat_tests)

and_not : (a b : Bool) → (a ≡ true → b ≡ false) → (a && b) ≡ false
and_not true b h = h refl
and_not false b h = refl

not_same_true : (b : Bool) → not b ≡ true → b ≡ false
not_same_true true e = absurd (cc)
not_same_true false e = refl

fresh_test : (v w : ℕ) → w ≤ v → ltb v w ≡ false
fresh_test v w h = grind (arith, nat_tests)

few_test : (n : ℕ) → n ≤ 2 → leb 3 n ≡ false
few_test n h = grind (arith, nat_tests)

module _ (stage : Stage) (sound : IsSound stage) (fates : List Fate) (past : List Event) (e : Event)
    (follows : Follows fates stage (e ∷ past)) (run : Run stage (e ∷ past))
    (answered : AreAnswered (RouteBy (setting_mux stage.script.setting)) (RuleBy (setting_fate stage.script.setting))
    stage fates (e ∷ past)) where
  abbrev most : ℕ
  most = longest_delay stage.script.setting

  within : AreWithin most fates (e ∷ past)
  within = answered_within (RouteBy (setting_mux stage.script.setting)) stage fates (e ∷ past) answered

  soon : AreSoon fates (e ∷ past)
  soon =
      answered_soon (RouteBy (setting_mux stage.script.setting)) (setting_fate stage.script.setting)
      (fate_of_soon stage.script.setting sound.script.setting) stage fates (e ∷ past) answered

  few : suc (length past) ≤ most_events
  few = length_law fates stage (e ∷ past) sound follows soon

  -- the clock of an arrival
  clock_by : (k : ℕ) (hop : Hop) (server : ServerId) (verdict : Verdict) → e.what ≡ Arrive k hop server verdict
      → e.clock.0 ≤ record_moment stage k + most_events + 3 * most
  clock_by k hop server verdict is =
      let p = punctual stage most (44 * 10 ^ 17) sound.capture.rise fates past e follows within
      in let h : e.clock.0 ≤ record_moment stage k + delays most (suc (hop_number hop)) + suc (length past) =
      by_what e.what is p
      in let d = three_delays most (suc (hop_number hop)) (hops hop)
      in let n = few
      in omega arith where
        by_what : (what : What) → what ≡ Arrive k hop server verdict
            → IsPunctual stage most past e.clock.0 what
            → e.clock.0 ≤ record_moment stage k + delays most (suc (hop_number hop)) + suc (length past)
        by_what what is p = (subst (λ (w : What). IsPunctual stage most past e.clock.0 w) is p).1

        hops : (h : Hop) → suc (hop_number h) ≤ 3
        hops Direct = omega arith
        hops Chained = omega arith
        hops Twice = omega arith

  date : (k : ℕ) (s : Segment) (l : Label) → segment_of stage k ≡ Some s → label_of stage past k ≡ Some l
      → IsDated stage (route stage) k s l
  date k s l is lab =
      dated stage (setting_mux stage.script.setting) (RuleBy (setting_fate stage.script.setting)) most (44 * 10 ^ 17)
      sound.capture.rise (before fates) past follows.1 within.1 run.1 answered.1 k s l is lab

  known : (k : ℕ) (l : Label) → label_of stage past k ≡ Some l → l.version.0 ≤ length stage.script.plan.changes
  known k l lab =
      let a = (label_is stage past run.1 k l lab).published
      in let b = newest_within stage past run.1
      in omega arith

  inside : (f : Flow) → bucket stage f < stage.script.setting.buckets
  inside f = let some : 0 < stage.script.setting.buckets = sound.script.setting.buckets.0 in omega arith

  inside_plan : (f : Flow) → bucket stage f < stage.script.plan.buckets
  inside_plan f = let h = inside f in rw sound.script.buckets h

  -- where such a packet arrives, no premise is broken
  pub unbroken : (k from : ℕ) (hop : Hop) (server : ServerId) (verdict : Verdict) (a : Accepted)
      → e.what ≡ Arrive k hop server verdict → (may : IsArrival stage past e.clock.0 k hop server verdict)
      → (young : IsYoung stage past k from (lifetime_of stage.script (bucket stage may.segment.flow)))
      → young.segment ≡ may.segment → owner stage past k ≡ Some a
      → first_broken stage past e.clock.0 may.label hop may.segment.flow server (Some a) ≡ None
  unbroken k from hop server verdict a is may young same own =
      let was =
      owner_opened stage most (44 * 10 ^ 17) sound.capture.rise (before fates) past follows.1 within.1 run.1 k
      may.segment a may.is_segment own
      in let flow : young.segment.flow ≡ may.segment.flow = ap (λ (x : Segment). x.flow) same
      in let openings : AreOpenings stage past may.segment.flow from young.start young.home =
      subst (λ (g : Flow). AreOpenings stage past g from young.start young.home) flow young.opened
      in let lives : is_ended stage past may.segment.flow ≡ false =
      subst (λ (g : Flow). is_ended stage past g ≡ false) flow young.lives
      in let opened = was.1
      in let order : record_moment stage was.0 < record_moment stage k = was.2
      in let early : from ≤ record_moment stage was.0 =
      (openings was.0 opened.segment opened.is_segment opened.flow opened.opens opened.sent).0
      in let age =
      later_age (lifetime_of stage.script (bucket stage may.segment.flow)) from (record_moment stage was.0)
      (record_moment stage k) early young.age
      in let acc = owner_is stage past run.1 k may.segment a may.is_segment own
      in let known_first = known was.0 opened.label opened.is_label
      in let known_last = known k may.label may.is_label
      in let live =
      subst
      (λ (w : ℕ). IsLiving stage.script (bucket stage may.segment.flow) w may.label.version.0
      (lag_of stage opened.label.mux.0) (record_moment stage was.0) (record_moment stage k)) opened.version
      (living stage sound (bucket stage may.segment.flow) was.0 k opened.segment may.segment opened.label may.label
      (sym opened.flow) known_first known_last
      (date was.0 opened.segment opened.label opened.is_segment opened.is_label)
      (date k may.segment may.label may.is_segment may.is_label) order age)
      in let clock = clock_by k hop server verdict is
      in let in_time : (m : IsMove stage.script.plan (bucket stage may.segment.flow) a.version
      (length stage.script.plan.changes))
      → e.clock.0 ≤ change_moment (next_change stage.script.plan m.change) + timeout stage =
      λ m. let h =
      timely stage.script (bucket stage may.segment.flow) a.version may.label.version.0
      (lag_of stage opened.label.mux.0) (record_moment stage was.0) (record_moment stage k) sound.script live m
      in omega arith
      in let later = run.0.clock
      in let first : a.version ≤ length stage.script.plan.changes = live.known_first
      in let unretired : retired past a.server (shard stage may.segment.flow) ≡ false =
      false_from_not _ (λ ret.
      let left =
      retired_left stage sound past a.server (shard stage may.segment.flow) (bucket stage may.segment.flow) a.version
      run.1 (inside_plan may.segment.flow) first acc.server ret
      in let long = left.long
      in let late = in_time left.move
      in absurd (omega arith))
      in let alive : IsAlive stage past may.segment.flow from young.start young.home a.server =
      record { openings = openings; lives = lives; unretired = unretired }
      in let last =
      owner_last stage past may.segment.flow from young.start young.home may.segment a k run.1 alive may.is_segment refl
      own
      in let h = kept_held stage past may.segment.flow from young.start young.home a run.1 alive last
      in let holding : is_holding (held stage past a.server may.segment.flow) a.place ≡ true =
      holding_is (held stage past a.server may.segment.flow) h.now a.place h.is_now h.place_is
      in let fresh : a.version ≤ may.label.version.0 =
      no_older stage.script (bucket stage may.segment.flow) a.version may.label.version.0
      (lag_of stage opened.label.mux.0) (record_moment stage was.0) (record_moment stage k) sound.script live
      in let moved : moves stage.script.plan (bucket stage may.segment.flow) a.version may.label.version.0 ≤ 2 =
      few_moves stage.script (bucket stage may.segment.flow) a.version may.label.version.0
      (lag_of stage opened.label.mux.0) (record_moment stage was.0) (record_moment stage k) sound.script live
      in let alone : is_elsewhere stage past past may.segment.flow a.server ≡ false =
      not_held_elsewhere stage past may.segment.flow from young.start young.home a run.1 openings last
      in let last_label = label_is stage past run.1 k may.label may.is_label
      in let last_segment : last_label.segment ≡ may.segment =
      same_Some _ _ (sym last_label.is_segment ∙ may.is_segment)
      in let entry : may.label.entry
      ≡ table stage.script.plan may.label.version.0 (bucket stage may.segment.flow) =
      last_label.entry
      ∙ ap (λ (x : Segment). table stage.script.plan may.label.version.0 (bucket stage x.flow)) last_segment
      in let punctual_there : not (same_server server a.server) ≡ true
      → is_late stage may.label hop e.clock.0 ≡ false = λ away.
      let other = not_same_true (same_server server a.server) away
      in let home =
      home_is stage sound past run.1 e.clock.0 k server later a hop verdict may acc.server fresh moved
      in let less =
      is_before stage sound past run.1 e.clock.0 k server later a hop home.0 verdict may home.2
      (not_same stage sound past run.1 e.clock.0 k server later a other)
      (λ next after. unsent stage past run.1 k home.0 next may.segment may.label a may.is_segment home.2 after
      (record { label = may.is_label; owner = own; holding = holding }))
      in let number = home.1
      in let back : hop_number hop
      < moves stage.script.plan (bucket stage may.segment.flow) a.version may.label.version.0 = omega arith
      in late_not (timeout stage) e.clock.0 (onward may.label.entry hop) (λ p onto.
      let st =
      onward_stamped stage.script.plan (bucket stage may.segment.flow) a.version may.label.version.0 hop p back
      (subst (λ (x : Entry). onward x hop ≡ Some p) entry onto)
      in let m = st.move
      in let below = m.below
      in let soon_enough =
      in_time (record { change = m.change; from = m.from; below = omega arith; moves = m.moves })
      in let stamp = st.stamp_is
      in omega arith)
      in rw (
        holding,
        fresh_test may.label.version.0 a.version fresh,
        few_test (moves stage.script.plan (bucket stage may.segment.flow) a.version may.label.version.0) moved,
        and_not (not (same_server server a.server)) (is_late stage may.label hop e.clock.0) punctual_there,
        alone,
      ) refl

  pub young_step : (what : What) → e.what ≡ what → MayCome stage past e.clock.0 what
      → IsYoungInBucket stage past e.clock.0 what → IsUnbrokenArrival stage past e.clock.0 what
  young_step (Arrive k hop server verdict) is may young =
      let there : (from : ℕ)
      × IsYoung stage past k from (lifetime_of stage.script (bucket stage may.segment.flow)) =
      rw may.is_segment at young
      in let y = there.1
      in let a = some_of (owner stage past k) y.accepted
      in let same : y.segment ≡ may.segment = same_Some _ _ (sym y.is_segment ∙ may.is_segment)
      in let plain : is_opening may.segment ≡ false = rw (← same) y.plain
      in let none = unbroken k there.0 hop server verdict a.0 is may y same a.1
      in rw (may.is_segment, may.is_label, a.1) (plain, none)
  young_step (Publish v) is may young = absurd young
  young_step (Switch m v) is may young = absurd young
  young_step (Steer k m) is may young = absurd young
  young_step (Lose k hop) is may young = absurd young
  young_step (Close server flow closed) is may young = absurd young
  young_step (Retire server h at result) is may young = absurd young
  young_step Sync is may young = absurd young

-- AT A PLACE

abbrev IsGuaranteed : Stage → List Event → Event → Type 0
IsGuaranteed stage past e =
    IsYoungInBucket stage past e.clock.0 e.what → IsUnbrokenArrival stage past e.clock.0 e.what

each_guaranteed : (stage : Stage) → IsSound stage → (fates : List Fate) (all : List Event) → Follows fates stage all
    → Run stage all
    → AreAnswered (RouteBy (setting_mux stage.script.setting)) (RuleBy (setting_fate stage.script.setting)) stage fates
    all → AtEach (IsGuaranteed stage) all
each_guaranteed stage sound fates [] follows run answered = tt
each_guaranteed stage sound fates (e ∷ past) follows run answered = (
  λ young. young_step stage sound fates past e follows run answered e.what refl run.0.may young,
  each_guaranteed stage sound (before fates) past follows.1 run.1 answered.1,
)

each_older : (P : List Event → Event → Type 0) (newer past : List Event) → AtEach P (reverse_aux newer past)
    → AtEach P past
each_older P [] past each = each
each_older P (x ∷ newer) past each = (each_older P newer (x ∷ past) each).1

each_from : (P : List Event → Event → Type 0) (events past : List Event) (place : ℕ) (e : Event)
    → AtEach P (reverse_aux events past) → slice_get events place ≡ Some e → P (reverse_aux (take place events) past) e
each_from P [] past place e each is = absurd (cc)
each_from P (x ∷ events) past zero e each is =
    subst (λ (y : Event). P past y) (same_Some _ _ is) (each_older P events (x ∷ past) each).0
each_from P (x ∷ events) past (suc place) e each is = each_from P events (x ∷ past) place e each is

-- what holds at each event holds at a place
each_at : (h : History) (P Q : Stage → List Event → ℕ → What → Type 0) (place : ℕ)
    → AtEach (λ past e. P h.stage past e.clock.0 e.what → Q h.stage past e.clock.0 e.what) (reverse h.events)
    → At h place P → At h place Q
each_at h P Q place each at = go (event_at h place) refl at where
  go : (o : Option Event) → event_at h place ≡ o → IsSomeAnd o (λ e. P h.stage (past_at h place) e.clock.0 e.what)
      → IsSomeAnd o (λ e. Q h.stage (past_at h place) e.clock.0 e.what)
  go None is p = p
  go (Some e) is p =
      each_from (λ past e. P h.stage past e.clock.0 e.what → Q h.stage past e.clock.0 e.what) h.events [] place e each is p

-- THE LAWS

pub bucket_law : (h : History) (place : ℕ)
    → IsReplay (RouteBy (setting_mux h.stage.script.setting)) (RuleBy (setting_fate h.stage.script.setting)) h
    → At h place IsYoungInBucket → At h place IsUnbrokenArrival
bucket_law h place replay young =
    each_at h IsYoungInBucket IsUnbrokenArrival place
    (each_guaranteed h.stage replay.run.sound replay.fates (reverse h.events) replay.follows replay.run.run
    replay.account.answered) young

-- what comes within the script's lifetime comes within its bucket's
young_in_bucket : (stage : Stage) → IsSound stage → (past : List Event) (clock : ℕ) (what : What) → Run stage past
    → last_clock past ≤ clock → MayCome stage past clock what → IsYoungArrival stage past clock what
    → IsYoungInBucket stage past clock what
young_in_bucket stage sound past clock (Arrive k hop server verdict) run later may young =
    let y = young.1
    in let some = sound.script.setting.buckets.0
    in let below : bucket stage y.segment.flow < stage.script.setting.buckets = omega arith
    in rw y.is_segment (
      young.0,
      record {
        segment = y.segment;
        is_segment = y.is_segment;
        plain = y.plain;
        accepted = y.accepted;
        start = y.start;
        home = y.home;
        opened = y.opened;
        lives = y.lives;
        age =
            in_bucket stage.script (bucket stage y.segment.flow) stage.script.setting.buckets
            young.0 (record_moment stage k) below y.age;
      },
    )
young_in_bucket stage sound past clock (Publish v) run later may young = absurd young
young_in_bucket stage sound past clock (Switch m v) run later may young = absurd young
young_in_bucket stage sound past clock (Steer k m) run later may young = absurd young
young_in_bucket stage sound past clock (Lose k hop) run later may young = absurd young
young_in_bucket stage sound past clock (Close server flow closed) run later may young = absurd young
young_in_bucket stage sound past clock (Retire server h at result) run later may young = absurd young
young_in_bucket stage sound past clock Sync run later may young = absurd young

pub guaranteed_law : (h : History) (place : ℕ)
    → IsReplay (RouteBy (setting_mux h.stage.script.setting)) (RuleBy (setting_fate h.stage.script.setting)) h
    → At h place IsYoungArrival → At h place IsUnbrokenArrival
guaranteed_law h place replay young =
    bucket_law h place replay (law IsYoungArrival IsYoungInBucket young_in_bucket h place replay.run young)

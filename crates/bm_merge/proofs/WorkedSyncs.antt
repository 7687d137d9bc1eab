-- The workers' promises, kept in an example with a retirement, a Sync and a close: the shards of the retirement
-- answer out of their order, and the only copy of a packet is lost.
use Rattle.std.proofs.Common.{◌≡◌, ℕ, zero, suc, ◌+◌, ◌<◌, ◌≤◌, Bool, true, false, cond, ◌&&◌, inl, List, [], ◌∷◌}
use Rattle.std.proofs.Common.{None, refl, arith, leb, ltb, eqb}
use Rattle.std.specs.Prelude.{is_some, reverse, slice_get}
use Rattle.std.proofs.lemmas.Bool.{eqb-true, eqb-false, eq-eqb, ne_eqb, both_ways}
use Rattle.bm_base.specs.declared.ids.Moment.{Moment}
use Rattle.bm_base.specs.declared.ids.ServerId.{ServerId}
use Rattle.bm_base.specs.declared.label.Hop.TheVariants.{Direct}
use Rattle.bm_base.specs.declared.label.Label.{Label}
use Rattle.bm_base.specs.declared.fate.Fate.{Fate}
use Rattle.bm_base.specs.Segments.{has_flag, is_opening}
use Rattle.bm_table.specs.declared.plan.Retirement.TheVariants.{NotDrained}
use Rattle.bm_table.specs.declared.script.Command.TheVariants.{Retire as RetireCommand, Sync as SyncCommand}
use Rattle.bm_table.specs.declared.script.Command.TheVariants.{Close as CloseCommand}
use Rattle.bm_table.specs.Settings.{plain_setting}
use Rattle.bm_table.specs.Tables.{is_drained, IsOrderly, same_server}
use Rattle.bm_table.proofs.SettingLemmas.{IsSetting-plain_setting}
use Rattle.bm_hash.specs.Buckets.{flow_octets, fnv_step, fnv_1a, flow_hash}
use Rattle.bm_seq.specs.Receivers.{acceptable, distance, taken_reset, comes_in_turn, taken, after_taken, opened}
use Rattle.bm_seq.specs.Receivers.{receiver_after}
use Rattle.bm_core.specs.declared.events.Event.{Event}
use Rattle.bm_core.specs.declared.events.History.{History}
use Rattle.bm_core.specs.declared.events.Stage.{Stage}
use Rattle.bm_core.specs.declared.events.Verdict.TheVariants.{Accept}
use Rattle.bm_core.specs.declared.events.What.TheVariants.{Lose, Close, Sync}
use Rattle.bm_core.specs.Past.{segment_of, shard, sends, is_switch_of}
use Rattle.bm_core.specs.Runs.Actor.{Controller, MuxOf, ShardOf}
use Rattle.bm_core.specs.Accounts.{Rules, arrives, steers_packet, retires_shard, count_of, wants_retire}
use Rattle.bm_core.specs.Rules.{RouteBy, setting_mux}
use Rattle.bm_core.specs.Stages.{IsSound}
use Rattle.bm_core.specs.Threads.{sync_clock, AreThreadSteps}
use Rattle.bm_core.specs.Threads.{IsThreadedRun}
use Rattle.bm_core.proofs.Worked.{server, syn, data_of, flow_from, record_at, stage_of, at, switch, steer, arrive}
use Rattle.bm_core.proofs.Worked.{retire}
use Rattle.bm_merge.specs.Merges.{gathered, merged, named, Agree}
use Rattle.bm_merge.specs.Notes.{Note, NotedLog, plain, all_notes, size_of, many}
use Rattle.bm_merge.specs.Workers.{IsInItsPhase, notes_by, seat_part, home_part, IsController, IsCarrier, ArePromises}
use Rattle.bm_merge.proofs.Reaching.{one_if}
use Rattle.bm_merge.proofs.Standing.{entry_of}
use Rattle.bm_merge.proofs.Keeping.{workers_law}
use Rattle.bm_merge.proofs.Worked.{none_of, paired}

abbrev pub moment : ℕ → Moment
moment n = record { 0 = n }

abbrev pub stage : Stage
stage = stage_of plain_setting []
    (RetireCommand (moment 10) (server 1) ∷ SyncCommand (moment 100) ∷ CloseCommand (moment 200) (server 1)
    (flow_from 1000) ∷ [])
    (record_at 50 (syn 1000 100) ∷ record_at 1000 (data_of 1000 101 10) ∷ [])

never_drained : (n : ℕ) (s : ServerId) → is_drained stage.script.plan n s ≡ false
never_drained zero s = refl
never_drained (suc n) s = never_drained n s

orderly : IsOrderly stage.script.plan
orderly = record {
  known = λ v b. tt;
  stamps = λ v w le lt. absurd (omega arith);
  changes = λ v b. tt;
  drained = λ n v b s is le lt inside. absurd (both_ways _ (never_drained n s) is);
}

sound : IsSound stage
sound = record {
  script = record {
    setting = IsSetting-plain_setting;
    buckets = refl;
    servers = refl;
    adds = tt;
    plan = orderly;
    few_commands = omega arith;
    commands_rise = (omega arith, omega arith, (omega arith, omega arith, (omega arith, omega arith, tt)));
    versions = refl;
    of_known = (refl, (tt, (refl, tt)));
  };
  capture = record {
    few = omega arith;
    rise = (omega arith, omega arith, (omega arith, omega arith, tt));
    fit = ((inl (refl, refl), omega arith), ((inl (refl, refl), omega arith), tt));
  };
}

-- the second packet's only copy is lost
abbrev pub Losing : Rules
Losing k hop f = f ≡ record { copies = cond (eqb k 2) 0 1; delay = 0 }

-- THE LOGS

abbrev pub note : Event → ℕ → ℕ → ℕ → ℕ → Note
note e copies command due seat =
    record { event = e; fate = record { copies = copies; delay = 0 }; command = command; due = due; seat = seat }

abbrev pub retired : ℕ → ℕ → Note
retired clock shard = note (retire clock 1 shard 10 NotDrained) 1 0 10 0

abbrev pub met : Note
met = note (at 101 Sync) 1 1 0 0

abbrev pub closed : Note
closed = note (at 201 (Close (server 1) (flow_from 1000) true)) 1 2 200 0

abbrev pub first_look : Note
first_look = note (switch 1 0 0) 1 0 0 1

abbrev pub first_steer : Note
first_steer = note (steer 51 1 0) 1 0 0 1

abbrev pub accepted : Note
accepted = note (arrive 52 1 Direct 1 Accept) 1 0 51 1

abbrev pub second_look : Note
second_look = note (switch 102 0 0) 1 0 0 1

abbrev pub second_steer : Note
second_steer = note (steer 1001 2 0) 0 0 0 1

abbrev pub lost_copy : Note
lost_copy = note (at 1002 (Lose 2 Direct)) 1 0 0 1

abbrev pub mux_notes : List Note
mux_notes = lost_copy ∷ second_steer ∷ second_look ∷ first_steer ∷ first_look ∷ []

abbrev pub shard_notes : List Note
shard_notes = closed ∷ retired 53 2 ∷ accepted ∷ []

abbrev pub logs : List NotedLog
logs =
    record { actor = Controller; notes = met ∷ [] }
    ∷ record { actor = MuxOf 0; notes = mux_notes }
    ∷ record { actor = ShardOf 1 0; notes = retired 11 0 ∷ [] }
    ∷ record { actor = ShardOf 1 1; notes = retired 11 1 ∷ [] }
    ∷ record { actor = ShardOf 1 2; notes = shard_notes }
    ∷ record { actor = ShardOf 1 3; notes = retired 11 3 ∷ [] }
    ∷ []

-- in the order of the shards, whatever their clocks
abbrev pub controller : List Note
controller = closed ∷ met ∷ retired 11 3 ∷ retired 53 2 ∷ retired 11 1 ∷ retired 11 0 ∷ []

abbrev pub carrier : List Note
carrier = lost_copy ∷ second_steer ∷ second_look ∷ accepted ∷ first_steer ∷ first_look ∷ []

abbrev pub history : History
history = record { stage = stage; events = reverse (merged (plain logs)) }

in_order : history.events ≡
    switch 1 0 0
    ∷ retire 11 1 0 10 NotDrained
    ∷ retire 11 1 1 10 NotDrained
    ∷ retire 11 1 3 10 NotDrained
    ∷ steer 51 1 0
    ∷ arrive 52 1 Direct 1 Accept
    ∷ retire 53 1 2 10 NotDrained
    ∷ at 101 Sync
    ∷ switch 102 0 0
    ∷ at 201 (Close (server 1) (flow_from 1000) true)
    ∷ steer 1001 2 0
    ∷ at 1002 (Lose 2 Direct)
    ∷ []
in_order = refl

abbrev pub label : Label
label =
    record {
      mux = record { 0 = 0 };
      version = record { 0 = 0 };
      entry = record { cur = server 1; prev = None; older = None };
    }

one_steer : (k : ℕ) → count_of (λ e. steers_packet e.what k) (gathered (plain logs)) ≤ 1
one_steer k = let few = go (eqb 2 k) (eqb 1 k) refl refl in omega arith where
  go : (a b : Bool) → eqb 2 k ≡ a → eqb 1 k ≡ b → cond a 1 0 + (cond b 1 0 + 0) ≤ 1
  go true true p q = let x : 2 ≡ k = eqb-true _ _ p in let y : 1 ≡ k = eqb-true _ _ q in absurd (omega arith)
  go true false p q = omega arith
  go false true p q = omega arith
  go false false p q = omega arith

agreed : Agree stage (plain logs)
unfolding has_flag is_opening flow_octets fnv_step fnv_1a flow_hash acceptable distance
    taken_reset comes_in_turn taken after_taken opened receiver_after
agreed = record {
  sound = sound;
  first = refl;
  actors = (refl, (refl, (refl, (refl, (refl, (refl, tt))))));
  once = one_steer;
  entries = (
    (entry_of _ _ _ _ _ refl tt tt, tt),
    (
      (
        entry_of _ _ _ _ _ refl tt (1001, refl, refl),
        (
          entry_of _ _ _ _ _ refl (omega arith) (omega arith, refl),
          (
            entry_of _ _ _ _ _ refl (omega arith) (omega arith, inl refl),
            (
              entry_of _ _ _ _ _ refl (omega arith) (omega arith, refl),
              (entry_of _ _ _ _ _ refl tt (omega arith, inl refl), tt),
            ),
          ),
        ),
      ),
      (
        (entry_of _ _ _ _ _ refl tt (omega arith, refl), tt),
        (
          (entry_of _ _ _ _ _ refl tt (omega arith, refl), tt),
          (
            (
              entry_of _ _ _ _ _ refl (omega arith) refl,
              (
                entry_of _ _ _ _ _ refl (omega arith) (omega arith, refl),
                (
                  entry_of _ _ _ _ _ refl tt
                      (record {
                        segment = syn 1000 100;
                        is_segment = refl;
                        label = label;
                        is_label = refl;
                        sent = refl;
                        place = refl;
                        verdict_is = refl;
                      }),
                  tt,
                ),
              ),
            ),
            ((entry_of _ _ _ _ _ refl tt (omega arith, refl), tt), tt),
          ),
        ),
      ),
    ),
  );
}

-- THE PROMISES

zero_not : (w : ℕ) → eqb 0 (suc (suc w)) ≡ false
zero_not w = ne_eqb _ _ (λ e. absurd (omega arith))

seated_controller : (w : ℕ)
    → seat_part w (met ∷ []) ≡ home_part stage Controller (notes_by (controller ∷ carrier ∷ []) w)
unfolding flow_octets fnv_step fnv_1a flow_hash
seated_controller zero = refl
seated_controller (suc zero) = refl
seated_controller (suc (suc w)) = rw (zero_not w) refl

seated_mux : (w : ℕ) → seat_part w mux_notes ≡ home_part stage (MuxOf 0) (notes_by (controller ∷ carrier ∷ []) w)
unfolding flow_octets fnv_step fnv_1a flow_hash
seated_mux zero = refl
seated_mux (suc zero) = refl
seated_mux (suc (suc w)) = rw (none_of w) refl

seated_zero : (w : ℕ)
    → seat_part w (retired 11 0 ∷ []) ≡ home_part stage (ShardOf 1 0) (notes_by (controller ∷ carrier ∷ []) w)
unfolding flow_octets fnv_step fnv_1a flow_hash
seated_zero zero = refl
seated_zero (suc zero) = refl
seated_zero (suc (suc w)) = rw (zero_not w) refl

seated_one : (w : ℕ)
    → seat_part w (retired 11 1 ∷ []) ≡ home_part stage (ShardOf 1 1) (notes_by (controller ∷ carrier ∷ []) w)
unfolding flow_octets fnv_step fnv_1a flow_hash
seated_one zero = refl
seated_one (suc zero) = refl
seated_one (suc (suc w)) = rw (zero_not w) refl

seated_two : (w : ℕ)
    → seat_part w shard_notes ≡ home_part stage (ShardOf 1 2) (notes_by (controller ∷ carrier ∷ []) w)
unfolding flow_octets fnv_step fnv_1a flow_hash
seated_two zero = refl
seated_two (suc zero) = refl
seated_two (suc (suc w)) = rw (zero_not w, none_of w) refl

seated_three : (w : ℕ)
    → seat_part w (retired 11 3 ∷ []) ≡ home_part stage (ShardOf 1 3) (notes_by (controller ∷ carrier ∷ []) w)
unfolding flow_octets fnv_step fnv_1a flow_hash
seated_three zero = refl
seated_three (suc zero) = refl
seated_three (suc (suc w)) = rw (zero_not w) refl

pub both_false : (a b : Bool) → b ≡ false → one_if (a && b) ≡ 0
both_false true b h = rw h refl
both_false false b h = refl

pub with_true : (a b : Bool) → b ≡ true → one_if (a && b) ≡ one_if a
with_true a true h = go a where
  go : (a : Bool) → one_if (a && true) ≡ one_if a
  go true = refl
  go false = refl
with_true a false h = absurd (cc)

retire_counts : (s : ServerId) (h : ℕ) → h < 4
    → many (λ n. retires_shard n.event.what s h) controller ≡ count_of (λ c. wants_retire c s) stage.script.commands
retire_counts s zero low =
    let a =
    with_true (same_server (server 1) s) true refl in let b =
    both_false (same_server (server 1) s) false refl in omega arith
retire_counts s (suc zero) low =
    let a =
    with_true (same_server (server 1) s) true refl in let b =
    both_false (same_server (server 1) s) false refl in omega arith
retire_counts s (suc (suc zero)) low =
    let a =
    with_true (same_server (server 1) s) true refl in let b =
    both_false (same_server (server 1) s) false refl in omega arith
retire_counts s (suc (suc (suc zero))) low =
    let a =
    with_true (same_server (server 1) s) true refl in let b =
    both_false (same_server (server 1) s) false refl in omega arith
retire_counts s (suc (suc (suc (suc h)))) low = absurd (omega arith)

retire_others : (s : ServerId) (h : ℕ) → 4 ≤ h → many (λ n. retires_shard n.event.what s h) controller ≡ 0
retire_others s h over =
    let a = both_false (same_server (server 1) s) (eqb 0 h) (ne_eqb _ _ (λ e. omega arith))
    in let b = both_false (same_server (server 1) s) (eqb 1 h) (ne_eqb _ _ (λ e. omega arith))
    in let c = both_false (same_server (server 1) s) (eqb 2 h) (ne_eqb _ _ (λ e. omega arith))
    in let d = both_false (same_server (server 1) s) (eqb 3 h) (ne_eqb _ _ (λ e. omega arith))
    in omega arith

controlling : IsController stage controller
controlling = record {
  each = (
    record {
      kind = refl;
      command = (refl, refl);
      order =
          (omega arith, (omega arith, (omega arith, (omega arith, (omega arith, tt)))));
      once =
          refl;
      meant = (refl, omega arith);
    },
    (
      record {
        kind = refl;
        command = tt;
        order = (omega arith, (omega arith, (omega arith, (omega arith, tt))));
        once = refl;
        meant = omega arith;
      },
      (
        record {
          kind = refl;
          command = (refl, refl);
          order = (omega arith, (omega arith, (omega arith, tt)));
          once = refl;
          meant = (refl, omega arith);
        },
        (
          record {
            kind = refl;
            command = (refl, refl);
            order = (omega arith, (omega arith, tt));
            once = refl;
            meant = (refl, omega arith);
          },
          (
            record {
              kind = refl;
              command = (refl, refl);
              order = (omega arith, tt);
              once = refl;
              meant = (refl, omega arith);
            },
            (
              record { kind = refl; command = (refl, refl); order = tt; once = refl; meant = (refl, omega arith) },
              tt,
            ),
          ),
        ),
      ),
    ),
  );
  complete = λ i low. one i low;
  closes = λ s f. omega arith;
  retires = retire_counts;
  no_other = retire_others;
  syncs = refl;
} where
  one : (i : ℕ) → i < 3
      → many (λ n. eqb n.command i) controller
      ≡ size_of stage.script.setting.shards (slice_get stage.script.commands i)
  one zero low = refl
  one (suc zero) low = refl
  one (suc (suc zero)) low = refl
  one (suc (suc (suc i))) low = absurd (omega arith)

turned_round : (t b : Bool) → one_if (t && (true && b)) ≡ one_if (t && b)
turned_round true b = refl
turned_round false b = refl

lossless : (t b : Bool) → one_if (t && (false && b)) ≡ 0
lossless true b = refl
lossless false b = refl

no_copies : (t : Bool) → cond t 0 0 ≡ zero
no_copies true = refl
no_copies false = refl

-- the Lose is at the clock after its sending
lost_pair : (t : Bool) (clock : ℕ) → one_if (t && eqb 1002 (suc clock)) ≡ one_if (t && eqb 1001 clock)
lost_pair false clock = refl
lost_pair true clock = go (eqb 1001 clock) refl where
  go : (b : Bool) → eqb 1001 clock ≡ b → one_if (eqb 1002 (suc clock)) ≡ one_if b
  go true is =
      let at : 1001 ≡ clock =
      eqb-true _ _ is in let yes : eqb 1002 (suc clock) ≡ true = eq-eqb _ _ (omega arith) in rw yes refl
  go false is =
      let other : 1001 ≡ clock → ⊥ =
      eqb-false _ _ is in let no : eqb 1002 (suc clock) ≡ false =
      ne_eqb _ _ (λ e. other (omega arith)) in rw no refl

carrying : IsCarrier (RouteBy (setting_mux stage.script.setting)) Losing stage 0 carrier
carrying = record {
  kinds = (refl, (refl, (refl, (refl, (refl, (refl, tt))))));
  has_sending = (tt, (tt, (tt, ((omega arith, omega arith), (tt, (tt, tt))))));
  answers = ((tt, tt), ((refl, refl), ((tt, tt), ((tt, tt), ((refl, refl), ((tt, tt), tt))))));
  lost = λ k hop clock.
      let a = lost_pair (sends second_steer.event.what k hop) clock
      in let b = turned_round (sends second_steer.event.what k hop) (eqb 1001 clock)
      in let c = lossless (sends first_steer.event.what k hop) (eqb 51 clock)
      in omega arith;
  sent = λ k hop clock.
      let a = paired (arrives accepted.event.what k hop) 52 51 clock (omega arith)
      in let b = no_copies (sends second_steer.event.what k hop && ltb 1001 clock)
      in omega arith;
  arrived = λ k hop. let b = no_copies (sends second_steer.event.what k hop) in omega arith;
}

steered_once : (k : ℕ) → many (λ n. steers_packet n.event.what k) carrier ≡ cond (is_some (segment_of stage k)) 1 0
steered_once zero = refl
steered_once (suc zero) = refl
steered_once (suc (suc zero)) = refl
steered_once (suc (suc (suc k))) =
    let a : eqb 2 (suc (suc (suc k))) ≡ false = ne_eqb _ _ (λ e. omega arith)
    in let b : eqb 1 (suc (suc (suc k))) ≡ false = ne_eqb _ _ (λ e. omega arith)
    in rw (a, b) refl

promises : ArePromises (RouteBy (setting_mux stage.script.setting)) Losing stage logs controller (carrier ∷ [])
unfolding flow_octets fnv_step fnv_1a flow_hash
promises = record {
  agree = agreed;
  muxes = refl;
  seated = (seated_controller, (seated_mux, (seated_zero, (seated_one, (seated_two, (seated_three, tt))))));
  seats = (
    (omega arith, tt),
    (
      (omega arith, (omega arith, (omega arith, (omega arith, (omega arith, tt))))),
      (
        (omega arith, tt),
        ((omega arith, tt), ((omega arith, (omega arith, (omega arith, tt))), ((omega arith, tt), tt))),
      ),
    ),
  );
  homes = (
    refl,
    (refl, (refl, (refl, (refl, (refl, (refl, (refl, (refl, (refl, (refl, (refl, tt))))))))))),
  );
  given = (
    (tt, tt),
    (
      (
        tt,
        (
          (refl, refl, refl),
          (((omega arith, omega arith), refl), ((refl, refl, refl), (((omega arith, omega arith), refl), tt))),
        ),
      ),
      ((refl, tt), ((refl, tt), ((refl, (refl, ((refl, refl), tt))), ((refl, tt), tt)))),
    ),
  );
  controls = controlling;
  carried = carried;
  steered = steered_once;
  phases = (refl, (refl, (tt, (refl, (refl, (tt, tt))))));
  met = (
    ((looked_first, refl), tt),
    ((tt, (tt, (tt, (tt, (tt, tt))))), ((tt, tt), ((tt, tt), ((tt, (tt, (tt, tt))), ((tt, tt), tt))))),
  );
  changes = refl;
  looked = looked;
} where
  carried : (m : ℕ) → m < 1
      → IsCarrier (RouteBy (setting_mux stage.script.setting)) Losing stage m (notes_by (carrier ∷ []) m)
  carried zero low = carrying
  carried (suc m) low = absurd (omega arith)

  looked_first : (m : ℕ) → m < 1
      → 1 ≤ many (λ n. is_switch_of n.event.what m && (leb 0 n.event.clock.0 && ltb n.event.clock.0 101))
      (all_notes logs)
  looked_first zero low = omega arith
  looked_first (suc m) low = absurd (omega arith)

  looked : (m : ℕ) → m < 1
      → 1 ≤ many
      (λ n. is_switch_of n.event.what m && leb (sync_clock (named (plain logs) Controller)) n.event.clock.0)
      (all_notes logs)
  looked zero low = omega arith
  looked (suc m) low = absurd (omega arith)

-- so the merged history is one of a threaded run
worked_run : IsThreadedRun (RouteBy (setting_mux stage.script.setting)) Losing history
worked_run =
    workers_law (RouteBy (setting_mux stage.script.setting)) Losing history logs controller (carrier ∷ []) promises
    refl

-- A Sync at the clock of a Lose that comes in its phase: it stands first, so the Lose stands in the
-- wrong phase. So a Sync's clock is to be above those of the Loses too, which a mux's last clock
-- doesn't show.
lose_counts : (fates : List Fate)
    → AreThreadSteps fates stage (at 52 (Lose 1 Direct) ∷ at 52 Sync ∷ steer 51 1 0 ∷ switch 1 0 0 ∷ []) → ⊥
lose_counts fates steps = let late : ◌≡◌ {A = ℕ} 1 0 = steps.0.phase in absurd (omega arith)

-- So its worker's promise on the phases fails, where the controller's log has such a Sync.
phase_counts : IsInItsPhase stage (record { actor = Controller; events = at 52 Sync ∷ [] } ∷ [])
    (note (at 52 (Lose 1 Direct)) 1 0 0 1) → ⊥
phase_counts phase = let late : ◌≡◌ {A = ℕ} 1 0 = phase in absurd (omega arith)

-- The workers' promises, kept in an example: a mux looks at the board before a change and again after it, a packet is
-- forwarded, and the logs merge to a threaded run.
use Rattle.std.proofs.Common.{◌≡◌, ℕ, zero, suc, ◌+◌, ◌<◌, ◌≤◌, Bool, true, false, cond, ◌&&◌, inl, inr, List, []}
use Rattle.std.proofs.Common.{◌∷◌, Some, None, refl, arith, leb, ltb, eqb}
use Rattle.std.specs.Prelude.{is_some, reverse, slice_get}
use Rattle.std.proofs.lemmas.Bool.{leb-true, lt-ltb, eqb-true, ne_eqb}
use Rattle.bm_base.specs.declared.label.Hop.TheVariants.{Direct, Chained}
use Rattle.bm_base.specs.declared.label.Label.{Label}
use Rattle.bm_base.specs.declared.receive.Taken.TheVariants.{Advance}
use Rattle.bm_base.specs.Segments.{has_flag, is_opening}
use Rattle.bm_hash.specs.Buckets.{flow_octets, fnv_step, fnv_1a, flow_hash}
use Rattle.bm_seq.specs.Receivers.{acceptable, distance, taken_reset, comes_in_turn, taken, after_taken, opened}
use Rattle.bm_seq.specs.Receivers.{receiver_after}
use Rattle.bm_core.specs.declared.events.Event.{Event}
use Rattle.bm_core.specs.declared.events.History.{History}
use Rattle.bm_core.specs.declared.events.Verdict.TheVariants.{Accept, Process, Forward}
use Rattle.bm_core.specs.Past.{segment_of, shard, sends, is_switch_of}
use Rattle.bm_core.specs.Runs.Actor.{Controller, MuxOf, ShardOf}
use Rattle.bm_core.specs.Accounts.{count_of, arrives, steers_packet}
use Rattle.bm_core.specs.Rules.{RouteBy, RuleBy, setting_mux, setting_fate}
use Rattle.bm_core.specs.Threads.{sync_clock}
use Rattle.bm_core.specs.Threads.{IsThreadedRun}
use Rattle.bm_core.proofs.Worked.{server, syn, data_of, flow_from, publish, switch, steer, arrive}
use Rattle.bm_core.proofs.WorkedMoves.{moved}
use Rattle.bm_core.proofs.WorkedWhole.{moved_sound}
use Rattle.bm_merge.specs.Merges.{gathered, merged, named, Agree}
use Rattle.bm_merge.specs.Notes.{Note, NotedLog, plain, all_notes, size_of, many}
use Rattle.bm_merge.specs.Workers.{notes_by, seat_part, home_part, IsController, IsCarrier, ArePromises}
use Rattle.bm_merge.proofs.Reaching.{one_if}
use Rattle.bm_merge.proofs.Standing.{entry_of}
use Rattle.bm_merge.proofs.Keeping.{workers_law}

abbrev pub note : Event → ℕ → ℕ → Note
note e due seat = record { event = e; fate = record { copies = 1; delay = 0 }; command = 0; due = due; seat = seat }

-- the flow's shard
abbrev pub h : ℕ
h = shard moved (flow_from 1000)

abbrev pub posted : Note
posted = note (publish 501 1) 0 0

abbrev pub first_look : Note
first_look = note (switch 1 0 0) 0 1

abbrev pub first_steer : Note
first_steer = note (steer 2 1 0) 0 1

abbrev pub accepted : Note
accepted = note (arrive 3 1 Direct 1 Accept) 2 1

abbrev pub second_look : Note
second_look = note (switch 502 0 1) 0 1

abbrev pub second_steer : Note
second_steer = note (steer 1001 2 0) 0 1

abbrev pub forwarded : Note
forwarded = note (arrive 1002 2 Direct 2 (Forward (server 1))) 1001 1

abbrev pub processed : Note
processed = note (arrive 1003 2 Chained 1 (Process Advance)) 1002 1

abbrev pub logs : List NotedLog
logs =
    record { actor = Controller; notes = posted ∷ [] }
    ∷ record { actor = MuxOf 0; notes = second_steer ∷ second_look ∷ first_steer ∷ first_look ∷ [] }
    ∷ record { actor = ShardOf 1 h; notes = processed ∷ accepted ∷ [] }
    ∷ record { actor = ShardOf 2 h; notes = forwarded ∷ [] }
    ∷ []

abbrev pub controller : List Note
controller = posted ∷ []

abbrev pub carrier : List Note
carrier = processed ∷ forwarded ∷ second_steer ∷ second_look ∷ accepted ∷ first_steer ∷ first_look ∷ []

abbrev pub history : History
history = record { stage = moved; events = reverse (merged (plain logs)) }

in_order : history.events ≡
    switch 1 0 0
    ∷ steer 2 1 0
    ∷ arrive 3 1 Direct 1 Accept
    ∷ publish 501 1
    ∷ switch 502 0 1
    ∷ steer 1001 2 0
    ∷ arrive 1002 2 Direct 2 (Forward (server 1))
    ∷ arrive 1003 2 Chained 1 (Process Advance)
    ∷ []
in_order = refl

abbrev pub old_label : Label
old_label =
    record {
      mux = record { 0 = 0 };
      version = record { 0 = 0 };
      entry = record { cur = server 1; prev = None; older = None };
    }

abbrev pub new_label : Label
new_label =
    record {
      mux = record { 0 = 0 };
      version = record { 0 = 1 };
      entry = record {
        cur = server 2;
        prev = Some (record { server = server 1; stamp = record { 0 = 500 } });
        older = None;
      };
    }

one_steer : (k : ℕ) → count_of (λ e. steers_packet e.what k) (gathered (plain logs)) ≤ 1
one_steer k = let few = go (eqb 2 k) (eqb 1 k) refl refl in omega arith where
  go : (a b : Bool) → eqb 2 k ≡ a → eqb 1 k ≡ b → cond a 1 0 + (cond b 1 0 + 0) ≤ 1
  go true true p q = let x : 2 ≡ k = eqb-true _ _ p in let y : 1 ≡ k = eqb-true _ _ q in absurd (omega arith)
  go true false p q = omega arith
  go false true p q = omega arith
  go false false p q = omega arith

agreed : Agree moved (plain logs)
unfolding has_flag is_opening flow_octets fnv_step fnv_1a flow_hash acceptable distance
    taken_reset comes_in_turn taken after_taken opened receiver_after
agreed = record {
  sound = moved_sound;
  first = refl;
  actors = (refl, (refl, (refl, (refl, tt))));
  once = one_steer;
  entries = (
    (entry_of _ _ _ _ _ refl tt (refl, omega arith), tt),
    (
      (
        entry_of _ _ _ _ _ refl (omega arith) (omega arith, refl),
        (
          entry_of _ _ _ _ _ refl (omega arith) (omega arith, inr refl),
          (
            entry_of _ _ _ _ _ refl (omega arith) (omega arith, refl),
            (entry_of _ _ _ _ _ refl tt (omega arith, inl refl), tt),
          ),
        ),
      ),
      (
        (
          entry_of _ _ _ _ _ refl (omega arith)
              (record {
                segment = data_of 1000 101 10;
                is_segment = refl;
                label = new_label;
                is_label = refl;
                sent = refl;
                place = refl;
                verdict_is = refl;
              }),
          (
            entry_of _ _ _ _ _ refl tt
                (record {
                  segment = syn 1000 100;
                  is_segment = refl;
                  label = old_label;
                  is_label = refl;
                  sent = refl;
                  place = refl;
                  verdict_is = refl;
                }),
            tt,
          ),
        ),
        (
          (
            entry_of _ _ _ _ _ refl tt
                (record {
                  segment = data_of 1000 101 10;
                  is_segment = refl;
                  label = new_label;
                  is_label = refl;
                  sent = refl;
                  place = refl;
                  verdict_is = refl;
                }),
            tt,
          ),
          tt,
        ),
      ),
    ),
  );
}

-- THE PROMISES

seated_controller : (w : ℕ)
    → seat_part w controller ≡ home_part moved Controller (notes_by (controller ∷ carrier ∷ []) w)
seated_controller zero = refl
seated_controller (suc zero) = refl
seated_controller (suc (suc w)) =
    let a : eqb 0 (suc (suc w)) ≡ false = ne_eqb _ _ (λ e. absurd (omega arith)) in rw a refl

pub none_of : (w : ℕ) → eqb 1 (suc (suc w)) ≡ false
none_of w = ne_eqb _ _ (λ e. omega arith)

seated_mux : (w : ℕ)
    → seat_part w (second_steer ∷ second_look ∷ first_steer ∷ first_look ∷ [])
    ≡ home_part moved (MuxOf 0) (notes_by (controller ∷ carrier ∷ []) w)
seated_mux zero = refl
seated_mux (suc zero) = refl
seated_mux (suc (suc w)) = rw (none_of w) refl

seated_first : (w : ℕ)
    → seat_part w (processed ∷ accepted ∷ []) ≡ home_part moved (ShardOf 1 h) (notes_by (controller ∷ carrier ∷ []) w)
unfolding flow_octets fnv_step fnv_1a flow_hash
seated_first zero = refl
seated_first (suc zero) = refl
seated_first (suc (suc w)) = rw (none_of w) refl

seated_second : (w : ℕ)
    → seat_part w (forwarded ∷ []) ≡ home_part moved (ShardOf 2 h) (notes_by (controller ∷ carrier ∷ []) w)
unfolding flow_octets fnv_step fnv_1a flow_hash
seated_second zero = refl
seated_second (suc zero) = refl
seated_second (suc (suc w)) = rw (none_of w) refl

controlling : IsController moved controller
controlling = record {
  each = (record { kind = refl; command = refl; order = tt; once = refl; meant = (0, refl, refl) }, tt);
  complete = λ i low. one i low;
  closes = λ s f. refl;
  retires = λ s x low. refl;
  no_other = λ s x over. refl;
  syncs = refl;
} where
  one : (i : ℕ) → i < 1
      → many (λ n. eqb n.command i) controller
      ≡ size_of moved.script.setting.shards (slice_get moved.script.commands i)
  one zero low = refl
  one (suc i) low = absurd (omega arith)

-- a copy that came later than it was sent
pub paired : (t : Bool) (a s c : ℕ) → s < a → one_if (t && leb a c) ≤ cond (t && ltb s c) 1 0
paired false a s c low = omega arith
paired true a s c low = go (leb a c) refl where
  go : (b : Bool) → leb a c ≡ b → one_if b ≤ one_if (ltb s c)
  go true is =
      let under : a ≤ c =
      leb-true _ _ is in let yes : ltb s c ≡ true = lt-ltb _ _ (omega arith) in rw yes (omega arith)
  go false is = omega arith

pub lossless : (t b : Bool) → one_if (t && (false && b)) ≡ 0
lossless true b = refl
lossless false b = refl

carrying : IsCarrier (RouteBy (setting_mux moved.script.setting)) (RuleBy (setting_fate moved.script.setting)) moved
    0 carrier
carrying = record {
  kinds = (refl, (refl, (refl, (refl, (refl, (refl, (refl, tt)))))));
  has_sending = (
    (omega arith, omega arith),
    ((omega arith, omega arith), (tt, (tt, ((omega arith, omega arith), (tt, (tt, tt)))))),
  );
  answers = ((tt, tt), ((tt, refl), ((refl, refl), ((tt, tt), ((tt, tt), ((refl, refl), ((tt, tt), tt)))))));
  lost = λ k hop clock.
      let a = lossless (sends forwarded.event.what k hop) (eqb 1002 clock)
      in let b = lossless (sends second_steer.event.what k hop) (eqb 1001 clock)
      in let c = lossless (sends first_steer.event.what k hop) (eqb 2 clock)
      in omega arith;
  sent = λ k hop clock.
      let a = paired (arrives processed.event.what k hop) 1003 1002 clock (omega arith)
      in let b = paired (arrives forwarded.event.what k hop) 1002 1001 clock (omega arith)
      in let c = paired (arrives accepted.event.what k hop) 3 2 clock (omega arith)
      in omega arith;
  arrived = λ k hop. omega arith;
}

steered_once : (k : ℕ) → many (λ n. steers_packet n.event.what k) carrier ≡ cond (is_some (segment_of moved k)) 1 0
steered_once zero = refl
steered_once (suc zero) = refl
steered_once (suc (suc zero)) = refl
steered_once (suc (suc (suc k))) =
    let a : eqb 2 (suc (suc (suc k))) ≡ false = ne_eqb _ _ (λ e. omega arith)
    in let b : eqb 1 (suc (suc (suc k))) ≡ false = ne_eqb _ _ (λ e. omega arith)
    in rw (a, b) refl

promises : ArePromises (RouteBy (setting_mux moved.script.setting)) (RuleBy (setting_fate moved.script.setting))
    moved logs controller (carrier ∷ [])
unfolding flow_octets fnv_step fnv_1a flow_hash
promises = record {
  agree = agreed;
  muxes = refl;
  seated = (seated_controller, (seated_mux, (seated_first, (seated_second, tt))));
  seats = (
    (omega arith, tt),
    (
      (omega arith, (omega arith, (omega arith, (omega arith, tt)))),
      ((omega arith, (omega arith, tt)), ((omega arith, tt), tt)),
    ),
  );
  homes = (refl, (refl, (refl, (refl, (refl, (refl, (refl, (refl, tt))))))));
  given = (
    (tt, tt),
    (
      ((refl, refl, refl), ((omega arith, refl), ((refl, refl, refl), (((omega arith, omega arith), refl), tt)))),
      (((refl, refl), ((refl, refl), tt)), (((refl, refl), tt), tt)),
    ),
  );
  controls = controlling;
  carried = carried;
  steered = steered_once;
  phases = (refl, (refl, (refl, (tt, (refl, (refl, (tt, tt)))))));
  met = ((tt, tt), ((tt, (tt, (tt, (tt, tt)))), ((tt, (tt, tt)), ((tt, tt), tt))));
  changes = refl;
  looked = looked;
} where
  carried : (m : ℕ) → m < 1
      → IsCarrier (RouteBy (setting_mux moved.script.setting)) (RuleBy (setting_fate moved.script.setting)) moved m
      (notes_by (carrier ∷ []) m)
  carried zero low = carrying
  carried (suc m) low = absurd (omega arith)

  looked : (m : ℕ) → m < 1
      → 1 ≤ many
      (λ n. is_switch_of n.event.what m && leb (sync_clock (named (plain logs) Controller)) n.event.clock.0)
      (all_notes logs)
  looked zero low = omega arith
  looked (suc m) low = absurd (omega arith)

-- so the merged history is one of a threaded run
worked_run : IsThreadedRun (RouteBy (setting_mux moved.script.setting)) (RuleBy (setting_fate moved.script.setting))
    history
worked_run =
    workers_law (RouteBy (setting_mux moved.script.setting)) (RuleBy (setting_fate moved.script.setting)) history
    logs controller (carrier ∷ []) promises refl

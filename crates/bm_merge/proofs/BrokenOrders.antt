-- Histories that break the order of a threaded run: of phases, commands, looks, and packets.
use Rattle.std.proofs.Common.{◌≡◌, ℕ, zero, suc, ◌<◌, ◌≤◌, true, false, inl, inr, List, [], ◌∷◌, None, refl, ap}
use Rattle.std.proofs.Common.{arith}
use Rattle.std.proofs.Common.{cond, eqb}
use Rattle.std.specs.Prelude.{is_some}
use Rattle.std.proofs.lemmas.Bool.{ne_eqb}
use Rattle.bm_core.specs.Past.{segment_of, sends}
use Rattle.bm_core.specs.Accounts.{counts, count_of, steers_packet, retires_shard, wants_retire}
use Rattle.bm_merge.proofs.Worked.{lossless}
use Rattle.bm_merge.proofs.WorkedSyncs.{both_false, with_true}
use Rattle.bm_base.specs.declared.ids.ServerId.{ServerId}
use Rattle.bm_base.specs.declared.label.Hop.{Hop}
use Rattle.bm_table.specs.Tables.{same_server}
use Rattle.bm_table.specs.declared.plan.Retirement.TheVariants.{NotDrained}
use Rattle.bm_table.specs.declared.script.Command.TheVariants.{Change as ChangeCommand}
use Rattle.bm_base.specs.declared.flow.Flow.{Flow}
use Rattle.bm_base.specs.declared.label.Hop.TheVariants.{Direct}
use Rattle.bm_base.specs.Segments.{has_flag, is_opening}
use Rattle.bm_table.specs.declared.script.Command.TheVariants.{Close as CloseCommand, Retire as RetireCommand}
use Rattle.bm_table.specs.declared.script.Command.TheVariants.{Sync as SyncCommand}
use Rattle.bm_hash.specs.Buckets.{flow_octets, fnv_step, fnv_1a, flow_hash}
use Rattle.bm_seq.specs.Receivers.{acceptable, distance, taken_reset, comes_in_turn, taken, after_taken, opened}
use Rattle.bm_seq.specs.Receivers.{receiver_after}
use Rattle.bm_core.specs.declared.events.Event.{Event}
use Rattle.bm_core.specs.declared.events.Stage.{Stage}
use Rattle.bm_core.specs.declared.events.Verdict.TheVariants.{Accept, Reset}
use Rattle.bm_core.specs.declared.events.Why.TheVariants.{NoPrevious}
use Rattle.bm_core.specs.declared.events.What.TheVariants.{Close, Sync}
use Rattle.bm_core.specs.Threads.{HaveLooked}
use Rattle.bm_core.proofs.Worked.{server, syn, data_of, flow_from, record_at, at, publish, switch, steer, arrive}
use Rattle.bm_core.proofs.Worked.{retire}
use Rattle.bm_core.proofs.WorkedMoves.{moved}
use Rattle.bm_core.proofs.WorkedWhole.{moved_sound}
use Rattle.bm_merge.proofs.Broken.{IsAccounted, moment, quiet, quiet_sound, opening_label, LacksPhase, LacksOrder}
use Rattle.bm_merge.proofs.Broken.{LacksTime}
use Rattle.bm_merge.proofs.Broken.{LacksLook, IsRefused}

-- a packet whose phase comes after the Sync is carried before it
abbrev early : Stage
early = quiet (SyncCommand (moment 100) ∷ []) (record_at 1000 (syn 1000 100) ∷ [])

abbrev early_events : List Event
early_events =
    switch 1004 0 0
    ∷ at 1003 Sync
    ∷ arrive 1002 1 Direct 1 Accept
    ∷ steer 1001 1 0
    ∷ switch 1 0 0
    ∷ []

early_account : IsAccounted early early_events
early_account = record {
  steered = steered;
  answered = ((tt, tt), ((tt, tt), ((tt, tt), ((refl, refl), ((tt, tt), tt)))));
  lost = λ k hop clock.
      let a1 = lossless (sends (steer 1001 1 0).what k hop) (eqb 1001 clock)
      in omega arith;
  sent = (
    λ k hop. omega arith,
    (λ k hop. omega arith, (λ k hop. omega arith, (λ k hop. omega arith, (λ k hop. omega arith, tt)))),
  );
  arrived = λ k hop. omega arith;
  commands = record {
    changes = refl;
    closes = λ s f. omega arith;
    retires = λ s h low. omega arith;
    no_other = λ s h over. omega arith;
    syncs = refl;
  };
} where
  steered : (k : ℕ) → counts early_events (λ what. steers_packet what k) ≡ cond (is_some (segment_of early k)) 1 0
  steered zero = refl
  steered (suc zero) = refl
  steered (suc (suc k)) =
      let a : eqb 1 (suc (suc k)) ≡ false = ne_eqb _ _ (λ e. omega arith) in rw a (omega arith)

early_lacks : LacksPhase early early_events
unfolding has_flag is_opening flow_octets fnv_step fnv_1a flow_hash acceptable distance
    taken_reset comes_in_turn taken after_taken opened receiver_after
early_lacks = record {
  sound =
      quiet_sound _ _ (omega arith) (omega arith, omega arith, tt) refl (tt, tt) (omega arith)
      (omega arith, omega arith, tt) ((inl (refl, refl), omega arith), tt);
  account = early_account;
  run = (
    record { clock = omega arith; own = omega arith; may = (omega arith, omega arith) },
    (
      record { clock = omega arith; own = tt; may = tt },
      (
        record {
          clock = omega arith;
          own = tt;
          may =
              record {
                segment = syn 1000 100;
                is_segment = refl;
                label = opening_label 1;
                is_label = refl;
                sent = refl;
                place = refl;
                verdict_is = refl;
              };
        },
        (
          record { clock = omega arith; own = omega arith; may = (omega arith, refl, refl) },
          (
            record { clock = omega arith; own = tt; may = (omega arith, omega arith) },
            tt,
          ),
        ),
      ),
    ),
  );
  steps = (
    (tt, ((omega arith, omega arith), refl)),
    (
      (tt, (looked_before, refl)),
      (
        (tt, (refl, inl (refl, refl))),
        (
          (tt, (refl, refl, refl)),
          (
            (tt, ((omega arith, omega arith), refl)),
            tt,
          ),
        ),
      ),
    ),
  );
  looked = looked;
} where
  looked : HaveLooked early early_events
  looked zero low = refl
  looked (suc m) low = absurd (omega arith)

  looked_before : HaveLooked early (arrive 1002 1 Direct 1 Accept ∷ steer 1001 1 0 ∷ switch 1 0 0 ∷ [])
  looked_before zero low = refl
  looked_before (suc m) low = absurd (omega arith)

early_refused : IsRefused early early_events
unfolding flow_octets fnv_step fnv_1a flow_hash
early_refused fates follows = let phase : ◌≡◌ {A = ℕ} 0 1 = follows.0.1.1.1.0.phase in absurd (omega arith)

-- two closes come in the other order than in the script
abbrev turned : Stage
turned =
    quiet (CloseCommand (moment 10) (server 1) (flow_from 1000) ∷ CloseCommand (moment 10) (server 1)
    (flow_from 1001) ∷ []) []

abbrev turned_events : List Event
turned_events =
    at 12 (Close (server 1) (flow_from 1000) false)
    ∷ at 11 (Close (server 1) (flow_from 1001) false)
    ∷ switch 1 0 0
    ∷ []

turned_account : IsAccounted turned turned_events
turned_account = record {
  steered = steered;
  answered = ((tt, tt), ((tt, tt), ((tt, tt), tt)));
  lost = λ k hop clock. omega arith;
  sent = (λ k hop. omega arith, (λ k hop. omega arith, (λ k hop. omega arith, tt)));
  arrived = λ k hop. omega arith;
  commands = record {
    changes = refl;
    closes = λ s f. omega arith;
    retires = λ s h low. omega arith;
    no_other = λ s h over. omega arith;
    syncs = refl;
  };
} where
  steered : (k : ℕ) → counts turned_events (λ what. steers_packet what k) ≡ cond (is_some (segment_of turned k)) 1 0
  steered zero = refl
  steered (suc k) = omega arith

turned_lacks : LacksOrder turned turned_events
unfolding has_flag is_opening flow_octets fnv_step fnv_1a flow_hash acceptable distance
    taken_reset comes_in_turn taken after_taken opened receiver_after
turned_lacks = record {
  sound =
      quiet_sound _ _ (omega arith) (omega arith, omega arith, (omega arith, omega arith, tt)) refl
      (refl, (refl, tt)) (omega arith) tt tt;
  account = turned_account;
  run = (
    record { clock = omega arith; own = omega arith; may = refl },
    (
      record { clock = omega arith; own = tt; may = refl },
      (
        record { clock = omega arith; own = tt; may = (omega arith, omega arith) },
        tt,
      ),
    ),
  );
  steps = (
    (tt, refl),
    (
      (tt, refl),
      (
        (tt, ((omega arith, omega arith), refl)),
        tt,
      ),
    ),
  );
  looked = looked;
} where
  looked : HaveLooked turned turned_events
  looked zero low = refl
  looked (suc m) low = absurd (omega arith)

turned_refused : IsRefused turned turned_events
unfolding flow_octets fnv_step fnv_1a flow_hash
turned_refused fates follows =
    let port : ◌≡◌ {A = ℕ} 1001 1000 = ap (λ (f : Flow). f.sport) follows.0.1.0.command.1 in absurd (omega arith)

-- of two retires each asks one shard twice, and another not at all
abbrev doubled : Stage
doubled = quiet (RetireCommand (moment 10) (server 1) ∷ RetireCommand (moment 20) (server 1) ∷ []) []

abbrev doubled_events : List Event
doubled_events =
    retire 22 1 3 20 NotDrained
    ∷ retire 21 1 2 20 NotDrained
    ∷ retire 21 1 1 20 NotDrained
    ∷ retire 21 1 3 20 NotDrained
    ∷ retire 12 1 0 10 NotDrained
    ∷ retire 11 1 2 10 NotDrained
    ∷ retire 11 1 1 10 NotDrained
    ∷ retire 11 1 0 10 NotDrained
    ∷ switch 1 0 0
    ∷ []

doubled_account : IsAccounted doubled doubled_events
doubled_account = record {
  steered = steered;
  answered = (
    (tt, tt),
    ((tt, tt), ((tt, tt), ((tt, tt), ((tt, tt), ((tt, tt), ((tt, tt), ((tt, tt), ((tt, tt), tt)))))))),
  );
  lost = λ k hop clock. omega arith;
  sent = (none, (none, (none, (none, (none, (none, (none, (none, (none, tt)))))))));
  arrived = λ k hop. omega arith;
  commands = record {
    changes = refl;
    closes = λ s f. omega arith;
    retires = retires;
    no_other = no_other;
    syncs = refl;
  };
} where
  none : (k : ℕ) (hop : Hop) → 0 ≤ 0
  none k hop = omega arith

  steered : (k : ℕ)
      → counts doubled_events (λ what. steers_packet what k) ≡ cond (is_some (segment_of doubled k)) 1 0
  steered zero = refl
  steered (suc k) = omega arith

  retires : (s : ServerId) (h : ℕ) → h < 4
      → counts doubled_events (λ what. retires_shard what s h)
      ≡ count_of (λ c. wants_retire c s) doubled.script.commands
  retires s zero low =
      let a = with_true (same_server (server 1) s) true refl
      in let b = both_false (same_server (server 1) s) false refl
      in omega arith
  retires s (suc zero) low =
      let a = with_true (same_server (server 1) s) true refl
      in let b = both_false (same_server (server 1) s) false refl
      in omega arith
  retires s (suc (suc zero)) low =
      let a = with_true (same_server (server 1) s) true refl
      in let b = both_false (same_server (server 1) s) false refl
      in omega arith
  retires s (suc (suc (suc zero))) low =
      let a = with_true (same_server (server 1) s) true refl
      in let b = both_false (same_server (server 1) s) false refl
      in omega arith
  retires s (suc (suc (suc (suc h)))) low = absurd (omega arith)

  no_other : (s : ServerId) (h : ℕ) → 4 ≤ h → counts doubled_events (λ what. retires_shard what s h) ≡ 0
  no_other s h over =
      let x0 = both_false (same_server (server 1) s) (eqb 0 h) (ne_eqb _ _ (λ e. omega arith))
      in let x1 = both_false (same_server (server 1) s) (eqb 1 h) (ne_eqb _ _ (λ e. omega arith))
      in let x2 = both_false (same_server (server 1) s) (eqb 2 h) (ne_eqb _ _ (λ e. omega arith))
      in let x3 = both_false (same_server (server 1) s) (eqb 3 h) (ne_eqb _ _ (λ e. omega arith))
      in omega arith

doubled_lacks : LacksOrder doubled doubled_events
unfolding has_flag is_opening flow_octets fnv_step fnv_1a flow_hash acceptable distance
    taken_reset comes_in_turn taken after_taken opened receiver_after
doubled_lacks = record {
  sound =
      quiet_sound _ _ (omega arith) (omega arith, omega arith, (omega arith, omega arith, tt)) refl
      (refl, (refl, tt)) (omega arith) tt tt;
  account = doubled_account;
  run = (
    record { clock = omega arith; own = omega arith; may = (omega arith, refl) },
    (
      record { clock = omega arith; own = omega arith; may = (omega arith, refl) },
      (
        record { clock = omega arith; own = omega arith; may = (omega arith, refl) },
        (
          record { clock = omega arith; own = tt; may = (omega arith, refl) },
          (
            record { clock = omega arith; own = omega arith; may = (omega arith, refl) },
            (
              record { clock = omega arith; own = tt; may = (omega arith, refl) },
              (
                record { clock = omega arith; own = tt; may = (omega arith, refl) },
                (
                  record { clock = omega arith; own = tt; may = (omega arith, refl) },
                  (record { clock = omega arith; own = tt; may = (omega arith, omega arith) }, tt),
                ),
              ),
            ),
          ),
        ),
      ),
    ),
  );
  steps = (
    (tt, (refl, refl)),
    (
      (tt, (refl, refl)),
      (
        (tt, (refl, refl)),
        (
          (tt, (refl, refl)),
          (
            (tt, (refl, refl)),
            (
              (tt, (refl, refl)),
              ((tt, (refl, refl)), ((tt, (refl, refl)), ((tt, ((omega arith, omega arith), refl)), tt))),
            ),
          ),
        ),
      ),
    ),
  );
  looked = looked;
} where
  looked : HaveLooked doubled doubled_events
  looked zero low = refl
  looked (suc m) low = absurd (omega arith)

doubled_refused : IsRefused doubled doubled_events
unfolding flow_octets fnv_step fnv_1a flow_hash
doubled_refused fates follows =
    let again : true ≡ false = follows.0.1.1.1.1.0.command.1 in absurd (cc)

-- a mux does not look at the board in the last phase
abbrev unlooked : Stage
unlooked = quiet (SyncCommand (moment 100) ∷ []) []

abbrev unlooked_events : List Event
unlooked_events =
    at 101 Sync
    ∷ switch 1 0 0
    ∷ []

unlooked_account : IsAccounted unlooked unlooked_events
unlooked_account = record {
  steered = steered;
  answered = ((tt, tt), ((tt, tt), tt));
  lost = λ k hop clock. omega arith;
  sent = (λ k hop. omega arith, (λ k hop. omega arith, tt));
  arrived = λ k hop. omega arith;
  commands = record {
    changes = refl;
    closes = λ s f. omega arith;
    retires = λ s h low. omega arith;
    no_other = λ s h over. omega arith;
    syncs = refl;
  };
} where
  steered : (k : ℕ)
      → counts unlooked_events (λ what. steers_packet what k) ≡ cond (is_some (segment_of unlooked k)) 1 0
  steered zero = refl
  steered (suc k) = omega arith

unlooked_lacks : LacksLook unlooked unlooked_events
unfolding has_flag is_opening flow_octets fnv_step fnv_1a flow_hash acceptable distance
    taken_reset comes_in_turn taken after_taken opened receiver_after
unlooked_lacks = record {
  sound = quiet_sound _ _ (omega arith) (omega arith, omega arith, tt) refl (tt, tt) (omega arith) tt tt;
  account = unlooked_account;
  run = (
    record { clock = omega arith; own = tt; may = tt },
    (
      record { clock = omega arith; own = tt; may = (omega arith, omega arith) },
      tt,
    ),
  );
  steps = (
    (tt, tt, (looked_before, refl)),
    (
      (tt, tt, ((omega arith, omega arith), refl)),
      tt,
    ),
  );
} where
  looked_before : HaveLooked unlooked (switch 1 0 0 ∷ [])
  looked_before zero low = refl
  looked_before (suc m) low = absurd (omega arith)

unlooked_refused : IsRefused unlooked unlooked_events
unfolding flow_octets fnv_step fnv_1a flow_hash
unlooked_refused fates follows = let bad : false ≡ true = follows.1 0 (omega arith) in absurd (cc)

-- a mux looks again, and sees no newer version
abbrev relooked : Stage
relooked = quiet [] []

abbrev relooked_events : List Event
relooked_events =
    switch 2 0 0
    ∷ switch 1 0 0
    ∷ []

relooked_account : IsAccounted relooked relooked_events
relooked_account = record {
  steered = steered;
  answered = ((tt, tt), ((tt, tt), tt));
  lost = λ k hop clock. omega arith;
  sent = (λ k hop. omega arith, (λ k hop. omega arith, tt));
  arrived = λ k hop. omega arith;
  commands = record {
    changes = refl;
    closes = λ s f. omega arith;
    retires = λ s h low. omega arith;
    no_other = λ s h over. omega arith;
    syncs = refl;
  };
} where
  steered : (k : ℕ)
      → counts relooked_events (λ what. steers_packet what k) ≡ cond (is_some (segment_of relooked k)) 1 0
  steered zero = refl
  steered (suc k) = omega arith

relooked_lacks : LacksTime relooked 1 relooked_events
unfolding has_flag is_opening flow_octets fnv_step fnv_1a flow_hash acceptable distance
    taken_reset comes_in_turn taken after_taken opened receiver_after
relooked_lacks = record {
  sound = quiet_sound _ _ (omega arith) tt refl tt (omega arith) tt tt;
  account = relooked_account;
  run = (
    record { clock = omega arith; own = omega arith; may = (omega arith, omega arith) },
    (
      record { clock = omega arith; own = tt; may = (omega arith, omega arith) },
      tt,
    ),
  );
  steps = (
    (tt, tt, inl refl),
    (
      (tt, tt, inr ((omega arith, omega arith), refl)),
      tt,
    ),
  );
  looked = looked;
} where
  looked : HaveLooked relooked relooked_events
  looked zero low = refl
  looked (suc m) low = absurd (omega arith)

relooked_refused : IsRefused relooked relooked_events
unfolding flow_octets fnv_step fnv_1a flow_hash
relooked_refused fates follows = let newer : 0 < 0 = follows.0.0.timed.0 in absurd (omega arith)

-- a mux's first look in a phase is older than the newest version from before the phase
abbrev outdated : Stage
outdated =
    record moved {
      script = record moved.script {
        commands = ChangeCommand (record { 0 = 1 }) ∷ SyncCommand (moment 600) ∷ [];
      };
      capture = record { records = []; cut = None };
    }

abbrev outdated_events : List Event
outdated_events =
    switch 602 0 0
    ∷ at 601 Sync
    ∷ publish 501 1
    ∷ switch 1 0 0
    ∷ []

outdated_account : IsAccounted outdated outdated_events
outdated_account = record {
  steered = steered;
  answered = ((tt, tt), ((tt, tt), ((tt, tt), ((tt, tt), tt))));
  lost = λ k hop clock. omega arith;
  sent = (λ k hop. omega arith, (λ k hop. omega arith, (λ k hop. omega arith, (λ k hop. omega arith, tt))));
  arrived = λ k hop. omega arith;
  commands = record {
    changes = refl;
    closes = λ s f. omega arith;
    retires = λ s h low. omega arith;
    no_other = λ s h over. omega arith;
    syncs = refl;
  };
} where
  steered : (k : ℕ)
      → counts outdated_events (λ what. steers_packet what k) ≡ cond (is_some (segment_of outdated k)) 1 0
  steered zero = refl
  steered (suc k) = omega arith

outdated_lacks : LacksTime outdated 3 outdated_events
unfolding has_flag is_opening flow_octets fnv_step fnv_1a flow_hash acceptable distance
    taken_reset comes_in_turn taken after_taken opened receiver_after
outdated_lacks = record {
  sound = record {
    script = record {
      setting = moved_sound.script.setting;
      buckets = refl;
      servers = refl;
      adds = (tt, tt);
      plan = moved_sound.script.plan;
      few_commands = omega arith;
      commands_rise = (omega arith, omega arith, (omega arith, omega arith, tt));
      versions = (refl, refl);
      of_known = (tt, (tt, tt));
    };
    capture = record { few = omega arith; rise = tt; fit = tt };
  };
  account = outdated_account;
  run = (
    record { clock = omega arith; own = omega arith; may = (omega arith, omega arith) },
    (
      record { clock = omega arith; own = omega arith; may = tt },
      (
        record { clock = omega arith; own = tt; may = (refl, omega arith) },
        (record { clock = omega arith; own = tt; may = (omega arith, omega arith) }, tt),
      ),
    ),
  );
  steps = (
    (tt, tt, inl refl),
    (
      (tt, tt, inr (looked_before, refl)),
      (
        (refl, tt, inr refl),
        ((tt, tt, inr ((omega arith, omega arith), refl)), tt),
      ),
    ),
  );
  looked = looked;
} where
  looked : HaveLooked outdated outdated_events
  looked zero low = refl
  looked (suc m) low = absurd (omega arith)

  looked_before : HaveLooked outdated (publish 501 1 ∷ switch 1 0 0 ∷ [])
  looked_before zero low = refl
  looked_before (suc m) low = absurd (omega arith)

outdated_refused : IsRefused outdated outdated_events
unfolding flow_octets fnv_step fnv_1a flow_hash
outdated_refused fates follows = let newest : 1 ≤ 0 = follows.0.0.timed.0.0 in absurd (omega arith)

-- a mux steers a packet after a later one
abbrev unordered : Stage
unordered = quiet [] (record_at 0 (syn 1000 100) ∷ record_at 0 (syn 1001 100) ∷ [])

abbrev unordered_events : List Event
unordered_events =
    arrive 4 1 Direct 1 Accept
    ∷ arrive 3 2 Direct 2 Accept
    ∷ steer 3 1 0
    ∷ steer 2 2 0
    ∷ switch 1 0 0
    ∷ []

unordered_account : IsAccounted unordered unordered_events
unordered_account = record {
  steered = steered;
  answered = ((tt, tt), ((tt, tt), ((refl, refl), ((refl, refl), ((tt, tt), tt)))));
  lost = λ k hop clock.
      let a1 = lossless (sends (steer 3 1 0).what k hop) (eqb 3 clock)
      in let a2 = lossless (sends (steer 2 2 0).what k hop) (eqb 2 clock)
      in omega arith;
  sent = (
    λ k hop. omega arith,
    (λ k hop. omega arith, (λ k hop. omega arith, (λ k hop. omega arith, (λ k hop. omega arith, tt)))),
  );
  arrived = λ k hop. omega arith;
  commands = record {
    changes = refl;
    closes = λ s f. omega arith;
    retires = λ s h low. omega arith;
    no_other = λ s h over. omega arith;
    syncs = refl;
  };
} where
  steered : (k : ℕ)
      → counts unordered_events (λ what. steers_packet what k) ≡ cond (is_some (segment_of unordered k)) 1 0
  steered zero = refl
  steered (suc zero) = refl
  steered (suc (suc zero)) = refl
  steered (suc (suc (suc k))) =
      let a : eqb 1 (suc (suc (suc k))) ≡ false = ne_eqb _ _ (λ e. omega arith)
      in let b : eqb 2 (suc (suc (suc k))) ≡ false = ne_eqb _ _ (λ e. omega arith)
      in rw (a, b) (omega arith)

unordered_lacks : LacksTime unordered 2 unordered_events
unfolding has_flag is_opening flow_octets fnv_step fnv_1a flow_hash acceptable distance
    taken_reset comes_in_turn taken after_taken opened receiver_after
unordered_lacks = record {
  sound =
      quiet_sound _ _ (omega arith) tt refl tt (omega arith)
      (omega arith, omega arith, (omega arith, omega arith, tt))
      ((inl (refl, refl), omega arith), ((inl (refl, refl), omega arith), tt));
  account = unordered_account;
  run = (
    record {
      clock = omega arith;
      own = tt;
      may =
          record {
            segment = syn 1000 100;
            is_segment = refl;
            label = opening_label 1;
            is_label = refl;
            sent = refl;
            place = refl;
            verdict_is = refl;
          };
    },
    (
      record {
        clock = omega arith;
        own = tt;
        may =
            record {
              segment = syn 1001 100;
              is_segment = refl;
              label = opening_label 2;
              is_label = refl;
              sent = refl;
              place = refl;
              verdict_is = refl;
            };
      },
      (
        record { clock = omega arith; own = omega arith; may = (omega arith, refl, refl) },
        (
          record { clock = omega arith; own = omega arith; may = (omega arith, refl, refl) },
          (
            record { clock = omega arith; own = tt; may = (omega arith, omega arith) },
            tt,
          ),
        ),
      ),
    ),
  );
  steps = (
    (tt, refl, inr (refl, inr (inl (refl, refl)))),
    (
      (tt, refl, inr (refl, inr (inl (refl, refl)))),
      (
        (tt, refl, inl refl),
        (
          (tt, refl, inr (refl, refl, refl)),
          (
            (tt, tt, inr ((omega arith, omega arith), refl)),
            tt,
          ),
        ),
      ),
    ),
  );
  looked = looked;
} where
  looked : HaveLooked unordered unordered_events
  looked zero low = refl
  looked (suc m) low = absurd (omega arith)

unordered_refused : IsRefused unordered unordered_events
unfolding flow_octets fnv_step fnv_1a flow_hash
unordered_refused fates follows = let later : ◌≡◌ {A = ℕ} 1 0 = follows.0.1.1.0.timed.1 in absurd (omega arith)

-- a packet arrives at a shard after a later one of its mux
abbrev overtaken : Stage
overtaken = quiet [] (record_at 0 (data_of 1001 101 10) ∷ record_at 0 (data_of 1001 111 10) ∷ [])

abbrev overtaken_events : List Event
overtaken_events =
    arrive 5 1 Direct 2 (Reset NoPrevious)
    ∷ arrive 4 2 Direct 2 (Reset NoPrevious)
    ∷ steer 3 2 0
    ∷ steer 2 1 0
    ∷ switch 1 0 0
    ∷ []

overtaken_account : IsAccounted overtaken overtaken_events
overtaken_account = record {
  steered = steered;
  answered = ((tt, tt), ((tt, tt), ((refl, refl), ((refl, refl), ((tt, tt), tt)))));
  lost = λ k hop clock.
      let a2 = lossless (sends (steer 3 2 0).what k hop) (eqb 3 clock)
      in let a1 = lossless (sends (steer 2 1 0).what k hop) (eqb 2 clock)
      in omega arith;
  sent = (
    λ k hop. omega arith,
    (λ k hop. omega arith, (λ k hop. omega arith, (λ k hop. omega arith, (λ k hop. omega arith, tt)))),
  );
  arrived = λ k hop. omega arith;
  commands = record {
    changes = refl;
    closes = λ s f. omega arith;
    retires = λ s h low. omega arith;
    no_other = λ s h over. omega arith;
    syncs = refl;
  };
} where
  steered : (k : ℕ)
      → counts overtaken_events (λ what. steers_packet what k) ≡ cond (is_some (segment_of overtaken k)) 1 0
  steered zero = refl
  steered (suc zero) = refl
  steered (suc (suc zero)) = refl
  steered (suc (suc (suc k))) =
      let a : eqb 1 (suc (suc (suc k))) ≡ false = ne_eqb _ _ (λ e. omega arith)
      in let b : eqb 2 (suc (suc (suc k))) ≡ false = ne_eqb _ _ (λ e. omega arith)
      in rw (a, b) (omega arith)

overtaken_lacks : LacksTime overtaken 4 overtaken_events
unfolding has_flag is_opening flow_octets fnv_step fnv_1a flow_hash acceptable distance
    taken_reset comes_in_turn taken after_taken opened receiver_after
overtaken_lacks = record {
  sound =
      quiet_sound _ _ (omega arith) tt refl tt (omega arith)
      (omega arith, omega arith, (omega arith, omega arith, tt))
      ((inl (refl, refl), omega arith), ((inl (refl, refl), omega arith), tt));
  account = overtaken_account;
  run = (
    record {
      clock = omega arith;
      own = omega arith;
      may =
          record {
            segment = data_of 1001 101 10;
            is_segment = refl;
            label = opening_label 2;
            is_label = refl;
            sent = refl;
            place = refl;
            verdict_is = refl;
          };
    },
    (
      record {
        clock = omega arith;
        own = tt;
        may =
            record {
              segment = data_of 1001 111 10;
              is_segment = refl;
              label = opening_label 2;
              is_label = refl;
              sent = refl;
              place = refl;
              verdict_is = refl;
            };
      },
      (
        record { clock = omega arith; own = omega arith; may = (omega arith, refl, refl) },
        (
          record { clock = omega arith; own = omega arith; may = (omega arith, refl, refl) },
          (
            record { clock = omega arith; own = tt; may = (omega arith, omega arith) },
            tt,
          ),
        ),
      ),
    ),
  );
  steps = (
    (tt, refl, inl refl),
    (
      (tt, refl, inr (refl, inl (refl, refl))),
      (
        (tt, refl, inr (refl, refl, refl)),
        (
          (tt, refl, inr (refl, refl, refl)),
          (
            (tt, tt, inr ((omega arith, omega arith), refl)),
            tt,
          ),
        ),
      ),
    ),
  );
  looked = looked;
} where
  looked : HaveLooked overtaken overtaken_events
  looked zero low = refl
  looked (suc m) low = absurd (omega arith)

overtaken_refused : IsRefused overtaken overtaken_events
unfolding flow_octets fnv_step fnv_1a flow_hash
overtaken_refused fates follows = let later : ◌≡◌ {A = ℕ} 1 0 = follows.0.0.timed.0 in absurd (omega arith)

-- Histories that break a clock of a threaded run, one for each kind of event but the Lose, whose clock any run
-- states.
use Rattle.std.proofs.Common.{◌≡◌, ℕ, zero, suc, ◌+◌, ◌<◌, true, false, inl, inr, List, [], ◌∷◌, None, refl}
use Rattle.std.proofs.Common.{arith}
use Rattle.std.proofs.Common.{◌≤◌, cond, eqb}
use Rattle.std.specs.Prelude.{is_some}
use Rattle.std.proofs.lemmas.Bool.{ne_eqb}
use Rattle.bm_base.specs.declared.ids.ServerId.{ServerId}
use Rattle.bm_table.specs.Tables.{same_server}
use Rattle.bm_core.specs.Past.{segment_of, sends}
use Rattle.bm_core.specs.Accounts.{counts, count_of, steers_packet, retires_shard, wants_retire}
use Rattle.bm_merge.proofs.Worked.{lossless}
use Rattle.bm_merge.proofs.WorkedSyncs.{both_false, with_true}
use Rattle.bm_base.specs.declared.label.Hop.TheVariants.{Direct}
use Rattle.bm_base.specs.Segments.{has_flag, is_opening}
use Rattle.bm_table.specs.declared.plan.Retirement.TheVariants.{NotDrained}
use Rattle.bm_table.specs.declared.script.Command.TheVariants.{Close as CloseCommand, Retire as RetireCommand}
use Rattle.bm_table.specs.declared.script.Command.TheVariants.{Sync as SyncCommand}
use Rattle.bm_hash.specs.Buckets.{flow_octets, fnv_step, fnv_1a, flow_hash}
use Rattle.bm_seq.specs.Receivers.{acceptable, distance, taken_reset, comes_in_turn, taken, after_taken, opened}
use Rattle.bm_seq.specs.Receivers.{receiver_after}
use Rattle.bm_core.specs.declared.events.Event.{Event}
use Rattle.bm_core.specs.declared.events.Stage.{Stage}
use Rattle.bm_core.specs.declared.events.Verdict.TheVariants.{Accept}
use Rattle.bm_core.specs.declared.events.What.TheVariants.{Close, Sync}
use Rattle.bm_core.specs.Accounts.{fate_now, before}
use Rattle.bm_core.specs.Runs.{next_clock}
use Rattle.bm_core.specs.Threads.{HaveLooked}
use Rattle.bm_core.proofs.Worked.{server, syn, flow_from, record_at, at, publish, switch, steer, arrive}
use Rattle.bm_core.proofs.Worked.{retire}
use Rattle.bm_core.proofs.WorkedMoves.{moved}
use Rattle.bm_core.proofs.WorkedWhole.{moved_sound}
use Rattle.bm_merge.proofs.Broken.{IsAccounted, moment, quiet, quiet_sound, opening_label, LacksTime}
use Rattle.bm_merge.proofs.Broken.{IsRefused}

-- a Publish has a clock that is not the one after the controller's clock and its change's moment
abbrev published : Stage
published = record moved { capture = record { records = []; cut = None } }

abbrev published_events : List Event
published_events =
    publish 502 1
    ∷ switch 1 0 0
    ∷ []

published_account : IsAccounted published published_events
published_account = record {
  steered = steered;
  answered = ((tt, tt), ((tt, tt), tt));
  lost = λ k hop clock. omega arith;
  sent = (λ k hop. omega arith, (λ k hop. omega arith, tt));
  arrived = λ k hop. omega arith;
  commands = record {
    changes = refl;
    closes = λ s f. omega arith;
    retires = λ s h low. omega arith;
    no_other = λ s h over. omega arith;
    syncs = refl;
  };
} where
  steered : (k : ℕ)
      → counts published_events (λ what. steers_packet what k) ≡ cond (is_some (segment_of published k)) 1 0
  steered zero = refl
  steered (suc k) = omega arith

published_lacks : LacksTime published 1 published_events
unfolding has_flag is_opening flow_octets fnv_step fnv_1a flow_hash acceptable distance
    taken_reset comes_in_turn taken after_taken opened receiver_after
published_lacks = record {
  sound = record { script = moved_sound.script; capture = record { few = omega arith; rise = tt; fit = tt } };
  account = published_account;
  run = (
    record { clock = omega arith; own = tt; may = (refl, omega arith) },
    (
      record { clock = omega arith; own = tt; may = (omega arith, omega arith) },
      tt,
    ),
  );
  steps = (
    (refl, tt, inl refl),
    (
      (tt, tt, inr ((omega arith, omega arith), refl)),
      tt,
    ),
  );
  looked = looked;
} where
  looked : HaveLooked published published_events
  looked zero low = refl
  looked (suc m) low = absurd (omega arith)

published_refused : IsRefused published published_events
unfolding flow_octets fnv_step fnv_1a flow_hash
published_refused fates follows = let clock : ◌≡◌ {A = ℕ} 502 501 = follows.0.0.timed in absurd (omega arith)

-- a Sync has a clock that is not the one after the last clock and its moment
abbrev synced : Stage
synced = quiet (SyncCommand (moment 100) ∷ []) []

abbrev synced_events : List Event
synced_events =
    switch 103 0 0
    ∷ at 102 Sync
    ∷ switch 1 0 0
    ∷ []

synced_account : IsAccounted synced synced_events
synced_account = record {
  steered = steered;
  answered = ((tt, tt), ((tt, tt), ((tt, tt), tt)));
  lost = λ k hop clock. omega arith;
  sent = (λ k hop. omega arith, (λ k hop. omega arith, (λ k hop. omega arith, tt)));
  arrived = λ k hop. omega arith;
  commands = record {
    changes = refl;
    closes = λ s f. omega arith;
    retires = λ s h low. omega arith;
    no_other = λ s h over. omega arith;
    syncs = refl;
  };
} where
  steered : (k : ℕ) → counts synced_events (λ what. steers_packet what k) ≡ cond (is_some (segment_of synced k)) 1 0
  steered zero = refl
  steered (suc k) = omega arith

synced_lacks : LacksTime synced 1 synced_events
unfolding has_flag is_opening flow_octets fnv_step fnv_1a flow_hash acceptable distance
    taken_reset comes_in_turn taken after_taken opened receiver_after
synced_lacks = record {
  sound = quiet_sound _ _ (omega arith) (omega arith, omega arith, tt) refl (tt, tt) (omega arith) tt tt;
  account = synced_account;
  run = (
    record { clock = omega arith; own = omega arith; may = (omega arith, omega arith) },
    (
      record { clock = omega arith; own = tt; may = tt },
      (
        record { clock = omega arith; own = tt; may = (omega arith, omega arith) },
        tt,
      ),
    ),
  );
  steps = (
    (tt, tt, inr ((omega arith, omega arith), refl)),
    (
      (tt, tt, inl refl),
      (
        (tt, tt, inr ((omega arith, omega arith), refl)),
        tt,
      ),
    ),
  );
  looked = looked;
} where
  looked : HaveLooked synced synced_events
  looked zero low = refl
  looked (suc m) low = absurd (omega arith)

synced_refused : IsRefused synced synced_events
unfolding flow_octets fnv_step fnv_1a flow_hash
synced_refused fates follows = let clock : ◌≡◌ {A = ℕ} 102 101 = follows.0.1.0.timed.1 in absurd (omega arith)

-- a Close has a clock that is not the one after its shard's clock and the command's moment
abbrev closed : Stage
closed = quiet (CloseCommand (moment 10) (server 1) (flow_from 1000) ∷ []) []

abbrev closed_events : List Event
closed_events =
    at 12 (Close (server 1) (flow_from 1000) false)
    ∷ switch 1 0 0
    ∷ []

closed_account : IsAccounted closed closed_events
closed_account = record {
  steered = steered;
  answered = ((tt, tt), ((tt, tt), tt));
  lost = λ k hop clock. omega arith;
  sent = (λ k hop. omega arith, (λ k hop. omega arith, tt));
  arrived = λ k hop. omega arith;
  commands = record {
    changes = refl;
    closes = λ s f. omega arith;
    retires = λ s h low. omega arith;
    no_other = λ s h over. omega arith;
    syncs = refl;
  };
} where
  steered : (k : ℕ) → counts closed_events (λ what. steers_packet what k) ≡ cond (is_some (segment_of closed k)) 1 0
  steered zero = refl
  steered (suc k) = omega arith

closed_lacks : LacksTime closed 1 closed_events
unfolding has_flag is_opening flow_octets fnv_step fnv_1a flow_hash acceptable distance
    taken_reset comes_in_turn taken after_taken opened receiver_after
closed_lacks = record {
  sound = quiet_sound _ _ (omega arith) (omega arith, omega arith, tt) refl (refl, tt) (omega arith) tt tt;
  account = closed_account;
  run = (
    record { clock = omega arith; own = tt; may = refl },
    (
      record { clock = omega arith; own = tt; may = (omega arith, omega arith) },
      tt,
    ),
  );
  steps = (
    ((refl, refl), tt, inl refl),
    (
      (tt, tt, inr ((omega arith, omega arith), refl)),
      tt,
    ),
  );
  looked = looked;
} where
  looked : HaveLooked closed closed_events
  looked zero low = refl
  looked (suc m) low = absurd (omega arith)

closed_refused : IsRefused closed closed_events
unfolding flow_octets fnv_step fnv_1a flow_hash
closed_refused fates follows = let clock : ◌≡◌ {A = ℕ} 12 11 = follows.0.0.timed in absurd (omega arith)

-- a retire of four shards; the last of these retires at this clock, for this moment
abbrev retiring : Stage
retiring = quiet (RetireCommand (moment 10) (server 1) ∷ []) []

abbrev retiring_events : ℕ → ℕ → List Event
retiring_events clock at =
    retire clock 1 0 at NotDrained
    ∷ retire 11 1 3 10 NotDrained
    ∷ retire 11 1 2 10 NotDrained
    ∷ retire 11 1 1 10 NotDrained
    ∷ switch 1 0 0
    ∷ []

retiring_account : (clock at : ℕ) → IsAccounted retiring (retiring_events clock at)
retiring_account clock at = record {
  steered = steered;
  answered = ((tt, tt), ((tt, tt), ((tt, tt), ((tt, tt), ((tt, tt), tt)))));
  lost = λ k hop clock. omega arith;
  sent = (
    λ k hop. omega arith,
    (λ k hop. omega arith, (λ k hop. omega arith, (λ k hop. omega arith, (λ k hop. omega arith, tt)))),
  );
  arrived = λ k hop. omega arith;
  commands = record {
    changes = refl;
    closes = λ s f. omega arith;
    retires = retires;
    no_other = no_other;
    syncs = refl;
  };
} where
  steered : (k : ℕ)
      → counts (retiring_events clock at) (λ what. steers_packet what k) ≡ cond (is_some (segment_of retiring k)) 1 0
  steered zero = refl
  steered (suc k) = omega arith

  retires : (s : ServerId) (h : ℕ) → h < 4
      → counts (retiring_events clock at) (λ what. retires_shard what s h)
      ≡ count_of (λ c. wants_retire c s) retiring.script.commands
  retires s zero low =
      let a =
      with_true (same_server (server 1) s) true refl in let b =
      both_false (same_server (server 1) s) false refl in omega arith
  retires s (suc zero) low =
      let a =
      with_true (same_server (server 1) s) true refl in let b =
      both_false (same_server (server 1) s) false refl in omega arith
  retires s (suc (suc zero)) low =
      let a =
      with_true (same_server (server 1) s) true refl in let b =
      both_false (same_server (server 1) s) false refl in omega arith
  retires s (suc (suc (suc zero))) low =
      let a =
      with_true (same_server (server 1) s) true refl in let b =
      both_false (same_server (server 1) s) false refl in omega arith
  retires s (suc (suc (suc (suc h)))) low = absurd (omega arith)

  no_other : (s : ServerId) (h : ℕ) → 4 ≤ h → counts (retiring_events clock at) (λ what. retires_shard what s h) ≡ 0
  no_other s h over =
      let x0 = both_false (same_server (server 1) s) (eqb 0 h) (ne_eqb _ _ (λ e. omega arith))
      in let x1 = both_false (same_server (server 1) s) (eqb 1 h) (ne_eqb _ _ (λ e. omega arith))
      in let x2 = both_false (same_server (server 1) s) (eqb 2 h) (ne_eqb _ _ (λ e. omega arith))
      in let x3 = both_false (same_server (server 1) s) (eqb 3 h) (ne_eqb _ _ (λ e. omega arith))
      in omega arith

-- it keeps all but what is asked of that time
retiring_lacks : (clock at : ℕ) → 11 ≤ clock → at < clock → LacksTime retiring 4 (retiring_events clock at)
unfolding has_flag is_opening flow_octets fnv_step fnv_1a flow_hash acceptable distance
    taken_reset comes_in_turn taken after_taken opened receiver_after
retiring_lacks clock at late before = record {
  sound = quiet_sound _ _ (omega arith) (omega arith, omega arith, tt) refl (refl, tt) (omega arith) tt tt;
  account = retiring_account clock at;
  run = (
    record { clock = omega arith; own = tt; may = (omega arith, refl) },
    (
      record { clock = omega arith; own = tt; may = (omega arith, refl) },
      (
        record { clock = omega arith; own = tt; may = (omega arith, refl) },
        (
          record { clock = omega arith; own = tt; may = (omega arith, refl) },
          (
            record { clock = omega arith; own = tt; may = (omega arith, omega arith) },
            tt,
          ),
        ),
      ),
    ),
  );
  steps = (
    ((refl, refl), tt, inl refl),
    (
      ((refl, refl), tt, inr (refl, refl)),
      (
        ((refl, refl), tt, inr (refl, refl)),
        (
          ((refl, refl), tt, inr (refl, refl)),
          (
            (tt, tt, inr ((omega arith, omega arith), refl)),
            tt,
          ),
        ),
      ),
    ),
  );
  looked = looked;
} where
  looked : HaveLooked retiring (retiring_events clock at)
  looked zero low = refl
  looked (suc m) low = absurd (omega arith)

-- a shard is asked to retire at another moment than the command's
retired_at_lacks : LacksTime retiring 4 (retiring_events 12 11)
retired_at_lacks = retiring_lacks 12 11 (omega arith) (omega arith)

retired_at_refused : IsRefused retiring (retiring_events 12 11)
unfolding flow_octets fnv_step fnv_1a flow_hash
retired_at_refused fates follows = let moment : ◌≡◌ {A = ℕ} 11 10 = follows.0.0.timed.0 in absurd (omega arith)

-- a Retire has a clock that is not the one after its shard's clock and its moment
retired_late_lacks : LacksTime retiring 4 (retiring_events 12 10)
retired_late_lacks = retiring_lacks 12 10 (omega arith) (omega arith)

retired_late_refused : IsRefused retiring (retiring_events 12 10)
unfolding flow_octets fnv_step fnv_1a flow_hash
retired_late_refused fates follows = let clock : ◌≡◌ {A = ℕ} 12 11 = follows.0.0.timed.1 in absurd (omega arith)

-- a Switch has a clock that is not the one after its mux's clock, the version's Publish and the last Sync
abbrev switched : Stage
switched = quiet [] []

abbrev switched_events : List Event
switched_events =
    switch 2 0 0
    ∷ []

switched_account : IsAccounted switched switched_events
switched_account = record {
  steered = steered;
  answered = ((tt, tt), tt);
  lost = λ k hop clock. omega arith;
  sent = (λ k hop. omega arith, tt);
  arrived = λ k hop. omega arith;
  commands = record {
    changes = refl;
    closes = λ s f. omega arith;
    retires = λ s h low. omega arith;
    no_other = λ s h over. omega arith;
    syncs = refl;
  };
} where
  steered : (k : ℕ)
      → counts switched_events (λ what. steers_packet what k) ≡ cond (is_some (segment_of switched k)) 1 0
  steered zero = refl
  steered (suc k) = omega arith

switched_lacks : LacksTime switched 0 switched_events
unfolding has_flag is_opening flow_octets fnv_step fnv_1a flow_hash acceptable distance
    taken_reset comes_in_turn taken after_taken opened receiver_after
switched_lacks = record {
  sound = quiet_sound _ _ (omega arith) tt refl tt (omega arith) tt tt;
  account = switched_account;
  run = (
    record { clock = omega arith; own = tt; may = (omega arith, omega arith) },
    tt,
  );
  steps = (
    (tt, tt, inl refl),
    tt,
  );
  looked = looked;
} where
  looked : HaveLooked switched switched_events
  looked zero low = refl
  looked (suc m) low = absurd (omega arith)

switched_refused : IsRefused switched switched_events
unfolding flow_octets fnv_step fnv_1a flow_hash
switched_refused fates follows = let clock : ◌≡◌ {A = ℕ} 2 1 = follows.0.0.timed.1 in absurd (omega arith)

-- a Steer has a clock that is not the one after its mux's clock and the record's moment
abbrev steered_late : Stage
steered_late = quiet [] (record_at 0 (syn 1000 100) ∷ [])

abbrev steered_late_events : List Event
steered_late_events =
    arrive 4 1 Direct 1 Accept
    ∷ steer 3 1 0
    ∷ switch 1 0 0
    ∷ []

steered_late_account : IsAccounted steered_late steered_late_events
steered_late_account = record {
  steered = steered;
  answered = ((tt, tt), ((refl, refl), ((tt, tt), tt)));
  lost = λ k hop clock.
      let a1 = lossless (sends (steer 3 1 0).what k hop) (eqb 3 clock)
      in omega arith;
  sent = (λ k hop. omega arith, (λ k hop. omega arith, (λ k hop. omega arith, tt)));
  arrived = λ k hop. omega arith;
  commands = record {
    changes = refl;
    closes = λ s f. omega arith;
    retires = λ s h low. omega arith;
    no_other = λ s h over. omega arith;
    syncs = refl;
  };
} where
  steered : (k : ℕ)
      → counts steered_late_events (λ what. steers_packet what k) ≡ cond (is_some (segment_of steered_late k)) 1 0
  steered zero = refl
  steered (suc zero) = refl
  steered (suc (suc k)) =
      let a : eqb 1 (suc (suc k)) ≡ false = ne_eqb _ _ (λ e. omega arith) in rw a (omega arith)

steered_late_lacks : LacksTime steered_late 1 steered_late_events
unfolding has_flag is_opening flow_octets fnv_step fnv_1a flow_hash acceptable distance
    taken_reset comes_in_turn taken after_taken opened receiver_after
steered_late_lacks = record {
  sound =
      quiet_sound _ _ (omega arith) tt refl tt (omega arith) (omega arith, omega arith, tt)
      ((inl (refl, refl), omega arith), tt);
  account = steered_late_account;
  run = (
    record {
      clock = omega arith;
      own = tt;
      may =
          record {
            segment = syn 1000 100;
            is_segment = refl;
            label = opening_label 1;
            is_label = refl;
            sent = refl;
            place = refl;
            verdict_is = refl;
          };
    },
    (
      record { clock = omega arith; own = omega arith; may = (omega arith, refl, refl) },
      (
        record { clock = omega arith; own = tt; may = (omega arith, omega arith) },
        tt,
      ),
    ),
  );
  steps = (
    (tt, refl, inr (refl, inl (refl, refl))),
    (
      (tt, refl, inl refl),
      (
        (tt, tt, inr ((omega arith, omega arith), refl)),
        tt,
      ),
    ),
  );
  looked = looked;
} where
  looked : HaveLooked steered_late steered_late_events
  looked zero low = refl
  looked (suc m) low = absurd (omega arith)

steered_late_refused : IsRefused steered_late steered_late_events
unfolding flow_octets fnv_step fnv_1a flow_hash
steered_late_refused fates follows = let clock : ◌≡◌ {A = ℕ} 3 2 = follows.0.1.0.timed.2 in absurd (omega arith)

-- an Arrive has a clock that is not the one after its shard's clock and a due moment of its copies
abbrev arrived_early : Stage
arrived_early = quiet [] (record_at 0 (syn 1000 100) ∷ [])

abbrev arrived_early_events : List Event
arrived_early_events =
    arrive 2 1 Direct 1 Accept
    ∷ steer 2 1 0
    ∷ switch 1 0 0
    ∷ []

arrived_early_account : IsAccounted arrived_early arrived_early_events
arrived_early_account = record {
  steered = steered;
  answered = ((tt, tt), ((refl, refl), ((tt, tt), tt)));
  lost = λ k hop clock.
      let a1 = lossless (sends (steer 2 1 0).what k hop) (eqb 2 clock)
      in omega arith;
  sent = (λ k hop. omega arith, (λ k hop. omega arith, (λ k hop. omega arith, tt)));
  arrived = λ k hop. omega arith;
  commands = record {
    changes = refl;
    closes = λ s f. omega arith;
    retires = λ s h low. omega arith;
    no_other = λ s h over. omega arith;
    syncs = refl;
  };
} where
  steered : (k : ℕ)
      → counts arrived_early_events (λ what. steers_packet what k) ≡ cond (is_some (segment_of arrived_early k)) 1 0
  steered zero = refl
  steered (suc zero) = refl
  steered (suc (suc k)) =
      let a : eqb 1 (suc (suc k)) ≡ false = ne_eqb _ _ (λ e. omega arith) in rw a (omega arith)

arrived_early_lacks : LacksTime arrived_early 2 arrived_early_events
unfolding has_flag is_opening flow_octets fnv_step fnv_1a flow_hash acceptable distance
    taken_reset comes_in_turn taken after_taken opened receiver_after
arrived_early_lacks = record {
  sound =
      quiet_sound _ _ (omega arith) tt refl tt (omega arith) (omega arith, omega arith, tt)
      ((inl (refl, refl), omega arith), tt);
  account = arrived_early_account;
  run = (
    record {
      clock = omega arith;
      own = tt;
      may =
          record {
            segment = syn 1000 100;
            is_segment = refl;
            label = opening_label 1;
            is_label = refl;
            sent = refl;
            place = refl;
            verdict_is = refl;
          };
    },
    (
      record { clock = omega arith; own = omega arith; may = (omega arith, refl, refl) },
      (
        record { clock = omega arith; own = tt; may = (omega arith, omega arith) },
        tt,
      ),
    ),
  );
  steps = (
    (tt, refl, inl refl),
    (
      (tt, refl, inr (refl, refl, refl)),
      (
        (tt, tt, inr ((omega arith, omega arith), refl)),
        tt,
      ),
    ),
  );
  looked = looked;
} where
  looked : HaveLooked arrived_early arrived_early_events
  looked zero low = refl
  looked (suc m) low = absurd (omega arith)

arrived_early_refused : IsRefused arrived_early arrived_early_events
unfolding flow_octets fnv_step fnv_1a flow_hash
arrived_early_refused fates follows = elim follows.0.0.timed.1 [
  | inl due ↦ let clock : ◌≡◌ {A = ℕ} 2 (next_clock 0 (2 + (fate_now (before fates)).delay)) =
      due.1 in absurd (omega arith)
  | inr others ↦ elim others [ inl due ↦ absurd (let bad : false ≡ true = due.0 in cc) | inr none ↦ absurd none ]
]

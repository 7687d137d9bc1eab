-- A threaded run of a connection whose bucket moves: the mux looks at the board before the change and not again, so it
-- labels both packets with the opening table.
use Rattle.std.proofs.Common.{zero, suc, inl, List, [], ◌∷◌, None, refl, arith}
use Rattle.bm_base.specs.declared.label.Hop.TheVariants.{Direct}
use Rattle.bm_base.specs.declared.label.Label.{Label}
use Rattle.bm_base.specs.declared.receive.Taken.TheVariants.{Advance}
use Rattle.bm_base.specs.Segments.{has_flag, is_opening}
use Rattle.bm_hash.specs.Buckets.{flow_octets, fnv_step, fnv_1a, flow_hash}
use Rattle.bm_seq.specs.Receivers.{acceptable, distance, taken_reset, comes_in_turn, taken, after_taken, opened}
use Rattle.bm_seq.specs.Receivers.{receiver_after}
use Rattle.bm_core.specs.declared.events.Event.{Event}
use Rattle.bm_core.specs.declared.events.Verdict.TheVariants.{Accept, Process}
use Rattle.bm_core.specs.Runs.{Run}
use Rattle.bm_core.specs.Threads.{HaveLooked, FollowsInThreads}
use Rattle.bm_core.proofs.Worked.{server, syn, data_of, publish, switch, steer, arrive}
use Rattle.bm_core.proofs.WorkedMoves.{moved}

-- the newest event first
abbrev threaded : List Event
threaded =
    arrive 1002 2 Direct 1 (Process Advance)
    ∷ steer 1001 2 0
    ∷ publish 501 1
    ∷ arrive 3 1 Direct 1 Accept
    ∷ steer 2 1 0
    ∷ switch 1 0 0
    ∷ []

abbrev opening_label : Label
opening_label =
    record {
      mux = record { 0 = 0 };
      version = record { 0 = 0 };
      entry =
          record { cur = server 1; prev = None; older = None };
    }

threaded_run : Run moved threaded
unfolding has_flag is_opening flow_octets fnv_step fnv_1a flow_hash acceptable distance taken_reset comes_in_turn taken
    after_taken opened receiver_after
threaded_run = (
  record {
    clock = omega arith;
    own = omega arith;
    may = record {
      segment = data_of 1000 101 10;
      is_segment = refl;
      label = opening_label;
      is_label = refl;
      sent =
          refl;
      place = refl;
      verdict_is = refl;
    };
  },
  (
    record { clock = omega arith; own = omega arith; may = (omega arith, refl, refl) },
    (
      record { clock = omega arith; own = tt; may = (refl, omega arith) },
      (
        record {
          clock = omega arith;
          own = tt;
          may = record {
            segment = syn 1000 100;
            is_segment = refl;
            label = opening_label;
            is_label = refl;
            sent =
                refl;
            place = refl;
            verdict_is = refl;
          };
        },
        (
          record { clock = omega arith; own = omega arith; may = (omega arith, refl, refl) },
          (record { clock = omega arith; own = tt; may = (omega arith, omega arith) }, tt),
        ),
      ),
    ),
  ),
)

looked : HaveLooked moved threaded
looked zero below = refl
looked (suc m) below = absurd (omega arith)

-- it follows the script, with one copy of each sending and no delay
threaded_follows : FollowsInThreads [] moved threaded
unfolding has_flag is_opening flow_octets fnv_step fnv_1a flow_hash acceptable distance taken_reset comes_in_turn taken
    after_taken opened receiver_after
threaded_follows = (
  (
    record { command = tt; phase = refl; timed = (refl, inl (refl, refl)) },
    (
      record { command = tt; phase = refl; timed = (refl, refl, refl) },
      (
        record { command = refl; phase = tt; timed = refl },
        (
          record { command = tt; phase = refl; timed = (refl, inl (refl, refl)) },
          (
            record { command = tt; phase = refl; timed = (refl, refl, refl) },
            (record { command = tt; phase = tt; timed = ((omega arith, omega arith), refl) }, tt),
          ),
        ),
      ),
    ),
  ),
  looked,
)

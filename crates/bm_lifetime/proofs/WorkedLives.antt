-- Worked lifetimes: that the law speaks of some packets, that three moves allow no longer lifetime, and that the timeout
-- allows none longer by more than the slack.
use Rattle.std.proofs.Common.{◌≡◌, ℕ, ◌^◌, zero, suc, true, false, List, [], ◌∷◌, Some, None, ap, refl, sym, arith}
use Rattle.std.proofs.lemmas.Bool.{both_ways}
use Rattle.std.proofs.lemmas.Option.{same_Some}
use Rattle.std.specs.Prelude.{reverse}
use Rattle.bm_base.specs.declared.flow.Segment.{Segment}
use Rattle.bm_base.specs.declared.label.Hop.TheVariants.{Direct, Chained, Twice}
use Rattle.bm_base.specs.declared.receive.Taken.TheVariants.{Advance}
use Rattle.bm_base.specs.Segments.{has_flag, is_opening}
use Rattle.bm_table.specs.declared.plan.Change.{Change}
use Rattle.bm_table.specs.declared.plan.Kind.TheVariants.{Shift}
use Rattle.bm_table.specs.declared.script.Script.{Script}
use Rattle.bm_table.specs.declared.script.Command.TheVariants.{Change as ChangeCommand}
use Rattle.bm_table.specs.declared.setting.RouteKind.TheVariants.{Turn}
use Rattle.bm_table.specs.Settings.{plain_setting}
use Rattle.bm_hash.specs.Buckets.{flow_octets, fnv_step, fnv_1a, flow_hash}
use Rattle.bm_seq.specs.Receivers.{acceptable, distance, taken_reset, comes_in_turn, taken, after_taken, opened}
use Rattle.bm_seq.specs.Receivers.{receiver_after}
use Rattle.bm_core.specs.declared.events.Cause.TheVariants.{MovedThrice, StaleMux}
use Rattle.bm_core.specs.declared.events.History.{History}
use Rattle.bm_core.specs.declared.events.Stage.{Stage}
use Rattle.bm_core.specs.declared.events.Verdict.TheVariants.{Accept, Process, Forward, Reset}
use Rattle.bm_core.specs.declared.events.Why.TheVariants.{ChainExpired, ChainedUnknown, NoPrevious}
use Rattle.bm_core.specs.Histories.{IsReplay}
use Rattle.bm_core.specs.Laws.{At, IsUnbrokenArrival}
use Rattle.bm_core.specs.Runs.{past_at}
use Rattle.bm_core.specs.Rules.{RouteBy, RuleBy, setting_fate, setting_mux}
use Rattle.bm_core.proofs.Ended.{played_replay}
use Rattle.bm_core.proofs.Playing.{mux_within, next_event, play}
use Rattle.bm_core.proofs.Worked.{arrive, change_at, data_of, move, newest_broken, publish, record_at, replayed}
use Rattle.bm_core.proofs.Worked.{server, stage_of, steer, switch, syn}
use Rattle.bm_core.proofs.WorkedMoves.{moved}
use Rattle.bm_core.proofs.WorkedWhole.{moved_sound}
use Rattle.bm_lifetime.proofs.Guaranteed.{guaranteed_law}
use Rattle.bm_lifetime.specs.Lifetime.{explained, lifetime, lifetime_of}
use Rattle.bm_lifetime.specs.Worth.{with_wait}
use Rattle.bm_lifetime.specs.Young.{AreOpenings, IsYoungArrival}

-- THE LAW APPLIES: a packet that is forwarded after a move

-- all of the timeout of 240 seconds but 12,259,840 nanoseconds
moved_life : lifetime moved.script ≡ Some 239987740160
moved_life = refl

abbrev history : History
history = record { stage = moved; events = reverse (replayed moved 9) }

moved_ends : next_event (setting_mux moved.script.setting) (setting_fate moved.script.setting) moved (replayed moved 9)
    ≡ None
unfolding replayed play has_flag is_opening flow_octets fnv_step fnv_1a flow_hash acceptable distance taken_reset
    comes_in_turn taken after_taken opened receiver_after
moved_ends = refl

moved_replay : IsReplay (RouteBy (setting_mux moved.script.setting)) (RuleBy (setting_fate moved.script.setting))
    history
unfolding replayed
moved_replay =
    played_replay (setting_mux moved.script.setting) (setting_fate moved.script.setting) moved 9 moved_sound
    (mux_within moved moved_sound) moved_ends

data_plain : is_opening (data_of 1000 101 10) ≡ false
unfolding has_flag is_opening
data_plain = refl

-- only the first packet opens a connection
one_opens : AreOpenings moved (past_at history 5) (data_of 1000 101 10).flow 0 100 (server 1)
unfolding replayed play has_flag is_opening flow_octets fnv_step fnv_1a flow_hash acceptable distance taken_reset
    comes_in_turn taken after_taken opened receiver_after
one_opens zero s is flow opens sent = absurd (cc)
one_opens (suc zero) s is flow opens sent =
    (omega arith, ap (λ (x : Segment). x.seq) (sym (same_Some _ _ is)), refl)
one_opens (suc (suc zero)) s is flow opens sent =
    absurd (let plain : is_opening s ≡ false = rw (sym (same_Some _ _ is)) data_plain in both_ways _ plain opens)
one_opens (suc (suc (suc k))) s is flow opens sent = absurd (cc)

moved_young : At history 5 IsYoungArrival
unfolding replayed play has_flag is_opening flow_octets fnv_step fnv_1a flow_hash acceptable distance taken_reset
    comes_in_turn taken after_taken opened receiver_after
moved_young = (
  0,
  record {
    segment = data_of 1000 101 10;
    is_segment = refl;
    plain = data_plain;
    accepted = refl;
    start = 100;
    home = server 1;
    opened = one_opens;
    lives = refl;
    age = omega arith;
  },
)

-- so the law says that no premise is broken there
moved_kept : At history 5 IsUnbrokenArrival
moved_kept = guaranteed_law history 5 moved_replay moved_young

-- NO LONGER, BY THREE MOVES: a connection that lives one nanosecond longer is broken

-- bucket 4 moves from server 1 to 2, 3 and 4, and the first and the third move are 200 nanoseconds apart
abbrev thrice : Stage
thrice =
    stage_of (record plain_setting { servers = server 1 ∷ server 2 ∷ server 3 ∷ server 4 ∷ [] })
    (change_at 100 Shift (move 4 2 ∷ [])
    ∷ change_at 200 Shift (move 4 3 ∷ [])
    ∷ change_at 300 Shift (move 4 4 ∷ [])
    ∷ [])
    (ChangeCommand (record { 0 = 1 }) ∷ ChangeCommand (record { 0 = 2 }) ∷ ChangeCommand (record { 0 = 3 }) ∷ [])
    (record_at 99 (syn 1000 100) ∷ record_at 299 (data_of 1000 101 10) ∷ record_at 300 (data_of 1000 111 10) ∷ [])

thrice_life : lifetime thrice.script ≡ Some 200
thrice_life = refl

-- the other buckets don't move
thrice_others : lifetime_of thrice.script 3 ≡ None
thrice_others = refl

-- the packet 200 nanoseconds after the opening one is served, the one 201 nanoseconds after it is reset
thrice_events : reverse (replayed thrice 16) ≡
    steer 100 1 0
    ∷ publish 101 1
    ∷ switch 102 0 1
    ∷ arrive 103 1 Direct 1 Accept
    ∷ publish 201 2
    ∷ switch 202 0 2
    ∷ steer 300 2 0
    ∷ publish 301 3
    ∷ switch 302 0 3
    ∷ arrive 303 2 Direct 3 (Forward (server 2))
    ∷ steer 304 3 0
    ∷ arrive 305 2 Chained 2 (Forward (server 1))
    ∷ arrive 306 3 Direct 4 (Forward (server 3))
    ∷ arrive 307 2 Twice 1 (Process Advance)
    ∷ arrive 308 3 Chained 3 (Forward (server 2))
    ∷ arrive 309 3 Twice 2 (Reset ChainedUnknown)
    ∷ []
unfolding replayed play has_flag is_opening flow_octets fnv_step fnv_1a flow_hash acceptable distance taken_reset
    comes_in_turn taken after_taken opened receiver_after
thrice_events = refl

thrice_broken : newest_broken thrice (replayed thrice 16) ≡ MovedThrice ∷ []
unfolding replayed play has_flag is_opening flow_octets fnv_step fnv_1a flow_hash acceptable distance taken_reset
    comes_in_turn taken after_taken opened receiver_after
thrice_broken = refl

-- NO LONGER, BY THE TIMEOUT: with a timeout of a second and one move, a connection that lives a second is broken

abbrev expires : Stage
expires =
    stage_of (record plain_setting { timeout = 10 ^ 9 }) (change_at 500 Shift (move 4 2 ∷ []) ∷ [])
    (ChangeCommand (record { 0 = 1 }) ∷ []) (record_at 499 (syn 1000 100) ∷ record_at 1000000499 (data_of 1000 101 10) ∷ [])

expires_life : lifetime expires.script ≡ Some 987740160
expires_life = refl

expires_events : reverse (replayed expires 9) ≡
    steer 500 1 0
    ∷ publish 501 1
    ∷ switch 502 0 1
    ∷ arrive 503 1 Direct 1 Accept
    ∷ steer 1000000500 2 0
    ∷ arrive 1000000501 2 Direct 2 (Reset ChainExpired)
    ∷ []
unfolding replayed play has_flag is_opening flow_octets fnv_step fnv_1a flow_hash acceptable distance taken_reset
    comes_in_turn taken after_taken opened receiver_after
expires_events = refl

-- NO TIME AT ALL: where muxes with different lags take turns, the next packet may meet an older table

abbrev turns : Stage
turns =
    stage_of (record plain_setting { muxes = 2; route = Turn; lags = 1000 ∷ 0 ∷ [] })
    (change_at 500 Shift (move 4 2 ∷ []) ∷ []) (ChangeCommand (record { 0 = 1 }) ∷ [])
    (record_at 500 (syn 1000 100) ∷ record_at 600 (data_of 1000 101 10) ∷ [])

turns_life : lifetime turns.script ≡ Some 0
turns_life = refl

-- mux 1 steers the opening packet after the move, and mux 0 the next one before it
turns_events : reverse (replayed turns 9) ≡
    publish 501 1
    ∷ switch 502 1 1
    ∷ steer 503 1 1
    ∷ arrive 504 1 Direct 2 Accept
    ∷ steer 601 2 0
    ∷ arrive 602 2 Direct 1 (Reset NoPrevious)
    ∷ switch 1501 0 1
    ∷ []
unfolding replayed play has_flag is_opening flow_octets fnv_step fnv_1a flow_hash acceptable distance taken_reset
    comes_in_turn taken after_taken opened receiver_after
turns_events = refl

turns_broken : newest_broken turns (replayed turns 6) ≡ StaleMux ∷ []
unfolding replayed play has_flag is_opening flow_octets fnv_step fnv_1a flow_hash acceptable distance taken_reset
    comes_in_turn taken after_taken opened receiver_after
turns_broken = refl

-- WHAT BOUNDS A LIFETIME

-- the script with these changes, a timeout and no commands
abbrev script_of : ℕ → List Change → Script
script_of timeout changes = (stage_of (record plain_setting { timeout = timeout }) changes [] []).script

-- without changes nothing does
no_change : explained (script_of (10 ^ 9) []) ≡ None
no_change = refl

-- one move is bounded by the timeout alone
one_move : explained expires.script ≡ Some (record {
  time = 987740160;
  by_timeout = true;
  by_moves = None;
  next = None;
  slack = 12259840;
})
one_move = refl

-- the next bound above that by three moves is the timeout's
three_moves : explained thrice.script ≡ Some (record {
  time = 200;
  by_timeout = false;
  by_moves = Some (record { first = 1; third = 3; buckets = 1; lowest = 4 });
  next = Some 239987740160;
  slack = 12259840;
})
three_moves = refl

-- Buckets 4 and 6 have three moves 200 nanoseconds apart, bucket 4 twice, and bucket 5 has three 250 apart.
several_buckets : explained (script_of (10 ^ 9) (
    change_at 100 Shift (move 4 2 ∷ move 5 2 ∷ move 6 2 ∷ [])
    ∷ change_at 200 Shift (move 4 1 ∷ move 5 1 ∷ [])
    ∷ change_at 300 Shift (move 4 2 ∷ move 6 1 ∷ [])
    ∷ change_at 300 Shift (move 6 2 ∷ [])
    ∷ change_at 350 Shift (move 5 2 ∷ [])
    ∷ change_at 400 Shift (move 4 1 ∷ [])
    ∷ [])) ≡ Some (record {
      time = 200;
      by_timeout = false;
      by_moves = Some (record { first = 1; third = 3; buckets = 2; lowest = 4 });
      next = Some 250;
      slack = 12259840;
    })
several_buckets = refl

-- both bound it: three moves are as far apart as the timeout leaves
both_bound : explained (script_of (10 ^ 9) (
    change_at 500 Shift (move 4 2 ∷ [])
    ∷ change_at 600 Shift (move 4 1 ∷ [])
    ∷ change_at 987740660 Shift (move 4 2 ∷ [])
    ∷ [])) ≡ Some (record {
      time = 987740160;
      by_timeout = true;
      by_moves = Some (record { first = 1; third = 3; buckets = 1; lowest = 4 });
      next = None;
      slack = 12259840;
    })
both_bound = refl

-- neither does, where muxes with different lags take turns
by_turns : explained turns.script ≡ Some (record {
  time = 0;
  by_timeout = false;
  by_moves = None;
  next = None;
  slack = 12260840;
})
by_turns = refl

-- WHY `laws::longer_wait` LEAVES OUT CHANGES AT MOMENT 0: one isn't counted until it comes later

abbrev at_once : Script
at_once = script_of (10 ^ 9) (change_at 0 Shift (move 4 2 ∷ []) ∷ [])

at_once_life : lifetime at_once ≡ None
at_once_life = refl

later_life : lifetime (with_wait at_once 0 1) ≡ Some 987740160
later_life = refl

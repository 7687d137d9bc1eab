-- How a replay begins, and what it is at its end.
use Rattle.std.proofs.Common.{◌≡◌, ◌≤◌, List, [], Option, None, length, refl, sym, ap, subst, ◌∙◌, arith}
use Rattle.std.specs.Prelude.{reverse}
use Rattle.std.proofs.lemmas.List.{length-reverse}
use Rattle.bm_core.specs.declared.events.Event.{Event}
use Rattle.bm_core.specs.declared.events.Stage.{Stage}
use Rattle.bm_core.specs.declared.schedule.Due.{Due}
use Rattle.bm_core.specs.Accounts.{Routes, Rules}
use Rattle.bm_core.specs.Histories.{IsReplay}
use Rattle.bm_core.specs.Schedule.{IsOver, arrival_due, can_come, least, wire}
use Rattle.bm_core.specs.Stages.{IsSound}
use Rattle.bm_core.proofs.Accounted.{accounted}
use Rattle.bm_core.proofs.Existing.{length_law}
use Rattle.bm_replay.specs.declared.player.Loss.{Loss}
use Rattle.bm_replay.specs.declared.player.Player.{Player}
use Rattle.bm_replay.specs.declared.coming.Coming.{Coming}
use Rattle.bm_replay.specs.declared.coming.Coming.TheVariants.{Over}
use Rattle.bm_replay.specs.Inside.Players.{IsNew, soonest_command, coming_for}
use Rattle.bm_replay.specs.Inside.Playing.{IsPlaying, KeepsState, lost_call, past_of}
use Rattle.bm_replay.specs.Inside.Shards.{IsShardOf, KeepsShards, all_shards}
use Rattle.bm_shard.specs.States.{State}
use Rattle.bm_replay.proofs.ShardStates.{first_at, length_all}
use Rattle.bm_replay.specs.Inside.Comings.{sooner_of}
use Rattle.bm_replay.proofs.NextEvents.{IsComingOf}
use Rattle.bm_replay.proofs.Unchanged.{switches_are}
use Rattle.bm_replay.proofs.LeastOfTwo.{least_none}
use Rattle.bm_replay.proofs.ReadyEvents.{come_least, state_comes}

first_shards : (stage : Stage) → KeepsShards stage [] (all_shards stage.script.setting 1025)
first_shards stage = record {
  lie = let l = length_all stage.script.setting 1025 in omega arith;
  each = λ s h few below. subst (λ (x : State). IsShardOf stage [] s h x)
      (sym (first_at stage.script.setting 1025 s h (omega arith) below))
      (record {
        shard = refl;
        turns = record { left = record { held = λ f. refl; retired = refl }; once = tt };
        clock = omega arith;
      });
}

new_state : (stage : Stage) (p : Player) → IsNew stage p → p.stage ≡ stage → KeepsState [] [] p
new_state stage p new about = record {
  clock = new.clock;
  loss = ap (λ (o : Option Loss). lost_call o) new.loss;
  flights = rw new.wire tt;
  published = new.published;
  muxes = rw about (record {
    count = new.muxes;
    tables = new.tables;
    versions = λ m. refl;
    soonest =
        new.switch
        ∙ ap (λ (l : List Due). least l)
        (switches_are stage [] p.muxes new.tables stage.script.setting.muxes (omega arith));
  });
  queues = rw about
      (record { due_closes = new.close; due_retires = new.retire; due_syncs = new.sync; due_packets = new.packet });
  shards = rw about (rw new.shards (first_shards stage));
  packets = rw (about, new.cleared) (record {
    count = new.packets.count;
    each = λ i r behind is. new.packets.each i r is;
    under_way = rw new.wire tt;
    behind = new.behind;
    within = new.within;
  });
}

pub begins : (R : Routes) (F : Rules) (stage : Stage) (p : Player) → IsSound stage → IsNew stage p → IsPlaying R F p
begins R F stage p sound new =
    let past : past_of p ≡ [] = ap (λ (l : List Event). reverse l) new.events
    in record {
      fates = [];
      played = rw (new.about, past)
          (record { sound = sound; plan = new.plan; run = tt; follows = tt; answered = tt; soon = tt });
      state = subst (λ (l : List Event). KeepsState [] l p) (sym past) (new_state stage p new new.about);
    }

-- nothing can come where the state is over
pub ends : (R : Routes) (F : Rules) (p : Player) → IsPlaying R F p → p.loss ≡ None → coming_for p ≡ Over
    → IsReplay R F (record { stage = p.stage; events = p.events })
ends R F p playing none over = record {
  run = record { sound = playing.played.sound; run = playing.played.run };
  fates = playing.fates;
  follows = playing.played.follows;
  over = is_over;
  account =
      accounted R F playing.fates p.stage (past_of p) playing.played.run playing.played.follows is_over
      playing.played.answered;
} where
  come : IsComingOf (soonest_command p) (wire playing.fates (past_of p)) p.packet.head Over
  come = subst (λ (t : Coming). IsComingOf (soonest_command p) (wire playing.fates (past_of p)) p.packet.head t) over
      (state_comes playing.fates (past_of p) p playing.state)

  no_least : least (can_come (wire playing.fates (past_of p)) p.stage (past_of p)) ≡ None
  no_least =
      come_least playing.fates (past_of p) p playing.state
      ∙ (λ i. sooner_of (sooner_of (come.0 i) (least (arrival_due (come.1 i)))) (come.2 i))

  is_over : IsOver playing.fates p.stage (past_of p)
  is_over = record {
    none = least_none (can_come (wire playing.fates (past_of p)) p.stage (past_of p)) no_least;
    no_loss_due = sym playing.state.loss ∙ ap (λ (o : Option Loss). lost_call o) none;
  }

-- a replay on its way has few events
pub few_events : (R : Routes) (F : Rules) (p : Player) → IsPlaying R F p → length p.events ≤ 12259840
few_events R F p playing =
    let few : length (past_of p) ≤ 12259840 =
    length_law playing.fates p.stage (past_of p) playing.played.sound playing.played.follows playing.played.soon
    in let same : length (past_of p) ≡ length p.events = length-reverse p.events
    in omega arith

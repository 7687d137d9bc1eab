-- Logs that don't agree, each for one reason.
use Rattle.std.proofs.Common.{◌≡◌, ◌<◌, ◌≤◌, true, false, List, [], ◌∷◌, arith}
use Rattle.bm_base.specs.declared.label.Hop.TheVariants.{Direct, Chained}
use Rattle.bm_base.specs.declared.receive.Taken.TheVariants.{Advance}
use Rattle.bm_table.specs.declared.plan.Kind.TheVariants.{Drain}
use Rattle.bm_table.specs.declared.plan.Retirement.TheVariants.{Done}
use Rattle.bm_table.specs.declared.script.Command.TheVariants.{Change as ChangeCommand}
use Rattle.bm_table.specs.Settings.{plain_setting}
use Rattle.bm_core.specs.declared.events.Event.{Event}
use Rattle.bm_core.specs.declared.events.Stage.{Stage}
use Rattle.bm_core.specs.declared.events.Verdict.TheVariants.{Accept, Process}
use Rattle.bm_core.specs.Runs.Actor.{Controller, MuxOf, ShardOf}
use Rattle.bm_core.proofs.Worked.{server, syn, record_at, change_at, stage_of, publish, switch, steer, arrive}
use Rattle.bm_core.proofs.Worked.{retire}
use Rattle.bm_core.proofs.WorkedMoves.{moved}
use Rattle.bm_merge.specs.Merges.{Log, Agree}
use Rattle.bm_merge.proofs.Broken.{quiet}
use Rattle.bm_merge.proofs.Worked.{h}

abbrev of_mux : List Event → List Log
of_mux events = record { actor = Controller; events = [] } ∷ record { actor = MuxOf 0; events = events } ∷ []

-- one packet, which arrives at server 1
abbrev one_packet : Stage
one_packet = quiet [] (record_at 0 (syn 1000 100) ∷ [])

-- a chained copy comes, and no server forwarded its packet
abbrev unsent : List Log
unsent =
    record { actor = Controller; events = publish 501 1 ∷ [] }
    ∷ record { actor = MuxOf 0; events = steer 1001 2 0 ∷ switch 502 0 1 ∷ steer 2 1 0 ∷ switch 1 0 0 ∷ [] }
    ∷ record {
      actor = ShardOf 1 h;
      events = arrive 1003 2 Chained 1 (Process Advance) ∷ arrive 3 1 Direct 1 Accept ∷ [];
    }
    ∷ []

unsent_refused : Agree moved unsent → ⊥
unsent_refused agree = let bad : false ≡ true = agree.entries.1.1.0.0.sent in absurd (cc)

-- a packet is steered twice
twice_refused : Agree one_packet (of_mux (steer 3 1 0 ∷ steer 2 1 0 ∷ switch 1 0 0 ∷ [])) → ⊥
twice_refused agree = let few : 2 ≤ 1 = agree.once 1 in absurd (omega arith)

-- two events of a mux have one clock
tied_refused : Agree one_packet (of_mux (steer 2 1 0 ∷ switch 2 0 0 ∷ [])) → ⊥
tied_refused agree = let rises : 2 < 2 = agree.entries.1.0.0.own in absurd (omega arith)

-- server 2 is drained at 500
abbrev drained : Stage
drained = stage_of plain_setting (change_at 500 (Drain (server 2)) [] ∷ []) (ChangeCommand (record { 0 = 1 }) ∷ []) []

-- a shard of it retires at a clock below that of the Publish
abbrev foreseen : List Log
foreseen =
    record { actor = Controller; events = publish 501 1 ∷ [] }
    ∷ record { actor = ShardOf 2 0; events = retire 401 2 0 400 Done ∷ [] }
    ∷ []

foreseen_refused : Agree drained foreseen → ⊥
foreseen_refused agree = let bad : false ≡ true = agree.entries.1.0.0.judged.1.0 in absurd (cc)

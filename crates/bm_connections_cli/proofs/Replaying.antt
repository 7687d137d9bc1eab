-- The replays of a stage and of its base.
use Rattle.std.proofs.Common.{◌≡◌, ℕ, ◌+◌, ◌<◌, Bool, true, List, [], ◌∷◌, length, sym, subst, ap, ap₂, map, filter, refl, ◌∙◌, arith}
use Rattle.std.specs.List.{AllByRecursion}
use Rattle.bm_core.specs.declared.events.History.{History}
use Rattle.bm_core.specs.declared.events.Stage.{Stage}
use Rattle.bm_link.specs.Fits.{ArePackets}
use Rattle.bm_base.specs.declared.ids.ServerId.{ServerId}
use Rattle.bm_core.specs.Stages.{IsSound}
use Rattle.bm_table.specs.declared.plan.Change.{Change}
use Rattle.bm_table.specs.declared.script.Command.{Command}
use Rattle.bm_table.specs.declared.script.Command.TheVariants.{Change as ChangeCommand}
use Rattle.bm_table.specs.declared.script.Command.TheVariants.{Close as CloseCommand}
use Rattle.bm_table.specs.declared.script.Command.TheVariants.{Retire as RetireCommand}
use Rattle.bm_table.specs.declared.script.Command.TheVariants.{Sync as SyncCommand}
use Rattle.bm_table.specs.Scripts.{IsOfKnown, NamesVersions}
use Rattle.bm_table.specs.Tables.{is_known}
use Rattle.bm_table.specs.Planned.{Planned}
use Rattle.bm_cli.specs.declared.mode.Mode.TheVariants.{Replay}
use Rattle.bm_cli.specs.Headline.{IsMadeBy}
use Rattle.bm_connections.specs.Base.{base_of, is_whole, stays}
use Rattle.bm_connections.specs.Connections.{connections}
use Rattle.bm_connections_cli.specs.Headline.{IsReplayOf}
use Rattle.bm_connections_cli.specs.Inside.Replays.{AreReplays}

-- the base with the stage's plan and commands is the stage
pub stage_again : (stage base result : Stage) (plan : Planned) (commands : List Command) → base ≡ base_of stage →
    plan ≡ stage.script.plan → commands ≡ stage.script.commands →
    result ≡ record {
      script = record { setting = base.script.setting; plan = plan; commands = commands };
      capture = base.capture;
    } → result ≡ stage
stage_again stage base result plan commands is plans all made =
    let again : Stage → Planned → List Command → Stage = λ b p k. record {
      script = record { setting = b.script.setting; plan = p; commands = k };
      capture = b.capture;
    } in
    made ∙ ap (λ b. again b plan commands) is ∙ ap₂ (again (base_of stage)) plans all

-- the packets of a stage are those of another with the same capture
pub packets_of_base : (stage base : Stage) (packets : List (List ℕ)) → base ≡ base_of stage →
    ArePackets stage.capture.records packets → ArePackets base.capture.records packets
packets_of_base stage base packets is fit =
    subst (λ (s : Stage). ArePackets s.capture.records packets) (sym is) fit

pub packets_again : (stage again : Stage) (packets kept : List (List ℕ)) → again ≡ stage → kept ≡ packets →
    ArePackets stage.capture.records packets → ArePackets again.capture.records kept
packets_again stage again packets kept same is fit =
    subst (λ (s : Stage). ArePackets s.capture.records kept) (sym same)
    (subst (ArePackets stage.capture.records) (sym is) fit)

replay_of : (stage played : Stage) (h : History) → played ≡ stage → h.stage ≡ played → IsMadeBy Replay played h →
    IsReplayOf stage h
replay_of stage played h same about made =
    (about ∙ same, subst (λ (s : Stage). IsMadeBy Replay s h) same made)

pub replays_are : (stage base_stage again : Stage) (base h : History) (wholes : List Bool) →
    base_stage ≡ base_of stage → base.stage ≡ base_stage → IsMadeBy Replay base_stage base →
    wholes ≡ map is_whole (connections base) → again ≡ stage → h.stage ≡ again → IsMadeBy Replay again h →
    AreReplays stage h wholes
replays_are stage base_stage again base h wholes is base_about base_made whole same about made = record {
  replay = replay_of stage again h same about made;
  base = base;
  base_replay = replay_of (base_of stage) base_stage base is base_about base_made;
  whole = whole;
}

-- A STAGE WITHOUT CHANGES

-- no command changes a table that has no changes
no_more : (next : ℕ) (commands : List Command) → 1 < next → NamesVersions next 0 commands → ⊥
no_more next [] more is = omega (arith, more, is)
no_more next (ChangeCommand v ∷ rest) more is = no_more (next + 1) rest (omega (arith, more)) is.1
no_more next (CloseCommand at server flow ∷ rest) more is = no_more next rest more is
no_more next (RetireCommand at server ∷ rest) more is = no_more next rest more is
no_more next (SyncCommand at ∷ rest) more is = no_more next rest more is

-- so each command is one of the base's
all_stay : (plan : Planned) (commands : List Command) → plan.changes ≡ [] → NamesVersions 1 0 commands →
    AllByRecursion (λ c. IsOfKnown plan c) commands → filter (stays plan.servers) commands ≡ commands
all_stay plan [] none names known = refl
all_stay plan (ChangeCommand v ∷ rest) none names known = absurd (no_more (1 + 1) rest (omega arith) names.1)
all_stay plan (CloseCommand at server flow ∷ rest) none names known =
    let is = subst (λ (cs : List Change). is_known plan (length cs) server ≡ true) none known.0 in
    rw is (ap (λ l. CloseCommand at server flow ∷ l) (all_stay plan rest none names known.1))
all_stay plan (RetireCommand at server ∷ rest) none names known =
    let is = subst (λ (cs : List Change). is_known plan (length cs) server ≡ true) none known.0 in
    rw is (ap (λ l. RetireCommand at server ∷ l) (all_stay plan rest none names known.1))
all_stay plan (SyncCommand at ∷ rest) none names known =
    ap (λ l. SyncCommand at ∷ l) (all_stay plan rest none names known.1)

-- such a stage is its own base
pub own_base : (stage : Stage) → IsSound stage → stage.script.plan.changes ≡ [] → base_of stage ≡ stage
own_base stage sound none =
    let script = stage.script in
    let plan = script.plan in
    let made : ℕ → List ServerId → List Change → Planned = λ b s c. record { buckets = b; servers = s; changes = c } in
    let again : Planned → List Command → Stage = λ p k. record {
      script = record { setting = script.setting; plan = p; commands = k };
      capture = stage.capture;
    } in
    let plans = ap₂ (λ b s. made b s []) (sym sound.script.buckets) (sym sound.script.servers)
    ∙ ap (made plan.buckets plan.servers) (sym none) in
    let versions = subst (λ (cs : List Change). NamesVersions 1 (length cs) script.commands) none sound.script.versions in
    let stay = all_stay plan script.commands none versions sound.script.of_known in
    let all = subst (λ (s : List ServerId). filter (stays s) script.commands ≡ script.commands) sound.script.servers stay in
    ap₂ again plans all

-- and its replay is both
pub unchanged_are : (stage : Stage) (h : History) (wholes : List Bool) → base_of stage ≡ stage → h.stage ≡ stage →
    IsMadeBy Replay stage h → wholes ≡ map is_whole (connections h) → AreReplays stage h wholes
unchanged_are stage h wholes same about made whole = record {
  replay = (about, made);
  base = h;
  base_replay = replay_of (base_of stage) stage h (sym same) about made;
  whole = whole;
}

pub none_of : {A : Type 0} (xs : List A) → length xs ≡ 0 → xs ≡ []
none_of [] is = refl
none_of (x ∷ xs) is = absurd (cc)

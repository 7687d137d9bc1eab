-- A version is published, and a mux switches.
use Rattle.std.proofs.Common.{◌≡◌, ◌≢◌, ℕ, zero, suc, ◌+◌, ◌-◌, ◌<◌, true, inl, inr, List, [], ◌∷◌, Option, Some}
use Rattle.std.proofs.Common.{is_some, length, slice_get, eqb, refl, sym, ap, subst, ◌∙◌, arith}
use Rattle.std.proofs.lemmas.Bool.{cases_Bool, both_ways, eq-eqb, eqb-true}
use Rattle.bm_base.specs.declared.ids.Moment.{Moment}
use Rattle.bm_table.specs.declared.plan.Change.{Change}
use Rattle.bm_table.specs.Entries.{IsTable}
use Rattle.bm_table.specs.Plans.{IsPlan}
use Rattle.bm_table.specs.Tables.{next_change}
use Rattle.bm_core.specs.declared.events.What.TheVariants.{Publish, Switch}
use Rattle.bm_core.specs.declared.events.Event.{Event}
use Rattle.bm_core.specs.declared.events.Stage.{Stage}
use Rattle.bm_core.specs.declared.schedule.Call.{Call as Calls}
use Rattle.bm_core.specs.declared.schedule.Call.TheVariants.{Publishes, Switches}
use Rattle.bm_core.specs.declared.schedule.Due.{Due}
use Rattle.bm_core.specs.Accounts.{Routes, Rules, counts}
use Rattle.bm_core.specs.Past.{is_switch_of, version_at}
use Rattle.bm_core.specs.Schedule.{least, wire}
use Rattle.bm_core.proofs.Schedules.{IsFrom}
use Rattle.bm_replay.specs.declared.mux.Mux.{Mux}
use Rattle.bm_replay.specs.declared.player.Player.{Player}
use Rattle.bm_replay.specs.Inside.Muxes.{HasTable, IsMoved}
use Rattle.bm_replay.specs.Inside.Players.{CanSwitch, HasLags, HasSwitched, after_publish, happened, switch_for}
use Rattle.bm_replay.specs.Inside.Playing.{HasPlayed, IsPlayed, KeepsMuxes, KeepsState, past_of}
use Rattle.bm_replay.proofs.Flights.{all_stay}
use Rattle.bm_replay.proofs.Unchanged.{shards_stay, count_grows, count_stays, muxes_stay, queues_stay, switches_are}
use Rattle.bm_core.proofs.Moments.{change_early}
use Rattle.bm_replay.proofs.ReadyEvents.{clock_later, IsReady, packaged, plain, plain_soon, told}

-- A VERSION IS PUBLISHED

pub published : (R : Routes) (F : Rules) (p q : Player) (at : Moment) (d : Due) (v : ℕ) → IsReady R F p at d
    → d.call ≡ Publishes v → q ≡ after_publish at v p → HasPlayed R F p q
published R F p q at d v ready call is =
    subst (λ (x : Player). HasPlayed R F p x) (sym is)
    (packaged R F p (after_publish at v p) plain ready.fates (record { clock = at; what = Publish (record { 0 = v }) })
    refl refl refl played state) where
      played : IsPlayed R F p.stage (plain ∷ ready.fates)
          (record { clock = at; what = Publish (record { 0 = v }) } ∷ past_of p)
      played = told R F p at d ready (Publish (record { 0 = v })) plain (sym call) tt tt tt plain_soon

      state : KeepsState (plain ∷ ready.fates) (record { clock = at; what = Publish (record { 0 = v }) } ∷ past_of p)
          (after_publish at v p)
      state = record {
        clock = refl;
        loss = ready.state.loss ∙ ready.no_loss_due;
        flights = all_stay p.stage (past_of p) _ played.run.0 p.wire (wire ready.fates (past_of p)) ready.state.flights;
        published = refl;
        muxes = muxes_stay p.stage (past_of p) _ p.muxes p.switch (λ m. refl) (λ m. refl) ready.state.muxes;
        queues = queues_stay p.stage (past_of p) _ p.close p.retire p.sync p.packet refl refl refl refl
            ready.state.queues;
        shards = shards_stay p.stage (past_of p) _ p.shards (λ s h. refl)
            (omega (arith, (clock_later R F p at d ready).0))
            ready.state.shards;
        packets = ready.state.packets;
      }

-- A MUX SWITCHES

switch_from : (R : Routes) (F : Rules) (p : Player) (at : Moment) (d : Due) (m v : ℕ) (ready : IsReady R F p at d)
    → d.call ≡ Switches m v → IsFrom (wire ready.fates (past_of p)) p.stage (past_of p) d (Switches m v)
switch_from R F p at d m v ready call =
    subst (λ (c : Calls). IsFrom (wire ready.fates (past_of p)) p.stage (past_of p) d c) call ready.from

pub has_lags : (R : Routes) (F : Rules) (p : Player) (at : Moment) (d : Due) → IsReady R F p at d → HasLags p.stage
has_lags R F p at d ready = record {
  few = ready.played.plan.count;
  count = let h = ready.played.sound.script.setting.lag_of_each in omega arith;
  lags = ready.played.sound.script.setting.lags;
  moments = change_early p.stage.script ready.played.sound.script;
}

some_change : (changes : List Change) (n : ℕ) → n < length changes → is_some (slice_get changes n) ≡ true
some_change [] n below = absurd (omega arith)
some_change (c ∷ changes) zero below = refl
some_change (c ∷ changes) (suc n) below = some_change changes n (omega arith)

pub can_switch : (R : Routes) (F : Rules) (p : Player) (at : Moment) (d : Due) (m v : ℕ) → IsReady R F p at d
    → d.call ≡ Switches m v → CanSwitch m v p
can_switch R F p at d m v ready call =
    let from = switch_from R F p at d m v ready call
    in let count = ready.state.muxes.count
    in let before : v - 1 ≡ from.1.0 = (let h = from.1.1 in omega arith)
    in record {
      mux = let h = from.0 in omega arith;
      muxes = omega arith;
      version = let h = from.1.1 in omega arith;
      change = subst (λ (n : ℕ). is_some (next_change p.stage.script.plan n) ≡ true) (sym before)
          (some_change p.stage.script.plan.changes from.1.0 from.1.2);
      lags = has_lags R F p at d ready;
    }

moved_table : (stage : Stage) (past : List Event) (change : Change) (m v : ℕ) (o : Option Mux) (new : Option Mux)
    → IsPlan stage.script.plan → v ≡ suc (counts past (λ what. is_switch_of what m))
    → next_change stage.script.plan (v - 1) ≡ Some change
    → (t : HasTable stage.script.plan (counts past (λ what. is_switch_of what m)) o) → IsMoved change v t.mux new
    → HasTable stage.script.plan (suc (counts past (λ what. is_switch_of what m))) new
moved_table stage past change m v o new plan version is t moved =
    let n : ℕ = counts past (λ what. is_switch_of what m)
    in let before : v - 1 ≡ n = omega arith
    in let one : n + 1 ≡ suc n = omega arith
    in record {
      mux = moved.mux;
      is_mux = moved.is_mux;
      version = moved.version ∙ version;
      table = subst (λ (w : ℕ). IsTable stage.script.plan w moved.mux.table) one
          (moved.table stage.script.plan n plan
          (subst (λ (w : ℕ). next_change stage.script.plan w ≡ Some change) before is) t.table);
    }

-- the muxes after one switched
muxes_more : (stage : Stage) (past : List Event) (at : Moment) (change : Change) (m v : ℕ) (old new : List Mux)
    (switch : Option Due) → IsPlan stage.script.plan → m < stage.script.setting.muxes
    → v ≡ suc (counts past (λ what. is_switch_of what m)) → next_change stage.script.plan (v - 1) ≡ Some change
    → length new ≡ length old → ((n : ℕ) → n ≢ m → slice_get new n ≡ slice_get old n)
    → ((x : Mux) → slice_get old m ≡ Some x → IsMoved change v x (slice_get new m)) → KeepsMuxes stage past old switch
    → KeepsMuxes stage (record { clock = at; what = Switch (record { 0 = m }) (record { 0 = v }) } ∷ past) new
    (switch_for stage new)
muxes_more stage past at change m v old new switch plan below version is count others moved keeps = record {
  count = count ∙ keeps.count;
  tables = tables;
  versions = versions;
  soonest =
      ap (λ (l : List Due). least l)
      (switches_are stage (event ∷ past) new tables stage.script.setting.muxes (omega arith));
} where
  event : Event
  event = record { clock = at; what = Switch (record { 0 = m }) (record { 0 = v }) }

  tables : (n : ℕ) → n < stage.script.setting.muxes
      → HasTable stage.script.plan (counts (event ∷ past) (λ what. is_switch_of what n)) (slice_get new n)
  tables n inside = elim (cases_Bool (eqb m n)) [
    | inl here ↦
        let same : m ≡ n = eqb-true m n here
        in let t = keeps.tables m below
        in let grown : counts (event ∷ past) (λ what. is_switch_of what n)
        ≡ suc (counts past (λ what. is_switch_of what n)) = count_grows (λ what. is_switch_of what n) event past here
        in let there : HasTable stage.script.plan (suc (counts past (λ what. is_switch_of what m))) (slice_get new m) =
        moved_table stage past change m v (slice_get old m) (slice_get new m) plan version is t (moved t.mux t.is_mux)
        in subst (λ (k : ℕ). HasTable stage.script.plan k (slice_get new n)) (sym grown)
        (subst (λ (k : ℕ). HasTable stage.script.plan (suc (counts past (λ what. is_switch_of what k)))
        (slice_get new k)) same there)
    | inr there ↦
        let other : n ≢ m = λ e. both_ways (eqb m n) there (eq-eqb m n (sym e))
        in let same : counts (event ∷ past) (λ what. is_switch_of what n) ≡ counts past (λ what. is_switch_of what n) =
        count_stays (λ what. is_switch_of what n) event past there
        in subst (λ (k : ℕ). HasTable stage.script.plan k (slice_get new n)) (sym same)
        (subst (λ (o : Option Mux). HasTable stage.script.plan (counts past (λ what. is_switch_of what n)) o)
        (sym (others n other)) (keeps.tables n inside))
  ]

  versions : (n : ℕ)
      → (version_at (event ∷ past) (record { 0 = n })).0 ≡ counts (event ∷ past) (λ what. is_switch_of what n)
  versions n = elim (cases_Bool (eqb m n)) [
    | inl here ↦
        let same : m ≡ n = eqb-true m n here
        in let grown : counts (event ∷ past) (λ what. is_switch_of what n)
        ≡ suc (counts past (λ what. is_switch_of what n)) = count_grows (λ what. is_switch_of what n) event past here
        in let now : (version_at (event ∷ past) (record { 0 = n })).0 ≡ v = rw here refl
        in now ∙ (version ∙ (ap (λ (k : ℕ). suc (counts past (λ what. is_switch_of what k))) same ∙ sym grown))
    | inr there ↦
        let same : counts (event ∷ past) (λ what. is_switch_of what n) ≡ counts past (λ what. is_switch_of what n) =
        count_stays (λ what. is_switch_of what n) event past there
        in let now : (version_at (event ∷ past) (record { 0 = n })).0 ≡ (version_at past (record { 0 = n })).0 =
        rw there refl
        in now ∙ (keeps.versions n ∙ sym same)
  ]

pub switched : (R : Routes) (F : Rules) (p q : Player) (at : Moment) (d : Due) (m v : ℕ) → IsReady R F p at d
    → d.call ≡ Switches m v → HasSwitched at m v p q → HasPlayed R F p q
switched R F p q at d m v ready call come =
    subst (λ (x : Player). HasPlayed R F p x) (sym come.is)
    (packaged R F p
    (happened at (Switch (record { 0 = m }) (record { 0 = v }))
    (record p { muxes = come.muxes; switch = switch_for p.stage come.muxes })) plain ready.fates event refl refl
    refl played state) where
      event : Event
      event = record { clock = at; what = Switch (record { 0 = m }) (record { 0 = v }) }

      played : IsPlayed R F p.stage (plain ∷ ready.fates) (event ∷ past_of p)
      played = told R F p at d ready (Switch (record { 0 = m }) (record { 0 = v })) plain (sym call) tt tt tt plain_soon

      state : KeepsState (plain ∷ ready.fates) (event ∷ past_of p)
          (happened at (Switch (record { 0 = m }) (record { 0 = v }))
          (record p { muxes = come.muxes; switch = switch_for p.stage come.muxes }))
      state =
          let from = switch_from R F p at d m v ready call
          in record {
            clock = refl;
            loss = ready.state.loss ∙ ready.no_loss_due;
            flights =
                all_stay p.stage (past_of p) event played.run.0 p.wire (wire ready.fates (past_of p))
                ready.state.flights;
            published = ready.state.published;
            muxes = muxes_more p.stage (past_of p) at come.change m v p.muxes come.muxes p.switch ready.played.plan
                from.0 from.2 come.is_change come.count come.others come.moved ready.state.muxes;
            queues = queues_stay p.stage (past_of p) event p.close p.retire p.sync p.packet refl refl refl refl
                ready.state.queues;
            shards = shards_stay p.stage (past_of p) event p.shards (λ s h. refl)
                (omega (arith, (clock_later R F p at d ready).0)) ready.state.shards;
            packets = ready.state.packets;
          }

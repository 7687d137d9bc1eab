-- What a step needs, and that no other call comes.
use Rattle.std.proofs.Common.{◌≡◌, ℕ, ◌*◌, ◌^◌, ◌≤◌, refl, ap, None, subst}
use Rattle.bm_base.specs.declared.ids.Moment.{Moment}
use Rattle.bm_base.specs.declared.label.Hop.{Hop}
use Rattle.bm_core.specs.declared.schedule.Call.{Call as Calls}
use Rattle.bm_core.specs.declared.schedule.Call.TheVariants.{Arrives, Loses}
use Rattle.bm_core.specs.declared.schedule.Due.{Due}
use Rattle.bm_core.specs.Accounts.{Routes, Rules}
use Rattle.bm_core.specs.Runs.{next_clock}
use Rattle.bm_core.specs.Schedule.{rank_of, wire}
use Rattle.bm_core.proofs.Schedules.{IsFrom}
use Rattle.bm_replay.specs.declared.player.Player.{Player}
use Rattle.bm_replay.specs.declared.coming.Coming.TheVariants.{Arrive, Call}
use Rattle.bm_replay.specs.Inside.Players.{coming_for}
use Rattle.bm_replay.specs.Inside.Playing.{IsPlaying, past_of}
use Rattle.bm_replay.proofs.NextEvents.{copy_due}
use Rattle.bm_replay.proofs.ReadyEvents.{IsReadyCall, clock_low, ready_call, ready_copy}

pub copy_fits : (R : Routes) (F : Rules) (p : Player) (m : Moment) → IsPlaying R F p → p.loss ≡ None
    → coming_for p ≡ Arrive m → next_clock p.clock.0 m.0 ≤ 6 * 10 ^ 18
copy_fits R F p m playing none come =
    let c = ready_copy R F p (record { 0 = next_clock p.clock.0 m.0 }) m
    (record { playing = playing; none_lost = none; is_coming = come; is_clock = refl })
    in clock_low R F p (record { 0 = next_clock p.clock.0 m.0 }) (copy_due c.copy) c.ready

pub call_fits : (R : Routes) (F : Rules) (p : Player) (d : Due) → IsPlaying R F p → p.loss ≡ None
    → coming_for p ≡ Call d → next_clock p.clock.0 d.moment ≤ 6 * 10 ^ 18
call_fits R F p d playing none come =
    let c = ready_call R F p (record { 0 = next_clock p.clock.0 d.moment }) d
    (record { playing = playing; none_lost = none; is_coming = come; is_clock = refl })
    in clock_low R F p (record { 0 = next_clock p.clock.0 d.moment }) d c.ready

-- a copy isn't called, and neither is a loss
pub no_arrival : (R : Routes) (F : Rules) (p : Player) (at : Moment) (d : Due) (k : ℕ) (hop : Hop)
    → IsReadyCall R F p at d → d.call ≡ Arrives k hop → ⊥
no_arrival R F p at d k hop c is = c.no_copy (ap (λ (x : Calls). rank_of x) is)

pub no_loss : (R : Routes) (F : Rules) (p : Player) (at : Moment) (d : Due) (k : ℕ) (hop : Hop) → IsReadyCall R F p at d
    → d.call ≡ Loses k hop → ⊥
no_loss R F p at d k hop c is =
    subst (λ (x : Calls). IsFrom (wire c.ready.fates (past_of p)) p.stage (past_of p) d x) is c.ready.from

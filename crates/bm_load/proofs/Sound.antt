-- The stage of a load is sound.
use Rattle.std.proofs.Common.{◌≡◌, ℕ, ◌≤◌, List, [], ◌∷◌, None, refl, subst, arith}
use Rattle.std.proofs.lemmas.List.Elements.{All-nil, All-from_recursion}
use Rattle.bm_base.specs.declared.capture.Record.{Record}
use Rattle.bm_base.specs.declared.capture.Vip.{Vip}
use Rattle.bm_base.specs.declared.ids.ServerId.{ServerId}
use Rattle.bm_controller.specs.Membership.{KeepsMembership}
use Rattle.bm_core.specs.Stages.{IsSound}
use Rattle.bm_load.specs.Load.{load_of, load_plan, load_records, load_setting}
use Rattle.bm_load.proofs.Records.{replayable}
use Rattle.bm_table.specs.declared.script.Command.{Command}
use Rattle.bm_table.specs.declared.script.Command.TheVariants.{Change}
use Rattle.bm_table.specs.declared.setting.Setting.{Setting}
use Rattle.bm_table.specs.Planned.{Planned}
use Rattle.bm_table.specs.Settings.{IsFaultRow, IsSetting, seconds}

IsSetting-load_setting : IsSetting load_setting
IsSetting-load_setting = record {
  buckets = (omega arith, omega arith);
  servers = (omega arith, omega arith);
  rising = (omega arith, (omega arith, (omega arith, (omega arith, tt))));
  numbers = All-from_recursion (λ (s : ServerId). s.0 ≤ 1024) load_setting.servers
      (omega arith, (omega arith, (omega arith, (omega arith, tt))));
  racks = (omega arith, omega arith);
  muxes = (omega arith, omega arith);
  shards = (omega arith, omega arith);
  capacity = (omega arith, omega arith);
  timeout = (omega arith, omega arith);
  vips = (omega arith, omega arith);
  ports = All-from_recursion (λ (vip : Vip). 1 ≤ vip.port) load_setting.vips (omega arith, tt);
  lag_of_each = refl;
  lags = All-from_recursion (λ (lag : ℕ). lag ≤ seconds 86400) load_setting.lags
      (omega arith, (omega arith, (omega arith, (omega arith, tt))));
  rows = omega arith;
  faults = All-nil IsFaultRow;
}

pub sound : (n : ℕ) → n ≤ 20000 → KeepsMembership (load_plan n) → IsSound (load_of n)
unfolding load_plan
sound n few member = record {
  script = record {
    setting = IsSetting-load_setting;
    buckets = refl;
    servers = refl;
    adds = member.adds;
    plan = member.orderly;
    few_commands = omega arith;
    commands_rise = (omega arith, omega (arith, few), tt);
    versions = (refl, refl);
    of_known = (tt, tt);
  };
  capture = replayable n few;
}

pub sound_of : (n : ℕ) (setting : Setting) (plan : Planned) (commands : List Command) (records : List Record)
    → setting ≡ load_setting → plan ≡ load_plan n → commands ≡ Change (record { 0 = 1 }) ∷ []
    → records ≡ load_records n → n ≤ 20000 → KeepsMembership plan
    → IsSound (record {
      script = record { setting = setting; plan = plan; commands = commands };
      capture = record { records = records; cut = None };
    })
sound_of n setting plan commands records a b c d few member =
    rw (a, b, c, d) (sound n few (subst KeepsMembership b member))

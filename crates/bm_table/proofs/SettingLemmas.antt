-- The plain setting is in range.
use Rattle.std.proofs.Common.{ℕ, ◌≤◌, refl, arith}
use Rattle.std.proofs.lemmas.List.Elements.{All-nil, All-from_recursion}
use Rattle.bm_base.specs.declared.capture.Vip.{Vip}
use Rattle.bm_base.specs.declared.ids.ServerId.{ServerId}
use Rattle.bm_table.specs.Settings.{plain_setting, seconds, IsSetting, IsFaultRow}

pub IsSetting-plain_setting : IsSetting plain_setting
IsSetting-plain_setting = record {
  buckets = (omega arith, omega arith);
  servers = (omega arith, omega arith);
  rising = (omega arith, (omega arith, tt));
  numbers = All-from_recursion (λ (s : ServerId). s.0 ≤ 1024) plain_setting.servers (omega arith, (omega arith, tt));
  racks = (omega arith, omega arith);
  muxes = (omega arith, omega arith);
  shards = (omega arith, omega arith);
  capacity = (omega arith, omega arith);
  timeout = (omega arith, omega arith);
  vips = (omega arith, omega arith);
  ports = All-from_recursion (λ (vip : Vip). 1 ≤ vip.port) plain_setting.vips (omega arith, tt);
  lag_of_each = refl;
  lags = All-from_recursion (λ (lag : ℕ). lag ≤ seconds 86400) plain_setting.lags (omega arith, tt);
  rows = omega arith;
  faults = All-nil IsFaultRow;
}

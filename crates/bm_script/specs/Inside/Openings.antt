-- What the top keys give is in its ranges.
use Rattle.std.specs.Prelude.{◌≡◌, ◌≤◌, true, length, All}
use Rattle.bm_script.specs.declared.top.Opening.{Opening}
use Rattle.bm_script.specs.Values.{are_filled}
use Rattle.bm_table.specs.Settings.{IsSetting, IsWithin}

pub record IsOpening (opening : Opening) : Type 0 where
  pub setting : IsSetting opening.setting
  pub count : length opening.weights ≡ length opening.setting.servers
  pub weights : All (IsWithin 1 1000) opening.weights
  -- there are at most as many racks as buckets, and each has one of the servers
  pub few : opening.setting.racks ≤ opening.setting.buckets
  pub filled : are_filled opening.setting.racks opening.setting.servers ≡ true

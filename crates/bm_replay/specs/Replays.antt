-- The route and the impairment rule of a setting, as relations.
use Rattle.bm_table.specs.declared.setting.Setting.{Setting}
use Rattle.bm_core.specs.Accounts.{Routes, Rules}
use Rattle.bm_core.specs.Rules.{RouteBy, RuleBy, setting_fate, setting_mux}

-- the setting's route gives the packet this mux
abbrev pub setting_route : Setting → Routes
setting_route setting = RouteBy (setting_mux setting)

-- the setting's impairment rule gives the sending this fate
abbrev pub setting_rule : Setting → Rules
setting_rule setting = RuleBy (setting_fate setting)

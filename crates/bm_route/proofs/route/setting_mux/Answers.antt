use Rattle.std.proofs.Common.{rules}
use Rattle.bm_route.proofs.route.setting_mux.Goals as goal

pub returns-in-Port-clause-mux : goal.returns-in-Port-clause-mux
returns-in-Port-clause-mux c = search rules

pub returns-in-Port-clause-below : goal.returns-in-Port-clause-below
returns-in-Port-clause-below c = search rules

pub returns-in-Turn-clause-mux : goal.returns-in-Turn-clause-mux
returns-in-Turn-clause-mux c = search rules

pub returns-in-Turn-clause-below : goal.returns-in-Turn-clause-below
returns-in-Turn-clause-below c = search rules

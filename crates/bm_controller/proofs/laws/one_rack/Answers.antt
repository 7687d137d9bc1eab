use Rattle.std.proofs.Common.{refl}
use Rattle.bm_controller.proofs.OneRack.{change-one}
use Rattle.bm_controller.proofs.laws.one_rack.Goals as goal

pub returns : goal.returns
returns c = change-one c.args.plan.now 1 c.args.at c.args.kind c.args.members.now refl c.requires

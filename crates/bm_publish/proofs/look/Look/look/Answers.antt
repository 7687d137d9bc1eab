use Rattle.std.proofs.Common.{refl}
use Rattle.bm_publish.proofs.BoardLemmas.{turns}
use Rattle.bm_publish.proofs.look.Look.look.Goals as goal

pub enter_as-requires : goal.enter_as-requires
enter_as-requires c x = turns _ _ x.table x.table x.snapshot x.snapshot refl (λ right. right)

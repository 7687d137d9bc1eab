use Rattle.std.proofs.Common.{◌∙◌, sym}
use Rattle.bm_replay.proofs.CopiesRead.{some_next}
use Rattle.bm_replay.proofs.player.Player.go_on.Goals as goal

pub unreachable-requires : goal.unreachable-requires
unreachable-requires g c =
    some_next _ _ (c.requires.next c.in-Some.field-0 c.in-Some.is) (sym c.go_on.ensures.next ∙ c.in_default-go_on.is)

-- A comparison of keys.
use Rattle.std.specs.Prelude.{Bool, ◌&&◌, ◌==◌}
use Rattle.bm_state.specs.declared.losses.SentAt.{SentAt}

abbrev pub same_sent : SentAt → SentAt → Bool
same_sent a b = a.clock == b.clock && a.packet == b.packet && a.hop == b.hop

use Rattle.bm_publish.proofs.BoardLemmas.{admits, forks, merges}
use Rattle.bm_publish.proofs.poster.Poster.seat.Goals as goal

pub reader-requires : goal.reader-requires
reader-requires c x = admits x.table x.snapshot

pub tell-requires : goal.tell-requires
tell-requires c x = forks _ _ x.table x.snapshot

pub learn-requires-clause-rule : goal.learn-requires-clause-rule
learn-requires-clause-rule c x = merges _ _ _ _ x.table x.snapshot

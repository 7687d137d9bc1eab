use Rattle.bm_core.proofs.laws.shard_book.Goals as goal
use Rattle.bm_core.proofs.Books.{local_in_book}

pub returns : goal.returns
returns c = λ past s f. local_in_book c.args.stage.now past s f

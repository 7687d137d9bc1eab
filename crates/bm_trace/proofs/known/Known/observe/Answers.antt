use Rattle.bm_trace.proofs.known.Known.observe.Goals as goal

pub returns : goal.returns
returns c past e is at knows =
    record {
      versions = c.in_ok-observe-3.ensures past e is knows.versions;
      labels = c.observe-3.ensures c.args.stage.now past e is knows.versions knows.labels;
      owners = c.in_ok-observe-2.ensures past e is at knows.labels knows.owners;
      holders = c.in_ok-observe.ensures past e is at knows.holders;
      moves = knows.moves;
    }

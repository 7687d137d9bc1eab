use Rattle.bm_trace.proofs.known.Known.new.Goals as goal

pub returns : goal.returns
returns c = record {
  versions = c.new.ensures;
  labels = c.in_ok-new.ensures;
  owners = c.in_ok-new-2.ensures;
  holders = c.new-4.ensures c.args.stage.now;
  moves = c.in_ok-new-3.ensures;
}

use Rattle.bm_running.proofs.known.Known.new.Goals as goal

pub returns : goal.returns
returns c = record {
  run = tt;
  clocks = c.new.ensures c.args.stage.now;
  versions = c.new-2.ensures;
  labels = c.in_ok-new.ensures;
  moves = c.in_ok-new-2.ensures;
  tallies = c.new-5.ensures;
  losses = c.new-6.ensures;
  shards = c.new-7.ensures c.args.stage.now;
  leaves = c.new-8.ensures c.args.stage.now.script.plan;
}

use Rattle.std.proofs.Common.{◌≡◌, ◌≤◌, length, arith, ap, sym, refl, ◌∙◌}
use Rattle.bm_pcap.specs.Window.{buffered}
use Rattle.bm_pcap.specs.declared.window.Window.{Window}
use Rattle.bm_pcap.proofs.Windows.{ahead_whole, ahead_end, front_buffered, front_trans, keeps_trans}
use Rattle.bm_pcap.proofs.window.Window.want.Goals.{else-loop-self-test, then-loop-self-test+in_ok-read+then-branch-eq0}
use Rattle.bm_pcap.proofs.window.Window.want.Goals as goal

pub returns-clause-ahead : goal.returns-clause-ahead
returns-clause-ahead g c = elim c.loop-self-test.branch [
  | else-loop-self-test w ↦
      let x = c.loop-self.self in
      let long : length (buffered x) ≡ x.upto =
      front_buffered x.octets.items x.from x.upto _ c.loop-self.invariant.front x.within refl in
      let all : c.args.most ≡ c.min.result =
      omega (arith, c.min.ensures, ap (λ (v : Window g.row.S.Denot). v.upto) w.self-is, w.loop-self-test.false) in
      rw (w.self-is, sym all)
      (ahead_whole _ _ _ c.args.most c.loop-self.invariant.keeps (omega (arith, long, w.loop-self-test.false)))
  | then-loop-self-test+in_ok-read+then-branch-eq0 w ↦
      let x = w.read.new.self in
      let e = w.in_ok-read.ensures in
      let long : length (buffered x) ≡ x.upto =
      front_buffered x.octets.items x.from x.upto _ (e.from ∙ c.loop-self.invariant.front) x.within refl in
      let none =
      e.end w.if-branch-eq0.true (omega (arith, w.loop-self-test.true, c.requires, c.loop-self.invariant.wide)) in
      let less : x.upto ≤ c.args.most = omega (arith, e.count, w.if-branch-eq0.true, w.loop-self-test.true) in
      let all : c.min.result ≡ length (buffered x) =
      omega (arith, c.min.ensures, ap (λ (v : Window g.row.S.Denot). v.upto) w.self-is, long, less) in
      rw w.self-is
      (ahead_end _ _ _ c.args.most c.min.result (keeps_trans _ _ _ c.loop-self.invariant.keeps e.keeps) none all
      (omega (arith, all, long, less)))
]

pub loop-self-preserved : goal.loop-self-preserved
loop-self-preserved g c = record {
  keeps = keeps_trans _ _ _ c.loop-self.invariant.keeps c.in_ok-read.ensures.keeps;
  grows = front_trans _ _ _ c.loop-self.invariant.grows c.in_ok-read.ensures.grows;
  front = c.in_ok-read.ensures.from ∙ c.loop-self.invariant.front;
  wide = c.in_ok-read.ensures.wide ∙ c.loop-self.invariant.wide;
  later = omega (arith, c.in_ok-read.ensures.cause.kept, c.loop-self.invariant.later);
}

pub returns-in_err-read-clause-grows : goal.returns-in_err-read-clause-grows
returns-in_err-read-clause-grows g c = front_trans _ _ _ c.loop-self.invariant.grows c.in_err-read.ensures.grows

pub returns-clause-grows : goal.returns-clause-grows
returns-clause-grows g c = elim c.loop-self-test.branch [
  | else-loop-self-test w ↦ rw w.self-is c.loop-self.invariant.grows
  | then-loop-self-test+in_ok-read+then-branch-eq0 w ↦
      rw w.self-is (front_trans _ _ _ c.loop-self.invariant.grows w.in_ok-read.ensures.grows)
]

use Rattle.std.proofs.Common.{◌≡◌, ◌<◌, ◌≤◌, ℕ, List, length, Some, sym, subst}
use Rattle.bm_base.specs.declared.capture.Record.{Record}
use Rattle.bm_fault.specs.Faults.{Gives}
use Rattle.bm_core.specs.Past.{segment_of}
use Rattle.bm_replay.specs.declared.player.Player.{Player}
use Rattle.bm_replay.specs.Inside.Muxes.{IsWritten}
use Rattle.bm_replay.specs.Inside.Players.{HasSent}
use Rattle.bm_replay.specs.Inside.Queues.{IsHead, packets_after}
use Rattle.bm_replay.proofs.player.Player.steer.Goals as goal

pub returns : goal.returns
returns g c =
    let seg : Some c.in-Some.segment ≡ segment_of c.args.self.now.stage c.args.packet = c.in-Some.ensures
    in let sending : HasSent (Gives g.F.Fn c.args.faults.now.rule) c.args.clock
    (record { packet = c.args.packet; tag = c.tag_of-tag.result }) c.write.new.self c.send.new.self =
    c.in_ok-send.ensures
    in record {
      segment = c.in-Some.segment;
      is_segment = sym seg;
      mux = c.mux_of-mux.result;
      routed = c.mux_of-mux.ensures.answer;
      below = subst (λ (n : ℕ). c.mux_of-mux.result.0 < n) c.requires.muxes c.mux_of-mux.ensures.below;
      label = c.label-label.result;
      written =
          λ x is. subst (λ (b : ℕ). IsWritten x c.mux_of-mux.result b c.label-label.result) c.bucket_of-bucket.ensures
          (c.label-label.ensures x is);
      tag = c.tag_of-tag.result;
      is_tag = c.tag_of-tag.ensures;
      queue = c.next_packet-self.result;
      next = subst
          (λ (l : List Record). IsHead (packets_after l c.args.self.now.packet.next)
          (packets_after l c.next_packet-self.result.next) c.next_packet-self.result.head) c.items.ensures
          c.next_packet-self.ensures.head;
      behind = c.next_packet-self.ensures.behind;
      within = subst (λ (l : List Record). c.next_packet-self.result.next ≤ length l) c.items.ensures
          c.next_packet-self.ensures.within;
      sending =
          subst (λ (p : Player). HasSent (Gives g.F.Fn c.args.faults.now.rule) c.args.clock
          (record { packet = c.args.packet; tag = c.tag_of-tag.result }) p c.send.new.self) c.in_ok-write.ensures
          sending;
    }

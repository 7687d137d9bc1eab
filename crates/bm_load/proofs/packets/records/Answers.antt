use Rattle.std.proofs.Common.{◌+◌, ◌*◌, ◌%◌, ℕ, List, [], ◌∷◌, ap, ap₂, ◌∙◌, length, arith, length-append}
use Rattle.bm_base.specs.declared.capture.Body.TheVariants.{Steerable}
use Rattle.bm_base.specs.declared.flow.Segment.{Segment}
use Rattle.bm_load.proofs.Records.{map_more}
use Rattle.bm_load.specs.declared.packets.Round.{Round}
use Rattle.bm_load.specs.Load.{packet_at, packet_from, record_at, segment_from}
use Rattle.bm_load.proofs.packets.records.Goals as goal

pub loop-place-preserved : goal.loop-place-preserved
loop-place-preserved c =
    let i = c.loop-place.invariant
    in let n = c.args.n
    in let k = c.loop-place.place
    in let round = c.round_at-round.ensures.round
    in let segment = c.segment_from.ensures ∙ ap (λ (r : Round). segment_from r (10000 + k % n)) round
    in let record_is = ap₂ (λ (m : ℕ) (s : Segment).
    record { moment = record { 0 = m * 1000 }; body = Steerable s }) c.from.ensures segment
    in let packet_is = c.as_slice.ensures.value ∙ (c.in_ok-packet_from.ensures
    ∙ ap (λ (r : Round). packet_from r (10000 + k % n)) round)
    in let pushed = c.in_ok-push-2.ensures.ok
    in record {
      records = map_more (record_at n) k c.loop-place.records.items c.push.new.self.items _ c.in_ok-push.ensures.items
          i.records record_is;
      packets = map_more (packet_at n) k c.loop-place.packets c.push-in-loop-place.new.self _ pushed i.packets
          packet_is;
      count = ap (λ (xs : List (List ℕ)). length xs) pushed
          ∙ omega (arith, length-append c.loop-place.packets (c.as_slice.result.now ∷ []), i.count);
    }

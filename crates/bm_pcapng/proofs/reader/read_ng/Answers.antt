use Rattle.std.proofs.Common.{◌≡◌, ◌∷◌, [], None, ◌∙◌, ap, sym, arith, refl, Ok, Err, length, Some, length-append}
use Rattle.std.proofs.Common.{◌≤◌, ◌+◌}
use Rattle.std.proofs.lemmas.Result.{err_from_is_err_and}
use Rattle.bm_base.specs.declared.capture.Capture.{Capture}
use Rattle.bm_base.specs.declared.ids.Moment.{Moment}
use Rattle.bm_pcap.specs.Limits.{latest, most_octets}
use Rattle.bm_pcap.proofs.Rising.{rising_more, fit_more, replayable_so_far}
use Rattle.bm_pcap.proofs.Packets.{none_yet, packets_more}
use Rattle.bm_pcapng.specs.declared.content.Content.{Content}
use Rattle.bm_pcapng.specs.declared.content.Content.TheVariants.{Holds}
use Rattle.bm_pcapng.specs.declared.place.Place.{Place}
use Rattle.bm_pcapng.specs.declared.step.Step.{Step}
use Rattle.bm_pcapng.specs.declared.step.Step.TheVariants.{Block, Cut, End}
use Rattle.bm_pcapng.specs.Places.{moment_at}
use Rattle.bm_pcapng.specs.Reader.{Reader}
use Rattle.bm_pcapng.specs.Began.{time_or_zero}
use Rattle.bm_pcapng.proofs.Began.{began_starts, began_more, began_ends, knows_began}
use Rattle.bm_pcapng.proofs.Loop.{advanced, at_cut, at_end, at_fault, gave, goes_on}
use Rattle.bm_pcapng.proofs.Loop.{holds_packet}
use Rattle.bm_pcapng.proofs.Loop.{last_fault, moment_early, moment_late, passes_over, place_of, place_passed, starts}
use Rattle.bm_pcapng.proofs.Loop.{without_packet}
use Rattle.bm_pcapng.proofs.reader.read_ng.Goals as goal

pub loop-packets-init : goal.loop-packets-init
loop-packets-init g c =
    let one : c.args.r.now.place.number ≡ 1 = ap (λ (p : Place). p.number) c.requires.0 in
    let room : c.args.r.now.place.block + c.args.r.now.place.room ≡ 268435457 =
    ap (λ (p : Place). p.block + p.room) c.requires.0 in
    record {
      so_far = λ octets stands. rw (c.new-records.ensures.items, c.new-packets.ensures)
          (starts _ c.args.r.now.order c.args.r.now.interfaces c.args.vips.now c.args.r.now.place octets stands
          c.requires.0 c.requires.2);
      began = λ octets stands. began_starts _ c.args.r.now.order c.args.r.now.interfaces c.args.r.now.place octets
          stands c.requires.0 c.requires.2;
      count = rw c.new-packets.ensures (sym one);
      few = omega (arith, one);
      room = omega (arith, room);
      packed = rw (c.new-records.ensures.items, c.new-packets.ensures) none_yet;
      rise = λ m low few. rw c.new-records.ensures.items (omega arith, few, tt);
      early = rw c.requires.0 (omega arith);
      fit = rw c.new-records.ensures.items tt;
      fresh = c.requires.1;
      kept = refl;
    }

pub returns-in_err-size-clause-capture : goal.returns-in_err-size-clause-capture
returns-in_err-size-clause-capture g c octets stands =
    let p = err_from_is_err_and c.from_residual.result c.from_residual.ensures.1 in
    let a = gave g.S.Source.left g.S.Source.faults c.loop-packets.r c.advance.new.self c.advance.result
    (Err c.in_err-size.field-0.0) c.advance.ensures.advances c.in_err-size.was in
    let f = advanced g.S.Source.left g.S.Source.faults c.loop-packets.r c.advance.new.self
    (Err c.in_err-size.field-0.0) c.loop-packets.invariant.fresh a in
    rw (p.1, p.2)
    (at_fault _ _ c.loop-packets.r.order c.loop-packets.r.interfaces c.args.vips.now _ c.loop-packets.r.place
    c.loop-packets.records.items c.loop-packets.packets c.in_err-size.field-0.0 _
    (c.loop-packets.invariant.so_far octets stands) f.0)

pub returns-in_err-size-clause-last : goal.returns-in_err-size-clause-last
returns-in_err-size-clause-last g c =
    let p = err_from_is_err_and c.from_residual.result c.from_residual.ensures.1 in
    rw (p.1, p.2)
    (last_fault g.S.Source.left g.S.Source.faults c.loop-packets.r c.advance.new.self c.advance.result
    c.in_err-size.field-0.0 c.loop-packets.invariant.fresh c.advance.ensures.advances c.in_err-size.was)

pub loop-packets-preserved-in_default : goal.loop-packets-preserved-in_default
loop-packets-preserved-in_default g c =
    let content : Content = c.in-Block.content in
    let a = gave g.S.Source.left g.S.Source.faults c.loop-packets.r c.advance.new.self c.advance.result
    (Ok (Block c.in-Block.size content)) c.advance.ensures.advances
    (c.in_ok-size.was ∙ ap (λ (s : Step). Ok s) c.in-Block.is) in
    let f = advanced g.S.Source.left g.S.Source.faults c.loop-packets.r c.advance.new.self
    (Ok (Block c.in-Block.size content)) c.loop-packets.invariant.fresh a in
    let over = without_packet content (sym c.packet.ensures ∙ c.in_default.is) in
    let at = place_of c.loop-packets.r.place c.in-Block.size content in
    let same = place_passed c.loop-packets.r.place c.in-Block.size content over in
    let number = ap (λ (p : Place). p.number) f.2.3 ∙ same.0 in
    let last = ap (λ (p : Place). p.last.0) f.2.3 ∙ ap (λ (m : Moment). m.0) same.1 in
    let block = ap (λ (p : Place). p.block) f.2.3 ∙ at.0 in
    let room = ap (λ (p : Place). p.room) f.2.3 ∙ at.1 in
    let few : c.loop-packets.r.place.block ≤ most_octets =
    omega (arith, c.loop-packets.invariant.room, f.2.0.0, f.2.0.2) in
    record {
      so_far = λ octets stands. rw (f.2.1, f.2.2, f.2.3)
          (passes_over _ _ c.loop-packets.r.order c.loop-packets.r.interfaces c.args.vips.now _ c.loop-packets.r.place
          c.loop-packets.records.items c.loop-packets.packets c.in-Block.size content _
          (c.loop-packets.invariant.so_far octets stands) f.0 over few);
      began = λ octets stands. rw (f.2.1, f.2.2, f.2.3)
          (began_more _ _ c.loop-packets.r.order c.loop-packets.r.interfaces c.loop-packets.r.place c.in-Block.size
          content _ _ (c.loop-packets.invariant.began octets stands) f.0 few);
      count = c.loop-packets.invariant.count ∙ sym number;
      few = omega (arith, number, c.loop-packets.invariant.few);
      room = omega (arith, block, room, c.loop-packets.invariant.room, f.2.0.0, f.2.0.2);
      packed = c.loop-packets.invariant.packed;
      rise = λ m low few. c.loop-packets.invariant.rise m (omega (arith, low, last)) few;
      early = omega (arith, last, c.loop-packets.invariant.early);
      fit = c.loop-packets.invariant.fit;
      fresh = f.2.4;
      kept = f.1.kept (λ is. cc) ∙ c.loop-packets.invariant.kept;
    }

pub returns-in-Cut-clause-capture : goal.returns-in-Cut-clause-capture
returns-in-Cut-clause-capture g c octets stands =
    let a = gave g.S.Source.left g.S.Source.faults c.loop-packets.r c.advance.new.self c.advance.result (Ok Cut)
    c.advance.ensures.advances (c.in_ok-size.was ∙ ap (λ (s : Step). Ok s) c.in-Cut.is) in
    let f = advanced g.S.Source.left g.S.Source.faults c.loop-packets.r c.advance.new.self (Ok Cut)
    c.loop-packets.invariant.fresh a in
    let number : c.r.inside.place.number ≡ c.loop-packets.r.place.number =
    ap (λ (x : Reader g.row.S.Denot). x.place.number) c.r.view_is ∙ ap (λ (p : Place). p.number) f.2.2 in
    ap (λ (x : Capture). Ok (x, c.loop-packets.packets))
    (c.captured.ensures ∙ ap (λ n. record { records = c.loop-packets.records.items; cut = Some n }) number)
    ∙ at_cut _ _ c.loop-packets.r.order c.loop-packets.r.interfaces c.args.vips.now _ c.loop-packets.r.place
    c.loop-packets.records.items c.loop-packets.packets _ (c.loop-packets.invariant.so_far octets stands) f.0

pub returns-in-Cut-clause-replayable : goal.returns-in-Cut-clause-replayable
returns-in-Cut-clause-replayable g c =
    rw c.captured.ensures
    (replayable_so_far c.args.vips.now c.loop-packets.records.items (Some c.r.inside.place.number)
    c.loop-packets.packets c.loop-packets.r.place.number c.loop-packets.r.place.last.0 c.loop-packets.invariant.count
    c.loop-packets.invariant.few c.loop-packets.invariant.packed c.loop-packets.invariant.early
    c.loop-packets.invariant.rise c.loop-packets.invariant.fit)

pub returns-in-Cut-clause-last : goal.returns-in-Cut-clause-last
returns-in-Cut-clause-last g c =
    rw c.captured.ensures (
      c.loop-packets.r,
      (
        c.loop-packets.invariant.fresh,
        gave g.S.Source.left g.S.Source.faults c.loop-packets.r c.advance.new.self c.advance.result (Ok Cut)
            c.advance.ensures.advances (c.in_ok-size.was ∙ ap (λ (s : Step). Ok s) c.in-Cut.is),
      ),
    )

pub returns-in-End-clause-capture : goal.returns-in-End-clause-capture
returns-in-End-clause-capture g c octets stands =
    let a = gave g.S.Source.left g.S.Source.faults c.loop-packets.r c.advance.new.self c.advance.result (Ok End)
    c.advance.ensures.advances (c.in_ok-size.was ∙ ap (λ (s : Step). Ok s) c.in-End.is) in
    let f = advanced g.S.Source.left g.S.Source.faults c.loop-packets.r c.advance.new.self (Ok End)
    c.loop-packets.invariant.fresh a in
    ap (λ (x : Capture). Ok (x, c.loop-packets.packets)) c.captured-in-End.ensures
    ∙ at_end _ _ c.loop-packets.r.order c.loop-packets.r.interfaces c.args.vips.now _ c.loop-packets.r.place
    c.loop-packets.records.items c.loop-packets.packets _ (c.loop-packets.invariant.so_far octets stands) f.0

pub returns-in-End-clause-replayable : goal.returns-in-End-clause-replayable
returns-in-End-clause-replayable g c =
    rw c.captured-in-End.ensures
    (replayable_so_far c.args.vips.now c.loop-packets.records.items None c.loop-packets.packets
    c.loop-packets.r.place.number c.loop-packets.r.place.last.0 c.loop-packets.invariant.count
    c.loop-packets.invariant.few c.loop-packets.invariant.packed c.loop-packets.invariant.early
    c.loop-packets.invariant.rise c.loop-packets.invariant.fit)

pub returns-in-End-clause-last : goal.returns-in-End-clause-last
returns-in-End-clause-last g c =
    rw c.captured-in-End.ensures (
      c.loop-packets.r,
      (
        c.loop-packets.invariant.fresh,
        gave g.S.Source.left g.S.Source.faults c.loop-packets.r c.advance.new.self c.advance.result (Ok End)
            c.advance.ensures.advances (c.in_ok-size.was ∙ ap (λ (s : Step). Ok s) c.in-End.is),
      ),
    )

pub loop-packets-preserved : goal.loop-packets-preserved
loop-packets-preserved g c =
    let content : Content = c.in-Block.content in
    let n = c.in-Block.size in
    let packet = c.in-Some.packet in
    let holds = holds_packet content packet (sym c.packet.ensures ∙ c.in-Some.is) in
    let a = gave g.S.Source.left g.S.Source.faults c.loop-packets.r c.advance.new.self c.advance.result
    (Ok (Block n (Holds packet))) c.advance.ensures.advances
    (c.in_ok-size.was ∙ ap (λ (s : Step). Ok s) (c.in-Block.is ∙ ap (λ (x : Content). Block n x) holds)) in
    let f = advanced g.S.Source.left g.S.Source.faults c.loop-packets.r c.advance.new.self
    (Ok (Block n (Holds packet))) c.loop-packets.invariant.fresh a in
    let place = f.2.3 in
    let moment : c.r.inside.place.last ≡ moment_at c.loop-packets.r.place packet.time =
    ap (λ (x : Reader g.row.S.Denot). x.place.last) c.r.view_is ∙ ap (λ (p : Place). p.last) place in
    let number = ap (λ (p : Place). p.number) place in
    let last = ap (λ (p : Place). p.last.0) place in
    let block = ap (λ (p : Place). p.block) place in
    let room = ap (λ (p : Place). p.room) place in
    let now = ap (λ (m : Moment). m.0) moment in
    let high = moment_early c.loop-packets.r.place packet.time c.loop-packets.invariant.early in
    let low = moment_late c.loop-packets.r.place packet.time in
    let few : c.loop-packets.r.place.block ≤ most_octets =
    omega (arith, c.loop-packets.invariant.room, f.2.0.0, f.2.0.2) in
    record {
      so_far = λ octets stands. rw
          (c.in_ok-push.ensures.items, c.in_ok-push-2.ensures.ok, f.2.1, f.2.2, place)
          (goes_on _ _ c.loop-packets.r.order c.loop-packets.r.interfaces c.args.vips.now _ c.loop-packets.r.place
          c.loop-packets.records.items c.loop-packets.packets n packet c.octets.result.now _ c.r.inside.place.last
          c.classify_by-body.result.0 c.classify_by-body.result.1.now (c.loop-packets.invariant.so_far octets stands)
          f.0 few f.2.0.4.1 c.octets.ensures.octets moment c.classify_by-body.ensures.class);
      began = λ octets stands. rw (f.2.1, f.2.2, place)
          (began_more _ _ c.loop-packets.r.order c.loop-packets.r.interfaces c.loop-packets.r.place n (Holds packet) _ _
          (c.loop-packets.invariant.began octets stands) f.0 few);
      count = omega (
        arith,
        ap length c.in_ok-push-2.ensures.ok,
        length-append c.loop-packets.packets
            (c.classify_by-body.result.1.now ∷ []),
        number,
        c.loop-packets.invariant.count,
      );
      few = omega (arith, number, f.2.0.4.0);
      room = omega (arith, block, room, c.loop-packets.invariant.room, f.2.0.0, f.2.0.2);
      packed = rw (c.in_ok-push.ensures.items, c.in_ok-push-2.ensures.ok)
          (packets_more c.loop-packets.records.items c.loop-packets.packets _ c.classify_by-body.result.1.now
          c.loop-packets.invariant.packed c.classify_by-body.ensures.packet);
      rise = λ m early few. rw c.in_ok-push.ensures.items
          (rising_more 0 latest m c.loop-packets.records.items _ (omega (arith, now, last, early)) few
          (c.loop-packets.invariant.rise c.r.inside.place.last.0 (omega (arith, now, low)) (omega (arith, now, high))));
      early = omega (arith, last, high);
      fit = rw c.in_ok-push.ensures.items
          (fit_more c.args.vips.now c.loop-packets.records.items _ c.loop-packets.invariant.fit
          (c.classify_by-body.ensures.fit c.r.inside.place.last.0));
      fresh = f.2.4;
      kept = f.1.kept (λ is. cc) ∙ c.loop-packets.invariant.kept;
    }

pub returns-in-Cut-clause-began : goal.returns-in-Cut-clause-began
returns-in-Cut-clause-began g c octets stands =
    let a = gave g.S.Source.left g.S.Source.faults c.loop-packets.r c.advance.new.self c.advance.result (Ok Cut)
    c.advance.ensures.advances (c.in_ok-size.was ∙ ap (λ (s : Step). Ok s) c.in-Cut.is) in
    let f = advanced g.S.Source.left g.S.Source.faults c.loop-packets.r c.advance.new.self (Ok Cut)
    c.loop-packets.invariant.fresh a in
    ap (λ (p : Place). time_or_zero p.first) f.2.2
    ∙ knows_began c.loop-packets.r.place.first octets
    (began_ends _ _ c.loop-packets.r.order c.loop-packets.r.interfaces c.loop-packets.r.place Cut _ _ tt
    (c.loop-packets.invariant.began octets stands) f.0)

pub returns-in-End-clause-began : goal.returns-in-End-clause-began
returns-in-End-clause-began g c octets stands =
    let a = gave g.S.Source.left g.S.Source.faults c.loop-packets.r c.advance.new.self c.advance.result (Ok End)
    c.advance.ensures.advances (c.in_ok-size.was ∙ ap (λ (s : Step). Ok s) c.in-End.is) in
    let f = advanced g.S.Source.left g.S.Source.faults c.loop-packets.r c.advance.new.self (Ok End)
    c.loop-packets.invariant.fresh a in
    ap (λ (p : Place). time_or_zero p.first) f.2.2
    ∙ knows_began c.loop-packets.r.place.first octets
    (began_ends _ _ c.loop-packets.r.order c.loop-packets.r.interfaces c.loop-packets.r.place End _ _ tt
    (c.loop-packets.invariant.began octets stands) f.0)

use Rattle.std.proofs.Common.{◌≡◌, ◌∷◌, [], None, ◌∙◌, ap, sym, arith, refl, Ok, length, Some, length-append, unwrap_or}
use Rattle.std.proofs.lemmas.Result.{err_from_is_err_and}
use Rattle.bm_base.specs.declared.capture.Capture.{Capture}
use Rattle.bm_base.specs.declared.ids.Moment.{Moment}
use Rattle.bm_link.specs.Classes.{classified}
use Rattle.bm_pcap.specs.declared.form.Form.{Form}
use Rattle.bm_pcap.specs.declared.place.Place.{Place}
use Rattle.bm_pcap.specs.declared.item.Item.{Item}
use Rattle.bm_pcap.specs.declared.item.Item.TheVariants as item
use Rattle.bm_pcap.specs.declared.step.Step.TheVariants as step
use Rattle.bm_pcap.specs.Records.{moment_at}
use Rattle.bm_pcap.specs.Limits.{latest}
use Rattle.bm_pcap.proofs.Rising.{rising_more, fit_more, moment_early, moment_late, replayable_so_far}
use Rattle.bm_pcap.proofs.Began.{began_starts, began_more, began_ends, first_early}
use Rattle.bm_pcap.proofs.Packets.{none_yet, packets_more}
use Rattle.bm_pcap.proofs.Loop.{starts, stands_ahead, first_number, gave, last_of, stepped, failed, answered}
use Rattle.bm_pcap.proofs.Loop.{cause_from, cause_still, wants_memory, at_cut, at_end, at_fault, goes_on}
use Rattle.bm_pcap.proofs.reader.read_capture.Goals as goal

pub loop-packets-init : goal.loop-packets-init
loop-packets-init g c =
    let one = first_number c.args.r.now.place c.requires.0 in
    record {
      so_far = λ octets stands. rw (c.new-records.ensures.items, c.new-packets.ensures)
          (starts _ c.args.r.now.form c.args.vips.now c.args.r.now.place octets
          (stands_ahead _ c.args.r.now.buffered c.args.r.now.form octets c.requires.2 stands) c.requires.0);
      began = λ octets stands. began_starts _ c.args.r.now.form c.args.r.now.place octets
          (stands_ahead _ c.args.r.now.buffered c.args.r.now.form octets c.requires.2 stands) c.requires.0;
      soon = rw c.requires.0 (omega arith);
      count = rw c.new-packets.ensures (sym one);
      few = omega (arith, one);
      form = refl;
      packed = rw (c.new-records.ensures.items, c.new-packets.ensures) none_yet;
      rise = λ m low few. rw c.new-records.ensures.items (omega arith, few, tt);
      early = rw c.requires.0 (omega arith);
      fit = rw c.new-records.ensures.items tt;
      fresh = c.requires.1;
      kept = refl;
    }

pub returns-in_err-moment-clause-capture : goal.returns-in_err-moment-clause-capture
returns-in_err-moment-clause-capture g c octets stands =
    let p = err_from_is_err_and c.from_residual.result c.from_residual.ensures.1 in
    let f = failed g.S.Source.left g.S.Source.faults c.loop-packets.r c.next.follows.lender-at-none c.next.result
    c.in_err-moment.field-0.0 c.loop-packets.invariant.fresh c.next.follows.holds-at-none.0 c.in_err-moment.was in
    rw (p.1, p.2)
    (at_fault _ _ c.loop-packets.r.form c.args.vips.now _ c.loop-packets.r.place c.loop-packets.records.items
    c.loop-packets.packets c.in_err-moment.field-0.0 _ (c.loop-packets.invariant.so_far octets stands) f.0)

pub loop-packets-preserved : goal.loop-packets-preserved
loop-packets-preserved g c =
    let given =
    gave g.S.Source.left g.S.Source.faults c.loop-packets.r c.next.follows.lender-at-none c.next.result
    (item.Record c.in-Record.number c.in-Record.moment c.in-Record.octets) c.next.follows.holds-at-none.0
    (c.in_ok-moment.was ∙ ap (λ (a : Item). Ok a) c.in-Record.is) in
    let f = stepped g.S.Source.left g.S.Source.faults c.loop-packets.r c.next.follows.lender-at-none
    (step.Record given.0 (length c.in-Record.octets.now)) c.in-Record.octets.now c.loop-packets.invariant.fresh
    given.1.0 in
    let place = f.2.2 in
    let moment : c.in-Record.moment ≡ moment_at c.loop-packets.r.place given.0 =
    given.1.2 ∙ ap (λ (p : Place). p.last) place in
    let class : (c.classify-body.result.0, c.classify-body.result.1.now)
    ≡ classified c.loop-packets.r.form.link c.args.vips.now c.in-Record.octets.now =
    c.classify-body.ensures.class
    ∙ ap (λ l. classified l c.args.vips.now c.in-Record.octets.now)
    (c.link-link.ensures.link ∙ ap (λ (x : Form). x.link) (sym c.loop-packets.invariant.form)) in
    let number = ap (λ (p : Place). p.number) place in
    let last = ap (λ (p : Place). p.last.0) place in
    let now = ap (λ (n : Moment). n.0) moment in
    let high = moment_early c.loop-packets.r.place given.0 c.loop-packets.invariant.early f.2.0.3 in
    let low = moment_late c.loop-packets.r.place given.0 in
    record {
      so_far = λ octets stands. rw
          (c.in_ok-push-in-Record.ensures.items, c.in_ok-push-in-Record-2.ensures.ok, f.2.1, place)
          (goes_on _ _ c.loop-packets.r.form c.args.vips.now _ c.loop-packets.r.place c.loop-packets.records.items
          c.loop-packets.packets given.0 c.in-Record.octets.now c.in-Record.moment c.classify-body.result.0
          c.classify-body.result.1.now (c.loop-packets.invariant.so_far octets stands) f.0 f.2.0.0 moment
          class);
      began = λ octets stands. rw (f.2.1, place)
          (began_more _ _ c.loop-packets.r.form c.loop-packets.r.place given.0 _ _ _
          (c.loop-packets.invariant.began octets stands) f.0);
      soon = rw place (first_early c.loop-packets.r.place.first given.0 c.loop-packets.invariant.soon f.2.0.3);
      count = omega (
        arith,
        ap length c.in_ok-push-in-Record-2.ensures.ok,
        length-append c.loop-packets.packets
            (c.classify-body.result.1.now ∷ []),
        number,
        c.loop-packets.invariant.count,
      );
      few = omega (arith, number, f.2.0.0);
      form = f.2.1 ∙ c.loop-packets.invariant.form;
      packed = rw (c.in_ok-push-in-Record.ensures.items, c.in_ok-push-in-Record-2.ensures.ok)
          (packets_more c.loop-packets.records.items c.loop-packets.packets _ c.classify-body.result.1.now
          c.loop-packets.invariant.packed c.classify-body.ensures.packet);
      rise = λ m early few. rw c.in_ok-push-in-Record.ensures.items
          (rising_more 0 latest m c.loop-packets.records.items _ (omega (arith, now, last, early)) few
          (c.loop-packets.invariant.rise c.in-Record.moment.0 (omega (arith, now, low)) (omega (arith, now, high))));
      early = omega (arith, last, high);
      fit = rw c.in_ok-push-in-Record.ensures.items
          (fit_more c.args.vips.now c.loop-packets.records.items _ c.loop-packets.invariant.fit
          (c.classify-body.ensures.fit c.in-Record.moment.0));
      fresh = f.2.3;
      kept = f.1.kept (λ is. cc) ∙ c.loop-packets.invariant.kept;
    }

pub returns-in-Cut-clause-capture : goal.returns-in-Cut-clause-capture
returns-in-Cut-clause-capture g c octets stands =
    let given =
    gave g.S.Source.left g.S.Source.faults c.loop-packets.r c.next.follows.lender-at-none c.next.result
    (item.Cut c.in-Cut.number) c.next.follows.holds-at-none.0
    (c.in_ok-moment.was ∙ ap (λ (a : Item). Ok a) c.in-Cut.is) in
    let f = stepped g.S.Source.left g.S.Source.faults c.loop-packets.r c.next.follows.lender-at-none step.Cut []
    c.loop-packets.invariant.fresh given.0 in
    ap (λ (x : Capture). Ok (x, c.loop-packets.packets))
    (c.captured.ensures ∙ ap (λ n. record { records = c.loop-packets.records.items; cut = Some n }) given.1)
    ∙ at_cut _ _ c.loop-packets.r.form c.args.vips.now _ c.loop-packets.r.place c.loop-packets.records.items
    c.loop-packets.packets _ (c.loop-packets.invariant.so_far octets stands) f.0

pub returns-in-End-clause-capture : goal.returns-in-End-clause-capture
returns-in-End-clause-capture g c octets stands =
    let given =
    gave g.S.Source.left g.S.Source.faults c.loop-packets.r c.next.follows.lender-at-none c.next.result item.End
    c.next.follows.holds-at-none.0 (c.in_ok-moment.was ∙ ap (λ (a : Item). Ok a) c.in-End.is) in
    let f = stepped g.S.Source.left g.S.Source.faults c.loop-packets.r c.next.follows.lender-at-none step.End []
    c.loop-packets.invariant.fresh given in
    ap (λ (x : Capture). Ok (x, c.loop-packets.packets)) c.captured-in-End.ensures
    ∙ at_end _ _ c.loop-packets.r.form c.args.vips.now _ c.loop-packets.r.place c.loop-packets.records.items
    c.loop-packets.packets _ (c.loop-packets.invariant.so_far octets stands) f.0

pub returns-in-Cut-clause-replayable : goal.returns-in-Cut-clause-replayable
returns-in-Cut-clause-replayable g c =
    rw c.captured.ensures
    (replayable_so_far c.args.vips.now c.loop-packets.records.items (Some c.in-Cut.number) c.loop-packets.packets
    c.loop-packets.r.place.number c.loop-packets.r.place.last.0 c.loop-packets.invariant.count
    c.loop-packets.invariant.few c.loop-packets.invariant.packed
    c.loop-packets.invariant.early c.loop-packets.invariant.rise c.loop-packets.invariant.fit)

pub returns-in-End-clause-replayable : goal.returns-in-End-clause-replayable
returns-in-End-clause-replayable g c =
    rw c.captured-in-End.ensures
    (replayable_so_far c.args.vips.now c.loop-packets.records.items None c.loop-packets.packets
    c.loop-packets.r.place.number c.loop-packets.r.place.last.0 c.loop-packets.invariant.count
    c.loop-packets.invariant.few c.loop-packets.invariant.packed
    c.loop-packets.invariant.early c.loop-packets.invariant.rise c.loop-packets.invariant.fit)

pub returns-in_err-moment-clause-last : goal.returns-in_err-moment-clause-last
returns-in_err-moment-clause-last g c =
    let p = err_from_is_err_and c.from_residual.result c.from_residual.ensures.1 in
    rw (p.1, p.2)
    (last_of g.S.Source.left g.S.Source.faults c.loop-packets.r c.next.follows.lender-at-none c.next.result
    c.in_err-moment.field-0.0 c.loop-packets.invariant.fresh c.next.follows.holds-at-none.0 c.in_err-moment.was)

pub returns-in-Cut-clause-last : goal.returns-in-Cut-clause-last
returns-in-Cut-clause-last g c =
    rw c.captured.ensures (
      c.loop-packets.r,
      (
        c.loop-packets.invariant.fresh,
        (gave g.S.Source.left g.S.Source.faults c.loop-packets.r c.next.follows.lender-at-none c.next.result
            (item.Cut c.in-Cut.number) c.next.follows.holds-at-none.0
            (c.in_ok-moment.was ∙ ap (λ (a : Item). Ok a) c.in-Cut.is)).0,
      ),
    )

pub returns-in-End-clause-last : goal.returns-in-End-clause-last
returns-in-End-clause-last g c =
    rw c.captured-in-End.ensures (
      c.loop-packets.r,
      (
        c.loop-packets.invariant.fresh,
        gave g.S.Source.left g.S.Source.faults c.loop-packets.r
            c.next.follows.lender-at-none c.next.result item.End c.next.follows.holds-at-none.0
            (c.in_ok-moment.was ∙ ap (λ (a : Item). Ok a) c.in-End.is),
      ),
    )

pub returns-in_err-moment-clause-cause : goal.returns-in_err-moment-clause-cause
returns-in_err-moment-clause-cause g c =
    let p = err_from_is_err_and c.from_residual.result c.from_residual.ensures.1 in
    let f = failed g.S.Source.left g.S.Source.faults c.loop-packets.r c.next.follows.lender-at-none c.next.result
    c.in_err-moment.field-0.0 c.loop-packets.invariant.fresh c.next.follows.holds-at-none.0 c.in_err-moment.was in
    rw (p.1, p.2) (cause_from _ _ _ c.in_err-moment.field-0.0 c.loop-packets.invariant.kept f.1)

pub returns-in_err-push-in-Record-clause-cause : goal.returns-in_err-push-in-Record-clause-cause
returns-in_err-push-in-Record-clause-cause g c =
    let f = answered g.S.Source.left g.S.Source.faults c.loop-packets.r c.next.follows.lender-at-none c.next.result _
    c.loop-packets.invariant.fresh c.next.follows.holds-at-none.0 c.in_ok-moment.was in
    let p = err_from_is_err_and c.from_residual-in_err-push-in-Record.result
    c.from_residual-in_err-push-in-Record.ensures.1 in
    cause_still _ _ _ (f ∙ c.loop-packets.invariant.kept) (λ is. wants_memory _ _ p.1 p.2 is)

pub returns-in_err-push-in-Record-2-clause-cause : goal.returns-in_err-push-in-Record-2-clause-cause
returns-in_err-push-in-Record-2-clause-cause g c =
    let f = answered g.S.Source.left g.S.Source.faults c.loop-packets.r c.next.follows.lender-at-none c.next.result _
    c.loop-packets.invariant.fresh c.next.follows.holds-at-none.0 c.in_ok-moment.was in
    let p = err_from_is_err_and c.from_residual-in_err-push-in-Record-2.result
    c.from_residual-in_err-push-in-Record-2.ensures.1 in
    cause_still _ _ _ (f ∙ c.loop-packets.invariant.kept) (λ is. wants_memory _ _ p.1 p.2 is)

pub returns-in-Cut-clause-cause : goal.returns-in-Cut-clause-cause
returns-in-Cut-clause-cause g c =
    let f = answered g.S.Source.left g.S.Source.faults c.loop-packets.r c.next.follows.lender-at-none c.next.result _
    c.loop-packets.invariant.fresh c.next.follows.holds-at-none.0 c.in_ok-moment.was in
    cause_still _ _ _ (f ∙ c.loop-packets.invariant.kept) (λ is. cc)

pub returns-in-End-clause-cause : goal.returns-in-End-clause-cause
returns-in-End-clause-cause g c =
    let f = answered g.S.Source.left g.S.Source.faults c.loop-packets.r c.next.follows.lender-at-none c.next.result _
    c.loop-packets.invariant.fresh c.next.follows.holds-at-none.0 c.in_ok-moment.was in
    cause_still _ _ _ (f ∙ c.loop-packets.invariant.kept) (λ is. cc)

pub returns-in-Cut-clause-began : goal.returns-in-Cut-clause-began
returns-in-Cut-clause-began g c octets stands =
    let given =
    gave g.S.Source.left g.S.Source.faults c.loop-packets.r c.next.follows.lender-at-none c.next.result
    (item.Cut c.in-Cut.number) c.next.follows.holds-at-none.0
    (c.in_ok-moment.was ∙ ap (λ (a : Item). Ok a) c.in-Cut.is) in
    let f = stepped g.S.Source.left g.S.Source.faults c.loop-packets.r c.next.follows.lender-at-none step.Cut []
    c.loop-packets.invariant.fresh given.0 in
    ap (λ (p : Place). unwrap_or p.first 0) f.2.1
    ∙ began_ends _ _ c.loop-packets.r.form c.loop-packets.r.place step.Cut _ _ tt
    (c.loop-packets.invariant.began octets stands) f.0

pub returns-in-End-clause-began : goal.returns-in-End-clause-began
returns-in-End-clause-began g c octets stands =
    let given =
    gave g.S.Source.left g.S.Source.faults c.loop-packets.r c.next.follows.lender-at-none c.next.result item.End
    c.next.follows.holds-at-none.0 (c.in_ok-moment.was ∙ ap (λ (a : Item). Ok a) c.in-End.is) in
    let f = stepped g.S.Source.left g.S.Source.faults c.loop-packets.r c.next.follows.lender-at-none step.End []
    c.loop-packets.invariant.fresh given in
    ap (λ (p : Place). unwrap_or p.first 0) f.2.1
    ∙ began_ends _ _ c.loop-packets.r.form c.loop-packets.r.place step.End _ _ tt
    (c.loop-packets.invariant.began octets stands) f.0

pub returns-in-Cut-clause-early : goal.returns-in-Cut-clause-early
returns-in-Cut-clause-early g c =
    let given =
    gave g.S.Source.left g.S.Source.faults c.loop-packets.r c.next.follows.lender-at-none c.next.result
    (item.Cut c.in-Cut.number) c.next.follows.holds-at-none.0
    (c.in_ok-moment.was ∙ ap (λ (a : Item). Ok a) c.in-Cut.is) in
    let f = stepped g.S.Source.left g.S.Source.faults c.loop-packets.r c.next.follows.lender-at-none step.Cut []
    c.loop-packets.invariant.fresh given.0 in
    rw f.2.1 c.loop-packets.invariant.soon

pub returns-in-End-clause-early : goal.returns-in-End-clause-early
returns-in-End-clause-early g c =
    let given =
    gave g.S.Source.left g.S.Source.faults c.loop-packets.r c.next.follows.lender-at-none c.next.result item.End
    c.next.follows.holds-at-none.0 (c.in_ok-moment.was ∙ ap (λ (a : Item). Ok a) c.in-End.is) in
    let f = stepped g.S.Source.left g.S.Source.faults c.loop-packets.r c.next.follows.lender-at-none step.End []
    c.loop-packets.invariant.fresh given in
    rw f.2.1 c.loop-packets.invariant.soon

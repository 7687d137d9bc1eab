use Rattle.std.proofs.Common.{◌≡◌, ℕ, zero, suc, ◌+◌, ◌*◌, ◌≤◌, ◌^◌, ◌∷◌, [], ◌++◌, List, Some, length, map, slice_get}
use Rattle.std.proofs.Common.{get_or, length-append, refl, sym, ap, subst, ◌∙◌, arith}
use Rattle.std.specs.List.{AllByRecursion}
use Rattle.std.proofs.lemmas.List.{map-append}
use Rattle.std.proofs.lemmas.Option.{same_Some}
use Rattle.bm_base.specs.declared.capture.Record.{Record}
use Rattle.bm_base.specs.Captures.{AreRising, IsFit}
use Rattle.bm_link.specs.Fits.{ArePackets, IsPacketOf}
use Rattle.bm_table.specs.Settings.{plain_setting}
use Rattle.bm_replay.proofs.SmallStages.{fit_push, rising_higher, rising_push}
use Rattle.bm_replay_tests.proofs.stages.capture.Goals as goal

one_more : (records new : List Record) (i at next : ℕ) (r : Record) → new ≡ records ++ r ∷ [] → r.moment.0 ≡ at
    → at ≤ next → IsFit plain_setting.vips r
    → length records ≡ i → AreRising 0 at (map (λ x. x.moment.0) records)
    → AllByRecursion (λ x. IsFit plain_setting.vips x) records
    → (length new ≡ i + 1) × AreRising 0 next (map (λ x. x.moment.0) new)
    × AllByRecursion (λ x. IsFit plain_setting.vips x) new
one_more records new i at next r is moment later fit count rises fits =
    let rise : AreRising 0 r.moment.0 (map (λ x. x.moment.0) records) =
    subst (λ (n : ℕ). AreRising 0 n (map (λ x. x.moment.0) records)) (sym moment) rises
    in let all : AreRising 0 next (map (λ x. x.moment.0) records ++ r.moment.0 ∷ []) =
    rising_push 0 r.moment.0 next (map (λ x. x.moment.0) records) rise (omega arith)
    (let m = moment in let l = later in omega arith)
    in (
      ap (λ (l : List Record). length l) is ∙ (length-append records (r ∷ []) ∙ omega arith),
      subst (λ (l : List ℕ). AreRising 0 next l)
          (sym (map-append (λ (x : Record). x.moment.0) records (r ∷ []))
          ∙ ap (λ (l : List Record). map (λ x. x.moment.0) l) (sym is)) all,
      subst (λ (l : List Record). AllByRecursion (λ x. IsFit plain_setting.vips x) l) (sym is)
          (fit_push records r fits fit),
    )

each_more : (records : List Record) (packets : List (List ℕ)) (r : Record) (packet : List ℕ)
    → length packets ≡ length records → IsPacketOf r.body packet
    → ((i : ℕ) (x : Record) → slice_get records i ≡ Some x → IsPacketOf x.body (get_or packets i []))
    → (i : ℕ) (x : Record) → slice_get (records ++ r ∷ []) i ≡ Some x
    → IsPacketOf x.body (get_or (packets ++ packet ∷ []) i [])
each_more [] [] r packet count is each zero x at =
    subst (λ (y : Record). IsPacketOf y.body packet) (same_Some _ _ at) is
each_more [] [] r packet count is each (suc i) x at = absurd (cc)
each_more [] (p ∷ packets) r packet count is each i x at = absurd (omega arith)
each_more (y ∷ records) [] r packet count is each i x at = absurd (omega arith)
each_more (y ∷ records) (p ∷ packets) r packet count is each zero x at = each zero x at
each_more (y ∷ records) (p ∷ packets) r packet count is each (suc i) x at =
    each_more records packets r packet (omega arith) is (λ j z there. each (suc j) z there) i x at

packets_more : (records new : List Record) (packets more : List (List ℕ)) (r : Record) (packet : List ℕ) → new ≡ records
    ++ r ∷ [] → more ≡ packets ++ packet ∷ [] → IsPacketOf r.body packet
    → ArePackets records packets → ArePackets new more
packets_more records new packets more r packet new_is more_is is are = rw (new_is, more_is) (record {
  count = length-append packets (packet ∷ [])
      ∙ (ap (λ (n : ℕ). n + 1) are.count ∙ sym (length-append records (r ∷ [])));
  each = each_more records packets r packet are.count is are.each;
})

pub loop-i-preserved : goal.loop-i-preserved
loop-i-preserved c =
    let inv = c.loop-i.invariant
    in let more =
    one_more c.loop-i.records.items c.push-in-loop-i.new.self.items c.loop-i.i c.loop-i.next
    (c.loop-i.next + c.args.gap) _ c.in_ok-push-2.ensures.items refl (omega arith)
    (c.classify-body.ensures.fit c.loop-i.next) inv.0 inv.2 inv.3
    in (
      more.0,
      (let h = c.requires.gap in let n = inv.1 in omega arith),
      more.1,
      more.2,
      packets_more c.loop-i.records.items c.push-in-loop-i.new.self.items c.loop-i.packets
          c.push.new.self _ _ c.in_ok-push-2.ensures.items c.in_ok-push.ensures.ok c.classify-body.ensures.packet inv.4,
    )

pub returns-clause-fit : goal.returns-clause-fit
returns-clause-fit c =
    let inv = c.loop-i.invariant
    in let records : c.of-records.result ≡ c.loop-i.records.items = c.of-records.ensures
    in rw records (record {
      few = let h = c.requires.few in let n = inv.0 in let e = c.loop-i.auto.i-end in omega arith;
      rise = rising_higher 0 c.loop-i.next (44 * 10 ^ 17) (map (λ r. r.moment.0) c.loop-i.records.items) inv.2
          (let h = c.requires.few in let n = inv.1 in let e = c.loop-i.auto.i-end in omega arith);
      fit = inv.3;
    })

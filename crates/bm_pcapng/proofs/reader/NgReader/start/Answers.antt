use Rattle.std.proofs.Common.{◌≤◌, ◌+◌, subst, sym, arith}
use Rattle.bm_pcap.proofs.Windows.{length_range}
use Rattle.bm_pcapng.specs.declared.place.Place.{Place}
use Rattle.bm_pcapng.proofs.reader.NgReader.start.Goals as goal

pub invariant_of-result : goal.invariant_of-result
invariant_of-result g c =
    let w = c.open.new.window in
    let wide = c.in-Ok-open.ensures.wide in
    let size = length_range w.octets.items w.from w.upto w.within in
    let P : Place → Type 0 = λ p. p.block + p.room ≤ 268435457 in
    let Q : Place → Type 0 = λ p. p.number ≤ 200001 in (
      omega (arith, size, w.within, wide),
      tt,
      subst P (sym c.first.ensures) (omega arith),
      subst Q (sym c.first.ensures) (omega arith),
      wide,
    )

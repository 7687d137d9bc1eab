use Rattle.std.proofs.Common.{◌≡◌, ◌≤◌, ℕ, List, length, arith, sym, subst, ap, ◌∙◌, rules}
use Rattle.std.proofs.Common.{w64}
use Rattle.std.proofs.lemmas.Int.{to_z-of_z}
use Rattle.std.specs.Prelude.{ℤ}
use mir.Val.{SFits}
use Rattle.std.specs.Prelude.{◌∷◌}
use Rattle.bm_stream.specs.Views.{HasTaken}
use Rattle.bm_stream.specs.Accepts.{fin_of}
use Rattle.bm_link.specs.Fits.{ReadsAs}
use Rattle.bm_tcp.specs.Packets.{data_in}
use Rattle.bm_stream.proofs.Collecting.{packet_taken}
use Rattle.bm_stream.proofs.Lengths.{length_stream}
use Rattle.bm_stream.proofs.Reading.{packet_there}
use Rattle.bm_stream.proofs.collect.take_packet.Goals as goal

pub read_data-data-requires-clause-short : goal.read_data-data-requires-clause-short
read_data-data-requires-clause-short c =
    let there = packet_there c.args.stage.now c.args.octets.now c.args.packet c.in-Some.segment c.requires.packets
    (sym c.in-Some.ensures)
    in
    let packet : length c.get.result.now ≤ 65479 = subst (λ (l : List ℕ). length l ≤ 65479) (sym c.get.ensures) there.1.0 in
    omega arith

pub read_data-data-requires-clause-reads : goal.read_data-data-requires-clause-reads
read_data-data-requires-clause-reads c =
    let there = packet_there c.args.stage.now c.args.octets.now c.args.packet c.in-Some.segment c.requires.packets
    (sym c.in-Some.ensures)
    in
    (c.in-Some.segment, subst (λ (l : List ℕ). ReadsAs l c.in-Some.segment) (sym c.get.ensures) there.1.1)

pub place_of-place-requires : goal.place_of-place-requires
place_of-place-requires c =
    let is = c.length.ensures c.requires.short.pieces c.requires.short.taken in omega (arith, is, c.requires.short.short)

pub take-requires-clause-few : goal.take-requires-clause-few
take-requires-clause-few c =
    let there = packet_there c.args.stage.now c.args.octets.now c.args.packet c.in-Some.segment c.requires.packets
    (sym c.in-Some.ensures)
    in
    let packet : length c.get.result.now ≤ 65479 = subst (λ (l : List ℕ). length l ≤ 65479) (sym c.get.ensures) there.1.0 in
    omega (arith, c.read_data-data.ensures.few)

pub returns : goal.returns
returns c pieces taken =
    let fits : SFits w64 c.place_of-place.result = search rules in
    let same = to_z-of_z w64 c.place_of-place.result fits in
    let fin : c.fin_of.result ≡ fin_of c.place_of-place.result c.in-Some.segment =
    subst (λ (z : ℤ). c.fin_of.result ≡ fin_of z c.in-Some.segment) same c.fin_of.ensures
    in
    packet_taken c.args.stage.now c.args.octets.now c.args.start pieces c.args.packet c.in-Some.segment
    c.length.result c.place_of-place.result c.read_data-data.result.now c.fin_of.result _ (sym c.in-Some.ensures)
    (c.length.ensures pieces taken ∙ length_stream pieces) c.place_of-place.ensures.is
    (c.read_data-data.ensures.data ∙ ap data_in c.get.ensures) fin
    (subst (λ (z : ℤ). HasTaken (record { place = z; octets = c.read_data-data.result.now; fin = c.fin_of.result } ∷ pieces)
    c.take.new.self) same (c.take.ensures pieces taken))

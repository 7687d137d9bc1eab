use Rattle.std.proofs.Common.{◌≡◌, ◌+◌, ◌≤◌, ◌^◌, arith, refl, ap, subst, ◌∙◌, Option, ℕ, length, drop, w64}
use Rattle.std.proofs.lemmas.Int.{to_z-of_z}
use Rattle.std.specs.Prelude.{ℤ}
use Rattle.bm_stream.specs.Pieces.{Piece, kept, stream, first_of_two, fin_after, fin_at}
use Rattle.bm_stream.specs.Inside.Places.{first_from, places_before}
use Rattle.bm_stream.specs.Rings.{held_at}
use Rattle.bm_stream.proofs.Lengths.{is_length}
use Rattle.bm_stream.proofs.Covering.{octet_from, octets_near}
use Rattle.bm_stream.proofs.Steps.{keeping_piece, piece_taken}
use Rattle.bm_stream.proofs.stream.Stream.take.Goals as goal

pub invariant_of-self : goal.invariant_of-self
invariant_of-self c =
    let same = to_z-of_z w64 c.args.place c.ranges.place in
    let s = c.args.self.now in
    let first : c.first_place-first.result ≡ first_from c.args.place s.length =
    subst (λ (z : ℤ). c.first_place-first.result ≡ first_from z s.length) same c.first_place-first.ensures
    in
    let rest : c.rest_from-rest.result.now ≡ drop (places_before c.args.place s.length) c.args.octets.now =
    subst (λ (z : ℤ). c.rest_from-rest.result.now ≡ drop (places_before z s.length) c.args.octets.now) same
    c.rest_from-rest.ensures
    in
    let near : c.first_place-first.result + length c.rest_from-rest.result.now ≤ 2 ^ 62 + 65535 =
    octets_near c.args.place c.args.octets.now _ s.length _ first rest c.requires.high s.near c.requires.few
    in
    record {
      based = c.args.self.now.based;
      near = c.args.self.now.near;
      inside = c.keep.ensures.below c.args.self.now.inside;
      bounded = c.keep.ensures.bounded _ (omega arith) c.args.self.now.bounded;
    }

pub returns : goal.returns
unfolding stream
returns c pieces taken =
    let same = to_z-of_z w64 c.args.place c.ranges.place in
    let p : Piece = record { place = c.args.place; octets = c.args.octets.now; fin = c.args.fin } in
    let s = c.args.self.now in
    let first : c.first_place-first.result ≡ first_from c.args.place s.length =
    subst (λ (z : ℤ). c.first_place-first.result ≡ first_from z s.length) same c.first_place-first.ensures
    in
    let rest : c.rest_from-rest.result.now ≡ drop (places_before c.args.place s.length) c.args.octets.now =
    subst (λ (z : ℤ). c.rest_from-rest.result.now ≡ drop (places_before z s.length) c.args.octets.now) same
    c.rest_from-rest.ensures
    in
    let fin : c.kept_fin-self.result ≡ fin_after p (kept pieces) =
    c.kept_fin-self.ensures ∙ ap (λ (o : Option ℕ). first_of_two o (fin_at s.length c.args.fin)) taken.fin
    ∙ ap (λ (n : ℕ). first_of_two (kept pieces).fin (fin_at n c.args.fin)) taken.length
    in
    let keeping =
    keeping_piece p (kept pieces) s _ (is_length pieces) taken.length
    taken.hash taken.octets refl refl refl fin
    (λ q behind near. c.keep.ensures.octets (s.base + q) (omega arith) (omega arith)
    ∙ ap (first_of_two (held_at s.ring.cells.items (s.base + q)))
    (octet_from c.args.place c.args.octets.now c.rest_from-rest.result.now s.length s.base
    c.first_place-first.result q first rest behind))
    in
    piece_taken p pieces _ (c.advance.ensures.keeping _ _ keeping) (c.advance.ensures.end _ _ keeping)
    (c.advance.ensures.fin ∙ fin)

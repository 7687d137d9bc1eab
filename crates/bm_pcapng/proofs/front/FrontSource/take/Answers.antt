use Rattle.std.proofs.Common.{◌≡◌, ◌+◌, ◌≤◌, ◌∙◌, arith, length, drop, length-append, length-drop}
use Rattle.std.proofs.lemmas.List.{length-take-le}
use Rattle.bm_pcapng.proofs.Fronts.{behind_front, given_front, piece_is}
use Rattle.bm_pcapng.proofs.front.FrontSource.take.Goals as goal

pub returns-then-self-clause-octets : goal.returns-then-self-clause-octets
returns-then-self-clause-octets g c = behind_front _ _ _ _ _ _ _ c.if-self.true c.take.ensures.octets

pub returns-clause-octets : goal.returns-clause-octets
returns-clause-octets g c =
    let front = c.args.self.now in
    let n = c.min-count.result in
    let inside : front.from + n ≤ front.upto = omega (arith, c.min-count.ensures, front.ordered) in
    let few : n ≤ length c.args.buf.now = omega (arith, c.min-count.ensures) in
    let size : length c.copy_from_slice.new.self ≡ n =
    c.copy_from_slice.ensures.len ∙ length-take-le n c.args.buf.now few in (
      given_front _ front.from front.upto n _ _ inside
          (piece_is _ c.copy_from_slice.new.self _ front.from front.upto n inside size c.copy_from_slice.ensures.after),
      λ none some. absurd (c.if-self.false (omega (
        arith,
        none,
        some,
        size,
        c.min-count.ensures,
        front.ordered,
        length-append c.copy_from_slice.new.self (drop n c.args.buf.now),
        length-drop n c.args.buf.now,
      ))),
    )

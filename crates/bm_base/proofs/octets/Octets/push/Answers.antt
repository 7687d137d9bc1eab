use Rattle.std.proofs.Common.{◌≡◌, ◌<◌, ◌∙◌, ◌++◌, ◌∷◌, [], ℕ, List, length, length-append, ap, arith, rules}
use Rattle.bm_base.proofs.Pieces.{ends_more, length_pieces, pieces_more}
use Rattle.bm_base.proofs.octets.Octets.push.Goals as goal

pub invariant_of-self-else-is_err : goal.invariant_of-self-else-is_err
invariant_of-self-else-is_err c =
    let a = c.self.inside in
    let xs : c.extend_from_slice.new.self.items ≡ a.octets.items ++ c.args.octets.now =
    c.in_ok-extend_from_slice.ensures.items in
    let n : c.len.result ≡ length c.extend_from_slice.new.self.items = search rules in
    let es : c.push.new.self.items ≡ a.ends.items ++ length c.extend_from_slice.new.self.items ∷ [] = search rules in
    let long = ap length xs ∙ length-append a.octets.items c.args.octets.now in
    let e = length_pieces 0 a.ends.items a.octets.items in
    let v = ap (λ (ls : List (List ℕ)). length ls) c.self.view_is in
    let few : length c.push.new.self.items < 4294967296 =
    omega (
      arith,
      ap length es,
      length-append a.ends.items (length c.extend_from_slice.new.self.items ∷ []),
      c.requires,
      e,
      v,
    ) in (
      few,
      rw es
          (ends_more 0 a.ends.items (length a.octets.items) (length c.extend_from_slice.new.self.items)
          c.self.invariant.1
          (omega (arith, long))),
    )

pub returns-clause-ok : goal.returns-clause-ok
returns-clause-ok c =
    let a = c.self.inside in
    let xs : c.extend_from_slice.new.self.items ≡ a.octets.items ++ c.args.octets.now =
    c.in_ok-extend_from_slice.ensures.items in
    let n : c.len.result ≡ length c.extend_from_slice.new.self.items = search rules in
    let es : c.push.new.self.items ≡ a.ends.items ++ length c.extend_from_slice.new.self.items ∷ [] = search rules in
    let long = ap length xs ∙ length-append a.octets.items c.args.octets.now in
    rw (es, xs)
    (pieces_more 0 a.ends.items a.octets.items c.args.octets.now _ c.self.invariant.1
    (length-append a.octets.items c.args.octets.now)
    ∙ ap (λ (ls : List (List ℕ)). ls ++ c.args.octets.now ∷ []) c.self.view_is)

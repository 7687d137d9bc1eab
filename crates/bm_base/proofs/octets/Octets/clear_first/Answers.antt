use Rattle.std.proofs.Common.{◌≡◌, ◌≤◌, ◌-◌, ◌∙◌, ℕ, List, length, length-drop, drop, map, ap, ap₂, arith}
use Rattle.std.proofs.lemmas.List.{length-map}
use Rattle.bm_base.specs.Pieces.{cleared}
use Rattle.bm_base.specs.Inside.Pieces.{begin_of, pieces}
use Rattle.bm_base.proofs.Pieces.{are_cleared, begins_within, ends_lowered, length_pieces}
use Rattle.bm_base.proofs.octets.Octets.clear_first.Goals as goal

pub begin-gone-requires : goal.begin-gone-requires
begin-gone-requires c =
    let a = c.self.inside in
    let e = length_pieces 0 a.ends.items a.octets.items in
    let v = ap (λ (ls : List (List ℕ)). length ls) c.self.view_is in
    omega (arith, e, v, c.requires, ap length c.deref.ensures.value)

pub remove_first-requires : goal.remove_first-requires
remove_first-requires c =
    let a = c.self.inside in
    let e = length_pieces 0 a.ends.items a.octets.items in
    let v = ap (λ (ls : List (List ℕ)). length ls) c.self.view_is in
    let few : c.args.count ≤ length a.ends.items = omega (arith, e, v, c.requires) in
    let gone : c.begin-gone.result ≡ begin_of a.ends.items c.args.count =
    c.begin-gone.ensures ∙ ap (λ (l : List ℕ). begin_of l c.args.count) c.deref.ensures.value in
    rw gone (begins_within c.args.count a.ends.items _ c.self.invariant.1 few)

pub invariant_of-self : goal.invariant_of-self
invariant_of-self c =
    let a = c.self.inside in
    let gone = c.begin-gone.result in
    let count : length c.lower.new.numbers.items ≡ length a.ends.items =
    ap length c.lower.ensures ∙ length-map a.ends.items (λ (n : ℕ). n - gone) in
    let long : length c.remove_first.new.octets.items ≡ length a.octets.items - gone =
    ap length c.remove_first.ensures ∙ length-drop gone a.octets.items in (
      omega (arith, count, c.self.invariant.0),
      rw (c.lower.ensures, long) (ends_lowered gone a.ends.items _ c.self.invariant.1),
    )

pub returns : goal.returns
returns c =
    let a = c.self.inside in
    let e = length_pieces 0 a.ends.items a.octets.items in
    let v = ap (λ (ls : List (List ℕ)). length ls) c.self.view_is in
    let few : c.args.count ≤ length a.ends.items = omega (arith, e, v, c.requires) in
    let gone : c.begin-gone.result ≡ begin_of a.ends.items c.args.count =
    c.begin-gone.ensures ∙ ap (λ (l : List ℕ). begin_of l c.args.count) c.deref.ensures.value in
    let ends : c.lower.new.numbers.items ≡ map (λ n. n - begin_of a.ends.items c.args.count) a.ends.items =
    c.lower.ensures ∙ ap (λ (n : ℕ). map (λ m. m - n) a.ends.items) gone in
    let left : c.remove_first.new.octets.items ≡ drop (begin_of a.ends.items c.args.count) a.octets.items =
    c.remove_first.ensures ∙ ap (λ (n : ℕ). drop n a.octets.items) gone in
    ap₂ (λ (x y : List ℕ). pieces 0 x y) ends left
    ∙ are_cleared c.args.count a.ends.items a.octets.items _ c.self.invariant.1 few
    ∙ ap (λ (ls : List (List ℕ)). cleared c.args.count ls) c.self.view_is

use Rattle.std.proofs.Common.{◌≡◌, ◌≤◌, ◌-◌, ◌+◌, ◌++◌, ◌∙◌, ap, ℕ, List, length, take, slice_range, arith, rules}
use Rattle.std.proofs.lemmas.List.{with_items_is}
use Rattle.std.specs.Vec.{with_items}
use Rattle.bm_pcap.specs.Window.{buffered}
use Rattle.bm_pcap.proofs.Windows.{grown, kept, keeps_same, keeps_more, grows_same, grows_more}
use Rattle.bm_pcap.proofs.window.Window.read.Goals as goal
use borrow.Rule.Slice.PartMut.{put_mid, same_len_mid}

-- what is read ahead after a failure, and after a piece
same : (g : _) (c : goal.After-from_residual g)
    → slice_range
    (with_items c.args.self.now.octets
    (put_mid c.args.self.now.upto (length c.deref_mut.result.now - c.args.self.now.upto) c.deref_mut.result.now
    c.take.new.buf)).items c.args.self.now.from c.args.self.now.upto ≡ buffered c.args.self.now
same g c =
    let w = c.args.self.now in
    let d : List ℕ = c.deref_mut.result.now in
    let is : d ≡ w.octets.items = c.deref_mut.ensures.value in
    let within : w.upto ≤ length d = omega (arith, w.within, ap length is) in
    let after : List ℕ = put_mid w.upto (length d - w.upto) d c.take.new.buf in
    let back : (with_items w.octets after).items ≡ after =
    with_items_is w.octets after
    (same_len_mid w.upto (length d - w.upto) d c.take.new.buf c.take.auto.buf ∙ ap length is ∙ search rules) in
    ap (λ (xs : List ℕ). slice_range xs w.from w.upto) back
    ∙ kept d c.take.new.buf w.from w.upto (length d - w.upto) w.ordered within
    ∙ ap (λ (xs : List ℕ). slice_range xs w.from w.upto) is

more : (g : _) (c : goal.After-self-2-1 g)
    → slice_range
    (with_items c.args.self.now.octets
    (put_mid c.args.self.now.upto (length c.deref_mut.result.now - c.args.self.now.upto) c.deref_mut.result.now
    c.take.new.buf)).items c.args.self.now.from (c.args.self.now.upto + c.in_ok-count.count) ≡ buffered c.args.self.now
    ++ take c.in_ok-count.count c.take.new.buf
more g c =
    let w = c.args.self.now in
    let n = c.in_ok-count.count in
    let d : List ℕ = c.deref_mut.result.now in
    let is : d ≡ w.octets.items = c.deref_mut.ensures.value in
    let within : w.upto ≤ length d = omega (arith, w.within, ap length is) in
    let after : List ℕ = put_mid w.upto (length d - w.upto) d c.take.new.buf in
    let back : (with_items w.octets after).items ≡ after =
    with_items_is w.octets after
    (same_len_mid w.upto (length d - w.upto) d c.take.new.buf c.take.auto.buf ∙ ap length is ∙ search rules) in
    ap (λ (xs : List ℕ). slice_range xs w.from (w.upto + n)) back
    ∙ grown d c.take.new.buf w.from w.upto (length d - w.upto) n w.ordered within c.in_ok-count.ensures.bound.0
    ∙ ap (λ (xs : List ℕ). slice_range xs w.from w.upto ++ take n c.take.new.buf) is

pub returns-in_err-count-clause-keeps : goal.returns-in_err-count-clause-keeps
returns-in_err-count-clause-keeps g c = keeps_same _ _ _ _ c.in_err-count.ensures.octets (same g c)

pub returns-clause-keeps : goal.returns-clause-keeps
returns-clause-keeps g c =
    keeps_more _ _ _ _ (take c.in_ok-count.count c.take.new.buf) c.in_ok-count.ensures.octets.0 (more g c)

pub returns-in_err-count-clause-grows : goal.returns-in_err-count-clause-grows
returns-in_err-count-clause-grows g c = grows_same _ _ (same g c)

pub returns-clause-grows : goal.returns-clause-grows
returns-clause-grows g c = grows_more _ _ (take c.in_ok-count.count c.take.new.buf) (more g c)

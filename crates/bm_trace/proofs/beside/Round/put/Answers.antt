use Rattle.std.proofs.Common.{◌∙◌, ap, rules, subst, sym}
use Rattle.std.proofs.lemmas.List.{with_items_is}
use Rattle.bm_trace.specs.Inside.Pieces.{HasDealt, PutsLines}
use Rattle.bm_trace.proofs.Parted.{on_err}
use Rattle.bm_trace.proofs.Pieces.{puts_left, puts_none, round_written}
use Rattle.bm_trace.proofs.beside.Round.put.Goals as goal

pub returns-in_err-behind-clause-err : goal.returns-in_err-behind-clause-err
returns-in_err-behind-clause-err g c =
    let h = c.args.h.now
    in let from = c.args.self.now.from
    in on_err _ _ (puts_left h from from _ _ (puts_none h from _))

pub returns-in_err-put_pieces-clause-err : goal.returns-in_err-put_pieces-clause-err
returns-in_err-put_pieces-clause-err g c =
    let is = c.deref.ensures.value
    ∙ with_items_is c.args.self.now.pieces c.write_beside.new.pieces
    (c.in_ok-behind.ensures.count ∙ c.as_mut_slice.ensures.len)
    in let written = round_written c.args.h.now c.args.self.now _ c.write_beside.new.pieces _ c.requires.round
    c.as_mut_slice.ensures.value c.in_ok-behind.ensures.count c.in_ok-behind.ensures.each is
    in on_err _ _ (c.in_err-put_pieces.ensures.err c.args.h.now c.args.self.now.from c.requires.round.from written.0)

pub returns-clause-lines : goal.returns-clause-lines
returns-clause-lines g c =
    let h = c.args.h.now
    in let from = c.args.self.now.from
    in let is = c.deref.ensures.value
    ∙ with_items_is c.args.self.now.pieces c.write_beside.new.pieces
    (c.in_ok-behind.ensures.count ∙ c.as_mut_slice.ensures.len)
    in let written = round_written h c.args.self.now _ c.write_beside.new.pieces _ c.requires.round
    c.as_mut_slice.ensures.value c.in_ok-behind.ensures.count c.in_ok-behind.ensures.each is
    in subst (λ to. PutsLines h from to (g.K.Sink.written c.args.out.now) (g.K.Sink.written c.put_pieces.new.out))
    written.1 (c.in_ok-put_pieces.ensures.ok h from c.requires.round.from written.0)

pub returns-clause-round : goal.returns-clause-round
returns-clause-round g c =
    let h = c.args.h.now
    in let is = ap (λ (v : _). v.items) c.swap.ensures.x_after
    ∙ with_items_is c.args.self.now.spare c.write_beside.new.spare
    (c.in_ok-behind.ensures.spare ∙ c.as_mut_slice-2.ensures.len)
    in record {
      from = search rules;
      dealt = subst (λ pieces. HasDealt h c.args.self.now.to pieces c.write_beside.new.sweeper c.in_ok-behind.behind)
          (sym is) c.in_ok-behind.ensures.dealt;
      some = search rules;
      spare = search rules;
    }

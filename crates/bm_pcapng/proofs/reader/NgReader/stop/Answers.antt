use Rattle.std.proofs.Common.{◌∙◌, ap, sym, refl, Ok, Err}
use Rattle.std.proofs.lemmas.Result.{err_from_is_err_and}
use Rattle.bm_pcapng.specs.declared.content.Content.{Content}
use Rattle.bm_pcapng.specs.declared.content.Content.TheVariants.{Holds}
use Rattle.bm_pcapng.specs.declared.step.Step.{Step}
use Rattle.bm_pcapng.specs.declared.step.Step.TheVariants.{Block, Cut, End}
use Rattle.bm_pcapng.specs.Reader.{Reader}
use Rattle.bm_pcapng.specs.Reader.Passes.{here, over}
use Rattle.bm_pcapng.proofs.Loop.{gave, holds_packet, without_packet}
use Rattle.bm_pcapng.proofs.reader.NgReader.stop.Goals as goal

pub loop-size-init : goal.loop-size-init
loop-size-init g c = here

pub returns-in_err-size-clause-gives : goal.returns-in_err-size-clause-gives
returns-in_err-size-clause-gives g c =
    let p = err_from_is_err_and c.from_residual.result c.from_residual.ensures.1 in
    rw (p.1, p.2) (
      c.loop-size.self.place.number,
      (
        c.loop-size.self,
        (
          c.loop-size.invariant,
          gave g.S.Source.left g.S.Source.faults c.loop-size.self c.advance.new.self c.advance.result
              (Err c.in_err-size.field-0.0) c.advance.ensures.advances c.in_err-size.was,
          refl,
        ),
      ),
    )

pub returns-in-Cut-clause-gives : goal.returns-in-Cut-clause-gives
returns-in-Cut-clause-gives g c = (
  c.loop-size.self,
  (
    c.loop-size.invariant,
    gave g.S.Source.left g.S.Source.faults c.loop-size.self c.advance.new.self c.advance.result (Ok Cut)
        c.advance.ensures.advances (c.in_ok-size.was ∙ ap (λ (s : Step). Ok s) c.in-Cut.is),
    ap (λ (x : Reader g.row.S.Denot). x.place.number) c.self.view_is,
  ),
)

pub returns-in-End-clause-gives : goal.returns-in-End-clause-gives
returns-in-End-clause-gives g c = (
  c.loop-size.self.place.number,
  (
    c.loop-size.self,
    (
      c.loop-size.invariant,
      gave g.S.Source.left g.S.Source.faults c.loop-size.self c.advance.new.self c.advance.result (Ok End)
          c.advance.ensures.advances (c.in_ok-size.was ∙ ap (λ (s : Step). Ok s) c.in-End.is),
      refl,
    ),
  ),
)

pub returns-in-Some-clause-gives : goal.returns-in-Some-clause-gives
returns-in-Some-clause-gives g c =
    let n = c.in-Block.size in
    let holds = holds_packet c.in-Block.content c.in-Some.packet (sym c.packet.ensures ∙ c.in-Some.is) in (
      c.loop-size.self,
      (
        c.loop-size.invariant,
        gave g.S.Source.left g.S.Source.faults c.loop-size.self c.advance.new.self c.advance.result
            (Ok (Block n (Holds c.in-Some.packet))) c.advance.ensures.advances
            (c.in_ok-size.was ∙ ap (λ (s : Step). Ok s) (c.in-Block.is ∙ ap (λ (x : Content). Block n x) holds)),
        ap (λ (x : Reader g.row.S.Denot). x.place.number) c.self.view_is,
      ),
    )

pub loop-size-preserved : goal.loop-size-preserved
loop-size-preserved g c =
    over c.loop-size.self c.advance.new.self c.in-Block.size c.in-Block.content _ c.loop-size.invariant
    (without_packet c.in-Block.content (sym c.packet.ensures ∙ c.in_default.is))
    (gave g.S.Source.left g.S.Source.faults c.loop-size.self c.advance.new.self c.advance.result
    (Ok (Block c.in-Block.size c.in-Block.content)) c.advance.ensures.advances
    (c.in_ok-size.was ∙ ap (λ (s : Step). Ok s) c.in-Block.is))

use Rattle.std.proofs.Common.{refl}
use Rattle.std.proofs.lemmas.Result.{err_from_is_err_and}
use Rattle.bm_pcapng.proofs.reader.NgReader.next.Goals as goal

pub returns-in_err-number : goal.returns-in_err-number
returns-in_err-number g c =
    let p = err_from_is_err_and c.from_residual.result c.from_residual.ensures.1 in (
      (refl, (λ _. tt), (rw (p.1, p.2) c.in_err-number.ensures.gives, c.in_err-number.ensures.bounded)),
      record { others = rw (p.1, p.2) c.in_err-number.ensures.others; after = tt },
    )

-- Where a worker stops.
use Rattle.std.proofs.Common.{◌≡◌, Result, Ok, Err, IsErrAnd, sym, subst}
use Rattle.bm_worker.specs.declared.stop.Stop.{Stop}
use Rattle.bm_worker.specs.declared.stop.Stop.TheVariants.{Late, Memory}
use Rattle.bm_lead.specs.Leaders.{OnLate, UnlessMemory}

-- an answer that was passed on
pub unless_late : {A : Type 0} (r : Result A Stop) (stop : Stop) (P Q : Type 0) → IsErrAnd r (λ e. e ≡ stop)
    → OnLate {T = A} (Err stop) Q → (Q → P) → UnlessMemory r P
unless_late (Ok x) stop P Q is late so = absurd is
unless_late {A = A} (Err (Late moment clock)) stop P Q is late so =
    so (subst (λ (s : Stop). OnLate {T = A} (Err s) Q) (sym is) late)
unless_late (Err Memory) stop P Q is late so = tt

pub unless_err : {A : Type 0} (r : Result A Stop) (stop : Stop) (P Q : Type 0) → IsErrAnd r (λ e. e ≡ stop)
    → UnlessMemory {T = A} (Err stop) Q → (Q → P) → UnlessMemory r P
unless_err (Ok x) stop P Q is led so = absurd is
unless_err {A = A} (Err (Late moment clock)) stop P Q is led so =
    so (subst (λ (s : Stop). UnlessMemory {T = A} (Err s) Q) (sym is) led)
unless_err (Err Memory) stop P Q is led so = tt

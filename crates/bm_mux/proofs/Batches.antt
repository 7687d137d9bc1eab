-- What a mux has done once it has its look back.
use Rattle.std.proofs.Common.{◌≡◌, ℕ, List, reverse, Ok, Err, ap, sym, ◌∙◌, subst, arith}
use Rattle.std.specs.Prelude.{Result, OnOk, OnErr}
use Rattle.bm_base.specs.declared.ids.MuxId.{MuxId}
use Rattle.bm_core.specs.declared.events.Event.{Event}
use Rattle.bm_core.specs.Past.{version_at}
use Rattle.bm_publish.specs.Posts.{Continues, IsPosted, Posted, last_version}
use Rattle.bm_mux.specs.Muxes.{HasLooked}
use Rattle.bm_mux.specs.Inside.Keeping.{IsKept}
use Rattle.bm_mux.proofs.Kept.{kept_later}

pub on_ok_both : {T E : Type 0} (r : Result T E) (P Q R : Type 0) → (P → Q → R) → OnOk r P → OnOk r Q → OnOk r R
on_ok_both (Ok x) P Q R f p q = f p q
on_ok_both (Err x) P Q R f p q = tt

pub on_err_then : {T E : Type 0} (r : Result T E) (P R : Type 0) → (P → R) → OnErr r P → OnErr r R
on_err_then (Ok x) P R f p = tt
on_err_then (Err x) P R f p = f p

-- the mux looked at the posts that the guard showed
pub has_looked : (id id' : MuxId) (buckets version clock buckets' version' clock' : ℕ) (log log' : List Event)
    (was seen left : Posted)
    → IsKept id buckets version clock log was → Continues was seen → left ≡ seen → IsPosted seen
    → id' ≡ id → IsKept id' buckets' version' clock' log' seen → version' ≡ last_version seen
    → HasLooked (record { id = id; seen = was; log = log }) (record { id = id'; seen = left; log = log' })
has_looked id id' buckets version clock buckets' version' clock' log log' was seen left h more back posted same kept
    new =
    let later : IsKept id buckets version clock log seen = kept_later id buckets version clock log was h seen more in
    let v = later.version_is in
    let n = later.newest in
    subst (λ (p : Posted). HasLooked (record { id = id; seen = was; log = log })
    (record { id = id'; seen = p; log = log' })) (sym back) (record {
      same = record { id = same; later = more };
      posted = posted;
      newer = omega arith;
      version = ap (λ m. (version_at (reverse log') m).0) (sym same) ∙ (sym kept.version_is ∙ new);
    })

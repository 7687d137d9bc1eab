-- Just the drops, the resets and the strays of a run have a cause.
use Rattle.std.proofs.Common.{◌≡◌, ℕ, true, false, inl, inr, List, Option, Some, None, is_some, refl, ap, arith}
use Rattle.std.proofs.lemmas.Bool.{cases_Bool}
use Rattle.std.proofs.lemmas.Bool.Decides.{nat_tests}
use Rattle.bm_base.specs.declared.flow.Segment.{Segment}
use Rattle.bm_base.specs.declared.ids.ServerId.{ServerId}
use Rattle.bm_base.specs.declared.label.Hop.{Hop}
use Rattle.bm_base.specs.declared.label.Label.{Label}
use Rattle.bm_core.specs.declared.events.Event.{Event}
use Rattle.bm_core.specs.declared.events.History.{History}
use Rattle.bm_core.specs.declared.events.Stage.{Stage}
use Rattle.bm_core.specs.declared.events.Verdict.{Verdict}
use Rattle.bm_core.specs.declared.events.What.{What}
use Rattle.bm_core.specs.declared.events.What.TheVariants.{Publish, Switch, Steer, Lose, Arrive, Close, Retire, Sync}
use Rattle.bm_core.specs.Causes.{cause, cause_at, wants_cause}
use Rattle.bm_core.specs.Laws.{At, IsBreak}
use Rattle.bm_core.specs.Past.{Accepted, owner, segment_of}
use Rattle.bm_core.specs.Runs.{IsRun, event_at, past_at}
use Rattle.bm_core.proofs.Lawful.{cause_law}
use Rattle.bm_trace.specs.CauseOf.{cause_of, is_break, is_break_after, is_break_at}

-- what is no break has no cause
no_cause : (stage : Stage) (past : List Event) (clock : ℕ) (hop : Hop) (server : ServerId) (verdict : Verdict)
    (a : Option Accepted) (s : Option Segment) (l : Option Label)
    → wants_cause verdict a server s ≡ false → cause_at stage past clock hop server verdict a s l ≡ None
no_cause stage past clock hop server verdict a s l h = grind (arith, nat_tests)

none_caused : (stage : Stage) (past : List Event) (clock : ℕ) (what : What) → is_break stage past what ≡ false
    → is_some (cause stage past clock what) ≡ false
none_caused stage past clock (Arrive k hop server verdict) h =
    ap is_some (no_cause stage past clock hop server verdict (owner stage past k) (segment_of stage k) _ h)
none_caused stage past clock (Publish v) h = refl
none_caused stage past clock (Switch m v) h = refl
none_caused stage past clock (Steer k m) h = refl
none_caused stage past clock (Lose k hop) h = refl
none_caused stage past clock (Close server flow closed) h = refl
none_caused stage past clock (Retire server shard at result) h = refl
none_caused stage past clock Sync h = refl

break_is : (stage : Stage) (past : List Event) (what : What) → is_break stage past what ≡ true → IsBreak stage past what
break_is stage past (Arrive k hop server verdict) h = h
break_is stage past (Publish v) h = cc
break_is stage past (Switch m v) h = cc
break_is stage past (Steer k m) h = cc
break_is stage past (Lose k hop) h = cc
break_is stage past (Close server flow closed) h = cc
break_is stage past (Retire server shard at result) h = cc
break_is stage past Sync h = cc

found : (h : History) (place : ℕ) (o : Option Event) → event_at h place ≡ o → IsRun h
    → is_some (cause_of h place) ≡ is_break_after h.stage (past_at h place) o
found h place None e run = rw e refl
found h place (Some event) e run =
    elim (cases_Bool (is_break h.stage (past_at h place) event.what)) [
      | inl broke ↦
          let here : At h place (λ stage past clock what. IsBreak stage past what) =
          rw e (break_is h.stage (past_at h place) event.what broke)
          in let there = cause_law h place run here
          in rw (e, broke) (rw e at there)
      | inr other ↦ rw (e, other) (none_caused h.stage (past_at h place) event.clock.0 event.what other)
    ]

pub cause_there : (h : History) (place : ℕ) → IsRun h → is_some (cause_of h place) ≡ is_break_at h place
cause_there h place run = found h place (event_at h place) refl run

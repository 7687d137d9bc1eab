-- Only what is dropped, reset or processed elsewhere has a cause.
use Rattle.std.proofs.Common.{◌≡◌, ℕ, Bool, true, false, cond, inl, inr, List, Option, Some, None, is_some, refl}
use Rattle.std.proofs.lemmas.Bool.{cases_Bool}
use Rattle.bm_base.specs.declared.ids.ServerId.{ServerId}
use Rattle.bm_base.specs.declared.flow.Segment.{Segment}
use Rattle.bm_base.specs.declared.label.Hop.{Hop}
use Rattle.bm_base.specs.declared.label.Label.{Label}
use Rattle.bm_base.specs.Segments.{is_opening}
use Rattle.bm_core.specs.declared.events.Verdict.{Verdict}
use Rattle.bm_core.specs.declared.events.Verdict.TheVariants.{Accept, Process, Forward, Reset, Drop}
use Rattle.bm_core.specs.declared.events.Cause.{Cause}
use Rattle.bm_core.specs.declared.events.What.{What}
use Rattle.bm_core.specs.declared.events.What.TheVariants.{Publish, Switch, Steer, Lose, Arrive, Close, Retire, Sync}
use Rattle.bm_core.specs.declared.events.Event.{Event}
use Rattle.bm_core.specs.declared.events.Stage.{Stage}
use Rattle.bm_core.specs.Past.{segment_of, label_of, Accepted, owner}
use Rattle.bm_core.specs.Causes.{is_break, is_refusal, opening_cause, wants_cause, cause_at, cause}
use Rattle.bm_core.specs.Laws.{IsBreak}

opening_refused : (verdict : Verdict) (v newest : ℕ) → is_some (opening_cause verdict v newest) ≡ true
    → is_refusal verdict ≡ true
opening_refused Accept v newest is = absurd (cc)
opening_refused (Process t) v newest is = absurd (cc)
opening_refused (Forward to) v newest is = absurd (cc)
opening_refused (Reset why) v newest is = refl
opening_refused (Drop why) v newest is = refl

none_unless : (b : Bool) (o : Option Cause) → is_some (cond b o None) ≡ true → b ≡ true
none_unless true o is = refl
none_unless false o is = absurd (cc)

caused : (stage : Stage) (past : List Event) (clock : ℕ) (hop : Hop) (server : ServerId) (verdict : Verdict)
    (a : Option Accepted) (o : Option Segment) (p : Option Label)
    → is_some (cause_at stage past clock hop server verdict a o p) ≡ true → wants_cause verdict a server o ≡ true
caused stage past clock hop server verdict a None p is = absurd (cc)
caused stage past clock hop server verdict a (Some s) None is = absurd (cc)
caused stage past clock hop server verdict a (Some s) (Some l) is = elim (cases_Bool (is_opening s)) [
  | inl opens ↦ rw opens (opening_refused verdict _ _ (rw opens at is))
  | inr plain ↦ rw plain (none_unless (is_break verdict a server) _ (rw plain at is))
]

pub break_law : (stage : Stage) (past : List Event) (clock : ℕ) (what : What)
    → is_some (cause stage past clock what) ≡ true → IsBreak stage past what
break_law stage past clock (Arrive k hop server verdict) is =
    caused stage past clock hop server verdict (owner stage past k) (segment_of stage k) (label_of stage past k) is
break_law stage past clock (Publish v) is = absurd (cc)
break_law stage past clock (Switch m v) is = absurd (cc)
break_law stage past clock (Steer k m) is = absurd (cc)
break_law stage past clock (Lose k hop) is = absurd (cc)
break_law stage past clock (Close server flow closed) is = absurd (cc)
break_law stage past clock (Retire server h at result) is = absurd (cc)
break_law stage past clock Sync is = absurd (cc)

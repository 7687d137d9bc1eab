-- The longest wait of the packets that came too late, and the timeouts under which none does.
use Rattle.std.proofs.Common.{◌≡◌, ℕ, ◌+◌, ◌-◌, ◌*◌, ◌^◌, ◌<◌, max, Bool, true, false}
use Rattle.std.proofs.Common.{◌&&◌, ◌||◌, List, [], ◌∷◌, Option, Some, None}
use Rattle.std.proofs.Common.{refl, sym, ap, ◌∙◌, arith, nat_lt}
use Rattle.std.specs.Prelude.{IfSome, if◌then◌else◌}
use Rattle.std.proofs.lemmas.Bool.Decides.{nat_tests}
use Rattle.bm_base.specs.declared.label.Hop.{Hop}
use Rattle.bm_base.specs.declared.label.Past.{Past}
use Rattle.bm_base.specs.Labels.{onward}
use Rattle.std.specs.Option.{option_map_or}
use Rattle.bm_base.specs.declared.label.Label.{Label}
use Rattle.bm_core.specs.declared.events.Event.{Event}
use Rattle.bm_core.specs.declared.events.Stage.{Stage}
use Rattle.bm_core.specs.declared.events.What.{What}
use Rattle.bm_core.specs.declared.events.What.TheVariants.{Publish, Switch, Steer, Lose, Arrive, Close, Retire, Sync}
use Rattle.bm_core.specs.Causes.{is_refusal}
use Rattle.bm_core.specs.Past.{label_of, timeout}
use Rattle.bm_trace.specs.Totals.{arrives}
use Rattle.bm_connections.specs.Connections.{counted_cause}
use Rattle.bm_connections.specs.Late.{came_late, comes_late, has_late_label, is_one_late, longer, longest_wait}
use Rattle.bm_connections.specs.Late.{as_late, is_of_timeout, whole_seconds}
use Rattle.bm_connections.specs.Thrice.{thrice_need}
use Rattle.bm_connections.specs.Waits.{stamp_of, wait_of}

-- THE PASS

-- one event more
pub longest_observed : (stage : Stage) (past : List Event) (e : Event) (late : Bool) (wait : ℕ) (longest new : Option ℕ)
    → new ≡ (if late then Some (longer longest wait) else longest)
    → late ≡ came_late stage past e → wait ≡ wait_of stage past e.clock.0 e.what → longest ≡ longest_wait stage past
    → new ≡ longest_wait stage (e ∷ past)
longest_observed stage past e late wait longest new is by long was =
    is ∙ (λ i. if by i then Some (longer (was i) (long i)) else was i)

-- THE TIMEOUT

-- the wait is longer than the timeout
abbrev exceeds : ℕ → Option ℕ → Bool
exceeds t None = false
exceeds t (Some wait) = nat_lt t wait

lt_moves : (a t c : ℕ) → nat_lt (a + t) c ≡ nat_lt t (c - a)
lt_moves a t c = grind (arith, nat_tests)

lt_max : (t a b : ℕ) → (nat_lt t b || nat_lt t a) ≡ nat_lt t (max a b)
lt_max t a b = grind (arith, nat_tests)

or_false : (b : Bool) → (b || false) ≡ b
or_false true = refl
or_false false = refl

-- of a copy that comes too late under one timeout
late_onward : (u t clock : ℕ) (onto : Option Past)
    → (option_map_or (λ p. nat_lt (p.stamp.0 + u) clock) onto false
    && option_map_or (λ p. nat_lt (p.stamp.0 + t) clock) onto false)
    ≡ (option_map_or (λ p. nat_lt (p.stamp.0 + u) clock) onto false
    && nat_lt t (clock - option_map_or (λ p. p.stamp.0) onto 0))
late_onward u t clock None = refl
late_onward u t clock (Some p) = ap (λ b. nat_lt (p.stamp.0 + u) clock && b) (lt_moves p.stamp.0 t clock)

late_label : (u t : ℕ) (stage : Stage) (clock : ℕ) (hop : Hop) (label : Option Label)
    → (has_late_label u stage label hop clock && has_late_label t stage label hop clock)
    ≡ (has_late_label u stage label hop clock && nat_lt t (clock - stamp_of hop label))
late_label u t stage clock hop None = refl
late_label u t stage clock hop (Some label) = late_onward u t clock (onward label.entry hop)

late_event : (u t : ℕ) (stage : Stage) (past : List Event) (clock : ℕ) (what : What)
    → (comes_late u stage past clock what && comes_late t stage past clock what)
    ≡ (comes_late u stage past clock what && nat_lt t (wait_of stage past clock what))
late_event u t stage past clock (Publish v) = refl
late_event u t stage past clock (Switch m v) = refl
late_event u t stage past clock (Steer k m) = refl
late_event u t stage past clock (Lose k hop) = refl
late_event u t stage past clock (Close server flow closed) = refl
late_event u t stage past clock (Retire server shard at result) = refl
late_event u t stage past clock Sync = refl
late_event u t stage past clock (Arrive k hop server verdict) =
    late_label u t stage clock hop (label_of stage past k)

-- the same of what is refused, and has a cause of the timeout
if_late : (refused of_timeout late x y : Bool) → (late && x) ≡ (late && y)
    → ((refused && of_timeout && late) && x) ≡ ((refused && of_timeout && late) && y)
if_late true true late x y same = same
if_late true false late x y same = refl
if_late false of_timeout late x y same = refl

late_counted : (t : ℕ) (stage : Stage) (past : List Event) (e : Event)
    → (came_late stage past e && comes_late t stage past e.clock.0 e.what)
    ≡ (came_late stage past e && nat_lt t (wait_of stage past e.clock.0 e.what))
late_counted t stage past e =
    if_late (arrives is_refusal e.what) (is_of_timeout (counted_cause stage past e) (thrice_need stage past e))
    (comes_late (timeout stage) stage past e.clock.0 e.what) _ _
    (late_event (timeout stage) t stage past e.clock.0 e.what)

exceeds_more : (t : ℕ) (late : Bool) (wait : ℕ) (o : Option ℕ)
    → (late && nat_lt t wait || exceeds t o) ≡ exceeds t (if late then Some (longer o wait) else o)
exceeds_more t false wait o = refl
exceeds_more t true wait None = or_false (nat_lt t wait)
exceeds_more t true wait (Some longest) = lt_max t longest wait

pub late_under : (t : ℕ) (stage : Stage) (past : List Event)
    → is_one_late t stage past ≡ exceeds t (longest_wait stage past)
late_under t stage [] = refl
late_under t stage (e ∷ past) =
    (λ i. late_counted t stage past e i || late_under t stage past i)
    ∙ exceeds_more t (came_late stage past e) (wait_of stage past e.clock.0 e.what) (longest_wait stage past)

seconds_enough : (wait : ℕ) → nat_lt (whole_seconds wait * 10 ^ 9) wait ≡ false
seconds_enough wait = grind (arith, nat_tests)

seconds_least : (wait s : ℕ) → s < whole_seconds wait → nat_lt (s * 10 ^ 9) wait ≡ true
seconds_least wait s h = grind (arith, nat_tests)

pub enough : (stage : Stage) (past : List Event) (o : Option ℕ) → longest_wait stage past ≡ o
    → IfSome (as_late o) (λ late. is_one_late (late.timeout_s * 10 ^ 9) stage past ≡ false)
enough stage past None is = tt
enough stage past (Some wait) is =
    late_under (whole_seconds wait * 10 ^ 9) stage past ∙ ap (exceeds (whole_seconds wait * 10 ^ 9)) is
    ∙ seconds_enough wait

pub least : (stage : Stage) (past : List Event) (o : Option ℕ) → longest_wait stage past ≡ o
    → IfSome (as_late o) (λ late. (s : ℕ) → s < late.timeout_s → is_one_late (s * 10 ^ 9) stage past ≡ true)
least stage past None is = tt
least stage past (Some wait) is = λ s fewer.
    late_under (s * 10 ^ 9) stage past ∙ ap (exceeds (s * 10 ^ 9)) is ∙ seconds_least wait s fewer

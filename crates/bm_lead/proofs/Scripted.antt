-- What a sound script says of its next command.
use Rattle.std.proofs.Common.{◌≡◌, ℕ, zero, suc, ◌+◌, ◌*◌, ◌^◌, ◌<◌, ◌≤◌, Bool, cond, inl, inr, List, [], ◌∷◌}
use Rattle.std.proofs.Common.{length, take, drop, slice_get, Option, Some, ap, ◌∙◌, subst, arith}
use Rattle.std.proofs.lemmas.Option.{get_or_from_slice_get, same_Some, slice_get_cases, slice_get_within}
use Rattle.std.proofs.Math.Seq.{drop-cons}
use Rattle.std.specs.List.{AllByRecursion}
use Rattle.bm_base.specs.declared.ids.Version.{Version}
use Rattle.bm_table.specs.declared.script.Command.{Command}
use Rattle.bm_table.specs.declared.script.Command.TheVariants.{Change, Close, Retire, Sync}
use Rattle.bm_table.specs.Scripts.{IsOfKnown, NamesVersions}
use Rattle.bm_core.specs.declared.events.Stage.{Stage}
use Rattle.bm_core.specs.Accounts.{count_of}
use Rattle.bm_core.specs.Stages.{IsSound}
use Rattle.bm_core.specs.Threads.{moment_at}
use Rattle.bm_core.proofs.Moments.{sound_early}
use Rattle.bm_lead.specs.Leaders.{IsSyncCommand}

pub drop_at : {X : Type 0} (xs : List X) (i : ℕ) (x : X) → slice_get xs i ≡ Some x → drop i xs ≡ x ∷ drop (suc i) xs
drop_at xs i x at =
    drop-cons xs i x (slice_get_within xs i x at)
    ∙ ap (λ y. y ∷ drop (suc i) xs) (get_or_from_slice_get xs i x x at)

pub count_at : {X : Type 0} (test : X → Bool) (xs : List X) (i : ℕ) (x : X) → slice_get xs i ≡ Some x
    → count_of test (take (suc i) xs) ≡ cond (test x) 1 0 + count_of test (take i xs)
count_at test [] i x at = absurd (cc)
count_at test (y ∷ xs) zero x at = ap (λ z. cond (test z) 1 0 + 0) (same_Some y x at)
count_at test (y ∷ xs) (suc i) x at = let old = count_at test xs i x at in omega arith

pub each_at : {X : Type 0} (P : X → Type 0) (xs : List X) (i : ℕ) (x : X) → slice_get xs i ≡ Some x
    → AllByRecursion P xs → P x
each_at P [] i x at all = absurd (cc)
each_at P (y ∷ xs) zero x at all = subst P (same_Some y x at) all.0
each_at P (y ∷ xs) (suc i) x at all = each_at P xs i x at all.1

-- the commands that are left name versions that the plan has
pub fewer_published : (next top : ℕ) (commands : List Command) → NamesVersions next top commands → next ≤ top + 1
fewer_published next top [] names = omega arith
fewer_published next top (Change v ∷ commands) names =
    let later = fewer_published (next + 1) top commands names.1 in omega arith
fewer_published next top (Close at s f ∷ commands) names = fewer_published next top commands names
fewer_published next top (Retire at s ∷ commands) names = fewer_published next top commands names
fewer_published next top (Sync at ∷ commands) names = fewer_published next top commands names

-- a change that comes next is of the next version
pub next_version : (n top i : ℕ) (commands : List Command) (v : Version) → slice_get commands i ≡ Some (Change v)
    → NamesVersions (n + 1) top (drop i commands) → (v.0 ≡ n + 1) × (v.0 ≤ top)
next_version n top i commands v at names =
    let here = subst (λ (l : List Command). NamesVersions (n + 1) top l) (drop_at commands i (Change v) at) names in
    let few = fewer_published (n + 1 + 1) top (drop (suc i) commands) here.1 in
    (here.0, omega (arith, few, here.0))

pub command_early : (stage : Stage) (i : ℕ) (c : Command) → IsSound stage
    → slice_get stage.script.commands i ≡ Some c → moment_at (Some c) ≤ 45 * 10 ^ 17
command_early stage i c sound at =
    subst (λ (o : Option Command). moment_at o ≤ 45 * 10 ^ 17) at ((sound_early stage sound).commands i)

pub command_known : (stage : Stage) (i : ℕ) (c : Command) → IsSound stage
    → slice_get stage.script.commands i ≡ Some c → IsOfKnown stage.script.plan c
command_known stage i c sound at =
    each_at (λ c. IsOfKnown stage.script.plan c) stage.script.commands i c at sound.script.of_known

pub is_there : (commands : List Command) (i : ℕ) → IsSyncCommand (slice_get commands i) → i < length commands
is_there commands i is = elim (slice_get_cases commands i).1 [
  | inl here ↦ here.1
  | inr beyond ↦ absurd (subst IsSyncCommand beyond.1 is)
]

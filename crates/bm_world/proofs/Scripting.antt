-- Which commands and which packets are of a phase.
use Rattle.std.proofs.Common.{◌≡◌, ℕ, zero, suc, ◌+◌, ◌*◌, ◌^◌, ◌<◌, ◌≤◌, Bool, true, false, List, [], ◌∷◌, ◌++◌}
use Rattle.std.proofs.Common.{length, map}
use Rattle.std.proofs.Common.{take, drop, drop_of_length-le, take-append-drop, Some, refl, sym}
use Rattle.std.proofs.Common.{ap, ◌∙◌, subst, arith, leb}
use Rattle.std.specs.Prelude.{slice_get, ◌-◌}
use Rattle.std.proofs.lemmas.Bool.{le-leb, lt-leb}
use Rattle.std.proofs.lemmas.List.{at_drop_more, take_more}
use Rattle.std.proofs.lemmas.Option.{slice_get_within, get_or_from_slice_get}
use Rattle.bm_rows.proofs.Places.{there}
use Rattle.bm_base.specs.Captures.{AreRising}
use Rattle.bm_base.specs.declared.ids.Moment.{Moment}
use Rattle.bm_table.specs.declared.script.Command.{Command}
use Rattle.bm_table.specs.declared.script.Command.TheVariants.{Change as ChangeCommand, Close as CloseCommand}
use Rattle.bm_table.specs.declared.script.Command.TheVariants.{Retire as RetireCommand, Sync as SyncCommand}
use Rattle.bm_table.specs.Planned.{Planned}
use Rattle.bm_table.specs.Scripts.{moment_of_command}
use Rattle.bm_core.specs.declared.events.Stage.{Stage}
use Rattle.bm_core.specs.Accounts.{count_of, wants_sync}
use Rattle.bm_core.specs.Threads.{is_sync_by, phase_of, record_moment}
use Rattle.bm_merge.proofs.Reaching.{one_if}
use Rattle.bm_world.specs.Inside.Running.{IsAtPhase}

count_append : (test : Command → Bool) (x y : List Command) → count_of test (x ++ y) ≡ count_of test x + count_of test y
count_append test [] y = omega arith
count_append test (c ∷ x) y = let old = count_append test x y in omega arith

count_next : (test : Command → Bool) (xs : List Command) (i : ℕ) (c : Command) → slice_get xs i ≡ Some c
    → count_of test (take (i + 1) xs) ≡ count_of test (take i xs) + one_if (test c)
count_next test xs i c found =
    let within = slice_get_within xs i c found
    in ap (λ (l : List Command). count_of test l) (take_more xs i c within
    ∙ ap (λ (y : Command). take i xs ++ y ∷ []) (get_or_from_slice_get xs i c c found))
    ∙ count_append test (take i xs) (c ∷ []) ∙ omega arith

-- what is no sync is none by a moment
by_moment : (moment : ℕ) (c : Command) → wants_sync c ≡ false → is_sync_by moment c ≡ false
by_moment moment (ChangeCommand v) not = refl
by_moment moment (CloseCommand at server flow) not = refl
by_moment moment (RetireCommand at server) not = refl
by_moment moment (SyncCommand at) not = absurd (cc)

-- no sync among these places
abbrev pub HaveNoSync : List Command → ℕ → ℕ → Type 0
HaveNoSync commands next end =
    (i : ℕ) (c : Command) → next ≤ i → i < end → slice_get commands i ≡ Some c → wants_sync c ≡ false

same_count : (test : Command → Bool) (commands : List Command) (next n : ℕ) → next + n ≤ length commands
    → ((i : ℕ) (c : Command) → next ≤ i → i < next + n → slice_get commands i ≡ Some c → test c ≡ false)
    → count_of test (take (next + n) commands) ≡ count_of test (take next commands)
same_count test commands next zero within none =
    let same : next + 0 ≡ next = omega arith in ap (λ (k : ℕ). count_of test (take k commands)) same
same_count test commands next (suc n) within none =
    let old = same_count test commands next n (omega arith) (λ i c low high at. none i c low (omega arith) at)
    in let here = there commands (next + n) (omega arith)
    in let step = count_next test commands (next + n) here.0 here.1
    in let not : test here.0 ≡ false = none (next + n) here.0 (omega arith) (omega arith) here.1
    in let zero_is : one_if (test here.0) ≡ 0 = rw not refl
    in let same : next + suc n ≡ (next + n) + 1 = omega arith
    in ap (λ (k : ℕ). count_of test (take k commands)) same ∙ step ∙ omega arith

same_until : (test : Command → Bool) (commands : List Command) (next end : ℕ) → next ≤ end → end ≤ length commands
    → ((i : ℕ) (c : Command) → next ≤ i → i < end → slice_get commands i ≡ Some c → test c ≡ false)
    → count_of test (take end commands) ≡ count_of test (take next commands)
same_until test commands next end low within none =
    let n : ℕ = end - next
    in let same : next + n ≡ end = omega arith
    in ap (λ (k : ℕ). count_of test (take k commands)) (sym same)
    ∙ same_count test commands next n (omega arith) (λ i c a b at. none i c a (omega arith) at)

-- what comes later has no sync up to this moment
none_later : (plan : Planned) (moment low high : ℕ) (commands : List Command) → moment < low
    → AreRising low high (map (λ c. moment_of_command plan c) commands) → count_of (is_sync_by moment) commands ≡ 0
none_later plan moment low high [] over rise = refl
none_later plan moment low high (c ∷ commands) over rise =
    let old = none_later plan moment (moment_of_command plan c) high commands (omega (arith, rise.0)) rise.2
    in let here : is_sync_by moment c ≡ false = not_by c (omega (arith, rise.0))
    in rw here (omega arith) where
      not_by : (x : Command) → moment < moment_of_command plan x → is_sync_by moment x ≡ false
      not_by (ChangeCommand v) h = refl
      not_by (CloseCommand at server flow) h = refl
      not_by (RetireCommand at server) h = refl
      not_by (SyncCommand at) h = lt-leb _ _ h

rising_drop : (plan : Planned) (low high i : ℕ) (commands : List Command)
    → AreRising low high (map (λ c. moment_of_command plan c) commands)
    → (lower : ℕ) × AreRising lower high (map (λ c. moment_of_command plan c) (drop i commands))
rising_drop plan low high zero commands rise = (low, rise)
rising_drop plan low high (suc i) [] rise = (low, rise)
rising_drop plan low high (suc i) (c ∷ commands) rise =
    rising_drop plan (moment_of_command plan c) high i commands rise.2

script_drop : (xs : List Command) (i : ℕ) (c : Command) → slice_get xs i ≡ Some c → drop i xs ≡ c ∷ drop (i + 1) xs
script_drop xs i c found =
    let within = slice_get_within xs i c found
    in at_drop_more (λ (l : List Command). l) xs i c within
    ∙ ap (λ (y : Command). y ∷ drop (i + 1) xs) (get_or_from_slice_get xs i c c found)

-- THE PHASE OF A PACKET

phase_split : (stage : Stage) (next end p k : ℕ) → next ≤ end → end ≤ length stage.script.commands
    → HaveNoSync stage.script.commands next end
    → count_of (is_sync_by (record_moment stage k)) (take next stage.script.commands) ≡ p
    → count_of (is_sync_by (record_moment stage k)) (drop end stage.script.commands) ≡ 0 → phase_of stage k ≡ p
phase_split stage next end p k low within none before after =
    let test : Command → Bool = is_sync_by (record_moment stage k)
    in let commands = stage.script.commands
    in let same = same_until test commands next end low within
    (λ i c a b at. by_moment (record_moment stage k) c (none i c a b at))
    in let whole : count_of test (take end commands ++ drop end commands) ≡ count_of test commands =
    ap (λ (l : List Command). count_of test l) (take-append-drop end commands)
    in let sum = count_append test (take end commands) (drop end commands)
    in omega arith

-- in a phase that a sync ends
pub phase_before : (stage : Stage) (next end p before until : ℕ) (at : Moment)
    → AreRising 0 (4 * 10 ^ 18) (map (λ c. moment_of_command stage.script.plan c) stage.script.commands)
    → next ≤ end → slice_get stage.script.commands end ≡ Some (SyncCommand at)
    → HaveNoSync stage.script.commands next end → until ≤ length stage.capture.records
    → ((k : ℕ) → before < k → k ≤ until → record_moment stage k < at.0)
    → IsAtPhase stage next p before
    → (k : ℕ) → before < k → k ≤ until → phase_of stage k ≡ p
phase_before stage next end p before until at rise low here none few under is k over within =
    let commands = stage.script.commands
    in let long = slice_get_within commands end (SyncCommand at) here
    in let rest = rising_drop stage.script.plan 0 (4 * 10 ^ 18) end commands rise
    in let from : AreRising rest.0 (4 * 10 ^ 18) (map (λ c. moment_of_command stage.script.plan c)
    (SyncCommand at ∷ drop (end + 1) commands)) =
    subst (λ (l : List Command). AreRising rest.0 (4 * 10 ^ 18) (map (λ c. moment_of_command stage.script.plan c) l))
    (script_drop commands end (SyncCommand at) here) rest.1
    in let moment = under k over within
    in let later : count_of (is_sync_by (record_moment stage k)) (SyncCommand at ∷ drop (end + 1) commands) ≡ 0 =
    let not : leb at.0 (record_moment stage k) ≡ false = lt-leb _ _ moment
    in let tail =
    none_later stage.script.plan (record_moment stage k) at.0 (4 * 10 ^ 18) (drop (end + 1) commands) moment from.2
    in rw not (omega arith)
    in phase_split stage next end p k low (omega arith) none (is.earlier k over (omega arith))
    (ap (λ (l : List Command). count_of (is_sync_by (record_moment stage k)) l)
    (script_drop commands end (SyncCommand at) here) ∙ later)

-- and in the last one
pub phase_last : (stage : Stage) (next p before : ℕ) → next ≤ length stage.script.commands
    → HaveNoSync stage.script.commands next (length stage.script.commands) → IsAtPhase stage next p before
    → (k : ℕ) → before < k → k ≤ length stage.capture.records → phase_of stage k ≡ p
phase_last stage next p before low none is k over within =
    let commands = stage.script.commands
    in phase_split stage next (length commands) p k low (omega arith) none (is.earlier k over within)
    (ap (λ (l : List Command). count_of (is_sync_by (record_moment stage k)) l)
    (drop_of_length-le commands {i = length commands} (omega arith)))

-- THE NEXT PHASE

pub phase_next : (stage : Stage) (next end p before until : ℕ) (at : Moment)
    → next ≤ end → slice_get stage.script.commands end ≡ Some (SyncCommand at)
    → HaveNoSync stage.script.commands next end → before ≤ until
    → ((k : ℕ) → until < k → k ≤ length stage.capture.records → at.0 ≤ record_moment stage k)
    → IsAtPhase stage next p before → IsAtPhase stage (end + 1) (suc p) until
phase_next stage next end p before until at low here none order over is =
    let commands = stage.script.commands
    in let long = slice_get_within commands end (SyncCommand at) here
    in record {
      syncs =
          let same = same_until wants_sync commands next end low (omega arith) none
          in let step = count_next wants_sync commands end (SyncCommand at) here
          in let was = is.syncs
          in omega arith;
      earlier = λ k later within.
          let test : Command → Bool = is_sync_by (record_moment stage k)
          in let same = same_until test commands next end low (omega arith)
          (λ i c a b there. by_moment (record_moment stage k) c (none i c a b there))
          in let step = count_next test commands end (SyncCommand at) here
          in let yes : leb at.0 (record_moment stage k) ≡ true = le-leb _ _ (over k later within)
          in let one : one_if (test (SyncCommand at)) ≡ 1 = rw yes refl
          in let was = is.earlier k (omega arith) within
          in omega arith;
    }

pub phase_first : (stage : Stage) → IsAtPhase stage 0 0 0
phase_first stage = record { syncs = refl; earlier = λ k low within. refl }

-- Logs that are put together.
use Rattle.std.proofs.Common.{◌≡◌, ℕ, zero, suc, ◌+◌, ◌<◌, List, [], ◌∷◌, ◌++◌, length, min, get_or, take, refl, sym}
use Rattle.std.proofs.Common.{ap, ◌∙◌, arith}
use Rattle.std.specs.Prelude.{reverse}
use Rattle.std.proofs.lemmas.List.{reverse-append, length-append}
use Rattle.bm_core.specs.declared.events.Event.{Event}
use Rattle.bm_core.specs.declared.events.History.{History}
use Rattle.bm_core.specs.Runs.{IsRun}
use Rattle.bm_merge.specs.Merges.{Log, gathered, by_clock, Agree, joined, AreLogs}
use Rattle.bm_merge.proofs.Merging.{merge_law}

pub none_more : (x : List Event) → x ++ [] ≡ x
none_more [] = refl
none_more (e ∷ x) = ap (λ (l : List Event). e ∷ l) (none_more x)

over : (x y z : List Event) → x ++ (y ++ z) ≡ (x ++ y) ++ z
over [] y z = refl
over (e ∷ x) y z = ap (λ (l : List Event). e ∷ l) (over x y z)

pub joined_append : (x y : List (List Event)) → joined (x ++ y) ≡ joined x ++ joined y
joined_append [] y = refl
joined_append (l ∷ x) y = ap (λ (r : List Event). l ++ r) (joined_append x y) ∙ over l (joined x) (joined y)

pub joined_next : (logs : List (List Event)) (i : ℕ) (d : List Event) → i < length logs
    → joined (take (suc i) logs) ≡ joined (take i logs) ++ get_or logs i d
joined_next [] i d h = absurd (omega arith)
joined_next (x ∷ logs) zero d h = none_more x
joined_next (x ∷ logs) (suc i) d h =
    ap (λ (l : List Event). x ++ l) (joined_next logs i d (omega arith))
    ∙ over x (joined (take i logs)) (get_or logs i d)

pub joined_step : (logs : List (List Event)) (i : ℕ) (old new x item : List Event) → old ≡ joined (take i logs)
    → i < length logs → new ≡ old ++ x → x ≡ item → item ≡ get_or logs i item → new ≡ joined (take (i + 1) logs)
joined_step logs i old new x item was lt is same at =
    let one : i + 1 ≡ suc i = omega arith
    in rw one
    (is ∙ ap (λ (l : List Event). old ++ l) (same ∙ at) ∙ ap (λ (l : List Event). l ++ get_or logs i item) was
    ∙ sym (joined_next logs i item lt))

pub gathered_joined : (named : List Log) (logs : List (List Event)) → AreLogs named logs
    → gathered named ≡ reverse (joined logs)
gathered_joined [] [] are = refl
gathered_joined [] (x ∷ logs) are = absurd are
gathered_joined (l ∷ named) [] are = absurd are
gathered_joined (l ∷ named) (x ∷ logs) are =
    rw (are.0, gathered_joined named logs are.1) (sym (reverse-append x (joined logs)))

pub joined_law : (h : History) (named : List Log) (logs : List (List Event))
    → h.events ≡ reverse (by_clock (reverse (joined logs))) → AreLogs named logs → Agree h.stage named → IsRun h
joined_law h named logs is are agree =
    merge_law h named agree
    (is ∙ ap (λ (l : List Event). reverse (by_clock l)) (sym (gathered_joined named logs are)))

-- and their number, up to the greatest that there is
pub room_step : (logs : List (List Event)) (i most old new : ℕ) (got item : List Event)
    → old ≡ min (length (joined (take i logs))) most → i < length logs → got ≡ item → item ≡ get_or logs i item
    → new ≡ min (old + length got) most → new ≡ min (length (joined (take (i + 1) logs))) most
room_step logs i most old new got item was lt same at is =
    let one : i + 1 ≡ suc i = omega arith
    in let more : length (joined (take (suc i) logs)) ≡ length (joined (take i logs)) + length item =
    ap (λ (l : List Event). length l) (joined_next logs i item lt)
    ∙ length-append (joined (take i logs)) (get_or logs i item)
    ∙ ap (λ (l : List Event). length (joined (take i logs)) + length l) (sym at)
    in let long : length got ≡ length item = ap (λ (l : List Event). length l) same
    in rw (one, more) (omega arith)

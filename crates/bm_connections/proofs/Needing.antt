-- The longest needs, and the moments of records.
use Rattle.std.proofs.Common.{◌≡◌, ℕ, ◌+◌, ◌*◌, ◌^◌, ◌<◌, ◌≤◌, inl, inr, List, [], ◌∷◌, ◌++◌}
use Rattle.std.proofs.Common.{length, take, get_or, map, reverse, flat_map, ap, sym, subst, ◌∙◌, arith}
use Rattle.std.proofs.lemmas.Bool.{cases_Bool}
use Rattle.std.proofs.lemmas.Grind.{common_steps}
use Rattle.std.proofs.lemmas.List.{append-nil, reverse-append}
use Rattle.std.proofs.lemmas.List.Concat.{flat_map-append}
use Rattle.bm_base.specs.Captures.{AreRising, IsReplayable}
use Rattle.bm_base.specs.declared.capture.Record.{Record}
use Rattle.bm_base.specs.declared.flow.Flow.{Flow}
use Rattle.bm_base.specs.declared.ids.Moment.{Moment}
use Rattle.bm_core.specs.declared.events.Stage.{Stage}
use Rattle.bm_connections.specs.declared.last_seen.LastSeen.{LastSeen}
use Rattle.bm_connections.specs.Seen.{is_packet_of, last_seen, records_of}
use Rattle.bm_connections.specs.Inside.Needs.{HasRoom, KnowsLast, moment_in}

-- LISTS

-- what one element more adds
pub flat_more : {X Y : Type 0} (f : X → List Y) (xs : List X) (i : ℕ) (d : X) (old new : List Y)
    → i < length xs → new ≡ old ++ f (get_or xs i d) → old ≡ flat_map f (take i xs)
    → new ≡ flat_map f (take (i + 1) xs)
flat_more f xs i d old new below n o =
    let e : take (i + 1) xs ≡ take i xs ++ get_or xs i d ∷ [] = grind (arith, common_steps)
    in let more : flat_map f (take (i + 1) xs) ≡ flat_map f (take i xs) ++ f (get_or xs i d) =
    ap (flat_map f) e ∙ flat_map-append f (take i xs) (get_or xs i d ∷ [])
    ∙ ap (λ l. flat_map f (take i xs) ++ l) (append-nil (f (get_or xs i d)))
    in n ∙ ap (λ l. l ++ f (get_or xs i d)) o ∙ sym more

-- MOMENTS

-- each record's moment is at most this
abbrev AreEarly : ℕ → List Record → Type 0
AreEarly high [] = Unit {0}
AreEarly high (r ∷ records) = (r.moment.0 ≤ high) × AreEarly high records

early_of : (low high : ℕ) (records : List Record) → AreRising low high (map (λ r. r.moment.0) records)
    → AreEarly high records
early_of low high [] h = tt
early_of low high (r ∷ records) h = (h.1, early_of r.moment.0 high records h.2)

early_push : (high : ℕ) (records : List Record) (r : Record) → AreEarly high records → r.moment.0 ≤ high
    → AreEarly high (records ++ r ∷ [])
early_push high [] r h last = (last, tt)
early_push high (q ∷ records) r h last = (h.0, early_push high records r h.1 last)

early_back : (high : ℕ) (records : List Record) → AreEarly high records → AreEarly high (reverse records)
early_back high [] h = tt
early_back high (r ∷ records) h =
    subst (AreEarly high) (sym (reverse-append (r ∷ []) records))
    (early_push high (reverse records) r (early_back high records h.1) h.0)

last_early : (high : ℕ) (records : List Record) (f : Flow) → AreEarly high records
    → (last_seen records f).moment.0 ≤ high
last_early high [] f h = omega arith
last_early high (r ∷ records) f h =
    elim (cases_Bool (is_packet_of r f)) [
      | inl is ↦ rw is h.0
      | inr other ↦ rw other (last_early high records f h.1)
    ]

-- a moment of a capture can be one later
pub room_of : (stage : Stage) (l : LastSeen) → IsReplayable stage.script.setting.vips stage.capture
    → KnowsLast (records_of stage) l → HasRoom l
room_of stage l sound k = λ f.
    let early = early_back (44 * 10 ^ 17) stage.capture.records
    (early_of 0 (44 * 10 ^ 17) stage.capture.records sound.rise)
    in let bound = last_early (44 * 10 ^ 17) (records_of stage) f early
    in let is : (moment_in l f).0 ≡ (last_seen (records_of stage) f).moment.0 =
    ap (λ (m : Moment). m.0) (k.each f)
    in omega (arith, bound, is)

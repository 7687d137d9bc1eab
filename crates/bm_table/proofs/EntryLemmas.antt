-- What the moves of a change do to an array of entries.
use Rattle.std.proofs.Common.{◌≡◌, ℕ, suc, ◌+◌, ◌<◌, ◌≤◌, true, false, eqb, List, [], ◌∷◌, ◌++◌, Option, Some, None}
use Rattle.std.proofs.Common.{length, inl, inr, refl, ap, sym, ◌∙◌, arith, add-one, get_or, drop}
use Rattle.std.proofs.Math.ListN.{set}
use Rattle.std.proofs.lemmas.Bool.{cases_eq, cases_lt, eq-eqb, ne_eqb}
use Rattle.std.proofs.lemmas.List.{length_push, at_drop_more, at_drop_all}
use Rattle.std.proofs.lemmas.List.Elements.{All-get_or}
use Rattle.std.proofs.lemmas.Option.{slice_get_past, slice_get_within, get_or_from_slice_get}
use Rattle.std.specs.List.{slice_get}
use Rattle.std.specs.Option.{option_map}
use Rattle.bm_base.specs.declared.ids.ServerId.{ServerId}
use Rattle.bm_base.specs.declared.label.Entry.{Entry}
use Rattle.bm_table.proofs.Gets.{slice_get-set_same, slice_get-set_other, slice_get-append_left, slice_get-push}
use Rattle.bm_table.proofs.Gets.{length_from_gets}
use Rattle.bm_table.specs.Entries.{after_moves, IsTable}
use Rattle.bm_table.specs.Inside.Entries.{server_in}
use Rattle.bm_table.specs.Planned.{Planned}
use Rattle.bm_table.specs.Plans.{MovesRise, IsPlan}
use Rattle.bm_table.specs.Tables.{moved, next_change, opening, table, target}
use Rattle.bm_table.specs.declared.plan.Change.{Change}
use Rattle.bm_table.specs.declared.plan.Move.{Move}

move_here : (m : Move) (at b : ℕ) (o : Option Entry) → eqb m.bucket b ≡ true
    → option_map (after_moves at (m ∷ []) b) o ≡ option_map (λ e. moved e at (Some m.to)) o
move_here m at b None t = refl
move_here m at b (Some e) t = rw t refl

move_elsewhere : (m : Move) (at b : ℕ) (o : Option Entry) → eqb m.bucket b ≡ false
    → option_map (after_moves at (m ∷ []) b) o ≡ o
move_elsewhere m at b None t = refl
move_elsewhere m at b (Some e) t = rw t refl

-- a move whose bucket is in range writes that bucket's entry
pub carried : (entries : List Entry) (m : Move) (at : ℕ) (old : Entry) → slice_get entries m.bucket ≡ Some old → (b : ℕ)
    → slice_get (set entries m.bucket (moved old at (Some m.to))) b
    ≡ option_map (after_moves at (m ∷ []) b) (slice_get entries b)
carried entries m at old here b =
    elim (cases_eq m.bucket b) [
      | inl e ↦
          let l : m.bucket < length entries = slice_get_within entries m.bucket old here
          in let written = slice_get-set_same entries m.bucket (moved old at (Some m.to)) l
          in ap (slice_get (set entries m.bucket (moved old at (Some m.to)))) (sym e)
          ∙ written
          ∙ ap (option_map (λ (x : Entry). moved x at (Some m.to))) (sym here ∙ ap (slice_get entries) e)
          ∙ sym (move_here m at b (slice_get entries b) (eq-eqb _ _ e))
      | inr other ↦
          slice_get-set_other entries m.bucket b (moved old at (Some m.to)) other
          ∙ sym (move_elsewhere m at b (slice_get entries b) (ne_eqb _ _ other))
    ]

-- one whose bucket isn't in range writes nothing
pub not_carried : (entries : List Entry) (m : Move) (at : ℕ) → length entries ≤ m.bucket → (b : ℕ)
    → slice_get entries b ≡ option_map (after_moves at (m ∷ []) b) (slice_get entries b)
not_carried entries m at past b =
    elim (cases_eq m.bucket b) [
      | inl e ↦
          let none : slice_get entries b ≡ None = slice_get_past entries b (omega arith)
          in rw none refl
      | inr other ↦ sym (move_elsewhere m at b (slice_get entries b) (ne_eqb _ _ other))
    ]

-- one move, and then the others
pub after_one_more : (at : ℕ) (m : Move) (moves : List Move) (b : ℕ) (o : Option Entry)
    → option_map (after_moves at moves b) (option_map (after_moves at (m ∷ []) b) o)
    ≡ option_map (after_moves at (m ∷ moves) b) o
after_one_more at m moves b None = refl
after_one_more at m moves b (Some e) = refl

-- moves of higher buckets leave an entry alone
after_moves-below : (at : ℕ) (buckets low b : ℕ) (moves : List Move) (e : Entry) → MovesRise buckets low moves → b < low
    → after_moves at moves b e ≡ e
after_moves-below at buckets low b [] e rise h = refl
after_moves-below at buckets low b (m ∷ moves) e rise h =
    let t : eqb m.bucket b ≡ false = ne_eqb _ _ (λ same. omega (arith, rise.0))
    in rw t (after_moves-below at buckets (m.bucket + 1) b moves e rise.2 (omega (arith, rise.0)))

-- where the buckets rise, the moves bring an entry where the first move of its bucket does
pub after_moves-target : (at : ℕ) (buckets low b : ℕ) (moves : List Move) (e : Entry) → MovesRise buckets low moves
    → after_moves at moves b e ≡ moved e at (target moves b)
after_moves-target at buckets low b [] e rise = refl
after_moves-target at buckets low b (m ∷ moves) e rise =
    elim (cases_eq m.bucket b) [
      | inl same ↦
          let t : eqb m.bucket b ≡ true = eq-eqb _ _ same
          in rw t (after_moves-below at buckets (m.bucket + 1) b moves (moved e at (Some m.to)) rise.2 (omega arith))
      | inr other ↦
          let t : eqb m.bucket b ≡ false = ne_eqb _ _ other
          in rw t (after_moves-target at buckets (m.bucket + 1) b moves e rise.2)
    ]

-- the buckets of each change rise
pub change_rises : (plan : Planned) → IsPlan plan → (v : ℕ) (c : Change) → next_change plan v ≡ Some c
    → MovesRise plan.buckets 0 c.moves
change_rises plan kept v c is =
    let l : v < length plan.changes = slice_get_within plan.changes v c is
    in let e : get_or plan.changes v c ≡ c = get_or_from_slice_get plan.changes v c c is
    in let P : Change → Type 0 = λ x. MovesRise plan.buckets 0 x.moves
    in let h : P (get_or plan.changes v c) = All-get_or P plan.changes v c l kept.places
    in rw e at h

-- a change leads from the table of a version to that of the next
pub next_table : (plan : Planned) → IsPlan plan → (v : ℕ) (c : Change) → next_change plan v ≡ Some c
    → (old new : List Entry)
    → ((b : ℕ) → slice_get new b ≡ option_map (after_moves c.moment.0 c.moves b) (slice_get old b)) → IsTable plan v old
    → IsTable plan (v + 1) new
next_table plan kept v c is old new each is_old = record {
  count = length_from_gets (λ b. after_moves c.moment.0 c.moves b) old new each ∙ is_old.count;
  each = λ b h.
      let e : table plan (suc v) b ≡ after_moves c.moment.0 c.moves b (table plan v b)
      = rw is (sym
      (after_moves-target c.moment.0 plan.buckets 0 b c.moves (table plan v b) (change_rises plan kept v c is)))
      in each b ∙ rw (is_old.each b h) (ap Some (sym e ∙ ap (λ k. table plan k b) (sym (add-one v))));
}

-- the server of a bucket in the array
pub server_in-table : (plan : Planned) (v : ℕ) (entries : List Entry) → IsTable plan v entries → (b : ℕ)
    → b < plan.buckets → server_in entries b ≡ (table plan v b).cur
server_in-table plan v entries is b h =
    ap (λ (e : Entry). e.cur)
    (get_or_from_slice_get entries b (table plan v b)
    (record { cur = record { 0 = 0 }; prev = None; older = None }) (is.each b h))

-- no bucket yet
pub no_opening : (servers : List ServerId) → IsTable (record { buckets = 0; servers = servers; changes = [] }) 0 []
no_opening servers = record { count = refl; each = λ b h. absurd (omega arith) }

-- one more bucket of a plan without changes
pub opening_more : (servers : List ServerId) (n : ℕ) (entries : List Entry) (e : Entry)
    → IsTable (record { buckets = n; servers = servers; changes = [] }) 0 entries
    → e ≡ opening (record { buckets = n; servers = servers; changes = [] }) n
    → IsTable (record { buckets = n + 1; servers = servers; changes = [] }) 0 (entries ++ e ∷ [])
opening_more servers n entries e is here = record {
  count = length_push entries e ∙ ap (λ k. k + 1) is.count;
  each = λ b h.
      elim (cases_lt b n) [
        | inl below ↦ slice_get-append_left entries (e ∷ []) b (omega (arith, is.count)) ∙ is.each b below
        | inr last ↦
            let same : b ≡ length entries = omega (arith, is.count)
            in let n_is : b ≡ n = omega arith
            in rw same (slice_get-push entries e)
            ∙ ap Some (here ∙ ap (opening (record { buckets = n; servers = servers; changes = [] })) (sym n_is))
      ];
}

-- the moves from the i-th on, once one more of them was carried out
pub carry_step : (at : ℕ) (moves : List Move) (i : ℕ) (d : Move) → i < length moves
    → (b : ℕ) (old new start : Option Entry)
    → new ≡ option_map (after_moves at (get_or moves i d ∷ []) b) old
    → option_map (after_moves at (drop i moves) b) old ≡ start
    → option_map (after_moves at (drop (i + 1) moves) b) new ≡ start
carry_step at moves i d h b old new start one before =
    ap (option_map (after_moves at (drop (i + 1) moves) b)) one
    ∙ after_one_more at (get_or moves i d) (drop (i + 1) moves) b old
    ∙ sym (at_drop_more (λ (ms : List Move). option_map (after_moves at ms b) old) moves i d h)
    ∙ before

-- none is left
pub carry_end : (at : ℕ) (moves : List Move) (i : ℕ) → length moves ≤ i → (b : ℕ) (new start : Option Entry)
    → option_map (after_moves at (drop i moves) b) new ≡ start → new ≡ start
carry_end at moves i h b new start before =
    sym (at_drop_all (λ (ms : List Move). option_map (after_moves at ms b) new) moves i h ∙ kept new) ∙ before
  where
    kept : (o : Option Entry) → option_map (after_moves at [] b) o ≡ o
    kept None = refl
    kept (Some e) = refl

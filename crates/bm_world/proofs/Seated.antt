-- What the workers recorded, each of its own entries, is recorded of all entries of a book.
use Rattle.std.proofs.Common.{◌≡◌, ℕ, Bool, true, false, cond, List, [], ◌∷◌, refl, sym, ap, subst, ◌∙◌, eqb}
use Rattle.std.proofs.lemmas.Bool.{eq-eqb, eqb-true}
use Rattle.bm_shard.specs.declared.calls.ShardEntry.{ShardEntry}
use Rattle.bm_merge.specs.Notes.{Note}
use Rattle.bm_merge.specs.Workers.{seat_part}
use Rattle.bm_world.specs.Inside.Shards.{Kept, entries_of, note_of, notes_of, entries_by, AreNoted}

-- the notes of all entries, where these are those of each seat
pub record AreSeatedNotes (entries : List ShardEntry) (parts : ℕ → List Note) : Type 0 where
  pub kept : List Kept
  pub entries_are : entries_of kept ≡ entries
  pub seats : (w : ℕ) → seat_part w (notes_of kept) ≡ parts w

abbrev head_or : Note → List Note → Note
head_or d [] = d
head_or d (n ∷ notes) = n

abbrev tail : List Note → List Note
tail [] = []
tail (n ∷ notes) = notes

-- without the newest note of the seat
abbrev without_newest : ℕ → (ℕ → List Note) → ℕ → List Note
without_newest seat parts w = cond (eqb seat w) (tail (parts w)) (parts w)

noted_tail : (e : ShardEntry) (entries : List ShardEntry) (notes : List Note) → AreNoted (e ∷ entries) notes
    → AreNoted entries (tail notes)
noted_tail e entries [] are = absurd are
noted_tail e entries (n ∷ notes) are = are.1

noted_less : (e : ShardEntry) (entries : List ShardEntry) (notes : List Note) (b : Bool)
    → AreNoted (cond b (e ∷ entries) entries) notes → AreNoted entries (cond b (tail notes) notes)
noted_less e entries notes true are = noted_tail e entries notes are
noted_less e entries notes false are = are

first_note : (d : Note) (e : ShardEntry) (entries : List ShardEntry) (notes : List Note) → AreNoted (e ∷ entries) notes
    → (note_of (record { entry = e; fate = (head_or d notes).fate; command = (head_or d notes).command }) ∷ tail notes)
    ≡ notes
first_note d e entries [] are = absurd are
first_note d e entries (n ∷ notes) are =
    λ i. record {
      event =
          sym are.0.0 i;
      fate = n.fate;
      command = n.command;
      due = sym are.0.1 i;
      seat = sym are.0.2 i;
    } ∷ notes

noted_own : (e : ShardEntry) (entries : List ShardEntry) (notes : List Note) (b : Bool) → b ≡ true
    → AreNoted (cond b (e ∷ entries) entries) notes → AreNoted (e ∷ entries) notes
noted_own e entries notes true is are = are
noted_own e entries notes false is are = absurd (cc)

seat_step : (k : Kept) (d : Note) (kept : List Kept) (parts : ℕ → List Note) (w : ℕ) (b : Bool) → eqb k.entry.seat w ≡ b
    → (k.entry.seat ≡ w → (note_of k ∷ tail (parts w)) ≡ parts w)
    → seat_part w (notes_of kept) ≡ cond b (tail (parts w)) (parts w)
    → cond b (note_of k ∷ seat_part w (notes_of kept)) (seat_part w (notes_of kept)) ≡ parts w
seat_step k d kept parts w true is first old = ap (λ (x : List Note). note_of k ∷ x) old ∙ first (eqb-true _ _ is)
seat_step k d kept parts w false is first old = old

-- there are notes of all entries
pub seated_notes : (d : Note) (entries : List ShardEntry) (parts : ℕ → List Note)
    → ((w : ℕ) → AreNoted (entries_by w entries) (parts w)) → AreSeatedNotes entries parts
seated_notes d [] parts are = record { kept = []; entries_are = refl; seats = λ w. nothing (parts w) (are w) } where
  nothing : (notes : List Note) → AreNoted [] notes → [] ≡ notes
  nothing [] h = refl
  nothing (n ∷ notes) h = absurd h
seated_notes d (e ∷ entries) parts are =
    let own : AreNoted (e ∷ entries_by e.seat entries) (parts e.seat) =
    noted_own e (entries_by e.seat entries) (parts e.seat) (eqb e.seat e.seat) (eq-eqb _ _ refl) (are e.seat)
    in let below =
    seated_notes d entries (without_newest e.seat parts)
    (λ w. noted_less e (entries_by w entries) (parts w) (eqb e.seat w) (are w))
    in let k : Kept =
    record { entry = e; fate = (head_or d (parts e.seat)).fate; command = (head_or d (parts e.seat)).command }
    in let first : (note_of k ∷ tail (parts e.seat)) ≡ parts e.seat =
    first_note d e (entries_by e.seat entries) (parts e.seat) own
    in record {
      kept = k ∷ below.kept;
      entries_are = ap (λ (x : List ShardEntry). e ∷ x) below.entries_are;
      seats = λ w. seat_step k d below.kept parts w (eqb e.seat w) refl
          (λ same. subst (λ (v : ℕ). (note_of k ∷ tail (parts v)) ≡ parts v) same first) (below.seats w);
    }

-- Workers are made one by one, and taken apart one by one.
use Rattle.std.proofs.Common.{◌≡◌, ℕ, zero, suc, ◌+◌, ◌<◌, List, [], ◌∷◌, ◌++◌, length, map, get_or, min, All}
use Rattle.std.proofs.Common.{Some, refl, sym, ap, ◌∙◌, subst, arith, length-append, map-id}
use Rattle.std.proofs.Common.{⊎_elim, inl, inr}
use Rattle.std.specs.Prelude.{slice_get, Vec}
use Rattle.std.specs.List.{zip}
use Rattle.std.specs.Option.{option_map}
use Rattle.std.specs.declared.alloc.Global.{Global}
use Rattle.std.proofs.lemmas.List.{map-append}
use Rattle.std.proofs.lemmas.Option.{same_Some, slice_get_within, slice_get-get_or, slice_get-map, get_or_from_slice_get}
use Rattle.std.proofs.lemmas.Slice.Zip.{get_or-zip, length-zip}
use mathlib.Core.List.{IsPrefix}
use Rattle.bm_rows.specs.Rows.{items_of}
use Rattle.bm_rows.proofs.Places.{last_cases}
use Rattle.bm_core.specs.declared.events.Event.{Event}
use Rattle.bm_publish.specs.Posts.{Posted}
use Rattle.bm_server.specs.Seats.{Seated}
use Rattle.bm_worker.specs.declared.worker.MuxWorker.{MuxWorker}
use Rattle.bm_world.specs.Inside.RunStates.{rows_of, IsNewWorker, WereShown}

-- A LOOK AND A ROW

module _ {X Y : Type 0} where
  -- both parts of the pair at a place
  pub parts_at : (xs : List X) (ys : List Y) (n : ℕ) (x : X) (y : Y)
      → (n < length (zip xs ys)) × ((x, y) ≡ get_or (zip xs ys) n (x, y))
      → (slice_get xs n ≡ Some x) × (slice_get ys n ≡ Some y)
  parts_at xs ys n x y at =
      let long = length-zip xs ys
      in let first : n < length xs = omega (arith, long, at.0)
      in let second : n < length ys = omega (arith, long, at.0)
      in let both = sym (at.1 ∙ get_or-zip xs ys n (x, y) first second)
      in (
        slice_get-get_or xs n x first ∙ ap (λ (p : X × Y). Some p.0) both,
        slice_get-get_or ys n y second ∙ ap (λ (p : X × Y). Some p.1) both,
      )

  pair_at : (xs : List X) (ys : List Y) (n : ℕ) (x : X) (y : Y) → slice_get xs n ≡ Some x → slice_get ys n ≡ Some y
      → slice_get (zip xs ys) n ≡ Some (x, y)
  pair_at [] ys n x y a b = absurd (cc)
  pair_at (z ∷ xs) [] n x y a b = absurd (cc)
  pair_at (z ∷ xs) (t ∷ ys) zero x y a b = λ j. Some (same_Some z x a j, same_Some t y b j)
  pair_at (z ∷ xs) (t ∷ ys) (suc n) x y a b = pair_at xs ys n x y a b

-- a look and a row of seats
abbrev pub Pair : Type 0
Pair = Posted × Vec (List Seated) Global

-- the row whose seats stand at a place
row_at : (rows : List (Vec (List Seated) Global)) (m : ℕ) (seats : List (List Seated))
    → slice_get (items_of rows) m ≡ Some seats
    → (row : Vec (List Seated) Global) × (slice_get rows m ≡ Some row) × (row.items ≡ seats)
row_at [] m seats at = absurd (cc)
row_at (row ∷ rows) zero seats at = (row, refl, same_Some row.items seats at)
row_at (row ∷ rows) (suc m) seats at = row_at rows m seats at

pub row_there : (rows : List (Vec (List Seated) Global)) (m : ℕ) (row : Vec (List Seated) Global)
    → slice_get rows m ≡ Some row → slice_get (items_of rows) m ≡ Some row.items
row_there rows m row at =
    slice_get-map (λ (x : Vec (List Seated) Global). x.items) rows m
    ∙ ap (option_map (λ (x : Vec (List Seated) Global). x.items)) at

-- MADE

-- a worker is made of each of these pairs
pub record AreMade (pairs : List Pair) (workers : List MuxWorker) : Type 0 where
  pub count : length workers ≡ length pairs
  pub each : (m : ℕ) (p : Pair) (w : MuxWorker) → slice_get pairs m ≡ Some p → slice_get workers m ≡ Some w
      → IsNewWorker p.0 p.1.items m w

pub none_made : (workers : List MuxWorker) → workers ≡ [] → AreMade [] workers
none_made workers none = record {
  count = ap (λ (l : List MuxWorker). length l) none;
  each = λ m p w pair here. absurd (cc);
}

pub one_made : (pairs : List Pair) (workers now : List MuxWorker) (p : Pair) (w : MuxWorker) → now ≡ workers ++ w ∷ []
    → IsNewWorker p.0 p.1.items (length pairs) w → AreMade pairs workers → AreMade (pairs ++ p ∷ []) now
one_made pairs workers now p w is new made = record {
  count =
      let all = ap (λ (l : List MuxWorker). length l) is
      in omega (arith, all, made.count, length-append workers (w ∷ []), length-append pairs (p ∷ []));
  each = λ m q v pair here.
      let worker = last_cases workers w v m (ap (λ (l : List MuxWorker). slice_get l m) (sym is) ∙ here)
      in elim (last_cases pairs p q m pair) [
        | inl old ↦
            let low = slice_get_within pairs m q old
            in elim worker [
              | inl before ↦ made.each m q v old before
              | inr last ↦ absurd (omega (arith, low, last.0, made.count))
            ]
        | inr end ↦ elim worker [
          | inl before ↦
              let low = slice_get_within workers m v before in absurd (omega (arith, low, end.0, made.count))
          | inr last ↦
              subst (λ (x : MuxWorker). IsNewWorker q.0 q.1.items m x) last.1
              (subst (λ (x : Pair). IsNewWorker x.0 x.1.items m w) end.1
              (subst (λ (k : ℕ). IsNewWorker p.0 p.1.items k w) (sym end.0) new))
        ]
      ];
}

-- a worker is made of each look and its row
pub record AreAllMade (looks : List Posted) (rows : List (Vec (List Seated) Global)) (workers : List MuxWorker)
    : Type 0 where
  pub count : length workers ≡ length rows
  pub each : (m : ℕ) (look : Posted) (seats : List (List Seated)) (w : MuxWorker) → slice_get looks m ≡ Some look
      → slice_get (items_of rows) m ≡ Some seats → slice_get workers m ≡ Some w → IsNewWorker look seats m w

pub all_made : (looks : List Posted) (rows : List (Vec (List Seated) Global)) (pairs : List Pair)
    (workers : List MuxWorker) → length looks ≡ length rows → map (λ (p : Pair). p) pairs ≡ zip looks rows
    → AreMade pairs workers → AreAllMade looks rows workers
all_made looks rows pairs workers long all made =
    let same : pairs ≡ zip looks rows = sym (map-id pairs) ∙ all
    in record {
      count =
          let count = ap (λ (l : List Pair). length l) same
          in omega (arith, made.count, count, long, length-zip looks rows);
      each = λ m look seats w a b here.
          let row = row_at rows m seats b
          in subst (λ (x : List (List Seated)). IsNewWorker look x m w) row.2
          (made.each m (look, row.0) w
          (ap (λ (l : List Pair). slice_get l m) same ∙ pair_at looks rows m look row.0 a row.1) here);
    }

-- TAKEN APART

-- these workers are taken apart
pub record AreParted (posted : Posted) (log : List Event) (leader : List (List Seated)) (done : List MuxWorker)
    (logs : List (List Event)) (rows : List (List (List Seated))) : Type 0 where
  pub logs_are : logs ≡ log ∷ map (λ (w : MuxWorker). w.mux.log) done
  pub rows_are : rows ≡ rows_of leader done
  pub shown : WereShown posted done

pub none_parted : (posted : Posted) (log : List Event) (leader : List (List Seated)) (logs : List (List Event))
    (rows : List (List (List Seated))) → logs ≡ log ∷ [] → rows ≡ leader ∷ []
    → AreParted posted log leader [] logs rows
none_parted posted log leader logs rows a b = record {
  logs_are = a;
  rows_are = b;
  shown = λ m w here. absurd (cc);
}

pub one_parted : (posted : Posted) (log : List Event) (leader : List (List Seated)) (done : List MuxWorker)
    (w : MuxWorker) (logs logs' : List (List Event)) (rows rows' : List (List (List Seated))) (own : List Event)
    (seats : List (List Seated)) → own ≡ w.mux.log → seats ≡ w.caller.seats
    → logs' ≡ logs ++ own ∷ [] → rows' ≡ rows ++ seats ∷ [] → IsPrefix w.mux.seen.clocks posted.clocks
    → AreParted posted log leader done logs rows → AreParted posted log leader (done ++ w ∷ []) logs' rows'
one_parted posted log leader done w logs logs' rows rows' own seats own_is seats_are a b shown parted = record {
  logs_are = a ∙ ap (λ (l : List (List Event)). l ++ own ∷ []) parted.logs_are
      ∙ ap (λ (x : List Event). (log ∷ map (λ (y : MuxWorker). y.mux.log) done) ++ x ∷ []) own_is
      ∙ ap (λ (l : List (List Event)). log ∷ l) (sym (map-append (λ (y : MuxWorker). y.mux.log) done (w ∷ [])));
  rows_are = b ∙ ap (λ (l : List (List (List Seated))). l ++ seats ∷ []) parted.rows_are
      ∙ ap (λ (x : List (List Seated)). rows_of leader done ++ x ∷ []) seats_are
      ∙ ap (λ (l : List (List (List Seated))). leader ∷ l)
      (sym (map-append (λ (y : MuxWorker). y.caller.seats) done (w ∷ [])));
  shown = λ m y here. ⊎_elim (λ old. parted.shown m y old)
      (λ last. subst (λ (z : MuxWorker). IsPrefix z.mux.seen.clocks posted.clocks) last.1 shown)
      (last_cases done w y m here);
}

pub all_at : {X : Type 0} (P : X → Type 0) (xs : List X) (i : ℕ) (x : X) → slice_get xs i ≡ Some x → All P xs → P x
all_at P xs i x here all =
    subst P (get_or_from_slice_get xs i x x here) (all i x (slice_get_within xs i x here))

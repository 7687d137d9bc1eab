-- Items read one after the other, as a loop does.
use Rattle.std.proofs.Common.{◌≡◌, ℕ, ◌+◌, ◌<◌, ◌≤◌, Bool, true, false, ◌&&◌, nat_le, List, [], ◌∷◌, ◌++◌, length}
use Rattle.std.proofs.Common.{get_or, drop, Option, Some, None, Result, Ok, Err, refl, sym, ap, ◌∙◌, append_assoc}
use Rattle.std.proofs.Common.{arith, cond, length-append}
use Rattle.std.proofs.lemmas.List.{append-nil, drop_all, drop_more}
use Rattle.std.proofs.lemmas.Option.{get_or_from_slice_get}
use Rattle.std.specs.List.{slice_get}
use Rattle.std.specs.String.{string_bytes}
use Rattle.toml.specs.declared.value.Value.{Value}
use Rattle.toml.specs.Data.{Data, Items, item, as_array, as_table, Members}
use Rattle.toml.specs.View.{items_view, members_view, view}
use Rattle.toml.proofs.Views.{Entry, items_view-drop}
use Rattle.bm_base.specs.declared.ids.ServerId.{ServerId}
use Rattle.bm_script.specs.declared.fault.ScriptFault.{ScriptFault}
use Rattle.bm_script.specs.declared.fault.Place.TheVariants.{Top}
use Rattle.bm_script.specs.declared.key.Key.{Key}
use Rattle.bm_script.specs.declared.key.Key.TheVariants as key
use Rattle.bm_script.specs.Commands.{Progress, after_command, after_commands, row_of, rows_from}
use Rattle.bm_script.specs.declared.fault.ScriptFault.TheVariants.{BadValue}
use Rattle.bm_script.specs.Faults.{◌>>=◌}
use Rattle.bm_script.specs.Keys.{first_unknown, is_key}
use Rattle.bm_script.specs.Values as values
use Rattle.bm_table.specs.declared.setting.FaultRow.{FaultRow}
use Rattle.bm_table.specs.Settings.{RiseFrom}

-- COUNTS

pub count-items_view : (vs : List Value) → values.count (items_view vs) ≡ length vs
count-items_view [] = refl
count-items_view (v ∷ vs) = omega (arith, count-items_view vs)

pub items_from-fits : (low high : ℕ) (d : Data) (vs : List Value) (fits : Bool) → Some (items_view vs) ≡ as_array d
    → fits ≡ (nat_le low (length vs) && nat_le (length vs) high)
    → values.items_from low high d ≡ cond fits (Some (items_view vs)) None
items_from-fits low high d vs fits found is = rw (← found, count-items_view vs, ← is) refl

-- LISTS OF VALUES

abbrev pub with_front : {A : Type 0} → List A → Option (List A) → Option (List A)
with_front front None = None
with_front front (Some xs) = Some (front ++ xs)

-- a value before the rest
abbrev pub then_rest : {A : Type 0} → Option A → Option (List A) → Option (List A)
then_rest None rest = None
then_rest (Some x) None = None
then_rest (Some x) (Some xs) = Some (x ∷ xs)

module _ {A : Type 0} where
  regroup : (front : List A) (x : A) (rest : Option (List A))
      → with_front front (then_rest (Some x) rest) ≡ with_front (front ++ x ∷ []) rest
  regroup front x None = refl
  regroup front x (Some xs) = ap (λ (ys : List A). Some ys) (simp append_assoc)

  each-item : (read : Data → Option A) (d : Data) (items : Items)
      → values.each read (item d items) ≡ then_rest (read d) (values.each read items)
  each-item read d items = split_read (read d) (values.each read items) where
    split_read : (x : Option A) (rest : Option (List A))
        → values.◌>>=◌ x (λ y. values.◌>>=◌ rest (λ ys. Some (y ∷ ys))) ≡ then_rest x rest
    split_read None rest = refl
    split_read (Some x) None = refl
    split_read (Some x) (Some xs) = refl

  each-turn : (read : Data → Option A) (vs : List Value) (i : ℕ) (d : Value) (front : List A) (total : Option (List A))
      (x : Option A) → i < length vs
      → x ≡ read (view (get_or vs i d)) → with_front front (values.each read (items_view (drop i vs))) ≡ total
      → total ≡ with_front front (then_rest x (values.each read (items_view (drop (i + 1) vs))))
  each-turn read vs i d front total x lt is so_far =
      sym so_far
      ∙ rw (items_view-drop vs i d lt, is)
      (ap (with_front front) (each-item read (view (get_or vs i d)) (items_view (drop (i + 1) vs))))

  pub each-more : (read : Data → Option A) (vs : List Value) (i : ℕ) (d : Value) (front : List A)
      (total : Option (List A)) (x : A) → i < length vs
      → Some x ≡ read (view (get_or vs i d)) → with_front front (values.each read (items_view (drop i vs))) ≡ total
      → with_front (front ++ x ∷ []) (values.each read (items_view (drop (i + 1) vs))) ≡ total
  each-more read vs i d front total x lt is so_far =
      sym (each-turn read vs i d front total (Some x) lt is so_far
      ∙ regroup front x (values.each read (items_view (drop (i + 1) vs))))

  pub each-bad : (read : Data → Option A) (vs : List Value) (i : ℕ) (d : Value) (front : List A)
      (total : Option (List A)) → i < length vs
      → None ≡ read (view (get_or vs i d)) → with_front front (values.each read (items_view (drop i vs))) ≡ total
      → total ≡ None
  each-bad read vs i d front total lt is so_far = each-turn read vs i d front total None lt is so_far

  pub each-end : (read : Data → Option A) (vs : List Value) (i : ℕ) (front : List A) (total : Option (List A))
      → length vs ≤ i
      → with_front front (values.each read (items_view (drop i vs))) ≡ total → total ≡ Some front
  each-end read vs i front total le so_far =
      sym so_far ∙ rw (drop_all i vs le) (ap (λ (xs : List A). Some xs) (append-nil front))

-- RISING SERVERS

abbrev pub server_at : ℕ → Option ServerId
server_at n = Some (record { 0 = n })

rising-turn : (low : ℕ) (vs : List Value) (i : ℕ) (d : Value) (front : List ServerId) (total : Option (List ServerId))
    (n : ℕ) → i < length vs
    → Some n ≡ values.number low 1024 (view (get_or vs i d))
    → with_front front (values.rising low (items_view (drop i vs))) ≡ total
    → total ≡ with_front front (then_rest (server_at n) (values.rising (n + 1) (items_view (drop (i + 1) vs))))
rising-turn low vs i d front total n lt is so_far =
    sym so_far
    ∙ rw (items_view-drop vs i d lt, ← is)
    (ap (with_front front) (split_rest (values.rising (n + 1) (items_view (drop (i + 1) vs))))) where
      split_rest : (rest : Option (List ServerId))
          → values.◌>>=◌ rest (λ ys. Some (record { 0 = n } ∷ ys)) ≡ then_rest (server_at n) rest
      split_rest None = refl
      split_rest (Some xs) = refl

pub rising-more : (low : ℕ) (vs : List Value) (i : ℕ) (d : Value) (front : List ServerId)
    (total : Option (List ServerId)) (n : ℕ) → i < length vs
    → Some n ≡ values.number low 1024 (view (get_or vs i d))
    → with_front front (values.rising low (items_view (drop i vs))) ≡ total
    → with_front (front ++ record { 0 = n } ∷ []) (values.rising (n + 1) (items_view (drop (i + 1) vs))) ≡ total
rising-more low vs i d front total n lt is so_far =
    sym (rising-turn low vs i d front total n lt is so_far
    ∙ regroup front (record { 0 = n }) (values.rising (n + 1) (items_view (drop (i + 1) vs))))

pub rising-bad : (low : ℕ) (vs : List Value) (i : ℕ) (d : Value) (front : List ServerId)
    (total : Option (List ServerId)) → i < length vs
    → None ≡ values.number low 1024 (view (get_or vs i d))
    → with_front front (values.rising low (items_view (drop i vs))) ≡ total → total ≡ None
rising-bad low vs i d front total lt is so_far = sym so_far ∙ rw (items_view-drop vs i d lt, ← is) refl

pub rising-end : (low : ℕ) (vs : List Value) (i : ℕ) (front : List ServerId) (total : Option (List ServerId))
    → length vs ≤ i
    → with_front front (values.rising low (items_view (drop i vs))) ≡ total → total ≡ Some front
rising-end low vs i front total le so_far =
    sym so_far ∙ rw (drop_all i vs le) (ap (λ (xs : List ServerId). Some xs) (append-nil front))

-- TABLES

pub tables-more : (vs : List Value) (i : ℕ) (d : Value) (total : Bool) → i < length vs
    → true ≡ values.is_table (view (get_or vs i d))
    → values.are_tables (items_view (drop i vs)) ≡ total → values.are_tables (items_view (drop (i + 1) vs)) ≡ total
tables-more vs i d total lt is so_far = rw (← so_far, items_view-drop vs i d lt, ← is) refl

pub tables-bad : (vs : List Value) (i : ℕ) (d : Value) (total : Bool) → i < length vs
    → false ≡ values.is_table (view (get_or vs i d))
    → values.are_tables (items_view (drop i vs)) ≡ total → false ≡ total
tables-bad vs i d total lt is so_far = rw (← so_far, items_view-drop vs i d lt, ← is) refl

pub tables-end : (vs : List Value) (i : ℕ) (total : Bool) → length vs ≤ i
    → values.are_tables (items_view (drop i vs)) ≡ total → true ≡ total
tables-end vs i total le so_far = rw (← so_far, drop_all i vs le) refl

-- KEYS

module _ (version : ℕ) (keys : List Key) (all : List Entry) where
  pub unknown-more : {A : Type 0} (shows : A → Entry) (xs : List A) (x : A)
      → (length xs < length all) × (slice_get all (length xs) ≡ Some (shows x))
      → is_key version keys (string_bytes (shows x).0) ≡ true
      → first_unknown version keys (members_view (drop (length (xs ++ x ∷ [])) all))
      ≡ first_unknown version keys (members_view (drop (length xs) all))
  unknown-more shows xs x at known =
      rw (
        length-append xs (x ∷ []),
        drop_more all (length xs) (shows x) at.0,
        get_or_from_slice_get all (length xs) (shows x) (shows x) at.1,
        known,
      ) refl

  pub unknown-end : (n : ℕ) → n ≡ length all → None ≡ first_unknown version keys (members_view (drop n all))
  unknown-end n is = rw (drop_all n all (omega (arith, is))) refl

-- FAULT ROWS

abbrev pub with_rows : List FaultRow → Result (List FaultRow) ScriptFault → Result (List FaultRow) ScriptFault
with_rows front (Ok rows) = Ok (front ++ rows)
with_rows front (Err fault) = Err fault

regroup_rows : (front : List FaultRow) (row : FaultRow) (rest : Result (List FaultRow) ScriptFault)
    → with_rows front (rest >>= λ rows. Ok (row ∷ rows)) ≡ with_rows (front ++ row ∷ []) rest
regroup_rows front row (Ok rows) = ap (λ (xs : List FaultRow). Ok xs) (simp append_assoc)
regroup_rows front row (Err fault) = refl

pub rows-more : (n : ℕ) (vs : List Value) (i : ℕ) (d : Value) (front : List FaultRow)
    (total : Result (List FaultRow) ScriptFault) (inside : Members) (row : FaultRow) → i < length vs
    → Some inside ≡ as_table (view (get_or vs i d)) → row_of n inside ≡ Ok row
    → with_rows front (rows_from n (items_view (drop i vs))) ≡ total
    → with_rows (front ++ row ∷ []) (rows_from (n + 1) (items_view (drop (i + 1) vs))) ≡ total
rows-more n vs i d front total inside row lt table is so_far =
    sym (sym so_far
    ∙ rw (items_view-drop vs i d lt, ← table, is)
    (regroup_rows front row (rows_from (n + 1) (items_view (drop (i + 1) vs)))))

pub rows-fault : (n : ℕ) (vs : List Value) (i : ℕ) (d : Value) (front : List FaultRow)
    (total : Result (List FaultRow) ScriptFault) (inside : Members) (fault : ScriptFault) → i < length vs
    → Some inside ≡ as_table (view (get_or vs i d)) → row_of n inside ≡ Err fault
    → with_rows front (rows_from n (items_view (drop i vs))) ≡ total → total ≡ Err fault
rows-fault n vs i d front total inside fault lt table is so_far =
    sym so_far ∙ rw (items_view-drop vs i d lt, ← table, is) refl

pub rows-bad : (n : ℕ) (vs : List Value) (i : ℕ) (d : Value) (front : List FaultRow)
    (total : Result (List FaultRow) ScriptFault) → i < length vs
    → None ≡ as_table (view (get_or vs i d)) → with_rows front (rows_from n (items_view (drop i vs))) ≡ total
    → total ≡ Err (BadValue Top key.Fault)
rows-bad n vs i d front total lt table so_far = sym so_far ∙ rw (items_view-drop vs i d lt, ← table) refl

pub rows-end : (n : ℕ) (vs : List Value) (i : ℕ) (front : List FaultRow) (total : Result (List FaultRow) ScriptFault)
    → length vs ≤ i
    → with_rows front (rows_from n (items_view (drop i vs))) ≡ total → total ≡ Ok front
rows-end n vs i front total le so_far =
    sym so_far ∙ rw (drop_all i vs le) (ap (λ (xs : List FaultRow). Ok xs) (append-nil front))

-- COMMANDS

pub commands-more : (p q : Progress) (vs : List Value) (i : ℕ) (d : Value) (total : Result Progress ScriptFault)
    (inside : Members) → i < length vs
    → Some inside ≡ as_table (view (get_or vs i d)) → after_command p inside ≡ Ok q
    → after_commands p (items_view (drop i vs)) ≡ total
    → after_commands q (items_view (drop (i + 1) vs)) ≡ total
commands-more p q vs i d total inside lt table is so_far =
    sym (sym so_far ∙ rw (items_view-drop vs i d lt, ← table, is) refl)

pub commands-fault : (p : Progress) (vs : List Value) (i : ℕ) (d : Value) (total : Result Progress ScriptFault)
    (inside : Members) (fault : ScriptFault) → i < length vs
    → Some inside ≡ as_table (view (get_or vs i d)) → after_command p inside ≡ Err fault
    → after_commands p (items_view (drop i vs)) ≡ total → total ≡ Err fault
commands-fault p vs i d total inside fault lt table is so_far =
    sym so_far ∙ rw (items_view-drop vs i d lt, ← table, is) refl

pub commands-bad : (p : Progress) (vs : List Value) (i : ℕ) (d : Value) (total : Result Progress ScriptFault)
    → i < length vs
    → None ≡ as_table (view (get_or vs i d)) → after_commands p (items_view (drop i vs)) ≡ total
    → total ≡ Err (BadValue Top key.Command)
commands-bad p vs i d total lt table so_far = sym so_far ∙ rw (items_view-drop vs i d lt, ← table) refl

pub commands-end : (p : Progress) (vs : List Value) (i : ℕ) (total : Result Progress ScriptFault) → length vs ≤ i
    → after_commands p (items_view (drop i vs)) ≡ total → total ≡ Ok p
commands-end p vs i total le so_far = sym so_far ∙ rw (drop_all i vs le) refl

pub RiseFrom-lower : (servers : List ServerId) → RiseFrom 1 servers → RiseFrom 0 servers
RiseFrom-lower [] rise = tt
RiseFrom-lower (s ∷ servers) rise = (omega arith, rise.1)

-- The names that the files are asked for, one call after the other.
use Rattle.std.proofs.Common.{◌≡◌, ℕ, zero, suc, ◌+◌, ◌++◌, List, [], ◌∷◌, Option, Some, None, take, length, map}
use Rattle.std.proofs.Common.{Result, Ok, Err, sym, ap, subst, ◌∙◌, refl, append_assoc}
use Rattle.std.proofs.Math.Seq.{take-append-add, take-length}
use Rattle.std.proofs.lemmas.List.{append-nil, map-append}
use Rattle.bm_io.specs.declared.fault.IoFault.{IoFault}
use Rattle.bm_io.specs.declared.fault.IoFault.TheVariants.{Failed, Memory}
use Rattle.bm_io.specs.declared.opening.Opening.{Opening}
use Rattle.bm_io.specs.Names.{Adds, Asks, opening}
use Rattle.bm_cli.specs.Names.{AsksAll, AsksPrefix}
use Rattle.bm_cli.specs.Statuses.{FilesDid}

-- WHAT WAS ADDED

pub adds_nothing : (old : Option (List Opening)) → Adds old old []
adds_nothing None = tt
adds_nothing (Some before) = ap (λ (l : List Opening). Some l) (sym (append-nil before))

adds_then : (old mid new : Option (List Opening)) (these those : List Opening) → Adds old mid these →
    Adds mid new those → Adds old new (these ++ those)
adds_then None mid new these those first second = tt
adds_then (Some before) mid new these those first second =
    let then : Adds (Some (before ++ these)) new those = subst (λ m. Adds m new those) first second in
    then ∙ ap (λ (l : List Opening). Some l) (append_assoc before these those)

-- SEVERAL CALLS

-- the first of two calls, after which this was asked for, and the files had failed this often
abbrev pub first_of : FilesDid → Option (List Opening) → ℕ → FilesDid
first_of files mid kept = record { before = files.before; now = mid; faults = files.faults; later = kept }

-- the second of them
abbrev pub second_of : FilesDid → Option (List Opening) → ℕ → FilesDid
second_of files mid kept = record { before = mid; now = files.now; faults = kept; later = files.later }

-- a first part of some names is a first part of these and more
more_names : (n : ℕ) (names more : List (List ℕ)) → (m : ℕ) × (take n names ≡ take m (names ++ more))
more_names zero names more = (0, refl)
more_names (suc n) [] more = (0, refl)
more_names (suc n) (name ∷ names) more =
    let rest = more_names n names more in
    (suc rest.0, ap (λ (l : List (List ℕ)). name ∷ l) rest.1)

pub asks_more : (held : ℕ) (files : FilesDid) (names more : List (List ℕ)) → AsksPrefix held files names →
    AsksPrefix held files (names ++ more)
asks_more held files names more h =
    let m = more_names h.count names more in
    record { count = m.0; first = subst (AsksAll held files) m.1 h.first }

-- these names are asked for, and then a first part of others, after no failure and with as many
-- sources open
pub asks_then : (held many kept : ℕ) (files : FilesDid) (mid : Option (List Opening)) (names more : List (List ℕ)) →
    AsksAll held (first_of files mid kept) names → many ≡ held → kept ≡ files.faults →
    AsksPrefix many (second_of files mid kept) more →
    AsksPrefix held files (names ++ more)
asks_then held many kept files mid names more first as_many as_often second =
    let at = opening files.faults held in
    let part = take second.count more in
    let added = subst (λ n. Adds mid files.now (map (opening files.faults n) part)) as_many
    (subst (λ n. Adds mid files.now (map (opening n many) part)) as_often second.first) in
    record {
      count = length names + second.count;
      first = subst (Adds files.before files.now)
          (sym (map-append at names part) ∙ ap (map at) (sym (take-append-add names more second.count)))
          (adds_then files.before mid files.now (map at names) (map at part) first added);
    }

-- the same, and then all of others
pub all_then : (held many kept : ℕ) (files : FilesDid) (mid : Option (List Opening)) (names more : List (List ℕ)) →
    AsksAll held (first_of files mid kept) names → many ≡ held → kept ≡ files.faults →
    AsksAll many (second_of files mid kept) more → AsksAll held files (names ++ more)
all_then held many kept files mid names more first as_many as_often second =
    let at = opening files.faults held in
    let added = subst (λ n. Adds mid files.now (map (opening files.faults n) more)) as_many
    (subst (λ n. Adds mid files.now (map (opening n many) more)) as_often second) in
    subst (Adds files.before files.now) (sym (map-append at names more))
    (adds_then files.before mid files.now (map at names) (map at more) first added)

-- ONE CALL

pub asks_all : (held : ℕ) (files : FilesDid) (names : List (List ℕ)) → AsksAll held files names →
    AsksPrefix held files names
asks_all held files names h =
    record { count = length names; first = subst (AsksAll held files) (sym (take-length names)) h }

pub asks_nothing : (held : ℕ) (files : FilesDid) (names : List (List ℕ)) → files.now ≡ files.before →
    AsksPrefix held files names
asks_nothing held files names same =
    record { count = 0; first = subst (λ now. Adds files.before now []) (sym same) (adds_nothing files.before) }

-- one name that was asked for, unless memory was refused
pub asks_one : {T : Type 0} (held : ℕ) (files : FilesDid) (name : List ℕ) (r : Result T IoFault) →
    Asks files.before files.now (opening files.faults held name) r → AsksPrefix held files (name ∷ [])
asks_one held files name (Ok x) asks = asks_all held files (name ∷ []) asks
asks_one held files name (Err Failed) asks = asks_all held files (name ∷ []) asks
asks_one held files name (Err Memory) asks = asks_nothing held files (name ∷ []) asks

-- Rows found by packet and hop.
use Rattle.std.proofs.Common.{◌≡◌, ℕ, ◌+◌, ◌<◌, ◌≤◌, Bool, true, false, cond, List, [], ◌∷◌, ◌++◌, refl, sym, ap, ◌∙◌}
use Rattle.std.proofs.Common.{arith, map, drop, Option, Some, None, length, get_or, ◌*◌, ◌^◌}
use Rattle.std.specs.Prelude.{◌==◌, ◌&&◌, if◌then◌else◌, unwrap_or}
use Rattle.std.specs.BTreeMap.{BTreeMap, get}
use Rattle.std.specs.List.{AllByRecursion}
use Rattle.std.specs.Map.{lookup}
use Rattle.std.proofs.lemmas.List.{at_drop_more}
use Rattle.std.specs.Ordering.{nat_cmp, is_eq}
use Rattle.std.specs.Cmp.{unsigned_tied}
use Rattle.std.proofs.lemmas.Bool.{cond_both}
use Rattle.std.proofs.lemmas.Bool.Decides.{nat_tests}
use Rattle.bm_base.specs.declared.label.Hop.{Hop}
use Rattle.bm_base.specs.declared.label.Hop.TheVariants.{Direct, Chained, Twice}
use Rattle.bm_base.specs.declared.fate.Fate.{Fate}
use Rattle.bm_table.specs.declared.setting.FaultRow.{FaultRow}
use Rattle.bm_table.specs.Settings.{IsFaultRow}
use Rattle.bm_fault.specs.Rows.{plain_fate, same_hop, fate_in}
use Rattle.bm_fault.specs.Inside.Rows.{fate_or, row_fate, found_in}
use Rattle.bm_fault.specs.declared.rows.FaultRows.TheInside.{Inside}
use Rattle.bm_fault.specs.Views.{row_of, rows_of}

fate_found_step : (b : Bool) (fate fates : Fate) (found : Option Fate) → fates ≡ unwrap_or found plain_fate
    → cond b fate fates ≡ unwrap_or (fate_or (cond b (Some fate) None) found) plain_fate
fate_found_step true fate fates found is = refl
fate_found_step false fate fates found is = is

-- what is found, or one copy without delay
pub fate_found : (rows : List FaultRow) (k : ℕ) (hop : Hop)
    → fate_in rows k hop ≡ unwrap_or (found_in rows k hop) plain_fate
fate_found [] k hop = refl
fate_found (row ∷ rows) k hop =
    fate_found_step (row.packet == k && same_hop row.hop hop) row.fate _ _ (fate_found rows k hop)

fate_or_assoc : (a b c : Option Fate) → fate_or (fate_or a b) c ≡ fate_or a (fate_or b c)
fate_or_assoc None b c = refl
fate_or_assoc (Some a) b c = refl

pub found_append : (xs ys : List FaultRow) (k : ℕ) (hop : Hop)
    → found_in (xs ++ ys) k hop ≡ fate_or (found_in xs k hop) (found_in ys k hop)
found_append [] ys k hop = refl
found_append (x ∷ xs) ys k hop =
    ap (λ f. fate_or (row_fate x k hop) f) (found_append xs ys k hop)
    ∙ sym (fate_or_assoc (row_fate x k hop) (found_in xs k hop) (found_in ys k hop))

-- rows of a hop answer by the entries, and say nothing of another hop
found_here : (k : ℕ) (hop : Hop) (es : List (ℕ × Fate)) → same_hop hop hop ≡ true
    → found_in (map (row_of hop) es) k hop ≡ lookup (λ q. is_eq (nat_cmp k q)) es
found_here k hop [] same = refl
found_here k hop (e ∷ es) same = grind (arith, nat_tests, unsigned_tied, found_here k hop es same)

found_elsewhere : (k : ℕ) (hop other : Hop) (es : List (ℕ × Fate)) → same_hop hop other ≡ false
    → found_in (map (row_of hop) es) k other ≡ None
found_elsewhere k hop other [] apart = refl
found_elsewhere k hop other (e ∷ es) apart = grind (arith, nat_tests, found_elsewhere k hop other es apart)

or_none : (a : Option Fate) → fate_or a None ≡ a
or_none None = refl
or_none (Some a) = refl

-- the fates of a hop
abbrev pub fates_of : Inside → Hop → BTreeMap ℕ Fate
fates_of r Direct = r.direct
fates_of r Chained = r.chained
fates_of r Twice = r.twice

-- the rows of this hop
abbrev rows_for : Inside → Hop → List FaultRow
rows_for r hop = map (row_of hop) (fates_of r hop).entries

found_each : (r : Inside) (k : ℕ) (hop : Hop)
    → found_in (rows_of r) k hop
    ≡ fate_or (found_in (rows_for r Direct) k hop)
    (fate_or (found_in (rows_for r Chained) k hop) (found_in (rows_for r Twice) k hop))
found_each r k hop =
    found_append (rows_for r Direct) (rows_for r Chained ++ rows_for r Twice) k hop
    ∙ ap (λ f. fate_or (found_in (rows_for r Direct) k hop) f)
    (found_append (rows_for r Chained) (rows_for r Twice) k hop)

found_hop : (r : Inside) (k : ℕ) (hop : Hop) → found_in (rows_of r) k hop ≡ get nat_cmp (fates_of r hop) k
found_hop r k Direct =
    found_each r k Direct
    ∙ rw (
      found_elsewhere k Chained Direct r.chained.entries refl,
      found_elsewhere k Twice Direct r.twice.entries refl,
    ) (or_none (found_in (rows_for r Direct) k Direct) ∙ found_here k Direct r.direct.entries refl)
found_hop r k Chained =
    found_each r k Chained
    ∙ rw (
      found_elsewhere k Direct Chained r.direct.entries refl,
      found_elsewhere k Twice Chained r.twice.entries refl,
    ) (or_none (found_in (rows_for r Chained) k Chained) ∙ found_here k Chained r.chained.entries refl)
found_hop r k Twice =
    found_each r k Twice
    ∙ rw (
      found_elsewhere k Direct Twice r.direct.entries refl,
      found_elsewhere k Chained Twice r.chained.entries refl,
    ) (found_here k Twice r.twice.entries refl)

-- the fate of a hop is what its entries say
pub fate_hop : (r : Inside) (rows : List FaultRow) (k : ℕ) (hop : Hop) → rows_of r ≡ rows
    → unwrap_or (get nat_cmp (fates_of r hop) k) plain_fate ≡ fate_in rows k hop
fate_hop r rows k hop is =
    ap (λ f. unwrap_or f plain_fate) (sym (found_hop r k hop))
    ∙ (sym (fate_found (rows_of r) k hop) ∙ ap (λ (xs : List FaultRow). fate_in xs k hop) is)

-- what a row says of its own hop, and of the others
row_says : (row : FaultRow) (k : ℕ) (hop : Hop) → same_hop row.hop hop ≡ true
    → row_fate row k hop ≡ (if row.packet == k then Some row.fate else None)
row_says row k hop same = grind (arith, nat_tests, same)

row_silent : (row : FaultRow) (k : ℕ) (hop : Hop) → same_hop row.hop hop ≡ false → row_fate row k hop ≡ None
row_silent row k hop apart = grind (arith, nat_tests, apart)

-- the fate of a row was added to those of its hop
abbrev pub AddsFate : BTreeMap ℕ Fate → BTreeMap ℕ Fate → FaultRow → Type 0
AddsFate old new row =
    (k : ℕ) → get nat_cmp new k ≡ fate_or (get nat_cmp old k) (if row.packet == k then Some row.fate else None)

-- a row was added: it says what nothing said before
abbrev pub Adds : List FaultRow → List FaultRow → FaultRow → Type 0
Adds old new row = (k : ℕ) (hop : Hop) → found_in new k hop ≡ fate_or (found_in old k hop) (row_fate row k hop)

-- a row was added among the fates of its hop, and those of the others stayed
abbrev pub AddsTo : Inside → Inside → FaultRow → Type 0
AddsTo old new row =
    (hop : Hop) (k : ℕ)
    → get nat_cmp (fates_of new hop) k
    ≡ (if same_hop row.hop hop
    then fate_or (get nat_cmp (fates_of old hop) k) (if row.packet == k then Some row.fate else None)
    else get nat_cmp (fates_of old hop) k)

one_added : (row : FaultRow) (k : ℕ) (hop : Hop) (o : Option Fate) (b : Bool) → same_hop row.hop hop ≡ b
    → (if b then fate_or o (if row.packet == k then Some row.fate else None) else o) ≡ fate_or o (row_fate row k hop)
one_added row k hop o true is = ap (λ f. fate_or o f) (sym (row_says row k hop is))
one_added row k hop o false is = sym (or_none o) ∙ ap (λ f. fate_or o f) (sym (row_silent row k hop is))

pub row_added : (old new : Inside) (rows : List FaultRow) (row : FaultRow) → rows_of old ≡ rows → AddsTo old new row
    → Adds rows (rows_of new) row
row_added old new rows row is adds k hop =
    found_hop new k hop
    ∙ (adds hop k
    ∙ (one_added row k hop (get nat_cmp (fates_of old hop) k) (same_hop row.hop hop) refl
    ∙ ap (λ f. fate_or f (row_fate row k hop))
    (sym (found_hop old k hop) ∙ ap (λ (xs : List FaultRow). found_in xs k hop) is)))

pub added_direct : (r : Inside) (rows : List FaultRow) (new : BTreeMap ℕ Fate) (row : FaultRow) → rows_of r ≡ rows
    → row.hop ≡ Direct → AddsFate r.direct new row → Adds rows (rows_of (record r { direct = new })) row
added_direct r rows new row is own inserted = row_added r (record r { direct = new }) rows row is adds where
  adds : AddsTo r (record r { direct = new }) row
  adds Direct k = rw own (inserted k)
  adds Chained k = rw own refl
  adds Twice k = rw own refl

pub added_chained : (r : Inside) (rows : List FaultRow) (new : BTreeMap ℕ Fate) (row : FaultRow) → rows_of r ≡ rows
    → row.hop ≡ Chained → AddsFate r.chained new row → Adds rows (rows_of (record r { chained = new })) row
added_chained r rows new row is own inserted = row_added r (record r { chained = new }) rows row is adds where
  adds : AddsTo r (record r { chained = new }) row
  adds Direct k = rw own refl
  adds Chained k = rw own (inserted k)
  adds Twice k = rw own refl

pub added_twice : (r : Inside) (rows : List FaultRow) (new : BTreeMap ℕ Fate) (row : FaultRow) → rows_of r ≡ rows
    → row.hop ≡ Twice → AddsFate r.twice new row → Adds rows (rows_of (record r { twice = new })) row
added_twice r rows new row is own inserted = row_added r (record r { twice = new }) rows row is adds where
  adds : AddsTo r (record r { twice = new }) row
  adds Direct k = rw own refl
  adds Chained k = rw own refl
  adds Twice k = rw own (inserted k)

-- WHAT IS KEPT AND WHAT IS LEFT SAY WHAT ALL ROWS SAY

abbrev pub SaysAll : List FaultRow → List FaultRow → List FaultRow → Type 0
SaysAll kept left rows = (k : ℕ) (hop : Hop) → fate_or (found_in kept k hop) (found_in left k hop) ≡ found_in rows k hop

pub says_first : (rows : List FaultRow) → SaysAll [] rows rows
says_first rows k hop = refl

pub says_more : (kept new rows : List FaultRow) (i : ℕ) (d : FaultRow) → i < length rows
    → Adds kept new (get_or rows i d) → SaysAll kept (drop i rows) rows → SaysAll new (drop (i + 1) rows) rows
says_more kept new rows i d below adds says k hop =
    let first : drop i rows ≡ get_or rows i d ∷ drop (i + 1) rows =
    at_drop_more (λ (xs : List FaultRow). xs) rows i d below in
    ap (λ f. fate_or f (found_in (drop (i + 1) rows) k hop)) (adds k hop)
    ∙ (fate_or_assoc (found_in kept k hop) (row_fate (get_or rows i d) k hop) (found_in (drop (i + 1) rows) k hop)
    ∙ (ap (λ (xs : List FaultRow). fate_or (found_in kept k hop) (found_in xs k hop)) (sym first) ∙ says k hop))

pub says_all : (kept rows : List FaultRow) → SaysAll kept [] rows → (k : ℕ) (hop : Hop)
    → fate_in kept k hop ≡ fate_in rows k hop
says_all kept rows says k hop =
    fate_found kept k hop
    ∙ (ap (λ f. unwrap_or f plain_fate) (sym (or_none (found_in kept k hop)) ∙ says k hop)
    ∙ sym (fate_found rows k hop))

-- rows within the limits give fates within them
pub limits : (rows : List FaultRow) → AllByRecursion IsFaultRow rows → (k : ℕ) (hop : Hop)
    → ((fate_in rows k hop).copies ≤ 3) × ((fate_in rows k hop).delay ≤ 60 * 10 ^ 9)
limits [] all k hop = (omega arith, omega arith)
limits (row ∷ rows) all k hop =
    cond_both (row.packet == k && same_hop row.hop hop) row.fate (fate_in rows k hop)
    (λ fate. (fate.copies ≤ 3) × (fate.delay ≤ 60 * 10 ^ 9))
    (λ _. (all.0.copies, all.0.delay)) (λ _. limits rows all.1 k hop)

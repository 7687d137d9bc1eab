-- What the rows of a found subcommand give.
use Rattle.std.proofs.Common.{◌≡◌, ◌∙◌, List, Option, Some, None, ap, option_map}
use Rattle.clap.specs.Words.{Row, Text, first_of}

-- the value of the argument with this name
abbrev pub value_given : Text → Option (Text × List Row) → Option Text
value_given name None = None
value_given name (Some p) = first_of name p.1

none_at : (name : Text) (o : Option (Text × List Row)) (value : Text) → value_given name o ≡ Some value
    → None ≡ option_map (λ (p : Text × List Row). p.1) o → ⊥
none_at name None value given none = cc
none_at name (Some p) value given none = cc

give_at : (name : Text) (o : Option (Text × List Row)) (value : Text) (rows : List Row) → value_given name o ≡ Some value
    → Some rows ≡ option_map (λ (p : Text × List Row). p.1) o → first_of name rows ≡ Some value
give_at name None value rows given some = absurd (cc)
give_at name (Some p) value rows given some =
    let same : rows ≡ p.1 = cc in ap (first_of name) same ∙ given

-- a subcommand was found
pub none_found : (name : Text) {mine o : Option (Text × List Row)} {value : Text} → mine ≡ o
    → value_given name o ≡ Some value → None ≡ option_map (λ (p : Text × List Row). p.1) mine → ⊥
none_found name {mine} {o} {value} is given none = none_at name mine value (ap (value_given name) is ∙ given) none

-- these are its rows
pub rows_give : (name : Text) {mine o : Option (Text × List Row)} {value : Text} {rows : List Row} → mine ≡ o
    → value_given name o ≡ Some value → Some rows ≡ option_map (λ (p : Text × List Row). p.1) mine
    → first_of name rows ≡ Some value
rows_give name {mine} {o} {value} {rows} is given some =
    give_at name mine value rows (ap (value_given name) is ∙ given) some

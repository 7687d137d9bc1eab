-- Rows, and a column at their ends.
use Rattle.std.specs.Prelude.{List, [], ◌∷◌, ◌++◌, map, Vec}
use Rattle.std.specs.declared.alloc.Global.{Global}

-- each row with its item of the column added at the end
abbrev pub glued : {S : Type 0} → List (List S) → List S → List (List S)
glued [] items = []
glued (row ∷ rows) [] = []
glued (row ∷ rows) (item ∷ items) = (row ++ item ∷ []) ∷ glued rows items

-- the items of vectors
abbrev pub items_of : {S : Type 0} → List (Vec S Global) → List (List S)
items_of rows = map (λ row. row.items) rows

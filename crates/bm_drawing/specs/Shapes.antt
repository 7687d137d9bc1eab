-- The elements of SVG 1.1 (W3C, Scalable Vector Graphics) that a drawing is made of.
use Rattle.std.specs.Prelude.{ℕ, List, [], ◌∷◌, ◌++◌, Bool, true, false, codes, decimal}

-- the end of a line of the text
abbrev pub newline : List ℕ
newline = 10 ∷ []

-- a line from one point to another (section 9.5)
unfoldable pub line : ℕ → ℕ → ℕ → ℕ → List ℕ
line x1 y1 x2 y2 =
    codes "<line x1='" ++ decimal x1 ++ codes "' y1='" ++ decimal y1
    ++ codes "' x2='" ++ decimal x2 ++ codes "' y2='" ++ decimal y2 ++ codes "'/>"

-- the beginning of a text at a point (section 10.4)
unfoldable pub text_at : ℕ → ℕ → List ℕ
text_at x y =
    codes "<text x='" ++ decimal x ++ codes "' y='" ++ decimal y ++ codes "' stroke='none'>"

-- words at a point
abbrev pub label : ℕ → ℕ → List ℕ → List ℕ
label x y words = text_at x y ++ words ++ codes "</text>"

-- the beginning of a circle (section 9.3)
unfoldable pub circle : ℕ → ℕ → List ℕ
circle x y = codes "<circle cx='" ++ decimal x ++ codes "' cy='" ++ decimal y ++ codes "'"

-- the mark of a break is a red circle, that of a refusal a hollow one (section 11.3)
unfoldable pub mark : Bool → ℕ → ℕ → List ℕ
mark true x y = circle x y ++ codes " r='4' fill='#e0001b' stroke='#ffffff' stroke-width='1'/>"
mark false x y = circle x y ++ codes " r='3' fill='#ffffff' stroke='#e0001b' stroke-width='2'/>"

-- an arrow to the right, from a point (section 8.3)
unfoldable pub arrow : ℕ → ℕ → List ℕ
arrow x y =
    codes "<path d='M" ++ decimal x ++ codes " " ++ decimal y ++ codes "v-4l9 4l-9 4z' stroke='none'/>"

-- the beginning of a group whose lines have this colour (section 5.2)
unfoldable pub group : List ℕ → List ℕ
group colour = codes "<g stroke='" ++ colour ++ codes "'>"

-- the same, with arrows of this colour
unfoldable pub coloured : List ℕ → List ℕ
coloured colour = codes "<g stroke='" ++ colour ++ codes "' fill='" ++ colour ++ codes "'>"

-- the beginning of a group of white dashes, which are drawn over lines (section 11.4)
unfoldable pub dashes : List ℕ
dashes =
    codes "<g stroke='#ffffff' stroke-width='2' stroke-dasharray='3 3' stroke-linecap='butt'>"

-- the beginning of a group of black dashes and bold words
unfoldable pub dashed : List ℕ
dashed =
    codes "<g stroke='#000000' stroke-width='1' stroke-dasharray='4 2' font-weight='bold'>"

abbrev pub group_end : List ℕ
group_end = codes "</g>"

-- the end of a group of several lines of text
abbrev pub group_close : List ℕ
group_close = group_end ++ newline

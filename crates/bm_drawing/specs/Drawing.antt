-- The drawing of a history's connections over time, an SVG 1.1 text (W3C, Scalable Vector
-- Graphics). A clock is when record 1 was captured, if moments are written in UTC.
use Rattle.std.specs.Prelude.{ℕ, ◌+◌, ◌-◌, ◌*◌, ◌/◌, ◌%◌, max, min, Bool, true, false, ◌&&◌}
use Rattle.std.specs.Prelude.{if◌then◌else◌, nat_lt, nat_le, ◌==◌, List, [], ◌∷◌, ◌++◌}
use Rattle.std.specs.Prelude.{Option, Some, None, is_some, option_map, codes, decimal, length}
use Rattle.std.specs.Prelude.{take, fold, filter, flat_map, count_by}
use Rattle.std.specs.List.{list_any}
use Rattle.std.specs.BTreeSet.{insert_key}
use Rattle.std.specs.Ordering.{nat_cmp}
use Rattle.bm_base.specs.declared.ids.Moment.{Moment}
use Rattle.bm_base.specs.declared.ids.ServerId.{ServerId}
use Rattle.bm_table.specs.Planned.{Planned}
use Rattle.bm_table.specs.Tables.{next_change}
use Rattle.bm_table.specs.declared.plan.Change.{Change}
use Rattle.bm_table.specs.declared.plan.Kind.{Kind}
use Rattle.bm_table.specs.declared.plan.Kind.TheVariants.{Add, Drain, Shift}
use Rattle.bm_core.specs.declared.events.Event.{Event}
use Rattle.bm_core.specs.declared.events.History.{History}
use Rattle.bm_core.specs.declared.events.What.{What}
use Rattle.bm_core.specs.declared.events.What.TheVariants.{Publish}
use Rattle.bm_trace.specs.Words.{endpoint}
use Rattle.bm_connections.specs.declared.connection.Break.{Break}
use Rattle.bm_connections.specs.declared.connection.Connection.{Connection}
use Rattle.bm_connections.specs.declared.connection.Forwarding.{Forwarding}
use Rattle.bm_connections.specs.Connections.{first_of_two}
use Rattle.bm_connections.specs.OpenEnds.{is_left_open}
use Rattle.bm_connections.specs.Text.{end_words, rack_text, server_word, shown_rack}
use Rattle.bm_connections.specs.Times.{time_text}
use Rattle.bm_drawing.specs.declared.changes.Published.{Published}
use Rattle.bm_drawing.specs.declared.choice.Choice.{Choice}
use Rattle.bm_drawing.specs.declared.choice.Part.{Part}
use Rattle.bm_drawing.specs.declared.choice.Part.TheVariants.{Broken, Refused, Forwarded, Across}
use Rattle.bm_drawing.specs.declared.choice.Part.TheVariants.{Untouched}
use Rattle.bm_drawing.specs.declared.lanes.Lanes.{Lanes}
use Rattle.bm_drawing.specs.declared.plot.Plot.{Plot}
use Rattle.bm_drawing.specs.Scales.{x, tick_moments, tick_step, tick_words}
use Rattle.bm_drawing.specs.Shapes.{arrow, coloured, dashed, dashes, group, group_close, group_end}
use Rattle.bm_drawing.specs.Shapes.{label, line, mark, newline}

-- CHANGES OF THE TABLE

-- how many buckets a change moves
abbrev pub moves_of : Option Change → ℕ
moves_of None = 0
moves_of (Some c) = length c.moves

-- a version that was published, when, and what the plan's change to it is for
abbrev pub as_published : Planned → ℕ → Moment → Published
as_published plan version clock = record {
  version = record { 0 = version };
  clock = clock;
  kind = option_map (λ (c : Change). c.kind) (next_change plan (version - 1));
  moves = moves_of (next_change plan (version - 1));
}

abbrev pub published : Planned → Moment → What → List Published
published plan clock (Publish version) = as_published plan version.0 clock ∷ []
published plan clock _ = []

-- each change of the table
abbrev pub changes_in : Planned → List Event → List Published
changes_in plan events = flat_map (λ (e : Event). published plan e.clock e.what) events

-- WHICH CONNECTIONS ARE DRAWN

-- the change comes after the connection's first packet, and not after its last
abbrev pub is_across : Connection → Published → Bool
is_across c p = nat_lt c.first.moment.0 p.clock.0 && nat_le p.clock.0 c.last.moment.0

-- broken; else refused; else forwarded; else open at a change; else touched by no change
abbrev pub part_of : List Published → Connection → Part
part_of cs c =
    if is_some c.broken then Broken
    else if is_some c.refused then Refused
    else if is_some c.forwarded then Forwarded
    else if list_any (is_across c) cs then Across else Untouched

abbrev pub number : Part → ℕ
number Broken = 0
number Refused = 1
number Forwarded = 2
number Across = 3
number Untouched = 4

abbrev pub is_in : List Published → Part → Connection → Bool
is_in cs part c = number (part_of cs c) == number part

-- the connections of a part
abbrev pub those : List Published → Part → List Connection → List Connection
those cs part table = filter (is_in cs part) table

-- all parts but the last, one after another
abbrev pub touched : List Published → List Connection → List Connection
touched cs table =
    those cs Broken table ++ those cs Refused table
    ++ those cs Forwarded table ++ those cs Across table

-- the most connections that are drawn
abbrev pub most_rows : ℕ
most_rows = 180

-- all of them are drawn, those that no change touched last
abbrev pub all_of : List Published → List Connection → Choice
all_of cs table = record {
  rows = touched cs table ++ those cs Untouched table;
  cut = 0;
  folded = 0;
}

-- the first that are touched are drawn; how many more there are, and how many no change touched
abbrev pub first_of : List Published → List Connection → Choice
first_of cs table = record {
  rows = take most_rows (touched cs table);
  cut = length (touched cs table) - most_rows;
  folded = count_by (is_in cs Untouched) table;
}

abbrev pub choice_of : List Published → List Connection → Choice
choice_of cs table = if nat_le (length table) most_rows then all_of cs table else first_of cs table

-- WHAT IS DRAWN

-- the numbers with that of another server, in rising order
abbrev pub with_server : List ℕ → Option ServerId → List ℕ
with_server servers None = servers
with_server servers (Some server) = insert_key nat_cmp servers server.0

-- the numbers of the servers that accepted one of the connections last, in rising order
abbrev pub servers_in : List Connection → List ℕ
servers_in table = fold (λ servers (c : Connection). with_server servers c.server) [] table

-- the packet that broke a connection, or else the one that was refused
abbrev pub break_of : Connection → Option Break
break_of c = first_of_two c.broken c.refused

abbrev pub break_moment : Option Break → ℕ
break_moment None = 0
break_moment (Some b) = b.clock.0

abbrev pub forward_moment : Option Forwarding → ℕ
forward_moment None = 0
forward_moment (Some f) = f.clock.0

-- the last moment of a connection that is drawn
abbrev pub last_moment : Connection → ℕ
last_moment c =
    max (max c.first.moment.0 c.last.moment.0)
    (max (forward_moment c.forwarded) (break_moment (break_of c)))

-- the last moment of all connections and changes
abbrev pub span_of : List Published → List Connection → ℕ
span_of changes table =
    fold (λ span c. max span (last_moment c))
    (fold (λ span (p : Published). max span p.clock.0) 0 changes) table

-- WHERE

-- under the legend, which has eight servers in a row, and four rows at most: the numbers at the axis
abbrev pub top : Plot → ℕ
top p = 72 + 18 * ((min p.servers 25 + 7) / 8)

-- few connections are drawn farther apart
abbrev pub apart : Plot → ℕ
apart p = if nat_lt p.rows 50 then 12 else 6

-- the connection at this place
abbrev pub row : Plot → ℕ → ℕ
row p place = top p + 62 + apart p * place

-- a row that counts connections, if there are some
abbrev pub count_height : ℕ → ℕ
count_height n = if nat_lt 0 n then 16 else 0

abbrev pub bottom : Plot → ℕ
bottom p = row p p.rows + count_height p.cut + count_height p.folded

abbrev pub height : Plot → ℕ
height p = bottom p + 66

-- FRAME

-- the beginning (section 5.1)
unfoldable pub svg_start : List ℕ
svg_start = codes "<svg xmlns='http://www.w3.org/2000/svg' version='1.1'"

-- a width and a height
unfoldable pub size : ℕ → List ℕ
size height = codes " width='1080' height='" ++ decimal height ++ codes "'"

-- which part of the plane is seen (section 7.7)
unfoldable pub view : ℕ → List ℕ
view height = codes " viewBox='0 0 1080 " ++ decimal height ++ codes "'"

-- the font (section 10.10), and a title (5.4)
unfoldable pub heading : List ℕ
heading =
    codes " font-family='sans-serif' font-size='11'>" ++ newline
    ++ codes "<title>connections</title>" ++ newline

-- a white background (section 9.2)
unfoldable pub ground : ℕ → List ℕ
ground height = codes "<rect" ++ size height ++ codes " fill='#ffffff'/>" ++ newline

unfoldable pub frame : ℕ → List ℕ
frame height = svg_start ++ size height ++ view height ++ heading ++ ground height

-- LEGEND

-- twelve colours; none is like that of a break
abbrev pub colour : ℕ → List ℕ
colour n =
    if n % 12 == 0 then codes "#555555" else if n % 12 == 1 then codes "#0072b2"
    else if n % 12 == 2 then codes "#e69f00" else if n % 12 == 3 then codes "#009e73"
    else if n % 12 == 4 then codes "#7b3fa0" else if n % 12 == 5 then codes "#56b4e9"
    else if n % 12 == 6 then codes "#8b5a14" else if n % 12 == 7 then codes "#10205c"
    else if n % 12 == 8 then codes "#8fce00" else if n % 12 == 9 then codes "#00cfcf"
    else if n % 12 == 10 then codes "#f0e020" else codes "#cfaef0"

-- that of a server, or grey
abbrev pub colour_of : Option ServerId → List ℕ
colour_of None = codes "#bbbbbb"
colour_of (Some server) = colour server.0

-- a group of thick lines (section 11.4)
unfoldable pub thick : List ℕ
thick = codes "<g stroke-width='4' stroke-linecap='round'>" ++ newline

-- what lines mean, each as it is drawn below
unfoldable pub key_lines : List ℕ
key_lines =
    codes "<g stroke='#bbbbbb'><line x1='40' y1='20' x2='60' y2='20'/>"
    ++ codes "<text x='68' y='24' stroke='none'>accepted by no server</text></g>" ++ newline
    ++ codes "<g stroke='#555555'><line x1='206' y1='20' x2='236' y2='20'/>"
    ++ codes "<g stroke='#ffffff' stroke-width='2' stroke-dasharray='3 3' stroke-linecap='butt'>"
    ++ codes "<line x1='206' y1='20' x2='236' y2='20'/></g>"
    ++ codes "<text x='244' y='24' stroke='none'>forwarded to the server before</text></g>" ++ newline

-- what marks mean
unfoldable pub key_marks : List ℕ
key_marks =
    codes "<circle cx='424' cy='20' r='4' fill='#e0001b' stroke='#ffffff' stroke-width='1'/>"
    ++ codes "<text x='434' y='24' stroke='none'>broken</text>" ++ newline
    ++ codes "<circle cx='498' cy='20' r='3' fill='#ffffff' stroke='#e0001b' stroke-width='2'/>"
    ++ codes "<text x='508' y='24' stroke='none'>refused</text>" ++ newline
    ++ codes "<g stroke='#000000' stroke-width='1' stroke-dasharray='4 2'>"
    ++ codes "<line x1='584' y1='12' x2='584' y2='28'/>"
    ++ codes "<text x='592' y='24' stroke='none'>change of the table</text></g>" ++ newline

-- the colour of a server, at a point
abbrev pub server_key_at : ℕ → ℕ → ℕ → List ℕ
server_key_at left y server =
    group (colour server) ++ line left y (left + 20) y
    ++ label (left + 28) (y + 4) (codes "server " ++ decimal server) ++ group_end ++ newline

-- where the key of this place is
abbrev pub key_left : ℕ → ℕ
key_left place = 40 + 125 * (place % 8)

abbrev pub key_row : ℕ → ℕ
key_row place = 38 + 18 * (place / 8)

-- at its place in the legend
abbrev pub server_key : ℕ → ℕ → List ℕ
server_key place server = server_key_at (key_left place) (key_row place) server

-- the colours of servers, from this place on
abbrev pub server_keys : ℕ → List ℕ → List ℕ
server_keys place [] = []
server_keys place (server ∷ servers) =
    server_key place server ++ server_keys (place + 1) servers

-- how many more servers there are, if there are more than 24
unfoldable pub more_servers : ℕ → List ℕ
more_servers n =
    if nat_le n 24 then []
    else label 40 96 (codes "and " ++ decimal (n - 24) ++ codes " more servers") ++ newline

unfoldable pub legend : List ℕ → List ℕ
legend servers =
    thick ++ key_lines ++ key_marks ++ server_keys 0 (take 24 servers)
    ++ more_servers (length servers) ++ group_close

-- AXIS

-- what is written at the axis
abbrev pub axis_words : Option ℕ → List ℕ
axis_words None = codes "seconds after record 1"
axis_words (Some began) = codes "UTC; record 1 at " ++ time_text (Some began) 0

unfoldable pub axis_label : Plot → List ℕ
axis_label p = label 40 (top p - 18) (axis_words p.clock.0) ++ newline

-- a moment at a point
unfoldable pub moment_label : Option ℕ → ℕ → ℕ → ℕ → ℕ → List ℕ
moment_label clock left y step moment = label left y (tick_words clock step moment)

-- a line through the drawing at a moment, with the moment at both ends
abbrev pub tick : Plot → ℕ → List ℕ
tick p moment =
    group (codes "#dddddd") ++ line (x p.span moment) (top p + 6) (x p.span moment) (bottom p + 6)
    ++ moment_label p.clock.0 (x p.span moment) (top p) (tick_step p.span) moment
    ++ moment_label p.clock.0 (x p.span moment) (bottom p + 18) (tick_step p.span) moment
    ++ group_end ++ newline

abbrev pub axis : Plot → List ℕ
axis p = flat_map (tick p) (tick_moments p.clock.0 p.span)

-- CHANGES

-- what a change is for
unfoldable pub kind_words : Option Kind → List ℕ
kind_words None = codes "change"
kind_words (Some (Add server)) = codes "add " ++ decimal server.0
kind_words (Some (Drain server)) = codes "drain " ++ decimal server.0
kind_words (Some Shift) = codes "move"

-- the version that a change makes, and when
unfoldable pub change_words : Option ℕ → Published → List ℕ
change_words clock c =
    codes "change " ++ decimal c.version.0 ++ codes " at " ++ time_text clock c.clock.0

-- what it is for, and how many of the buckets it moves
unfoldable pub moves_words : ℕ → Published → List ℕ
moves_words buckets c =
    codes " " ++ kind_words c.kind ++ codes " buckets " ++ decimal c.moves
    ++ codes " of " ++ decimal buckets

-- the title of a change (section 5.4)
unfoldable pub change_title : Plot → Published → List ℕ
change_title p c =
    codes "<title>" ++ change_words p.clock.0 c ++ moves_words p.buckets c ++ codes "</title>"

-- the first of three lanes that is free at a place, or 3
abbrev pub lane : Lanes → ℕ → ℕ
lane free at =
    if nat_le free.first at then 0
    else if nat_le free.second at then 1
    else if nat_le free.third at then 2 else 3

-- the lanes with the words of a change at this place, which take 64 units
abbrev pub after : Lanes → ℕ → Lanes
after free at =
    if nat_le free.first at then record free { first = at + 64 }
    else if nat_le free.second at then record free { second = at + 64 }
    else if nat_le free.third at then record free { third = at + 64 } else free

abbrev pub all_free : Lanes
all_free = record { first = 0; second = 0; third = 0 }

-- the words in a lane above the connections and in one below, or nowhere
unfoldable pub change_labels : Plot → ℕ → ℕ → Option Kind → List ℕ
change_labels p at lane kind =
    if nat_lt lane 3
    then label at (top p + 44 - 12 * lane) (kind_words kind)
    ++ label at (bottom p + 34 + 12 * lane) (kind_words kind)
    else []

-- a line through the drawing at a place, with its title and its words
abbrev pub change_at : Plot → ℕ → ℕ → Published → List ℕ
change_at p at lane c =
    dashed ++ change_title p c ++ line at (top p + 48) at (bottom p)
    ++ change_labels p at lane c.kind ++ group_end ++ newline

-- a change, at its clock
abbrev pub change : Plot → Lanes → Published → List ℕ
change p free c = change_at p (x p.span c.clock.0) (lane free (x p.span c.clock.0)) c

-- changes, with the words for which there is room
abbrev pub changes : Plot → Lanes → List Published → List ℕ
changes p free [] = []
changes p free (c ∷ cs) = change p free c ++ changes p (after free (x p.span c.clock.0)) cs

-- CONNECTIONS

-- the client, the service, and the server that accepted it last with its rack
unfoldable pub who : ℕ → Connection → List ℕ
who racks c =
    codes "client " ++ endpoint c.flow.src c.flow.sport
    ++ codes " service " ++ endpoint c.flow.dst c.flow.dport
    ++ codes " server " ++ server_word c.server ++ rack_text (shown_rack racks c.server)

-- the moments of its first and last packets
unfoldable pub when : Option ℕ → Connection → List ℕ
when clock c =
    codes " opened " ++ time_text clock c.first.moment.0
    ++ codes " last " ++ time_text clock c.last.moment.0

-- since when and until when its packets were forwarded
unfoldable pub forwarded_words : Option ℕ → Option Forwarding → List ℕ
forwarded_words clock None = []
forwarded_words clock (Some f) =
    codes " forwarded from " ++ time_text clock (f.clock.0 - f.wait)
    ++ codes " to " ++ time_text clock f.clock.0

-- when it broke, or was refused
unfoldable pub at_words : Option ℕ → Option Break → List ℕ
at_words clock None = []
at_words clock (Some b) = codes " at " ++ time_text clock b.clock.0

-- the title of a connection (section 5.4)
unfoldable pub title : Plot → Connection → List ℕ
title p c =
    codes "<title>" ++ who p.racks c ++ when p.clock.0 c ++ forwarded_words p.clock.0 c.forwarded
    ++ end_words c.broken c.refused c.server ++ at_words p.clock.0 (break_of c) ++ codes "</title>"

-- dashes from the move to the last packet that was forwarded
unfoldable pub forwarded_line : Plot → ℕ → ℕ → Option Forwarding → List ℕ
forwarded_line p y opened None = []
forwarded_line p y opened (Some f) =
    dashes ++ line (x p.span (max opened (f.clock.0 - f.wait))) y (x p.span f.clock.0) y ++ group_end

-- an arrow, if the connection may go on
unfoldable pub open_mark : Plot → ℕ → Bool → ℕ → List ℕ
open_mark p y true last = arrow (x p.span last) y
open_mark p y false last = []

-- the mark of what broke the connection, or of what refused it, at its clock
unfoldable pub break_mark : Plot → ℕ → Option Break → Option Break → List ℕ
break_mark p y (Some b) refused = mark true (x p.span b.clock.0) y
break_mark p y None (Some b) = mark false (x p.span b.clock.0) y
break_mark p y None None = []

-- what lies over the line of a connection
abbrev pub over : Plot → ℕ → Connection → List ℕ
over p y c =
    forwarded_line p y c.first.moment.0 c.forwarded
    ++ open_mark p y (is_left_open c) c.last.moment.0 ++ break_mark p y c.broken c.refused

-- a line from the first to the last packet, and what lies over it
abbrev pub connection_at : Plot → ℕ → Connection → List ℕ
connection_at p y c =
    coloured (colour_of c.server) ++ title p c
    ++ line (x p.span c.first.moment.0) y (x p.span c.last.moment.0) y
    ++ over p y c ++ group_end ++ newline

-- at its place
abbrev pub connection : Plot → ℕ → Connection → List ℕ
connection p place c = connection_at p (row p place) c

-- connections, from this place on
abbrev pub connections : Plot → ℕ → List Connection → List ℕ
connections p place [] = []
connections p place (c ∷ cs) = connection p place c ++ connections p (place + 1) cs

-- ROWS THAT COUNT

-- a grey row
unfoldable pub band : ℕ → List ℕ
band y = codes "<rect x='40' y='" ++ decimal y ++ codes "' width='1000' height='14' fill='#eeeeee'/>"

-- how many touched connections aren't drawn, if any
unfoldable pub cut_row : ℕ → ℕ → List ℕ
cut_row y n =
    if nat_lt 0 n
    then band y
    ++ label 46 (y + 11)
    (decimal n ++ codes " more connections that were broken, refused, forwarded or open at a change")
    ++ newline
    else []

-- how many connections no change touched, if any that aren't drawn
unfoldable pub folded_row : ℕ → ℕ → List ℕ
folded_row y n =
    if nat_lt 0 n
    then band y ++ label 46 (y + 11) (decimal n ++ codes " connections that no change touched")
    ++ newline
    else []

unfoldable pub counts : Plot → List ℕ
counts p =
    cut_row (row p p.rows) p.cut ++ folded_row (row p p.rows + count_height p.cut) p.folded

-- THE DRAWING

-- the sizes of what is drawn
abbrev pub plot_of : Option ℕ → History → List Published → List Connection → Plot
plot_of clock h cs table = record {
  clock = record { 0 = clock };
  racks = h.stage.script.setting.racks;
  buckets = h.stage.script.plan.buckets;
  span = span_of cs table;
  servers = length (servers_in table);
  rows = length (choice_of cs table).rows;
  cut = (choice_of cs table).cut;
  folded = (choice_of cs table).folded;
}

-- a group of texts centred on their points (section 10.9)
unfoldable pub middle : List ℕ
middle = codes "<g text-anchor='middle'>" ++ newline

-- the axis and the changes
unfoldable pub times : Plot → List Published → List ℕ
times p cs = axis_label p ++ middle ++ axis p ++ changes p all_free cs ++ group_close

-- the connections
unfoldable pub rows : Plot → List Connection → List ℕ
rows p table = thick ++ connections p 0 table ++ counts p ++ group_close

abbrev pub svg_end : List ℕ
svg_end = codes "</svg>" ++ newline

-- the parts, one after another
unfoldable pub parts : Plot → List Published → List ℕ → List Connection → List ℕ
parts p cs servers shown =
    frame (height p) ++ legend servers ++ times p cs ++ rows p shown ++ svg_end

-- of these changes
abbrev pub drawing_of : Option ℕ → History → List Published → List Connection → List ℕ
drawing_of clock h cs table =
    parts (plot_of clock h cs table) cs (servers_in table) (choice_of cs table).rows

abbrev pub drawing : Option ℕ → History → List Connection → List ℕ
drawing clock h table = drawing_of clock h (changes_in h.stage.script.plan h.events) table

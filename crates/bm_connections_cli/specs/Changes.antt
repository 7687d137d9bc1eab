-- What the script changes (docs/FORMATS.md). A clock is when record 1 was captured, if moments are
-- written in UTC.
use Rattle.std.specs.Prelude.{ℕ, suc, nat_lt, ◌&&◌, if◌then◌else◌, List, [], ◌∷◌, ◌++◌, length}
use Rattle.std.specs.Prelude.{Option, Some, None, codes, decimal, flat_map, slice_get}
use Rattle.bm_script.specs.declared.verbs.ChangeVerb.{ChangeVerb}
use Rattle.bm_script.specs.declared.verbs.ChangeVerb.TheVariants as says
use Rattle.bm_table.specs.declared.plan.Change.{Change}
use Rattle.bm_table.specs.declared.plan.Kind.{Kind}
use Rattle.bm_table.specs.declared.plan.Kind.TheVariants.{Add, Drain, Shift}
use Rattle.bm_table.specs.Planned.{Planned}
use Rattle.bm_trace.specs.Words.{spaced}
use Rattle.bm_connections.specs.declared.owned.OwnedCount.{OwnedCount}
use Rattle.bm_connections.specs.Owned.{homeward, owned_below, owners_at}
use Rattle.bm_connections.specs.Times.{time_text}

-- what a change is for
abbrev pub kind_words : Kind → List (List ℕ)
kind_words (Add server) = codes "add" ∷ decimal server.0 ∷ []
kind_words (Drain server) = codes "drain" ∷ decimal server.0 ∷ []
kind_words Shift = codes "move" ∷ []

-- what the command of a change says; without its verb, what the change is for
abbrev pub verb_words : Option ChangeVerb → Kind → List (List ℕ)
verb_words None kind = kind_words kind
verb_words (Some (says.Add server)) kind = codes "add" ∷ decimal server.0 ∷ []
verb_words (Some (says.Drain server)) kind = codes "drain" ∷ decimal server.0 ∷ []
verb_words (Some (says.Move bucket to)) kind = codes "move" ∷ decimal bucket ∷ decimal to.0 ∷ []
verb_words (Some (says.Weight server weight)) kind =
    codes "weight" ∷ decimal server.0 ∷ decimal weight ∷ []

-- how many of the buckets it moves
abbrev pub moved_words : ℕ → Change → List (List ℕ)
moved_words buckets c =
    codes "buckets" ∷ decimal (length c.moves) ∷ codes "of" ∷ decimal buckets ∷ []

-- the change that makes this version of the table: its moment, its command, and its moves
abbrev pub change_text : Option ℕ → ℕ → ℕ → Option ChangeVerb → Change → List ℕ
change_text clock buckets version verb c =
    codes "change"
    ++ spaced ((decimal version ∷ codes "at" ∷ time_text clock c.moment.0 ∷ [])
    ++ verb_words verb c.kind ++ moved_words buckets c)

-- how many moves bring their buckets home, if there is more than one rack and some do
abbrev pub home_text : ℕ → ℕ → List ℕ
home_text racks home =
    if nat_lt 1 racks && nat_lt 0 home then spaced (codes "home" ∷ decimal home ∷ []) else []

-- a server and how many buckets it has
abbrev pub owned_text : OwnedCount → List ℕ
owned_text c = codes " " ++ decimal c.server.0 ++ codes ":" ++ decimal c.buckets

-- the servers that have buckets, and the end of the line
abbrev pub owns_text : List OwnedCount → List ℕ
owns_text counts = codes " owns" ++ flat_map owned_text counts ++ codes "\n"

-- the line of the change that leads from version v to the next; the servers with a number below
-- `servers` are told
abbrev pub change_line : Option ℕ → ℕ → ℕ → Planned → List ChangeVerb → ℕ → Change → List ℕ
change_line clock racks servers plan verbs v c =
    change_text clock plan.buckets (suc v) (slice_get verbs v) c
    ++ home_text racks (homeward racks (owners_at plan v) c.moves)
    ++ owns_text (owned_below servers (owners_at plan (suc v)))

-- a line for each of these changes; the first of them leads from version v
abbrev pub lines_from : Option ℕ → ℕ → ℕ → Planned → List ChangeVerb → ℕ → List Change → List ℕ
lines_from clock racks servers plan verbs v [] = []
lines_from clock racks servers plan verbs v (c ∷ changes) =
    change_line clock racks servers plan verbs v c
    ++ lines_from clock racks servers plan verbs (suc v) changes

-- a line for each change of the plan, with what its command says; the number of a server is at most
-- 1,024
abbrev pub changes_text : Option ℕ → ℕ → Planned → List ChangeVerb → List ℕ
changes_text clock racks plan verbs = lines_from clock racks 1025 plan verbs 0 plan.changes

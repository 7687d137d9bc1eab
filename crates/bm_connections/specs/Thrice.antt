-- Which third changes broke connections whose bucket moved three times, and how much later they
-- must come, computed by looking back through events (docs/DEFINITIONS.md). A past has its newest
-- event first.
use Rattle.std.specs.Prelude.{ℕ, zero, suc, ◌+◌, ◌-◌, if◌then◌else◌, List, [], ◌∷◌, ◌++◌, length}
use Rattle.std.specs.Prelude.{reverse, Option, Some, None}
use Rattle.bm_base.specs.declared.flow.Flow.{Flow}
use Rattle.bm_base.specs.declared.flow.Segment.{Segment}
use Rattle.bm_base.specs.declared.ids.Moment.{Moment}
use Rattle.bm_base.specs.declared.ids.ServerId.{ServerId}
use Rattle.bm_base.specs.declared.label.Label.{Label}
use Rattle.bm_core.specs.declared.events.Cause.TheVariants.{MovedThrice}
use Rattle.bm_core.specs.declared.events.Event.{Event}
use Rattle.bm_core.specs.declared.events.History.{History}
use Rattle.bm_core.specs.declared.events.Stage.{Stage}
use Rattle.bm_core.specs.declared.events.What.{What}
use Rattle.bm_core.specs.declared.events.What.TheVariants.{Arrive}
use Rattle.bm_core.specs.Past.{Accepted, bucket, label_of, owner, segment_of}
use Rattle.bm_table.specs.Planned.{Planned}
use Rattle.bm_table.specs.Tables.{change_moment, moves, next_change}
use Rattle.bm_connections.specs.declared.needs.Need.{Need}
use Rattle.bm_connections.specs.declared.needs.NeedOf.{NeedOf}
use Rattle.bm_connections.specs.declared.thrice.MovedThrice.{MovedThrice as Moved}
use Rattle.bm_connections.specs.Connections.{counted_cause}
use Rattle.bm_connections.specs.Counts.{is_cause}
use Rattle.bm_connections.specs.Leaves.{away_since}
use Rattle.bm_connections.specs.Needed.{longest_need, need_of_change, nth_move}
use Rattle.bm_connections.specs.Seen.{last_seen, records_of}

-- HOW MUCH LATER

-- the number of changes before the third of those that moved the bucket since this one, which it
-- counts itself, if it is among the first v
abbrev pub third_since : Planned → ℕ → Option ℕ → ℕ → Option ℕ
third_since plan b None v = None
third_since plan b (Some first) v = nth_move plan b (moves plan b 0 first + 3) v

-- the same for the change by which the flow's bucket left this server the last time: by the third
-- the server leaves the bucket's entry. There is none where version v gives the bucket to the
-- server, or where it moved only once or twice since it left: the server is in the entry then.
abbrev pub third_move : Stage → Flow → ServerId → ℕ → Option ℕ
third_move stage f s v =
    third_since stage.script.plan (bucket stage f)
    (away_since stage.script.plan (bucket stage f) s v) v

-- how much later the change after the first v must come to be later than the flow's last packet
abbrev pub delay : Stage → Flow → ℕ → ℕ
delay stage f v =
    suc ((last_seen (records_of stage) f).moment.0
    - change_moment (next_change stage.script.plan v))

-- the need of a flow of its third change
abbrev pub need_of_third : Stage → Flow → Moment → Option ℕ → Option NeedOf
need_of_third stage f clock None = None
need_of_third stage f clock (Some v) =
    need_of_change (Some v) (delay stage f v) clock f

-- the same of a packet with this segment, this owner and this label
abbrev pub third_need : Stage → Moment → Option Segment → Option Accepted → Option Label
    → Option NeedOf
third_need stage clock (Some s) (Some a) (Some l) =
    need_of_third stage s.flow clock (third_move stage s.flow a.server l.version.0)
third_need stage clock _ _ _ = None

-- the same of the packet of an arrival
abbrev pub need_of_arrival : Stage → List Event → Moment → What → Option NeedOf
need_of_arrival stage past clock (Arrive k hop server verdict) =
    third_need stage clock (segment_of stage k) (owner stage past k) (label_of stage past k)
need_of_arrival stage past clock _ = None

-- a break that counts has the cause moved-thrice: how much later the third change must come. The
-- cause counts the moves since the Accept, also those before the bucket came home, so such a packet
-- may have no third change.
abbrev pub thrice_need : Stage → List Event → Event → Option NeedOf
thrice_need stage past e =
    if is_cause MovedThrice (counted_cause stage past e)
    then need_of_arrival stage past e.clock e.what else None

-- the longest delay of change n
abbrev pub longest_of_third : Stage → List Event → ℕ → Option Need
longest_of_third stage past n = longest_need (thrice_need stage) n past

-- THE CHANGES

-- the number of the change after these, or 0
abbrev pub change_number : Option ℕ → ℕ
change_number None = 0
change_number (Some v) = suc v

-- the number of the change that moves the bucket this many moves before change n
abbrev pub moved_before : Planned → ℕ → ℕ → ℕ → ℕ
moved_before plan b n back = change_number (nth_move plan b (moves plan b 0 n - back) n)

-- the third change n, with the two before it that moved the bucket of the flow that has the need
abbrev pub third_of : Stage → ℕ → Need → Moved
third_of stage n need = record {
  first = moved_before stage.script.plan (bucket stage need.flow) n 2;
  second = moved_before stage.script.plan (bucket stage need.flow) n 1;
  third = n;
  need = need;
}

abbrev pub as_third : Stage → ℕ → Option Need → List Moved
as_third stage n None = []
as_third stage n (Some need) = third_of stage n need ∷ []

-- those of the first n changes that have a delay
abbrev pub thirds : Stage → List Event → ℕ → List Moved
thirds stage past zero = []
thirds stage past (suc n) =
    thirds stage past n ++ as_third stage (suc n) (longest_of_third stage past (suc n))

-- those of all changes
abbrev pub all_thirds : Stage → List Event → List Moved
all_thirds stage past = thirds stage past (length stage.script.plan.changes)

-- those of a history
abbrev pub moved_thrice : History → List Moved
moved_thrice h = all_thirds h.stage (reverse h.events)

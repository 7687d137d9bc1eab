-- The tag of a copy says what its label says.
use Rattle.std.proofs.Common.{◌≡◌, ℕ, Option, Some, None, refl, subst, option_map}
use Rattle.std.proofs.lemmas.Option.{same_Some}
use Rattle.bm_base.specs.declared.flow.Segment.{Segment}
use Rattle.bm_base.specs.declared.ids.ServerId.{ServerId}
use Rattle.bm_base.specs.declared.label.Label.{Label}
use Rattle.bm_base.specs.declared.label.Hop.{Hop}
use Rattle.bm_base.specs.declared.label.Hop.TheVariants.{Direct, Chained, Twice}
use Rattle.bm_base.specs.declared.label.Tag.{Tag}
use Rattle.bm_base.specs.Labels.{arrives_at, tag_for, tag_of}
use Rattle.bm_core.specs.declared.events.Local.{Local}
use Rattle.bm_core.specs.Verdicts.{onward, verdict_of, verdict_on}

-- for its destination
verdict_for : (local : Local) (timeout clock : ℕ) (l : Label) (hop : Hop) (server : ServerId) (s : Segment)
    → verdict_on local timeout clock (tag_for l hop server) s ≡ verdict_of local timeout clock hop (onward l.entry hop)
    s
verdict_for local timeout clock l Direct server s = refl
verdict_for local timeout clock l Chained server s = refl
verdict_for local timeout clock l Twice server s = refl

by_stop : (local : Local) (timeout clock : ℕ) (l : Label) (hop : Hop) (t : Tag) (s : Segment) (dest : Option ServerId)
    → option_map (tag_for l hop) dest ≡ Some t
    → verdict_on local timeout clock t s ≡ verdict_of local timeout clock hop (onward l.entry hop) s
by_stop local timeout clock l hop t s None is = absurd (cc)
by_stop local timeout clock l hop t s (Some server) is =
    let same : tag_for l hop server ≡ t = same_Some _ _ is
    in subst (λ (u : Tag). verdict_on local timeout clock u s ≡ verdict_of local timeout clock hop (onward l.entry hop)
    s) same (verdict_for local timeout clock l hop server s)

-- the verdict by the tag of a copy is that by its label
pub verdict_by_tag : (local : Local) (timeout clock : ℕ) (l : Label) (hop : Hop) (t : Tag) (s : Segment)
    → tag_of l hop ≡ Some t
    → verdict_on local timeout clock t s ≡ verdict_of local timeout clock hop (onward l.entry hop) s
verdict_by_tag local timeout clock l hop t s is = by_stop local timeout clock l hop t s (arrives_at l.entry hop) is
